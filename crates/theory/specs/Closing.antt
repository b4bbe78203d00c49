-- Closing notices (document 02, W-205), for any game, delay and table: "the largest part of that table that the judging rule of W-202
-- allows with those positions unsafe". Assumes nothing.
use Rattle.std.specs.Prelude.{ℕ, ◌^◌, ◌<◌, ◌≡◌, Bool, true, false, not, cond, List, [], ◌∷◌, eqb, length, get_or}
use Rattle.theory.specs.Fold.{both, any_of, tabulate}
use Rattle.theory.specs.Game.{absent, Game}
use Rattle.theory.specs.Rounds.{Arena, spoilt_by, final_ranks, kept, masks}
use Rattle.theory.specs.Delay.{initial_words, arena, good_from, flag_by}
use Rattle.theory.specs.Table.{Table, flagged, bit, allows}

-- the same game with another set of safe positions
abbrev pub with_safe : Game → (ℕ → Bool) → Game
with_safe G safe =
    record {
      positions = G.positions;
      start = G.start;
      actions = G.actions;
      controller = G.controller;
      safe = safe;
      target = G.target;
      moves = G.moves;
    }

-- p stands in the list
unfoldable pub listed : List ℕ → ℕ → Bool
listed ps p = any_of (eqb p) ps

-- p is safe and not shut
unfoldable pub open_in : Game → List ℕ → ℕ → Bool
open_in G ps p = both (G.safe p) (not (listed ps p))

-- "A bay is shut for the day and its positions count as unsafe"
unfoldable pub close : Game → List ℕ → Game
close G ps = with_safe G (open_in G ps)

-- the arena in which only the allowed actions are left: any other has a bad outcome
abbrev pub restrict : Arena → (ℕ → ℕ → Bool) → Arena
restrict E allowed =
    record {
      nodes = E.nodes;
      actions = E.actions;
      right = E.right;
      safe = E.safe;
      step = λ k c. cond (allowed k c) (E.step k c) (absent ∷ []);
    }

-- what the rounds leave of the wanted first words and the allowed actions
unfoldable pub part : Game → ℕ → (ℕ → Bool) → (ℕ → ℕ → Bool) → Table
part G d wanted allowed =
    let E = restrict (arena G d) allowed in
    let final = final_ranks E in
    record {
      flags = tabulate (flag_by (λ v. both (wanted v) (good_from G d (kept E final) v))) 0 (initial_words G d);
      masks = masks E;
    }

-- "the largest part of that table that the judging rule allows": "pairs, commands and first words are only taken away"
unfoldable pub within : Game → ℕ → Table → Table
within G d T = part G d (flagged T) (allows T)

-- the same "with those positions unsafe"
unfoldable pub post : Game → ℕ → List ℕ → Table → Table
post G d ps T = within (close G ps) d T

-- for code, which cuts masks in place: the judging rule for pairs, of masks alone

pub record SizedMasks (E : Arena) (m : List ℕ) : Type 0 where
  pub count : length m ≡ E.nodes
  pub small : (k : ℕ) → get_or m k 0 < 2 ^ E.actions

-- the pairs with a mask have the right side and a safe position, and no action in a mask is spoilt, the others being fallen
pub record StandingMasks (E : Arena) (m : List ℕ) : Type 0 where
  pub right : (k : ℕ) → k < E.nodes → (get_or m k 0 ≡ 0 → ⊥) → E.right k ≡ true
  pub safe : (k : ℕ) → k < E.nodes → (get_or m k 0 ≡ 0 → ⊥) → E.safe k ≡ true
  pub unspoilt : (k c : ℕ) → k < E.nodes → c < E.actions → bit (get_or m k 0) c ≡ true → spoilt_by E (λ j. eqb (get_or m j 0) 0) k c ≡ false

-- m allows nothing that m' does not
abbrev pub BelowMasks : List ℕ → List ℕ → Type 0
BelowMasks m m' = (k c : ℕ) → bit (get_or m k 0) c ≡ true → bit (get_or m' k 0) c ≡ true
