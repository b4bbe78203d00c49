-- Tables of first words and masks, whoever made them, and strategies that keep to one. Assumes nothing.
use Rattle.std.specs.Prelude.{ℕ, ◌+◌, ◌-◌, ◌*◌, ◌/◌, ◌%◌, ◌^◌, ◌<◌, ◌≤◌, ◌≡◌, Bool, true, false, not, List, eqb, length, get_or}
use Rattle.theory.specs.Words.{encode}
use Rattle.theory.specs.Game.{Game}
use Rattle.theory.specs.Play.{Play, last, turns, back}
use Rattle.theory.specs.Strategy.{Strategy, action_of, Consistent}
use Rattle.theory.specs.Rounds.{spoilt_by, masks}
use Rattle.theory.specs.Delay.{odd, words, initial_words, on_right, arena, good_from, flags}

pub record Table : Type 0 where
  pub flags : List ℕ
  pub masks : List ℕ

-- the table that the rounds give
unfoldable pub ours : Game → ℕ → Table
ours G d = record { flags = flags G d; masks = masks (arena G d) }

unfoldable pub flagged : Table → ℕ → Bool
flagged T v = not (eqb (get_or T.flags v 0) 0)

-- the nodes without a mask count as fallen, those with one as kept
unfoldable pub lacks : Table → ℕ → Bool
lacks T k = eqb (get_or T.masks k 0) 0

unfoldable pub has : Table → ℕ → Bool
has T k = not (lacks T k)

-- bit c of a mask
unfoldable pub bit : ℕ → ℕ → Bool
bit m c = eqb ((m / 2 ^ c) % 2) 1

unfoldable pub allows : Table → ℕ → ℕ → Bool
allows T k c = bit (get_or T.masks k 0) c

-- the right sizes and ranges: what refusal 11 leaves of a table sheet
pub record TableFits (G : Game) (d : ℕ) (T : Table) : Type 0 where
  pub flags_length : length T.flags ≡ initial_words G d
  pub flags_small : (v : ℕ) → get_or T.flags v 0 ≤ 1
  pub masks_length : length T.masks ≡ (arena G d).nodes
  pub masks_small : (k : ℕ) → get_or T.masks k 0 < 2 ^ G.actions

-- every flagged word is good and no allowed action spoilt, the nodes with a mask being the kept ones, of the right side and safe
pub record Judged (G : Game) (d : ℕ) (T : Table) : Type 0 where
  pub words : (v : ℕ) → v < initial_words G d → flagged T v ≡ true → good_from G d (has T) v ≡ true
  pub right : (k : ℕ) → k < (arena G d).nodes → has T k ≡ true → (arena G d).right k ≡ true
  pub safe : (k : ℕ) → k < (arena G d).nodes → has T k ≡ true → (arena G d).safe k ≡ true
  pub unspoilt : (k c : ℕ) → k < (arena G d).nodes → c < G.actions → allows T k c ≡ true → spoilt_by (arena G d) (lacks T) k c ≡ false

-- T flags and allows nothing that T' does not
pub record Inside (T T' : Table) : Type 0 where
  pub flags : (v : ℕ) → flagged T v ≡ true → flagged T' v ≡ true
  pub masks : (k c : ℕ) → allows T k c ≡ true → allows T' k c ≡ true

-- the action of the k-th next turn as fixed at the history π; k = d/2 is the one given for π itself
unfoldable pub pending : {A : ℕ} (d : ℕ) → Strategy A d → Play → ℕ → ℕ
pending d σ π k = action_of d σ (turns π + k) (back (2 * (d / 2 - k)) π)

-- "a word of L commands: given, but not yet seen to be played"
unfoldable pub word : {A : ℕ} (d : ℕ) → Strategy A d → Play → ℕ
word {A} d σ π = encode A (pending d σ π) (d / 2)

-- "the pair reached"
unfoldable pub node : (G : Game) {A : ℕ} (d : ℕ) → Strategy A d → Play → ℕ
node G d σ π = last G π * words G d + word d σ π

-- the strategy keeps to the table: its first word is flagged, and each action given on a consistent play is in the node's mask
pub record Obeys (G : Game) {A : ℕ} (d : ℕ) (σ : Strategy A d) (T : Table) : Type 0 where
  pub first : flagged T σ.initial ≡ true
  pub given : (π : Play) → Consistent G d σ π → on_right (odd d) G.controller (last G π) ≡ true
      → allows T (node G d σ π) (σ.given π) ≡ true
