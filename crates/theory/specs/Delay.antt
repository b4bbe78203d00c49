-- The arena of a game at delay d, good first words and the answer (document 01, "Pairs, rounds and the table"). Assumes nothing.
use Rattle.std.specs.Prelude.{ℕ, suc, ◌+◌, ◌*◌, ◌/◌, ◌%◌, ◌^◌, Bool, true, false, not, cond, List, [], ◌∷◌, map, eqb}
use Rattle.theory.specs.Fold.{both, any_below, first_not, tabulate}
use Rattle.theory.specs.Game.{Target, absent, to, Game}
use Rattle.theory.specs.Strategy.{initial_length}
use Rattle.theory.specs.Rounds.{Arena, final_ranks, kept}

unfoldable pub odd : ℕ → Bool
odd d = eqb (d % 2) 1

-- the number of pending words, of L = d/2 actions; node number = position * words + pending word
unfoldable pub words : Game → ℕ → ℕ
words G d = G.actions ^ (d / 2)

-- the number of first words
unfoldable pub initial_words : Game → ℕ → ℕ
initial_words G d = G.actions ^ initial_length d

-- "For even d the position is own, for odd d yard", by parity (true: odd) and the test for own positions
unfoldable pub on_right : Bool → (ℕ → Bool) → ℕ → Bool
on_right true controller p = not (controller p)
on_right false controller p = controller p

-- a target with a word, as a node
unfoldable pub with_word : ℕ → ℕ → Target → Target
with_word m w absent = absent
with_word m w (to q) = to (q * m + w)

-- odd d: the environment has moved to r, and h is played there
unfoldable pub moved_to : Game → ℕ → ℕ → ℕ → ℕ → Target
moved_to G m h w r = cond (G.safe r) (with_word m w (G.target r h)) absent

-- even d: the oldest action was played with this target, and the environment moves
unfoldable pub played_to : Game → ℕ → ℕ → Target → List Target
played_to G m w absent = absent ∷ []
played_to G m w (to q) = cond (G.safe q) (map (λ r. to (r * m + w)) (G.moves q)) (absent ∷ [])

-- by parity (true: odd), at position p with the joined word j: j / m is the oldest action h, j % m the word without it
unfoldable pub outcomes : Bool → Game → ℕ → ℕ → ℕ → List Target
outcomes true G m p j = map (moved_to G m (j / m) (j % m)) (G.moves p)
outcomes false G m p j = played_to G m (j % m) (G.target p (j / m))

-- "The step, choosing c: join c to the word and let h be the oldest", by parity and the number of words
unfoldable pub step : Bool → Game → ℕ → ℕ → ℕ → List Target
step odd G m k c = outcomes odd G m (k / m) ((k % m) * G.actions + c)

-- the arena by parity and the number of words, as code has it
abbrev pub arena_by : Bool → Game → ℕ → Arena
arena_by odd G m =
    record {
      nodes = G.positions * m;
      actions = G.actions;
      right = λ k. on_right odd G.controller (k / m);
      safe = λ k. G.safe (k / m);
      step = step odd G m;
    }

unfoldable pub arena : Game → ℕ → Arena
arena G d = arena_by (odd d) G (words G d)

unfoldable pub kept_at : (ℕ → Bool) → ℕ → ℕ → Target → Bool
kept_at keeps m w absent = false
kept_at keeps m w (to q) = keeps (q * m + w)

-- by parity: even d, "the start with that word is kept"; odd d, "the start is safe, the first command is permitted there, and
-- the target with the remaining commands is kept". The kept nodes are a parameter, for tables made elsewhere
unfoldable pub good_by : Bool → Game → ℕ → (ℕ → Bool) → ℕ → Bool
good_by true G m keeps v = both (G.safe G.start) (kept_at keeps m (v % m) (G.target G.start (v / m)))
good_by false G m keeps v = keeps (G.start * m + v)

unfoldable pub good_from : Game → ℕ → (ℕ → Bool) → ℕ → Bool
good_from G d keeps v = good_by (odd d) G (words G d) keeps v

-- the good first words once the ranks are known
unfoldable pub good_with : Game → ℕ → List ℕ → ℕ → Bool
good_with G d ranks v = good_from G d (kept (arena G d) ranks) v

-- "Winning at d: some good first word"
unfoldable pub winning : Game → ℕ → Bool
winning G d = let final = final_ranks (arena G d) in any_below (good_with G d final) (initial_words G d)

-- "1 if good, else 0"
unfoldable pub flag_by : (ℕ → Bool) → ℕ → ℕ
flag_by good v = cond (good v) 1 0

-- the W body: "a byte for each first word in base-A order, 1 if good, else 0"
unfoldable pub flags : Game → ℕ → List ℕ
flags G d = let final = final_ranks (arena G d) in tabulate (flag_by (good_with G d final)) 0 (initial_words G d)

-- "winning", or "losing m"
pub data Verdict : Type 0 where
  wins : Verdict
  losing : ℕ → Verdict

-- winning where the asked delay passes the test, else "losing m: m is the least lag with none"
unfoldable pub answer_by : (ℕ → Bool) → ℕ → Verdict
answer_by test d = cond (test d) wins (losing (first_not test (suc d)))

unfoldable pub answer : Game → ℕ → Verdict
answer G d = answer_by (winning G) d
