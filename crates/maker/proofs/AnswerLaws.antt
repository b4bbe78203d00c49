-- The contract of making, from the answer of reading, of `check_room` and of what solves and writes. Assumes nothing.
use Prim.Native.Nat.{ℕ}
use mathlib.Core.Path.{◌≡◌, ◌∙◌}
use mathlib.Core.List.{List}
use lib.ListN.{length}
use Rattle.theory.specs.Answer.{Answer, refused, accepted, on_accepted}
use Rattle.std.specs.Prelude.{Result, Ok, Err}
use Rattle.sheet.specs.Refusals.{number_of, answer_of}
use Rattle.sheet.proofs.RefusalLaws.{answer_accepted, answer_refused}
use Rattle.reader.specs.Reading.{read_answer}
use Rattle.sheet.specs.declared.refusal.Refusal.{Refusal}
use Rattle.reader.specs.declared.reading.Layout.{Layout}
use Rattle.solver.specs.Solving.{solve_answer}
use Rattle.maker.specs.Making.{Made, make_answer, if_made, output_after, Measured, measured}
use Rattle.maker.specs.code.Checked.{nodes_at, words_at, room_answer, Ready}
use Rattle.maker.proofs.LayoutLaws.{Small, small}
use Rattle.maker.proofs.RoomLaws.{Says, room_says}
use Rattle.maker.proofs.SolvedLaws.{make_is}

-- the contract for an answer, the number k that it hands on, and what the buffers hold after it; solving leaves M₂ and R₂ in them
abbrev pub Meets : ℕ → Answer Made → Answer Measured → List ℕ → List ℕ → List ℕ → List ℕ → List ℕ → List ℕ → List ℕ → List ℕ → Type 0
Meets k a r M M₂ M' R R₂ R' O O' =
    record { answer : r ≡ measured k a; masks : M' ≡ if_made a M M₂; ranks : R' ≡ if_made a R R₂; output : O' ≡ output_after a O }

-- a refusal alters nothing
pub refuses : (k : ℕ) (a : Answer Made) (n : ℕ) → a ≡ refused n → (M M₂ R R₂ O : List ℕ) → Meets k a (refused n) M M₂ M R R₂ R O O
unfolding measured on_accepted if_made output_after
refuses k a n e M M₂ R R₂ O = record { answer = rw e; masks = rw e; ranks = rw e; output = rw e }

-- where it was accepted, the buffers are as in solving
pub accepts : (k : ℕ) (a : Answer Made) (y : Made) → a ≡ accepted y → (r : Answer Measured) (M M₂ M' R R₂ R' O O' : List ℕ)
    → r ≡ measured k a → M' ≡ M₂ → R' ≡ R₂ → O' ≡ output_after a O → Meets k a r M M₂ M' R R₂ R' O O'
unfolding if_made
accepts k a y e r M M₂ M' R R₂ R' O O' f g h i = record { answer = f; masks = g ∙ rw e; ranks = h ∙ rw e; output = i }

-- y is the reader's answer
module _ (s : List ℕ) (y : Result Layout Refusal) (ey : answer_of y ≡ read_answer s) where
  pub reading_refused : (M R O : ℕ) (x : Refusal) → y ≡ Err x → make_answer s M R O ≡ refused (number_of x)
  unfolding make_answer solve_answer on_accepted
  reading_refused M R O x e = rw (answer_refused y (read_answer s) ey x e)

  module _ (l : Layout) (el : y ≡ Ok l) where
    read_accepted : read_answer s ≡ accepted l
    read_accepted = answer_accepted y (read_answer s) ey l el

    pub read_small : Small l
    read_small = small s l read_accepted

    -- z is what `check_room` answers
    module _ (M R O : ℕ) (z : Result (Unit {0}) Refusal) (ez : answer_of z ≡ room_answer (nodes_at l l.delay) (words_at l) M R O) where
      says : Says s l M R O (room_answer (nodes_at l l.delay) (words_at l) M R O)
      says = room_says s l M R O read_accepted

      pub room_refused : (x : Refusal) → z ≡ Err x → make_answer s M R O ≡ refused (number_of x)
      room_refused x e = says.refuses (number_of x) (answer_refused z _ ez x e)

      pub room_ready : (x : Unit {0}) → z ≡ Ok x → Ready s l M R O
      room_ready x e = says.ready (answer_accepted z _ ez x e)

-- making is accepted where every check has passed
module _ (s : List ℕ) (y : Result Layout Refusal) (ey : answer_of y ≡ read_answer s) (l : Layout) (el : y ≡ Ok l) (M R O : List ℕ)
    (z : Result (Unit {0}) Refusal) (ez : answer_of z ≡ room_answer (nodes_at l l.delay) (words_at l) (length M) (length R) (length O))
    (x : Unit {0}) (e : z ≡ Ok x) where
  pub room_makes : (k : ℕ) (r : Answer Measured) (M₂ M' R₂ R' O' : List ℕ)
      → r ≡ measured k (make_answer s (length M) (length R) (length O)) → M' ≡ M₂ → R' ≡ R₂
      → O' ≡ output_after (make_answer s (length M) (length R) (length O)) O
      → Meets k (make_answer s (length M) (length R) (length O)) r M M₂ M' R R₂ R' O O'
  room_makes k r M₂ M' R₂ R' O' =
      accepts k _ _ (make_is s l M R O (room_ready s y ey l el (length M) (length R) (length O) z ez x e)) r M M₂ M' R R₂ R' O O'
