-- What solving answers and leaves in both buffers, refusals too: the table that proofs/Cases.antt computes. Every buffer holds nines
-- before. Document 01's starred cases are in claims/specs/cases/Starred.antt. Assumes nothing.
use Rattle.std.specs.Prelude.{ℕ, ◌+◌, List, [], ◌∷◌, ◌++◌, length, replicate}
use Rattle.theory.specs.Answer.{Answer, refused, accepted, on_accepted}
use Rattle.theory.specs.Delay.{Verdict, wins, losing}
use Rattle.reader.specs.cases.Yards.{guess}
use Rattle.solver.specs.Solving.{solve_answer, masks_left, ranks_left}

-- what solving says and leaves
pub record Effect : Type 0 where
  pub answer : Answer Verdict
  pub masks : List ℕ
  pub ranks : List ℕ

-- buffers of so many entries
unfoldable pub effect : List ℕ → ℕ → ℕ → Effect
effect s masks ranks =
    let r = solve_answer s masks ranks in
    record {
      answer = on_accepted r (λ a. accepted a.verdict);
      masks = masks_left s r (replicate masks 9);
      ranks = ranks_left s r (replicate ranks 9);
    }

pub record Case : Type 0 where
  pub sheet : List ℕ
  pub masks_room : ℕ
  pub ranks_room : ℕ
  pub effect : Effect

-- solved, with one entry beyond those owed in the mask buffer and two in the rank buffer
unfoldable pub solved : List ℕ → Verdict → List ℕ → List ℕ → Case
solved s v masks ranks =
    record {
      sheet = s;
      masks_room = length masks + 1;
      ranks_room = length ranks + 2;
      effect = record { answer = accepted v; masks = masks ++ (9 ∷ []); ranks = ranks ++ (9 ∷ 9 ∷ []) };
    }

unfoldable pub unsolved : List ℕ → ℕ → ℕ → ℕ → Case
unsolved s masks ranks n =
    record {
      sheet = s;
      masks_room = masks;
      ranks_room = ranks;
      effect = record { answer = refused n; masks = replicate masks 9; ranks = replicate ranks 9 };
    }

unfoldable pub cases : List Case
cases =
    solved (guess 0 0) wins (1 ∷ 2 ∷ 0 ∷ 0 ∷ []) (0 ∷ 0 ∷ 0 ∷ 0 ∷ [])
    ∷ solved (guess 0 1) (losing 1) (0 ∷ 0 ∷ 0 ∷ 0 ∷ []) (0 ∷ 0 ∷ 2 ∷ 1 ∷ [])
    -- asked at lag 2, which has 8 pairs, losing at 1, which has 4: the other 4 are untouched
    ∷ record {
      sheet = guess 0 2;
      masks_room = 8;
      ranks_room = 8;
      effect =
          record {
            answer = accepted (losing 1);
            masks = 0 ∷ 0 ∷ 0 ∷ 0 ∷ 9 ∷ 9 ∷ 9 ∷ 9 ∷ [];
            ranks = 0 ∷ 0 ∷ 2 ∷ 1 ∷ 9 ∷ 9 ∷ 9 ∷ 9 ∷ [];
          };
    }
    -- lag 7; a buffer too short at the asked lag, though not at the losing one
    ∷ unsolved (guess 0 7) 4 4 3
    ∷ unsolved (guess 0 2) 7 8 8
    ∷ unsolved (guess 0 2) 8 7 8
    ∷ []
