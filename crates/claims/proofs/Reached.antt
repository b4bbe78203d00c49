-- W-201 over bytes (specs/Reached.antt): the number that reading, solving and making carry in every accepted answer. Assumes nothing.
use Prim.Native.Nat.{ℕ}
use mathlib.Core.Path.{◌≡◌, sym, ◌∙◌, ap}
use mathlib.Core.Bool.{false}
use mathlib.Core.List.{List}
use lib.ListN.{get_or}
use Rattle.theory.specs.Answer.{accepted}
use Rattle.theory.specs.Reach.{marks_after, reached}
use Rattle.theory.proofs.Answer.{accepted_same, accepted_on}
use Rattle.theory.proofs.Reach.{reached_is, reached_count}
use Rattle.reader.specs.Reading.{read_answer}
use Rattle.sheet.specs.SheetGame.{game_of}
use Rattle.reader.specs.declared.reading.Layout.{Layout}
use Rattle.reader.proofs.Accepted.{carries}
use Rattle.reader.proofs.Legality.{legal_game}
use Rattle.solver.specs.Solving.{Solved, solve_answer}
use Rattle.solver.proofs.Accepted.{solved_is}
use Rattle.maker.specs.Making.{Measured, measured, made_answer}
use Rattle.maker.proofs.Made.{made_parts}
use Rattle.maker.proofs.SolvedLaws.{measure_is}
use Rattle.claims.specs.Reached.{Reaches}

-- an accepted sheet's number is that of its game
game_reached : (s : List ℕ) (l : Layout) → read_answer s ≡ accepted l → Reaches s (reached (game_of s))
game_reached s l e =
    let legal = legal_game s l e in
    record {
      test = λ q. get_or (marks_after (game_of s) (game_of s).positions) q false;
      tells = reached_is (game_of s) legal;
      number = λ f t. reached_count (game_of s) legal f (λ q. (t q).0) (λ q. (t q).1);
    }

pub reached_bytes : (s : List ℕ) (l : Layout) → read_answer s ≡ accepted l → Reaches s l.reached
reached_bytes s l e = rw (carries s l e).reached (game_reached s l e)

-- solving carries what the reading did
pub reached_solved : (s : List ℕ) (masks ranks : ℕ) (a : Solved) → solve_answer s masks ranks ≡ accepted a → Reaches s a.layout.reached
reached_solved s masks ranks a e = reached_bytes s a.layout (solved_is s masks ranks a e).0

-- and so does making
pub reached_made : (s masks ranks out : List ℕ) (a : Measured) → made_answer s masks ranks out ≡ accepted a → Reaches s a.reached
unfolding measured
reached_made s masks ranks out a e =
    let x = accepted_on _ _ e in
    let number = ap (λ (a : Measured). a.reached) (sym (accepted_same x.2) ∙ measure_is (reached (game_of s)) x.0) in
    let made = made_parts s _ _ _ x.0 x.1 in
    rw number (game_reached s made.layout made.reads)
