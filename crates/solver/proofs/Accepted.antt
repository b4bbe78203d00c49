-- What an accepted solving says. Assumes nothing.
use Prim.Native.Nat.{ℕ}
use mathlib.Core.Path.{◌≡◌, ◌∙◌, ap}
use mathlib.Core.List.{List}
use Rattle.theory.specs.Answer.{accepted}
use Rattle.theory.specs.Delay.{answer}
use Rattle.theory.proofs.Answer.{check_accepted, accepted_same, accepted_on}
use Rattle.sheet.specs.Bodies.{delay_of}
use Rattle.reader.specs.Reading.{read_answer}
use Rattle.sheet.specs.SheetGame.{game_of}
use Rattle.solver.specs.Solving.{Solved, solve_answer}

-- the sheet was read, its layout is handed on, and the verdict is the answer
pub solved_is : (s : List ℕ) (m n : ℕ) (a : Solved) → solve_answer s m n ≡ accepted a
    → (read_answer s ≡ accepted a.layout) × (answer (game_of s) (delay_of s) ≡ a.verdict)
unfolding solve_answer
solved_is s m n a e =
    let o = accepted_on (read_answer s) _ e in
    let same = accepted_same (check_accepted _ _ _ o.2).1 in
    (o.1 ∙ ap accepted (ap (λ (x : Solved). x.layout) same), ap (λ (x : Solved). x.verdict) same)
