-- What a caller learns from the arm of a result that it is in: the answer that the result is (specs/Refusals.antt). Assumes nothing.
use mathlib.Core.Path.{◌≡◌, sym, ◌∙◌, ap}
use Rattle.std.specs.Prelude.{Result, Ok, Err}
use Rattle.theory.specs.Answer.{Answer, refused, accepted}
use Rattle.sheet.specs.Refusals.{number_of, answer_of, answer_by}
use Rattle.sheet.specs.declared.refusal.Refusal.{Refusal}

module _ {A : Type 0} (r : Result A Refusal) (a : Answer A) (e : answer_of r ≡ a) where
  pub answer_accepted : (x : A) → r ≡ Ok x → a ≡ accepted x
  answer_accepted x f = sym e ∙ ap answer_of f

  pub answer_refused : (x : Refusal) → r ≡ Err x → a ≡ refused (number_of x)
  answer_refused x f = sym e ∙ ap answer_of f

module _ {A B : Type 0} (f : A → B) (r : Result A Refusal) (a : Answer B) (e : answer_by f r ≡ a) where
  pub by_accepted : (x : A) → r ≡ Ok x → a ≡ accepted (f x)
  by_accepted x g = sym e ∙ ap (answer_by f) g

  pub by_refused : (x : Refusal) → r ≡ Err x → a ≡ refused (number_of x)
  by_refused x g = sym e ∙ ap (answer_by f) g
