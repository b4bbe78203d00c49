-- Shared vocabulary of all crates: an operation's answer is a refusal by document 01's number, or a value. An operation is a
-- chain of checks in the order written there ("Checks are made in the order written"), and a later one continues the chain.
-- Assumes nothing.
use Rattle.std.specs.Prelude.{ℕ, Bool, true, false}

pub data Answer (A : Type 0) : Type 0 where
  refused : ℕ → Answer A
  accepted : A → Answer A

-- where the test fails the answer is the refusal n, and nothing after it counts
unfoldable pub check : {A : Type 0} → Bool → ℕ → Answer A → Answer A
check true n rest = rest
check false n rest = refused n

-- a refusal is handed straight on; an accepted value goes to the rest of the chain
unfoldable pub on_accepted : {A B : Type 0} → Answer A → (A → Answer B) → Answer B
on_accepted (refused n) rest = refused n
on_accepted (accepted a) rest = rest a
