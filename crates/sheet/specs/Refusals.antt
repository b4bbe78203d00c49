-- The number of each refusal: document 01's, under "What each operation says no to", and from 21 on document 02's ("the new numbers
-- here and below counting as document 01's"); and the answer that a result of the code is. Assumes nothing.
use Rattle.std.specs.Prelude.{ℕ, Result, Ok, Err}
use Rattle.theory.specs.Answer.{Answer, refused, accepted}
use Rattle.sheet.specs.declared.refusal.Refusal.{Refusal}
use Rattle.sheet.specs.declared.refusal.Refusal.TheVariants.{Contents, Positions, Header, Targets, Moves, Stuck, Size, Buffers}
use Rattle.sheet.specs.declared.refusal.Refusal.TheVariants.{Output, TableContents, TableShape, NoInitialWord, Unobserved, NoAction}
use Rattle.sheet.specs.declared.refusal.Refusal.TheVariants.{LastTurn, UnknownPosition, TooOld, TooNew, Contradiction, State}
use Rattle.sheet.specs.declared.refusal.Refusal.TheVariants.{Mismatch, TooMany, NoSuchPosition, Gates}

abbrev pub number_of : Refusal → ℕ
number_of Contents = 1
number_of Positions = 2
number_of Header = 3
number_of Targets = 4
number_of Moves = 5
number_of Stuck = 6
number_of Size = 7
number_of Buffers = 8
number_of Output = 9
number_of TableContents = 10
number_of TableShape = 11
number_of NoInitialWord = 12
number_of Unobserved = 13
number_of NoAction = 14
number_of LastTurn = 15
number_of UnknownPosition = 16
number_of TooOld = 17
number_of TooNew = 18
number_of Contradiction = 19
number_of State = 20
number_of Mismatch = 21
number_of TooMany = 22
number_of NoSuchPosition = 23
number_of Gates = 24

-- document 01's number and value for every case of a result, f giving the value
abbrev pub answer_by : {A B : Type 0} → (A → B) → Result A Refusal → Answer B
answer_by f (Ok a) = accepted (f a)
answer_by f (Err r) = refused (number_of r)

abbrev pub answer_of : {A : Type 0} → Result A Refusal → Answer A
answer_of (Ok a) = accepted a
answer_of (Err r) = refused (number_of r)
