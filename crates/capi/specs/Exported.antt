-- The operations as C callers have them: a number, 0 where accepted, and what is written where nothing was refused ("alters no
-- lent area"). Assumes nothing.
use Rattle.std.specs.Prelude.{ℕ, cond, List, [], ◌∷◌}
use Rattle.theory.specs.Answer.{Answer, refused, accepted}
use Rattle.theory.specs.Delay.{Verdict, wins, losing}
use Rattle.theory.specs.Judging.{Ruling, sound, bad_word, bad_node}
use Rattle.sheet.specs.Limits.{width}
use Rattle.sheet.specs.Form.{placed_at}
use Rattle.reader.specs.Reading.{read_answer}
use Rattle.solver.specs.Solving.{solving}
use Rattle.table.specs.TableSheet.{table_answer}
use Rattle.judge.specs.Judging.{judge_answer}
use Rattle.maker.specs.Making.{made_answer}
use Rattle.notice.specs.Posting.{posted_answer}

-- by an answer: g of a refusal's number, f of an accepted value
unfoldable pub by_answer : {A B : Type 0} → (ℕ → B) → (A → B) → Answer A → B
by_answer g f (refused n) = g n
by_answer g f (accepted x) = f x

-- the number of a refusal, 0 where the answer is accepted
abbrev pub number_for : {A : Type 0} → Answer A → ℕ
number_for a = by_answer (λ n. n) (λ x. 0) a

-- what is in a lent place after an answer: what an accepted value puts there, and what was there before where it is a refusal
abbrev pub written : {A B : Type 0} → (A → B) → Answer A → B → B
written f a before = by_answer (λ n. before) f a

-- reading a game sheet: start, number of actions, delay
abbrev pub header_after : List ℕ → List ℕ → List ℕ
header_after s header = written (λ l. l.start ∷ l.actions ∷ l.delay ∷ []) (read_answer s) header

-- offset and length of S, P, C and U
abbrev pub places_after : List ℕ → List ℕ → List ℕ
places_after s places =
    written
    (λ l.
    l.header.at ∷ l.header.size ∷ l.positions.at ∷ l.positions.size
    ∷ l.targets.at ∷ l.targets.size ∷ l.moves.at ∷ l.moves.size ∷ [])
    (read_answer s) places

-- "the number of positions that lie on some play from the start", as reading, solving and making have it
abbrev pub read_reached : List ℕ → ℕ → ℕ
read_reached s before = written (λ l. l.reached) (read_answer s) before

-- whether the gates hold: 1 where they do, else 0
abbrev pub read_holding : List ℕ → ℕ → ℕ
read_holding s before = written (λ l. cond l.holding 1 0) (read_answer s) before

-- the losing delay; 255, LQ_WINS, where the asked one wins
abbrev pub losing_number : Verdict → ℕ
losing_number wins = 255
losing_number (losing m) = m

abbrev pub losing_after : List ℕ → List ℕ → List ℕ → ℕ → ℕ
losing_after s masks ranks before = written (λ a. losing_number a.verdict) (solving s masks ranks) before

abbrev pub solved_reached : List ℕ → List ℕ → List ℕ → ℕ → ℕ
solved_reached s masks ranks before = written (λ a. a.layout.reached) (solving s masks ranks) before

-- making: what is losing, how long the made sheet is, and the positions reached
abbrev pub made_losing : List ℕ → List ℕ → List ℕ → List ℕ → ℕ → ℕ
made_losing s masks ranks out before = written (λ a. losing_number a.verdict) (made_answer s masks ranks out) before

abbrev pub made_size : List ℕ → List ℕ → List ℕ → List ℕ → ℕ → ℕ
made_size s masks ranks out before = written (λ a. a.size) (made_answer s masks ranks out) before

abbrev pub made_reached : List ℕ → List ℕ → List ℕ → List ℕ → ℕ → ℕ
made_reached s masks ranks out before = written (λ a. a.reached) (made_answer s masks ranks out) before

-- reading a table sheet: offset and length of the T body
abbrev pub place_after : List ℕ → List ℕ → List ℕ
place_after s place = written (λ x. (placed_at width s 2).at ∷ (placed_at width s 2).size ∷ []) (table_answer s) place

-- judging: 0, LQ_SOUND, for a yes; 1, LQ_BAD_WORD, and 2, LQ_BAD_PAIR, for a no
abbrev pub verdict_number : Ruling → ℕ
verdict_number sound = 0
verdict_number (bad_word v) = 1
verdict_number (bad_node k) = 2

-- and the number of what offends first, 0 where nothing does
abbrev pub offender : Ruling → ℕ
offender sound = 0
offender (bad_word v) = v
offender (bad_node k) = k

abbrev pub verdict_after : List ℕ → List ℕ → ℕ → ℕ
verdict_after s t before = written verdict_number (judge_answer s t) before

abbrev pub offender_after : List ℕ → List ℕ → ℕ → ℕ
offender_after s t before = written offender (judge_answer s t) before

-- posting: the written sheet's length, and 1 where a first word remains, else 0
abbrev pub posted_size : List ℕ → List ℕ → List ℕ → List ℕ → ℕ → ℕ
posted_size s t ps out before = written (λ x. x.size) (posted_answer s t ps out) before

abbrev pub posted_remains : List ℕ → List ℕ → List ℕ → List ℕ → ℕ → ℕ
posted_remains s t ps out before = written (λ x. cond x.remains 1 0) (posted_answer s t ps out) before
