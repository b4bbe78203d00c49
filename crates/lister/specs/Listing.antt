-- Document 01's section "The listing program": from the bytes of its input to the whole text. Assumes nothing.
use Rattle.std.specs.Prelude.{ℕ, ◌/◌, cond, List, ◌++◌, ltb, length}
use Rattle.theory.specs.Answer.{Answer, refused, accepted}
use Rattle.theory.specs.Strategy.{initial_length}
use Rattle.theory.specs.Game.{Game}
use Rattle.theory.specs.Rounds.{masks, final_ranks}
use Rattle.theory.specs.Delay.{Verdict, wins, losing, arena, flags, answer}
use Rattle.theory.specs.Reach.{reached}
use Rattle.sheet.specs.Bodies.{delay_of}
use Rattle.reader.specs.Reading.{read_answer}
use Rattle.sheet.specs.SheetGame.{game_of}
use Rattle.reader.specs.declared.reading.Layout.{Layout}
use Rattle.text.specs.Lines.{refused_line, head_line, winning_line, losing_line, start_lines, allow_lines, rank_lines}
use Rattle.solver.specs.Solving.{Solved, solve_answer, masks_left, ranks_left}

-- "a yard sheet of at most 16,384 bytes"
abbrev pub most_input : ℕ
most_input = 16384

-- d, p and a: "a line of lag, positions and commands as asked"; it "ends with ` reached N`", n; then "a line `winning`", "a line `start`
-- and the word for each good word, and a line `pair`, position, word, `allow` and the commands for each kept pair"
unfoldable pub won_text : ℕ → ℕ → ℕ → ℕ → List ℕ → List ℕ → List ℕ
won_text d p a n flags masks =
    head_line d p a n ++ (winning_line ++ (start_lines a (initial_length d) flags ++ allow_lines a (d / 2) masks))

-- ".. or `losing` and m", "a line `pair`, position, word, `rank` and the round for each fallen pair at lag m"
unfoldable pub lost_text : ℕ → ℕ → ℕ → ℕ → ℕ → List ℕ → List ℕ
lost_text d p a n m ranks = head_line d p a n ++ (losing_line m ++ rank_lines a (m / 2) ranks)

unfoldable pub game_text : Game → ℕ → Verdict → List ℕ
game_text G d wins = won_text d G.positions G.actions (reached G) (flags G d) (masks (arena G d))
game_text G d (losing m) = lost_text d G.positions G.actions (reached G) m (final_ranks (arena G m))

-- "A refusal prints `refused` and its number. Otherwise: .."
unfoldable pub read_text : List ℕ → Answer Layout → List ℕ
read_text s (refused n) = refused_line n
read_text s (accepted l) = game_text (game_of s) (delay_of s) (answer (game_of s) (delay_of s))

unfoldable pub listing_of : List ℕ → List ℕ
listing_of s = read_text s (read_answer s)

-- "longer input prints `refused 1`"
unfoldable pub program_text : List ℕ → List ℕ
program_text s = cond (ltb most_input (length s)) (refused_line 1) (listing_of s)

-- the text where the lent buffers have any size: solving refuses those that are too short
unfoldable pub solved_text : List ℕ → Answer Solved → List ℕ
solved_text s (refused n) = refused_line n
solved_text s (accepted a) = game_text (game_of s) (delay_of s) a.verdict

unfoldable pub text_with : List ℕ → ℕ → ℕ → List ℕ
text_with s masks_room ranks_room = cond (ltb most_input (length s)) (refused_line 1) (solved_text s (solve_answer s masks_room ranks_room))

-- the buffers after it: input that is too long is not solved
unfoldable pub masks_with : List ℕ → ℕ → List ℕ → List ℕ
masks_with s ranks_room buffer = cond (ltb most_input (length s)) buffer (masks_left s (solve_answer s (length buffer) ranks_room) buffer)

unfoldable pub ranks_with : List ℕ → ℕ → List ℕ → List ℕ
ranks_with s masks_room buffer = cond (ltb most_input (length s)) buffer (ranks_left s (solve_answer s masks_room (length buffer)) buffer)
