-- `write_left` meets its contract. Assumes nothing.
use Rattle.notice.proofs.PostLaws.{written_left_lem}
use Rattle.notice.proofs.posting.write_left.Goals as goal

pub returns-then-some_flagged : goal.returns-then-some_flagged
returns-then-some_flagged c = search written_left_lem

pub returns-else-some_flagged : goal.returns-else-some_flagged
returns-else-some_flagged c = search written_left_lem
