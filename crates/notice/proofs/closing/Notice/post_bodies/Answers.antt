-- `post_bodies` meets its contract. Assumes nothing.
use Rattle.notice.proofs.PostLaws.{bodies_posted}
use Rattle.notice.proofs.closing.Notice.post_bodies.Goals as goal

pub write_left-requires : goal.write_left-requires
write_left-requires c = search bodies_posted

pub returns : goal.returns
returns c = search bodies_posted
