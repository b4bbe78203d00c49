-- `judge_bodies` meets its contract. Assumes nothing.
use Rattle.judge.proofs.JudgeLaws.{rulings}
use Rattle.judge.proofs.judging.judge_bodies.Goals as goal

pub returns-in-Some : goal.returns-in-Some
returns-in-Some c = search rulings

pub returns-in-Some-first_bad_node : goal.returns-in-Some-first_bad_node
returns-in-Some-first_bad_node c = search rulings

pub returns : goal.returns
returns c = search rulings
