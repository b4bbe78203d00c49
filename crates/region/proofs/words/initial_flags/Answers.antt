-- `initial_flags` meets its contract. Assumes nothing.
use Rattle.region.proofs.FlagLaws.{flagging}
use Rattle.region.proofs.words.initial_flags.Goals as goal

pub returns-in_default-clause-count : goal.returns-in_default-clause-count
returns-in_default-clause-count c = search flagging

pub returns-in_default-clause-flags : goal.returns-in_default-clause-flags
returns-in_default-clause-flags c = search flagging

pub invariant_of-sized : goal.invariant_of-sized
invariant_of-sized c = record { fits = search flagging; start = search flagging }

pub returns-then-flags-n-clause-count : goal.returns-then-flags-n-clause-count
returns-then-flags-n-clause-count c = search flagging

pub returns-then-flags-n-clause-flags : goal.returns-then-flags-n-clause-flags
returns-then-flags-n-clause-flags c = search flagging

pub returns-clause-count : goal.returns-clause-count
returns-clause-count c = search flagging

pub returns-clause-flags : goal.returns-clause-flags
returns-clause-flags c = search flagging
