-- `make_read` meets its contract, by the laws of SolvedLaws.antt. Assumes nothing.
use Rattle.maker.proofs.SolvedLaws.{no_refusal, has_table, makes_won, loses, makes_lost}
use Rattle.maker.proofs.making.make_read.Goals as goal

pub returns-in_err-solution : goal.returns-in_err-solution
returns-in_err-solution c = no_refusal _ _ _ _ _ c.requires _ _ _ c.solve.ensures _ c.in_err-solution.was

pub write_table-size-requires : goal.write_table-size-requires
write_table-size-requires c = has_table _ _ _ _ _ c.requires _ _ _ c.solve.ensures _ c.in_ok-solution.was _ c.in-Winning.is

pub returns-in-Winning : goal.returns-in-Winning
returns-in-Winning c = makes_won _ _ _ _ _ c.requires _ _ _ c.solve.ensures _ c.in_ok-solution.was _ c.in-Winning.is _ _ c.write_table-size.ensures

pub write_ranks-size-requires : goal.write_ranks-size-requires
write_ranks-size-requires c = loses _ _ _ _ _ c.requires _ _ _ c.solve.ensures _ c.in_ok-solution.was _ _ c.in-Losing.is

pub returns-in-Losing : goal.returns-in-Losing
returns-in-Losing c = makes_lost _ _ _ _ _ c.requires _ _ _ c.solve.ensures _ c.in_ok-solution.was _ _ c.in-Losing.is _ _ c.write_ranks-size.ensures
