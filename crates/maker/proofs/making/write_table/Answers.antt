-- `write_table` meets its contract, by the laws of WrittenLaws.antt. Assumes nothing.
use Rattle.maker.proofs.WrittenLaws.{table_sheets}
use Rattle.maker.proofs.making.write_table.Goals as goal

pub returns : goal.returns
returns c = search table_sheets
