-- `bits_below` meets its contract, by the laws of TableLaws.antt. Assumes nothing.
use Rattle.std.proofs.Common.{rules, ◌≡◌, ◌∙◌, bit_or}
use Rattle.std.specs.List.{fold}
use Rattle.std.proofs.iter.runs.Made.{chains}
use native.Mathlib.Omega.{arith}
use borrow.Author.Tests.{le-leb}
use Rattle.table.proofs.TableLaws.{bits_all, bits_folded}
use Rattle.table.proofs.reading.bits_below.Goals as goal

pub returns-then-n-ge-BYTE : goal.returns-then-n-ge-BYTE
returns-then-n-ge-BYTE c = le-leb _ _ c.if-n-ge-BYTE.true ∙ bits_all _ _ (λ k. omega (arith, c.type_inv.b k)) c.if-n-ge-BYTE.true

pub returns-else-n-ge-BYTE : goal.returns-else-n-ge-BYTE
returns-else-n-ge-BYTE c = bits_folded _ _ (let e : c.fold.result ≡ fold bit_or 0 c.args.b.now = search (rules, chains) in e)
