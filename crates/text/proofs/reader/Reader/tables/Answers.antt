-- `text::reader::Reader::tables` meets its contract: five tables one after the other (PartLaws, `part_then`), or those before the one that is refused.
use Rattle.std.proofs.Common.{Err}
use Rattle.std.proofs.lemmas.Result.{err_from_is_err_and}
use Rattle.text.specs.Form.{tables}
use Rattle.text.proofs.PartLaws.{part_then}
use Rattle.text.proofs.reader.Reader.tables.Goals as goal

pub returns-in_err-table-clause-read : goal.returns-in_err-table-clause-read
unfolding tables
returns-in_err-table-clause-read c =
    let p = err_from_is_err_and c.from_residual.result c.from_residual.ensures.1 in
    rw (p.1, p.2, ← c.block_columns.ensures) (λ root words next a. c.in_err-table.ensures.read root words _ a)

pub returns-in_err-table-2-clause-read : goal.returns-in_err-table-2-clause-read
unfolding tables
returns-in_err-table-2-clause-read c =
    let p = err_from_is_err_and c.from_residual-in_err-table-2.result c.from_residual-in_err-table-2.ensures.1 in
    rw (p.1, p.2, ← c.block_columns.ensures, ← c.instruction_columns.ensures) (
    part_then c.args.self.now _ (Err _) c.in_ok-table.ensures.file c.in_ok-table.ensures.read (
    λ root words next a. c.in_err-table-2.ensures.read root words _ a))

pub returns-in_err-table-3-clause-read : goal.returns-in_err-table-3-clause-read
unfolding tables
returns-in_err-table-3-clause-read c =
    let p = err_from_is_err_and c.from_residual-in_err-table-3.result c.from_residual-in_err-table-3.ensures.1 in
    rw (p.1, p.2, ← c.block_columns.ensures, ← c.instruction_columns.ensures) (
    part_then c.args.self.now _ (Err _) c.in_ok-table.ensures.file c.in_ok-table.ensures.read (
    part_then c.args.self.now _ (Err _) c.in_ok-table-2.ensures.file c.in_ok-table-2.ensures.read (
    λ root words next a. c.in_err-table-3.ensures.read root words _ a)))

pub returns-in_err-table-4-clause-read : goal.returns-in_err-table-4-clause-read
unfolding tables
returns-in_err-table-4-clause-read c =
    let p = err_from_is_err_and c.from_residual-in_err-table-4.result c.from_residual-in_err-table-4.ensures.1 in
    rw (p.1, p.2, ← c.block_columns.ensures, ← c.instruction_columns.ensures) (
    part_then c.args.self.now _ (Err _) c.in_ok-table.ensures.file c.in_ok-table.ensures.read (
    part_then c.args.self.now _ (Err _) c.in_ok-table-2.ensures.file c.in_ok-table-2.ensures.read (
    part_then c.args.self.now _ (Err _) c.in_ok-table-3.ensures.file c.in_ok-table-3.ensures.read (
    λ root words next a. c.in_err-table-4.ensures.read root words _ a))))

pub returns-clause-read : goal.returns-clause-read
unfolding tables
returns-clause-read c =
    rw (← c.block_columns.ensures, ← c.instruction_columns.ensures) (
    part_then _ _ _ c.in_ok-table.ensures.file c.in_ok-table.ensures.read (
    part_then _ _ _ c.in_ok-table-2.ensures.file c.in_ok-table-2.ensures.read (
    part_then _ _ _ c.in_ok-table-3.ensures.file c.in_ok-table-3.ensures.read (
    part_then _ _ _ c.in_ok-table-4.ensures.file c.in_ok-table-4.ensures.read c.table-5.ensures.read))))
