use mathlib.Core.Path.{sym, ap}
use Rattle.text.specs.Placed.{printed_placing}
use Rattle.text.proofs.PrintsLaws.{as_printed}
use Rattle.convert.proofs.CodeLaws.{old_holding}
use Rattle.convert.proofs.file.print_old.Goals as goal

pub print-requires-clause-holding : goal.print-requires-clause-holding
print-requires-clause-holding c = rw c.new_to_old.auto.text (old_holding _ c.new_to_old.ensures)

pub returns : goal.returns
returns c =
    let printed = as_printed (ap printed_placing (sym c.new_to_old.ensures)) (rw c.new_to_old.auto.text at c.print.ensures) in
    record { out_after = printed.0; value = printed.1 }
