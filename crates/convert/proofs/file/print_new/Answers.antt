use mathlib.Core.Path.{sym, ap}
use Rattle.text.specs.Placed.{printed_placing}
use Rattle.text.proofs.PrintsLaws.{as_printed}
use Rattle.convert.proofs.CodeLaws.{new_holding}
use Rattle.convert.proofs.file.print_new.Goals as goal

pub print-requires-clause-holding : goal.print-requires-clause-holding
print-requires-clause-holding c = rw c.old_to_new.auto.text (new_holding _ c.old_to_new.ensures)

pub returns : goal.returns
returns c =
    let printed = as_printed (ap printed_placing (sym c.old_to_new.ensures)) (rw c.old_to_new.auto.text at c.print.ensures) in
    record { out_after = printed.0; value = printed.1 }
