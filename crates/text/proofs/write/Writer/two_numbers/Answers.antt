-- `two_numbers` writes by a writer over the same bytes, and takes over its end (`written_back`).
use Rattle.std.proofs.Common.{◌++◌, sym, rules, arith}
use Rattle.text.specs.Decimal.{decimal}
use Rattle.text.proofs.WriterLaws.{name_written, room_named, written_back, written_full}
use Rattle.text.proofs.write.Writer.two_numbers.Goals as goal

pub put_two-requires-clause-room : goal.put_two-requires-clause-room
put_two-requires-clause-room c =
    room_named _ c.args.self.now (omega (arith, c.if-most-room.true, c.room.ensures, c.room.type_inv, c.saturating_add-most.ensures, c.saturating_add-2.ensures, c.saturating_add.ensures))

pub returns-then-most-room : goal.returns-then-most-room
returns-then-most-room c =
    let text = c.args.before.now ++ (decimal c.args.first ++ (c.args.between.now ++ (decimal c.args.second ++ c.args.after.now))) in
    written_back _ c.args.self.now text c.put_two.ensures (search (rules, name_written _ _ c.put_two.ensures))

pub returns-else-is_some : goal.returns-else-is_some
returns-else-is_some c = sym (written_full _ _ (sym c.if-is_some.ensures))
