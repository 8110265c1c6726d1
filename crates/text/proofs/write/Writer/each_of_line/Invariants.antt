-- `text::write::Writer::each_of_line` meets its contract. The invariant: with the line of the numbers that are left it is the writer after the whole line.
-- WriterLaws has one number more and the end.
use Rattle.std.proofs.Common.{◌≡◌, drop}
use Rattle.text.specs.Line.{line}
use Rattle.text.specs.Writer.{written}
use Rattle.text.proofs.write.Writer.each_of_line.Given as goal

abbrev pub invariant-loop-i : goal.invariant-loop-i
invariant-loop-i l = written l.self (line (drop l.i l.numbers)) ≡ written l.initial.self (line l.numbers)
