-- `rows` writes by a writer over the same bytes, and takes over its end (`written_back`).
use Rattle.std.proofs.Common.{rules}
use Rattle.text.specs.Line.{lines, rows_in}
use Rattle.text.proofs.WriterLaws.{name_written, written_back}
use Rattle.text.proofs.write.Writer.rows.Goals as goal

pub returns : goal.returns
returns c =
    written_back _ c.args.self.now (lines (rows_in c.args.stride c.args.width c.args.words.now)) c.each_row.ensures (search (rules, name_written _ _ c.each_row.ensures))
