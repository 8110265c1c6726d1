-- `bytes` writes by a writer over the same bytes, and takes over its end (`written_back`).
use Rattle.std.proofs.Common.{rules}
use Rattle.text.proofs.WriterLaws.{name_written, written_back}
use Rattle.text.proofs.write.Writer.bytes.Goals as goal

pub returns : goal.returns
returns c = written_back _ c.args.self.now c.args.bytes.now c.each_byte.ensures (search (rules, name_written _ _ c.each_byte.ensures))
