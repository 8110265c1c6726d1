-- `text::write::Writer::put_bytes` meets its contract. The invariant: with the bytes that are left it is the writer after all of them, and these find a place.
-- WriterLaws has one byte more and the end.
use Rattle.std.proofs.Common.{◌≡◌, ◌+◌, drop}
use Rattle.text.specs.Writer.{written, room}
use Rattle.text.proofs.write.Writer.put_bytes.Given as goal

abbrev pub invariant-loop-byte : goal.invariant-loop-byte
invariant-loop-byte l = (written l.self (drop l.byte-index l.bytes) ≡ written l.initial.self l.bytes) × (room l.self + l.byte-index ≡ room l.initial.self)
