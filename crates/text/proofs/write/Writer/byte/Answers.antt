use borrow.Author.Tests.{lt-ltb, le-ltb}
use Rattle.text.specs.Writer.{byte_at}
use Rattle.text.proofs.write.Writer.byte.Goals.{in-Some, in_default-2, in_default}
use Rattle.text.proofs.write.Writer.byte.Goals as goal

pub returns : goal.returns
unfolding byte_at
returns c =
    elim c.match-self.branch [
      | in-Some w ↦ rw (w.self-is, w.self2-is, w.in-Some.is, byte_at, lt-ltb _ _ w.if-end-self.true)
      | in_default-2 w ↦ rw (w.self-is, w.self2-is, w.in-Some.is, byte_at, le-ltb _ _ w.if-end-self.false)
      | in_default w ↦ rw (w.self-is, w.self2-is, w.in_default.is, byte_at)
    ]
