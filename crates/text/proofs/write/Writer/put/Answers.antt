use Rattle.std.proofs.Common.{◌≡◌, refl, arith}
use borrow.Author.Tests.{lt-ltb}
use Rattle.text.specs.Writer.{room_at, byte_at}
use Rattle.text.proofs.WriterLaws.{room_put}
use Rattle.text.proofs.write.Writer.put.Goals as goal

pub prove-unreachable-requires : goal.prove-unreachable-requires
unfolding room_at
prove-unreachable-requires c = omega (arith, c.if-prove.true, rw c.in-Some.is at c.requires)

pub returns-in-Some : goal.returns-in-Some
unfolding byte_at
returns-in-Some c =
    let put : _ ≡ byte_at c.args.self.now.end c.args.self.now c.args.byte = rw (c.in-Some.is, byte_at, lt-ltb _ _ c.if-prove.false) refl in
    record { put = put; left = room_put _ _ put c.requires }

pub returns-in_default : goal.returns-in_default
unfolding room_at
returns-in_default c = absurd (omega (arith, rw c.in_default.is at c.requires))
