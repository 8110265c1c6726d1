-- `finish` gives `closed`: with an end within the lent bytes what was written and zeros, else zeros alone.
use Rattle.std.proofs.Common.{List, ℕ, ap, arith}
use Rattle.std.proofs.lemmas.Grind.{common_steps}
use Rattle.std.specs.Prelude.{Ok}
use borrow.Author.Tests.{le-leb, lt-leb}
use Rattle.text.specs.Printed.{no_room}
use Rattle.text.specs.Writer.{closed}
use Rattle.text.proofs.write.Writer.finish.Goals.{in-Some, in_default, in_default-via-in-Some+else-end-out, in_default-via-in_default}
use Rattle.text.proofs.write.Writer.finish.Goals as goal

pub returns : goal.returns
unfolding closed
returns c =
    elim c.match-end.branch [
      | in-Some w ↦
          rw (closed, w.in-Some.is, le-leb _ _ w.if-end-out.true, w.result-is, w.out-is)
          (ap (λ (bytes : List ℕ). record { answer = Ok w.in-Some.end; bytes = bytes }) (grind (arith, common_steps)))
      | in_default w ↦
          let zeros = ap (λ (bytes : List ℕ). record { answer = no_room; bytes = bytes }) (grind (arith, common_steps)) in
          elim w.in_default.branch [
            | in_default-via-in-Some+else-end-out u ↦ rw (closed, u.in-Some.is, lt-leb _ _ u.if-end-out.false, w.result-is, w.out-is) zeros
            | in_default-via-in_default u ↦ rw (closed, u.in_default.is, w.result-is, w.out-is) zeros
          ]
    ]
