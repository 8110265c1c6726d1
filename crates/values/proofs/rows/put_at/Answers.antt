use borrow.Author.Tests.{lt-ltb, le-ltb}
use native.Mathlib.Numerals.{towards_suc}
use Rattle.values.specs.Rows.{placed}
use Rattle.values.proofs.rows.put_at.Goals as goal

pub returns-then-n-buffer : goal.returns-then-n-buffer
unfolding placed
returns-then-n-buffer c = simp (lt-ltb _ _ c.if-n-buffer.true, towards_suc)

pub returns-else-n-buffer : goal.returns-else-n-buffer
unfolding placed
returns-else-n-buffer c = simp (le-ltb _ _ c.if-n-buffer.false)
