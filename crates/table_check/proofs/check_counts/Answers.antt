-- `check_counts` gives `counts_verdict`. A count over its limit is the refusal (`count_over`), and one within it leaves the verdict to those after it
-- (`count_within`); after five none is left.
use mathlib.Core.Path.{◌≡◌, sym, ◌∙◌}
use native.Mathlib.Omega.{arith}
use Rattle.table.specs.Check.{limits, counts_verdict}
use Rattle.table_check.proofs.CheckLaws.{count_over, count_within}
use Rattle.table_check.proofs.check_counts.Goals as goal

pub returns-then-words-i : goal.returns-then-words-i
returns-then-words-i c = count_over _ limits _ c.loop-i-test.true c.if-words-i.true ∙ sym c.loop-i.invariant

pub loop-i-preserved : goal.loop-i-preserved
loop-i-preserved c = c.loop-i.invariant ∙ count_within _ limits _ c.loop-i-test.true c.if-words-i.false

pub returns : goal.returns
unfolding counts_verdict
returns c = let e : 5 ≡ c.loop-i.i = omega arith in sym (rw (← e) at c.loop-i.invariant)
