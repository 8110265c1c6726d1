use Rattle.std.proofs.Common.{refl}
use lib.ListN.{length-set}
use Rattle.tree_run.proofs.PerformLaws.{row_other, row_full, row_one}
use Rattle.tree_run.proofs.performed.Performed.perform_row.Goals as goal

pub returns-then-word-ne-PLAIN : goal.returns-then-word-ne-PLAIN
returns-then-word-ne-PLAIN c = record { same = refl; long = refl; took = λ reached h. row_other _ h _ c.word.ensures c.if-word-ne-PLAIN.true }

pub returns-then-self : goal.returns-then-self
returns-then-self c = record { same = refl; long = refl; took = λ reached h. row_full _ h _ c.word.ensures c.if-word-ne-PLAIN.false c.if-self.true }

pub returns : goal.returns
returns c = record { same = refl; long = length-set _ _ _; took = λ reached h. row_one _ h _ c.word.ensures c.if-word-ne-PLAIN.false c.if-self.false c.word-2.ensures }
