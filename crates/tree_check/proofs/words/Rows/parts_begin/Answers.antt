use Rattle.std.proofs.Common.{◌∙◌}
use Rattle.tree_check.proofs.PartLaws.{ready_before, seek_missing, seek_on, seek_end}
use Rattle.tree_check.proofs.words.Rows.parts_begin.Goals as goal

pub returns-in_err-at : goal.returns-in_err-at
returns-in_err-at c = c.from_residual.ensures ∙ seek_missing _ _ (ready_before _ _ c.args.self.ready c.requires) c.loop.invariant c.loop-test.true c.in_err-at.ensures

pub loop-preserved : goal.loop-preserved
loop-preserved c = seek_on _ _ (ready_before _ _ c.args.self.ready c.requires) c.loop.invariant c.loop-test.true c.in_ok-at.ensures

pub returns : goal.returns
returns c = seek_end _ _ (ready_before _ _ c.args.self.ready c.requires) c.loop.invariant c.loop-test.false
