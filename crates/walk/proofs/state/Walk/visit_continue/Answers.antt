use Rattle.walk.proofs.JumpLaws.{resumes_nowhere, resumes_unnamed, resumes_named}
use Rattle.control.specs.Abstraction.{context_of, kind_of, found_block}
use Rattle.definition.specs.Output.{statement_out}
use Rattle.definition.specs.Tree.{CONTINUE}
use mathlib.Core.Path.{refl, sym, ◌∙◌}
use native.Mathlib.Omega.{arith}
use Rattle.walk.proofs.state.Walk.visit_continue.Goals as goal

pub returns-in_default : goal.returns-in_default
unfolding context_of
returns-in_default c = resumes_nowhere _ _ _ _ _ (rw c.block_id.ensures at c.in_default.ensures c.args.self.now.tally.visits) ∙ rw c.after.ensures refl

pub returns-then-continue_unnamed : goal.returns-then-continue_unnamed
unfolding context_of
returns-then-continue_unnamed c =
    resumes_unnamed _ _ _ _ _ (rw c.block_id.ensures at c.in-Some.ensures c.args.self.now.tally.visits) (sym c.continue_unnamed.ensures ∙ c.if-continue_unnamed.true) ∙ rw c.after-then-continue_unnamed.ensures refl

pub returns : goal.returns
unfolding context_of statement_out
returns c =
    record {
      statement = CONTINUE (found_block c.in-Some.found) c.args.id (kind_of c.in-Some.found.kind) c.in-Some.found.loops;
      same = resumes_named _ _ _ _ _ (rw c.block_id.ensures at c.in-Some.ensures c.args.self.now.tally.visits) (sym c.continue_unnamed.ensures ∙ c.if-continue_unnamed.false);
      puts = rw (← c.number-kind.ensures, ← c.block-target.ensures) c.put.ensures.puts;
      cx = c.put.ensures.cx;
      rows = omega (arith, c.put.ensures.rows);
      visits = c.put.ensures.visits;
      lines = c.put.ensures.lines;
    }
