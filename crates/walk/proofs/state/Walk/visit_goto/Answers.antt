use Rattle.walk.proofs.MetLaws.{terminal_by, same_state, kept, refuses, added_one}
use Rattle.definition.specs.Result.{◌>>=◌}
use Rattle.definition.specs.Statement.{visit_terminal, visit_goto}
use Rattle.definition.proofs.Lines.{unlined_step, unlined_put, out_nil}
use Rattle.walk.proofs.JumpLaws.{break_unlined_by, continue_unlined_by}
use mathlib.Core.Option.{none, some}
use mathlib.Core.Path.{refl, ◌∙◌}
use native.Mathlib.Omega.{arith}
use Rattle.walk.proofs.state.Walk.visit_goto.Goals as goal

pub returns-in_err-count-in-Break : goal.returns-in_err-count-in-Break
unfolding visit_terminal visit_goto ◌>>=◌
returns-in_err-count-in-Break c levels =
    refuses _ _ _ c.from_residual.ensures (terminal_by _ _ _ _ _ (rw c.in-Break.is at c.requires.ends) ∙ rw (c.block-id.ensures.is_id, c.in_err-count-in-Break.ensures) refl)

pub returns-in_err-visit_continue-in-Continue : goal.returns-in_err-visit_continue-in-Continue
unfolding visit_terminal visit_goto ◌>>=◌
returns-in_err-visit_continue-in-Continue c levels =
    refuses _ _ _ c.from_residual-in_err-visit_continue-in-Continue.ensures (terminal_by _ _ _ _ _ (rw c.in-Continue.is at c.requires.ends) ∙ rw (c.block-id.ensures.is_id, c.in_err-visit_continue-in-Continue.ensures) refl)

pub returns-in_ok-count-in-Break : goal.returns-in_ok-count-in-Break
unfolding visit_terminal visit_goto ◌>>=◌
returns-in_ok-count-in-Break c levels =
    let jump = c.in_ok-count-in-Break.ensures in
    record {
      part = jump.statement;
      same = terminal_by _ _ _ _ _ (rw c.in-Break.is at c.requires.ends) ∙ rw (c.block-id.ensures.is_id, jump.same, same_state c.args.self.now c.visit_break.new.self jump.cx jump.visits) refl;
      puts = λ origin out o. rw (← unlined_step out jump.statement (break_unlined_by _ _ _ _ _ _ jump.same)) (jump.puts origin out o);
      says = record { count = jump.count; few = omega (arith, jump.count, added_one jump.statement); there = tt };
      whole = rw jump.cx c.requires.fine.whole;
      numbers = omega (arith, jump.rows, jump.visits, jump.lines, kept c.args.self.now c.visit_break.new.self jump.cx, c.requires.fine.visits);
    }

pub returns-in_ok-visit_continue-in-Continue : goal.returns-in_ok-visit_continue-in-Continue
unfolding visit_terminal visit_goto ◌>>=◌
returns-in_ok-visit_continue-in-Continue c levels =
    let jump = c.in_ok-visit_continue-in-Continue.ensures in
    rw c.statement.ensures (record {
      part = some jump.statement;
      same = terminal_by _ _ _ _ _ (rw c.in-Continue.is at c.requires.ends) ∙ rw (c.block-id.ensures.is_id, jump.same, same_state c.args.self.now c.visit_continue.new.self jump.cx jump.visits) refl;
      puts = λ origin out o. rw (← unlined_put out _ jump.statement refl (continue_unlined_by _ _ _ _ _ _ jump.same)) (jump.puts origin out o);
      says = record { count = refl; few = omega arith; there = tt };
      whole = rw jump.cx c.requires.fine.whole;
      numbers = omega (arith, jump.rows, jump.visits, jump.lines, kept c.args.self.now c.visit_continue.new.self jump.cx, c.requires.fine.visits);
    })

pub returns-in-Try : goal.returns-in-Try
unfolding visit_terminal visit_goto ◌>>=◌
returns-in-Try c levels =
    rw c.nothing.ensures (record {
      part = none;
      same = terminal_by _ _ _ _ _ (rw c.in-Try.is at c.requires.ends) ∙ refl;
      puts = λ origin out o. rw (out_nil out) o;
      says = record { count = refl; few = omega arith; there = tt };
      whole = c.requires.fine.whole;
      numbers = omega (arith, c.requires.fine.visits);
    })
