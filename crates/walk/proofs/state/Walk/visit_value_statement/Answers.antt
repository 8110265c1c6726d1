use Rattle.walk.proofs.MetLaws.{refuses, room_of, entries_one, same_state, kept, valued_state, fallthrough_there}
use Rattle.control.specs.Abstraction.{context_of}
use Rattle.definition.specs.Context.{with_visits}
use Rattle.definition.specs.Result.{◌>>=◌}
use Rattle.definition.specs.Statement.{visit_value_statement}
use Rattle.definition.specs.Tree.{INSTR}
use Rattle.definition.proofs.Lines.{instr_put}
use Rattle.walk.proofs.MetLaws.{quiet_out}
use mathlib.Core.Option.{some}
use mathlib.Core.Path.{refl, ◌∙◌}
use native.Mathlib.Omega.{arith}
use Rattle.walk.proofs.state.Walk.visit_value_statement.Goals as goal

pub schedule_if-requires-clause-room : goal.schedule_if-requires-clause-room
schedule_if-requires-clause-room c = room_of c.requires.fine

pub returns-in_err-schedule_if : goal.returns-in_err-schedule_if
unfolding visit_value_statement ◌>>=◌
returns-in_err-schedule_if c around =
    refuses _ _ _ c.from_residual.ensures (c.requires.ends.visits _ around _ ∙ rw (← c.unless_scheduled-next.ensures.label, c.in_err-schedule_if.ensures) refl)

pub returns-in_err-value : goal.returns-in_err-value
unfolding visit_value_statement ◌>>=◌ context_of
returns-in_err-value c around =
    refuses _ _ _ c.from_residual-in_err-value.ensures
    (c.requires.ends.visits _ around _ ∙ rw (← c.unless_scheduled-next.ensures.label, c.in_ok-schedule_if.ensures.0, c.in_err-value.ensures) refl)

pub returns-in_err-unschedule_if : goal.returns-in_err-unschedule_if
unfolding visit_value_statement ◌>>=◌ context_of with_visits
returns-in_err-unschedule_if c around =
    let value = c.in_ok-value.ensures in
    let off = rw (valued_state c.schedule_if.new.self c.visit_value_terminal.new.self value) at c.in_err-unschedule_if.ensures in
    refuses _ _ _ c.from_residual-in_err-unschedule_if.ensures
    (c.requires.ends.visits _ around _ ∙ rw (← c.unless_scheduled-next.ensures.label, c.in_ok-schedule_if.ensures.0, value.same, off) refl)

pub returns : goal.returns
unfolding visit_value_statement ◌>>=◌ context_of with_visits
returns c around =
    let head = c.block-head.ensures in
    let next = fallthrough_there c.unless_scheduled-next.result c.unless_scheduled-next.ensures.there c.requires.ends.there in
    let sched = c.in_ok-schedule_if.ensures in
    let value = c.in_ok-value.ensures in
    let off = rw (valued_state c.schedule_if.new.self c.visit_value_terminal.new.self value) at c.in_ok-unschedule_if.ensures.0 in
    let shift = c.in_ok-unschedule_if.ensures.1 in
    let put = c.put.ensures in
    let of = c.in_ok-value.value in
    rw c.statement.ensures (record {
      part = some (INSTR of.id of.place c.block-head.result.span value.value);
      same = c.requires.ends.visits _ around _
          ∙ rw (← c.unless_scheduled-next.ensures.label, c.in_ok-schedule_if.ensures.0, value.same, head.is_span, off, same_state c.unschedule_if.new.self c.put.new.self put.cx put.visits) refl;
      puts = λ origin out o. rw (← instr_put out of.id of.place c.block-head.result.span value.value)
          (put.puts origin _ (quiet_out shift.quiet (value.puts origin out (quiet_out sched.1.quiet o))));
      says = record { count = refl; few = omega arith; there = next };
      whole = rw put.cx shift.whole;
      numbers = omega (
        arith,
        sched.1,
        sched.1.quiet,
        value.paid,
        value.rises,
        value.visits,
        value.lines,
        kept c.schedule_if.new.self c.visit_value_terminal.new.self value.cx,
        shift,
        shift.quiet,
        put.rows,
        put.visits,
        put.lines,
        kept c.unschedule_if.new.self c.put.new.self put.cx,
        entries_one c.unless_scheduled-next.result,
      );
    })
