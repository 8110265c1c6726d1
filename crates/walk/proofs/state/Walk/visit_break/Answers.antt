use Rattle.walk.proofs.JumpLaws.{leaps_nowhere, leaps_scope, leaps_unnamed, leaps_named, scope_implicit, scope_refused}
use Rattle.control.specs.Abstraction.{context_of, found_block}
use Rattle.definition.specs.Context.{has}
use Rattle.definition.specs.Output.{statement_out}
use Rattle.definition.specs.Tree.{BREAK, kind_number}
use Rattle.definition.proofs.Lines.{out_nil}
use mathlib.Core.Option.{none, some}
use mathlib.Core.Path.{refl, sym, ap, ◌∙◌}
use native.Mathlib.Omega.{arith}
use Rattle.walk.proofs.state.Walk.visit_break.Goals as goal

pub returns-in_default : goal.returns-in_default
unfolding context_of
returns-in_default c = leaps_nowhere _ _ _ _ _ (rw c.block_id.ensures at c.in_default.ensures.found c.args.self.now.tally.visits) ∙ rw c.after.ensures refl

pub returns-in-Implicit : goal.returns-in-Implicit
unfolding has context_of
returns-in-Implicit c =
    let scope = rw c.block-target.ensures at c.if-self-target.true in
    record {
      statement = none;
      same = leaps_scope _ _ _ _ _ (rw c.block_id.ensures at c.in-Some.ensures.found c.args.self.now.tally.visits) scope ∙ scope_implicit _ _ _ c.in-Implicit.is;
      count = refl;
      puts = λ origin out o. rw (out_nil out) o;
      cx = refl;
      rows = omega arith;
      visits = refl;
      lines = refl;
    }

pub returns-in_default-kind : goal.returns-in_default-kind
unfolding has context_of
returns-in_default-kind c =
    let scope = rw c.block-target.ensures at c.if-self-target.true in
    leaps_scope _ _ _ _ _ (rw c.block_id.ensures at c.in-Some.ensures.found c.args.self.now.tally.visits) scope ∙ scope_refused _ _ _ c.in_default-kind.not-Implicit ∙ rw c.after-in_default-kind.ensures refl

pub returns-then-break_unnamed : goal.returns-then-break_unnamed
unfolding has context_of
returns-then-break_unnamed c =
    let scope = rw c.block-target.ensures at c.if-self-target.false in
    leaps_unnamed _ _ _ _ _ (rw c.block_id.ensures at c.in-Some.ensures.found c.args.self.now.tally.visits) scope (sym c.break_unnamed.ensures ∙ c.if-break_unnamed.true) ∙ rw c.after-then-break_unnamed.ensures refl

pub returns : goal.returns
unfolding has context_of statement_out
returns c =
    let scope = rw c.block-target.ensures at c.if-self-target.false in
    let kind = c.number-kind.ensures ∙ ap kind_number c.break_kind_in.ensures in
    record {
      statement = some (BREAK (found_block c.in-Some.found) c.args.id _ c.in-Some.found.loops);
      same = leaps_named _ _ _ _ _ (rw c.block_id.ensures at c.in-Some.ensures.found c.args.self.now.tally.visits) scope (sym c.break_unnamed.ensures ∙ c.if-break_unnamed.false);
      count = refl;
      puts = rw (← kind, ← c.block-target.ensures) c.put.ensures.puts;
      cx = c.put.ensures.cx;
      rows = omega (arith, c.put.ensures.rows);
      visits = c.put.ensures.visits;
      lines = c.put.ensures.lines;
    }
