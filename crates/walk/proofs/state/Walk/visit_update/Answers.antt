use Rattle.walk.proofs.MetLaws.{refuses}
use Rattle.definition.specs.Output.{update_out}
use Rattle.definition.specs.Result.{◌>>=◌}
use Rattle.definition.specs.Statement.{visit_update}
use Rattle.definition.proofs.Lines.{out_nil}
use Rattle.values.specs.declared.result.Tally.{Tally}
use mathlib.Core.Option.{none, some}
use mathlib.Core.Path.{refl, sym, ap}
use native.Mathlib.Omega.{arith}
use Rattle.walk.proofs.state.Walk.visit_update.Goals as goal

pub returns-in_err-visit_value-in-Some : goal.returns-in_err-visit_value-in-Some
unfolding visit_update ◌>>=◌
returns-in_err-visit_value-in-Some c = refuses _ _ _ c.from_residual.ensures (rw (c.in-Some.is, c.in_err-visit_value-in-Some.ensures) refl)

pub returns-in-None : goal.returns-in-None
unfolding visit_update update_out
returns-in-None c = record {
  value = record { value = none; visits = c.args.self.now.tally.visits };
  same = rw c.in-None.is refl;
  begun = refl;
  present = refl;
  puts = λ origin out o. rw (out_nil out) o;
  spent = record { cx = refl; lines = refl; visits = c.requires.budget.visits; rises = omega arith; paid = omega arith };
}

pub returns-in_ok-visit_value-in-Some : goal.returns-in_ok-visit_value-in-Some
unfolding visit_update update_out ◌>>=◌
returns-in_ok-visit_value-in-Some c =
    let made = c.in_ok-visit_value-in-Some.ensures in
    record {
      value = record { value = some made.value; visits = c.in_ok-visit_value-in-Some.field-0.tally.visits };
      same = rw (c.in-Some.is, made.same) refl;
      begun = sym (ap (λ (y : Tally). y.visits) made.tally);
      present = refl;
      puts = made.puts;
      spent = record { cx = made.cx; lines = made.lines; visits = made.visits; rises = made.rises; paid = omega (arith, made.paid) };
    }
