use Rattle.walk.proofs.OutLaws.{flat_behind}
use Rattle.values.specs.Met.{block_result}
use Rattle.values.specs.declared.result.Tally.{Tally}
use mathlib.Core.Path.{sym, ap}
use native.Mathlib.Omega.{arith}
use Rattle.walk.proofs.state.Walk.visit_flat.Goals as goal

pub returns : goal.returns
returns c =
    let made = c.in_ok-value.ensures in
    let flat = c.value_block_result_to_sequence-self.ensures in
    record {
      value = block_result c.in_ok-value.value made.value;
      same = made.same;
      begun = sym (ap (λ (y : Tally). y.visits) made.tally);
      puts = λ origin out o.
          let q = made.puts origin out o in
          record { tree = q.tree; index = q.index; rows = flat_behind made.value made.ends flat out.rows (rw made.tally at q.rows); lines = q.lines };
      spent = record { cx = made.cx; lines = made.lines; visits = made.visits; rises = made.rises; paid = omega (arith, made.paid, flat.most, ap (λ (y : Tally). y.rows) made.tally) };
    }
