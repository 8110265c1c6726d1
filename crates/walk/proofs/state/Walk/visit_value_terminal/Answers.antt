use Rattle.walk.proofs.OutLaws.{value_behind}
use mathlib.Core.Path.{refl}
use native.Mathlib.Omega.{arith}
use Rattle.walk.proofs.state.Walk.visit_value_terminal.Goals as goal

pub returns : goal.returns
returns c =
    let v = c.in_ok-value.ensures in
    let found = v.found in
    record {
      value = v.value;
      same = v.same;
      puts = λ origin out o. record { tree = o.tree; index = o.index; rows = value_behind v.value found.held out.rows o.rows; lines = o.lines };
      block = found.block;
      place = found.place;
      ends = found.ends;
      more = omega (arith, found.more);
      tally = refl;
      cx = refl;
      lines = refl;
      visits = omega (arith, v.numbers);
      rises = omega (arith, v.numbers);
      paid = omega (arith, v.numbers);
    }
