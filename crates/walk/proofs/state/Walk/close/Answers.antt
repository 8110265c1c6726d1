use Rattle.walk.proofs.OutLaws.{row_out, line_held, out_length}
use mathlib.Core.List.{append-nil}
use mathlib.Core.Path.{refl}
use native.Mathlib.Omega.{arith}
use Rattle.walk.proofs.state.Walk.close.Goals as goal

pub returns-in-Some : goal.returns-in-Some
returns-in-Some c =
    let put = c.put-self.ensures in
    rw c.in-Some.is (record {
      puts = λ origin out o. record {
        tree = o.tree;
        index = o.index;
        rows = row_out put out.rows o.rows;
        lines = rw (c.write_line.ensures, out_length o) (line_held c.args.self.now.index.now c.args.self.now.lines c.in-Some.label c.args.first c.args.self.now.tally.rows out.lines o.lines);
      };
      cx = refl;
      rows = put.count;
      visits = refl;
      lines = omega arith;
    })

pub returns-in_default : goal.returns-in_default
returns-in_default c =
    let put = c.put-self.ensures in
    rw c.in_default.is (record {
      puts = λ origin out o. record { tree = o.tree; index = o.index; rows = row_out put out.rows o.rows; lines = rw (append-nil out.lines) o.lines };
      cx = refl;
      rows = put.count;
      visits = refl;
      lines = omega arith;
    })
