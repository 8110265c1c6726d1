use Rattle.walk.proofs.OutLaws.{row_out}
use mathlib.Core.Path.{refl}
use Rattle.walk.proofs.state.Walk.put.Goals as goal

pub returns : goal.returns
returns c =
    let put = c.put-self.ensures in
    record {
      puts = λ origin out o. record { tree = o.tree; index = o.index; rows = row_out put out.rows o.rows; lines = o.lines };
      cx = refl;
      rows = put.count;
      visits = refl;
      lines = refl;
    }
