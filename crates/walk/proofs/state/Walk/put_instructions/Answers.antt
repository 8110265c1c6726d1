use Rattle.walk.proofs.OutLaws.{instructions_behind}
use mathlib.Core.Path.{refl}
use Rattle.walk.proofs.state.Walk.put_instructions.Goals as goal

pub returns : goal.returns
returns c =
    let put = c.put_instructions-self.ensures in
    record {
      puts = λ origin out o. record { tree = o.tree; index = o.index; rows = instructions_behind put out.rows o.rows; lines = o.lines };
      cx = refl;
      rows = put.more;
      visits = refl;
      lines = refl;
    }
