-- `down` gives the machine's act at a row. Only the last arm needs an answer: a row whose op is none of the fifteen named (`OtherDown`) is left as one that is
-- not run (`down_other`).
use Rattle.std.proofs.Common.{arith, sym}
use Rattle.tree_run.specs.Abstraction.{links_in}
use Rattle.tree_run.proofs.TurnLaws.{OtherDown, down_other}
use Rattle.tree_run.proofs.turns.down.Goals as goal

pub returns-in_default : goal.returns-in_default
returns-in_default c =
    let a = c.args in
    let other : OtherDown c.word.result = (
      omega arith,
      omega arith,
      omega arith,
      omega arith,
      omega arith,
      omega arith,
      omega arith,
      omega arith,
      omega arith,
      omega arith,
      omega arith,
      omega arith,
      omega arith,
      omega arith,
      omega arith,
    ) in
    rw c.out_of-in_default.ensures (down_other a.tree.now.words.now (links_in a.tree.now) a.k (sym c.word.ensures) other)
