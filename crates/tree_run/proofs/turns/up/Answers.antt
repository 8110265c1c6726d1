use Rattle.std.proofs.Common.{arith, sym}
use Rattle.tree_run.specs.Abstraction.{links_in}
use Rattle.tree_run.proofs.TurnLaws.{OtherUp, up_other}
use Rattle.tree_run.proofs.turns.up.Goals as goal

pub returns-in_default : goal.returns-in_default
returns-in_default c =
    let a = c.args in
    let other : OtherUp c.word.result = (omega arith, omega arith, omega arith, omega arith, omega arith, omega arith, omega arith) in
    rw (c.out_of-in_default.ensures, ← c.parent-k.ensures) (up_other a.tree.now.words.now (links_in a.tree.now) c.parent-k.result _ _ (sym c.word.ensures) other)
