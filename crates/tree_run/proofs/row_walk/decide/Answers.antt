-- `decide` gives what the machine's step does at a place where the walk does not end: `down` at an Enter (`decide_down`), `up` at a Leave (`decide_up`).
use Rattle.tree_run.specs.Abstraction.{links_in}
use Rattle.tree_run.proofs.TurnLaws.{not_ended, decide_down, decide_up}
use Rattle.tree_run.proofs.row_walk.decide.Goals as goal

pub returns-in-Enter : goal.returns-in-Enter
returns-in-Enter c =
    let a = c.args in
    λ e. rw c.in-Enter.is (decide_down a.tree.now.words.now (links_in a.tree.now) a.tree.now.rows c.in-Enter.row c.down.ensures)

pub returns-in-Leave : goal.returns-in-Leave
returns-in-Leave c =
    let a = c.args in
    λ e. let f = rw c.in-Leave.is at e in
    rw c.in-Leave.is (decide_up a.tree.now.words.now (links_in a.tree.now) a.tree.now.rows c.in-Leave.row _ (not_ended _ _ f) c.up.ensures)
