use Rattle.walk.proofs.MetLaws.{terminal_by, same_state, kept}
use Rattle.definition.specs.Statement.{visit_terminal}
use Rattle.definition.specs.Tree.{THROW}
use Rattle.definition.proofs.Lines.{throw_put}
use mathlib.Core.Option.{some}
use mathlib.Core.Path.{refl, ◌∙◌}
use native.Mathlib.Omega.{arith}
use Rattle.walk.proofs.state.Walk.visit_throw.Goals as goal

pub returns : goal.returns
unfolding visit_terminal
returns c levels around =
    let put = c.put.ensures in
    let id = c.block-id.ensures.is_id in
    rw c.statement.ensures (record {
      part = some (THROW c.args.end.value c.block-id.result.id);
      same = terminal_by _ _ _ _ _ c.requires.ends ∙ rw (id, same_state c.args.self.now c.put.new.self put.cx put.visits) refl;
      puts = λ origin out o. rw (← throw_put out c.args.end.value c.block-id.result.id) (put.puts origin out o);
      says = record { count = refl; few = omega arith; there = tt };
      whole = rw put.cx c.requires.fine.whole;
      numbers = omega (arith, put.rows, put.visits, put.lines, kept c.args.self.now c.put.new.self put.cx, c.requires.fine.visits);
    })
