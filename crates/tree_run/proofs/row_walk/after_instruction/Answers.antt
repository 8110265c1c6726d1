-- `after_instruction` goes on from an INSTR as the machine does. In a BLOCK that is one turn further: out of the BLOCK after its last statement (`block_ends`),
-- else into the next one (`block_goes_on`). The first return, out of the INSTR, needs no answer.
use Rattle.std.proofs.Common.{refl, sym, ap, ◌∙◌}
use Rattle.std.specs.Prelude as code
use Rattle.std.specs.Prelude.{ℕ}
use Rattle.tree_run.specs.Abstraction.{if_any, links_in}
use Rattle.tree_run.proofs.TurnLaws.{block_ends, block_goes_on}
use Rattle.tree_run.proofs.row_walk.after_instruction.Goals as goal

pub returns-in-None : goal.returns-in-None
returns-in-None c =
    let a = c.args in
    block_ends a.tree.now.words.now (links_in a.tree.now) a.tree.now.rows a.row c.requires (sym c.is_last.ensures ∙ c.if-is_last.false)
    c.parent-block.ensures c.word.ensures c.if-word-ne-BLOCK.false (ap (λ (o : code.Option ℕ). if_any o) (sym c.in-None.is ∙ c.next.ensures)) refl

pub returns-in-Some : goal.returns-in-Some
returns-in-Some c =
    let a = c.args in
    block_goes_on a.tree.now.words.now (links_in a.tree.now) a.tree.now.rows a.row c.requires (sym c.is_last.ensures ∙ c.if-is_last.false)
    c.parent-block.ensures c.word.ensures c.if-word-ne-BLOCK.false (ap (λ (o : code.Option ℕ). if_any o) (sym c.in-Some.is ∙ c.next.ensures)) refl
