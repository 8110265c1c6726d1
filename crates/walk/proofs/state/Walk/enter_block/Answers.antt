use Rattle.walk.proofs.StateLaws.{enters_31, enters_10, enters_11, enters_on, marks_add}
use Rattle.definition.specs.Context.{has, add, emit, with_visits}
use Rattle.definition.proofs.Flags.{length_add}
use Rattle.control.specs.Abstraction.{context_of}
use mathlib.Core.Path.{refl, sym, ◌∙◌}
use native.Mathlib.Omega.{arith}
use Rattle.walk.proofs.state.Walk.enter_block.Goals as goal

pub returns-then-self-eq8192 : goal.returns-then-self-eq8192
returns-then-self-eq8192 c = enters_31 _ _ _ _ c.if-self-eq8192.true ∙ rw c.after.ensures refl

pub returns-then-is_absent : goal.returns-then-is_absent
returns-then-is_absent c =
    enters_10 _ _ _ _ (omega (arith, c.requires.fine.visits, c.if-self-eq8192.false)) (sym c.is_absent.ensures ∙ c.if-is_absent.true) ∙ rw c.after-then-is_absent.ensures refl

pub returns-then-self-block : goal.returns-then-self-block
unfolding has
returns-then-self-block c =
    enters_11 _ _ _ _ (omega (arith, c.requires.fine.visits, c.if-self-eq8192.false)) (sym c.is_absent.ensures ∙ c.if-is_absent.false) c.if-self-block.true ∙ rw c.after-then-self-block.ensures refl

pub returns : goal.returns
unfolding has add emit with_visits context_of
returns c =
    let fine = c.requires.fine in
    let few = c.args.table.promise.sized.limited.blocks in
    let more = marks_add c.args.self.now.cx.emitted c.args.block (omega (arith, fine.whole.emitted, few, c.requires.there)) c.if-self-block.false in (
      enters_on _ _ _ c.args.self.now.cx (omega (arith, fine.visits, c.if-self-eq8192.false)) (sym c.is_absent.ensures ∙ c.if-is_absent.false) c.if-self-block.false,
      record {
        present = sym c.is_absent.ensures ∙ c.if-is_absent.false;
        quiet = record { tree = refl; index = refl; rows = refl; lines = refl };
        visits = refl;
        marks = more;
        len = refl;
        id = refl;
        fine = record {
          whole = record { emitted = length_add c.args.self.now.cx.emitted c.args.block 1024 fine.whole.emitted; stack = fine.whole.stack; bounded = fine.whole.bounded };
          visits = omega (arith, fine.visits, c.if-self-eq8192.false);
          rows = omega (arith, fine.rows);
          len = omega (arith, fine.len, more);
          id = omega (arith, fine.id, more);
          lines = omega (arith, fine.lines, more);
        };
      },
    )
