-- `put_instructions` puts a PLAIN and an INSTR for each instruction. A step pushes the two rows of one instruction more (`push_next_row`), and the buffer holds
-- each above what it held (`written_held`).
use Rattle.values.proofs.RowLaws.{written_held}
use Rattle.values.proofs.StackLaws.{push_next_row}
use Rattle.values.specs.Stack.{push_instruction_rows}
use Rattle.table.specs.Table.{table_of}
use Prim.Native.Nat.{ℕ, suc, ◌+◌, ◌-◌}
use mathlib.Core.Path.{◌≡◌}
use native.Mathlib.Omega.{arith}
use Rattle.values.proofs.instructions.put_instructions.Goals as goal

pub loop-i-init : goal.loop-i-init
unfolding push_instruction_rows
loop-i-init c = let e : c.args.first - c.args.first ≡ 0 = omega arith in rw e (record { more = omega arith; kept = λ stack h. h })

pub loop-i-preserved : goal.loop-i-preserved
loop-i-preserved c =
    let l = c.loop-i in
    let first = c.args.first in
    let k : ℕ = l.i - first in
    let next : l.i + 1 - first ≡ suc k = omega (arith, l.auto.i) in
    let here : first + k ≡ l.i = omega (arith, l.auto.i) in
    let head = c.instruction-head.ensures in
    let plain = c.put-out.ensures in
    let instr = c.put-out-in-loop-i.ensures in
    rw next (record {
      more = omega (arith, instr.count, plain.count, l.invariant.more);
      kept = λ stack h. rw (push_next_row (table_of c.args.table.words.now) first k stack, here, head.is_id, head.is_lvalue, head.is_span)
          (written_held instr _ (written_held plain _ (l.invariant.kept stack h)));
    })
