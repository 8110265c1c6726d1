-- The buffer ends with the flattened value's rows (FlattenLaws): the closing SEQ rows are taken back (`holds_open`), and the value too where it loads the
-- result's identifier (`holds_load`, `flatten_same`); else the value becomes an instruction (`flatten_other`).
use Rattle.values.proofs.FlattenLaws.{leading, holds_open, holds_load, flatten_same, flatten_other}
use Rattle.values.proofs.RowLaws.{written_held}
use Rattle.definition.specs.Value.{innermost_value}
use Rattle.table.specs.Table.{table_of}
use Rattle.values.specs.Met.{block_result}
use native.Mathlib.Omega.{arith}
use mathlib.Core.Path.{sym, ◌∙◌}
use Rattle.values.proofs.sequence.value_block_result_to_sequence.Goals as goal

pub returns-then-loads_same_identifier : goal.returns-then-loads_same_identifier
returns-then-loads_same_identifier c =
    let t = table_of c.args.table.words.now in
    let r = c.args.res in
    let same = sym c.loads_same_identifier.ensures ∙ c.if-loads_same_identifier.true in
    record {
      held = λ value ends stack h.
          let drops = rw ends.loaded at same in
          let opened = rw (← ends.sequences) at (holds_open _ value r.tally.rows stack h) in
          let dropped = holds_load t _ r.place (innermost_value value) _ (leading value stack) drops opened in
          rw (flatten_same t (block_result r value) c.args.span stack drops, ← ends.instructions) (written_held c.put.ensures _ (written_held c.put-rows.ensures _ dropped));
      most = omega (arith, c.put-rows.ensures.count, c.put.ensures.count);
    }

pub returns : goal.returns
returns c =
    let t = table_of c.args.table.words.now in
    let r = c.args.res in
    let other = sym c.loads_same_identifier.ensures ∙ c.if-loads_same_identifier.false in
    record {
      held = λ value ends stack h.
          let opened = rw (← ends.sequences) at (holds_open _ value r.tally.rows stack h) in
          rw (flatten_other t (block_result r value) c.args.span stack (rw ends.loaded at other), ← ends.instructions)
          (written_held c.put-2.ensures _ (written_held c.put-rows-3.ensures _ (written_held c.put-rows-2.ensures _ opened)));
      most = omega (arith, c.put-rows-2.ensures.count, c.put-rows-3.ensures.count, c.put-2.ensures.count);
    }
