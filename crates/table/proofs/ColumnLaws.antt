-- Rows as the readers of their columns (src/columns.rt) give them.
use mathlib.Core.Path.{◌≡◌, ap, sym, subst, ◌∙◌}
use mathlib.Core.List.{List}
use Prim.Native.Nat.{ℕ, ◌<◌}
use native.Mathlib.Omega.{arith}
use Rattle.table.specs.declared.columns.Span.{Span}
use Rattle.table.specs.Words.{block_count, instruction_count, case_count, place_count, block_word, instruction_word, case_word, operation_code_at}
use Rattle.table.specs.Check.{case_rules, place_or_none}
use Rattle.table.specs.Table.{Instruction, Operation, table_of, block_at, block_of, instruction_of, case_of, operation_of, instruction_rows_at, rows_from}
use Rattle.table.specs.Promise.{Promise, OperandsInRange, Heads, Instructs, Operates, Chooses}
use Rattle.table.proofs.TableLaws.{block_at_lem, instruction_at_lem, case_at_lem}
use Rattle.table.proofs.RangeLaws.{run_within, lvalue_below, operands_in_range, below_unless_none, case_block}

module _ {ws : List ℕ} {b : ℕ} where
  pub spans : {from to : ℕ} → Promise ws → b < block_count ws → from ≡ block_word ws b 9 → to ≡ block_word ws b 10 → record { from = from; to = to } ≡ (block_at (table_of ws) b).span
  unfolding block_of
  spans p inside eb et = rw (block_at_lem ws b inside, eb, et)

  pub heads : {first count id : ℕ} {span : Span} → Promise ws → b < block_count ws
      → first ≡ block_word ws b 0 → count ≡ block_word ws b 1 → id ≡ block_word ws b 8 → span ≡ (block_at (table_of ws) b).span
      → Heads ws b first count id span
  unfolding block_of
  heads p inside ef ec ei es =
      let row = block_at_lem ws b inside in
      record {
        few = p.sized.limited.instructions;
        is_first = rw (row, ef);
        is_count = rw (row, ec);
        is_id = rw (row, ei);
        is_span = sym es;
        there = rw (ef, ec) (run_within ws p b inside);
      }

  -- "A block's instructions are `count` rows from `first`"
  pub head_rows : {first count id : ℕ} {span : Span} → Heads ws b first count id span → instruction_rows_at (table_of ws) b ≡ rows_from first count
  head_rows h = rw (h.is_first, h.is_count)

module _ {ws : List ℕ} {i : ℕ} (p : Promise ws) (inside : i < instruction_count ws) where
  pub instructs : {id lvalue from to : ℕ} → id ≡ instruction_word ws i 0 → lvalue ≡ instruction_word ws i 1 → from ≡ instruction_word ws i 5 → to ≡ instruction_word ws i 6
      → Instructs ws i id lvalue (record { from = from; to = to })
  unfolding instruction_of
  instructs ei el eb et =
      let row = instruction_at_lem ws i inside in
      record {
        few = p.sized.limited.places;
        is_id = rw (row, ei);
        is_lvalue = rw (row, el);
        is_span = rw (row, eb, et);
        there = rw el (lvalue_below ws p i inside);
      }

  pub operates : {done : Operation} {code p q : ℕ} → done ≡ operation_of code p q → code ≡ operation_code_at ws i → p ≡ instruction_word ws i 3 → q ≡ instruction_word ws i 4 → Operates ws i done
  unfolding instruction_of
  operates made ecode ep eq =
      let is = ap (λ (k : Instruction). k.operation) (instruction_at_lem ws i inside) ∙ sym (rw (ecode, ep, eq) at made) in
      record { few = p.sized.limited.places; is = is; named = subst (OperandsInRange (place_count ws)) is (operands_in_range ws p i inside) }

pub chooses : {ws : List ℕ} {i test block : ℕ} → Promise ws → i < case_count ws → test ≡ case_word ws i 0 → block ≡ case_word ws i 1 → Chooses ws i test block
unfolding case_of case_rules place_or_none
chooses {ws} {i} p inside et eb = record {
  few = p.sized.limited.blocks;
  is = λ beyond. rw (et, eb) (case_at_lem ws i beyond inside);
  tested = rw et (below_unless_none _ _ (p.case i inside 0 (omega arith)));
  there = rw eb (case_block ws p i inside);
}
