-- The value of a block's instructions: the last of them, with the others in a sequence before it.
use mathlib.Core.Path.{◌≡◌, refl, sym, ap, ◌∙◌}
use mathlib.Core.Bool.{Bool, true, false, not, ◌&&◌}
use mathlib.Core.List.{List, [], ◌∷◌}
use Prim.Native.Nat.{ℕ, zero, suc, ◌+◌, ◌-◌, ◌<◌}
use native.Mathlib.Omega.{arith}
use lib.Dec.{eqb}
use borrow.Author.Tests.{ne_eqb, eqb-true, eqb-false}
use Rattle.table.specs.declared.columns.Span.{Span}
use Rattle.table.specs.Words.{place_count, place_word, identifier_word}
use Rattle.table.specs.Table.{Operation, other, load_local, store_local, table_of, Variant, goto, terminal_at, block_at, instruction_at, instruction_rows_at, rows_from, is_goto}
use Rattle.table.specs.Promise as table
use Rattle.table.specs.Promise.{Promise, Heads, Instructs, Operates, OperandsInRange}
use Rattle.table.proofs.ColumnLaws.{head_rows}
use Rattle.table.proofs.TableLaws.{place_at, named_at}
use Rattle.std.specs.Prelude.{Some, None}
use Rattle.table.specs.declared.columns.Operation as code
use Rattle.table.specs.declared.columns.Operation.TheVariants as operation
use Rattle.table.specs.declared.terminals.Terminal as end
use Rattle.table.specs.declared.terminals.Terminal.TheVariants as end_as
use Rattle.table.specs.declared.terminals.Goto.{Goto}
use Rattle.table.specs.Ending.{ending, operating}
use Rattle.values.proofs.EndingLaws.{no_goto}
use Rattle.std.specs.Bool.{then_some}
use Rattle.definition.specs.Result.{Result, ok, refused}
use Rattle.definition.specs.Tree.{PLAIN, LOAD}
use Rattle.definition.specs.Value.{ValueBlockResult, wrap_with_sequence, final_value, final_place, stored_to_named, all_but_last}
use Rattle.definition.specs.Value.{last, extract_value_block_result, extract_or_refuse, branch_value, is_empty, is_empty_goto}
use Rattle.values.specs.Met.{loads, Ends, UnnamedStore}
use Rattle.values.proofs.MetLaws.{wrap}

-- ---- one instruction, by its operation

plain_value : (i : ℕ) (o : Operation) (named : ℕ) → (named ≡ 0 → ⊥) → final_value i o named ≡ PLAIN i
unfolding final_value
plain_value i other n f = refl
plain_value i (load_local p) n f = refl
plain_value i (store_local p q) zero f = absurd (f refl)
plain_value i (store_local p q) (suc n) f = refl

plain_place : (lvalue : ℕ) (o : Operation) (named : ℕ) → (named ≡ 0 → ⊥) → final_place o named lvalue ≡ lvalue
unfolding final_place
plain_place l other n f = refl
plain_place l (load_local p) n f = refl
plain_place l (store_local p q) zero f = absurd (f refl)
plain_place l (store_local p q) (suc n) f = refl

module _ {ws : List ℕ} (p : Promise ws) {to value identifier : ℕ} (inside : OperandsInRange (place_count ws) (store_local to value)) (e : identifier ≡ place_word ws to) where
  -- the name of what a StoreLocal stores to
  name_is : stored_to_named (table_of ws) (store_local to value) ≡ identifier_word ws identifier
  unfolding stored_to_named
  name_is = rw (place_at ws to 0 inside.0, named_at ws (place_word ws to) 0 (p.place to inside.0), e)

  pub stores_unnamed : {named : Bool} → named ≡ not (eqb (identifier_word ws identifier) 0) → UnnamedStore ws (store_local to value) (then_some (not named) (to, value))
  stores_unnamed {named = named} n = by (eqb (identifier_word ws identifier) 0) refl named n
    where
      by : (y : Bool) → eqb (identifier_word ws identifier) 0 ≡ y → (named : Bool) → named ≡ not (eqb (identifier_word ws identifier) 0)
          → UnnamedStore ws (store_local to value) (then_some (not named) (to, value))
      by true e named q = rw (q, e) (refl, name_is ∙ eqb-true _ 0 e)
      by false e named q = rw (q, e) (λ z. eqb-false _ 0 e (sym name_is ∙ z))

-- no other operation stores
pub other_stores : (ws : List ℕ) (o : code.Operation) → ((to value : ℕ) → o ≡ operation.StoreLocal to value → ⊥) → UnnamedStore ws (operating o) None
unfolding stored_to_named
other_stores ws operation.Other f = λ z. omega (arith, z)
other_stores ws (operation.LoadLocal place) f = λ z. omega (arith, z)
other_stores ws (operation.StoreLocal to value) f = absurd (f to value refl)

module _ {ws : List ℕ} {i id lvalue : ℕ} {span : Span} (head : Instructs ws i id lvalue span) (block visits : ℕ) {o : Operation} (is : (instruction_at (table_of ws) i).operation ≡ o) where
  -- "Last instruction StoreLocal to an unnamed identifier"
  pub extract_load : {to value : ℕ} → o ≡ store_local to value → stored_to_named (table_of ws) o ≡ 0
      → extract_value_block_result (table_of ws) block i [] visits ≡ record { block = block; place = to; value = LOAD value; id = id; visits = visits }
  unfolding extract_value_block_result last all_but_last wrap_with_sequence final_value final_place
  extract_load e n = rw (is, n) (rw (e, head.is_id))

  pub extract_plain : (stored_to_named (table_of ws) o ≡ 0 → ⊥)
      → extract_value_block_result (table_of ws) block i [] visits ≡ record { block = block; place = lvalue; value = PLAIN i; id = id; visits = visits }
  unfolding extract_value_block_result last all_but_last wrap_with_sequence
  extract_plain f =
      let named : ℕ = stored_to_named (table_of ws) o in
      rw is (rw (plain_value i o named f, plain_place (instruction_at (table_of ws) i).lvalue o named f, head.is_id, head.is_lvalue))

-- ---- several instructions

last_row : (first n : ℕ) → last first (rows_from (suc first) n) ≡ first + n
unfolding last
last_row first zero = omega arith
last_row first (suc n) = omega (arith, last_row (suc first) n)

front_rows : (first n : ℕ) → all_but_last first (rows_from (suc first) n) ≡ rows_from first n
unfolding all_but_last
front_rows first zero = refl
front_rows first (suc n) = ap (λ (l : List ℕ). first ∷ l) (front_rows (suc first) n)

pub extract_many : (ws : List ℕ) (block first n visits : ℕ) → extract_value_block_result (table_of ws) block first (rows_from (suc first) n) visits
    ≡ wrap ws first n (extract_value_block_result (table_of ws) block (first + n) [] visits)
unfolding extract_value_block_result
extract_many ws block first n visits = rw (last_row first n, front_rows first n) (unfold last all_but_last wrap_with_sequence in refl)

rows_more : (first : ℕ) {count : ℕ} → (count ≡ 0 → ⊥) → rows_from first count ≡ first ∷ rows_from (suc first) (count - 1)
rows_more first {count = zero} f = absurd (f refl)
rows_more first {count = suc n} f = let e : suc n - 1 ≡ n = omega arith in rw e

module _ {ws : List ℕ} {block first count id : ℕ} {span : Span} (head : Heads ws block first count id span) (ends_in visits : ℕ) where
  abbrev rows : List ℕ
  rows = instruction_rows_at (table_of ws) block

  -- of the first instruction and the others, where there is one
  abbrev extracted : Result ValueBlockResult
  extracted = ok (extract_value_block_result (table_of ws) ends_in first (rows_from (suc first) (count - 1)) visits)

  rows_some : (count ≡ 0 → ⊥) → rows ≡ first ∷ rows_from (suc first) (count - 1)
  rows_some f = head_rows head ∙ rows_more first f

  rows_none : count ≡ 0 → rows ≡ []
  rows_none e = head_rows head ∙ ap (rows_from first) e

  pub extract_some : (code at : ℕ) → (count ≡ 0 → ⊥) → extract_or_refuse (table_of ws) ends_in rows visits code at ≡ extracted
  unfolding extract_or_refuse
  extract_some code at f = rw (rows_some f)

  pub extract_none : (code at : ℕ) → count ≡ 0 → extract_or_refuse (table_of ws) ends_in rows visits code at ≡ refused code at visits
  unfolding extract_or_refuse
  extract_none code at e = rw (rows_none e)

  pub branch_some : (test number : ℕ) → (count ≡ 0 → ⊥) → branch_value (table_of ws) ends_in test number rows visits ≡ extracted
  unfolding branch_value
  branch_some test number f = rw (rows_some f)

  pub branch_none : (test number : ℕ) → count ≡ 0
      → branch_value (table_of ws) ends_in test number rows visits ≡ ok (record { block = ends_in; place = test; value = LOAD test; id = number; visits = visits })
  unfolding branch_value
  branch_none test number e = rw (rows_none e)

-- the value of a LOAD that the walk makes
pub load_ends : {ws : List ℕ} {place : ℕ} → place < place_count ws → Ends ws (LOAD place) (loads (Some place))
load_ends h = record { sequences = refl; instructions = refl; loaded = refl; there = h }

-- ---- an empty Goto block

module _ {ws : List ℕ} {block first count id : ℕ} {span : Span} (head : Heads ws block first count id span) where
  goto_by : (list : List ℕ) → rows_from first count ≡ list → is_empty_goto (block_at (table_of ws) block) ≡ is_empty list && is_goto (terminal_at (table_of ws) block)
  unfolding is_empty_goto
  goto_by list e = ap (λ (l : List ℕ). is_empty l && is_goto (terminal_at (table_of ws) block)) (head_rows head ∙ e)

  pub goto_full : (count ≡ 0 → ⊥) → eqb count 0 ≡ is_empty_goto (block_at (table_of ws) block)
  goto_full f = ne_eqb count 0 f ∙ by first count f ∙ sym (goto_by (rows_from first count) refl)
    where
      by : (first count : ℕ) → (count ≡ 0 → ⊥) → false ≡ is_empty (rows_from first count) && is_goto (terminal_at (table_of ws) block)
      by first zero g = absurd (g refl)
      by first (suc n) g = refl

  pub goto_empty : {x : ℕ} {v : Variant} → table.Ends ws block (goto x v) → count ≡ 0 → true ≡ is_empty_goto (block_at (table_of ws) block)
  goto_empty ends e = ap is_goto (sym ends.is) ∙ sym (goto_by [] (ap (rows_from first) e))

  pub other_empty : (e : end.Terminal) → table.Ends ws block (ending e) → ((x : Goto) → e ≡ end_as.Goto x → ⊥) → count ≡ 0 → false ≡ is_empty_goto (block_at (table_of ws) block)
  other_empty e ends f z = sym (no_goto e f) ∙ ap is_goto (sym ends.is) ∙ sym (goto_by [] (ap (rows_from first) z))
