-- A block's last instruction, by its words.
use mathlib.Core.Path.{◌≡◌, refl, sym, subst}
use Prim.Native.Nat.{ℕ, zero, suc, ◌+◌, ◌-◌, ◌<◌, ◌≤◌}
use native.Mathlib.Omega.{arith}
use mathlib.Core.List.{List, []}
use lib.Dec.{eqb}
use mathlib.Core.Bool.{Bool, true, false, not}
use Rattle.table.specs.declared.columns.Span.{Span}
use Rattle.table.specs.Words.{block_count, identifier_count, place_word, identifier_word}
use Rattle.table.specs.Table.{Table, Block, table_of, instruction_at, instruction_rows_at, instruction_rows, rows_from}
use Rattle.table.specs.Table.{other, load_local, store_local}
use Rattle.table.specs.Promise.{Promise, Heads, Operates, Instructs}
use Rattle.table.proofs.TableLaws.{place_at, named_at}
use Rattle.definition.specs.Value.{stored_to_named, same_identifier}
use Rattle.plain.specs.declared.tail.Tail.{Tail}
use Rattle.plain.specs.declared.tail.Tail.TheVariants.{Other, Load, Store}
use Rattle.plain.specs.Tails.{IsTail, EndsIn}
use Rattle.plain.proofs.TerminalLaws.{beyond_block}

not_not : (b : Bool) → not (not b) ≡ b
not_not true = refl
not_not false = refl

-- ---- of one instruction

module _ {ws : List ℕ} {i : ℕ} where
  pub tail_other : Operates ws i other → IsTail (table_of ws) (instruction_at (table_of ws) i) Other
  unfolding stored_to_named same_identifier
  tail_other o = record { store = rw o.is refl; unnamed = rw o.is refl; own = rw o.is refl }

  pub tail_load : {id lvalue place loaded own : ℕ} {span : Span} → Instructs ws i id lvalue span → Operates ws i (load_local place) → loaded ≡ place_word ws place
      → own ≡ place_word ws lvalue → IsTail (table_of ws) (instruction_at (table_of ws) i) (Load (eqb loaded own))
  unfolding stored_to_named same_identifier
  tail_load {lvalue = lvalue} {place = place} head o e f = record {
    store = rw o.is refl;
    unnamed = rw o.is refl;
    own = rw (o.is, head.is_lvalue, place_at ws place 0 o.named, place_at ws lvalue 0 head.there, e, f) refl;
  }

  pub tail_store : {to value identifier : ℕ} {named : Bool} → Promise ws → Operates ws i (store_local to value) → identifier ≡ place_word ws to
      → named ≡ not (eqb (identifier_word ws identifier) 0) → IsTail (table_of ws) (instruction_at (table_of ws) i) (Store (not named))
  unfolding stored_to_named same_identifier
  tail_store {to} p o e n =
      let known : place_word ws to < identifier_count ws = p.place to o.named.0 in
      record {
        store = rw o.is refl;
        unnamed = rw (o.is, place_at ws to 0 o.named.0, named_at ws (place_word ws to) 0 known, n, e) (not_not _);
        own = rw o.is refl;
      }

-- ---- of a block

none_ends : (t : Table) → EndsIn t [] Other
none_ends t = record { store = refl; unnamed = refl; own = refl }

pub tail_beyond : {ws : List ℕ} → Promise ws → (b : ℕ) → block_count ws ≤ b → EndsIn (table_of ws) (instruction_rows_at (table_of ws) b) Other
tail_beyond {ws} p b h = subst (λ (k : Block). EndsIn (table_of ws) (instruction_rows k) Other) (sym (beyond_block p b h)) (none_ends (table_of ws))

rows_end : (t : Table) (first n i : ℕ) {tail : Tail} → i ≡ first + n → IsTail t (instruction_at t i) tail → EndsIn t (rows_from first (suc n)) tail
rows_end t first zero i e k =
    let here : i ≡ first = omega (arith, e) in
    let last = rw here at k in
    record { store = last.store; unnamed = last.unnamed; own = last.own }
rows_end t first (suc n) i e k =
    let last = rows_end t (suc first) n i (omega (arith, e)) k in
    record { store = last.store; unnamed = last.unnamed; own = last.own }

last_end : (t : Table) (first count : ℕ) {tail : Tail} → (count ≡ 0 → ⊥) → IsTail t (instruction_at t (first + count - 1)) tail → EndsIn t (rows_from first count) tail
last_end t first zero f k = absurd (f refl)
last_end t first (suc n) f k = rows_end t first n (first + suc n - 1) (omega arith) k

module _ {ws : List ℕ} {b first count id : ℕ} {span : Span} (head : Heads ws b first count id span) where
  pub tail_empty : count ≡ 0 → EndsIn (table_of ws) (instruction_rows_at (table_of ws) b) Other
  tail_empty e = rw (head.is_count, e) (none_ends (table_of ws))

  pub tail_last : {tail : Tail} → (count ≡ 0 → ⊥) → IsTail (table_of ws) (instruction_at (table_of ws) (first + count - 1)) tail
      → EndsIn (table_of ws) (instruction_rows_at (table_of ws) b) tail
  tail_last f k = rw (head.is_count, head.is_first) (last_end (table_of ws) first count f k)
