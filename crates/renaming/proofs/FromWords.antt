-- The table that the renamed words stand for is the first table, renamed.
use mathlib.Core.Path.{◌≡◌, refl, sym, ap, ◌∙◌, subst}
use Prim.Native.Nat.{ℕ, zero, suc, ◌<◌, ◌≤◌}
use native.Mathlib.Omega.{arith}
use mathlib.Core.List.{List, ◌∷◌, map}
use mathlib.Core.Option
use mathlib.Core.Option.{Option, none, some}
use mathlib.Core.Bool.{Bool, true, false}
use lib.ListN.{get_or, get_or-eq_default}
use lib.Dec.{eqb, ltb}
use borrow.Author.Tests.{eq-eqb, ne_eqb, eqb-true, eqb-false, ltb-true, ltb-false}
use Rattle.table.specs.Words.{block_count, instruction_count, case_count, place_count, identifier_count, block_word, place_word, identifier_word, largest}
use Rattle.table.specs.Table.{Table, Block, no_block, Instruction, Case, Terminal, for, terminal_of, unless_none, block_of}
use Rattle.table.specs.Table.{instruction_of, case_of, tabulate, table_of, block_at}
use Rattle.table.specs.Promise.{Promise}
use Rattle.table.proofs.TableLaws.{length_blocks, block_at_lem}
use Rattle.table.proofs.RangeLaws.{code_known}
use Rattle.tree_grammar.proofs.Upto.{ends, ◌and◌, upto}
use Rattle.renaming.specs.Renaming.{Renaming, names_block, renamed_if, renamed_block_row, RenamedWords}
use Rattle.renaming.proofs.Alike.{new_below, one_old}
use Rattle.renaming.proofs.Tables.{renamed_terminal, renamed_block, renamed_case, renamed_table, Reordered}

-- ---- a terminal

module _ (new : ℕ → ℕ) (one : (a b : ℕ) → new a ≡ new b → a ≡ b) (none_stays : new largest ≡ largest) where
  unless_none_same : (w : ℕ) → unless_none (new w) ≡ Option.map new (unless_none w)
  unfolding unless_none
  unless_none_same w = by (eqb w largest) refl
    where
      by : (y : Bool) → eqb w largest ≡ y → elim (eqb (new w) largest) [ true ↦ none | false ↦ some (new w) ] ≡ Option.map new (elim y [ true ↦ none | false ↦ some w ])
      by true e = rw (eq-eqb (new w) largest (ap new (eqb-true _ _ e) ∙ none_stays))
      by false e = rw (ne_eqb (new w) largest (λ q. eqb-false _ _ e (one w largest (q ∙ sym none_stays))))

  -- each code in turn
  terminal_same : (a b c d e code : ℕ) → code < 22
      → terminal_of code (renamed_if (names_block code 0) new a) (renamed_if (names_block code 1) new b) (renamed_if (names_block code 2) new c)
      (renamed_if (names_block code 3) new d) (renamed_if (names_block code 4) new e)
      ≡ renamed_terminal new (terminal_of code a b c d e)
  unfolding terminal_of names_block
  terminal_same a b c d e = upto _ 22
      (refl and refl and refl and refl and refl and refl and refl and refl and refl and refl and
      ap (λ (u : Option ℕ). for (new a) (new b) u (new d) (new e)) (unless_none_same c)
      and refl and refl and refl and refl and refl and refl and refl and refl and refl and refl and refl and ends)

-- ---- the table

module _ {A : Type 0} where
  tabulate_same : (f g : ℕ → A) (n : ℕ) → ((i : ℕ) → i < n → f i ≡ g i) → tabulate f n ≡ tabulate g n
  unfolding tabulate
  tabulate_same f g zero h = refl
  tabulate_same f g (suc n) h =
      ap (λ (x : A). x ∷ tabulate (λ i. f (suc i)) n) (h 0 (omega arith)) ∙ ap (λ (l : List A). g 0 ∷ l) (tabulate_same (λ i. f (suc i)) (λ i. g (suc i)) n (λ i l. h (suc i) (omega arith)))

module _ {A B : Type 0} where
  map_tabulate : (k : A → B) (f : ℕ → A) (n : ℕ) → map k (tabulate f n) ≡ tabulate (λ i. k (f i)) n
  unfolding tabulate
  map_tabulate k f zero = refl
  map_tabulate k f (suc n) = ap (λ (l : List B). k (f 0) ∷ l) (map_tabulate k (λ i. f (suc i)) n)

same_tables : (blocks : List Block) {e e' : ℕ} {i i' : List Instruction} {c c' : List Case} {p p' n n' : List ℕ} → e ≡ e' → i ≡ i' → c ≡ c' → p ≡ p' → n ≡ n'
    → ◌≡◌ {A = Table} (record { entry = e; blocks = blocks; instructions = i; cases = c; places = p; named = n })
    (record { entry = e'; blocks = blocks; instructions = i'; cases = c'; places = p'; named = n' })
same_tables blocks e i c p n = cc

module _ (new old : ℕ → ℕ) (ws ws' : List ℕ) (p : Promise ws) (g : Renaming (block_count ws) new old) (r : RenamedWords new old ws ws') where
  none_stays : new largest ≡ largest
  none_stays = g.beyond largest (omega (arith, p.sized.limited.blocks))

  module _ (b : ℕ) (h : b < block_count ws) where
    below : new b < block_count ws
    below = new_below (block_count ws) new old g (block_count ws) (omega arith) b h

    column : (k : ℕ) → k < 11 → block_word ws' (new b) k ≡ get_or (renamed_block_row new ws b) k 0
    column k l = subst (λ (z : ℕ). block_word ws' (new b) k ≡ get_or (renamed_block_row new ws z) k 0) (g.old_new b) (r.block (new b) below k l)

    block_renamed : block_of ws' (new b) ≡ renamed_block new (block_of ws b)
    unfolding block_of renamed_block_row
    block_renamed =
        rw (
          column 0 (omega arith),
          column 1 (omega arith),
          column 2 (omega arith),
          column 3 (omega arith),
          column 4 (omega arith),
          column 5 (omega arith),
          column 6 (omega arith),
          column 7 (omega arith),
          column 8 (omega arith),
          column 9 (omega arith),
          column 10 (omega arith),
        )
        (ap (λ (x : Terminal). record {
          first = block_word ws b 0;
          count = block_word ws b 1;
          terminal = x;
          id = block_word ws b 8;
          span = record { from = block_word ws b 9; to = block_word ws b 10 };
        })
        (terminal_same new (one_old (block_count ws) new old g) none_stays (block_word ws b 3) (block_word ws b 4) (block_word ws b 5) (block_word ws b 6)
        (block_word ws b 7) (block_word ws b 2) (omega (arith, code_known ws p b h))))

  pub blocks_reordered : Reordered new (table_of ws).blocks (table_of ws').blocks
  blocks_reordered b = by (ltb b (block_count ws)) refl
    where
      by : (y : Bool) → ltb b (block_count ws) ≡ y → block_at (table_of ws') (new b) ≡ renamed_block new (block_at (table_of ws) b)
      by true e =
          let h : b < block_count ws = ltb-true _ _ e in
          block_at_lem ws' (new b) (omega (arith, below b h, r.blocks)) ∙ (block_renamed b h ∙ ap (renamed_block new) (sym (block_at_lem ws b h)))
      by false e =
          let h : block_count ws ≤ b = ltb-false _ _ e in
          rw (g.beyond b h)
          (get_or-eq_default (table_of ws').blocks no_block (omega (arith, length_blocks ws', r.blocks))
          ∙ ap (renamed_block new) (sym (get_or-eq_default (table_of ws).blocks no_block (omega (arith, length_blocks ws)))))

  instructions_same : (table_of ws').instructions ≡ (table_of ws).instructions
  unfolding table_of instruction_of
  instructions_same = rw r.instructions (tabulate_same (instruction_of ws') (instruction_of ws) (instruction_count ws) (λ i h.
      rw (
        r.instruction i h 0 (omega arith),
        r.instruction i h 1 (omega arith),
        r.instruction i h 2 (omega arith),
        r.instruction i h 3 (omega arith),
        r.instruction i h 4 (omega arith),
        r.instruction i h 5 (omega arith),
        r.instruction i h 6 (omega arith),
      )))

  cases_same : (table_of ws').cases ≡ map (renamed_case new) (table_of ws).cases
  unfolding table_of case_of
  cases_same =
      rw r.cases (tabulate_same (case_of ws') (λ i. renamed_case new (case_of ws i)) (case_count ws) (λ i h. rw (r.case_test i h, r.case_block i h)) ∙ sym
      (map_tabulate (renamed_case new) (case_of ws) (case_count ws)))

  places_same : (table_of ws').places ≡ (table_of ws).places
  unfolding table_of
  places_same = rw r.places (tabulate_same (place_word ws') (place_word ws) (place_count ws) r.place)

  named_same : (table_of ws').named ≡ (table_of ws).named
  unfolding table_of
  named_same = rw r.identifiers (tabulate_same (identifier_word ws') (identifier_word ws) (identifier_count ws) r.identifier)

  entry_same : (table_of ws').entry ≡ new (table_of ws).entry
  unfolding table_of
  entry_same = r.entry

  pub table_renamed : table_of ws' ≡ renamed_table new (table_of ws').blocks (table_of ws)
  table_renamed = same_tables (table_of ws').blocks entry_same instructions_same cases_same places_same named_same
