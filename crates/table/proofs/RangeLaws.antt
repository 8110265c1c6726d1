-- What the promise gives of a row, whatever its code; and so of the table's rows.
use Prim.Native.Nat.{ℕ, zero, suc, ◌+◌, ◌<◌, ◌≤◌}
use mathlib.Core.Path.{◌≡◌, refl, sym, subst}
use mathlib.Core.List.{List, [], ◌∷◌}
use mathlib.Core.Bool.{Bool, true, false, ◌||◌}
use mathlib.Core.Option.{none, some}
use mathlib.Core.Logic.{◌⊎◌, inl, inr, ⊎_elim}
use native.Mathlib.Omega.{arith}
use lib.ListN.{get_or, get_or-replicate}
use lib.Dec.{ltb, eqb}
use borrow.Author.Tests.{eqb-true, eqb-false, ltb-true}
use Rattle.table.specs.Words.{block_count, instruction_count, case_count, place_count, block_word, instruction_word, case_word, largest}
use Rattle.table.specs.Check.{Rule, unused, number, row_or_none, rows_from, fits, block, block_or_none, place, place_or_none, rules_by_code, terminal_rules}
use Rattle.table.specs.Check.{block_rules, operand_rules, instruction_rules, case_rules}
use Rattle.table.specs.Table.{Block, Terminal, absent, terminals_by_code, terminal_of, unless_none, operation_of, block_at, block_of, terminal_at, instruction_at, instruction_of, table_of}
use Rattle.table.specs.Promise.{Promise, InRange, OperandsInRange, BelowUnlessNone}
use Rattle.table.proofs.RuleLaws.{absent as absent_rules, present as present_rules}
use Rattle.table.proofs.TableLaws.{block_at_lem, instruction_at_lem}
use Rattle.table.proofs.PromiseLaws.{unused_zero, number_most, row_below, rows_within, none_or_below}

pub below_unless_none : (rows w : ℕ) → fits (row_or_none rows) w ≡ true → BelowUnlessNone rows (unless_none w)
unfolding fits unless_none
below_unless_none rows w h = go (eqb w largest) h
  where
    go : (t : Bool) → t || ltb w rows ≡ true → BelowUnlessNone rows (elim t [ true ↦ none | false ↦ some w ])
    go true h = tt
    go false h = ltb-true w rows h

-- ---- a block

below_5 : (P : ℕ → Type 0) → P 0 → P 1 → P 2 → P 3 → P 4 → (k : ℕ) → k < 5 → P k
below_5 P a b c d e zero l = a
below_5 P a b c d e (suc zero) l = b
below_5 P a b c d e (suc (suc zero)) l = c
below_5 P a b c d e (suc (suc (suc zero))) l = d
below_5 P a b c d e (suc (suc (suc (suc zero)))) l = e
below_5 P a b c d e (suc (suc (suc (suc (suc k))))) l = absurd (omega arith)

-- lists in step: what holds of the heads and of the rest holds at every place
data Each (P : Terminal → List Rule → Type 0) : List Terminal → List (List Rule) → Type 0 where
  ends : Each P [] []
  ◌and◌ : {t : Terminal} {ts : List Terminal} {r : List Rule} {rs : List (List Rule)} → P t r → Each P ts rs → Each P (t ∷ ts) (r ∷ rs)

infixr 5 ◌and◌
each : (P : Terminal → List Rule → Type 0) → P absent [] → (ts : List Terminal) (rs : List (List Rule)) → Each P ts rs → (n : ℕ) → P (get_or ts n absent) (get_or rs n [])
each P o [] [] ends n = o
each P o [] (r ∷ rs) h n = elim h [ ]
each P o (t ∷ ts) [] h n = elim h [ ]
each P o (t ∷ ts) (r ∷ rs) (h and hs) zero = h
each P o (t ∷ ts) (r ∷ rs) (h and hs) (suc n) = each P o ts rs hs n

-- columns that fit the rules of a code give a terminal in range
module _ (ws : List ℕ) (code a b c d e : ℕ) where
  record Fitting (rules : List Rule) : Type 0 where
    fit_a : fits (get_or rules 0 unused) a ≡ true
    fit_b : fits (get_or rules 1 unused) b ≡ true
    fit_c : fits (get_or rules 2 unused) c ≡ true
    fit_d : fits (get_or rules 3 unused) d ≡ true
    fit_e : fits (get_or rules 4 unused) e ≡ true

  abbrev Ranged : Terminal → Type 0
  Ranged = InRange (block_count ws) (place_count ws) (case_count ws)

  terminal_in_range : Fitting (terminal_rules ws code b) → Ranged (terminal_of code a b c d e)
  unfolding terminal_rules terminal_of block block_or_none place place_or_none
  terminal_in_range = each (λ t rules. Fitting rules → Ranged t) (λ _. tt) (terminals_by_code a b c d e) (rules_by_code ws b)
      ((λ h. tt)
      and (λ h. tt)
      and (λ h. row_below _ _ h.fit_a)
      and (λ h. row_below _ _ h.fit_a)
      and (λ h. row_below _ _ h.fit_a)
      and (λ h. (row_below _ _ h.fit_a, row_below _ _ h.fit_b, row_below _ _ h.fit_c, row_below _ _ h.fit_d))
      and (λ h. (row_below _ _ h.fit_a, row_below _ _ h.fit_b, row_below _ _ h.fit_c))
      and (λ h. (row_below _ _ h.fit_a, rows_within _ _ _ h.fit_c, row_below _ _ h.fit_d))
      and (λ h. (row_below _ _ h.fit_a, row_below _ _ h.fit_b, row_below _ _ h.fit_c))
      and (λ h. (row_below _ _ h.fit_a, row_below _ _ h.fit_b, row_below _ _ h.fit_c))
      and (λ h. (row_below _ _ h.fit_a, row_below _ _ h.fit_b, below_unless_none _ _ h.fit_c, row_below _ _ h.fit_d, row_below _ _ h.fit_e))
      and (λ h. (row_below _ _ h.fit_a, row_below _ _ h.fit_b, row_below _ _ h.fit_c, row_below _ _ h.fit_d))
      and (λ h. (row_below _ _ h.fit_a, row_below _ _ h.fit_b, row_below _ _ h.fit_c))
      and (λ h. (number_most _ _ h.fit_a, row_below _ _ h.fit_b, row_below _ _ h.fit_c))
      and (λ h. (row_below _ _ h.fit_a, row_below _ _ h.fit_b))
      and (λ h. (number_most _ _ h.fit_a, row_below _ _ h.fit_b, row_below _ _ h.fit_c))
      and (λ h. (row_below _ _ h.fit_a, row_below _ _ h.fit_b))
      and (λ h. (row_below _ _ h.fit_a, row_below _ _ h.fit_b))
      and (λ h. row_below _ _ h.fit_a)
      and (λ h. (row_below _ _ h.fit_a, row_below _ _ h.fit_b, row_below _ _ h.fit_c, below_unless_none _ _ h.fit_d))
      and (λ h. (row_below _ _ h.fit_a, row_below _ _ h.fit_b, number_most _ _ h.fit_c))
      and (λ h. (row_below _ _ h.fit_a, row_below _ _ h.fit_b, number_most _ _ h.fit_c))
      and ends)
      code

module _ (ws : List ℕ) (b : ℕ) where
  -- a terminal column's rule is that of the code; of a row with code 0 all are unused
  same : (k : ℕ) → k < 5 → get_or (block_rules ws b) (3 + k) unused ≡ get_or (terminal_rules ws (block_word ws b 2) (block_word ws b 4)) k unused
  unfolding terminal_rules
  same = go (eqb (block_word ws b 2) 0) refl
    where
      P : ℕ → Type 0
      P k = get_or (block_rules ws b) (3 + k) unused ≡ get_or (terminal_rules ws (block_word ws b 2) (block_word ws b 4)) k unused

      go : (t : Bool) → eqb (block_word ws b 2) 0 ≡ t → (k : ℕ) → k < 5 → P k
      go true e = let z : block_word ws b 2 ≡ 0 = eqb-true _ _ e in let r : block_rules ws b ≡ _ = absent_rules ws b z in
          below_5 P (rw (r, z)) (rw (r, z)) (rw (r, z)) (rw (r, z)) (rw (r, z))
      go false e = let r : block_rules ws b ≡ _ = present_rules ws b (eqb-false _ _ e) in below_5 P (rw r) (rw r) (rw r) (rw r) (rw r)

module _ (ws : List ℕ) (p : Promise ws) (b : ℕ) (inside : b < block_count ws) where
  -- at a numeral code the rule computes
  pub terminal_fits : (k : ℕ) → k < 5 → fits (get_or (terminal_rules ws (block_word ws b 2) (block_word ws b 4)) k unused) (block_word ws b (3 + k)) ≡ true
  terminal_fits k l = rw (← (same ws b k l)) (p.block b inside (3 + k) (omega arith))

  -- a row with code 0 is 0 throughout
  pub absent_zero : block_word ws b 2 ≡ 0 → (k : ℕ) → k < 11 → block_word ws b k ≡ 0
  absent_zero z k l = unused_zero _ (rw (get_or-replicate 11 k unused unused l) at (rw (absent_rules ws b z) at (p.block b inside k l)))

  -- the other columns, whatever the code
  rule_at : (k : ℕ) {rule : Rule} → k < 11 → ((block_word ws b 2 ≡ 0 → ⊥) → get_or (block_rules ws b) k unused ≡ rule) → (t : Bool) → eqb (block_word ws b 2) 0 ≡ t
      → (block_word ws b 2 ≡ 0) ⊎ (fits rule (block_word ws b k) ≡ true)
  rule_at k l f true e = inl (eqb-true _ _ e)
  rule_at k l f false e = inr (rw (f (eqb-false _ _ e)) at (p.block b inside k l))

  pub code_known : block_word ws b 2 ≤ 21
  code_known = ⊎_elim (λ z. omega arith) (λ h. number_most _ _ h) (rule_at 2 {rule = number 21} (omega arith) (λ f. rw (present_rules ws b f)) (eqb (block_word ws b 2) 0) refl)

  pub run_within : block_word ws b 0 + block_word ws b 1 ≤ instruction_count ws
  run_within = ⊎_elim (λ z. omega (arith, absent_zero z 0 (omega arith), absent_zero z 1 (omega arith))) (λ h. rows_within _ _ _ h)
      (rule_at 1 {rule = rows_from (block_word ws b 0) (instruction_count ws)} (omega arith) (λ f. rw (present_rules ws b f)) (eqb (block_word ws b 2) 0) refl)

  -- of the table's row
  pub in_range_lem : InRange (block_count ws) (place_count ws) (case_count ws) (terminal_at (table_of ws) b)
  unfolding block_of
  in_range_lem = subst (λ (x : Block). InRange (block_count ws) (place_count ws) (case_count ws) x.terminal) (sym (block_at_lem ws b inside))
      (terminal_in_range ws (block_word ws b 2) (block_word ws b 3) (block_word ws b 4) (block_word ws b 5) (block_word ws b 6) (block_word ws b 7) fitting)
    where
      fitting : Fitting ws (block_word ws b 2) (block_word ws b 3) (block_word ws b 4) (block_word ws b 5) (block_word ws b 6) (block_word ws b 7)
          (terminal_rules ws (block_word ws b 2) (block_word ws b 4))
      fitting = record {
        fit_a = terminal_fits 0 (omega arith);
        fit_b = terminal_fits 1 (omega arith);
        fit_c = terminal_fits 2 (omega arith);
        fit_d = terminal_fits 3 (omega arith);
        fit_e = terminal_fits 4 (omega arith);
      }

  pub run_in_range : (block_at (table_of ws) b).first + (block_at (table_of ws) b).count ≤ instruction_count ws
  unfolding block_of
  run_in_range = rw (block_at_lem ws b inside) run_within

-- ---- an instruction

module _ (ws : List ℕ) (p : Promise ws) (i : ℕ) (inside : i < instruction_count ws) where
  pub lvalue_below : instruction_word ws i 1 < place_count ws
  unfolding instruction_rules place
  lvalue_below = row_below _ _ (p.instruction i inside 1 (omega arith))

  pub operation_known : instruction_word ws i 2 ≤ 2
  unfolding instruction_rules
  operation_known = number_most _ _ (p.instruction i inside 2 (omega arith))

  pub operands_in_range : OperandsInRange (place_count ws) (instruction_at (table_of ws) i).operation
  unfolding instruction_of instruction_rules operand_rules operation_of place
  operands_in_range = rw (instruction_at_lem ws i inside) (go (instruction_word ws i 2) operation_known (p.instruction i inside 3 (omega arith)) (p.instruction i inside 4 (omega arith)))
    where
      go : (code : ℕ) → code ≤ 2 → fits (get_or (operand_rules ws code) 0 unused) (instruction_word ws i 3) ≡ true → fits (get_or (operand_rules ws code) 1 unused) (instruction_word ws i 4) ≡ true
          → OperandsInRange (place_count ws) (operation_of code (instruction_word ws i 3) (instruction_word ws i 4))
      go zero l f g = tt
      go (suc zero) l f g = row_below _ _ f
      go (suc (suc zero)) l f g = (row_below _ _ f, row_below _ _ g)
      go (suc (suc (suc code))) l f g = absurd (omega arith)

-- ---- a case

module _ (ws : List ℕ) (p : Promise ws) (i : ℕ) (inside : i < case_count ws) where
  pub case_test : (case_word ws i 0 ≡ largest) ⊎ (case_word ws i 0 < place_count ws)
  unfolding case_rules place_or_none
  case_test = none_or_below _ _ (p.case i inside 0 (omega arith))

  pub case_block : case_word ws i 1 < block_count ws
  unfolding case_rules block
  case_block = row_below _ _ (p.case i inside 1 (omega arith))
