-- The rules of each row, as the code tests them.
use Prim.Native.Nat.{ℕ, zero, suc, ◌+◌, ◌-◌, ◌<◌, ◌≤◌}
use mathlib.Core.Path.{◌≡◌, refl, sym, ◌∙◌}
use mathlib.Core.List.{List, [], ◌∷◌, ◌++◌}
use mathlib.Core.Bool.{Bool, true, false, ◌||◌, ◌&&◌, cond}
use native.Mathlib.Omega.{arith}
use types.Run.{OneOf}
use lib.ListN.{length, replicate, get_or-eq_default}
use borrow.Author.Tests.{eq-eqb, ne_eqb, eqb-true, eqb-false, leb-true, leb-false, lt-ltb, le-ltb}
use lib.Dec.{eqb, leb, ltb}
use Rattle.table.specs.Words.{block_word, instruction_count, largest}
use Rattle.table.specs.Check.{Rule, unused, number, row, row_or_none, rows_from, end_of, fits, rules_by_code, terminal_rules, block_rules, operands_by_code}
use Rattle.table.specs.Check.{operand_rules, instruction_rules, case_rules, place_rules, identifier_rules}
use Rattle.table.specs.Answer.{limit, five}

-- ---- a rule and its limit

-- two tests that come out alike
alike : (a b : Bool) → (a ≡ true → b ≡ true) → (a ≡ false → b ≡ false) → a ≡ b
alike true b f g = sym (f refl)
alike false b f g = sym (g refl)

pub fits_limit : (rule : Rule) (w : ℕ) → fits rule w ≡ ltb w (limit rule w)
unfolding fits
fits_limit unused w = alike _ _ (λ e. lt-ltb w 1 (omega (arith, eqb-true w 0 e))) (λ e. le-ltb w 1 (omega (arith, eqb-false w 0 e)))
fits_limit (number most) w = alike _ _ (λ e. lt-ltb w (suc most) (omega (arith, leb-true w most e))) (λ e. le-ltb w (suc most) (omega (arith, leb-false w most e)))
fits_limit (row rows) w = refl
fits_limit (row_or_none rows) w = go (eqb w largest) refl
  where
    go : (t : Bool) → eqb w largest ≡ t → t || ltb w rows ≡ ltb w (cond t (suc largest) rows)
    go true e = sym (lt-ltb w 65536 (omega (arith, eqb-true w largest e)))
    go false e = refl
fits_limit (rows_from first rows) w =
    alike _ _ (λ e. lt-ltb w (suc rows - first) (omega (arith, leb-true (first + w) rows e))) (λ e. le-ltb w (suc rows - first) (omega (arith, leb-false (first + w) rows e)))
fits_limit (end_of from) w = go (leb from w)
  where
    go : (t : Bool) → t && leb w largest ≡ ltb w (cond t (suc largest) 0)
    go true = alike _ _ (λ e. lt-ltb w 65536 (omega (arith, leb-true w largest e))) (λ e. le-ltb w 65536 (omega (arith, leb-false w largest e)))
    go false = sym (le-ltb w 0 (omega arith))

pub below_fits : (rule : Rule) (w : ℕ) → w < limit rule w → fits rule w ≡ true
below_fits rule w h = fits_limit rule w ∙ lt-ltb w (limit rule w) h

pub not_below_fits : (rule : Rule) (w : ℕ) → limit rule w ≤ w → fits rule w ≡ false
not_below_fits rule w h = fits_limit rule w ∙ le-ltb w (limit rule w) h

-- ---- the rules of a row

module _ (ws : List ℕ) (b : ℕ) where
  pub absent : block_word ws b 2 ≡ 0 → block_rules ws b ≡ replicate 11 unused
  unfolding block_rules
  absent e = rw (eq-eqb (block_word ws b 2) 0 e, block_rules)

  pub present : (block_word ws b 2 ≡ 0 → ⊥) → block_rules ws b
      ≡ number largest ∷ rows_from (block_word ws b 0) (instruction_count ws) ∷ number 21
      ∷ five (terminal_rules ws (block_word ws b 2) (block_word ws b 4)) ++ (number largest ∷ number largest ∷ end_of (block_word ws b 9) ∷ [])
  unfolding block_rules
  present f = rw (ne_eqb (block_word ws b 2) 0 f, block_rules)

  pub block_width : length (block_rules ws b) ≡ 11
  block_width = go (eqb (block_word ws b 2) 0) refl
    where
      go : (t : Bool) → eqb (block_word ws b 2) 0 ≡ t → length (block_rules ws b) ≡ 11
      go true e = rw (absent (eqb-true _ _ e))
      go false e = rw (present (eqb-false _ _ e))

  pub instruction_width : length (instruction_rules ws b) ≡ 7
  unfolding instruction_rules
  instruction_width = refl

  pub case_width : length (case_rules ws b) ≡ 2
  unfolding case_rules
  case_width = refl

  pub place_width : length (place_rules ws b) ≡ 1
  unfolding place_rules
  place_width = refl

  pub identifier_width : length (identifier_rules ws b) ≡ 1
  unfolding identifier_rules
  identifier_width = refl

-- a number that is none of 0, 1, .., as a `match` leaves it
abbrev pub None-of : (count n : ℕ) → Type 0
None-of zero n = Unit {0}
None-of (suc count) n = None-of count n × (OneOf (count ∷ []) n → ⊥)

pub past : (count n : ℕ) → None-of count n → count ≤ n
past zero n h = omega arith
past (suc count) n h = let l : count ≤ n = past count n h.0 in omega (arith, h.1)

-- a code that there is not
pub no_terminal : (ws : List ℕ) (code first : ℕ) → 22 ≤ code → terminal_rules ws code first ≡ []
unfolding terminal_rules
no_terminal ws code first h = get_or-eq_default (rules_by_code ws first) [] h

pub no_operation : (ws : List ℕ) (code : ℕ) → 3 ≤ code → operand_rules ws code ≡ []
unfolding operand_rules
no_operation ws code h = get_or-eq_default (operands_by_code ws) [] h
