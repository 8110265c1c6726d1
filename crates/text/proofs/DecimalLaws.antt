-- Laws of numbers in decimal.
use mathlib.Core.Path.{◌≡◌, refl, sym, ap, ◌∙◌}
use mathlib.Core.Bool.{Bool, true, false}
use mathlib.Core.List.{List, [], ◌∷◌, ◌++◌, append_assoc}
use Prim.Native.Nat.{ℕ, zero, suc, ◌+◌, ◌*◌, ◌/◌, ◌%◌, ◌^◌, ◌≤◌, ◌<◌}
use native.Mathlib.Omega.{arith}
use lib.Dec.{ltb}
use lib.ListN.{length, drop, set, length-append}
use Rattle.std.proofs.lemmas.List.{drop-set}
use borrow.Author.Tests.{ltb-true, ltb-false, lt-ltb, le-ltb}
use Rattle.text.specs.Decimal.{digits_of, decimal}

-- the bound on the recursion does not matter, if it is large enough
steps_by : (k m n : ℕ) (small : Bool) → ltb n 10 ≡ small → ((q : ℕ) → q ≤ k → q ≤ m → digits_of k q ≡ digits_of m q) → n ≤ suc k → n ≤ suc m → digits_of (suc k) n ≡ digits_of (suc m) n
unfolding digits_of
steps_by k m n true e same p q = rw e
steps_by k m n false e same p q =
    let h : 10 ≤ n = ltb-false n 10 e in
    rw e (ap (λ (l : List ℕ). l ++ ((48 + n % 10) ∷ [])) (same (n / 10) (omega arith) (omega arith)))

pub steps : (k m n : ℕ) → n ≤ k → n ≤ m → digits_of k n ≡ digits_of m n
unfolding digits_of
steps zero zero n p q = refl
steps zero (suc m) n p q = rw (lt-ltb n 10 (omega arith))
steps (suc k) zero n p q = rw (lt-ltb n 10 (omega arith))
steps (suc k) (suc m) n p q = steps_by k m n (ltb n 10) refl (λ r a b. steps k m r a b) p q

pub decimal_small : (n : ℕ) → n < 10 → decimal n ≡ (48 + n) ∷ []
unfolding decimal digits_of
decimal_small zero h = refl
decimal_small (suc n) h = rw (lt-ltb (suc n) 10 h)

pub decimal_more : (n : ℕ) → 10 ≤ n → decimal n ≡ decimal (n / 10) ++ ((48 + n % 10) ∷ [])
unfolding decimal digits_of
decimal_more zero h = absurd (omega arith)
decimal_more (suc n) h = rw (le-ltb (suc n) 10 h) (ap (λ (l : List ℕ). l ++ ((48 + suc n % 10) ∷ [])) (steps n (suc n / 10) (suc n / 10) (omega arith) (omega arith)))

-- a digit more
pub decimal_next : (v d : ℕ) → 0 < v → d < 10 → decimal (v * 10 + d) ≡ decimal v ++ ((48 + d) ∷ [])
decimal_next v d p q =
    let e : (v * 10 + d) / 10 ≡ v = omega arith in
    let f : (v * 10 + d) % 10 ≡ d = omega arith in
    decimal_more (v * 10 + d) (omega arith) ∙ rw (e, f)

-- a number of two to five digits
pub decimal_two : (n : ℕ) → 10 ≤ n → n < 100 → decimal n ≡ (48 + n / 10) ∷ (48 + n % 10) ∷ []
decimal_two n p q = rw (decimal_more n p, decimal_small (n / 10) (omega arith)) refl

pub decimal_three : (n : ℕ) → 100 ≤ n → n < 1000 → decimal n ≡ (48 + n / 10 / 10) ∷ (48 + n / 10 % 10) ∷ (48 + n % 10) ∷ []
decimal_three n p q = rw (decimal_more n (omega arith), decimal_two (n / 10) (omega arith) (omega arith)) refl

pub decimal_four : (n : ℕ) → 1000 ≤ n → n < 10000
    → decimal n ≡ (48 + n / 10 / 10 / 10) ∷ (48 + n / 10 / 10 % 10) ∷ (48 + n / 10 % 10) ∷ (48 + n % 10) ∷ []
decimal_four n p q = rw (decimal_more n (omega arith), decimal_three (n / 10) (omega arith) (omega arith)) refl

pub decimal_five : (n : ℕ) → 10000 ≤ n → n < 100000
    → decimal n ≡ (48 + n / 10 / 10 / 10 / 10) ∷ (48 + n / 10 / 10 / 10 % 10) ∷ (48 + n / 10 / 10 % 10) ∷ (48 + n / 10 % 10) ∷ (48 + n % 10) ∷ []
decimal_five n p q = rw (decimal_more n (omega arith), decimal_four (n / 10) (omega arith) (omega arith)) refl

-- ---- length

-- a number of two digits or more has one more than its tenth
pub decimal_longer : (n : ℕ) → 10 ≤ n → length (decimal n) ≡ length (decimal (n / 10)) + 1
decimal_longer n p = ap (λ (l : List ℕ). length l) (decimal_more n p) ∙ length-append (decimal (n / 10)) ((48 + n % 10) ∷ [])

-- a number has a digit
pub decimal_some : (n : ℕ) → 1 ≤ length (decimal n)
decimal_some n = some_by (ltb n 10) refl
  where
    some_by : (small : Bool) → ltb n 10 ≡ small → 1 ≤ length (decimal n)
    some_by true e = omega (arith, ap (λ (l : List ℕ). length l) (decimal_small n (ltb-true n 10 e)))
    some_by false e = omega (arith, decimal_longer n (ltb-false n 10 e))

-- numbers below ten times m have at most one digit more than those below m
Within : ℕ → ℕ → Type 0
Within m k = (n : ℕ) → n < m → length (decimal n) ≤ k

within_ten : Within 10 1
unfolding Within
within_ten n p = omega (arith, ap (λ (l : List ℕ). length l) (decimal_small n p))

within_more : (m k : ℕ) → 1 ≤ k → Within m k → Within (m * 10) (k + 1)
unfolding Within
within_more m k q h n p = more_by (ltb n 10) refl
  where
    more_by : (small : Bool) → ltb n 10 ≡ small → length (decimal n) ≤ k + 1
    more_by true e = omega (arith, ap (λ (l : List ℕ). length l) (decimal_small n (ltb-true n 10 e)))
    more_by false e = omega (arith, decimal_longer n (ltb-false n 10 e), h (n / 10) (omega arith))

-- a number of 32 bits has at most ten digits
pub decimal_ten : (n : ℕ) → n < 2 ^ 32 → length (decimal n) ≤ 10
unfolding Within
decimal_ten n p =
    let w₂ = within_more 10 1 (omega arith) within_ten in
    let w₃ = within_more 100 2 (omega arith) w₂ in
    let w₄ = within_more 1000 3 (omega arith) w₃ in
    let w₅ = within_more 10000 4 (omega arith) w₄ in
    let w₆ = within_more 100000 5 (omega arith) w₅ in
    let w₇ = within_more 1000000 6 (omega arith) w₆ in
    let w₈ = within_more 10000000 7 (omega arith) w₇ in
    let w₉ = within_more 100000000 8 (omega arith) w₈ in
    within_more 1000000000 9 (omega arith) w₉ n (omega arith)

-- ---- digits that are written from the last on: those of n are those of `rest`, and then those behind the place `first`

module _ (n rest : ℕ) (digits : List ℕ) (first : ℕ) (within : first < length digits) (e : decimal n ≡ decimal rest ++ drop (first + 1) digits) where
  -- one more
  pub digit_written : 10 ≤ rest → decimal n ≡ decimal (rest / 10) ++ drop first (set digits first (48 + rest % 10))
  digit_written p =
      e ∙ rw (decimal_more rest p, drop-set digits first (48 + rest % 10) within) (append_assoc (decimal (rest / 10)) ((48 + rest % 10) ∷ []) (drop (first + 1) digits))

  -- all
  pub digits_written : rest < 10 → drop first (set digits first (48 + rest)) ≡ decimal n
  digits_written p = drop-set digits first (48 + rest) within ∙ sym (rw (decimal_small rest p) at e)
