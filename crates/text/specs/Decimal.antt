-- Numbers in decimal.
use Rattle.std.specs.Prelude.{Bool, true, false, List, [], ◌∷◌, ◌++◌, ℕ, zero, suc, ◌+◌, ◌/◌, ◌%◌, ltb}

-- a choice by a test: only the chosen side is computed
abbrev pub choose : {A : Type 0} → Bool → (Unit {0} → A) → (Unit {0} → A) → A
choose true a b = a tt
choose false a b = b tt

-- the digits of n, the highest first, with no leading zero: those of n / 10, if there are any, then n % 10. `steps` bounds the recursion
unfoldable pub digits_of : ℕ → ℕ → List ℕ
digits_of zero n = (48 + n) ∷ []
digits_of (suc steps) n = choose (ltb n 10) (λ _. (48 + n) ∷ []) (λ _. digits_of steps (n / 10) ++ ((48 + n % 10) ∷ []))

-- a number in decimal
unfoldable pub decimal : ℕ → List ℕ
decimal n = digits_of n n
