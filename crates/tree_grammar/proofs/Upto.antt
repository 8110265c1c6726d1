-- A claim for each number below a bound, and two tests that both hold.
use mathlib.Core.Path.{◌≡◌, refl}
use Prim.Native.Nat.{ℕ, zero, suc, ◌<◌}
use native.Mathlib.Omega.{arith}
use mathlib.Core.Bool.{Bool, true, false, ◌&&◌}

-- what holds of 0, 1, .. below n
pub data Upto : (P : ℕ → Type 0) (n : ℕ) → Type 1 where
  ends : {P : ℕ → Type 0} → Upto P 0
  ◌and◌ : {P : ℕ → Type 0} {n : ℕ} → P 0 → Upto (λ i. P (suc i)) n → Upto P (suc n)

infixr 5 ◌and◌
pub upto : (P : ℕ → Type 0) (n : ℕ) → Upto P n → (i : ℕ) → i < n → P i
upto P zero ends i l = absurd (omega arith)
upto P (suc n) (h and hs) zero l = h
upto P (suc n) (h and hs) (suc i) l = upto (λ i. P (suc i)) n hs i (omega arith)

pub and_both : (x y : Bool) → x && y ≡ true → (x ≡ true) × (y ≡ true)
and_both true y h = (refl, h)
and_both false y h = absurd (let z : ◌≡◌ {A = ℕ} 0 1 = cc in omega arith)
