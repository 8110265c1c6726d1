-- Laws of a digit, and of a digit more.
use Rattle.std.proofs.Common.{◌≡◌, refl, Bool, true, false, cond, ℕ, ◌+◌, ◌-◌, ◌*◌, ◌^◌, ◌<◌, Some, None, arith}
use Rattle.std.proofs.lemmas.Option.{cond_some, none-some}
use Rattle.text.specs.Reading.{is_digit, may_follow}
use Rattle.text.specs.Steps.{digit_of, extended_by}
use Rattle.text.proofs.ReadingLaws.{digit_is, no_digit, follows_is, no_follower}

cond_none : {A : Type 0} (b : Bool) (x : A) → cond b (Some x) None ≡ None → b ≡ false
cond_none true x e = absurd (none-some x (cc))
cond_none false x e = refl

-- a digit's value
pub digit_some : (c : ℕ) {d : ℕ} → digit_of c ≡ Some d → (d < 10) × (c ≡ 48 + d)
digit_some c {d} e =
    let (digit, same) = cond_some (is_digit c) (c - 48) d e in
    let shown = digit_is c digit in
    (omega (arith, shown, same), omega (arith, shown, same))

-- no digit
pub digit_none : (c : ℕ) → digit_of c ≡ None → (d : ℕ) → d < 10 → c ≡ 48 + d → ⊥
digit_none c e = no_digit c (cond_none (is_digit c) _ e)

-- a digit that follows digits of the value v
pub record Follows (v c r : ℕ) : Type 0 where
  pub d : ℕ
  pub digit : d < 10
  pub shown : c ≡ 48 + d
  pub led : 0 < v
  pub fits : v * 10 + d < 2 ^ 32
  pub more : r ≡ v * 10 + d

pub extended_some : (v c : ℕ) {r : ℕ} → extended_by v c ≡ Some r → Follows v c r
extended_some v c {r} e =
    let (follows, same) = cond_some (may_follow v c) (v * 10 + (c - 48)) r e in
    let (low, high, led, fits) = follows_is v c follows in
    record { d = c - 48; digit = omega (arith, low, high); shown = omega (arith, low); led = led; fits = fits; more = omega (arith, same) }

-- a byte that may not follow
pub extended_none : (v c : ℕ) → extended_by v c ≡ None → (d : ℕ) → d < 10 → c ≡ 48 + d → 0 < v → v * 10 + d < 2 ^ 32 → ⊥
extended_none v c e = no_follower v c (cond_none (may_follow v c) _ e)
