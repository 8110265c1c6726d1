-- A refusal is told from an acceptance by its code.
use native.Mathlib.Omega.{arith}
use mathlib.Core.Path.{◌≡◌}
use Rattle.table.specs.Answer.{refusal_code}
use Rattle.table.specs.declared.Refusal.{Refusal}
use Rattle.table.specs.declared.Refusal.TheVariants.{WrongLength, CountOverLimit, EntryOutOfRange, BadWord}

pub refusal_some : (refusal : Refusal) → refusal_code refusal ≡ 0 → ⊥
refusal_some WrongLength e = omega (arith, e)
refusal_some (CountOverLimit at) e = omega (arith, e)
refusal_some EntryOutOfRange e = omega (arith, e)
refusal_some (BadWord at) e = omega (arith, e)
