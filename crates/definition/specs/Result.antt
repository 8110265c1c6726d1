-- What a step of the build gives: a result, or a refusal with paper 01's code, its place, and the visits begun so far.
use Rattle.std.specs.Prelude.{ℕ, Bool, true, false}

pub data Result (A : Type 0) : Type 0 where
  ok : A → Result A
  refused : (code at visits : ℕ) → Result A

infixl 20 ◌>>=◌
-- a step and, if it was not refused, the next
unfoldable pub ◌>>=◌ : {A B : Type 0} → Result A → (A → Result B) → Result B
◌>>=◌ (ok a) next = next a
◌>>=◌ (refused code at visits) next = refused code at visits

unfoldable pub refuse_if : Bool → (code at visits : ℕ) → Result (Unit {0})
refuse_if true code at visits = refused code at visits
refuse_if false code at visits = ok tt

-- "Four Rust messages never occur and are proved so": three are refusals of the definition with numbers of their own, which no table gives
-- (proofs/Never). The fourth, an unknown target type, cannot be written: a target's type is a constructor.
abbrev pub already_scheduled : ℕ
already_scheduled = 90

abbrev pub unschedule_out_of_order : ℕ
unschedule_out_of_order = 91

abbrev pub maybe_throw_in_value_terminal : ℕ
maybe_throw_in_value_terminal = 92
