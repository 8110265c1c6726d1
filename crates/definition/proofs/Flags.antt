-- The laws of sets of blocks, and that a block that is present is below the count: for proofs/State, proofs/Never and proofs/Emitted.
use mathlib.Core.Path.{◌≡◌, refl, sym, ◌∙◌, subst}
use Prim.Native.Nat.{ℕ, zero, suc, ◌<◌}
use native.Mathlib.Nat.{zero-lt-suc}
use native.Mathlib.Omega.{arith}
use mathlib.Core.Logic.{◌⊎◌, inl, inr}
use mathlib.Core.List.{List, [], ◌∷◌}
use mathlib.Core.Bool.{true, false}
use lib.ListN.{length, get_or, set, length-set, replicate, length-replicate}
use lib.Seq.{get_or-set_same, get_or-set_other}
use native.Mathlib.Decide.{ℕ_discrete}
use Rattle.table.specs.Table.{Table, Block, no_block, terminal_at, is_absent}
use Rattle.definition.specs.Context.{Flags, no_flags, has, add, remove}
use Rattle.definition.specs.Marks.{marks}
use Rattle.definition.proofs.Steps.{true_false}
use Prim.Native.Nat.{◌≤◌}
use native.Mathlib.Nat.{le_refl}

cases : {P : Type 0} (a b : ℕ) → (a ≡ b → P) → ((a ≡ b → ⊥) → P) → P
cases a b f g = elim (ℕ_discrete a b) [ yes h ↦ f h | no h ↦ g h ]

pub has_add : (s : Flags) (y x : ℕ) → has (add s y) x ≡ true → (x ≡ y) ⊎ (has s x ≡ true)
unfolding has add
has_add s y x e = cases x y (λ h. inl h) (λ h. inr (sym (get_or-set_other s y x true false h) ∙ e))

set_false : (s : Flags) (y : ℕ) → get_or (set s y false) y false ≡ false
set_false [] y = refl
set_false (a ∷ s) zero = refl
set_false (a ∷ s) (suc y) = set_false s y

pub has_removed : (s : Flags) (y : ℕ) → has (remove s y) y ≡ false
unfolding has remove
has_removed s y = set_false s y

pub has_remove : (s : Flags) (y x : ℕ) → has (remove s y) x ≡ true → has s x ≡ true
unfolding has remove
has_remove s y x e =
    cases x y (λ h. absurd (true_false (sym e ∙ subst (λ (z : ℕ). get_or (set s y false) z false ≡ false) (sym h) (set_false s y))))
    (λ h. sym (get_or-set_other s y x false false h) ∙ e)

set_true : (s : Flags) (y : ℕ) → get_or s y false ≡ true → get_or (set s y true) y false ≡ true
set_true [] y e = e
set_true (a ∷ s) zero e = refl
set_true (a ∷ s) (suc y) e = set_true s y e

pub has_still : (s : Flags) (y x : ℕ) → has s x ≡ true → has (add s y) x ≡ true
unfolding has add
has_still s y x e =
    cases x y (λ h. subst (λ (z : ℕ). get_or s z false ≡ true → get_or (set s y true) z false ≡ true) (sym h) (set_true s y) e)
    (λ h. get_or-set_other s y x true false h ∙ e)

pub has_new : (s : Flags) (y : ℕ) → y < length s → has (add s y) y ≡ true
unfolding has add
has_new s y h = get_or-set_same s y true false h

pub length_add : (s : Flags) (y n : ℕ) → length s ≡ n → length (add s y) ≡ n
unfolding add
length_add s y n e = length-set s y true ∙ e

pub length_remove : (s : Flags) (y n : ℕ) → length s ≡ n → length (remove s y) ≡ n
unfolding remove
length_remove s y n e = length-set s y false ∙ e

pub has_none : (x : ℕ) → has no_flags x ≡ false
unfolding has no_flags
has_none x = none_of 1024 x
  where
    none_of : (n i : ℕ) → get_or (replicate n false) i false ≡ false
    none_of zero i = refl
    none_of (suc n) zero = refl
    none_of (suc n) (suc i) = none_of n i

pub length_none : length no_flags ≡ 1024
unfolding no_flags
length_none = length-replicate 1024 false

-- ---- a block that is present is below the count

present_below : (bs : List Block) (b : ℕ) → is_absent (get_or bs b no_block).terminal ≡ false → b < length bs
present_below [] b e = absurd (true_false e)
present_below (x ∷ bs) zero e = zero-lt-suc (length bs)
present_below (x ∷ bs) (suc b) e = omega (arith, present_below bs b e)

pub below_blocks : (t : Table) (b : ℕ) → is_absent (terminal_at t b) ≡ false → b < length t.blocks
below_blocks t b e = present_below t.blocks b e

pub marks_below : (s : Flags) → marks s ≤ length s
marks_below [] = le_refl 0
marks_below (true ∷ s) = omega (arith, marks_below s)
marks_below (false ∷ s) = omega (arith, marks_below s)
