-- What the code's loop needs of the walk: a turn keeps the end that it comes to, and lowers the turns left.
use mathlib.Core.Path.{◌≡◌, refl, sym, ap, ◌∙◌, subst}
use Prim.Native.Nat.{ℕ, zero, suc, ◌≤◌, ◌<◌}
use native.Mathlib.Omega.{arith}
use native.Mathlib.Nat.{le_of_suc-le-suc, not-suc-le-zero}
use Rattle.definition.specs.TreeRun.{Completed}
use Rattle.tree_runs.specs.Layout.{Layout}
use Rattle.tree_runs.specs.Machine.{State, Turn, going, halt, step, Completes, halts, goes, turns_left}

module _ (L : Layout) where
  going_is : {s t : State} → going s ≡ going t → s ≡ t
  going_is e = cc

  halt_is : {a b : Completed} → halt a ≡ halt b → a ≡ b
  halt_is e = cc

  halt_going : {a : Completed} {s : State} → halt a ≡ going s → ⊥
  halt_going e = let z : ◌≡◌ {A = ℕ} 0 1 = cc in omega arith

  abbrev after : Turn → ℕ → ℕ
  after turn fuel = elim turn [ going next ↦ suc (turns_left L fuel next) | halt end ↦ 0 ]

  -- enough fuel is as good as more
  fuel_same : {n : ℕ} {s : State} {end : Completed} → Completes L n s end → (a b : ℕ) → n ≤ a → n ≤ b → turns_left L a s ≡ turns_left L b s
  unfolding turns_left
  fuel_same (halts e) zero b h k = absurd (not-suc-le-zero h)
  fuel_same (halts e) (suc a) zero h k = absurd (not-suc-le-zero k)
  fuel_same (halts e) (suc a) (suc b) h k = ap (λ (z : Turn). after z a) e ∙ ap (λ (z : Turn). after z b) (sym e)
  fuel_same (goes e g) zero b h k = absurd (not-suc-le-zero h)
  fuel_same (goes e g) (suc a) zero h k = absurd (not-suc-le-zero k)
  fuel_same (goes e g) (suc a) (suc b) h k =
      ap (λ (z : Turn). after z a) e ∙ (ap (λ (z : ℕ). suc z) (fuel_same g a b (le_of_suc-le-suc h) (le_of_suc-le-suc k)) ∙ ap (λ (z : Turn). after z b) (sym e))

  -- a turn that goes on: the same end, one turn less
  pub gives_next : (n : ℕ) (s t : State) (end : Completed) → Completes L n s end → step L s ≡ going t → (m : ℕ) × (suc m ≡ n) × Completes L m t end
  gives_next n s t end (halts e) q = absurd (halt_going (sym e ∙ q))
  gives_next n s t end (goes {n = m} e g) q = (m, refl, subst (λ (z : State). Completes L m z end) (going_is (sym e ∙ q)) g)

  pub gives_halt : (n : ℕ) (s : State) (end end' : Completed) → Completes L n s end → step L s ≡ halt end' → end ≡ end'
  gives_halt n s end end' (halts e) q = halt_is (sym e ∙ q)
  gives_halt n s end end' (goes e g) q = absurd (halt_going (sym q ∙ e))

  -- and the measure falls
  pub turns_fall : (n fuel : ℕ) (s t : State) (end : Completed) → Completes L n s end → n ≤ fuel → step L s ≡ going t → turns_left L fuel t < turns_left L fuel s
  unfolding turns_left
  turns_fall n zero s t end g h q = let k = gives_next n s t end g q in let e : suc k.0 ≡ n = k.1 in absurd (omega (arith, h, e))
  turns_fall n (suc fuel) s t end g h q =
      let k = gives_next n s t end g q in
      let e : suc k.0 ≡ n = k.1 in
      let p : turns_left L (suc fuel) t ≡ turns_left L fuel t = fuel_same k.2 (suc fuel) fuel (omega (arith, h, e)) (omega (arith, h, e)) in
      let r : turns_left L (suc fuel) s ≡ suc (turns_left L fuel t) = ap (λ (z : Turn). after z fuel) q in
      omega (arith, p, r)
