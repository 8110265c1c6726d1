-- One step of the search of the stack, from its top, for a jump's target; and its kind.
use mathlib.Core.Path.{◌≡◌, refl, ap, ◌∙◌}
use Prim.Native.Nat.{ℕ, zero, suc, ◌+◌, ◌-◌, ◌<◌}
use native.Mathlib.Omega.{arith}
use mathlib.Core.List.{List, ◌∷◌}
use mathlib.Core.Option.{none, some}
use mathlib.Core.Bool.{Bool, true, false}
use lib.ListN.{get_or}
use borrow.Author.Tests.{eq-eqb, ne_eqb}
use Rattle.definition.specs.Context as definition
use Rattle.definition.specs.Context.{target_block, loops_of, continues_at, break_kind, break_target_from, continue_kind, continue_target_from}
use Rattle.definition.specs.Tree.{labeled}
use Rattle.control.specs.declared.Entry.{Entry}
use Rattle.control.specs.Abstraction.{target_of, entry_of, no_entry, stack_of}
use Rattle.control.specs.Contract.{break_to, continue_to}
use Rattle.control.proofs.ContextLaws.{stack_last}

module _ (entry : definition.Entry) (below : List definition.Entry) (block : ℕ) (top : Bool) (above : ℕ) where
  break_at_lem : target_block entry.target ≡ block → break_target_from (entry ∷ below) block top above ≡ some (break_to entry.target top above)
  unfolding break_target_from
  break_at_lem found = rw (break_target_from, eq-eqb _ _ found, ← found)

  break_below : (target_block entry.target ≡ block → ⊥) → break_target_from (entry ∷ below) block top above ≡ break_target_from below block false (loops_of entry.target + above)
  unfolding break_target_from
  break_below missed = rw (break_target_from, ne_eqb _ _ missed)

  continue_at_lem : continues_at entry.target block ≡ true → continue_target_from (entry ∷ below) block top above ≡ some (continue_to entry.target top above)
  unfolding continue_target_from
  continue_at_lem found = rw (continue_target_from, found)

  continue_below : continues_at entry.target block ≡ false → continue_target_from (entry ∷ below) block top above ≡ continue_target_from below block false (loops_of entry.target + above)
  unfolding continue_target_from
  continue_below missed = rw (continue_target_from, missed)

-- the target of the last of n entries
abbrev pub last_target : List Entry → ℕ → definition.ControlFlowTarget
last_target entries n = target_of (get_or entries (n - 1) no_entry).target

top_first : (entries : List Entry) (n : ℕ) → (n ≡ 0 → ⊥) → stack_of entries n ≡ entry_of (get_or entries (n - 1) no_entry) ∷ stack_of entries (n - 1)
top_first entries n some_entry = let positive : 0 < n = omega arith in stack_last entries n (get_or entries (n - 1) no_entry) positive refl

module _ (entries : List Entry) (block : ℕ) (top : Bool) (above n : ℕ) where
  pub break_none : n ≡ 0 → break_target_from (stack_of entries n) block top above ≡ none
  unfolding break_target_from stack_of
  break_none e = rw e

  pub break_found : (n ≡ 0 → ⊥) → target_block (last_target entries n) ≡ block → break_target_from (stack_of entries n) block top above ≡ some (break_to (last_target entries n) top above)
  break_found f found = ap (λ (stack : List definition.Entry). break_target_from stack block top above) (top_first entries n f) ∙ break_at_lem _ _ block top above found

  pub break_missed : (n ≡ 0 → ⊥) → (target_block (last_target entries n) ≡ block → ⊥)
      → break_target_from (stack_of entries n) block top above ≡ break_target_from (stack_of entries (n - 1)) block false (loops_of (last_target entries n) + above)
  break_missed f missed = ap (λ (stack : List definition.Entry). break_target_from stack block top above) (top_first entries n f) ∙ break_below _ _ block top above missed

  pub continue_none : n ≡ 0 → continue_target_from (stack_of entries n) block top above ≡ none
  unfolding continue_target_from stack_of
  continue_none e = rw e

  pub continue_found : (n ≡ 0 → ⊥) → continues_at (last_target entries n) block ≡ true
      → continue_target_from (stack_of entries n) block top above ≡ some (continue_to (last_target entries n) top above)
  continue_found f found = ap (λ (stack : List definition.Entry). continue_target_from stack block top above) (top_first entries n f) ∙ continue_at_lem _ _ block top above found

  pub continue_missed : (n ≡ 0 → ⊥) → continues_at (last_target entries n) block ≡ false
      → continue_target_from (stack_of entries n) block top above ≡ continue_target_from (stack_of entries (n - 1)) block false
      (loops_of (last_target entries n) + above)
  continue_missed f missed = ap (λ (stack : List definition.Entry). continue_target_from stack block top above) (top_first entries n f) ∙ continue_below _ _ block top above missed

-- ---- the kind, by the number of loops above

pub break_labeled : (top : Bool) (above : ℕ) → (above ≡ 0 → ⊥) → break_kind true top above ≡ labeled
unfolding break_kind
break_labeled top zero some_above = absurd (some_above refl)
break_labeled top (suc above) some_above = refl

pub continue_labeled : (top : Bool) (above : ℕ) → 0 < above → continue_kind top above ≡ labeled
unfolding continue_kind
continue_labeled top zero some_above = absurd (omega (arith, some_above))
continue_labeled top (suc above) some_above = refl
