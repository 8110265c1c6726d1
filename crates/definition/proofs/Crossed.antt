-- M-107: the loops that a jump leaves. Every break and continue is resolved on the innermost entry that fits, with the number of loops above it
-- (specs/Crossed). For the reader and proofs/Formed.
use mathlib.Core.Path.{◌≡◌, refl, sym, ap, ◌∙◌}
use Prim.Native.Nat.{ℕ, zero, suc, ◌+◌, ◌≤◌, ◌<◌}
use native.Mathlib.Nat.{zero-add, add-zero}
use native.Mathlib.Omega.{arith}
use mathlib.Core.List.{List, [], ◌∷◌, ◌++◌}
use mathlib.Core.Option.{some}
use mathlib.Core.Bool.{Bool, true, false}
use lib.Dec.{eqb}
use Rattle.definition.specs.Context.{target_if, target_switch, target_case, target_loop, ControlFlowTarget, target_block, is_loop, loops_of, continues_at}
use Rattle.definition.specs.Context.{Entry, loops_on, Context, Resolution, break_kind, break_target_from, get_break_target, continue_kind, continue_target_from}
use Rattle.definition.specs.Context.{get_continue_target}
use Rattle.definition.specs.Crossed.{NoneFits, Found}
use Rattle.definition.specs.Tree.{implicit, labeled, unlabeled}
use Rattle.definition.proofs.Steps.{true_false, none_some, some_eq}

-- the same from an entry on, where so many loops are above already
record From (fits : ControlFlowTarget → Bool) (n : ℕ) (stack : List Entry) (found : Resolution) : Type 0 where
  above : List Entry
  entry : Entry
  below : List Entry
  whole : above ++ (entry ∷ below) ≡ stack
  here : fits entry.target ≡ true
  none_above : NoneFits fits above
  number : found.loops ≡ loops_on above + n
  if_labeled : is_loop entry.target ≡ true → found.kind ≡ labeled → 0 < found.loops
  labeled_if : is_loop entry.target ≡ true → 0 < found.loops → found.kind ≡ labeled

unlabeled_labeled : unlabeled ≡ labeled → ⊥
unlabeled_labeled e = let z : ◌≡◌ {A = ℕ} 0 1 = cc in omega arith

implicit_labeled : implicit ≡ labeled → ⊥
implicit_labeled e = let z : ◌≡◌ {A = ℕ} 0 1 = cc in omega arith

break_labeled : (loop top : Bool) (n : ℕ) → loop ≡ true → break_kind loop top n ≡ labeled → 0 < n
unfolding break_kind
break_labeled true top zero l e = absurd (unlabeled_labeled e)
break_labeled true top (suc n) l e = omega arith
break_labeled false top n l e = absurd (true_false (sym l))

labeled_break : (loop top : Bool) (n : ℕ) → loop ≡ true → 0 < n → break_kind loop top n ≡ labeled
unfolding break_kind
labeled_break true top zero l h = absurd (omega (arith, h))
labeled_break true top (suc n) l h = refl
labeled_break false top n l h = absurd (true_false (sym l))

continue_labeled : (top : Bool) (n : ℕ) → continue_kind top n ≡ labeled → 0 < n
unfolding continue_kind
continue_labeled true zero e = absurd (implicit_labeled e)
continue_labeled false zero e = absurd (unlabeled_labeled e)
continue_labeled top (suc n) e = omega arith

labeled_continue : (top : Bool) (n : ℕ) → 0 < n → continue_kind top n ≡ labeled
unfolding continue_kind
labeled_continue top zero h = absurd (omega (arith, h))
labeled_continue top (suc n) h = refl

-- one entry further down
lower : {fits : ControlFlowTarget → Bool} (x : Entry) (n : ℕ) {S : List Entry} {r : Resolution} → fits x.target ≡ false → From fits (loops_of x.target + n) S r → From fits n (x ∷ S) r
lower x n passed f = record {
  above = x ∷ f.above;
  entry = f.entry;
  below = f.below;
  whole = ap (λ (z : List Entry). x ∷ z) f.whole;
  here = f.here;
  none_above = (passed, f.none_above);
  number = omega (arith, f.number);
  if_labeled = f.if_labeled;
  labeled_if = f.labeled_if;
}

break_from : (S : List Entry) (g : ℕ) (top : Bool) (n : ℕ) (r : Resolution) → break_target_from S g top n ≡ some r → From (λ target. eqb (target_block target) g) n S r
unfolding break_target_from
break_from [] g top n r e = absurd (none_some e)
break_from (x ∷ S) g top n r e = at (eqb (target_block x.target) g) refl e (λ h. break_from S g false (loops_of x.target + n) r h)
  where
    at : (y : Bool) → eqb (target_block x.target) g ≡ y
        → elim y [
          | true ↦ some (record { target = g; kind = break_kind (is_loop x.target) top n; loops = n })
          | false ↦ break_target_from S g false (loops_of x.target + n)
        ] ≡ some r
        → (break_target_from S g false (loops_of x.target + n) ≡ some r → From (λ target. eqb (target_block target) g) (loops_of x.target + n) S r)
        → From (λ target. eqb (target_block target) g) n (x ∷ S) r
    at true q e k = record {
      above = [];
      entry = x;
      below = S;
      whole = refl;
      here = q;
      none_above = tt;
      number = sym (ap (λ (z : Resolution). z.loops) (some_eq e)) ∙ sym (zero-add n);
      if_labeled = λ l h. rw (sym (ap (λ (z : Resolution). z.loops) (some_eq e))) (break_labeled (is_loop x.target) top n l (ap (λ (z : Resolution). z.kind) (some_eq e) ∙ h));
      labeled_if = λ l h. sym (ap (λ (z : Resolution). z.kind) (some_eq e)) ∙ labeled_break (is_loop x.target) top n l (rw (ap (λ (z : Resolution). z.loops) (some_eq e)) h);
    }
    at false q e k = lower x n q (k e)

continue_from : (S : List Entry) (g : ℕ) (top : Bool) (n : ℕ) (r : Resolution) → continue_target_from S g top n ≡ some r → From (λ target. continues_at target g) n S r
unfolding continue_target_from
continue_from [] g top n r e = absurd (none_some e)
continue_from (x ∷ S) g top n r e = at (continues_at x.target g) refl e (λ h. continue_from S g false (loops_of x.target + n) r h)
  where
    at : (y : Bool) → continues_at x.target g ≡ y
        → elim y [
          | true ↦ some (record { target = target_block x.target; kind = continue_kind top n; loops = n })
          | false ↦ continue_target_from S g false (loops_of x.target + n)
        ] ≡ some r
        → (continue_target_from S g false (loops_of x.target + n) ≡ some r → From (λ target. continues_at target g) (loops_of x.target + n) S r) → From (λ target. continues_at target g) n (x ∷ S) r
    at true q e k = record {
      above = [];
      entry = x;
      below = S;
      whole = refl;
      here = q;
      none_above = tt;
      number = sym (ap (λ (z : Resolution). z.loops) (some_eq e)) ∙ sym (zero-add n);
      if_labeled = λ l h. rw (sym (ap (λ (z : Resolution). z.loops) (some_eq e))) (continue_labeled top n (ap (λ (z : Resolution). z.kind) (some_eq e) ∙ h));
      labeled_if = λ l h. sym (ap (λ (z : Resolution). z.kind) (some_eq e)) ∙ labeled_continue top n (rw (ap (λ (z : Resolution). z.loops) (some_eq e)) h);
    }
    at false q e k = lower x n q (k e)

found_of : {fits : ControlFlowTarget → Bool} {S : List Entry} {r : Resolution} → From fits 0 S r → Found fits S r
found_of f = record {
  above = f.above;
  entry = f.entry;
  below = f.below;
  whole = f.whole;
  here = f.here;
  none_above = f.none_above;
  number = f.number ∙ add-zero (loops_on f.above);
  if_labeled = f.if_labeled;
  labeled_if = f.labeled_if;
}

pub break_found : (cx : Context) (block : ℕ) (found : Resolution) → get_break_target cx block ≡ some found → Found (λ target. eqb (target_block target) block) cx.stack found
unfolding get_break_target
break_found cx block found e = found_of (break_from cx.stack block true 0 found e)

pub continue_found : (cx : Context) (block : ℕ) (found : Resolution) → get_continue_target cx block ≡ some found → Found (λ target. continues_at target block) cx.stack found
unfolding get_continue_target
continue_found cx block found e = found_of (continue_from cx.stack block true 0 found e)

-- the target of a continue is a loop, so that a continue is Labeled exactly when its number is above 0
continues_loop : (target : ControlFlowTarget) (block : ℕ) → continues_at target block ≡ true → is_loop target ≡ true
continues_loop (target_if b) block e = e
continues_loop (target_switch b) block e = e
continues_loop (target_case b) block e = e
continues_loop (target_loop b k l) block e = refl

pub continue_if_labeled : (cx : Context) (block : ℕ) (found : Resolution) → get_continue_target cx block ≡ some found → found.kind ≡ labeled → 0 < found.loops
continue_if_labeled cx block found e h =
    let f : Found (λ target. continues_at target block) cx.stack found = continue_found cx block found e in f.if_labeled (continues_loop f.entry.target block f.here) h

pub continue_labeled_if : (cx : Context) (block : ℕ) (found : Resolution) → get_continue_target cx block ≡ some found → 0 < found.loops → found.kind ≡ labeled
continue_labeled_if cx block found e h =
    let f : Found (λ target. continues_at target block) cx.stack found = continue_found cx block found e in f.labeled_if (continues_loop f.entry.target block f.here) h

-- there are no more loops above than on the stack
loops_append : (S U : List Entry) → loops_on S ≤ loops_on (S ++ U)
loops_append [] U = omega arith
loops_append (x ∷ S) U = omega (arith, loops_append S U)

pub found_loops : {fits : ControlFlowTarget → Bool} (S : List Entry) (r : Resolution) → Found fits S r → r.loops ≤ loops_on S
found_loops S r f = omega (arith, f.number, loops_append f.above (f.entry ∷ f.below), ap loops_on f.whole)
