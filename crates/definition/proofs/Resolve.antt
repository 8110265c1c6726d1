-- Over a plain table: a break or a continue that the stack resolves leads where its completion leads in the tree. For proofs/State and proofs/Structure.
use mathlib.Core.Path.{◌≡◌, refl, sym, ap, ◌∙◌, subst}
use Prim.Native.Nat.{ℕ, zero, suc, ◌+◌, ◌<◌}
use native.Mathlib.Omega.{arith}
use mathlib.Core.List.{List, [], ◌∷◌}
use mathlib.Core.Option.{Option, none, some}
use mathlib.Core.Bool.{Bool, true, false, not, ◌||◌, cond}
use lib.Dec.{eqb, T}
use borrow.Author.Tests.{eqb-true, eqb-false}
use Rattle.table.specs.Table.{Table, Terminal, absent, unreachable, throw, return, goto, if, branch, switch, do_while, while, for, for_of, for_in}
use Rattle.table.specs.Table.{logical, ternary, optional, label, sequence, maybe_throw, try, scope, code_of, terminal_at}
use Rattle.definition.specs.Context.{Flags, has, target_if, target_switch, target_case, target_loop, Entry, target_block, is_loop, loops_of, continues_at}
use Rattle.definition.specs.Context.{break_kind, break_target_from, Resolution, continue_kind, continue_target_from}
use Rattle.definition.specs.Plain.{Width, paper_01, fallthrough_of}
use Rattle.definition.specs.Around.{Enclosing, a_loop, a_switch, another, is_switch_inside, is_label, names_statement}
use Rattle.definition.specs.Completion.{contains, break, continue}
use Rattle.definition.specs.TreeRun.{jump_completion}
use Rattle.definition.specs.Tree.{Kind, implicit, labeled, unlabeled, kind_number}
use Rattle.definition.proofs.Frames.{Frame, in_label, in_scope, in_loop, in_switch, in_open, in_case, exit, break_out, break_at, continue_out, continue_at, target}
use Rattle.definition.specs.PlainLoops.{IsProper, proper_blocks_of, Loop, new_loop, loop_of}
use Rattle.definition.specs.WideLoops.{WideLoops, wide_codes}
use Rattle.definition.proofs.Steps.{true_false, none_some, some_eq}

module _ (t : Table) where
  -- the frames of a stack: a scope's fallthrough is in the set of those, and a loop is of some block, and continues at x
  pub data Framed (scopes : Flags) : List Frame → List Entry → Type 0 where
    no_frame : Framed scopes [] []
    label_framed : {F : List Frame} {S : List Entry} (i f : ℕ) → Framed scopes F S → Framed scopes (in_label f ∷ F) (record { id = i; target = target_if f; owns_loop = false } ∷ S)
    scope_framed : {F : List Frame} {S : List Entry} (i f : ℕ) → has scopes f ≡ true → Framed scopes F S
        → Framed scopes (in_scope f ∷ F) (record { id = i; target = target_if f; owns_loop = false } ∷ S)
    loop_framed : {F : List Frame} {S : List Entry} (i f x w z l : ℕ) (ll : ℕ) (o : Bool) → loop_of (terminal_at t w) ≡ some (new_loop z l f x) → Framed scopes F S
        → Framed scopes (in_loop f x ∷ F) (record { id = i; target = target_loop f x ll; owns_loop = o } ∷ S)
    switch_framed : {F : List Frame} {S : List Entry} (i f w x k n : ℕ) → terminal_at t w ≡ switch x k n f → Framed scopes F S
        → Framed scopes (in_switch f ∷ F) (record { id = i; target = target_switch f; owns_loop = false } ∷ S)
    -- a switch whose end is not reached has no entry
    open_framed : {F : List Frame} {S : List Entry} (w x k n f : ℕ) → terminal_at t w ≡ switch x k n f → Framed scopes F S → Framed scopes (in_open ∷ F) S
    case_framed : {F : List Frame} {S : List Entry} (i k : ℕ) → IsProper t k → Framed scopes F S → Framed scopes (in_case k ∷ F) (record { id = i; target = target_case k; owns_loop = false } ∷ S)

  -- ---- no switch stands between here and the nearest loop

  abbrev pub Clear : List Frame → Type 0
  Clear [] = Unit {0}
  Clear (in_label f ∷ F) = Clear F
  Clear (in_scope f ∷ F) = Clear F
  Clear (in_loop f x ∷ F) = Unit {0}
  Clear (in_switch f ∷ F) = ⊥
  Clear (in_open ∷ F) = ⊥
  Clear (in_case k ∷ F) = Clear F

  -- the frames of what is being built around: all fallthroughs are taken, and while an earlier case is built, its switch is around
  pub data Fits : List Frame → List Enclosing → Type 0 where
    fits_none : Fits [] []
    fits_label : {F : List Frame} {A : List Enclosing} (f : ℕ) → Fits F A → Fits (in_label f ∷ F) (another (some f) ∷ A)
    fits_scope : {F : List Frame} {A : List Enclosing} (f : ℕ) → Fits F A → Fits (in_scope f ∷ F) (another none ∷ A)
    fits_loop : {F : List Frame} {A : List Enclosing} (f x : ℕ) → Fits F A → Fits (in_loop f x ∷ F) (a_loop (some f) ∷ A)
    fits_switch : {F : List Frame} {A : List Enclosing} (f : ℕ) → Fits F A → Fits (in_switch f ∷ F) (a_switch (some f) ∷ A)
    -- an If or a Label whose end is not reached
    fits_open : {F : List Frame} {A : List Enclosing} → Fits F A → Fits F (another none ∷ A)
    fits_open_switch : {F : List Frame} {A : List Enclosing} → Fits F A → Fits (in_open ∷ F) (a_switch none ∷ A)
    fits_case : {F : List Frame} {A : List Enclosing} (k : ℕ) → Fits F A → Fits (in_case k ∷ F) A

  pub clear_around : {F : List Frame} {A : List Enclosing} → Fits F A → is_switch_inside A ≡ false → Clear F
  unfolding is_switch_inside
  clear_around fits_none h = tt
  clear_around (fits_label f p) h = clear_around p h
  clear_around (fits_scope f p) h = clear_around p h
  clear_around (fits_loop f x p) h = tt
  clear_around (fits_switch f p) h = true_false h
  clear_around (fits_open p) h = clear_around p h
  clear_around (fits_open_switch p) h = true_false h
  clear_around (fits_case k p) h = clear_around p h

  -- a table as paper 01 has it has no switch, and so no frame of one
  no_switch : (w x k n f : ℕ) → WideLoops paper_01 t → terminal_at t w ≡ switch x k n f → ⊥
  no_switch w x k n f pl e = true_false (sym (pl.ends w) ∙ ap (λ (m : Terminal). contains (wide_codes paper_01) (code_of m)) e)

  pub clear_paper : {scopes : Flags} {F : List Frame} {S : List Entry} → Framed scopes F S → WideLoops paper_01 t → Clear F
  clear_paper no_frame pl = tt
  clear_paper (label_framed i f p) pl = clear_paper p pl
  clear_paper (scope_framed i f s p) pl = clear_paper p pl
  clear_paper (loop_framed i f x w z l ll o s p) pl = tt
  clear_paper (switch_framed i f w x k n s p) pl = no_switch w x k n f pl s
  clear_paper (open_framed w x k n f s p) pl = no_switch w x k n f pl s
  clear_paper (case_framed i k s p) pl = clear_paper p pl

  -- ---- a step of the search: the entry is the one found, or the search goes on below

  either : {A : Type 0} (y : Bool) (a k : A) (q : Option A) (R : Type 0) → elim y [ true ↦ some a | false ↦ q ] ≡ some k → (a ≡ k → R) → (q ≡ some k → R) → R
  either true a k q R e f g = f (some_eq e)
  either false a k q R e f g = g e

  take : {A : Type 0} (f g : ℕ) (y : Bool) (a k : A) (q : Option A) → eqb f g ≡ y → elim y [ true ↦ some a | false ↦ q ] ≡ some k → (q ≡ some k → ⊥) → some f ≡ some g
  take f g true a k q h e n = ap some (eqb-true f g h)
  take f g false a k q h e n = absurd (n e)

  found : {A : Type 0} (f g : ℕ) (y : Bool) (a k : A) (q : Option A) (r : Option ℕ) → eqb f g ≡ y → elim y [ true ↦ some a | false ↦ q ] ≡ some k
      → (q ≡ some k → r ≡ some g) → cond y (some f) r ≡ some g
  found f g true a k q r h e next = ap some (eqb-true f g h)
  found f g false a k q r h e next = next e

  passed : {A : Type 0} (f g : ℕ) (y : Bool) (a k : A) (q : Option A) (r : Option ℕ) → eqb f g ≡ y → elim y [ true ↦ some a | false ↦ q ] ≡ some k
      → (f ≡ g → ⊥) → (q ≡ some k → r ≡ some g) → r ≡ some g
  passed f g true a k q r h e not next = absurd (not (eqb-true f g h))
  passed f g false a k q r h e not next = next e

  kind_of : {c d : Resolution} → c ≡ d → c.kind ≡ d.kind
  kind_of e = ap (λ (c : Resolution). c.kind) e

  -- ---- break

  -- a statement around that bears the label, where 29 is not given
  named_or : (f g : ℕ) (y z : Bool) (r : Option ℕ) → eqb f g ≡ y → y || z ≡ true → (z ≡ true → r ≡ some g) → cond y (some f) r ≡ some g
  named_or f g true z r e h k = ap some (eqb-true f g e)
  named_or f g false z r e h k = k h

  pub named_at : {F : List Frame} {A : List Enclosing} → Fits F A → (g : ℕ) → names_statement A g ≡ true → break_at F g ≡ some g
  unfolding names_statement is_label
  named_at fits_none g h = absurd (true_false (sym h))
  named_at (fits_label {F} {A} f p) g h = named_or f g (eqb f g) (names_statement A g) (break_at F g) refl h (λ q. named_at p g q)
  named_at (fits_scope f p) g h = named_at p g h
  named_at (fits_loop {F} {A} f x p) g h = named_or f g (eqb f g) (names_statement A g) (break_at F g) refl h (λ q. named_at p g q)
  named_at (fits_switch {F} {A} f p) g h = named_or f g (eqb f g) (names_statement A g) (break_at F g) refl h (λ q. named_at p g q)
  named_at (fits_open p) g h = named_at p g h
  named_at (fits_open_switch p) g h = named_at p g h
  named_at (fits_case k p) g h = named_at p g h

  -- without a Switch there is no case
  no_case_of : (m : Terminal) → contains (wide_codes paper_01) (code_of m) ≡ true → (k : ℕ) → contains (proper_blocks_of t m) k ≡ true → ⊥
  no_case_of absent h k e = true_false (sym e)
  no_case_of unreachable h k e = true_false (sym e)
  no_case_of (throw v) h k e = true_false (sym e)
  no_case_of (return v) h k e = true_false (sym e)
  no_case_of (goto g v) h k e = true_false (sym e)
  no_case_of (if x y a f) h k e = true_false (sym e)
  no_case_of (branch x y a) h k e = true_false (sym e)
  no_case_of (switch x i n f) h k e = true_false (sym h)
  no_case_of (do_while l x f) h k e = true_false (sym e)
  no_case_of (while x l f) h k e = true_false (sym e)
  no_case_of (for i x u l f) h k e = true_false (sym e)
  no_case_of (for_of i x l f) h k e = true_false (sym e)
  no_case_of (for_in i l f) h k e = true_false (sym e)
  no_case_of (logical op x f) h k e = true_false (sym e)
  no_case_of (ternary x f) h k e = true_false (sym e)
  no_case_of (optional g x f) h k e = true_false (sym e)
  no_case_of (label x f) h k e = true_false (sym e)
  no_case_of (sequence x f) h k e = true_false (sym e)
  no_case_of (maybe_throw n) h k e = true_false (sym e)
  no_case_of (try x y f n) h k e = true_false (sym e)
  no_case_of (scope p x f n) h k e = true_false (sym e)

  pub no_case : WideLoops paper_01 t → (k : ℕ) → IsProper t k → ⊥
  no_case pl k c = no_case_of (terminal_at t c.of) (pl.ends c.of) k c.among

  -- a break to a block that is no scope's fallthrough finds the label
  pub break_at_lem : {scopes : Flags} {F : List Frame} {S : List Entry} → Framed scopes F S → (g : ℕ) (top : Bool) (above : ℕ) (c : Resolution) → (IsProper t g → ⊥) → has scopes g ≡ false
      → break_target_from S g top above ≡ some c → break_at F g ≡ some g
  unfolding break_target_from
  break_at_lem no_frame g top above c nc n e = absurd (none_some e)
  break_at_lem {scopes} (label_framed {F} {S} i f p) g top above c nc n e =
      found f g (eqb f g) (record { target = g; kind = break_kind false top above; loops = above }) c (break_target_from S g false (0 + above)) (break_at F g) refl
      e (λ h. break_at_lem p g false (0 + above) c nc n h)
  break_at_lem {scopes} (scope_framed {F} {S} i f s p) g top above c nc n e =
      passed f g (eqb f g) (record { target = g; kind = break_kind false top above; loops = above }) c (break_target_from S g false (0 + above)) (break_at F g) refl e
      (λ h. true_false (sym s ∙ ap (has scopes) h ∙ n)) (λ h. break_at_lem p g false (0 + above) c nc n h)
  break_at_lem {scopes} (loop_framed {F} {S} i f x w z l ll o s p) g top above c nc n e =
      found f g (eqb f g) (record { target = g; kind = break_kind true top above; loops = above }) c (break_target_from S g false (1 + above)) (break_at F g) refl e
      (λ h. break_at_lem p g false (1 + above) c nc n h)
  break_at_lem {scopes} (switch_framed {F} {S} i f w x k m s p) g top above c nc n e =
      found f g (eqb f g) (record { target = g; kind = break_kind false top above; loops = above }) c (break_target_from S g false (0 + above)) (break_at F g) refl
      e (λ h. break_at_lem p g false (0 + above) c nc n h)
  break_at_lem (open_framed w x k m f s p) g top above c nc n e = break_at_lem p g top above c nc n e
  break_at_lem {scopes} (case_framed {F} {S} i k s p) g top above c nc n e =
      passed k g (eqb k g) (record { target = g; kind = break_kind false top above; loops = above }) c (break_target_from S g false (0 + above)) (break_at F g) refl e
      (λ h. nc (subst (λ (z : ℕ). IsProper t z) h s)) (λ h. break_at_lem p g false (0 + above) c nc n h)

  apart : (k k' : Kind) → T (not (eqb (kind_number k) (kind_number k'))) → k ≡ k' → ⊥
  apart implicit k' h e = subst (λ (z : Kind). T (not (eqb 0 (kind_number z)))) (sym e) h
  apart labeled k' h e = subst (λ (z : Kind). T (not (eqb 1 (kind_number z)))) (sym e) h
  apart unlabeled k' h e = subst (λ (z : Kind). T (not (eqb 2 (kind_number z)))) (sym e) h

  kind_above : (x top : Bool) (above : ℕ) → 0 < above → break_kind x top above ≡ unlabeled → ⊥
  unfolding break_kind
  kind_above x top zero l e = omega (arith, l)
  kind_above true top (suc n) l e = apart labeled unlabeled tt e
  kind_above false true (suc n) l e = apart implicit unlabeled tt e
  kind_above false false (suc n) l e = apart labeled unlabeled tt e

  kind_other : (top : Bool) (above : ℕ) → break_kind false top above ≡ unlabeled → ⊥
  unfolding break_kind
  kind_other true above e = apart implicit unlabeled tt e
  kind_other false above e = apart labeled unlabeled tt e

  kind_below : (x : Bool) (above : ℕ) → break_kind x false above ≡ implicit → ⊥
  unfolding break_kind
  kind_below true (suc n) e = apart labeled implicit tt e
  kind_below true zero e = apart unlabeled implicit tt e
  kind_below false above e = apart labeled implicit tt e

  kind_loop : (top : Bool) (above : ℕ) → break_kind true top above ≡ implicit → ⊥
  unfolding break_kind
  kind_loop top (suc n) e = apart labeled implicit tt e
  kind_loop top zero e = apart unlabeled implicit tt e

  above_never : (S : List Entry) (g : ℕ) (top : Bool) (above : ℕ) (c : Resolution) → 0 < above → break_target_from S g top above ≡ some c → c.kind ≡ unlabeled → ⊥
  unfolding break_target_from
  above_never [] g top above c l e k = none_some e
  above_never (x ∷ S) g top above c l e k =
      either (eqb (target_block x.target) g) (record { target = g; kind = break_kind (is_loop x.target) top above; loops = above }) c (break_target_from S g false (loops_of x.target + above)) ⊥ e
      (λ h. kind_above (is_loop x.target) top above l (kind_of h ∙ k)) (λ h. above_never S g false (loops_of x.target + above) c (omega (arith, l)) h k)

  below_never : (S : List Entry) (g above : ℕ) (c : Resolution) → break_target_from S g false above ≡ some c → c.kind ≡ implicit → ⊥
  unfolding break_target_from
  below_never [] g above c e k = none_some e
  below_never (x ∷ S) g above c e k =
      either (eqb (target_block x.target) g) (record { target = g; kind = break_kind (is_loop x.target) false above; loops = above }) c (break_target_from S g false (loops_of x.target + above)) ⊥ e
      (λ h. kind_below (is_loop x.target) above (kind_of h ∙ k)) (λ h. below_never S g (loops_of x.target + above) c h k)

  break_out_lem : {scopes : Flags} {F : List Frame} {S : List Entry} → Framed scopes F S → (g : ℕ) (top : Bool) (c : Resolution) → break_target_from S g top 0 ≡ some c
      → c.kind ≡ unlabeled → Clear F → break_out F ≡ some g
  unfolding break_target_from
  break_out_lem no_frame g top c e k z = absurd (none_some e)
  break_out_lem (label_framed {F} {S} i f p) g top c e k z =
      either (eqb f g) (record { target = g; kind = break_kind false top 0; loops = 0 }) c (break_target_from S g false 0) (break_out F ≡ some g) e
      (λ h. absurd (kind_other top 0 (kind_of h ∙ k))) (λ h. break_out_lem p g false c h k z)
  break_out_lem (scope_framed {F} {S} i f s p) g top c e k z =
      either (eqb f g) (record { target = g; kind = break_kind false top 0; loops = 0 }) c (break_target_from S g false 0) (break_out F ≡ some g) e
      (λ h. absurd (kind_other top 0 (kind_of h ∙ k))) (λ h. break_out_lem p g false c h k z)
  break_out_lem (loop_framed {F} {S} i f x w x₁ l ll o s p) g top c e k z =
      take f g (eqb f g) (record { target = g; kind = break_kind true top 0; loops = 0 }) c (break_target_from S g false 1) refl e (λ h. above_never S g false 1 c (omega arith) h k)
  break_out_lem (switch_framed {F} {S} i f w x k₁ m s p) g top c e k z = absurd z
  break_out_lem (open_framed w x k₁ m f s p) g top c e k z = absurd z
  break_out_lem (case_framed {F} {S} i k₁ s p) g top c e k z =
      either (eqb k₁ g) (record { target = g; kind = break_kind false top 0; loops = 0 }) c (break_target_from S g false 0) (break_out F ≡ some g) e
      (λ h. absurd (kind_other top 0 (kind_of h ∙ k))) (λ h. break_out_lem p g false c h k z)

  pub break_exit : {scopes : Flags} {F : List Frame} {S : List Entry} → Framed scopes F S → (g : ℕ) (top : Bool) (above : ℕ) (c : Resolution) → break_target_from S g top above ≡ some c
      → c.kind ≡ implicit → exit F ≡ some g
  unfolding break_target_from
  break_exit no_frame g top above c e k = absurd (none_some e)
  break_exit (label_framed {F} {S} i f p) g top above c e k =
      take f g (eqb f g) (record { target = g; kind = break_kind false top above; loops = above }) c (break_target_from S g false (0 + above)) refl e (λ h. below_never S g (0 + above) c h k)
  break_exit (scope_framed {F} {S} i f s p) g top above c e k =
      take f g (eqb f g) (record { target = g; kind = break_kind false top above; loops = above }) c (break_target_from S g false (0 + above)) refl e (λ h. below_never S g (0 + above) c h k)
  break_exit (loop_framed {F} {S} i f x w z l ll o s p) g top above c e k =
      either (eqb f g) (record { target = g; kind = break_kind true top above; loops = above }) c (break_target_from S g false (1 + above)) (some x ≡ some g) e
      (λ h. absurd (kind_loop top above (kind_of h ∙ k))) (λ h. absurd (below_never S g (1 + above) c h k))
  break_exit (switch_framed {F} {S} i f w x k₁ m s p) g top above c e k =
      take f g (eqb f g) (record { target = g; kind = break_kind false top above; loops = above }) c (break_target_from S g false (0 + above)) refl e (λ h. below_never S g (0 + above) c h k)
  break_exit (open_framed w x k₁ m f s p) g top above c e k = break_exit p g top above c e k
  break_exit (case_framed {F} {S} i k₁ s p) g top above c e k =
      take k₁ g (eqb k₁ g) (record { target = g; kind = break_kind false top above; loops = above }) c (break_target_from S g false (0 + above)) refl e (λ h. below_never S g (0 + above) c h k)

  -- a break resolves to the block it names
  pub break_names : (S : List Entry) (g : ℕ) (top : Bool) (above : ℕ) (c : Resolution) → break_target_from S g top above ≡ some c → c.target ≡ g
  unfolding break_target_from
  break_names [] g top above c e = absurd (none_some e)
  break_names (x ∷ S) g top above c e =
      either (eqb (target_block x.target) g) (record { target = g; kind = break_kind (is_loop x.target) top above; loops = above }) c
      (break_target_from S g false (loops_of x.target + above)) (c.target ≡ g) e
      (λ h. sym (ap (λ (z : Resolution). z.target) h)) (λ h. break_names S g false (loops_of x.target + above) c h)

  -- the break's row goes to its block
  pub break_target : {scopes : Flags} {F : List Frame} {S : List Entry} → Framed scopes F S → (g : ℕ) (c : Resolution) → break_target_from S g true 0 ≡ some c
      → (k : Kind) → c.kind ≡ k → (k ≡ unlabeled → Clear F) → (k ≡ labeled → break_at F g ≡ some g) → (i : ℕ) → target F (jump_completion k g i break) ≡ some g
  unfolding jump_completion
  break_target p g c e implicit k z l i = break_exit p g true 0 c e k
  break_target p g c e labeled k z l i = l refl
  break_target p g c e unlabeled k z l i = break_out_lem p g true c e k (z refl)

  -- ---- continue

  continue_above : (top : Bool) (above : ℕ) → 0 < above → continue_kind top above ≡ labeled
  unfolding continue_kind
  continue_above top zero l = absurd (omega (arith, l))
  continue_above top (suc n) l = refl

  continue_below : (above : ℕ) → continue_kind false above ≡ implicit → ⊥
  unfolding continue_kind
  continue_below (suc n) e = apart labeled implicit tt e
  continue_below zero e = apart unlabeled implicit tt e

  continue_above_never : (S : List Entry) (g : ℕ) (top : Bool) (above : ℕ) (c : Resolution) → 0 < above → continue_target_from S g top above ≡ some c → c.kind ≡ labeled
  unfolding continue_target_from
  continue_above_never [] g top above c l e = absurd (none_some e)
  continue_above_never (x ∷ S) g top above c l e =
      either (continues_at x.target g) (record { target = target_block x.target; kind = continue_kind top above; loops = above }) c
      (continue_target_from S g false (loops_of x.target + above)) (c.kind ≡ labeled) e
      (λ h. sym (kind_of h) ∙ continue_above top above l) (λ h. continue_above_never S g false (loops_of x.target + above) c (omega (arith, l)) h)

  continue_below_never : (S : List Entry) (g above : ℕ) (c : Resolution) → continue_target_from S g false above ≡ some c → c.kind ≡ implicit → ⊥
  unfolding continue_target_from
  continue_below_never [] g above c e k = none_some e
  continue_below_never (x ∷ S) g above c e k =
      either (continues_at x.target g) (record { target = target_block x.target; kind = continue_kind false above; loops = above }) c
      (continue_target_from S g false (loops_of x.target + above)) ⊥ e
      (λ h. continue_below above (kind_of h ∙ k)) (λ h. continue_below_never S g (loops_of x.target + above) c h k)

  continue_out_lem : {scopes : Flags} {F : List Frame} {S : List Entry} → Framed scopes F S → (g : ℕ) (top : Bool) (c : Resolution) → continue_target_from S g top 0 ≡ some c
      → c.kind ≡ unlabeled → continue_out F ≡ some g
  unfolding continue_target_from
  continue_out_lem no_frame g top c e k = absurd (none_some e)
  continue_out_lem (label_framed {F} {S} i f p) g top c e k = continue_out_lem p g false c e k
  continue_out_lem (scope_framed {F} {S} i f s p) g top c e k = continue_out_lem p g false c e k
  continue_out_lem (switch_framed {F} {S} i f w x k₁ m s p) g top c e k = continue_out_lem p g false c e k
  continue_out_lem (open_framed w x k₁ m f s p) g top c e k = continue_out_lem p g top c e k
  continue_out_lem (case_framed {F} {S} i k₁ s p) g top c e k = continue_out_lem p g false c e k
  continue_out_lem (loop_framed {F} {S} i f x w z l ll o s p) g top c e k =
      take x g (eqb x g) (record { target = f; kind = continue_kind top 0; loops = 0 }) c (continue_target_from S g false 1) refl e
      (λ h. apart labeled unlabeled tt (sym (continue_above_never S g false 1 c (omega arith) h) ∙ k))

  continue_exit : {scopes : Flags} {F : List Frame} {S : List Entry} → Framed scopes F S → (g : ℕ) (top : Bool) (above : ℕ) (c : Resolution) → continue_target_from S g top above ≡ some c
      → c.kind ≡ implicit → exit F ≡ some g
  unfolding continue_target_from
  continue_exit no_frame g top above c e k = absurd (none_some e)
  continue_exit (label_framed {F} {S} i f p) g top above c e k = absurd (continue_below_never S g (0 + above) c e k)
  continue_exit (scope_framed {F} {S} i f s p) g top above c e k = absurd (continue_below_never S g (0 + above) c e k)
  continue_exit (switch_framed {F} {S} i f w x k₁ m s p) g top above c e k = absurd (continue_below_never S g (0 + above) c e k)
  continue_exit (open_framed w x k₁ m f s p) g top above c e k = continue_exit p g top above c e k
  continue_exit (case_framed {F} {S} i k₁ s p) g top above c e k = absurd (continue_below_never S g (0 + above) c e k)
  continue_exit (loop_framed {F} {S} i f x w z l ll o s p) g top above c e k =
      take x g (eqb x g) (record { target = f; kind = continue_kind top above; loops = above }) c (continue_target_from S g false (1 + above)) refl e
      (λ h. continue_below_never S g (1 + above) c h k)

  -- the loop that was found is of some block, and continues at this one
  abbrev Of : ℕ → ℕ → Type 0
  Of g f = (w : ℕ) × (x : ℕ) × (l : ℕ) × (loop_of (terminal_at t w) ≡ some (new_loop x l f g))

  found_of : (x g f w z l : ℕ) (k : Kind) (n : ℕ) (y : Bool) (c : Resolution) (q : Option Resolution) → eqb x g ≡ y → loop_of (terminal_at t w) ≡ some (new_loop z l f x)
      → elim y [ true ↦ some (record { target = f; kind = k; loops = n }) | false ↦ q ] ≡ some c → (q ≡ some c → Of g c.target) → Of g c.target
  found_of x g f w z l k n true c q h s e r =
      (w, z, l, s ∙ ap (λ (u : ℕ). some (new_loop z l f u)) (eqb-true x g h) ∙ ap (λ (u : Resolution). some (new_loop z l u.target g)) (some_eq e))
  found_of x g f w z l k n false c q h s e r = r e

  continue_of : {scopes : Flags} {F : List Frame} {S : List Entry} → Framed scopes F S → (g : ℕ) (top : Bool) (above : ℕ) (c : Resolution)
      → continue_target_from S g top above ≡ some c → Of g c.target
  unfolding continue_target_from
  continue_of no_frame g top above c e = absurd (none_some e)
  continue_of (label_framed {F} {S} i f p) g top above c e = continue_of p g false (0 + above) c e
  continue_of (scope_framed {F} {S} i f s p) g top above c e = continue_of p g false (0 + above) c e
  continue_of (switch_framed {F} {S} i f w x k₁ m s p) g top above c e = continue_of p g false (0 + above) c e
  continue_of (open_framed w x k₁ m f s p) g top above c e = continue_of p g top above c e
  continue_of (case_framed {F} {S} i k₁ s p) g top above c e = continue_of p g false (0 + above) c e
  continue_of (loop_framed {F} {S} i f x w z l ll o s p) g top above c e =
      found_of x g f w z l (continue_kind top above) above (eqb x g) c (continue_target_from S g false (1 + above)) refl s e (λ h. continue_of p g false (1 + above) c h)

  loop_ft : (m : Terminal) (loop : Loop) → loop_of m ≡ some loop → fallthrough_of m ≡ some loop.fallthrough
  loop_ft absent loop e = absurd (none_some e)
  loop_ft unreachable loop e = absurd (none_some e)
  loop_ft (throw v) loop e = absurd (none_some e)
  loop_ft (return v) loop e = absurd (none_some e)
  loop_ft (goto g v) loop e = absurd (none_some e)
  loop_ft (if x y a f) loop e = absurd (none_some e)
  loop_ft (branch x y a) loop e = absurd (none_some e)
  loop_ft (switch x i n f) loop e = absurd (none_some e)
  loop_ft (do_while l x f) loop e = ap (λ (z : Loop). some z.fallthrough) (some_eq e)
  loop_ft (while x l f) loop e = ap (λ (z : Loop). some z.fallthrough) (some_eq e)
  loop_ft (for i x u l f) loop e = ap (λ (z : Loop). some z.fallthrough) (some_eq e)
  loop_ft (for_of i x l f) loop e = absurd (none_some e)
  loop_ft (for_in i l f) loop e = absurd (none_some e)
  loop_ft (logical op x f) loop e = absurd (none_some e)
  loop_ft (ternary x f) loop e = absurd (none_some e)
  loop_ft (optional g x f) loop e = absurd (none_some e)
  loop_ft (label x f) loop e = absurd (none_some e)
  loop_ft (sequence x f) loop e = absurd (none_some e)
  loop_ft (maybe_throw n) loop e = absurd (none_some e)
  loop_ft (try x y f n) loop e = absurd (none_some e)
  loop_ft (scope p x f n) loop e = absurd (none_some e)

  module _ {width : Width} (pl : WideLoops width t) where
    -- two loops with one fallthrough continue at one block
    same_again : (w z l f x w' z' l' x' : ℕ) → loop_of (terminal_at t w) ≡ some (new_loop z l f x) → loop_of (terminal_at t w') ≡ some (new_loop z' l' f x') → x ≡ x'
    same_again w z l f x w' z' l' x' e e' =
        ap (λ (u : Loop). u.again) (some_eq (sym e ∙ ap (λ (u : ℕ). loop_of (terminal_at t u))
        (pl.one_fallthrough w w' f (loop_ft (terminal_at t w) (new_loop z l f x) e) (loop_ft (terminal_at t w') (new_loop z' l' f x') e')) ∙ e'))

    at_loop : (x g f f' w z l : ℕ) (y : Bool) (r : Option ℕ) → eqb f f' ≡ y → loop_of (terminal_at t w) ≡ some (new_loop z l f x) → Of g f' → (((f ≡ f') → ⊥) → r ≡ some g) → cond y (some x) r ≡ some g
    at_loop x g f f' w z l true r h s (w', z', l', s') k =
        ap some (same_again w z l f' x w' z' l' g (s ∙ ap (λ (u : ℕ). some (new_loop z l u x)) (eqb-true f f' h)) s')
    at_loop x g f f' w z l false r h s o k = k (eqb-false f f' h)

    continue_at_lem : {scopes : Flags} {F : List Frame} {S : List Entry} → Framed scopes F S → (g : ℕ) (top : Bool) (above : ℕ) (c : Resolution) → continue_target_from S g top above ≡ some c
        → Of g c.target → continue_at F c.target ≡ some g
    unfolding continue_target_from
    continue_at_lem no_frame g top above c e n = absurd (none_some e)
    continue_at_lem (label_framed {F} {S} i f p) g top above c e n = continue_at_lem p g false (0 + above) c e n
    continue_at_lem (scope_framed {F} {S} i f s p) g top above c e n = continue_at_lem p g false (0 + above) c e n
    continue_at_lem (switch_framed {F} {S} i f w x k₁ m s p) g top above c e n = continue_at_lem p g false (0 + above) c e n
    continue_at_lem (open_framed w x k₁ m f s p) g top above c e n = continue_at_lem p g top above c e n
    continue_at_lem (case_framed {F} {S} i k₁ s p) g top above c e n = continue_at_lem p g false (0 + above) c e n
    continue_at_lem (loop_framed {F} {S} i f x w z l ll o s p) g top above c e n =
        at_loop x g f c.target w z l (eqb f c.target) (continue_at F c.target) refl s n
        (λ apart'. either (eqb x g) (record { target = f; kind = continue_kind top above; loops = above }) c (continue_target_from S g false (1 + above)) (continue_at F c.target ≡ some g) e
        (λ h. absurd (apart' (ap (λ (y : Resolution). y.target) h))) (λ h. continue_at_lem p g false (1 + above) c h n))

    pub continue_target : {scopes : Flags} {F : List Frame} {S : List Entry} → Framed scopes F S → (g : ℕ) (f : ℕ) (k : Kind) (n : ℕ)
        → continue_target_from S g true 0 ≡ some (record { target = f; kind = k; loops = n }) → (i : ℕ) → target F (jump_completion k f i continue) ≡ some g
    unfolding jump_completion
    continue_target p g f implicit n e i = continue_exit p g true 0 (record { target = f; kind = implicit; loops = n }) e refl
    continue_target p g f labeled n e i =
        continue_at_lem p g true 0 (record { target = f; kind = labeled; loops = n }) e (continue_of p g true 0 (record { target = f; kind = labeled; loops = n }) e)
    continue_target p g f unlabeled n e i = continue_out_lem p g true (record { target = f; kind = unlabeled; loops = n }) e refl
