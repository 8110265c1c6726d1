-- The walk only appends to the rows performed: those of any state begin those of the end. For 65.
use mathlib.Core.Path.{◌≡◌, refl, sym, ap, ◌∙◌, subst}
use Prim.Native.Nat.{ℕ, zero, suc}
use mathlib.Core.List.{List, [], ◌∷◌, ◌++◌, append-nil, append_assoc}
use mathlib.Core.Option.{Option, none, some}
use mathlib.Core.Bool.{Bool, true, false}
use Rattle.definition.specs.Run.{Answers}
use Rattle.definition.specs.Completion.{Completion, normal, break, continue, stop, label_set, loop_continues, breakable, labelled}
use Rattle.definition.specs.TreeRun.{Completed, completed}
use Rattle.tree_runs.specs.Layout.{Node, an_instr, a_block, an_if, a_case, a_switch, a_loop, a_label, a_scope, a_leaf, Layout}
use Rattle.tree_runs.specs.Machine.{enter, leave, State, state, Turn, going, halt, asked, asked_place, down, up, up_from, leaving, step, Completes, halts, goes}

abbrev pub performed_of : State → List ℕ
performed_of (state place performed left) = performed

-- what begins with P
pub record Begins (P Q : List ℕ) : Type 0 where
  pub more : List ℕ
  pub whole : Q ≡ P ++ more

same_rows : (P : List ℕ) → Begins P P
same_rows P = record { more = []; whole = sym (append-nil P) }

with_rows : (P R : List ℕ) → Begins P (P ++ R)
with_rows P R = record { more = R; whole = refl }

begins_both : {P Q R : List ℕ} → Begins P Q → Begins Q R → Begins P R
begins_both {P} {Q} {R} p q = record { more = p.more ++ q.more; whole = q.whole ∙ (ap (λ (z : List ℕ). z ++ q.more) p.whole ∙ append_assoc P p.more q.more) }

asked_keeps : (k y : ℕ) (n : Option ℕ) (P : List ℕ) (a : Answers) → performed_of (asked k y n P a) ≡ P
unfolding asked
asked_keeps k y n P [] = refl
asked_keeps k y n P (zero ∷ a) = refl
asked_keeps k y n P (suc m ∷ a) = refl

place_keeps : (k : ℕ) (ks : List ℕ) (P : List ℕ) (a : Answers) → performed_of (asked_place k ks P a) ≡ P
unfolding asked_place
place_keeps k ks P [] = refl
place_keeps k ks P (x ∷ a) = refl

kept : {P Q R : List ℕ} → R ≡ Q → Begins P Q → Begins P R
kept {P} e p = subst (λ (z : List ℕ). Begins P z) (sym e) p

down_begins : (n : Node) (k : ℕ) (P : List ℕ) (a : Answers) → Begins P (performed_of (down n k P a))
unfolding down
down_begins (an_instr rows) k P a = with_rows P rows
down_begins (a_block first) k P a = same_rows P
down_begins (an_if l c x) k P a = kept (asked_keeps k c x P a) (same_rows P)
down_begins (a_case b) k P a = same_rows P
down_begins (a_switch l cs) k P a = kept (place_keeps k cs P a) (same_rows P)
down_begins (a_loop l none again b) k P a = same_rows P
down_begins (a_loop l (some rows) again b) k P a = kept (asked_keeps k b none (P ++ rows) a) (with_rows P rows)
down_begins (a_label l b) k P a = same_rows P
down_begins (a_scope b) k P a = same_rows P
down_begins (a_leaf c) k P a = same_rows P

up_begins : (n : Node) (p : ℕ) (nx : Option ℕ) (c : Completion) (P : List ℕ) (a : Answers) → Begins P (performed_of (up n p nx c P a))
unfolding up
up_begins (an_instr rows) p nx c P a = same_rows P
up_begins (a_block first) p nx c P a = same_rows P
up_begins (an_if l x y) p nx c P a = same_rows P
up_begins (a_case b) p nx c P a = same_rows P
up_begins (a_switch l cs) p nx c P a = same_rows P
up_begins (a_loop l before again b) p nx c P a = at (loop_continues c (label_set l))
  where
    at : (y : Bool) → Begins P (performed_of (elim y [ true ↦ asked p b none (P ++ again) a | false ↦ state (leave p (labelled l (breakable c))) P a ]))
    at true = kept (asked_keeps p b none (P ++ again) a) (with_rows P again)
    at false = same_rows P
up_begins (a_label l b) p nx c P a = same_rows P
up_begins (a_scope b) p nx c P a = same_rows P
up_begins (a_leaf x) p nx c P a = same_rows P

module _ (L : Layout) where
  abbrev TurnBegins : List ℕ → Turn → Type 0
  TurnBegins P (going next) = Begins P (performed_of next)
  TurnBegins P (halt end) = Begins P end.rows

  from_begins : (p : Option ℕ) (k : ℕ) (c : Completion) (P : List ℕ) (a : Answers) → TurnBegins P (up_from L p k c P a)
  unfolding up_from completed
  from_begins none k c P a = same_rows P
  from_begins (some p) k c P a = up_begins (L.node p) p (L.next k) c P a

  step_begins : (s : State) → TurnBegins (performed_of s) (step L s)
  unfolding step leaving completed
  step_begins (state (enter k) P a) = down_begins (L.node k) k P a
  step_begins (state (leave k normal) P a) = from_begins (L.parent k) k normal P a
  step_begins (state (leave k (break t i)) P a) = from_begins (L.parent k) k (break t i) P a
  step_begins (state (leave k (continue t i)) P a) = from_begins (L.parent k) k (continue t i) P a
  step_begins (state (leave k (stop r)) P a) = same_rows P

  pub end_begins : {n : ℕ} {s : State} {end : Completed} → Completes L n s end → Begins (performed_of s) end.rows
  end_begins {s = s} (halts e) = subst (λ (z : Turn). TurnBegins (performed_of s) z) e (step_begins s)
  end_begins {s = s} (goes e g) = begins_both (subst (λ (z : Turn). TurnBegins (performed_of s) z) e (step_begins s)) (end_begins g)
