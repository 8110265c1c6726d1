-- What holds of the state of the statement walk over a plain table, and how each step keeps it. For proofs/Structure.
use mathlib.Core.Path.{◌≡◌, refl, sym, ap, ◌∙◌, subst}
use Prim.Native.Nat.{ℕ, suc, ◌<◌}
use native.Mathlib.Omega.{arith}
use mathlib.Core.Logic.{inl, inr}
use mathlib.Core.List.{List, [], ◌∷◌}
use mathlib.Core.Option.{some}
use mathlib.Core.Bool.{Bool, true, false, ◌||◌}
use lib.ListN.{length}
use lib.Dec.{eqb}
use Rattle.table.specs.Table.{Table, switch, terminal_at, is_absent}
use Rattle.definition.specs.Context.{Flags, has, add, remove, ControlFlowTarget, target_if, target_switch, target_case, target_loop, is_blocked}
use Rattle.definition.specs.Context.{blocked_code, block_asked, Entry, Context, start, is_scheduled, emit, with_visits, mark_scope_fallthrough, pushed}
use Rattle.definition.specs.Context.{schedule, unscheduled_by, popped, unschedule_top, unschedule}
use Rattle.definition.specs.Plain.{Width, fallthrough_of}
use Rattle.definition.specs.Result.{refused, ok, refuse_if}
use Rattle.definition.specs.Statement.{enter_block, unless_scheduled}
use Rattle.definition.specs.Value.{begin_visit}
use Rattle.definition.proofs.Frames.{Frame, in_label, in_scope, in_loop, in_switch, in_open, in_case, is_open}
use Rattle.definition.proofs.Ranged.{Ranged}
use Rattle.definition.specs.PlainLoops.{IsProper, new_loop, loop_of}
use Rattle.definition.specs.WideLoops.{WideLoops}
use Rattle.definition.proofs.Steps.{true_false, refused_ok, ok_eq, bind_ok, unless_ok}
use Rattle.definition.proofs.Flags.{has_add, has_remove, has_still, has_new, length_add, length_remove, has_none, length_none, below_blocks}
use Rattle.definition.proofs.Resolve.{Framed, no_frame, label_framed, scope_framed, loop_framed, switch_framed, open_framed, case_framed}

module _ (t : Table) where
  -- x is the fallthrough of an emitted block, or a loop block or where a loop continues, or a case block
  pub data Known (emitted : Flags) (x : ℕ) : Type 0 where
    fallthrough_of_lem : (b : ℕ) → has emitted b ≡ true → fallthrough_of (terminal_at t b) ≡ some x → Known emitted x
    loop_of_lem : (w y g k : ℕ) → loop_of (terminal_at t w) ≡ some (new_loop y x g k) → Known emitted x
    again_of : (w y l g : ℕ) → loop_of (terminal_at t w) ≡ some (new_loop y l g x) → Known emitted x
    a_case : IsProper t x → Known emitted x

  pub record StateOk (F : List Frame) (c : Context) : Type 0 where
    pub wide : length c.emitted ≡ 1024
    pub wide_scopes : length c.scope_fallthroughs ≡ 1024
    pub wide_scheduled : length c.scheduled ≡ 1024
    pub no_catch : (x : ℕ) → has c.catch_handlers x ≡ false
    pub known : (x : ℕ) → has c.scheduled x ≡ true → Known c.emitted x
    pub framed : Framed t c.scope_fallthroughs F c.stack

  pub start_ok : StateOk [] start
  unfolding start
  start_ok = record {
    wide = length_none;
    wide_scopes = length_none;
    wide_scheduled = length_none;
    no_catch = has_none;
    known = λ x e. absurd (true_false (sym e ∙ has_none x));
    framed = no_frame;
  }

  known_still : (emitted : Flags) (b x : ℕ) → Known emitted x → Known (add emitted b) x
  known_still emitted b x (fallthrough_of_lem d h e) = fallthrough_of_lem d (has_still emitted b d h) e
  known_still emitted b x (loop_of_lem w y g k e) = loop_of_lem w y g k e
  known_still emitted b x (again_of w y l g e) = again_of w y l g e
  known_still emitted b x (a_case h) = a_case h

  pub with_visits_ok : {F : List Frame} {c : Context} (v : ℕ) → StateOk F c → StateOk F (with_visits v c)
  unfolding with_visits
  with_visits_ok v p = record { wide = p.wide; wide_scopes = p.wide_scopes; wide_scheduled = p.wide_scheduled; no_catch = p.no_catch; known = p.known; framed = p.framed }

  pub emit_ok : {F : List Frame} {c : Context} (b : ℕ) → StateOk F c → StateOk F (emit b c)
  unfolding emit
  emit_ok {c} b p = record {
    wide = length_add c.emitted b 1024 p.wide;
    wide_scopes = p.wide_scopes;
    wide_scheduled = p.wide_scheduled;
    no_catch = p.no_catch;
    known = λ x e. known_still c.emitted b x (p.known x e);
    framed = p.framed;
  }

  -- ---- entering a block

  pub record Entered (b : ℕ) (F : List Frame) (c c₁ : Context) : Type 0 where
    pub state : StateOk F c₁
    pub present : is_absent (terminal_at t b) ≡ false
    pub old : has c.emitted b ≡ false
    pub new : has c₁.emitted b ≡ true
    -- what was scheduled comes from blocks that were emitted before
    pub before : (x : ℕ) → has c₁.scheduled x ≡ true → Known c.emitted x
    pub same : c₁.stack ≡ c.stack

  begin_ok : (b v v₁ : ℕ) → begin_visit t b v ≡ ok v₁ → is_absent (terminal_at t b) ≡ false
  unfolding begin_visit
  begin_ok b v v₁ e =
      let (u, h, e₁) = bind_ok (refuse_if _ 31 b v) _ v₁ e in
      let (u₁, h₁, e₂) = bind_ok (refuse_if (is_absent (terminal_at t b)) 10 b (suc v)) _ v₁ e₁ in
      unless_ok (is_absent (terminal_at t b)) 10 b (suc v) u₁ h₁

  entered : (rg : Ranged t) {F : List Frame} {c : Context} (b v : ℕ) → StateOk F c → is_absent (terminal_at t b) ≡ false → has c.emitted b ≡ false → Entered b F c (emit b (with_visits v c))
  unfolding emit with_visits
  entered rg {F} {c} b v p a o = record {
    state = emit_ok b (with_visits_ok v p);
    present = a;
    old = o;
    new = has_new c.emitted b (omega (arith, below_blocks t b a, rg.few, p.wide));
    before = p.known;
    same = refl;
  }

  pub enter_ok : (rg : Ranged t) {F : List Frame} {c : Context} (b : ℕ) (c₁ : Context) → StateOk F c → enter_block t b c ≡ ok c₁ → Entered b F c c₁
  unfolding enter_block
  enter_ok rg {F} {c} b c₁ p e =
      let (v, h, e₁) = bind_ok (begin_visit t b c.visits) _ c₁ e in
      let (u, h₁, e₂) = bind_ok (refuse_if (has c.emitted b) 11 b v) _ c₁ e₁ in
      subst (λ (d : Context). Entered b F c d) (ok_eq e₂) (entered rg b v p (begin_ok b c.visits v h) (unless_ok (has c.emitted b) 11 b v u h₁))

  -- ---- the fallthrough of an entered block is not scheduled

  not_known : {width : Width} (pl : WideLoops width t) (emitted : Flags) (b f : ℕ) → has emitted b ≡ false → fallthrough_of (terminal_at t b) ≡ some f → Known emitted f → ⊥
  not_known pl emitted b f o e (fallthrough_of_lem d h e') = true_false (sym h ∙ ap (has emitted) (pl.one_fallthrough d b f e' e) ∙ o)
  not_known pl emitted b f o e (loop_of_lem w y g k e') = pl.no_loop b f w y f g k e e' refl
  not_known pl emitted b f o e (again_of w y l g e') = pl.no_again b f w y l g f e e' refl
  not_known pl emitted b f o e (a_case h) = pl.case_fallthrough b f e h

  both_false : (x y : Bool) → (x ≡ true → ⊥) → y ≡ false → x || y ≡ false
  both_false true y n h = absurd (n refl)
  both_false false y n h = h

  pub fallthrough_free : {width : Width} (pl : WideLoops width t) {F : List Frame} {c c₁ : Context} (b f : ℕ)
      → Entered b F c c₁ → fallthrough_of (terminal_at t b) ≡ some f → is_scheduled c₁ f ≡ false
  unfolding is_scheduled
  fallthrough_free pl {F} {c} {c₁} b f p e =
      both_false (has c₁.scheduled f) (has c₁.catch_handlers f) (λ h. not_known pl c.emitted b f p.old e (p.before f h)) (p.state.no_catch f)

  pub untaken_free : (c : Context) (f : ℕ) → is_scheduled c f ≡ false → unless_scheduled c f ≡ some f
  unfolding unless_scheduled
  untaken_free c f e = rw (e, unless_scheduled)

  -- ---- targets pushed

  framed_still : {scopes : Flags} {F : List Frame} {S : List Entry} (y : ℕ) → Framed t scopes F S → Framed t (add scopes y) F S
  framed_still y no_frame = no_frame
  framed_still y (label_framed i f p) = label_framed i f (framed_still y p)
  framed_still {scopes} y (scope_framed i f h p) = scope_framed i f (has_still scopes y f h) (framed_still y p)
  framed_still y (loop_framed i f x w z l ll o h p) = loop_framed i f x w z l ll o h (framed_still y p)
  framed_still y (switch_framed i f w x k n h p) = switch_framed i f w x k n h (framed_still y p)
  framed_still y (open_framed w x k n f h p) = open_framed w x k n f h (framed_still y p)
  framed_still y (case_framed i k h p) = case_framed i k h (framed_still y p)

  known_add : (emitted s : Flags) (f : ℕ) → Known emitted f → ((x : ℕ) → has s x ≡ true → Known emitted x) → (x : ℕ) → has (add s f) x ≡ true → Known emitted x
  known_add emitted s f k r x e = elim (has_add s f x e) [ inl h ↦ subst (λ (z : ℕ). Known emitted z) (sym h) k | inr h ↦ r x h ]

  pub push_label_ok : {F : List Frame} {c : Context} (f : ℕ) → StateOk F c → Known c.emitted f → StateOk (in_label f ∷ F) (pushed (target_if f) c)
  unfolding pushed
  push_label_ok {F} {c} f p k = record {
    wide = p.wide;
    wide_scopes = p.wide_scopes;
    wide_scheduled = length_add c.scheduled f 1024 p.wide_scheduled;
    no_catch = p.no_catch;
    known = known_add c.emitted c.scheduled f k p.known;
    framed = label_framed c.next_id f p.framed;
  }

  pub push_scope_ok : {F : List Frame} {c : Context} (f : ℕ) → f < 1024 → StateOk F c → Known c.emitted f
      → StateOk (in_scope f ∷ F) (mark_scope_fallthrough f (pushed (target_if f) c))
  unfolding pushed mark_scope_fallthrough
  push_scope_ok {F} {c} f h p k = record {
    wide = p.wide;
    wide_scopes = length_add c.scope_fallthroughs f 1024 p.wide_scopes;
    wide_scheduled = length_add c.scheduled f 1024 p.wide_scheduled;
    no_catch = p.no_catch;
    known = known_add c.emitted c.scheduled f k p.known;
    framed = scope_framed c.next_id f (has_new c.scope_fallthroughs f (omega (arith, p.wide_scopes))) (framed_still f p.framed);
  }

  pub push_loop_ok : {F : List Frame} {c : Context} (w z l f x : ℕ) → StateOk F c → loop_of (terminal_at t w) ≡ some (new_loop z l f x) → Known c.emitted f
      → StateOk (in_loop f x ∷ F) (pushed (target_loop f x l) c)
  unfolding pushed
  push_loop_ok {F} {c} w z l f x p e k = record {
    wide = p.wide;
    wide_scopes = p.wide_scopes;
    wide_scheduled = length_add (add (add c.scheduled f) x) l 1024 (length_add (add c.scheduled f) x 1024 (length_add c.scheduled f 1024 p.wide_scheduled));
    no_catch = p.no_catch;
    known = known_add c.emitted (add (add c.scheduled f) x) l (loop_of_lem w z f x e)
        (known_add c.emitted (add c.scheduled f) x (again_of w z l f e) (known_add c.emitted c.scheduled f k p.known));
    framed = loop_framed c.next_id f x w z l l _ e p.framed;
  }

  pub push_switch_ok : {F : List Frame} {c : Context} (w x k n f : ℕ) → StateOk F c → terminal_at t w ≡ switch x k n f → Known c.emitted f
      → StateOk (in_switch f ∷ F) (pushed (target_switch f) c)
  unfolding pushed
  push_switch_ok {F} {c} w x k n f p e q = record {
    wide = p.wide;
    wide_scopes = p.wide_scopes;
    wide_scheduled = length_add c.scheduled f 1024 p.wide_scheduled;
    no_catch = p.no_catch;
    known = known_add c.emitted c.scheduled f q p.known;
    framed = switch_framed c.next_id f w x k n e p.framed;
  }

  pub push_case_ok : {F : List Frame} {c : Context} (k : ℕ) → StateOk F c → IsProper t k → StateOk (in_case k ∷ F) (pushed (target_case k) c)
  unfolding pushed
  push_case_ok {F} {c} k p h = record {
    wide = p.wide;
    wide_scopes = p.wide_scopes;
    wide_scheduled = length_add c.scheduled k 1024 p.wide_scheduled;
    no_catch = p.no_catch;
    known = known_add c.emitted c.scheduled k (a_case h) p.known;
    framed = case_framed c.next_id k h p.framed;
  }

  pub switch_scheduled : {F : List Frame} {c : Context} (f : ℕ) → f < 1024 → StateOk F c → is_scheduled (pushed (target_switch f) c) f ≡ true
  unfolding pushed is_scheduled
  switch_scheduled {F} {c} f h p = ap (λ (y : Bool). y || has c.catch_handlers f) (has_new c.scheduled f (omega (arith, h, p.wide_scheduled)))

  pub schedule_ok : (g : ControlFlowTarget) (c c₁ : Context) → schedule g c ≡ ok c₁ → pushed g c ≡ c₁
  unfolding schedule
  schedule_ok g c c₁ e =
      let (u, h, e₁) = bind_ok (refuse_if (is_blocked g c.scheduled) (blocked_code g) (block_asked g) c.visits) _ c₁ e in ok_eq e₁

  -- ---- and popped

  has_unscheduled : (g : ControlFlowTarget) (o : Bool) (s : Flags) (x : ℕ) → has (unscheduled_by g o s) x ≡ true → has s x ≡ true
  unfolding unscheduled_by
  has_unscheduled (target_if b) o s x e = has_remove s b x e
  has_unscheduled (target_switch b) o s x e = has_remove s b x e
  has_unscheduled (target_case b) o s x e = has_remove s b x e
  has_unscheduled (target_loop b k l) false s x e = has_remove s b x (has_remove (remove s b) k x e)
  has_unscheduled (target_loop b k l) true s x e = has_remove s b x (has_remove (remove s b) k x (has_remove (remove (remove s b) k) l x e))

  length_unscheduled : (g : ControlFlowTarget) (o : Bool) (s : Flags) (n : ℕ) → length s ≡ n → length (unscheduled_by g o s) ≡ n
  unfolding unscheduled_by
  length_unscheduled (target_if b) o s n e = length_remove s b n e
  length_unscheduled (target_switch b) o s n e = length_remove s b n e
  length_unscheduled (target_case b) o s n e = length_remove s b n e
  length_unscheduled (target_loop b k l) false s n e = length_remove (remove s b) k n (length_remove s b n e)
  length_unscheduled (target_loop b k l) true s n e = length_remove (remove (remove s b) k) l n (length_remove (remove s b) k n (length_remove s b n e))

  framed_tail : {scopes : Flags} {G : Frame} {F : List Frame} {e : Entry} {S : List Entry} → is_open G ≡ false → Framed t scopes (G ∷ F) (e ∷ S) → Framed t scopes F S
  framed_tail real (label_framed i f p) = p
  framed_tail real (scope_framed i f h p) = p
  framed_tail real (loop_framed i f x w z l ll o h p) = p
  framed_tail real (switch_framed i f w x k n h p) = p
  framed_tail real (open_framed w x k n f h p) = absurd (true_false real)
  framed_tail real (case_framed i k h p) = p

  framed_open : {scopes : Flags} {F : List Frame} {S : List Entry} → Framed t scopes (in_open ∷ F) S → Framed t scopes F S
  framed_open (open_framed w x k n f h p) = p

  pub open_state : {F : List Frame} {c : Context} (w x k n f : ℕ) → terminal_at t w ≡ switch x k n f → StateOk F c → StateOk (in_open ∷ F) c
  open_state w x k n f h p = record { wide = p.wide; wide_scopes = p.wide_scopes; wide_scheduled = p.wide_scheduled; no_catch = p.no_catch; known = p.known; framed = open_framed w x k n f h p.framed }

  pub close_state : {F : List Frame} {c : Context} → StateOk (in_open ∷ F) c → StateOk F c
  close_state p = record { wide = p.wide; wide_scopes = p.wide_scopes; wide_scheduled = p.wide_scheduled; no_catch = p.no_catch; known = p.known; framed = framed_open p.framed }

  pub record Closed (F : List Frame) (S : List Entry) (c : Context) : Type 0 where
    pub state : StateOk F c
    pub same : c.stack ≡ S

  pop_ok : {G : Frame} {F : List Frame} {e : Entry} {S : List Entry} {c : Context} → is_open G ≡ false → StateOk (G ∷ F) c → c.stack ≡ e ∷ S
      → Closed F S (popped S (unscheduled_by e.target e.owns_loop c.scheduled) c)
  unfolding popped
  pop_ok {G} {F} {e} {S} {c} real p h = record {
    state = record {
      wide = p.wide;
      wide_scopes = p.wide_scopes;
      wide_scheduled = length_unscheduled e.target e.owns_loop c.scheduled 1024 p.wide_scheduled;
      no_catch = p.no_catch;
      known = λ x k. p.known x (has_unscheduled e.target e.owns_loop c.scheduled x k);
      framed = framed_tail real (subst (λ (z : List Entry). Framed t c.scope_fallthroughs (G ∷ F) z) h p.framed);
    };
    same = refl;
  }

  popped_at : {G : Frame} {F : List Frame} {e : Entry} {S : List Entry} {c : Context} (i : ℕ) (c₂ : Context) (y : Bool) → is_open G ≡ false → StateOk (G ∷ F) c → c.stack ≡ e ∷ S
      → elim y [ true ↦ ok (popped S (unscheduled_by e.target e.owns_loop c.scheduled) c) | false ↦ refused 91 0 c.visits ] ≡ ok c₂ → Closed F S c₂
  popped_at {G} {F} {e} {S} {c} i c₂ true real p h k = subst (λ (d : Context). Closed F S d) (ok_eq k) (pop_ok real p h)
  popped_at i c₂ false real p h k = absurd (refused_ok k)

  pub unschedule_ok : {G : Frame} {F : List Frame} (i : ℕ) (e : Entry) (S : List Entry) (c c₂ : Context) → is_open G ≡ false → StateOk (G ∷ F) c → c.stack ≡ e ∷ S
      → unschedule i c ≡ ok c₂ → Closed F S c₂
  unfolding unschedule unschedule_top
  unschedule_ok i e S c c₂ real p h k =
      popped_at i c₂ (eqb e.id i) real p h (subst (λ (z : List Entry). unschedule_top z i c ≡ ok c₂) h k)
