-- The walk, turn by turn: what the code holds stands for a state of the machine that comes to the same end, and the turns left fall.
use mathlib.Core.Path.{◌≡◌, refl, sym, ap, ◌∙◌, subst}
use Prim.Native.Nat.{ℕ, zero, suc, ◌+◌, ◌*◌, ◌-◌, ◌<◌, ◌≤◌}
use native.Mathlib.Omega.{arith}
use native.Mathlib.Numerals.{add-one}
use native.Mathlib.Nat.{le_refl}
use mathlib.Core.List.{List, [], ◌∷◌, ◌++◌}
use mathlib.Core.Option.{none, some}
use mathlib.Core.Bool.{Bool, true, false, ◌||◌}
use lib.ListN.{length, get_or, length-append, get_or-append}
use lib.Dec.{eqb}
use Rattle.std.specs.Prelude as code
use Rattle.std.specs.Prelude.{Result, Ok, Err}
use Rattle.definition.specs.Run.{Answers}
use Rattle.definition.specs.Completion as definition
use Rattle.definition.specs.Completion.{normal, break, continue, stop}
use Rattle.definition.specs.TreeRun.{Completed, completed, reason_of}
use Rattle.tree_check.specs.Found.{word_at, row_at}
use Rattle.tree_runs.specs.Layout.{Layout}
use Rattle.tree_runs.specs.Links.{Links, plains, parent_of, node_of}
use Rattle.tree_runs.specs.Machine as machine
use Rattle.tree_runs.specs.Machine.{enter, leave, State, state, going, halt, up_from, leaving, step, Completes, halts, goes, turns_left}
use Rattle.tree_runs.specs.Acts.{Then, go, ask, pick, act, do_then, do_act, act_down}
use Rattle.tree_runs.proofs.Appends.{Begins, performed_of, end_begins}
use Rattle.tree_runs.proofs.Measure.{gives_next, gives_halt, turns_fall}
use Rattle.tree_runs.proofs.ActLaws.{turns_alike}
use Rattle.tree_run.specs.declared.completions.Completion.{Completion}
use Rattle.tree_run.specs.declared.performed.Performed.{Performed}
use Rattle.tree_run.specs.declared.turns.Place.{Place}
use Rattle.tree_run.specs.declared.turns.Place.TheVariants.{Enter, Leave}
use Rattle.tree_run.specs.declared.turns.Turn as code_turn
use Rattle.tree_run.specs.declared.Run.{Run}
use Rattle.tree_run.specs.declared.RunError.{RunError}
use Rattle.tree_run.specs.declared.RunError.TheVariants.{NoRoom}
use Rattle.tree_run.specs.Abstraction.{completion_of, stops, place_of, layout_at, then_of, act_of, end_at}
use Rattle.tree_run.specs.Holds.{Held, Took, took, filled, Performs, After, stays, moves, Walks, told, Ends, ended}
use Rattle.tree_run.specs.Holds as holds
use Rattle.tree_run.proofs.PerformLaws.{taken, err_ok}
use Rattle.tree_run.proofs.TurnLaws.{decide_down, node_by}

-- ---- one end

pub gives_one : (L : Layout) {n m : ℕ} {s : State} {end end' : Completed} → Completes L n s end → Completes L m s end' → end ≡ end'
gives_one L {m = m} {s = s} {end = end} {end' = end'} (halts e) g = sym (gives_halt L m s end' end g e)
gives_one L {m = m} {s = s} {end' = end'} (goes {next = t} e g) h = let k = gives_next L m s t end' h e in gives_one L g k.2

-- ---- rows are only appended

then_performs : (then : Then) (P : List ℕ) (a : Answers) → performed_of (do_then then P a) ≡ P
unfolding do_then
then_performs (go place) P a = refl
then_performs (ask k y n) P [] = refl
then_performs (ask k y n) P (zero ∷ a) = refl
then_performs (ask k y n) P (suc m ∷ a) = refl
then_performs (pick k cs) P [] = refl
then_performs (pick k cs) P (x ∷ a) = refl

-- ---- where the walk halts

is_end : (b : Bool) (c end : Completion) → ◌≡◌ {A = code.Option Completion} (elim b [ true ↦ code.Some c | false ↦ code.None ]) (code.Some end) → (b ≡ true) × (c ≡ end)
is_end true c end e = (refl, cc)
is_end false c end e = cc

module _ (words : List ℕ) (t : Links) (rows : ℕ) where
  abbrev L : Layout
  L = layout_at words t rows

  root_out : (k : ℕ) → eqb (k + 1) rows ≡ true → parent_of t rows k ≡ none
  unfolding parent_of
  root_out k e = ap (λ (y : Bool). elim y [ true ↦ none | false ↦ some (t.parent k) ]) (ap (λ (n : ℕ). eqb n rows) (sym (add-one k)) ∙ e)

  ends_there : (k : ℕ) (c : definition.Completion) → (stops c || eqb (k + 1) rows) ≡ true → (P : List ℕ) (a : Answers) → step L (state (leave k c) P a) ≡ halt (completed P c a)
  unfolding step leaving up_from
  ends_there k normal h P a = rw (root_out k h) refl
  ends_there k (break target id) h P a = rw (root_out k h) refl
  ends_there k (continue target id) h P a = rw (root_out k h) refl
  ends_there k (stop reason) h P a = refl

  pub halts_at : (p : Place) (end : Completion) → end_at p rows ≡ code.Some end → (P : List ℕ) (a : Answers) → step L (state (place_of p) P a) ≡ halt (completed P (completion_of end) a)
  halts_at (Enter k) end e P a = cc
  halts_at (Leave k c) end e P a = let q = is_end _ c end e in rw (← q.1) (ends_there k (completion_of c) q.0 P a)

  -- the turn that the code has decided on
  pub turned : (place : machine.Place) (turn : code_turn.Turn) → ((P a : List ℕ) → step L (state place P a) ≡ going (do_act (act_of words t turn) P a)) → (P a : List ℕ)
      → step L (state place P a)
      ≡ going (do_then (then_of t turn.then) (P ++ (plains (row_at words) turn.rows.start turn.rows.end ++ plains (row_at words) turn.more.start turn.more.end)) a)
  turned place turn e P a = e P a ∙ (unfold act_of do_act in refl)

  module _ (answers : Answers) where
    abbrev pub fuel : ℕ
    fuel = suc (length answers) * suc (3 * rows)

    abbrev start : State
    start = state (enter (rows - 1)) [] answers

    pub record Walking (before : List ℕ) (done : Performed) (place : machine.Place) (left : Answers) : Type 0 where
      pub long : length done.rows.now ≡ length before
      end : Completed
      started : Completes L fuel start end
      turns : ℕ
      few : turns ≤ fuel
      reached : List ℕ
      gives : Completes L turns (state place reached left) end
      held : Held words done.rows.now done.number reached

    -- the measure of the loop: what was performed does not matter
    abbrev pub turns_from : machine.Place → Answers → ℕ
    turns_from place left = turns_left L fuel (state place [] left)

    pub walk_start : {done : Performed} → done.number ≡ 0 → Walks L rows answers → Walking done.rows.now done (enter (rows - 1)) answers
    walk_start none_yet w = record {
      long = refl;
      end = w.end;
      started = w.gives;
      turns = fuel;
      few = le_refl fuel;
      reached = [];
      gives = w.gives;
      held = record { count = sym none_yet; fits = omega (arith, none_yet); same = λ i h. absurd (omega (arith, none_yet, h)) };
    }

    -- what the walk leaves in its buffer is left in the caller's: they are one
    pub handed_back : {caller done : List ℕ} {ran : Result Run RunError} → caller ≡ done → ((n : ℕ) (end : Completed) → Completes L n start end → Ends words done ran end)
        → (n : ℕ) (end : Completed) → Completes L n start end → Ends words caller ran end
    handed_back e ends n end g = rw e (ends n end g)

    -- from the end of an INSTR on
    module _ {before : List ℕ} {done : Performed} {left : Answers} (row : ℕ) (J : Walking before done (leave row normal) left) (place : Place) where
      after_next : After L row place → Walking before done (place_of place) left
      after_next (stays e) = subst (λ (p : machine.Place). Walking before done p left) (sym e) J
      after_next (moves m) =
          let g = gives_next L J.turns _ _ J.end J.gives (m J.reached left) in
          let e : suc g.0 ≡ J.turns = g.1 in
          record {
            long = J.long;
            end = J.end;
            started = J.started;
            turns = g.0;
            few = omega (arith, e, J.few);
            reached = J.reached;
            gives = g.2;
            held = J.held;
          }

      after_less : After L row place → turns_from (place_of place) left ≤ turns_from (leave row normal) left
      after_less (stays e) =
          let z : turns_from (place_of place) left ≡ turns_from (leave row normal) left = ap (λ (p : machine.Place). turns_from p left) e in
          omega (arith, z)
      after_less (moves m) =
          let z : turns_from (place_of place) left < turns_from (leave row normal) left =
          rw (turns_alike L fuel (place_of place) [] J.reached left, turns_alike L fuel (leave row normal) [] J.reached left)
          (turns_fall L J.turns fuel _ _ J.end J.gives J.few (m J.reached left)) in
          omega (arith, z)

    module _ {before : List ℕ} {done : Performed} {place : machine.Place} {left : Answers} (I : Walking before done place left) where
      -- the walk goes on, by a turn that performs these rows
      module _ (rows_of : List ℕ) (then : Then) (decided : (P a : List ℕ) → step L (state place P a) ≡ going (do_then then (P ++ rows_of) a))
          {done' : Performed} {p : Result (Unit {0}) RunError} (did : Performs words done done' p rows_of) where
        -- the buffer can't take a row of it
        pub walk_full : {e : RunError} → p ≡ Err e → (n : ℕ) (end : Completed) → Completes L n start end → Ends words done'.rows.now (Err e) end
        walk_full {e} f n end g = subst (λ (z : Completed). Ends words done'.rows.now (Err e) z) (gives_one L I.started g) (by (did.took I.reached I.held))
          where
            more : Begins (I.reached ++ rows_of) I.end.rows
            more =
                subst (λ (z : List ℕ). Begins z I.end.rows) (then_performs then (I.reached ++ rows_of) left)
                (end_begins L (gives_next L I.turns _ _ I.end I.gives (decided I.reached left)).2)

            by : Took words done'.rows.now done'.number p (I.reached ++ rows_of) → Ends words done'.rows.now (Err e) I.end
            by (took q h) = absurd (err_ok (sym f ∙ q))
            by (filled l q) =
                let w : length I.end.rows ≡ length (I.reached ++ rows_of) + length more.more = ap length more.whole ∙ length-append (I.reached ++ rows_of) more.more in
                let at : get_or (I.reached ++ rows_of) (length done'.rows.now) 0 ≡ get_or I.end.rows (length done'.rows.now) 0
                = sym (get_or-append (I.reached ++ rows_of) more.more 0 (length done'.rows.now) l) ∙ ap (λ (z : List ℕ). get_or z (length done'.rows.now) 0) (sym more.whole) in
                let same : Err e ≡ Err (NoRoom (get_or I.end.rows (length done'.rows.now) 0)) = sym f ∙ (q ∙ ap (λ (z : ℕ). Err (NoRoom z)) at) in
                let long : length done'.rows.now < length I.end.rows = omega (arith, l, w) in
                holds.filled long cc

        module _ {u : Unit {0}} (f : p ≡ Ok u) (place' : machine.Place) (left' : Answers) (went : (P : List ℕ) → state place' P left' ≡ do_then then P left) where
          next_is : step L (state place I.reached left) ≡ going (state place' (I.reached ++ rows_of) left')
          next_is = decided I.reached left ∙ ap (λ (s : State). going s) (sym (went (I.reached ++ rows_of)))

          pub walk_next : Walking before done' place' left'
          walk_next =
              let g = gives_next L I.turns _ _ I.end I.gives next_is in
              let e : suc g.0 ≡ I.turns = g.1 in
              record {
                long = did.long ∙ I.long;
                end = I.end;
                started = I.started;
                turns = g.0;
                few = omega (arith, e, I.few);
                reached = I.reached ++ rows_of;
                gives = g.2;
                held = taken words f (did.took I.reached I.held);
              }

          pub walk_less : turns_from place' left' < turns_from place left
          walk_less =
              rw (turns_alike L fuel place' [] (I.reached ++ rows_of) left', turns_alike L fuel place [] I.reached left)
              (turns_fall L I.turns fuel _ _ I.end I.gives I.few next_is)

      -- it halts
      pub walk_end : {ran : Result Run RunError} (c : definition.Completion) → ((P a : List ℕ) → step L (state place P a) ≡ halt (completed P c a)) → ran ≡ told done.number (reason_of c)
          → (n : ℕ) (end : Completed) → Completes L n start end → Ends words done.rows.now ran end
      unfolding completed
      walk_end {ran} c halted tells n end g =
          let z : I.end ≡ completed I.reached c left = gives_halt L I.turns _ I.end _ I.gives (halted I.reached left) in
          subst (λ (e : Completed). Ends words done.rows.now ran e) (sym z ∙ gives_one L I.started g) (ended done.number I.held tells)

      -- an INSTR is entered: its rows are performed, and the walk goes on from its end
      module _ {row : ℕ} (at : place ≡ enter row) (instr : word_at words row 0 ≡ 4) {first : ℕ} (begins : first ≡ t.begin row)
          {done' : Performed} {p : Result (Unit {0}) RunError} (did : Performs words done done' p (plains (row_at words) first row)) where
        decided : (P a : List ℕ) → step L (state place P a) ≡ going (do_then (go (leave row normal)) (P ++ plains (row_at words) first row) a)
        unfolding act_down do_act
        decided P a = rw (at, begins) (decide_down words t rows row {a = act (plains (row_at words) (t.begin row) row) (go (leave row normal))} by P a)
          where
            by : act (plains (row_at words) (t.begin row) row) (go (leave row normal)) ≡ act_down (node_of (row_at words) t row (row_at words row)) row
            by = rw (node_by words t row instr) refl

        goes_out : (P : List ℕ) → state (leave row normal) P left ≡ do_then (go (leave row normal)) P left
        unfolding do_then
        goes_out P = refl

        pub instr_full : {e : RunError} → p ≡ Err e → (n : ℕ) (end : Completed) → Completes L n start end → Ends words done'.rows.now (Err e) end
        instr_full = walk_full (plains (row_at words) first row) (go (leave row normal)) decided did

        module _ {u : Unit {0}} (f : p ≡ Ok u) (place' : Place) (after : After L row place') where
          out : Walking before done' (leave row normal) left
          out = walk_next (plains (row_at words) first row) (go (leave row normal)) decided did f (leave row normal) left goes_out

          pub instr_next : Walking before done' (place_of place') left
          instr_next = after_next row out place' after

          pub instr_less : turns_from (place_of place') left < turns_from place left
          instr_less =
              let down : turns_from (leave row normal) left < turns_from place left
              = walk_less (plains (row_at words) first row) (go (leave row normal)) decided did f (leave row normal) left goes_out in
              let on_from : turns_from (place_of place') left ≤ turns_from (leave row normal) left = after_less row out place' after in
              omega (arith, down, on_from)
