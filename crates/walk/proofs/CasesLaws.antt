-- A Switch's cases, one at a time: what was built of them before those that are left, and the ids of their entries on the stack.
use mathlib.Core.Path.{◌≡◌, refl, sym, ap, ◌∙◌}
use mathlib.Core.List.{List, [], ◌∷◌, ◌++◌, reverse, reverse-append, append_assoc}
use mathlib.Core.Option.{Option, none, some}
use Prim.Native.Nat.{ℕ, suc, ◌+◌, ◌*◌, ◌-◌, ◌≤◌, ◌<◌}
use native.Mathlib.Omega.{arith}
use lib.ListN.{length, get_or, take, drop, length-drop, length-append}
use lib.Seq.{take-suc, get_or-drop}
use Rattle.std.specs.Prelude as std
use Rattle.table.specs.Columns.{maybe_of}
use Rattle.table.specs.Table.{Table, Case, table_of}
use Rattle.table.specs.Words.{case_count}
use Rattle.table.specs.Promise.{Chooses}
use Rattle.table.proofs.TableLaws.{length_cases}
use Rattle.definition.specs.Around.{Around}
use Rattle.definition.specs.Context as definition
use Rattle.definition.specs.Output.{Output}
use Rattle.definition.specs.Result.{Result, ok, refused, ◌>>=◌}
use Rattle.definition.specs.Statement.{CasesResult, traverse_cases, cases_last_first, schedule_ids, schedule_switch}
use Rattle.definition.specs.Tree.{Statements, Cases, CASE, no_cases, count_cases}
use Rattle.definition.specs.Marks.{marks}
use Rattle.definition.specs.Put.{cases_put}
use Rattle.walk.specs.Met.{traverse_outcome, cases_outcome, cases_result}
use Rattle.walk.specs.Out.{Puts}
use Rattle.walk.specs.State.{state, ids_on, last_ids, entries_if, refused_by, Fine}
use Rattle.walk.specs.declared.refusal.Refused.{Refused}
use Rattle.walk.specs.declared.state.Walk.{Walk}
use Rattle.definition.proofs.Steps.{ok_eq}
use Rattle.walk.proofs.EntriesLaws.{scheduled_ids}

-- ---- the cases of the table, the last first

abbrev beyond : Case
beyond = record { test = 0; block = 0 }

cases_next : (t : Table) (i j : ℕ) → i + j < length t.cases → cases_last_first t i (suc j) ≡ get_or t.cases (i + j) beyond ∷ cases_last_first t i j
unfolding cases_last_first
cases_next t i j h =
    ap (λ (l : List Case). reverse l) (take-suc (drop i t.cases) j beyond (omega (arith, length-drop i t.cases)))
    ∙ reverse-append (take j (drop i t.cases)) (get_or (drop i t.cases) j beyond ∷ [])
    ∙ ap (λ (k : Case). k ∷ reverse (take j (drop i t.cases))) (get_or-drop i t.cases j beyond)

cases_none : (t : Table) (i n : ℕ) → n ≡ 0 → cases_last_first t i n ≡ []
unfolding cases_last_first
cases_none t i n e = rw e refl

pub cases_split : {ws : List ℕ} (i : ℕ) {n test block : ℕ} → 0 < n → i + n ≤ case_count ws → Chooses ws (i + (n - 1)) test block
    → cases_last_first (table_of ws) i n ≡ record { test = test; block = block } ∷ cases_last_first (table_of ws) i (n - 1)
cases_split {ws} i {n} f h chooses =
    let e : n ≡ suc (n - 1) = omega (arith, f) in
    ap (λ (k : ℕ). cases_last_first (table_of ws) i k) e ∙ cases_next (table_of ws) i (n - 1) (omega (arith, f, h, length_cases ws))
    ∙ ap (λ (k : Case). k ∷ cases_last_first (table_of ws) i (n - 1)) (chooses.is beyond)

-- ---- what was built of them

-- it stands before what follows
abbrev pub before : (Cases → Cases) → CasesResult → Result CasesResult
before wrap rest = ok (record { cases = wrap rest.cases; ids = rest.ids; context = rest.context })

before_nothing : (r : Result CasesResult) → r ≡ (r >>= before (λ more. more))
unfolding ◌>>=◌
before_nothing (ok rest) = refl
before_nothing (refused code at visits) = refl

before_both : (r : Result CasesResult) (inner outer : Cases → Cases) → ((r >>= before inner) >>= before outer) ≡ (r >>= before (λ more. outer (inner more)))
unfolding ◌>>=◌
before_both (ok rest) inner outer = refl
before_both (refused code at visits) inner outer = refl

-- `left` cases are to come, and `built` are built and scheduled; `own` are the ids of what the Switch itself has scheduled
pub record Building (words : List ℕ) (levels : ℕ) (around : Around) (at fallthrough first number : ℕ) (start : Walk) (left built : ℕ) (now : Walk) : Type 0 where
  pub wrap : Cases → Cases
  pub put : Output → Output
  pub ids : List ℕ
  pub same : (own : List ℕ) → cases_outcome words levels around at fallthrough first number own (state start)
      ≡ (cases_outcome words levels around at fallthrough first left (ids ++ own) (state now) >>= before wrap)
  pub puts : Puts start put now
  pub splits : (out : Output) (more : Cases) → cases_put out (wrap more) ≡ cases_put (put out) more
  pub counts : (more : Cases) → count_cases (wrap more) ≡ built + count_cases more
  pub held : length ids ≡ built
  pub stack : ids_on (state now) ≡ ids ++ ids_on (state start)
  pub within : left + built ≤ number
  pub fine : Fine now 0 0
  pub rises : start.tally.visits ≤ now.tally.visits
  pub rows : now.tally.rows + 8210 * start.tally.visits ≤ start.tally.rows + 8210 * now.tally.visits
  pub len : now.cx.len + marks start.cx.emitted ≤ start.cx.len + marks now.cx.emitted
  pub id : now.cx.next_schedule_id + 2 * marks start.cx.emitted ≤ start.cx.next_schedule_id + 2 * marks now.cx.emitted
  pub lines : now.lines + marks start.cx.emitted ≤ start.lines + marks now.cx.emitted

module _ (words : List ℕ) (levels : ℕ) (around : Around) (at fallthrough first number : ℕ) (start : Walk) where
  pub none_built : Fine start 0 0 → Building words levels around at fallthrough first number start number 0 start
  none_built fine = record {
    wrap = λ more. more;
    put = λ out. out;
    ids = [];
    same = λ own. before_nothing _;
    puts = λ origin out o. o;
    splits = λ out more. refl;
    counts = λ more. omega arith;
    held = refl;
    stack = refl;
    within = omega arith;
    fine = fine;
    rises = omega arith;
    rows = omega arith;
    len = omega arith;
    id = omega arith;
    lines = omega arith;
  }

  module _ {left built : ℕ} {now : Walk} (b : Building words levels around at fallthrough first number start left built now) (own : List ℕ) where
    pub builds_refused : (e : Refused) → cases_outcome words levels around at fallthrough first left (b.ids ++ own) (state now) ≡ refused_by e
        → cases_outcome words levels around at fallthrough first number own (state start) ≡ refused_by e
    unfolding ◌>>=◌
    builds_refused e q = b.same own ∙ ap (λ (r : Result CasesResult). r >>= before b.wrap) q

    pub builds_on : (r : Result CasesResult) (inner : Cases → Cases) → cases_outcome words levels around at fallthrough first left (b.ids ++ own) (state now) ≡ (r >>= before inner)
        → cases_outcome words levels around at fallthrough first number own (state start) ≡ (r >>= before (λ more. b.wrap (inner more)))
    builds_on r inner q = b.same own ∙ ap (λ (r : Result CasesResult). r >>= before b.wrap) q ∙ before_both r inner b.wrap

    pub builds_same : (r : Result CasesResult) → cases_outcome words levels around at fallthrough first left (b.ids ++ own) (state now) ≡ r
        → cases_outcome words levels around at fallthrough first number own (state start) ≡ (r >>= before b.wrap)
    builds_same r q = b.same own ∙ ap (λ (r : Result CasesResult). r >>= before b.wrap) q

    pub all_built : left ≡ 0 → cases_outcome words levels around at fallthrough first number own (state start) ≡ ok (cases_result own (b.wrap no_cases, b.ids) (state now))
    unfolding ◌>>=◌ traverse_cases
    all_built e = b.same own ∙ ap (λ (l : List Case). traverse_cases (traverse_outcome words levels around) at fallthrough l (b.ids ++ own) (state now) >>= before b.wrap) (cases_none (table_of words) first left e)

-- ---- the ids on the stack

-- those of a Switch: its own, if it has a label
pub switch_ids : (label : std.Option ℕ) (cx after : definition.Context) → schedule_switch (maybe_of label) cx ≡ ok after → ids_on after ≡ schedule_ids (maybe_of label) cx.next_id ++ ids_on cx
unfolding schedule_switch
switch_ids std.None cx after e = ap ids_on (sym (ok_eq e))
switch_ids (std.Some label) cx after e = scheduled_ids _ cx after e

own_length : (label : std.Option ℕ) (id : ℕ) → length (schedule_ids (maybe_of label) id) ≡ entries_if label
own_length std.None id = refl
own_length (std.Some label) id = refl

take_first : (ids more : List ℕ) (n : ℕ) → length ids ≡ n → take n (ids ++ more) ≡ ids
take_first [] more n e = rw (sym e) refl
take_first (id ∷ ids) more n e = rw (sym e) (ap (λ (z : List ℕ). id ∷ z) (take_first ids more (length ids) refl))

-- those of its cases stand before them
module _ (label : std.Option ℕ) (id : ℕ) (ids more : List ℕ) where
  all_length : length (ids ++ schedule_ids (maybe_of label) id) ≡ length ids + entries_if label
  all_length = omega (arith, length-append ids (schedule_ids (maybe_of label) id), own_length label id)

  module _ (inside built : definition.Context) (own : ids_on inside ≡ schedule_ids (maybe_of label) id ++ more) (on : ids_on built ≡ ids ++ ids_on inside) where
    all_on : ids_on built ≡ (ids ++ schedule_ids (maybe_of label) id) ++ more
    all_on = on ∙ ap (λ (l : List ℕ). ids ++ l) own ∙ sym (append_assoc ids (schedule_ids (maybe_of label) id) more)

    pub last_are : last_ids (length ids + entries_if label) built ≡ ids ++ schedule_ids (maybe_of label) id
    last_are = rw all_on (take_first (ids ++ schedule_ids (maybe_of label) id) more (length ids + entries_if label) all_length)

    pub last_there : length ids + entries_if label ≤ length (ids_on built)
    last_there = rw all_on (omega (arith, all_length, length-append (ids ++ schedule_ids (maybe_of label) id) more))
