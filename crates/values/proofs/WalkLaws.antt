-- The definition's walk over the words: what a visit gives by the block's code, and what a value terminal gives by its code.
use mathlib.Core.Path.{◌≡◌, refl, sym, ap, ◌∙◌}
use mathlib.Core.Bool.{Bool, true, false}
use mathlib.Core.List.{List}
use mathlib.Core.Option.{Option}
use Prim.Native.Nat.{ℕ, zero, suc, ◌+◌, ◌-◌, ◌≤◌}
use native.Mathlib.Numerals.{add-one}
use native.Mathlib.Omega.{arith}
use lib.Dec.{eqb, leb}
use borrow.Author.Tests.{lt-leb}
use Rattle.table.specs.declared.columns.Span.{Span}
use Rattle.table.specs.Table.{Table, Terminal, Variant, goto, branch, label, maybe_throw, table_of, terminal_at, block_at, instruction_rows_at, is_absent}
use Rattle.table.specs.declared.terminals.Terminal as code
use Rattle.table.specs.declared.terminals.Terminal.TheVariants as end_as
use Rattle.table.specs.declared.terminals.Branch.{Branch}
use Rattle.table.specs.Ending.{ending}
use Rattle.table.specs.Promise.{Ends, Heads}
use Rattle.table.proofs.ColumnLaws.{head_rows}
use Rattle.definition.specs.Result.{Result, ok, refused, ◌>>=◌, refuse_if}
use Rattle.definition.specs.Value as definition
use Rattle.definition.specs.Value.{ValueTerminalResult, TestBlockResult, VisitValueBlock, visit_value_block, visit_value_block_at}
use Rattle.definition.specs.Value.{visit_value_block_terminal, then_fallthrough, begin_visit, extract_or_refuse, branch_value}
use Rattle.definition.specs.Value.{maybe_throw_value, is_empty_goto, is_fallthrough, Ways, branch_ways, test_block_ended}
use Rattle.values.specs.declared.result.Tally.{Tally}
use Rattle.values.specs.declared.result.ValueBlockResult.{ValueBlockResult}
use Rattle.values.specs.declared.refusal.Refusal.TheVariants.{TooManyVisits}
use Rattle.values.specs.declared.refusal.Refused.{Refused}
use Rattle.table.specs.Columns.{maybe_of}
use Rattle.values.specs.Refusal.{refused_after}
use Rattle.std.specs.Prelude.{Some, None, Err}
use Rattle.std.specs.Option.{option_eq}
use Rattle.std.specs.Prelude as std
use Rattle.values.specs.Met.{block_result, Fit, Met}
use Rattle.values.specs.WalkOutcome.{visit, block_outcome, terminal_outcome}
use Rattle.values.proofs.EndingLaws.{OtherEnd, NoValue, other_end, no_value, no_ways}
use Rattle.values.proofs.MetLaws.{wrap, unless_on, unless_off, defined, moved, stops}

-- ---- a visit

abbrev begun : Table → VisitValueBlock → (block : ℕ) → Option ℕ → (span : Span) → Result ℕ → Result definition.ValueBlockResult
begun t deeper block fallthrough span begin =
    begin >>= λ visits. refuse_if (is_fallthrough fallthrough block) 23 block visits >>= λ _. visit_value_block_at t deeper (terminal_at t block) block (block_at t block) fallthrough span visits

visit_more : (t : Table) {levels : ℕ} → (levels ≡ 0 → ⊥) → (block : ℕ) (fallthrough : Option ℕ) (span : Span) (visits : ℕ)
    → visit_value_block t levels block fallthrough span visits ≡ begun t (visit_value_block t (levels - 1)) block fallthrough span (begin_visit t block visits)
unfolding visit_value_block
visit_more t {levels = zero} f block ft span visits = absurd (f refl)
visit_more t {levels = suc levels} f block ft span visits = let e : suc levels - 1 ≡ levels = omega arith in rw e

begin_by : (t : Table) (block visits : ℕ) (full missing : Bool) → leb 8192 visits ≡ full → is_absent (terminal_at t block) ≡ missing
    → begin_visit t block visits ≡ (refuse_if full 31 block visits >>= λ _. refuse_if missing 10 block (suc visits) >>= λ _. ok (suc visits))
unfolding begin_visit
begin_by t block visits full missing e f = ap (λ (y : Bool). refuse_if y 31 block visits >>= λ _. refuse_if (is_absent (terminal_at t block)) 10 block (suc visits) >>= λ _. ok (suc visits)) e
    ∙ ap (λ (y : Bool). refuse_if full 31 block visits >>= λ _. refuse_if y 10 block (suc visits) >>= λ _. ok (suc visits)) f

this_is : (fallthrough : std.Option ℕ) (block : ℕ) → is_fallthrough (maybe_of fallthrough) block ≡ option_eq eqb fallthrough (Some block)
this_is None block = refl
this_is (Some fallthrough) block = refl

-- the tally once the visit has begun
abbrev pub begun_tally : Tally → Tally
begun_tally tally = record { rows = tally.rows; visits = tally.visits + 1 }

module _ {ws : List ℕ} {tally : Tally} {block : ℕ} (fit : Fit ws tally 0 block) (levels : ℕ) (fallthrough : std.Option ℕ) (span : Span) where
  abbrev t : Table
  t = table_of ws

  abbrev visits : ℕ
  visits = tally.visits

  abbrev outcome : Result definition.ValueBlockResult
  outcome = visit ws levels block (maybe_of fallthrough) span visits

  -- "Order at a visit: 30, 31, 10, then 11 or 23"
  pub visit_30 : levels ≡ 0 → outcome ≡ refused 30 block visits
  unfolding visit_value_block
  visit_30 e = rw e

  module _ (more : levels ≡ 0 → ⊥) where
    begin : (begins : Result ℕ) → begin_visit t block visits ≡ begins → outcome ≡ begun t (visit ws (levels - 1)) block (maybe_of fallthrough) span begins
    begin begins e = visit_more t more block (maybe_of fallthrough) span visits ∙ ap (begun t (visit ws (levels - 1)) block (maybe_of fallthrough) span) e

    pub visit_31 : visits ≡ 8192 → outcome ≡ refused 31 block visits
    unfolding ◌>>=◌ refuse_if
    visit_31 e = begin _ (begin_by t block visits true (is_absent (terminal_at t block)) (rw e) refl)

    module _ (few : visits ≡ 8192 → ⊥) {absent : Bool} (known : absent ≡ is_absent (terminal_at t block)) where
      begins : (missing : Bool) → absent ≡ missing
          → outcome ≡ begun t (visit ws (levels - 1)) block (maybe_of fallthrough) span (refuse_if missing 10 block (suc visits) >>= λ _. ok (suc visits))
      unfolding ◌>>=◌ refuse_if
      begins missing q = begin _ (begin_by t block visits false missing (lt-leb 8192 visits (omega (arith, fit.visits))) (sym known ∙ q))

      pub visit_10 : absent ≡ true → outcome ≡ refused 10 block (visits + 1)
      unfolding ◌>>=◌ refuse_if
      visit_10 q = rw (add-one visits) (begins true q)

      module _ (there : absent ≡ false) where
        -- what the visit gives once it has begun, and the fallthrough is not reached
        at_end : Result definition.ValueBlockResult
        at_end = visit_value_block_at t (visit ws (levels - 1)) (terminal_at t block) block (block_at t block) (maybe_of fallthrough) span (suc visits)

        reaches : (this : Bool) → is_fallthrough (maybe_of fallthrough) block ≡ this → outcome ≡ (refuse_if this 23 block (suc visits) >>= λ _. at_end)
        unfolding ◌>>=◌ refuse_if at_end
        reaches this q = begins false there ∙ ap (λ (y : Bool). refuse_if y 23 block (suc visits) >>= λ _. at_end) q

        pub visit_23 : option_eq eqb fallthrough (Some block) ≡ true → outcome ≡ refused 23 block (visits + 1)
        unfolding ◌>>=◌ refuse_if
        visit_23 q = rw (add-one visits) (reaches true (this_is fallthrough block ∙ q))

        pub visit_on : option_eq eqb fallthrough (Some block) ≡ false → outcome ≡ block_outcome ws (levels - 1) block fallthrough span (visits + 1)
        unfolding ◌>>=◌ refuse_if at_end
        visit_on q = rw (add-one visits) (reaches false (this_is fallthrough block ∙ q))

-- the visit has begun, and its fallthrough is not reached: the value is what the block's end gives
pub visit_begun : {ws : List ℕ} {tally : Tally} {block n : ℕ} {b b' : List ℕ} {r : std.Result ValueBlockResult Refused} (fit : Fit ws tally 0 block) (levels : ℕ)
    (fallthrough : std.Option ℕ) (span : Span) → (levels ≡ 0 → ⊥) → (tally.visits ≡ 8192 → ⊥) → {absent : Bool} → absent ≡ is_absent (terminal_at (table_of ws) block) → absent ≡ false
    → option_eq eqb fallthrough (Some block) ≡ false
    → Met ws block_result (block_outcome ws (levels - 1) block fallthrough span (tally.visits + 1)) (begun_tally tally) n b r b' → n ≤ 8200
    → Met ws block_result (visit ws levels block (maybe_of fallthrough) span tally.visits) tally 0 b r b'
visit_begun fit levels fallthrough span more few known there passed met most =
    defined (visit_on fit levels fallthrough span more few known there passed) (moved met refl (omega arith) (omega arith))

-- the end for 31
pub visit_full : {ws : List ℕ} {tally : Tally} {block : ℕ} {b b' : List ℕ} {e : Refused} → Fit ws tally 0 block → (levels : ℕ) (fallthrough : std.Option ℕ) (span : Span)
    → (levels ≡ 0 → ⊥) → tally.visits ≡ 8192 → e ≡ refused_after (TooManyVisits block) tally.visits
    → Met ws block_result (visit ws levels block (maybe_of fallthrough) span tally.visits) tally 0 b (Err e) b'
visit_full {block = block} fit levels fallthrough span more full e =
    defined (visit_31 fit levels fallthrough span more full) (stops (TooManyVisits block) _ e (record { visits = fit.visits; rises = omega arith }))

-- ---- by the block's end

module _ (ws : List ℕ) (block levels : ℕ) where
  abbrev table : Table
  table = table_of ws

  module _ (fallthrough : std.Option ℕ) (span : Span) (visits : ℕ) where
    abbrev by_end : Terminal → Result definition.ValueBlockResult
    by_end m = visit_value_block_at table (visit ws levels) m block (block_at table block) (maybe_of fallthrough) span visits

    abbrev ends_so : Result definition.ValueBlockResult
    ends_so = block_outcome ws levels block fallthrough span visits

    pub at_goto : {next : ℕ} {v : Variant} → Ends ws block (goto next v) → ends_so ≡ extract_or_refuse table block (instruction_rows_at table block) visits 24 block
    unfolding visit_value_block_at
    at_goto ends = ap by_end ends.is

    pub at_branch : {test consequent alternate : ℕ} → Ends ws block (branch test consequent alternate)
        → ends_so ≡ branch_value table block test (block_at table block).id (instruction_rows_at table block) visits
    unfolding visit_value_block_at
    at_branch ends = ap by_end ends.is

    pub at_other : (e : code.Terminal) → Ends ws block (ending e) → OtherEnd e
        → ends_so ≡ then_fallthrough table (visit ws levels) (block_at table block) span (terminal_outcome ws levels block visits)
    at_other e ends other =
        rw ends.is (other_end table (visit ws levels) e other block (block_at table block) (maybe_of fallthrough) span visits)

    -- MaybeThrow, by its continuation. "That continuation is looked up first, before any visit: 10 if missing."
    module _ {next : ℕ} (ends : Ends ws block (maybe_throw next)) {missing : Bool} (known : missing ≡ is_absent (terminal_at table next)) where
      pub maybe_throw_missing : missing ≡ true → ends_so ≡ refused 10 next visits
      unfolding visit_value_block_at
      maybe_throw_missing e = ap by_end ends.is ∙ unless_on _ 10 next visits _ (sym known ∙ e)

      module _ (there : missing ≡ false) {empty : Bool} (asked : empty ≡ is_empty_goto (block_at table next)) where
        goes_on : (y : Bool) → empty ≡ y → ends_so ≡ maybe_throw_value table (visit ws levels) block next (instruction_rows_at table block) (maybe_of fallthrough) span visits y
        unfolding visit_value_block_at
        goes_on y e = ap by_end ends.is ∙ unless_off _ 10 next visits _ (sym known ∙ there)
            ∙ ap (maybe_throw_value table (visit ws levels) block next (instruction_rows_at table block) (maybe_of fallthrough) span visits) (sym asked ∙ e)

        pub maybe_throw_own : empty ≡ true → ends_so ≡ extract_or_refuse table next (instruction_rows_at table block) visits 28 block
        unfolding maybe_throw_value
        maybe_throw_own e = goes_on true e

        pub maybe_throw_visits : {first count id : ℕ} {own : Span} → Heads ws block first count id own → empty ≡ false
            → ends_so ≡ (visit ws levels next (maybe_of fallthrough) span visits >>= λ final. ok (wrap ws first count final))
        unfolding maybe_throw_value
        maybe_throw_visits head e = goes_on false e
            ∙ ap (λ (rows : List ℕ). maybe_throw_value table (visit ws levels) block next rows (maybe_of fallthrough) span visits false) (head_rows head)

  -- the value terminal at the end of a block
  module _ (visits : ℕ) where
    abbrev with_end : Terminal → ℕ → Span → Result ValueTerminalResult
    with_end m id span = visit_value_block_terminal table (visit ws levels) m id span visits block

    pub terminal_by : {e : Terminal} {first count id : ℕ} {span : Span} → Ends ws block e → Heads ws block first count id span → terminal_outcome ws levels block visits ≡ with_end e id span
    terminal_by ends head = rw (ends.is, head.is_id, head.is_span)

    pub terminal_label : {x f : ℕ} → Ends ws block (label x f) → terminal_outcome ws levels block visits ≡ refused 26 block visits
    unfolding visit_value_block_terminal
    terminal_label ends = ap (λ (m : Terminal). with_end m (block_at table block).id (block_at table block).span) ends.is

    pub terminal_maybe_throw : {next : ℕ} → Ends ws block (maybe_throw next) → terminal_outcome ws levels block visits ≡ refused 92 block visits
    unfolding visit_value_block_terminal
    terminal_maybe_throw ends = ap (λ (m : Terminal). with_end m (block_at table block).id (block_at table block).span) ends.is

    pub terminal_other : (e : code.Terminal) → Ends ws block (ending e) → NoValue e → terminal_outcome ws levels block visits ≡ refused 27 block visits
    terminal_other e ends not_value = rw ends.is (no_value table (visit ws levels) e not_value (block_at table block).id (block_at table block).span visits block)

-- ---- a test, by its end

module _ (ws : List ℕ) (test : definition.ValueBlockResult) (at : ℕ) where
  abbrev ended : Result TestBlockResult
  ended = test_block_ended test (branch_ways (terminal_at (table_of ws) test.block)) at

  pub ended_branch : {place consequent alternate : ℕ} → Ends ws test.block (branch place consequent alternate)
      → ended ≡ ok (record { test = test; ways = record { consequent = consequent; alternate = alternate } })
  unfolding test_block_ended
  ended_branch ends = ap (λ (m : Terminal). test_block_ended test (branch_ways m) at) ends.is

  pub ended_other : (e : code.Terminal) → Ends ws test.block (ending e) → ((end : Branch) → e ≡ end_as.Branch end → ⊥) → ended ≡ refused 25 at test.visits
  unfolding test_block_ended
  ended_other e ends f = rw ends.is (ap (λ (w : Option Ways). test_block_ended test w at) (no_ways e f))
