-- The tables that the law with values speaks of: statements and loops. Values are those of PlainValue; a Branch may be a statement.
use Rattle.std.specs.Prelude.{◌≡◌, ℕ, List, [], ◌∷◌, Bool, true, false}
use Rattle.std.proofs.Math.Option.{Option, some}
use Rattle.table.specs.Table.{Table, Terminal, Try, absent, unreachable, throw, return, goto, if, branch, switch, do_while, while, for, for_of, for_in}
use Rattle.table.specs.Table.{logical, ternary, optional, label, sequence, maybe_throw, try, scope, code_of, is_unreachable, terminal_at, instruction_rows_at}
use Rattle.definition.specs.Completion.{contains}
use Rattle.definition.specs.Statement.{cases_last_first}
use Rattle.definition.specs.Plain.{Width, fallthrough_of, All}
use Rattle.definition.specs.PlainLoops.{loop_codes, new_loop, loop_of, ends_in_own_load, drop_own, IsProper, Reached, may_be_open}
use Rattle.definition.specs.ValueEnds.{ends_at, end_of}
use Rattle.definition.specs.PlainValue.{GoesTo, NoStore}

-- the terminals of plain tables with loops, and Logical, Ternary, Optional, Sequence and MaybeThrow
abbrev pub wide_codes : Width → List ℕ
wide_codes width = 13 ∷ 14 ∷ 15 ∷ 17 ∷ 18 ∷ loop_codes width

-- the blocks that a terminal names otherwise than as a fallthrough or a case, but for those to which a value goes
abbrev pub wide_entered_by : Terminal → List ℕ
wide_entered_by absent = []
wide_entered_by unreachable = []
wide_entered_by (throw value) = []
wide_entered_by (return value) = []
wide_entered_by (goto block variant) = block ∷ []
wide_entered_by (if test consequent alternate fallthrough) = consequent ∷ alternate ∷ []
wide_entered_by (branch test consequent alternate) = consequent ∷ alternate ∷ []
wide_entered_by (switch test first number fallthrough) = []
wide_entered_by (do_while loop test fallthrough) = loop ∷ []
wide_entered_by (while test loop fallthrough) = test ∷ loop ∷ []
wide_entered_by (for init test update loop fallthrough) = init ∷ loop ∷ []
wide_entered_by (for_of init test loop fallthrough) = []
wide_entered_by (for_in init loop fallthrough) = []
wide_entered_by (logical operator test fallthrough) = test ∷ []
wide_entered_by (ternary test fallthrough) = test ∷ []
wide_entered_by (optional flag test fallthrough) = test ∷ []
wide_entered_by (label block fallthrough) = block ∷ []
wide_entered_by (sequence block fallthrough) = block ∷ []
wide_entered_by (maybe_throw continuation) = continuation ∷ []
wide_entered_by (try block handler fallthrough binding) = []
wide_entered_by (scope pruned block fallthrough number) = block ∷ []

pub record WideLoops (width : Width) (t : Table) : Type 0 where
  pub ends : (block : ℕ) → contains (wide_codes width) (code_of (terminal_at t block)) ≡ true
  pub no_goto_try : (block target : ℕ) → terminal_at t block ≡ goto target Try → ⊥
  -- "the test of a loop ends in a Branch to its loop block and fallthrough"
  pub tests : (block test body fallthrough again h y : ℕ) → loop_of (terminal_at t block) ≡ some (new_loop test body fallthrough again) → end_of t test ≡ some (ends_at h y)
      → (place : ℕ) × (terminal_at t y ≡ branch place body fallthrough)
  -- "the init of a For ends in a Goto to its test", "a For's update ends in a Goto to its test"
  pub inits : (block init test : ℕ) (update : Option ℕ) (loop fallthrough h e : ℕ) → terminal_at t block ≡ for init test update loop fallthrough → end_of t init ≡ some (ends_at h e) → GoesTo t e test
  pub updates : (block init test update loop fallthrough h e : ℕ) → terminal_at t block ≡ for init test (some update) loop fallthrough → end_of t update ≡ some (ends_at h e) → GoesTo t e test
  -- "no test and no update ends in a store to an unnamed identifier"
  pub test_store : (block test body fallthrough again h y : ℕ) → loop_of (terminal_at t block) ≡ some (new_loop test body fallthrough again) → end_of t test ≡ some (ends_at h y) → NoStore t h
  pub update_store : (block init test update loop fallthrough h e : ℕ) → terminal_at t block ≡ for init test (some update) loop fallthrough → end_of t update ≡ some (ends_at h e) → NoStore t h
  -- "no init ends in a load of its own lvalue's identifier"
  pub init_load : (block init test : ℕ) (update : Option ℕ) (loop fallthrough h e : ℕ) → terminal_at t block ≡ for init test update loop fallthrough → end_of t init ≡ some (ends_at h e)
      → ends_in_own_load t (instruction_rows_at t h) ≡ false
  pub one_fallthrough : (block block' fallthrough : ℕ) → fallthrough_of (terminal_at t block) ≡ some fallthrough → fallthrough_of (terminal_at t block') ≡ some fallthrough → block ≡ block'
  pub no_loop : (block fallthrough loop_at test body fallthrough' again : ℕ) → fallthrough_of (terminal_at t block) ≡ some fallthrough
      → loop_of (terminal_at t loop_at) ≡ some (new_loop test body fallthrough' again) → fallthrough ≡ body → ⊥
  pub no_again : (block fallthrough loop_at test body fallthrough' again : ℕ) → fallthrough_of (terminal_at t block) ≡ some fallthrough
      → loop_of (terminal_at t loop_at) ≡ some (new_loop test body fallthrough' again) → fallthrough ≡ again → ⊥
  pub case_fallthrough : (block case : ℕ) → fallthrough_of (terminal_at t block) ≡ some case → IsProper t case → ⊥
  -- "Unreachable is no entry and named only as the fallthrough of an If, Switch, Label or scope"
  pub entry_reached : Reached t t.entry
  pub entered : (block : ℕ) → All (Reached t) (wide_entered_by (terminal_at t block))
  pub case_reached : (case : ℕ) → IsProper t case → Reached t case
  pub open_ends : (block fallthrough : ℕ) → fallthrough_of (terminal_at t block) ≡ some fallthrough → is_unreachable (terminal_at t fallthrough) ≡ true
      → may_be_open (terminal_at t block) ≡ true
  pub open_cases : (block test first number fallthrough : ℕ) → terminal_at t block ≡ switch test first number fallthrough → is_unreachable (terminal_at t fallthrough) ≡ true
      → drop_own fallthrough (cases_last_first t first number) ≡ cases_last_first t first number
  -- "a MaybeThrow's continuation is no fallthrough, case, loop block or continue block"
  pub throw_fallthrough : (block block' n : ℕ) → terminal_at t block ≡ maybe_throw n → fallthrough_of (terminal_at t block') ≡ some n → ⊥
  pub throw_case : (block n : ℕ) → terminal_at t block ≡ maybe_throw n → IsProper t n → ⊥
  pub throw_loop : (block n loop_at test fallthrough again : ℕ) → terminal_at t block ≡ maybe_throw n → loop_of (terminal_at t loop_at) ≡ some (new_loop test n fallthrough again) → ⊥
  pub throw_again : (block n loop_at test body fallthrough : ℕ) → terminal_at t block ≡ maybe_throw n → loop_of (terminal_at t loop_at) ≡ some (new_loop test body fallthrough n) → ⊥
