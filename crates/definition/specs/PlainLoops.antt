-- Beyond the papers: plain tables with DoWhile and For, with Switch as a compiler makes it, and with ends that are not reached. The run law holds of them
-- (specs/LoopLaw; proofs/Law, `loops_law` and `loops_and_switches_law`). Paper 01's plain tables and M-113's (specs/Plain) are among them (proofs/PlainEnough).
-- A loop is a While, a DoWhile or a For. Each field of `PlainLoops` stands below the sentence that it states; the sentences in quotes are ours, in paper 01's style.
use Rattle.std.specs.Prelude.{◌≡◌, ℕ, List, [], ◌∷◌, Bool, true, false, cond, eqb}
use Rattle.std.proofs.Math.Option.{Option, none, some}
use Rattle.table.specs.Table.{Table, Case, Terminal, absent, unreachable, throw, return, goto, if, branch, switch, do_while, while, for, for_of, for_in}
use Rattle.table.specs.Table.{logical, ternary, optional, label, sequence, maybe_throw, try, scope, Variant, Try, code_of, is_unreachable, terminal_at, instruction_at}
use Rattle.table.specs.Table.{instruction_rows_at}
use Rattle.definition.specs.Completion.{contains}
use Rattle.definition.specs.Statement.{continue_block_of, cases_last_first}
use Rattle.definition.specs.Value.{stored_to_named, same_identifier, loaded_by}
use Rattle.definition.specs.Plain.{Width, paper_01, with_switch, paper_codes, blocks_of, fallthrough_of, other_names, NotBranch, All}

-- no block ends in Switch; the other width is `with_switch`
abbrev pub without_switch : Width
without_switch = paper_01

-- paper 01's terminals with DoWhile, For and Unreachable, and with Switch
abbrev pub loop_codes : Width → List ℕ
loop_codes paper_01 = 8 ∷ 10 ∷ 1 ∷ paper_codes
loop_codes with_switch = 7 ∷ 8 ∷ 10 ∷ 1 ∷ paper_codes

-- ---- loops: While, DoWhile and For

-- a loop's test, loop block and fallthrough, and the block that continues it
pub record Loop : Type 0 where
  pub test : ℕ
  pub body : ℕ
  pub fallthrough : ℕ
  pub again : ℕ

abbrev pub new_loop : (test body fallthrough again : ℕ) → Loop
new_loop test body fallthrough again = record { test = test; body = body; fallthrough = fallthrough; again = again }

abbrev pub loop_of : Terminal → Option Loop
loop_of absent = none
loop_of unreachable = none
loop_of (throw value) = none
loop_of (return value) = none
loop_of (goto block variant) = none
loop_of (if test consequent alternate fallthrough) = none
loop_of (branch test consequent alternate) = none
loop_of (switch test first number fallthrough) = none
loop_of (do_while loop test fallthrough) = some (new_loop test loop fallthrough test)
loop_of (while test loop fallthrough) = some (new_loop test loop fallthrough test)
loop_of (for init test update loop fallthrough) = some (new_loop test loop fallthrough (continue_block_of update test))
loop_of (for_of init test loop fallthrough) = none
loop_of (for_in init loop fallthrough) = none
loop_of (logical operator test fallthrough) = none
loop_of (ternary test fallthrough) = none
loop_of (optional flag test fallthrough) = none
loop_of (label block fallthrough) = none
loop_of (sequence block fallthrough) = none
loop_of (maybe_throw continuation) = none
loop_of (try block handler fallthrough binding) = none
loop_of (scope pruned block fallthrough number) = none

-- whether the last of some instruction rows stores to an unnamed identifier, and whether it loads its own lvalue's identifier
abbrev pub ends_in_unnamed : Table → List ℕ → Bool
ends_in_unnamed t [] = false
ends_in_unnamed t (row ∷ []) = eqb (stored_to_named t (instruction_at t row).operation) 0
ends_in_unnamed t (row ∷ next ∷ rows) = ends_in_unnamed t (next ∷ rows)

abbrev pub ends_in_own_load : Table → List ℕ → Bool
ends_in_own_load t [] = false
ends_in_own_load t (row ∷ []) = same_identifier t (instruction_at t row).lvalue (loaded_by (instruction_at t row).operation)
ends_in_own_load t (row ∷ next ∷ rows) = ends_in_own_load t (next ∷ rows)

-- ---- cases

-- a Switch's cases, the last first, without those at the end that are its own fallthrough
abbrev pub drop_own : (fallthrough : ℕ) → List Case → List Case
drop_own f [] = []
drop_own f (k ∷ ks) = cond (eqb k.block f) (drop_own f ks) (k ∷ ks)

abbrev pub proper_blocks_of : Table → Terminal → List ℕ
proper_blocks_of t absent = []
proper_blocks_of t unreachable = []
proper_blocks_of t (throw value) = []
proper_blocks_of t (return value) = []
proper_blocks_of t (goto block variant) = []
proper_blocks_of t (if test consequent alternate fallthrough) = []
proper_blocks_of t (branch test consequent alternate) = []
proper_blocks_of t (switch test first number fallthrough) = blocks_of (drop_own fallthrough (cases_last_first t first number))
proper_blocks_of t (do_while loop test fallthrough) = []
proper_blocks_of t (while test loop fallthrough) = []
proper_blocks_of t (for init test update loop fallthrough) = []
proper_blocks_of t (for_of init test loop fallthrough) = []
proper_blocks_of t (for_in init loop fallthrough) = []
proper_blocks_of t (logical operator test fallthrough) = []
proper_blocks_of t (ternary test fallthrough) = []
proper_blocks_of t (optional flag test fallthrough) = []
proper_blocks_of t (label block fallthrough) = []
proper_blocks_of t (sequence block fallthrough) = []
proper_blocks_of t (maybe_throw continuation) = []
proper_blocks_of t (try block handler fallthrough binding) = []
proper_blocks_of t (scope pruned block fallthrough number) = []

pub record IsProper (t : Table) (block : ℕ) : Type 0 where
  pub of : ℕ
  pub among : contains (proper_blocks_of t (terminal_at t of)) block ≡ true

-- ---- ends that are not reached

abbrev pub Reached : Table → ℕ → Type 0
Reached t block = is_unreachable (terminal_at t block) ≡ false

-- the blocks that a terminal enters otherwise than as a fallthrough, a case, a loop's test, or a For's init or update, which are a Branch and Gotos
abbrev pub entered_by : Terminal → List ℕ
entered_by absent = []
entered_by unreachable = []
entered_by (throw value) = []
entered_by (return value) = []
entered_by (goto block variant) = block ∷ []
entered_by (if test consequent alternate fallthrough) = consequent ∷ alternate ∷ []
entered_by (branch test consequent alternate) = consequent ∷ alternate ∷ []
entered_by (switch test first number fallthrough) = []
entered_by (do_while loop test fallthrough) = loop ∷ []
entered_by (while test loop fallthrough) = loop ∷ []
entered_by (for init test update loop fallthrough) = loop ∷ []
entered_by (for_of init test loop fallthrough) = []
entered_by (for_in init loop fallthrough) = []
entered_by (logical operator test fallthrough) = []
entered_by (ternary test fallthrough) = []
entered_by (optional flag test fallthrough) = []
entered_by (label block fallthrough) = block ∷ []
entered_by (sequence block fallthrough) = []
entered_by (maybe_throw continuation) = []
entered_by (try block handler fallthrough binding) = []
entered_by (scope pruned block fallthrough number) = block ∷ []

-- an If, a Switch, a Label or a scope
abbrev pub may_be_open : Terminal → Bool
may_be_open absent = false
may_be_open unreachable = false
may_be_open (throw value) = false
may_be_open (return value) = false
may_be_open (goto block variant) = false
may_be_open (if test consequent alternate fallthrough) = true
may_be_open (branch test consequent alternate) = false
may_be_open (switch test first number fallthrough) = true
may_be_open (do_while loop test fallthrough) = false
may_be_open (while test loop fallthrough) = false
may_be_open (for init test update loop fallthrough) = false
may_be_open (for_of init test loop fallthrough) = false
may_be_open (for_in init loop fallthrough) = false
may_be_open (logical operator test fallthrough) = false
may_be_open (ternary test fallthrough) = false
may_be_open (optional flag test fallthrough) = false
may_be_open (label block fallthrough) = true
may_be_open (sequence block fallthrough) = false
may_be_open (maybe_throw continuation) = false
may_be_open (try block handler fallthrough binding) = false
may_be_open (scope pruned block fallthrough number) = true

pub record PlainLoops (width : Width) (t : Table) : Type 0 where
  -- "Every present block ends in If, While, DoWhile, For, Label, Scope, PrunedScope, Goto Break or Continue, Return, Throw, Branch or Unreachable (with switches: or
  -- Switch)."
  pub ends : (block : ℕ) → contains (loop_codes width) (code_of (terminal_at t block)) ≡ true
  pub no_goto_try : (block target : ℕ) → terminal_at t block ≡ goto target Try → ⊥
  -- "Each loop's test is a Branch block; its consequent is that loop's loop block, its alternate that loop's ft."
  pub tests : (block test body fallthrough again : ℕ) → loop_of (terminal_at t block) ≡ some (new_loop test body fallthrough again)
      → (place : ℕ) × (terminal_at t test ≡ branch place body fallthrough)
  -- "A For's init ends in a Goto to its test,"
  pub inits : (block init test : ℕ) (update : Option ℕ) (loop fallthrough : ℕ) → terminal_at t block ≡ for init test update loop fallthrough
      → (variant : Variant) × (terminal_at t init ≡ goto test variant)
  -- "and so does its update, if any."
  pub updates : (block init test update loop fallthrough : ℕ) → terminal_at t block ≡ for init test (some update) loop fallthrough
      → (variant : Variant) × (terminal_at t update ≡ goto test variant)
  -- "A Branch block is not the entry"
  pub entry : NotBranch t t.entry
  -- "and is named only by loops as their test, and by Gotos": no other name of a terminal (a DoWhile's and a For's stand in `bodies`, a For's init and update end in
  -- a Goto), no loop block and no loop's ft, and no case block is one
  pub names : (block : ℕ) → All (NotBranch t) (other_names (terminal_at t block))
  pub bodies : (block test body fallthrough again : ℕ) → loop_of (terminal_at t block) ≡ some (new_loop test body fallthrough again) → NotBranch t body × NotBranch t fallthrough
  pub case_not_branch : (case : ℕ) → IsProper t case → NotBranch t case
  -- "The last instruction of a Branch block"
  pub test_store : (block place consequent alternate : ℕ) → terminal_at t block ≡ branch place consequent alternate
      → ends_in_unnamed t (instruction_rows_at t block) ≡ false
  -- ", an init"
  pub init_store : (block init test : ℕ) (update : Option ℕ) (loop fallthrough : ℕ) → terminal_at t block ≡ for init test update loop fallthrough
      → ends_in_unnamed t (instruction_rows_at t init) ≡ false
  -- "or an update is no StoreLocal to an unnamed identifier;"
  pub update_store : (block init test update loop fallthrough : ℕ) → terminal_at t block ≡ for init test (some update) loop fallthrough
      → ends_in_unnamed t (instruction_rows_at t update) ≡ false
  -- "that of an init is no LoadLocal of its own lvalue's identifier."
  pub init_load : (block init test : ℕ) (update : Option ℕ) (loop fallthrough : ℕ) → terminal_at t block ≡ for init test update loop fallthrough
      → ends_in_own_load t (instruction_rows_at t init) ≡ false
  -- "No block is the ft of two blocks,"
  pub one_fallthrough : (block block' fallthrough : ℕ) → fallthrough_of (terminal_at t block) ≡ some fallthrough
      → fallthrough_of (terminal_at t block') ≡ some fallthrough → block ≡ block'
  -- "and no ft is a loop block,"
  pub no_loop : (block fallthrough loop_at test body fallthrough' again : ℕ) → fallthrough_of (terminal_at t block) ≡ some fallthrough
      → loop_of (terminal_at t loop_at) ≡ some (new_loop test body fallthrough' again) → fallthrough ≡ body → ⊥
  -- "a test or an update": the block that continues a loop, a For's update, if any, else the test (the test of a For with an update is a Branch, so no ft)
  pub no_again : (block fallthrough loop_at test body fallthrough' again : ℕ) → fallthrough_of (terminal_at t block) ≡ some fallthrough
      → loop_of (terminal_at t loop_at) ≡ some (new_loop test body fallthrough' again) → fallthrough ≡ again → ⊥
  -- "No case block is an ft, except that the last cases of a Switch may be its own."
  pub case_fallthrough : (block case : ℕ) → fallthrough_of (terminal_at t block) ≡ some case → IsProper t case → ⊥
  -- "An Unreachable block is not the entry"
  pub entry_reached : Reached t t.entry
  -- "and is named only as the ft": a terminal enters none otherwise, and no case block is one
  pub entered : (block : ℕ) → All (Reached t) (entered_by (terminal_at t block))
  pub case_reached : (case : ℕ) → IsProper t case → Reached t case
  -- "of an If, a Switch, a Label, a Scope or a PrunedScope,"
  pub open_ends : (block fallthrough : ℕ) → fallthrough_of (terminal_at t block) ≡ some fallthrough → is_unreachable (terminal_at t fallthrough) ≡ true
      → may_be_open (terminal_at t block) ≡ true
  -- "and no case of that Switch is its own ft."
  pub open_cases : (block test first number fallthrough : ℕ) → terminal_at t block ≡ switch test first number fallthrough → is_unreachable (terminal_at t fallthrough) ≡ true
      → drop_own fallthrough (cases_last_first t first number) ≡ cases_last_first t first number
