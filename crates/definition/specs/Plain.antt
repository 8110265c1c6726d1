-- Paper 01, "Plain tables": the tables that the run law speaks of; and M-113, the wider ones, with Switch, that it speaks of in the language entry.
-- Each field of `Plain` stands below the sentence that it states.
-- A block beyond the table is absent, so that "every block" needs no bound here.
use Rattle.std.specs.Prelude.{◌≡◌, ℕ, List, [], ◌∷◌, Bool, true, false, not, ◌&&◌, eqb}
use Rattle.std.proofs.Math.Option.{Option, none, some}
use Rattle.table.specs.Table.{Table, Case, Operation, other, load_local, store_local, Terminal, absent, unreachable, throw, return, goto, if, branch, switch, do_while}
use Rattle.table.specs.Table.{while, for, for_of, for_in, logical, ternary, optional, label, sequence, maybe_throw, try, scope, Variant, Try, code_of, terminal_at}
use Rattle.table.specs.Table.{instruction_at, instruction_rows_at}
use Rattle.definition.specs.Completion.{contains}
use Rattle.definition.specs.BlockRun.{case_list}

-- as paper 01 has them, or widened by M-113
pub data Width : Type 0 where
  paper_01 with_switch : Width

-- "If, While, Label, Scope, PrunedScope, Goto .., Return, Throw or Branch"; 0 is no block. M-113: "Widen plain tables .. by Switch"
abbrev pub paper_codes : List ℕ
paper_codes = 5 ∷ 9 ∷ 16 ∷ 20 ∷ 21 ∷ 4 ∷ 3 ∷ 2 ∷ 6 ∷ 0 ∷ []

abbrev pub plain_codes : Width → List ℕ
plain_codes paper_01 = paper_codes
plain_codes with_switch = 7 ∷ paper_codes

abbrev pub is_branch : Terminal → Bool
is_branch terminal = eqb (code_of terminal) 6

-- the fallthrough that a terminal names
abbrev pub fallthrough_of : Terminal → Option ℕ
fallthrough_of absent = none
fallthrough_of unreachable = none
fallthrough_of (throw value) = none
fallthrough_of (return value) = none
fallthrough_of (goto block variant) = none
fallthrough_of (if test consequent alternate fallthrough) = some fallthrough
fallthrough_of (branch test consequent alternate) = none
fallthrough_of (switch test first number fallthrough) = some fallthrough
fallthrough_of (do_while loop test fallthrough) = some fallthrough
fallthrough_of (while test loop fallthrough) = some fallthrough
fallthrough_of (for init test update loop fallthrough) = some fallthrough
fallthrough_of (for_of init test loop fallthrough) = some fallthrough
fallthrough_of (for_in init loop fallthrough) = some fallthrough
fallthrough_of (logical operator test fallthrough) = some fallthrough
fallthrough_of (ternary test fallthrough) = some fallthrough
fallthrough_of (optional flag test fallthrough) = some fallthrough
fallthrough_of (label block fallthrough) = some fallthrough
fallthrough_of (sequence block fallthrough) = some fallthrough
fallthrough_of (maybe_throw continuation) = none
fallthrough_of (try block handler fallthrough binding) = some fallthrough
fallthrough_of (scope pruned block fallthrough number) = some fallthrough

-- the blocks of some cases
abbrev pub blocks_of : List Case → List ℕ
blocks_of [] = []
blocks_of (case ∷ cases) = case.block ∷ blocks_of cases

-- the case blocks of a Switch
abbrev pub case_blocks_of : Table → Terminal → List ℕ
case_blocks_of t absent = []
case_blocks_of t unreachable = []
case_blocks_of t (throw value) = []
case_blocks_of t (return value) = []
case_blocks_of t (goto block variant) = []
case_blocks_of t (if test consequent alternate fallthrough) = []
case_blocks_of t (branch test consequent alternate) = []
case_blocks_of t (switch test first number fallthrough) = blocks_of (case_list t first number)
case_blocks_of t (do_while loop test fallthrough) = []
case_blocks_of t (while test loop fallthrough) = []
case_blocks_of t (for init test update loop fallthrough) = []
case_blocks_of t (for_of init test loop fallthrough) = []
case_blocks_of t (for_in init loop fallthrough) = []
case_blocks_of t (logical operator test fallthrough) = []
case_blocks_of t (ternary test fallthrough) = []
case_blocks_of t (optional flag test fallthrough) = []
case_blocks_of t (label block fallthrough) = []
case_blocks_of t (sequence block fallthrough) = []
case_blocks_of t (maybe_throw continuation) = []
case_blocks_of t (try block handler fallthrough binding) = []
case_blocks_of t (scope pruned block fallthrough number) = []

-- a case block of some Switch
pub record IsCase (t : Table) (block : ℕ) : Type 0 where
  pub of : ℕ
  pub among : contains (case_blocks_of t (terminal_at t of)) block ≡ true

abbrev pub different : List ℕ → Bool
different [] = true
different (n ∷ ns) = not (contains ns n) && different ns

-- the blocks that a terminal names otherwise than as a Goto's block, a While's test or a Switch's case: a case block is no test, so no Branch.
-- (Those of a terminal that no plain table has are left out.)
abbrev pub other_names : Terminal → List ℕ
other_names absent = []
other_names unreachable = []
other_names (throw value) = []
other_names (return value) = []
other_names (goto block variant) = []
other_names (if test consequent alternate fallthrough) = consequent ∷ alternate ∷ fallthrough ∷ []
other_names (branch test consequent alternate) = consequent ∷ alternate ∷ []
other_names (switch test first number fallthrough) = fallthrough ∷ []
other_names (do_while loop test fallthrough) = []
other_names (while test loop fallthrough) = loop ∷ fallthrough ∷ []
other_names (for init test update loop fallthrough) = []
other_names (for_of init test loop fallthrough) = []
other_names (for_in init loop fallthrough) = []
other_names (logical operator test fallthrough) = []
other_names (ternary test fallthrough) = []
other_names (optional flag test fallthrough) = []
other_names (label block fallthrough) = block ∷ fallthrough ∷ []
other_names (sequence block fallthrough) = []
other_names (maybe_throw continuation) = []
other_names (try block handler fallthrough binding) = []
other_names (scope pruned block fallthrough number) = block ∷ fallthrough ∷ []

abbrev pub is_store : Operation → Bool
is_store other = false
is_store (load_local place) = false
is_store (store_local stored_to stored_value) = true

-- whether the last of some instruction rows is a StoreLocal
abbrev pub ends_in_store : Table → List ℕ → Bool
ends_in_store t [] = false
ends_in_store t (row ∷ []) = is_store (instruction_at t row).operation
ends_in_store t (row ∷ next ∷ rows) = ends_in_store t (next ∷ rows)

abbrev pub NotBranch : Table → ℕ → Type 0
NotBranch t block = is_branch (terminal_at t block) ≡ false

abbrev pub All : (ℕ → Type 0) → List ℕ → Type 0
All P [] = Unit {0}
All P (n ∷ ns) = P n × All P ns

pub record Plain (width : Width) (t : Table) : Type 0 where
  -- "Every present block ends in If, While, Label, Scope, PrunedScope, Goto Break or Continue, Return, Throw or Branch."
  pub ends : (block : ℕ) → contains (plain_codes width) (code_of (terminal_at t block)) ≡ true
  pub no_goto_try : (block target : ℕ) → terminal_at t block ≡ goto target Try → ⊥
  -- "Each While's test is a Branch block.", and by the next sentence its consequent is this While's loop, its alternate this While's ft
  pub tests : (block test loop fallthrough : ℕ) → terminal_at t block ≡ while test loop fallthrough → (place : ℕ) × (terminal_at t test ≡ branch place loop fallthrough)
  -- "A Branch block is not the entry"
  pub entry : NotBranch t t.entry
  -- "and is named only by one While as its test, and by Gotos; its consequent is that While's loop, its alternate that While's ft;":
  -- there is that While; there is one; and nothing else names a Branch block
  pub branches : (block place consequent alternate : ℕ) → terminal_at t block ≡ branch place consequent alternate → (named_by : ℕ) × (terminal_at t named_by ≡ while block consequent alternate)
  pub one_while : (block block' test loop loop' fallthrough fallthrough' : ℕ)
      → terminal_at t block ≡ while test loop fallthrough → terminal_at t block' ≡ while test loop' fallthrough' → block ≡ block'
  pub names : (block : ℕ) → All (NotBranch t) (other_names (terminal_at t block))
  -- "its last instruction is no StoreLocal."
  pub no_store : (block place consequent alternate : ℕ) → terminal_at t block ≡ branch place consequent alternate → ends_in_store t (instruction_rows_at t block) ≡ false
  -- "No block is the ft of two blocks,"
  pub one_fallthrough : (block block' fallthrough : ℕ) → fallthrough_of (terminal_at t block) ≡ some fallthrough → fallthrough_of (terminal_at t block') ≡ some fallthrough → block ≡ block'
  -- "and no ft is a loop block or test."
  pub no_loop : (block fallthrough loop_at test loop fallthrough' : ℕ) → fallthrough_of (terminal_at t block) ≡ some fallthrough
      → terminal_at t loop_at ≡ while test loop fallthrough' → fallthrough ≡ loop → ⊥
  pub no_test : (block fallthrough loop_at test loop fallthrough' : ℕ) → fallthrough_of (terminal_at t block) ≡ some fallthrough
      → terminal_at t loop_at ≡ while test loop fallthrough' → fallthrough ≡ test → ⊥
  -- M-113: "its case blocks differ from each other"
  pub cases_differ : (block : ℕ) → different (case_blocks_of t (terminal_at t block)) ≡ true
  -- "and from every fallthrough, loop block and test" ("the rule about fallthroughs includes the switch's": `fallthrough_of`)
  pub case_fallthrough : (block case : ℕ) → fallthrough_of (terminal_at t block) ≡ some case → IsCase t case → ⊥
  pub case_loop : (loop_at test case fallthrough : ℕ) → terminal_at t loop_at ≡ while test case fallthrough → IsCase t case → ⊥
  pub case_test : (loop_at case loop fallthrough : ℕ) → terminal_at t loop_at ≡ while case loop fallthrough → IsCase t case → ⊥
  -- "no Goto names a case block"
  pub case_goto : (block case : ℕ) (variant : Variant) → terminal_at t block ≡ goto case variant → IsCase t case → ⊥
