-- The conditions on values of a wide plain table; those on its statements and loops are in specs/WideLoops. Each field stands below its sentence.
use Rattle.std.specs.Prelude.{◌≡◌, ℕ, zero, suc, List, [], ◌∷◌, Bool, true, false, ◌&&◌, cond, eqb}
use Rattle.std.proofs.Math.Option.{Option, none, some}
use Rattle.table.specs.Table.{Table, Block, Terminal, Variant, absent, unreachable, throw, return, goto, if, branch, switch, do_while, while, for, for_of, for_in}
use Rattle.table.specs.Table.{logical, ternary, optional, label, sequence, maybe_throw, try, scope, block_at, terminal_at, instruction_rows_at}
use Rattle.definition.specs.Completion.{contains}
use Rattle.definition.specs.Value.{most_depth, is_empty_goto}
use Rattle.definition.specs.Plain.{is_branch}
use Rattle.definition.specs.PlainTest.{all_of}
use Rattle.definition.specs.ValueEnds.{ValueEnd, ends_at, end_of, value_fallthrough, store_at_end, store_of, straight_rows}

-- the test of a value terminal that asks
abbrev pub test_of : Terminal → Option ℕ
test_of absent = none
test_of unreachable = none
test_of (throw value) = none
test_of (return value) = none
test_of (goto block variant) = none
test_of (if test consequent alternate fallthrough) = none
test_of (branch test consequent alternate) = none
test_of (switch test first number fallthrough) = none
test_of (do_while loop test fallthrough) = none
test_of (while test loop fallthrough) = none
test_of (for init test update loop fallthrough) = none
test_of (for_of init test loop fallthrough) = none
test_of (for_in init loop fallthrough) = none
test_of (logical operator test fallthrough) = some test
test_of (ternary test fallthrough) = some test
test_of (optional flag test fallthrough) = some test
test_of (label block fallthrough) = none
test_of (sequence block fallthrough) = none
test_of (maybe_throw continuation) = none
test_of (try block handler fallthrough binding) = none
test_of (scope pruned block fallthrough number) = none

abbrev pub is_optional : Terminal → Bool
is_optional absent = false
is_optional unreachable = false
is_optional (throw value) = false
is_optional (return value) = false
is_optional (goto block variant) = false
is_optional (if test consequent alternate fallthrough) = false
is_optional (branch test consequent alternate) = false
is_optional (switch test first number fallthrough) = false
is_optional (do_while loop test fallthrough) = false
is_optional (while test loop fallthrough) = false
is_optional (for init test update loop fallthrough) = false
is_optional (for_of init test loop fallthrough) = false
is_optional (for_in init loop fallthrough) = false
is_optional (logical operator test fallthrough) = false
is_optional (ternary test fallthrough) = false
is_optional (optional flag test fallthrough) = true
is_optional (label block fallthrough) = false
is_optional (sequence block fallthrough) = false
is_optional (maybe_throw continuation) = false
is_optional (try block handler fallthrough binding) = false
is_optional (scope pruned block fallthrough number) = false

-- the value terminal m of the block b, whose test's value is in the block h and ends in the Branch y to c and d
pub record Asks (t : Table) (b : ℕ) (m : Terminal) (h y c d : ℕ) : Type 0 where
  pub test : ℕ
  pub place : ℕ
  pub terminal : terminal_at t b ≡ m
  pub tested : test_of m ≡ some test
  pub ends : end_of t test ≡ some (ends_at h y)
  pub ways : terminal_at t y ≡ branch place c d

abbrev pub GoesTo : Table → (block to : ℕ) → Type 0
GoesTo t block to = (variant : Variant) × (terminal_at t block ≡ goto to variant)

-- the value in the block h is no store to an unnamed identifier
abbrev pub NoStore : Table → ℕ → Type 0
NoStore t h = store_at_end t (instruction_rows_at t h) ≡ []

-- ---- straight ways: MaybeThrows, and a Goto

-- the first block that a test holds of
abbrev pub find_of : List Block → (ℕ → Terminal → Bool) → Option ℕ
find_of [] test = none
find_of (block ∷ blocks) test = cond (test 0 block.terminal) (some 0) (elim (find_of blocks (λ n. test (suc n))) [ none ↦ none | some n ↦ some (suc n) ])

module _ (t : Table) where
  -- the block that the Goto names
  abbrev pub straight_to_at : (next : ℕ → Option ℕ) → Terminal → Option ℕ
  straight_to_at next absent = none
  straight_to_at next unreachable = none
  straight_to_at next (throw value) = none
  straight_to_at next (return value) = none
  straight_to_at next (goto block variant) = some block
  straight_to_at next (if test consequent alternate fallthrough) = none
  straight_to_at next (branch test consequent alternate) = none
  straight_to_at next (switch test first number fallthrough) = none
  straight_to_at next (do_while loop test fallthrough) = none
  straight_to_at next (while test loop fallthrough) = none
  straight_to_at next (for init test update loop fallthrough) = none
  straight_to_at next (for_of init test loop fallthrough) = none
  straight_to_at next (for_in init loop fallthrough) = none
  straight_to_at next (logical operator test fallthrough) = none
  straight_to_at next (ternary test fallthrough) = none
  straight_to_at next (optional flag test fallthrough) = none
  straight_to_at next (label block fallthrough) = none
  straight_to_at next (sequence block fallthrough) = none
  straight_to_at next (maybe_throw continuation) = next continuation
  straight_to_at next (try block handler fallthrough binding) = none
  straight_to_at next (scope pruned block fallthrough number) = none

  abbrev pub straight_to : (steps start : ℕ) → Option ℕ
  straight_to zero start = none
  straight_to (suc steps) start = straight_to_at (λ next. straight_to steps next) (terminal_at t start)

  -- no row on the way but the store at its end
  abbrev pub only_its_store : (start : ℕ) → Bool
  only_its_store start = all_of (straight_rows t most_depth start) (λ row. contains (store_of t start) row)

  -- ---- chains of Optionals

  -- from f over empty MaybeThrows to an empty Branch: `some none` where the way goes elsewhere, `none` where the steps are too few
  abbrev pub bare_at : (next : ℕ → Option (Option ℕ)) → (f : ℕ) → List ℕ → Terminal → Option (Option ℕ)
  bare_at next f (row ∷ rows) m = some none
  bare_at next f [] absent = some none
  bare_at next f [] unreachable = some none
  bare_at next f [] (throw value) = some none
  bare_at next f [] (return value) = some none
  bare_at next f [] (goto block variant) = some none
  bare_at next f [] (if test consequent alternate fallthrough) = some none
  bare_at next f [] (branch test consequent alternate) = some (some f)
  bare_at next f [] (switch test first number fallthrough) = some none
  bare_at next f [] (do_while loop test fallthrough) = some none
  bare_at next f [] (while test loop fallthrough) = some none
  bare_at next f [] (for init test update loop fallthrough) = some none
  bare_at next f [] (for_of init test loop fallthrough) = some none
  bare_at next f [] (for_in init loop fallthrough) = some none
  bare_at next f [] (logical operator test fallthrough) = some none
  bare_at next f [] (ternary test fallthrough) = some none
  bare_at next f [] (optional flag test fallthrough) = some none
  bare_at next f [] (label block fallthrough) = some none
  bare_at next f [] (sequence block fallthrough) = some none
  bare_at next f [] (maybe_throw continuation) = elim (is_empty_goto (block_at t continuation)) [ true ↦ some none | false ↦ next continuation ]
  bare_at next f [] (try block handler fallthrough binding) = some none
  bare_at next f [] (scope pruned block fallthrough number) = some none

  abbrev pub bare : (steps f : ℕ) → Option (Option ℕ)
  bare zero f = none
  bare (suc n) f = bare_at (λ k. bare n k) f (instruction_rows_at t f) (terminal_at t f)

  -- whether a test's value ends in the Branch e
  abbrev pub end_is : Option ValueEnd → ℕ → Bool
  end_is none e = false
  end_is (some at) e = eqb at.end e && is_branch (terminal_at t at.end)

  -- whether the terminal is an Optional whose test ends in the Branch e, and the first block with such a terminal
  abbrev pub owns_test : ℕ → Terminal → Bool
  owns_test e absent = false
  owns_test e unreachable = false
  owns_test e (throw value) = false
  owns_test e (return value) = false
  owns_test e (goto block variant) = false
  owns_test e (if test consequent alternate fallthrough) = false
  owns_test e (branch test consequent alternate) = false
  owns_test e (switch test first number fallthrough) = false
  owns_test e (do_while loop test fallthrough) = false
  owns_test e (while test loop fallthrough) = false
  owns_test e (for init test update loop fallthrough) = false
  owns_test e (for_of init test loop fallthrough) = false
  owns_test e (for_in init loop fallthrough) = false
  owns_test e (logical operator test fallthrough) = false
  owns_test e (ternary test fallthrough) = false
  owns_test e (optional flag test fallthrough) = end_is (end_of t test) e
  owns_test e (label block fallthrough) = false
  owns_test e (sequence block fallthrough) = false
  owns_test e (maybe_throw continuation) = false
  owns_test e (try block handler fallthrough binding) = false
  owns_test e (scope pruned block fallthrough number) = false

  abbrev pub owner : ℕ → Option ℕ
  owner e = find_of t.blocks (λ b m. owns_test e m)

  -- The exit of an Optional's chain: the fallthrough of the outermost Optional. It goes on to an Optional whose test is this one's value: that ends in the empty Branch
  -- to which this one's fallthrough leads
  abbrev pub exit_by : (next : ℕ → Option ℕ) → (f : ℕ) → Option ℕ → Option ℕ
  exit_by next f none = some f
  exit_by next f (some b) = next b

  abbrev pub exit_on : (next : ℕ → Option ℕ) → (f : ℕ) → Option (Option ℕ) → Option ℕ
  exit_on next f none = none
  exit_on next f (some none) = some f
  exit_on next f (some (some e)) = exit_by next f (owner e)

  abbrev pub exit_at : (next : ℕ → Option ℕ) → Terminal → Option ℕ
  exit_at next absent = none
  exit_at next unreachable = none
  exit_at next (throw value) = none
  exit_at next (return value) = none
  exit_at next (goto block variant) = none
  exit_at next (if test consequent alternate fallthrough) = none
  exit_at next (branch test consequent alternate) = none
  exit_at next (switch test first number fallthrough) = none
  exit_at next (do_while loop test fallthrough) = none
  exit_at next (while test loop fallthrough) = none
  exit_at next (for init test update loop fallthrough) = none
  exit_at next (for_of init test loop fallthrough) = none
  exit_at next (for_in init loop fallthrough) = none
  exit_at next (logical operator test fallthrough) = none
  exit_at next (ternary test fallthrough) = none
  exit_at next (optional flag test fallthrough) = exit_on next fallthrough (bare most_depth fallthrough)
  exit_at next (label block fallthrough) = none
  exit_at next (sequence block fallthrough) = none
  exit_at next (maybe_throw continuation) = none
  exit_at next (try block handler fallthrough binding) = none
  exit_at next (scope pruned block fallthrough number) = none

  abbrev pub exit_of : (steps b : ℕ) → Option ℕ
  exit_of zero b = none
  exit_of (suc n) b = exit_at (λ k. exit_of n k) (terminal_at t b)

-- ---- the conditions

pub record PlainValues (t : Table) : Type 0 where
  -- "An arm ends in a Goto to the fallthrough": a consequent,
  pub yes_arm : (b : ℕ) (m : Terminal) (h y c d f holder e : ℕ) → Asks t b m h y c d → value_fallthrough m ≡ some f → end_of t c ≡ some (ends_at holder e)
      → GoesTo t e f
  -- an alternate but an Optional's,
  pub no_arm : (b : ℕ) (m : Terminal) (h y c d f holder e : ℕ) → Asks t b m h y c d → is_optional m ≡ false → value_fallthrough m ≡ some f
      → end_of t d ≡ some (ends_at holder e) → GoesTo t e f
  -- a Sequence's block.
  pub block_arm : (b c f holder e : ℕ) → terminal_at t b ≡ sequence c f → end_of t c ≡ some (ends_at holder e) → GoesTo t e f
  -- "A Logical's consequent is straight, goes to the fallthrough and has no row but its store."
  pub left : (b o x f h y c d : ℕ) → Asks t b (logical o x f) h y c d → (straight_to t most_depth c ≡ some f) × (only_its_store t c ≡ true)
  -- "An Optional's chain has an exit; its alternate is straight and goes there."
  pub exits : (b o x f : ℕ) → terminal_at t b ≡ optional o x f → (exit : ℕ) × (exit_of t most_depth b ≡ some exit)
  pub no_value : (b o x f h y c d exit : ℕ) → Asks t b (optional o x f) h y c d → exit_of t most_depth b ≡ some exit → straight_to t most_depth d ≡ some exit
  -- "The tests of two Optionals do not end in one Branch."
  pub one_owner : (e b b' : ℕ) → owns_test t e (terminal_at t b) ≡ true → owns_test t e (terminal_at t b') ≡ true → b ≡ b'
  -- "No test ends in a store to an unnamed identifier."
  pub tests : (b : ℕ) (m : Terminal) (h y c d : ℕ) → Asks t b m h y c d → NoStore t h
