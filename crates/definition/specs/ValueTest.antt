-- A Boolean test of the conditions of specs/WideLoops and specs/PlainValue: `is_wide`. proofs/ValueTest proves that it holds exactly of the tables with these conditions.
use Rattle.std.specs.Prelude.{ℕ, List, [], ◌∷◌, Bool, true, false, not, ◌&&◌, ◌||◌, eqb}
use Rattle.std.proofs.Math.Option.{Option, none, some}
use Rattle.table.specs.Table.{Table, Terminal, Break, Continue, Try, absent, unreachable, throw, return, goto, if, branch, switch, do_while, while, for, for_of, for_in}
use Rattle.table.specs.Table.{logical, ternary, optional, label, sequence, maybe_throw, try, scope, code_of, is_unreachable, terminal_at, instruction_rows_at}
use Rattle.definition.specs.Completion.{contains}
use Rattle.definition.specs.Statement.{cases_last_first}
use Rattle.definition.specs.Value.{most_depth, is_fallthrough, is_empty, Ways, branch_ways}
use Rattle.definition.specs.Plain.{Width, fallthrough_of}
use Rattle.definition.specs.PlainLoops.{Loop, loop_of, ends_in_own_load, proper_blocks_of, may_be_open}
use Rattle.definition.specs.PlainTest.{every_of, all_of, goto_block, shape_of, is_branch_to, not_in_loop, last_is_own, all_reached, only_of}
use Rattle.definition.specs.ValueEnds.{ValueEnd, end_of, store_at_end}
use Rattle.definition.specs.PlainValue.{straight_to, only_its_store, owns_test, exit_of}
use Rattle.definition.specs.WideLoops.{wide_codes, wide_entered_by}

module _ (t : Table) where
  abbrev pub goes_test : (block to : ℕ) → Bool
  goes_test b f = is_fallthrough (goto_block (terminal_at t b)) f

  abbrev pub no_store_test : ℕ → Bool
  no_store_test h = is_empty (store_at_end t (instruction_rows_at t h))

  abbrev pub end_passes : Option ValueEnd → (ℕ → ℕ → Bool) → Bool
  end_passes none test = true
  end_passes (some at) test = test at.holder at.end

  abbrev pub arm_test : (start f : ℕ) → Bool
  arm_test c f = end_passes (end_of t c) (λ h e. goes_test e f)

  abbrev pub ways_pass : Option Ways → (ℕ → ℕ → Bool) → Bool
  ways_pass none test = true
  ways_pass (some ways) test = test ways.consequent ways.alternate

  abbrev pub asks_test : (test : ℕ) → (ℕ → ℕ → ℕ → ℕ → Bool) → Bool
  asks_test x test = end_passes (end_of t x) (λ h y. ways_pass (branch_ways (terminal_at t y)) (λ c d. test h y c d))

  abbrev pub exit_passes : Option ℕ → (ℕ → Bool) → Bool
  exit_passes none test = false
  exit_passes (some exit) test = test exit

  -- no other Optional's test ends in this Branch
  abbrev pub one_owner : (b y : ℕ) → Bool
  one_owner b y = every_of t.blocks (λ c m. eqb b c || not (owns_test t y m))

  abbrev pub value_test : ℕ → Terminal → Bool
  value_test b absent = true
  value_test b unreachable = true
  value_test b (throw value) = true
  value_test b (return value) = true
  value_test b (goto block variant) = true
  value_test b (if test consequent alternate fallthrough) = true
  value_test b (branch test consequent alternate) = true
  value_test b (switch test first number fallthrough) = true
  value_test b (do_while loop test fallthrough) = true
  value_test b (while test loop fallthrough) = true
  value_test b (for init test update loop fallthrough) = true
  value_test b (for_of init test loop fallthrough) = true
  value_test b (for_in init loop fallthrough) = true
  value_test b (logical operator test fallthrough) = asks_test test (λ h y c d. no_store_test h && (arm_test c fallthrough && (arm_test d fallthrough && (is_fallthrough (straight_to t most_depth c) fallthrough && only_its_store t c))))
  value_test b (ternary test fallthrough) = asks_test test (λ h y c d. no_store_test h && (arm_test c fallthrough && arm_test d fallthrough))
  value_test b (optional flag test fallthrough) = exit_passes (exit_of t most_depth b) (λ exit. asks_test test (λ h y c d. no_store_test h && (arm_test c fallthrough && (is_fallthrough (straight_to t most_depth d) exit && one_owner b y))))
  value_test b (label block fallthrough) = true
  value_test b (sequence block fallthrough) = arm_test block fallthrough
  value_test b (maybe_throw continuation) = true
  value_test b (try block handler fallthrough binding) = true
  value_test b (scope pruned block fallthrough number) = true

  -- ---- statements and loops

  abbrev pub wide_update_test : (test : ℕ) → Option ℕ → Bool
  wide_update_test x none = true
  wide_update_test x (some u) = end_passes (end_of t u) (λ h e. goes_test e x && no_store_test h)

  abbrev pub wide_part_test : ℕ → Terminal → Bool
  wide_part_test b absent = true
  wide_part_test b unreachable = true
  wide_part_test b (throw value) = true
  wide_part_test b (return value) = true
  wide_part_test b (if test consequent alternate fallthrough) = true
  wide_part_test b (branch test consequent alternate) = true
  wide_part_test b (switch test first number fallthrough) = not (is_unreachable (terminal_at t fallthrough)) || not (last_is_own fallthrough (cases_last_first t first number))
  wide_part_test b (do_while loop test fallthrough) = true
  wide_part_test b (while test loop fallthrough) = true
  wide_part_test b (for init test update loop fallthrough) = end_passes (end_of t init) (λ h e. goes_test e test && not (ends_in_own_load t (instruction_rows_at t h))) && wide_update_test test update
  wide_part_test b (for_of init test loop fallthrough) = true
  wide_part_test b (for_in init loop fallthrough) = true
  wide_part_test b (logical operator test fallthrough) = true
  wide_part_test b (ternary test fallthrough) = true
  wide_part_test b (optional flag test fallthrough) = true
  wide_part_test b (label block fallthrough) = true
  wide_part_test b (sequence block fallthrough) = true
  wide_part_test b (maybe_throw continuation) = every_of t.blocks (λ w m. not (is_fallthrough (fallthrough_of m) continuation) && (not_in_loop continuation (loop_of m) && not (contains (proper_blocks_of t m) continuation)))
  wide_part_test b (try block handler fallthrough binding) = true
  wide_part_test b (scope pruned block fallthrough number) = true
  wide_part_test b (goto g Break) = true
  wide_part_test b (goto g Continue) = true
  wide_part_test b (goto g Try) = false

  abbrev pub wide_loop_test : Option Loop → Bool
  wide_loop_test none = true
  wide_loop_test (some loop) = end_passes (end_of t loop.test) (λ h y. is_branch_to loop.body loop.fallthrough (shape_of (terminal_at t y)) && no_store_test h)

  abbrev pub wide_end_test : ℕ → Terminal → Option ℕ → Bool
  wide_end_test b m none = true
  wide_end_test b m (some f) = only_of t b f && (every_of t.blocks (λ w n. not_in_loop f (loop_of n)) && (not (is_unreachable (terminal_at t f)) || may_be_open m))

  abbrev pub wide_proper_test : ℕ → Bool
  wide_proper_test k = not (is_unreachable (terminal_at t k)) && every_of t.blocks (λ w m. not (is_fallthrough (fallthrough_of m) k))

  abbrev pub wide_block_test : Width → ℕ → Terminal → Bool
  wide_block_test width b m =
      contains (wide_codes width) (code_of m) && (all_reached t (wide_entered_by m) && (wide_part_test b m && (wide_loop_test (loop_of m)
      && (wide_end_test b m (fallthrough_of m) && (all_of (proper_blocks_of t m) wide_proper_test && value_test b m)))))

  abbrev pub is_wide : Width → Bool
  is_wide width = not (is_unreachable (terminal_at t t.entry)) && every_of t.blocks (λ b m. wide_block_test width b m)
