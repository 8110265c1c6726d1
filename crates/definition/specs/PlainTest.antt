-- Boolean tests of the conditions of specs/Plain and specs/PlainLoops: `is_plain`, paper 01's and M-113's, and `is_plain_loops`, beyond the papers.
-- proofs/PlainTest and proofs/LoopTest prove that they hold exactly of the tables with these conditions, which are the statement; `plainness` tells which hold.
use Rattle.std.specs.Prelude.{ℕ, suc, List, [], ◌∷◌, Bool, true, false, not, ◌&&◌, ◌||◌, cond, eqb}
use Rattle.std.proofs.Math.Option.{Option, none, some}
use Rattle.table.specs.Table.{Table, Block, Case, Terminal, absent, unreachable, throw, return, goto, if, branch, switch, do_while, while, for, for_of}
use Rattle.table.specs.Table.{for_in, logical, ternary, optional, label, sequence, maybe_throw, try, scope, Break, Continue, Try, code_of, is_unreachable, terminal_at}
use Rattle.table.specs.Table.{instruction_rows_at}
use Rattle.definition.specs.Completion.{contains}
use Rattle.definition.specs.Statement.{cases_last_first}
use Rattle.definition.specs.Value.{is_fallthrough}
use Rattle.definition.specs.Plain.{Width, paper_01, with_switch, plain_codes, case_blocks_of, different, is_branch, fallthrough_of, other_names, ends_in_store}
use Rattle.definition.specs.PlainLoops.{Loop, loop_of, loop_codes, ends_in_unnamed, ends_in_own_load, proper_blocks_of, entered_by, may_be_open}

-- ---- paper 01 and M-113

-- of every block, and of some block: its number and its terminal
abbrev pub every_of : List Block → (ℕ → Terminal → Bool) → Bool
every_of [] test = true
every_of (block ∷ blocks) test = test 0 block.terminal && every_of blocks (λ n. test (suc n))

abbrev pub some_of : List Block → (ℕ → Terminal → Bool) → Bool
some_of [] test = false
some_of (block ∷ blocks) test = test 0 block.terminal || some_of blocks (λ n. test (suc n))

-- the terminals that the conditions speak of
pub data Shape : Type 0 where
  a_while : (test loop fallthrough : ℕ) → Shape
  a_branch : (place consequent alternate : ℕ) → Shape
  a_goto_try : Shape
  another : Shape

abbrev pub shape_of : Terminal → Shape
shape_of absent = another
shape_of unreachable = another
shape_of (throw v) = another
shape_of (return v) = another
shape_of (goto g Break) = another
shape_of (goto g Continue) = another
shape_of (goto g Try) = a_goto_try
shape_of (if x y z f) = another
shape_of (branch x y z) = a_branch x y z
shape_of (switch x i n f) = another
shape_of (do_while l x f) = another
shape_of (while x l f) = a_while x l f
shape_of (for i x u l f) = another
shape_of (for_of i x l f) = another
shape_of (for_in i l f) = another
shape_of (logical o x f) = another
shape_of (ternary x f) = another
shape_of (optional o x f) = another
shape_of (label x f) = another
shape_of (sequence x f) = another
shape_of (maybe_throw n) = another
shape_of (try x k f n) = another
shape_of (scope p x f n) = another

abbrev pub is_while : (test loop fallthrough : ℕ) → Shape → Bool
is_while x l f (a_while x' l' f') = eqb x' x && eqb l' l && eqb f' f
is_while x l f (a_branch p c a) = false
is_while x l f a_goto_try = false
is_while x l f another = false

abbrev pub is_branch_to : (consequent alternate : ℕ) → Shape → Bool
is_branch_to c a (a_while x l f) = false
is_branch_to c a (a_branch p c' a') = eqb c' c && eqb a' a
is_branch_to c a a_goto_try = false
is_branch_to c a another = false

abbrev pub not_of_loop : ℕ → Shape → Bool
not_of_loop f (a_while x l g) = not (eqb f l) && not (eqb f x)
not_of_loop f (a_branch p c a) = true
not_of_loop f a_goto_try = true
not_of_loop f another = true

-- the block that a Goto names
abbrev pub goto_block : Terminal → Option ℕ
goto_block absent = none
goto_block unreachable = none
goto_block (throw v) = none
goto_block (return v) = none
goto_block (goto g v) = some g
goto_block (if x y z f) = none
goto_block (branch x y z) = none
goto_block (switch x i n f) = none
goto_block (do_while l x f) = none
goto_block (while x l f) = none
goto_block (for i x u l f) = none
goto_block (for_of i x l f) = none
goto_block (for_in i l f) = none
goto_block (logical o x f) = none
goto_block (ternary x f) = none
goto_block (optional o x f) = none
goto_block (label x f) = none
goto_block (sequence x f) = none
goto_block (maybe_throw n) = none
goto_block (try x k f n) = none
goto_block (scope p x f n) = none

-- of each of some numbers
abbrev pub all_of : List ℕ → (ℕ → Bool) → Bool
all_of [] test = true
all_of (n ∷ ns) test = test n && all_of ns test

-- a terminal whose fallthrough, loop block and test, or Goto's block a case block is not
abbrev pub not_named : ℕ → Terminal → Bool
not_named k m = not (is_fallthrough (fallthrough_of m) k) && (not_of_loop k (shape_of m) && not (is_fallthrough (goto_block m) k))

module _ (t : Table) where
  abbrev pub no_branches : List ℕ → Bool
  no_branches [] = true
  no_branches (n ∷ ns) = not (is_branch (terminal_at t n)) && no_branches ns

  -- a While's test goes to its loop and its fallthrough; a Branch is some While's test, and does not end in a store
  abbrev pub shape_test : ℕ → Shape → Bool
  shape_test b (a_while x l f) = is_branch_to l f (shape_of (terminal_at t x))
  shape_test b (a_branch p c a) = some_of t.blocks (λ w m. is_while b c a (shape_of m)) && not (ends_in_store t (instruction_rows_at t b))
  shape_test b a_goto_try = false
  shape_test b another = true

  -- a block's fallthrough is no other block's
  abbrev pub only_of : (block fallthrough : ℕ) → Bool
  only_of b f = every_of t.blocks (λ c m. eqb b c || not (is_fallthrough (fallthrough_of m) f))

  -- a fallthrough is no other block's, and no loop's
  abbrev pub fallthrough_test : ℕ → Option ℕ → Bool
  fallthrough_test b none = true
  fallthrough_test b (some f) = only_of b f && every_of t.blocks (λ w m. not_of_loop f (shape_of m))

  -- a Switch's case blocks differ, and nothing else names them
  abbrev pub cases_test : List ℕ → Bool
  cases_test ks = different ks && all_of ks (λ k. every_of t.blocks (λ w m. not_named k m))

  abbrev pub block_test : Width → ℕ → Terminal → Bool
  block_test width b m =
      contains (plain_codes width) (code_of m) && (no_branches (other_names m) && (shape_test b (shape_of m) && (fallthrough_test b (fallthrough_of m) && cases_test (case_blocks_of t m))))

  abbrev pub is_plain : Width → Bool
  is_plain width = not (is_branch (terminal_at t t.entry)) && every_of t.blocks (λ b m. block_test width b m)

-- ---- beyond the papers: with loops, and with Switch as a compiler makes it

-- what the conditions say of a terminal by itself
pub data Part : Type 0 where
  part_for : (init test : ℕ) → (update : Option ℕ) → Part
  part_switch : (first number fallthrough : ℕ) → Part
  part_branch part_goto_try no_part : Part

abbrev pub part_of : Terminal → Part
part_of absent = no_part
part_of unreachable = no_part
part_of (throw v) = no_part
part_of (return v) = no_part
part_of (goto g Break) = no_part
part_of (goto g Continue) = no_part
part_of (goto g Try) = part_goto_try
part_of (if x y z f) = no_part
part_of (branch x y z) = part_branch
part_of (switch x i n f) = part_switch i n f
part_of (do_while l x f) = no_part
part_of (while x l f) = no_part
part_of (for i x u l f) = part_for i x u
part_of (for_of i x l f) = no_part
part_of (for_in i l f) = no_part
part_of (logical o x f) = no_part
part_of (ternary x f) = no_part
part_of (optional o x f) = no_part
part_of (label x f) = no_part
part_of (sequence x f) = no_part
part_of (maybe_throw n) = no_part
part_of (try x k f n) = no_part
part_of (scope p x f n) = no_part

-- no loop's loop block, and no block that continues one
abbrev pub not_in_loop : ℕ → Option Loop → Bool
not_in_loop f none = true
not_in_loop f (some loop) = not (eqb f loop.body) && not (eqb f loop.again)

-- the last case, the first of these, is the fallthrough
abbrev pub last_is_own : (fallthrough : ℕ) → List Case → Bool
last_is_own f [] = false
last_is_own f (case ∷ cases) = eqb case.block f

module _ (t : Table) where
  abbrev pub all_reached : List ℕ → Bool
  all_reached ns = all_of ns (λ n. not (is_unreachable (terminal_at t n)))

  -- a For's init or update: it ends in a Goto to the test, and its last instruction is no StoreLocal to an unnamed identifier
  abbrev pub goes_on : (block test : ℕ) → Bool
  goes_on b x = is_fallthrough (goto_block (terminal_at t b)) x && not (ends_in_unnamed t (instruction_rows_at t b))

  abbrev pub update_test : (test : ℕ) → Option ℕ → Bool
  update_test x none = true
  update_test x (some u) = goes_on u x

  abbrev pub part_test : ℕ → Part → Bool
  part_test b (part_for i x u) = goes_on i x && (not (ends_in_own_load t (instruction_rows_at t i)) && update_test x u)
  part_test b (part_switch i n f) = not (is_unreachable (terminal_at t f)) || not (last_is_own f (cases_last_first t i n))
  part_test b part_branch = not (ends_in_unnamed t (instruction_rows_at t b))
  part_test b part_goto_try = false
  part_test b no_part = true

  -- a loop's test goes to its loop block and its fallthrough, which are no Branch blocks
  abbrev pub loop_test : Option Loop → Bool
  loop_test none = true
  loop_test (some loop) = is_branch_to loop.body loop.fallthrough (shape_of (terminal_at t loop.test)) && no_branches t (loop.body ∷ loop.fallthrough ∷ [])

  -- a fallthrough is no other block's, is no loop block and continues no loop, and is reached unless its terminal asks
  abbrev pub end_test : ℕ → Terminal → Option ℕ → Bool
  end_test b m none = true
  end_test b m (some f) = only_of t b f && (every_of t.blocks (λ w n. not_in_loop f (loop_of n)) && (not (is_unreachable (terminal_at t f)) || may_be_open m))

  -- a case block, not the Switch's own fallthrough: no Branch, reached, no fallthrough
  abbrev pub proper_test : ℕ → Bool
  proper_test k = not (is_branch (terminal_at t k)) && (not (is_unreachable (terminal_at t k)) && every_of t.blocks (λ w m. not (is_fallthrough (fallthrough_of m) k)))

  abbrev pub loop_block_test : Width → ℕ → Terminal → Bool
  loop_block_test width b m =
      contains (loop_codes width) (code_of m) && (no_branches t (other_names m) && (all_reached (entered_by m)
      && (part_test b (part_of m) && (loop_test (loop_of m) && (end_test b m (fallthrough_of m) && all_of (proper_blocks_of t m) proper_test)))))

  abbrev pub is_plain_loops : Width → Bool
  is_plain_loops width =
      not (is_branch (terminal_at t t.entry)) && (not (is_unreachable (terminal_at t t.entry)) && every_of t.blocks (λ b m. loop_block_test width b m))

-- ---- which of the laws speaks of a table: 1 paper 01's, else 2 M-113's, else 3 the one beyond the papers, else 0

abbrev pub plainness : Table → ℕ
plainness t = cond (is_plain t paper_01) 1 (cond (is_plain t with_switch) 2 (cond (is_plain_loops t with_switch) 3 0))
