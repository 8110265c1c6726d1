-- The definition's count of blocks at one depth (Statement.visitBlock) is never what ends a walk: with more of it every result is the same. So
-- 30 and 31, which the paper asks for, are the only bounds. For the reader.
use mathlib.Core.Path.{◌≡◌, refl, ◌∙◌}
use Prim.Native.Nat.{ℕ, zero, suc, ◌+◌, ◌≤◌, ◌<◌}
use native.Mathlib.Nat.{suc-add}
use native.Mathlib.Omega.{arith}
use mathlib.Core.Option.{Option, none, some}
use borrow.Author.Tests.{le-leb}
use Rattle.table.specs.Table.{Table, block_at, terminal_at}
use Rattle.definition.specs.Result.{Result, refused, ◌>>=◌, refuse_if}
use Rattle.definition.specs.Tree.{Statement}
use Rattle.definition.specs.Context.{Context, emit, with_visits}
use Rattle.definition.specs.Value.{most_visits, begin_visit, visit_value_block}
use Rattle.definition.specs.Around.{Around}
use Rattle.definition.specs.Statement.{TraverseBlock, TerminalResult, enter_block, visit_terminal, then_next, visit_block, traverse_block}
use Rattle.definition.proofs.Steps.{Good, good_bind, good_unless, good_same, counted_good, fine_good}
use Rattle.definition.proofs.ValueWalk.{begin_visit_took}
use Rattle.definition.proofs.Visits.{value_counted, terminal_counted, statements_counted}

-- at 8,192 visits no block is entered
enter_late : (t : Table) (block : ℕ) (cx : Context) → most_visits ≤ cx.visits → enter_block t block cx ≡ refused 31 block cx.visits
unfolding enter_block begin_visit refuse_if ◌>>=◌
enter_late t block cx h = rw (le-leb 8192 cx.visits h)

-- an entered block is one visit more
enter_more : (t : Table) (block : ℕ) (cx : Context) → Good (λ d. cx.visits < d.visits) (enter_block t block cx)
unfolding enter_block emit with_visits
enter_more t block cx =
    good_bind (λ begun. cx.visits < begun) (λ d. cx.visits < d.visits) _ _
    (fine_good _ (λ begun. cx.visits < begun) (begin_visit t block cx.visits) (λ _ h. omega (arith, h)) (begin_visit_took t block cx.visits))
    (λ begun h. good_unless (λ d. cx.visits < d.visits) _ 11 block begun _ (λ _. h))

-- what a walk that never lowers the count gives is at least what it began with
abbrev Least : ℕ → ℕ → Type 0
Least low visits = low ≤ visits

module _ (t : Table) (around : Around) (depth_left : ℕ) where
  unfoldable blocks : ℕ → TraverseBlock
  blocks n = visit_block t (visit_value_block t depth_left) (traverse_block t depth_left) around n

  unfoldable terminal : (block : ℕ) → Context → Result TerminalResult
  terminal block cx = visit_terminal t (visit_value_block t depth_left) (traverse_block t depth_left) around (terminal_at t block) block (block_at t block) cx

  next_same : (at : ℕ) (statement : Option Statement) (next : Option ℕ) (cx : Context) (f g : TraverseBlock) → ((block : ℕ) → f block cx ≡ g block cx)
      → then_next t at f statement next cx ≡ then_next t at g statement next cx
  unfolding then_next
  next_same at statement none cx f g same = refl
  next_same at statement (some next) cx f g same = rw (same next)

  terminal_more : (block : ℕ) (cx : Context) (low : ℕ) → low ≤ cx.visits
      → Good (λ r. low ≤ r.context.visits) (terminal block cx)
  unfolding terminal
  terminal_more block cx low h =
      counted_good (Least low) (λ (r : TerminalResult). r.context.visits) (terminal block cx)
      (terminal_counted (Least low) (λ _ _ h. omega (arith, h)) t (visit_value_block t depth_left) (value_counted (Least low) (λ _ _ h. omega (arith, h)) t depth_left)
      (traverse_block t depth_left) (statements_counted (Least low) (λ _ _ h. omega (arith, h)) t depth_left) around (terminal_at t block) block (block_at t block) cx h)

  one_more : (n block : ℕ) (cx : Context) → most_visits ≤ n + cx.visits → blocks (suc n) block cx ≡ blocks n block cx
  unfolding blocks terminal visit_block ◌>>=◌
  one_more zero block cx h = rw (enter_late t block cx (omega (arith, h)))
  one_more (suc n) block cx h =
      good_same (λ d. cx.visits < d.visits) (enter_block t block cx) _ _ (enter_more t block cx) (λ entered a.
      good_same (λ r. suc cx.visits ≤ r.context.visits) (terminal block entered) _ _ (terminal_more block entered (suc cx.visits) a) (λ result b.
      next_same block result.statement result.next result.context _ _ (λ next. one_more n next result.context (omega (arith, h, b)))))

  -- with 8,193 blocks and any number more the walk at a depth gives what the definition gives
  pub blocks_enough : (more block : ℕ) (cx : Context)
      → visit_block t (visit_value_block t depth_left) (traverse_block t depth_left) around (more + suc most_visits) block cx ≡ traverse_block t (suc depth_left) around block cx
  unfolding blocks traverse_block
  blocks_enough zero block cx = refl
  blocks_enough (suc more) block cx = rw suc-add (one_more (more + suc most_visits) block cx (omega arith) ∙ blocks_enough more block cx)
