-- The blocks of one list: what was built before the block that comes next.
use mathlib.Core.Path.{◌≡◌, refl, ap, ◌∙◌}
use mathlib.Core.List.{List}
use mathlib.Core.Option.{Option, some}
use Prim.Native.Nat.{ℕ, ◌+◌, ◌*◌, ◌≤◌, ◌<◌}
use native.Mathlib.Omega.{arith}
use Rattle.table.specs.Words.{block_count}
use Rattle.definition.specs.Around.{Around}
use Rattle.definition.specs.Output.{Output}
use Rattle.definition.specs.Result.{Result, ok, refused, ◌>>=◌}
use Rattle.definition.specs.Context.{Context}
use Rattle.definition.specs.Statement.{BlockResult, TraverseBlock, then_next, instruction_statements, followed_by}
use Rattle.definition.specs.Tree.{Statement, Statements, count_statements}
use Rattle.table.specs.Table.{Table, instruction_rows_at}
use Rattle.definition.specs.Marks.{marks}
use Rattle.definition.specs.Put.{list_put}
use Rattle.walk.specs.Met.{visit_outcome, block_result}
use Rattle.walk.specs.Out.{Puts}
use Rattle.walk.specs.State.{state, refused_by, Fine}
use Rattle.walk.specs.declared.refusal.Refused.{Refused}
use Rattle.walk.specs.declared.state.Walk.{Walk}

-- what was built stands before what follows
abbrev pub before : (Statements → Statements) → BlockResult → Result BlockResult
before wrap more = ok (block_result (wrap more.statements) more.context)

pub before_nothing : (r : Result BlockResult) → r ≡ (r >>= before (λ more. more))
unfolding ◌>>=◌
before_nothing (ok more) = refl
before_nothing (refused code at visits) = refl

pub before_both : (r : Result BlockResult) (inner outer : Statements → Statements) → ((r >>= before inner) >>= before outer) ≡ (r >>= before (λ more. outer (inner more)))
unfolding ◌>>=◌
before_both (ok more) inner outer = refl
before_both (refused code at visits) inner outer = refl

-- `count` statements of the list are built, and `next` comes next
pub record Followed (words : List ℕ) (levels : ℕ) (around : Around) (block : ℕ) (start : Walk) (next count : ℕ) (now : Walk) : Type 0 where
  pub wrap : Statements → Statements
  pub put : Output → Output
  pub same : visit_outcome words levels around block (state start) ≡ (visit_outcome words levels around next (state now) >>= before wrap)
  pub puts : Puts start put now
  pub splits : (out : Output) (more : Statements) → list_put out (wrap more) ≡ list_put (put out) more
  pub counts : (more : Statements) → count_statements (wrap more) ≡ count + count_statements more
  pub there : next < block_count words
  pub fine : Fine now 0 0
  pub rises : start.tally.visits ≤ now.tally.visits
  pub few : count + 8210 * start.tally.visits ≤ 8210 * now.tally.visits
  pub rows : now.tally.rows + 8210 * start.tally.visits ≤ start.tally.rows + 8210 * now.tally.visits
  pub len : now.cx.len + marks start.cx.emitted ≤ start.cx.len + marks now.cx.emitted
  pub id : now.cx.next_schedule_id + 2 * marks start.cx.emitted ≤ start.cx.next_schedule_id + 2 * marks now.cx.emitted
  pub lines : now.lines + marks start.cx.emitted ≤ start.lines + marks now.cx.emitted

module _ (words : List ℕ) (levels : ℕ) (around : Around) (block : ℕ) (start : Walk) where
  pub first_follows : block < block_count words → Fine start 0 0 → Followed words levels around block start block 0 start
  first_follows there fine = record {
    wrap = λ more. more;
    put = λ out. out;
    same = before_nothing _;
    puts = λ origin out o. o;
    splits = λ out more. refl;
    counts = λ more. omega arith;
    there = there;
    fine = fine;
    rises = omega arith;
    few = omega arith;
    rows = omega arith;
    len = omega arith;
    id = omega arith;
    lines = omega arith;
  }

  -- the list ends as the block that comes next does
  pub ends_refused : {next count : ℕ} {now : Walk} (e : Refused) → Followed words levels around block start next count now
      → visit_outcome words levels around next (state now) ≡ refused_by e → visit_outcome words levels around block (state start) ≡ refused_by e
  unfolding ◌>>=◌
  ends_refused e f q = f.same ∙ ap (λ (r : Result BlockResult). r >>= before f.wrap) q

  pub ends_ok : {next count : ℕ} {now : Walk} (last : Statements) (cx : Context) (f : Followed words levels around block start next count now)
      → visit_outcome words levels around next (state now) ≡ ok (block_result last cx) → visit_outcome words levels around block (state start) ≡ ok (block_result (f.wrap last) cx)
  unfolding ◌>>=◌
  ends_ok last cx f q = f.same ∙ ap (λ (r : Result BlockResult). r >>= before f.wrap) q

  pub goes_on : {next count : ℕ} {now : Walk} (r : Result BlockResult) (inner : Statements → Statements) (f : Followed words levels around block start next count now)
      → visit_outcome words levels around next (state now) ≡ (r >>= before inner) → visit_outcome words levels around block (state start) ≡ (r >>= before (λ more. f.wrap (inner more)))
  goes_on r inner f q = f.same ∙ ap (λ (r : Result BlockResult). r >>= before f.wrap) q ∙ before_both r inner f.wrap

pub then_more : (t : Table) (at : ℕ) (again : TraverseBlock) (o : Option Statement) (next : ℕ) (cx : Context) (rows : List ℕ) → instruction_rows_at t at ≡ rows
    → then_next t at again o (some next) cx ≡ (again next cx >>= before (λ more. instruction_statements t rows (followed_by o more)))
unfolding then_next
then_more t at again o next cx rows e = ap (λ (z : List ℕ). again next cx >>= before (λ more. instruction_statements t z (followed_by o more))) e
