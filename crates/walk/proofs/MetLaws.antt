-- Laws by which a contract follows the definition, step by step: a step that went on, and a step that refused.
use mathlib.Core.Path.{◌≡◌, refl, sym, ap, subst, ◌∙◌}
use mathlib.Core.Bool.{Bool, true, false}
use mathlib.Core.List.{List, [], ◌∷◌}
use mathlib.Core.Option.{Option, none, some}
use Rattle.definition.proofs.Steps.{true_false, refused_ok}
use Prim.Native.Nat.{ℕ, suc, ◌+◌, ◌-◌, ◌≤◌, ◌<◌}
use native.Mathlib.Omega.{arith}
use lib.ListN.{length}
use Rattle.std.specs.Prelude.{Ok, Err, IsErr, IsErrAnd, MatchResult}
use Rattle.std.specs.Prelude as std
use Rattle.table.specs.declared.columns.Span.{Span}
use Rattle.table.specs.Table.{Table, Terminal, table_of, terminal_at, block_at, is_absent}
use Rattle.table.specs.Promise.{Ends, Heads}
use Rattle.definition.specs.Around.{Around, a_loop, within}
use Rattle.definition.specs.Context as definition
use Rattle.definition.specs.Context.{is_scheduled, unschedule, with_visits}
use Rattle.definition.specs.Index.{label_of}
use Rattle.definition.specs.Output.{Output, added}
use Rattle.definition.specs.Result.{Result, ok, refused, ◌>>=◌, refuse_if}
use Rattle.definition.specs.Statement.{BlockResult, TerminalResult, enter_block, visit_terminal, then_next, visit_block, traverse_block, traverse_loop, instruction_statements, followed_by}
use Rattle.definition.specs.Tree.{Value, Row, row, Statement, IF, Statements, count_statements, flag_of, or_none}
use Rattle.definition.specs.Value.{visit_value_block}
use Rattle.definition.proofs.Enough.{blocks_enough}
use Rattle.definition.specs.Marks.{marks}
use Rattle.definition.proofs.Flags.{marks_below}
use Rattle.definition.specs.Put.{block_put, statement_put}
use Rattle.definition.proofs.Lines.{Parts, close_put, parts_if, parts_else}
use Rattle.control.specs.Abstraction.{context_of}
use Rattle.walk.specs.Met.{traverse_outcome, visit_outcome, terminal_outcome, body_outcome, terminal_result, alternate_put, Numbers, Traversed, Consequent, ValueEnds}
use Rattle.walk.specs.Out.{Out, RowMade, Closes, InstructionsMade, Valued, Spent}
use lib.Dec.{eqb}
use borrow.Author.Tests.{eqb-true}
use Rattle.table.specs.Table.{unless_none, Block, absent, unreachable}
use Rattle.table.specs.Words.{block_count}
use Rattle.definition.specs.Output.{scope_row}
use Rattle.definition.specs.Value.{VisitValueBlock}
use Rattle.definition.specs.Statement.{TraverseInside, visit_value_statement}
use Rattle.values.specs.declared.result.ValueBlockResult as values
use Rattle.walk.specs.State.{state, refused_by, Whole, Fine, Room, Quiet, Shifted, Entered, Marked, entries_if}
use Rattle.control.specs.declared.Context as code
use Rattle.walk.specs.declared.refusal.Refused.{Refused}
use Rattle.walk.specs.declared.state.Walk.{Walk}

-- ---- steps

-- a `?` hands on the refusal that it meets
pub handed_on : {T E : Type 0} {r : std.Result T E} {e : E} → IsErr r × IsErrAnd r (λ y. y ≡ e) → r ≡ Err e
handed_on {r = Ok t} h = absurd h.1
handed_on {r = Err y} h = ap Err h.1

-- the function refuses, as the definition does
pub refuses : {V A : Type 0} (r : std.Result V Refused) (e : Refused) (F : V → Type 0) {o : Result A} → IsErr r × IsErrAnd r (λ y. y ≡ e) → o ≡ refused_by e
    → MatchResult r F (λ e. o ≡ refused_by e)
refuses r e F h q = rw (handed_on {r = r} {e = e} h) q

module _ {A B : Type 0} {o : Result A} (k : A → Result B) where
  -- a step went on
  pub on : {a : A} {x : Result B} → o ≡ ok a → k a ≡ x → (o >>= k) ≡ x
  unfolding ◌>>=◌
  on e q = rw e q

  -- a step refused, and so does all
  pub off : (e : Refused) → o ≡ refused_by e → (o >>= k) ≡ refused_by e
  unfolding ◌>>=◌
  off e q = rw q refl

-- ---- a state whose Context is kept

pub same_state : (v w : Walk) → w.cx ≡ v.cx → w.tally.visits ≡ v.tally.visits → state w ≡ state v
same_state v w e f = rw (e, f) refl

pub record Kept (v w : Walk) : Type 0 where
  pub marks : marks w.cx.emitted ≡ marks v.cx.emitted
  pub len : w.cx.len ≡ v.cx.len
  pub id : w.cx.next_schedule_id ≡ v.cx.next_schedule_id

pub kept : (v w : Walk) → w.cx ≡ v.cx → Kept v w
kept v w e = rw e (record { marks = refl; len = refl; id = refl })

-- ---- the definition's functions

module _ (ws : List ℕ) (around : Around) (block : ℕ) (cx : definition.Context) where
  pub traverse_30 : {levels : ℕ} → levels ≡ 0 → traverse_outcome ws levels around block cx ≡ refused 30 block cx.visits
  unfolding traverse_block
  traverse_30 e = rw e refl

  pub traverse_more : {levels : ℕ} → (levels ≡ 0 → ⊥) → traverse_outcome ws levels around block cx ≡ visit_outcome ws (levels - 1) around block cx
  traverse_more {levels} f = let e : levels ≡ levels - 1 + 1 = omega arith in ap (λ (n : ℕ). traverse_outcome ws n around block cx) e

  -- a block and those that follow: the definition's bound on them is never what ends a walk
  pub visit_unroll : (levels : ℕ) → visit_outcome ws levels around block cx
      ≡ (enter_block (table_of ws) block cx >>= λ entered. terminal_outcome ws levels around block entered >>= λ r.
      then_next (table_of ws) block (visit_outcome ws levels around) r.statement r.next r.context)
  unfolding visit_block traverse_block
  visit_unroll levels =
      let e : levels + 1 ≡ suc levels = omega arith in
      rw e (sym (blocks_enough (table_of ws) around levels 1 block cx))

  pub terminal_by : (levels : ℕ) {e : Terminal} → Ends ws block e
      → terminal_outcome ws levels around block cx ≡ visit_terminal (table_of ws) (visit_value_block (table_of ws) levels) (traverse_block (table_of ws) levels) around e block (block_at (table_of ws) block) cx
  terminal_by levels ends = ap (λ (e : Terminal). visit_terminal (table_of ws) (visit_value_block (table_of ws) levels) (traverse_block (table_of ws) levels) around e block (block_at (table_of ws) block) cx) ends.is

  pub nothing_at : (levels : ℕ) → Ends ws block unreachable → terminal_outcome ws levels around block cx ≡ ok (terminal_result none none cx)
  unfolding visit_terminal
  nothing_at levels ends = terminal_by levels ends

pub not_absent : (ws : List ℕ) (block : ℕ) → Ends ws block absent → is_absent (terminal_at (table_of ws) block) ≡ false → ⊥
not_absent ws block ends present = true_false (rw ends.is at present)

-- ---- counts

pub followed_count : (o : Option Statement) (more : Statements) → count_statements (followed_by o more) ≡ added o 0 + count_statements more
followed_count none more = omega arith
followed_count (some s) more = omega arith

pub chain_count : (t : Table) (rows : List ℕ) (o : Option Statement) (more : Statements)
    → count_statements (instruction_statements t rows (followed_by o more)) ≡ length rows + (added o 0 + count_statements more)
unfolding instruction_statements
chain_count t [] o more = omega (arith, followed_count o more)
chain_count t (r ∷ rows) o more = omega (arith, chain_count t rows o more)

-- ---- bounds

pub marks_few : (cx : code.Context) → Whole cx → marks cx.emitted ≤ 1024
marks_few cx w = omega (arith, marks_below cx.emitted, w.emitted)

pub room_of : {w : Walk} {unused : ℕ} → Fine w 1 unused → Room w.cx
room_of {w} f = record { whole = f.whole; len = omega (arith, f.len, marks_few w.cx f.whole); id = omega (arith, f.id, marks_few w.cx f.whole) }

-- a line more fits the count
pub line_room : (v w : Walk) {unused : ℕ} → Fine v 1 unused → Whole w.cx → w.lines + marks v.cx.emitted ≤ v.lines + marks w.cx.emitted → w.lines < 1025
line_room v w f h le = omega (arith, f.lines, marks_few w.cx h, le)

pub entries_one : (label : std.Option ℕ) → entries_if label ≤ 1
entries_one std.None = omega arith
entries_one (std.Some f) = omega arith

pub fine_shifted : {v w : Walk} {unused more less : ℕ} → Fine v 1 unused → Shifted v w more less → more ≤ 1 → Fine w 0 0
fine_shifted f s le = record {
  whole = s.whole;
  visits = omega (arith, f.visits, s.visits);
  rows = omega (arith, f.rows, s.visits, s.quiet);
  len = omega (arith, f.len, s.len, s.marks, le);
  id = omega (arith, f.id, s.id, s.marks, le);
  lines = omega (arith, f.lines, s.marks, s.quiet);
}

pub fine_after : {v w : Walk} {blocks unused : ℕ} → Fine v blocks unused → Whole w.cx → Numbers v w 0 → Fine w blocks unused
fine_after f whole n = record {
  whole = whole;
  visits = omega (arith, n);
  rows = omega (arith, f.rows, n);
  len = omega (arith, f.len, n);
  id = omega (arith, f.id, n);
  lines = omega (arith, f.lines, n);
}

pub fine_next : {v w : Walk} → Fine v 1 18 → Whole w.cx → Numbers v w 1 → Fine w 0 0
fine_next f whole n = record {
  whole = whole;
  visits = omega (arith, n);
  rows = omega (arith, f.rows, n);
  len = omega (arith, f.len, n);
  id = omega (arith, f.id, n);
  lines = omega (arith, f.lines, n);
}

pub added_one : (o : Option Statement) → added o 0 ≤ 1
added_one none = omega arith
added_one (some s) = omega arith

-- a value was made
pub fine_valued : {A : Type 0} {ws : List ℕ} {of : values.ValueBlockResult → Value → A} {o : Result A} {u v : Walk} {r : values.ValueBlockResult} → Fine u 0 0 → Valued ws of o 0 u r v → Fine v 0 0
fine_valued {u = u} {v} f made = let same = kept u v made.cx in record {
  whole = rw made.cx f.whole;
  visits = made.visits;
  rows = omega (arith, f.rows, made.paid, made.rises);
  len = omega (arith, same, f.len);
  id = omega (arith, same, f.id);
  lines = omega (arith, same, made.lines, f.lines);
}

pub valued_state : {A : Type 0} {ws : List ℕ} {of : values.ValueBlockResult → Value → A} {o : Result A} {unpaid : ℕ} {r : values.ValueBlockResult} (u v : Walk) → Valued ws of o unpaid u r v
    → state v ≡ context_of r.tally.visits u.cx
valued_state u v made = rw (made.cx, made.tally) refl

-- the fallthrough that was taken is there
pub fallthrough_there : {f n : ℕ} (label : std.Option ℕ) → std.IfSome label (λ b. b ≡ f) → f < n → std.IfSome label (λ b. b < n)
fallthrough_there std.None e h = tt
fallthrough_there (std.Some b) e h = rw e h

-- a block was entered, and its instructions are out
pub fine_entered : {ws : List ℕ} {block first count id : ℕ} {span : Span} {u v w : Walk} → Entered ws block u v → InstructionsMade ws first count v w → Heads ws block first count id span → Fine w 1 18
fine_entered {first = first} {v = v} {w} entered put head = let same = kept v w put.cx in record {
  whole = rw put.cx entered.fine.whole;
  visits = omega (arith, put.visits, entered.fine.visits);
  rows = omega (arith, put.rows, put.visits, entered.fine.rows, head.few, head.there);
  len = omega (arith, same, entered.fine.len);
  id = omega (arith, same, entered.fine.id);
  lines = omega (arith, same, put.lines, entered.fine.lines);
}

-- ---- what is out

pub quiet_out : {v w origin : Walk} {out : Output} → Quiet v w → Out origin v out → Out origin w out
quiet_out {v} {w} {origin} {out} q o = record {
  tree = rw q.tree o.tree;
  index = rw q.index o.index;
  rows = rw (q.tree, q.rows) o.rows;
  lines = rw (q.index, q.lines) o.lines;
}

pub closes : {label : Option ℕ} {first : ℕ} {k : Row} {s : Statement} {v w origin : Walk} (R R₁ : Output) → Closes label first k v w → Parts R s k R₁ → first ≡ length R.rows → label ≡ label_of s
    → Out origin v R₁ → Out origin w (statement_put R s)
closes {label} {first} {k} {s} {w = w} {origin} R R₁ c p e g o = subst (λ (z : Output). Out origin w z) (close_put R R₁ s k label first p e g) (c.puts origin R₁ o)

pub parts_of_if : (R : Output) (x id : ℕ) (g : Option ℕ) (c : Statements) (made : Bool × Statements)
    → Parts R (IF x id g c made.0 made.1) (row 10 x (flag_of made.0) id (or_none g) 0) (alternate_put (block_put R c) made)
parts_of_if R x id g c (true, a) = parts_else R x id g c a
parts_of_if R x id g c (false, a) = parts_if R x id g c a

-- ---- a loop's body

module _ (ws : List ℕ) (levels : ℕ) (around : Around) (at : ℕ) (label : Option ℕ) (loop visits₀ visits id : ℕ) (cx : code.Context) (make : Statements → Statement) where
  abbrev looped : Bool → Result TerminalResult
  looped taken = traverse_loop (traverse_outcome ws levels (within (a_loop label) around)) at loop taken visits id (context_of visits₀ cx) label make

  pub loop_is : (taken : Bool) → looped taken ≡ (body_outcome ws levels around at label loop taken (context_of visits cx) >>= λ body.
      unschedule id body.context >>= λ after. ok (terminal_result label (some (make body.statements)) after))
  unfolding traverse_loop body_outcome ◌>>=◌ refuse_if with_visits context_of
  loop_is true = refl
  loop_is false = refl

-- where the values are made after the body: the definition's steps of a DoWhile
module _ {A : Type 0} (ws : List ℕ) (levels : ℕ) (around : Around) (at : ℕ) (label : Option ℕ) (loop : ℕ) (cx : definition.Context) where
  pub then_body : (taken : Bool) (k : BlockResult → Result A) {body : BlockResult} → body_outcome ws levels around at label loop taken cx ≡ ok body
      → (refuse_if taken 16 at cx.visits >>= λ _. traverse_outcome ws levels (within (a_loop label) around) loop cx >>= k) ≡ k body
  unfolding body_outcome ◌>>=◌ refuse_if
  then_body true k e = absurd (refused_ok e)
  then_body false k e = rw e refl

  pub then_body_off : (taken : Bool) (k : BlockResult → Result A) (e : Refused) → body_outcome ws levels around at label loop taken cx ≡ refused_by e
      → (refuse_if taken 16 at cx.visits >>= λ _. traverse_outcome ws levels (within (a_loop label) around) loop cx >>= k) ≡ refused_by e
  unfolding body_outcome ◌>>=◌ refuse_if
  then_body_off true k r e = ap (λ (o : Result BlockResult). o >>= k) e
  then_body_off false k r e = rw e refl

pub fine_less : {w : Walk} {unused : ℕ} → Fine w 1 unused → Fine w 0 0
fine_less f = record { whole = f.whole; visits = f.visits; rows = omega (arith, f.rows); len = omega (arith, f.len); id = omega (arith, f.id); lines = omega (arith, f.lines) }

-- a nested block is more than a consequent asks
pub consequent_nested : (o : Result BlockResult) (v w : Walk) (r : std.Result (Unit {0}) Refused) → Traversed o v r w → Consequent o v r w
consequent_nested o v w (Ok u) f = record { part = f.part; same = f.same; puts = f.puts; says = record { lines = omega (arith, f.numbers) }; whole = f.whole; numbers = omega (arith, f.numbers) }
consequent_nested o v w (Err e) f = f

-- ---- the other arms

pub spent_state : (u v : Walk) → v.cx ≡ u.cx → state v ≡ context_of v.tally.visits u.cx
spent_state u v e = rw e refl

pub binding_word : (n : ℕ) → or_none (unless_none n) ≡ n
unfolding unless_none
binding_word n = by (eqb n 65535) refl
  where
    by : (y : Bool) → eqb n 65535 ≡ y → or_none (unless_none n) ≡ n
    by true e = rw (unless_none, e) (sym (eqb-true n 65535 e))
    by false e = rw (unless_none, e) refl

pub scope_row_is : (pruned : Bool) (n : ℕ) → scope_row pruned n ≡ row (elim pruned [ true ↦ 21 | false ↦ 20 ]) n 0 0 0 0
scope_row_is true n = refl
scope_row_is false n = refl

pub value_ends : {ws : List ℕ} {block f : ℕ} (e : Terminal) → Ends ws block e → f < block_count ws
    → ((t : Table) (v : VisitValueBlock) (tr : TraverseInside) (around : Around) (b : Block) (cx : definition.Context) → visit_terminal t v tr around e block b cx ≡ visit_value_statement t v e block b f cx)
    → ValueEnds ws block f
value_ends {ws} {block} {f} e ends there same = record {
  few = ends.few;
  there = there;
  visits = λ levels around cx. terminal_by ws around block cx levels ends ∙ same _ _ _ _ _ _
      ∙ ap (λ (z : Terminal). visit_value_statement (table_of ws) (visit_value_block (table_of ws) levels) z block (block_at (table_of ws) block) f cx) (sym ends.is);
}

pub room_built : {v w : Walk} → Fine v 0 0 → Whole w.cx → Numbers v w 0 → Room w.cx
room_built {w = w} f whole n = record { whole = whole; len = omega (arith, f.len, n, marks_few w.cx whole); id = omega (arith, f.id, n, marks_few w.cx whole) }

-- a case was built and scheduled
pub fine_case : {u v w x : Walk} {r : Row} → Fine u 0 0 → Numbers u v 0 → RowMade r v w → Kept v w → Shifted w x 1 0 → Fine x 0 0
fine_case f n put same s = record {
  whole = s.whole;
  visits = omega (arith, n, put.visits, s.visits);
  rows = omega (arith, f.rows, n, put.rows, put.visits, s.visits, s.quiet);
  len = omega (arith, f.len, n, same, s.len, s.marks);
  id = omega (arith, f.id, n, same, s.id, s.marks);
  lines = omega (arith, f.lines, n, put.lines, same, s.marks, s.quiet);
}
