-- The whole walk.
use mathlib.Core.Path.{◌≡◌, refl, sym, ap, ◌∙◌}
use mathlib.Core.List.{List, [], append-nil}
use Prim.Native.Nat.{ℕ}
use native.Mathlib.Omega.{arith}
use lib.ListN.{length, length-replicate}
use Rattle.std.specs.Prelude.{Ok, Err}
use Rattle.std.specs.Prelude as std
use Rattle.table.specs.Table.{Table}
use Rattle.definition.specs.Around as definition
use Rattle.definition.specs.Build.{Report, report, reported}
use Rattle.definition.specs.Context as context
use Rattle.definition.specs.Context.{no_flags, start}
use Rattle.definition.specs.Index.{lines}
use Rattle.definition.specs.Output.{no_output}
use Rattle.definition.specs.Result.{Result}
use Rattle.definition.specs.Statement.{BlockResult, build_tree}
use Rattle.definition.specs.Tree.{Statements, rows}
use Rattle.definition.proofs.Flags.{length_none}
use Rattle.definition.specs.Put.{block_put}
use Rattle.definition.proofs.Rows.{block_out, block_out_lem}
use Rattle.control.specs.Abstraction.{context_of, no_entry}
use Rattle.control.specs.Contract.{Created}
use Rattle.values.specs.Stack.{pushed}
use Rattle.values.specs.declared.result.Tally.{Tally}
use Rattle.walk.specs.Met.{Traversed}
use Rattle.walk.specs.Out.{Out}
use Rattle.walk.specs.Report.{Accepted, Rooted}
use Rattle.walk.specs.State.{state, Fine}
use Rattle.walk.proofs.OutLaws.{no_lines}
use Rattle.walk.specs.declared.refusal.Refused.{Refused}
use Rattle.walk.specs.declared.answer.Walked.{Walked}
use Rattle.walk.specs.declared.state.Walk.{Walk}

-- the buffers by other names
pub accepted_in : (r : Report) (w : Walked) (b i b' i' : List ℕ) → Accepted r w b i → b' ≡ b → i' ≡ i → Accepted r w b' i'
accepted_in r w b i b' i' a e f = rw (e, f) a

-- before anything is put out
module _ (w : Walk) (created : Created w.cx) (nothing : (w.tally ≡ record { rows = 0; visits = 0 }) × (w.lines ≡ 0)) where
  emitted_none : w.cx.emitted ≡ no_flags
  unfolding context_of start
  emitted_none = ap (λ (z : context.Context). z.emitted) created.context

  no_rows : w.tally.rows ≡ 0
  no_rows = ap (λ (z : Tally). z.rows) nothing.0

  no_visits : w.tally.visits ≡ 0
  no_visits = ap (λ (z : Tally). z.visits) nothing.0

  pub start_fine : Fine w 0 0
  start_fine = record {
    whole = record { emitted = ap length emitted_none ∙ length_none; stack = ap length created.stack ∙ length-replicate 1152 no_entry; bounded = created.bounded };
    visits = omega (arith, no_visits);
    rows = omega (arith, no_rows);
    len = omega (arith, created.len);
    id = omega (arith, created.id);
    lines = omega (arith, nothing.1);
  }

  pub start_state : state w ≡ start
  start_state = rw no_visits created.context

  pub start_out : Out w w no_output
  unfolding pushed
  start_out = record { tree = refl; index = refl; rows = record { count = sym no_rows; rows = tt }; lines = rw nothing.1 (no_lines w.index.now) }

module _ (o : Result BlockResult) (v w : Walk) where
  pub root_tree : (r : std.Result (Unit {0}) Refused) → Traversed o v r w → Out v v no_output → std.IfOk r (λ _. w.tree.ghost_name ≡ v.tree.ghost_name)
  root_tree (Ok _) f out = (f.puts v no_output out).tree
  root_tree (Err e) f out = tt

  pub root_index : (r : std.Result (Unit {0}) Refused) → Traversed o v r w → Out v v no_output → std.IfOk r (λ _. w.index.ghost_name ≡ v.index.ghost_name)
  root_index (Ok _) f out = (f.puts v no_output out).index
  root_index (Err e) f out = tt

root_rows : (s : Statements) → (block_put no_output s).rows ≡ rows s
root_rows s = sym (append-nil (block_out [] s)) ∙ block_out_lem [] s []

pub root_report : (rule : definition.Rule) (t : Table) (v w : Walk) (r : std.Result (Unit {0}) Refused) → Traversed (build_tree rule t) v r w → Out v v no_output → Rooted (report rule t) r w
unfolding report reported lines context_of
root_report rule t v w (Ok _) f out =
    let put = f.puts v no_output out in
    record {
      rows = rows f.part;
      lines = lines f.part;
      is = rw f.same refl;
      held = rw (← root_rows f.part) put.rows;
      indexed = put.lines;
    }
root_report rule t v w (Err e) f out = rw f refl
