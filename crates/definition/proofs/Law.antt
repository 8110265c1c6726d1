-- The run laws of plain tables (specs/RunLaw) and of plain tables with loops (specs/LoopLaw), proved: they are parts of the law of wide plain tables (proofs/LawOfValues),
-- whose runs are theirs on these tables. For whoever calls the build (build/proofs/Demand3).
use mathlib.Core.Path.{◌≡◌, refl, sym, ap, ◌∙◌, subst}
use Prim.Native.Nat.{ℕ, zero, suc, ◌+◌}
use mathlib.Core.List.{List, []}
use native.Mathlib.Nat.{zero-add, suc-add}
use native.Mathlib.Omega.{arith}
use mathlib.Core.Bool.{Bool, false}
use Rattle.table.specs.Table.{Table, table_of, block_at, terminal_at, instruction_rows_at}
use Rattle.definition.specs.Tree.{Statements}
use Rattle.definition.specs.Build.{built}
use Rattle.definition.specs.Around.{Rule, language}
use Rattle.definition.specs.Reading.{OneTree}
use Rattle.definition.specs.Run.{Answers, Reason, no_such_case, Run, unfinished, stopped}
use Rattle.definition.specs.BlockRun.{Move, go, halt, move, performing, block_run}
use Rattle.definition.specs.TreeRun.{tree_run}
use Rattle.definition.specs.Plain.{Width, paper_01, with_switch, Plain}
use Rattle.definition.specs.RunLaw.{Agree, RunLaw, Spoken, SwitchLaw, LawOfSwitches}
use Rattle.definition.specs.LoopLaw.{LawOfLoops, LawOfLoopsAndSwitches}
use Rattle.definition.specs.ValueEnds.{seen}
use Rattle.definition.specs.WideRun.{wide_run}
use Rattle.definition.specs.WideTreeRun.{wide_tree_run}
use Rattle.definition.specs.ValueLaw.{WideAgree, WideSpoken}
use Rattle.definition.proofs.PlainEnough.{PlainEnough, plain_enough}
use Rattle.definition.proofs.Semantics.{runnable}
use Rattle.definition.proofs.Structure.{Covers}
use Rattle.definition.proofs.Runnable.{Runnable}
use Rattle.definition.proofs.Accepted.{Accepted, accepted_of}
use Rattle.definition.proofs.TreeInBuffer.{one_tree, tree_is_built}
use Rattle.definition.proofs.LoopsAreWide.{old_loops, old_wide, no_values, old_seen, old_run}
use Rattle.definition.proofs.SameTrees.{same_tree_run}
use Rattle.definition.proofs.LawOfValues as wide
use Rattle.definition.proofs.LawOfValues.{is_beyond, runs_beyond, root_built, covers_paper}
use Rattle.definition.proofs.Steps.{true_false}

-- ---- more steps change nothing: there is one block run

unfinished_stopped : {performed : List ℕ} {a : Answers} {r : Reason} → unfinished ≡ stopped performed a r → ⊥
unfinished_stopped e = let z : ◌≡◌ {A = ℕ} 0 1 = cc in omega arith

-- what stops goes on stopping alike
abbrev Still : Run → Run → Type 0
Still x y = (performed : List ℕ) (a : Answers) (r : Reason) → x ≡ stopped performed a r → y ≡ stopped performed a r

performing_still : (rs : List ℕ) (x y : Run) → Still x y → Still (performing rs x) (performing rs y)
unfolding performing
performing_still rs unfinished y f performed a r e = absurd (unfinished_stopped e)
performing_still rs (stopped performed' a' r') y f performed a r e = ap (λ (z : Run). performing rs z) (f performed' a' r' refl) ∙ e

one_more : (t : Table) (n b : ℕ) (answers : Answers) → Still (block_run t n b answers) (block_run t (suc n) b answers)
unfolding block_run
one_more t zero b answers = λ performed a r e. absurd (unfinished_stopped e)
one_more t (suc n) b answers = performing_still (instruction_rows_at t b) _ _ (at (move t (terminal_at t b) (block_at t b).id answers) (λ b' a'. one_more t n b' a'))
  where
    at : (m : Move) → ((b' : ℕ) (a' : Answers) → Still (block_run t n b' a') (block_run t (suc n) b' a'))
        → Still (elim m [ go x y ↦ block_run t n x y | halt e ↦ stopped [] answers e ]) (elim m [ go x y ↦ block_run t (suc n) x y | halt e ↦ stopped [] answers e ])
    at (go x y) f = f x y
    at (halt q) f = λ performed a r e. e

pub more_steps : (t : Table) (more n b : ℕ) (answers : Answers) (performed : List ℕ) (left : Answers) (r : Reason)
    → block_run t n b answers ≡ stopped performed left r → block_run t (more + n) b answers ≡ stopped performed left r
more_steps t zero n b answers performed left r e = rw zero-add e
more_steps t (suc more) n b answers performed left r e = rw suc-add (one_more t (more + n) b answers performed left r (more_steps t more n b answers performed left r e))

-- ---- a list whose run stops for another reason is spoken of, as there is one run
pub spoken_of : (t : Table) (answers : Answers) (n : ℕ) (performed : List ℕ) (left : Answers) (r : Reason)
    → block_run t n t.entry answers ≡ stopped performed left r → is_beyond r ≡ false → Spoken t answers
spoken_of t answers n performed left r e h m performed' left' e' =
    let q : n + m ≡ m + n = omega arith in
    true_false (sym (ap runs_beyond (more_steps t n m t.entry answers performed' left' no_such_case e')) ∙ ap (λ (k : ℕ). runs_beyond (block_run t k t.entry answers)) q
    ∙ ap runs_beyond (more_steps t m n t.entry answers performed left r e) ∙ h)

-- ---- the laws

module _ (rule : Rule) {width : Width} (words : List ℕ) (lent lent_index : ℕ)
    (covers : Covers rule width) (h : (built rule words lent lent_index).code ≡ 0) (pl : PlainEnough width (table_of words)) where
  -- the runner runs such a tree: nothing in it is refused 64
  root_runnable : Runnable (one_tree rule words lent lent_index h).tree
  root_runnable =
      runnable (table_of words) (seen (table_of words)) (no_values (table_of words) width pl) (root_built rule words lent lent_index covers h (old_wide (table_of words) width pl))

  spoken_too : (answers : Answers) → Spoken (table_of words) answers → WideSpoken (table_of words) (seen (table_of words)) answers
  spoken_too answers spoken n performed left e = spoken n performed left (sym (old_run (table_of words) width pl n (table_of words).entry answers) ∙ e)

  agree_too : (answers : Answers) → WideAgree (table_of words) (seen (table_of words)) (one_tree rule words lent lent_index h).tree answers
      → Agree (table_of words) (one_tree rule words lent lent_index h).tree answers
  agree_too answers a = record {
    performed = a.performed;
    taken = a.taken;
    left = a.left;
    reason = a.reason;
    steps = a.steps;
    block_stops = λ more. sym (old_run (table_of words) width pl (more + a.steps) (table_of words).entry answers) ∙ a.block_stops more;
    tree_stops = sym (same_tree_run (seen (table_of words)) (old_seen (table_of words) width pl) (one_tree rule words lent lent_index h).tree root_runnable answers) ∙ a.tree_stops;
    answers_taken = a.answers_taken;
    good = a.good;
  }

  root_agrees : (answers : Answers) → Spoken (table_of words) answers → Agree (table_of words) (one_tree rule words lent lent_index h).tree answers
  root_agrees answers spoken = agree_too answers (wide.root_agrees rule words lent lent_index covers h (old_wide (table_of words) width pl) answers (spoken_too answers spoken))

  pub tree_runnable : (one : OneTree (built rule words lent lent_index)) → Runnable one.tree
  tree_runnable one =
      let a : Accepted rule words lent lent_index = accepted_of rule words lent lent_index h in
      subst (λ (s : Statements). Runnable s)
      (tree_is_built rule words lent lent_index a (one_tree rule words lent lent_index h) ∙ sym (tree_is_built rule words lent lent_index a one)) root_runnable

  -- both runs are the wide ones
  same_runs : (one : OneTree (built rule words lent lent_index)) (answers : Answers)
      → ((steps block : ℕ) → wide_run (table_of words) (seen (table_of words)) steps block answers ≡ block_run (table_of words) steps block answers)
      × (wide_tree_run (seen (table_of words)) one.tree answers ≡ tree_run one.tree answers)
  same_runs one answers = (
    λ steps block. old_run (table_of words) width pl steps block answers,
    same_tree_run (seen (table_of words)) (old_seen (table_of words) width pl) one.tree (tree_runnable one) answers,
  )

-- a table without Switch: every list of answers is spoken of
all_spoken : (words : List ℕ) → PlainEnough paper_01 (table_of words) → (answers : Answers) → Spoken (table_of words) answers
all_spoken words pl answers n performed left e =
    wide.all_spoken (table_of words) (seen (table_of words)) (old_loops (table_of words) paper_01 pl) answers n performed left
    (old_run (table_of words) paper_01 pl n (table_of words).entry answers ∙ e)

-- "the run law of plain tables covers both" entries, and from less than the paper's plainness (proofs/PlainEnough)
pub run_law_enough : (rule : Rule) (words : List ℕ) (lent lent_index : ℕ)
    → (built rule words lent lent_index).code ≡ 0 → PlainEnough paper_01 (table_of words) → RunLaw words (built rule words lent lent_index)
run_law_enough rule words lent lent_index h pl = record {
  one = one_tree rule words lent lent_index h;
  agree = λ answers. root_agrees rule words lent lent_index (covers_paper rule) h pl answers (all_spoken words pl answers);
}

pub run_law : (rule : Rule) (words : List ℕ) (lent lent_index : ℕ) → (built rule words lent lent_index).code ≡ 0 → Plain paper_01 (table_of words) → RunLaw words (built rule words lent lent_index)
run_law rule words lent lent_index h pl = run_law_enough rule words lent lent_index h (plain_enough (table_of words) pl)

-- M-113: the run law with switches, for the language entry
pub switch_law_enough : (words : List ℕ) (lent lent_index : ℕ)
    → (built language words lent lent_index).code ≡ 0 → PlainEnough with_switch (table_of words) → SwitchLaw words (built language words lent lent_index)
switch_law_enough words lent lent_index h pl = record { one = one_tree language words lent lent_index h; agree = root_agrees language words lent lent_index tt h pl }

pub switch_law : LawOfSwitches
switch_law words lent lent_index h pl = switch_law_enough words lent lent_index h (plain_enough (table_of words) pl)

-- with DoWhile and For
pub loops_law : LawOfLoops
loops_law = run_law_enough

pub loops_and_switches_law : LawOfLoopsAndSwitches
loops_and_switches_law = switch_law_enough

-- ---- on these tables the wide runs are theirs

abbrev SameRuns : Rule → Width → Type 0
SameRuns rule width =
    (words : List ℕ) (lent lent_index : ℕ) → (built rule words lent lent_index).code ≡ 0 → PlainEnough width (table_of words)
    → (one : OneTree (built rule words lent lent_index)) (answers : Answers)
    → ((steps block : ℕ) → wide_run (table_of words) (seen (table_of words)) steps block answers ≡ block_run (table_of words) steps block answers)
    × (wide_tree_run (seen (table_of words)) one.tree answers ≡ tree_run one.tree answers)

pub same_runs_of_loops : (rule : Rule) → SameRuns rule paper_01
same_runs_of_loops rule words lent lent_index h pl = same_runs rule words lent lent_index (covers_paper rule) h pl

pub same_runs_of_loops_and_switches : SameRuns language with_switch
same_runs_of_loops_and_switches words lent lent_index h pl = same_runs language words lent lent_index tt h pl
