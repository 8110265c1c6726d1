-- The turns by op: what is left of every other op; the turn at a place, and after an INSTR.
use mathlib.Core.Path.{◌≡◌, refl, sym, ap, ◌∙◌}
use Prim.Native.Nat.{ℕ, ◌+◌, ◌<◌}
use native.Mathlib.Omega.{arith}
use native.Mathlib.Numerals.{add-one}
use mathlib.Core.List.{List, [], ◌++◌, append-nil}
use mathlib.Core.Option.{Option, none, some}
use Rattle.std.specs.Prelude as code
use mathlib.Core.Bool.{Bool, true, false, ◌||◌}
use lib.ListN.{get_or, get_or-eq_default}
use lib.Dec.{eqb, leb}
use borrow.Author.Tests.{leb-true, leb-false}
use Rattle.definition.specs.Completion.{Completion, normal, break, continue, stop}
use Rattle.definition.specs.Run.{not_plain}
use Rattle.tree_grammar.proofs.Upto.{upto, ends, ◌and◌}
use Rattle.tree_check.specs.Found.{word_at, row_at}
use Rattle.tree_runs.specs.Layout.{Node, a_leaf}
use Rattle.tree_runs.specs.Links.{Links, nodes_by_op, node_of, next_of, parent_of}
use Rattle.tree_runs.specs.Machine as machine
use Rattle.tree_runs.specs.Machine.{enter, leave, or_leave, State, state, going, up_from, leaving, step}
use Rattle.tree_runs.specs.Acts.{Act, act, go, do_then, do_act, act_down, act_up}
use Rattle.tree_runs.proofs.ActLaws.{down_acts, up_acts}
use Rattle.tree_run.specs.declared.completions.Completion as ended
use Rattle.tree_run.specs.declared.turns.Place.{Place}
use Rattle.tree_run.specs.Holds.{After, moves}
use Rattle.tree_run.specs.Abstraction.{stops, place_of, node_at, layout_at}

-- no op that the code names
abbrev pub OtherDown : ℕ → Type 0
OtherDown op =
    (op ≡ 4 → ⊥) × (op ≡ 9 → ⊥) × (op ≡ 10 → ⊥) × (op ≡ 11 → ⊥) × (op ≡ 12 → ⊥) × (op ≡ 13 → ⊥) × (op ≡ 14 → ⊥) × (op ≡ 15 → ⊥) × (op ≡ 18 → ⊥) × (op ≡ 20 → ⊥)
    × (op ≡ 21 → ⊥) × (op ≡ 22 → ⊥) × (op ≡ 23 → ⊥) × (op ≡ 24 → ⊥) × (op ≡ 25 → ⊥)

-- no op that the code names
abbrev pub OtherUp : ℕ → Type 0
OtherUp op = (op ≡ 9 → ⊥) × (op ≡ 10 → ⊥) × (op ≡ 12 → ⊥) × (op ≡ 13 → ⊥) × (op ≡ 14 → ⊥) × (op ≡ 15 → ⊥) × (op ≡ 18 → ⊥)

module _ (words : List ℕ) (t : Links) (k : ℕ) where
  pub node_by : {op : ℕ} → word_at words k 0 ≡ op
      → node_at words t k ≡ get_or (nodes_by_op (row_at words) t k (word_at words k 1) (word_at words k 2) (word_at words k 3) (word_at words k 4)) op (a_leaf (stop not_plain))
  node_by e =
      unfold node_of in
      ap (λ (o : ℕ). get_or (nodes_by_op (row_at words) t k (word_at words k 1) (word_at words k 2) (word_at words k 3) (word_at words k 4)) o (a_leaf (stop not_plain))) e

  abbrev nodes : List Node
  nodes = nodes_by_op (row_at words) t k (word_at words k 1) (word_at words k 2) (word_at words k 3) (word_at words k 4)

  abbrev LeafAt : ℕ → Type 0
  LeafAt op = OtherDown op → get_or nodes op (a_leaf (stop not_plain)) ≡ a_leaf (stop not_plain)

  leaf_known : (op : ℕ) → op < 26 → LeafAt op
  leaf_known = upto LeafAt 26
      ((λ r. refl)
      and (λ r. refl)
      and (λ r. refl)
      and (λ r. refl)
      and (λ r. absurd (r.0 refl))
      and (λ r. refl)
      and (λ r. refl)
      and (λ r. refl)
      and (λ r. refl)
      and (λ r. absurd (r.1 refl))
      and (λ r. absurd (r.2 refl))
      and (λ r. absurd (r.3 refl))
      and (λ r. absurd (r.4 refl))
      and (λ r. absurd (r.5 refl))
      and (λ r. absurd (r.6 refl))
      and (λ r. absurd (r.7 refl))
      and (λ r. refl)
      and (λ r. refl)
      and (λ r. absurd (r.8 refl))
      and (λ r. refl)
      and (λ r. absurd (r.9 refl))
      and (λ r. absurd (r.10 refl))
      and (λ r. absurd (r.11 refl))
      and (λ r. absurd (r.12 refl))
      and (λ r. absurd (r.13 refl))
      and (λ r. absurd (r.14 refl))
      and ends)

  leaf_at : (op : ℕ) → LeafAt op
  leaf_at op = by (leb 26 op) refl
    where
      by : (y : Bool) → leb 26 op ≡ y → LeafAt op
      by true e = λ r. get_or-eq_default nodes (a_leaf (stop not_plain)) (leb-true 26 op e)
      by false e = leaf_known op (omega (arith, leb-false 26 op e))

  pub down_other : {op : ℕ} → word_at words k 0 ≡ op → OtherDown op → act [] (go (leave k (stop not_plain))) ≡ act_down (node_at words t k) k
  unfolding act_down
  down_other {op} e r = sym (ap (λ (n : Node). act_down n k) (node_by e ∙ leaf_at op r))

-- up: part of row k
module _ (words : List ℕ) (t : Links) (k : ℕ) (next : Option ℕ) (c : Completion) where
  abbrev rows : List Node
  rows = nodes_by_op (row_at words) t k (word_at words k 1) (word_at words k 2) (word_at words k 3) (word_at words k 4)

  up_by : {op : ℕ} → word_at words k 0 ≡ op → act_up (get_or rows op (a_leaf (stop not_plain))) k next c ≡ act_up (node_at words t k) k next c
  up_by e = sym (ap (λ (n : Node). act_up n k next c) (node_by words t k e))

  abbrev OutAt : ℕ → Type 0
  OutAt op = OtherUp op → act [] (go (leave k c)) ≡ act_up (get_or rows op (a_leaf (stop not_plain))) k next c

  out_known : (op : ℕ) → op < 26 → OutAt op
  unfolding act_up
  out_known = upto OutAt 26
      ((λ r. refl)
      and (λ r. refl)
      and (λ r. refl)
      and (λ r. refl)
      and (λ r. refl)
      and (λ r. refl)
      and (λ r. refl)
      and (λ r. refl)
      and (λ r. refl)
      and (λ r. absurd (r.0 refl))
      and (λ r. absurd (r.1 refl))
      and (λ r. refl)
      and (λ r. absurd (r.2 refl))
      and (λ r. absurd (r.3 refl))
      and (λ r. absurd (r.4 refl))
      and (λ r. absurd (r.5 refl))
      and (λ r. refl)
      and (λ r. refl)
      and (λ r. absurd (r.6 refl))
      and (λ r. refl)
      and (λ r. refl)
      and (λ r. refl)
      and (λ r. refl)
      and (λ r. refl)
      and (λ r. refl)
      and (λ r. refl)
      and ends)

  out_at : (op : ℕ) → OutAt op
  out_at op = by (leb 26 op) refl
    where
      by : (y : Bool) → leb 26 op ≡ y → OutAt op
      by true e = λ r. unfold act_up in sym (ap (λ (n : Node). act_up n k next c) (get_or-eq_default rows (a_leaf (stop not_plain)) (leb-true 26 op e)))
      by false e = out_known op (omega (arith, leb-false 26 op e))

  pub up_other : {op : ℕ} → word_at words k 0 ≡ op → OtherUp op → act [] (go (leave k c)) ≡ act_up (node_at words t k) k next c
  up_other {op} e r = out_at op r ∙ up_by e

-- ---- the turn at a place

pub not_ended : (end : ended.Completion) (b : Bool) → ◌≡◌ {A = code.Option ended.Completion} (elim b [ true ↦ code.Some end | false ↦ code.None ]) code.None → b ≡ false
not_ended end true e = cc
not_ended end false e = refl

module _ (words : List ℕ) (t : Links) (rows k : ℕ) where
  pub decide_down : {a : Act} → a ≡ act_down (node_at words t k) k → (P left : List ℕ) → step (layout_at words t rows) (state (enter k) P left) ≡ going (do_act a P left)
  unfolding step
  decide_down e P left = rw e (ap (λ (s : State). going s) (down_acts (node_at words t k) k P left))

  inner : eqb (k + 1) rows ≡ false → parent_of t rows k ≡ some (t.parent k)
  unfolding parent_of
  inner e = ap (λ (z : Bool). elim z [ true ↦ none | false ↦ some (t.parent k) ]) (ap (λ (n : ℕ). eqb n rows) (sym (add-one k)) ∙ e)

  pub decide_up : (c : Completion) → (stops c || eqb (k + 1) rows) ≡ false → {a : Act}
      → a ≡ act_up (node_at words t (t.parent k)) (t.parent k) (next_of t k (row_at words k)) c → (P left : List ℕ)
      → step (layout_at words t rows) (state (leave k c) P left) ≡ going (do_act a P left)
  unfolding step leaving up_from
  decide_up normal h e P left = rw (inner h, e) (ap (λ (s : State). going s) (up_acts _ _ _ _ P left))
  decide_up (break target id) h e P left = rw (inner h, e) (ap (λ (s : State). going s) (up_acts _ _ _ _ P left))
  decide_up (continue target id) h e P left = rw (inner h, e) (ap (λ (s : State). going s) (up_acts _ _ _ _ P left))
  decide_up (stop reason) h e P left = absurd (true_false h)
    where
      true_false : true ≡ false → ⊥
      true_false e = cc

-- ---- after an INSTR of a BLOCK

module _ (words : List ℕ) (t : Links) (rows row : ℕ) (instr : word_at words row 0 ≡ 4) (inside : eqb (row + 1) rows ≡ false)
    {block op : ℕ} (is : block ≡ t.parent row) (read : op ≡ word_at words block 0) (nine : op ≡ 9) where
  in_block : word_at words (t.parent row) 0 ≡ 9
  in_block = ap (λ (n : ℕ). word_at words n 0) (sym is) ∙ (sym read ∙ nine)

  block_moves : {place : machine.Place} → place ≡ or_leave (next_of t row (row_at words row)) (t.parent row) → (P left : List ℕ)
      → step (layout_at words t rows) (state (leave row normal) P left) ≡ going (state place P left)
  unfolding do_act do_then act_up
  block_moves {place} q P left =
      let up : act [] (go (or_leave (next_of t row (row_at words row)) (t.parent row))) ≡ act_up (node_at words t (t.parent row)) (t.parent row) (next_of t row (row_at words row)) normal
      = up_by words t (t.parent row) (next_of t row (row_at words row)) normal in_block in
      let same : state (or_leave (next_of t row (row_at words row)) (t.parent row)) (P ++ []) left ≡ state place P left =
      rw (append-nil P, q) refl in
      decide_up words t rows row normal inside up P left ∙ ap (λ (s : State). going s) same

  next_is : next_of t row (row_at words row) ≡ t.next row
  unfolding next_of
  next_is = rw instr refl

  pub block_ends : {r : Place} → none ≡ t.next row → place_of r ≡ leave block normal → After (layout_at words t rows) row r
  block_ends {r} n e = moves (block_moves (e ∙ rw (is, next_is, ← n) refl))

  pub block_goes_on : {later : ℕ} {r : Place} → some later ≡ t.next row → place_of r ≡ enter later → After (layout_at words t rows) row r
  block_goes_on {later} {r} n e = moves (block_moves (e ∙ rw (next_is, ← n) refl))
