-- What the machine over sorts answers is what the grammar says, and the grammar gives one answer.
use mathlib.Core.Path.{◌≡◌, refl, sym, ap, ◌∙◌, subst}
use Prim.Native.Nat.{ℕ, zero, suc, ◌+◌, ◌<◌, ◌≤◌}
use native.Mathlib.Omega.{arith}
use native.Mathlib.Nat.{add-zero}
use mathlib.Core.List.{List, [], ◌∷◌, ◌++◌}
use mathlib.Core.Option.{Option, none, some}
use mathlib.Core.Bool.{Bool, true, false}
use lib.ListN.{length, get_or, take, drop, take-append-drop, length-drop}
use lib.Seq.{take-suc, drop-cons, take_all, length-take-le, drop-length}
use Rattle.definition.specs.Tree.{Row, row, Statements}
use Rattle.definition.specs.Reading.{Part, value, statement, block, case, part_rows, Forest, forest_rows, WellFormedForest, ReadAsForest, ReadAs}
use Rattle.definition.proofs.Steps.{none_some}
use Rattle.definition.proofs.Rows.{value_append, statement_append, block_append}
use Rattle.definition.specs.Reader.{close, read}
use Rattle.definition.proofs.Readings.{forest_read, one_forest}
use Rattle.tree_grammar.specs.Ranges.{in_range, all_in_range}
use Rattle.tree_grammar.specs.Grammar.{Reads, ReadsAsTree, GoodBefore, no_row, RowsAnswer, one_tree, out_of_range, no_parts, remainder}
use Rattle.tree_grammar.specs.Needs.{RowsVerdict, accepted, refused, code_of, at_of}
use Rattle.tree_grammar.specs.Needs.{rows_verdict, sorts_of}
use Rattle.tree_grammar.specs.Needs as goal
use Rattle.tree_grammar.proofs.Upto.{and_both}
use Rattle.tree_grammar.proofs.Sound.{close_sound}
use Rattle.tree_grammar.proofs.Sorts.{sort_step_lem, by_sort}

-- ---- rows one after the other

part_append : (p : Part) (k l : List Row) → part_rows p (k ++ l) ≡ part_rows p k ++ l
part_append (value v) k l = value_append v k l
part_append (statement s) k l = statement_append s k l
part_append (block b) k l = block_append b k l
part_append (case t b) k l = block_append b (row 11 t 0 0 0 0 ∷ k) l

forest_append : (S : Forest) (k l : List Row) → forest_rows S (k ++ l) ≡ forest_rows S k ++ l
forest_append [] k l = refl
forest_append (p ∷ S) k l = ap (forest_rows S) (part_append p k l) ∙ forest_append S (part_rows p k) l

in_front : (k l : List Row) → all_in_range k ≡ true → all_in_range l ≡ true → all_in_range (k ++ l) ≡ true
in_front [] l h q = q
in_front (r ∷ k) l h q = let t : (in_range r ≡ true) × (all_in_range k ≡ true) = and_both _ _ h in rw t.0 (in_front k l t.1 q)

-- ---- a reading and one row more

next_reading : (list : List Row) (r : Row) (S S' : Forest) → in_range r ≡ true → ReadAsForest list S → close r S ≡ some S' → ReadAsForest (list ++ (r ∷ [])) S'
next_reading list r S S' h p e =
    let q : ((after : List Row) → forest_rows S (r ∷ after) ≡ forest_rows S' after) × WellFormedForest S' = close_sound r h S S' p.well_formed e in
    record { well_formed = q.1; same_rows = sym (q.0 []) ∙ (forest_append S [] (r ∷ []) ∙ ap (λ (z : List Row). z ++ (r ∷ [])) p.same_rows) }

-- a list that is read is given back by the reader
reads_back : (list : List Row) (S : Forest) → ReadAsForest list S → read list [] ≡ some S
unfolding read
reads_back list S p = ap (λ (z : List Row). read z []) (sym p.same_rows) ∙ forest_read S p.well_formed []

no_next : (list : List Row) (r : Row) (S : Forest) → ReadAsForest list S → close r S ≡ none → Reads (list ++ (r ∷ [])) → ⊥
unfolding read
no_next list r S p e q =
    none_some (sym nothing ∙ reads_back (list ++ (r ∷ [])) q.forest q.reading)
  where
    nothing : read (list ++ (r ∷ [])) [] ≡ none
    nothing =
        ap (λ (z : List Row). read (z ++ (r ∷ [])) []) (sym p.same_rows)
        ∙ (ap (λ (z : List Row). read z []) (sym (forest_append S [] (r ∷ [])))
        ∙ (forest_read S p.well_formed (r ∷ []) ∙ ap (λ (o : Option Forest). elim o [ none ↦ none | some Z ↦ some Z ]) e))

-- ---- the machine's steps

module _ (r : Row) (rest : List Row) (i : ℕ) (S : Forest) where
  verdict_60 : in_range r ≡ false → rows_verdict (r ∷ rest) i (sorts_of S) ≡ refused 60 i
  unfolding rows_verdict
  verdict_60 e = rw (e, rows_verdict)

  verdict_61 : in_range r ≡ true → close r S ≡ none → rows_verdict (r ∷ rest) i (sorts_of S) ≡ refused 61 i
  unfolding rows_verdict
  verdict_61 e q = rw (e, sort_step_lem r e S, q, rows_verdict)

  verdict_on : (S' : Forest) → in_range r ≡ true → close r S ≡ some S' → rows_verdict (r ∷ rest) i (sorts_of S) ≡ rows_verdict rest (suc i) (sorts_of S')
  unfolding rows_verdict
  verdict_on S' e q = rw (e, sort_step_lem r e S, q, rows_verdict)

-- rows in range that the reader takes, the machine takes
pub machine_runs : (k rest : List Row) (i : ℕ) (S S' : Forest) → all_in_range k ≡ true → read k S ≡ some S' → rows_verdict (k ++ rest) i (sorts_of S) ≡ rows_verdict rest (i + length k) (sorts_of S')
unfolding read
machine_runs [] rest i S S' h e = let q : S ≡ S' = some_forest e in rw (q, add-zero)
  where
    some_forest : some S ≡ some S' → S ≡ S'
    some_forest e = cc
machine_runs (r ∷ k) rest i S S' h e =
    let t : (in_range r ≡ true) × (all_in_range k ≡ true) = and_both _ _ h in
    by (close r S) refl e t.0 (λ S₁ q. machine_runs k rest (suc i) S₁ S' t.1 q)
  where
    by : (o : Option Forest) → close r S ≡ o → elim o [ none ↦ none | some Z ↦ read k Z ] ≡ some S' → in_range r ≡ true
        → ((S₁ : Forest) → read k S₁ ≡ some S' → rows_verdict (k ++ rest) (suc i) (sorts_of S₁) ≡ rows_verdict rest (suc i + length k) (sorts_of S'))
        → rows_verdict (r ∷ (k ++ rest)) i (sorts_of S) ≡ rows_verdict rest (i + suc (length k)) (sorts_of S')
    by none o e h on = absurd (none_some e)
    by (some S₁) o e h on = verdict_on r (k ++ rest) i S S₁ h o ∙ (on S₁ e ∙ ap (λ (z : ℕ). rows_verdict rest z (sorts_of S')) (let z : suc i + length k ≡ i + suc (length k) = omega arith in z))

-- ---- the remainder

-- a reading that is one BLOCK, or is not
data Remains (S : Forest) : Type 0 where
  one_block : (b : Statements) → S ≡ block b ∷ [] → Remains S
  other_parts : goal.remainder (sorts_of S) ≡ refused 62 0 → ((b : Statements) → S ≡ block b ∷ [] → ⊥) → Remains S

remains : (S : Forest) → Remains S
remains [] = other_parts refl (λ b e. absurd (let z : ◌≡◌ {A = ℕ} 0 1 = cc in omega arith))
remains (value v ∷ S) = other_parts refl (λ b e. absurd (let z : ◌≡◌ {A = ℕ} 0 1 = cc in omega arith))
remains (statement s ∷ S) = other_parts (by_sort (λ z. goal.remainder (z ∷ sorts_of S) ≡ refused 62 0) s refl refl) (λ b e. absurd (let z : ◌≡◌ {A = ℕ} 0 1 = cc in omega arith))
remains (block b ∷ []) = one_block b refl
remains (block b ∷ p ∷ S) = other_parts refl (λ c e. absurd (let z : ◌≡◌ {A = ℕ} 0 1 = cc in omega arith))
remains (case t b ∷ S) = other_parts refl (λ c e. absurd (let z : ◌≡◌ {A = ℕ} 0 1 = cc in omega arith))

module _ (list : List Row) where
  tree_forest : (root : Statements) → ReadAs list root → ReadAsForest list (block root ∷ [])
  tree_forest root p = record { well_formed = (p.well_formed, tt); same_rows = p.same_rows }

  forest_tree : (root : Statements) → ReadAsForest list (block root ∷ []) → ReadAs list root
  forest_tree root p = record { well_formed = p.well_formed.0; same_rows = p.same_rows }

  whole : (S : Forest) → ReadAsForest list S → ((b : Statements) → S ≡ block b ∷ [] → ⊥) → ReadsAsTree list → ⊥
  whole S p f t = f t.root (one_forest list S (block t.root ∷ []) p (tree_forest t.root t.reading))

  -- ---- every list has an answer: the machine's

  abbrev Answered : RowsVerdict → Type 0
  Answered v = RowsAnswer list (code_of v) (at_of v)

  at_end : (i : ℕ) (S : Forest) → ReadAsForest list S → all_in_range list ≡ true → Answered (rows_verdict [] i (sorts_of S))
  unfolding rows_verdict
  at_end i S p h = by (remains S)
    where
      by : Remains S → Answered (goal.remainder (sorts_of S))
      by (one_block b e) = subst (λ (Z : Forest). Answered (goal.remainder (sorts_of Z))) (sym e) (one_tree (record { ranged = h; root = b; reading = forest_tree b (subst (ReadAsForest list) e p) }))
      by (other_parts e f) = subst Answered (sym e) (remainder h (record { forest = S; reading = p }) (whole S p f))

  answers : (rest : List Row) (i : ℕ) (S : Forest) → drop i list ≡ rest → i ≤ length list → ReadAsForest (take i list) S
      → all_in_range (take i list) ≡ true → Answered (rows_verdict rest i (sorts_of S))
  answers [] i S e l p h =
      let z : take i list ≡ list = take_all i list (omega (arith, length-drop i list, ap length e)) in
      at_end i S (subst (λ (k : List Row). ReadAsForest k S) z p) (subst (λ (k : List Row). all_in_range k ≡ true) z h)
  answers (r ∷ rest) i S e l p h =
      by (in_range r) refl (close r S) refl (λ S' k q. answers rest (suc i) S' after inside q
      (subst (λ (z : List Row). all_in_range z ≡ true) (sym one_more) (in_front (take i list) (r ∷ []) h (ranged k))))
    where
      inside : i < length list
      inside = let z : length (drop i list) ≡ suc (length rest) = ap length e in omega (arith, length-drop i list)

      split : get_or list i no_row ∷ drop (suc i) list ≡ r ∷ rest
      split = sym (drop-cons list i no_row inside) ∙ e

      here : get_or list i no_row ≡ r
      here = cc split

      after : drop (suc i) list ≡ rest
      after = cc split

      one_more : take (suc i) list ≡ take i list ++ (r ∷ [])
      one_more = take-suc list i no_row inside ∙ ap (λ (z : Row). take i list ++ (z ∷ [])) here

      ranged : in_range r ≡ true → all_in_range (r ∷ []) ≡ true
      ranged k = rw k

      good : GoodBefore list i
      good = record { inside = inside; ranged = h; reads = record { forest = S; reading = p } }

      by : (y : Bool) → in_range r ≡ y → (o : Option Forest) → close r S ≡ o
          → ((S' : Forest) → in_range r ≡ true → ReadAsForest (take (suc i) list) S' → Answered (rows_verdict rest (suc i) (sorts_of S')))
          → Answered (rows_verdict (r ∷ rest) i (sorts_of S))
      by false k o q on = subst Answered (sym (verdict_60 r rest i S k)) (out_of_range i good (ap in_range here ∙ k))
      by true k none q on =
          subst Answered (sym (verdict_61 r rest i S k q)) (no_parts i good (ap in_range here ∙ k) (λ z. no_next (take i list) r S p q (subst Reads one_more z)))
      by true k (some S') q on =
          subst Answered (sym (verdict_on r rest i S S' k q)) (on S' k (subst (λ (z : List Row). ReadAsForest z S') (sym one_more) (next_reading (take i list) r S S' k p q)))

  pub machine_answers : RowsAnswer list (code_of (rows_verdict list 0 [])) (at_of (rows_verdict list 0 []))
  machine_answers = answers list 0 [] refl (omega arith) (record { well_formed = tt; same_rows = refl }) refl

  -- ---- and no other

  machine_after : (i : ℕ) (S : Forest) → i ≤ length list → all_in_range (take i list) ≡ true → ReadAsForest (take i list) S → rows_verdict list 0 [] ≡ rows_verdict (drop i list) i (sorts_of S)
  machine_after i S l h p =
      ap (λ (z : List Row). rows_verdict z 0 []) (sym (take-append-drop i list))
      ∙ (machine_runs (take i list) (drop i list) 0 [] S h (reads_back (take i list) S p)
      ∙ ap (λ (z : ℕ). rows_verdict (drop i list) z (sorts_of S)) (let z : 0 + length (take i list) ≡ i = omega (arith, length-take-le i list l) in z))

  machine_whole : (S : Forest) → all_in_range list ≡ true → ReadAsForest list S → rows_verdict list 0 [] ≡ goal.remainder (sorts_of S)
  unfolding rows_verdict
  machine_whole S h p =
      let z : take (length list) list ≡ list = take_all (length list) list (omega arith) in
      let e : drop (length list) list ≡ [] = drop-length list in
      machine_after (length list) S (omega arith) (rw z h) (rw z p) ∙ ap (λ (k : List Row). rows_verdict k (length list) (sorts_of S)) e

  module _ (i : ℕ) (g : GoodBefore list i) where
    before : Forest
    before = g.reads.forest

    here : rows_verdict list 0 [] ≡ rows_verdict (get_or list i no_row ∷ drop (suc i) list) i (sorts_of g.reads.forest)
    here =
        machine_after i g.reads.forest (omega (arith, g.inside)) g.ranged g.reads.reading ∙ ap
        (λ (k : List Row). rows_verdict k i (sorts_of g.reads.forest)) (drop-cons list i no_row g.inside)

  -- the verdict of a code and a place
  abbrev pub verdict_of : (code at : ℕ) → RowsVerdict
  verdict_of zero at = accepted
  verdict_of (suc code) at = refused (suc code) at

  pub answer_is : {code at : ℕ} → RowsAnswer list code at → rows_verdict list 0 [] ≡ verdict_of code at
  answer_is (one_tree t) = machine_whole (block t.root ∷ []) t.ranged (tree_forest t.root t.reading)
  answer_is (out_of_range i g e) = here i g ∙ verdict_60 (get_or list i no_row) (drop (suc i) list) i g.reads.forest e
  answer_is (no_parts i g e f) = here i g ∙ by (close (get_or list i no_row) g.reads.forest) refl
    where
      by : (o : Option Forest) → close (get_or list i no_row) g.reads.forest ≡ o → rows_verdict (get_or list i no_row ∷ drop (suc i) list) i (sorts_of g.reads.forest) ≡ refused 61 i
      by none q = verdict_61 (get_or list i no_row) (drop (suc i) list) i g.reads.forest e q
      by (some S') q =
          absurd (f (subst Reads (sym (take-suc list i no_row g.inside))
          (record { forest = S'; reading = next_reading (take i list) (get_or list i no_row) g.reads.forest S' e g.reads.reading q })))
  answer_is (remainder h r f) = machine_whole r.forest h r.reading ∙ by (remains r.forest)
    where
      by : Remains r.forest → goal.remainder (sorts_of r.forest) ≡ refused 62 0
      by (one_block b e) = absurd (f (record { ranged = h; root = b; reading = forest_tree b (subst (ReadAsForest list) e r.reading) }))
      by (other_parts e n) = e

  pub code_is : (code at : ℕ) → code_of (verdict_of code at) ≡ code
  code_is zero at = refl
  code_is (suc code) at = refl

  -- accepted means one tree, and one tree is accepted
  pub accepts : ReadsAsTree list → rows_verdict list 0 [] ≡ accepted
  accepts t = answer_is (one_tree t)

  pub accepted_tree : rows_verdict list 0 [] ≡ accepted → ReadsAsTree list
  accepted_tree e = by (subst Answered e machine_answers) refl
    where
      by : {code at : ℕ} → RowsAnswer list code at → code ≡ 0 → ReadsAsTree list
      by (one_tree t) z = t
      by (out_of_range i g q) z = absurd (omega arith)
      by (no_parts i g q f) z = absurd (omega arith)
      by (remainder h r f) z = absurd (omega arith)

-- one list has one answer
pub at_is : (list : List Row) {code at : ℕ} → RowsAnswer list code at → at_of (verdict_of list code at) ≡ at
at_is list (one_tree t) = refl
at_is list (out_of_range i g e) = refl
at_is list (no_parts i g e f) = refl
at_is list (remainder h r f) = refl

pub one_answer : (list : List Row) (code at code' at' : ℕ) → RowsAnswer list code at → RowsAnswer list code' at' → (code ≡ code') × (at ≡ at')
one_answer list code at code' at' p q =
    let e : verdict_of list code at ≡ verdict_of list code' at' = sym (answer_is list p) ∙ answer_is list q in
    (sym (code_is list code at) ∙ (ap code_of e ∙ code_is list code' at'), sym (at_is list p) ∙ (ap at_of e ∙ at_is list q))
