-- The layout that the runner reads off rows and four links a row. Rows are in postorder: the last part of row k closes at row k - 1, the part before it at
-- the row before that part's first; so `begin` gives the parts from the last back, and only what lies ahead (parent, next, child) has to be kept as well.
use Rattle.std.specs.Prelude.{◌≡◌, ℕ, zero, suc, ◌-◌, List, [], ◌∷◌, ◌++◌, Bool, true, false, get_or, eqb}
use Rattle.std.proofs.Math.Option.{Option, none, some}
use Rattle.table.specs.Table.{unless_none}
use Rattle.definition.specs.Tree.{Kind, implicit, labeled, unlabeled, Row, row}
use Rattle.definition.specs.Run.{returned, threw, not_plain}
use Rattle.definition.specs.Completion.{Completion, normal, break, continue, stop}
use Rattle.tree_runs.specs.Layout.{Node, an_instr, a_block, an_if, a_case, a_switch, a_loop, a_label, a_scope, a_leaf, Layout}

pub record Links : Type 0 where
  -- the first row of the part that closes here
  pub begin : ℕ → ℕ
  -- the closing row of what it is a part of
  pub parent : ℕ → ℕ
  -- the closing row of the part after it, if there is one
  pub next : ℕ → Option ℕ
  -- the closing row of its first part, if it has any
  pub child : ℕ → Option ℕ

abbrev pub before : ℕ → ℕ
before zero = zero
before (suc n) = n

-- one more, where a row's flag says that it is present
abbrev pub flagged : (flag count : ℕ) → ℕ
flagged zero count = count
flagged (suc n) count = suc count

-- how many parts a row takes, by its op
abbrev pub parts_by_op : (a b c : ℕ) → List ℕ
parts_by_op a b c =
    0 ∷ 0 ∷ 0 ∷ 0 ∷ 1 ∷ suc a ∷ 2 ∷ 3 ∷ 1 ∷ a ∷ flagged b 1 ∷ 1 ∷ b ∷ 2 ∷ 2 ∷ flagged c 3 ∷ 3 ∷ 2 ∷ 1 ∷ 2 ∷ 1 ∷ 1 ∷ 0 ∷ 0 ∷ 0 ∷ 0 ∷ []

unfoldable pub parts_of : Row → ℕ
parts_of (row op a b c d e) = get_or (parts_by_op a b c) op 0

-- `count` parts of row k, from the last back: the last of them closes just before the row `cursor`, and `later` comes after it
pub data Parts (t : Links) (k : ℕ) : (count cursor : ℕ) (later : Option ℕ) → Type 0 where
  no_part : {cursor : ℕ} {later : Option ℕ} → t.begin k ≡ cursor → t.child k ≡ later → Parts t k 0 cursor later
  a_part : {count m : ℕ} {later : Option ℕ} → t.parent m ≡ k → t.next m ≡ later → Parts t k count (t.begin m) (some m) → Parts t k (suc count) (suc m) later

-- the links of a row's parts
abbrev pub Linked : (row_at : ℕ → Row) → Links → ℕ → Type 0
Linked row_at t k = Parts t k (parts_of (row_at k)) k none

-- ---- the layout

abbrev pub is_plain : Row → Bool
is_plain (row op a b c d e) = eqb op 1

-- the PLAINs among the `count` rows from f on
unfoldable pub plains_from : (row_at : ℕ → Row) → (f count : ℕ) → List ℕ
plains_from row_at f zero = []
plains_from row_at f (suc count) = elim (is_plain (row_at f)) [ true ↦ f ∷ plains_from row_at (suc f) count | false ↦ plains_from row_at (suc f) count ]

-- those from f on and before e
abbrev pub plains : (row_at : ℕ → Row) → (f e : ℕ) → List ℕ
plains row_at f e = plains_from row_at f (e - f)

abbrev pub kind_of : ℕ → Kind
kind_of zero = implicit
kind_of (suc zero) = labeled
kind_of (suc (suc n)) = unlabeled

-- `jump_completion` of a target that may be none
abbrev pub jump_as : Kind → (target : Option ℕ) → (id : ℕ) → (Option ℕ → ℕ → Completion) → Completion
jump_as implicit target id jump = normal
jump_as unlabeled target id jump = jump none id
jump_as labeled target id jump = jump target id

-- the cases of a switch, in source order: from the last row back
abbrev pub cases_back : Links → (count m : ℕ) → (later : List ℕ) → List ℕ
cases_back t zero m later = later
cases_back t (suc count) m later = m ∷ cases_back t count (before (t.begin m)) later

abbrev pub if_node : (begin : ℕ → ℕ) → (k present : ℕ) → Option ℕ → Node
if_node begin k zero label = an_if label (before k) none
if_node begin k (suc n) label = an_if label (before (begin (before k))) (some (before k))

-- of a FOR: the row after the test, and the test's first row
abbrev pub test_end : (begin : ℕ → ℕ) → (k present : ℕ) → ℕ
test_end begin k zero = begin (before k)
test_end begin k (suc n) = begin (before (begin (before k)))

-- its update, and its test again
abbrev pub for_again : (ℕ → Row) → (begin : ℕ → ℕ) → (k present : ℕ) → List ℕ
for_again row_at begin k present = plains row_at (test_end begin k present) (begin (before k)) ++ plains row_at (begin (before (test_end begin k present))) (test_end begin k present)

abbrev pub for_node : (ℕ → Row) → Links → (k present : ℕ) → Option ℕ → Node
for_node row_at t k present label =
    a_loop label (some (plains row_at (t.begin k) (test_end t.begin k present))) (for_again row_at t.begin k present) (before k)

abbrev pub nodes_by_op : (ℕ → Row) → Links → (k a b c d : ℕ) → List Node
nodes_by_op row_at t k a b c d =
    a_leaf (stop not_plain)
    ∷ a_leaf (stop not_plain)
    ∷ a_leaf (stop not_plain)
    ∷ a_leaf (stop not_plain)
    ∷ an_instr (plains row_at (t.begin k) k)
    ∷ a_leaf (stop not_plain)
    ∷ a_leaf (stop not_plain)
    ∷ a_leaf (stop not_plain)
    ∷ a_leaf (stop not_plain)
    ∷ a_block (t.child k)
    ∷ if_node t.begin k b (unless_none d)
    ∷ a_case (before k)
    ∷ a_switch (unless_none d) (cases_back t b (before k) [])
    ∷ a_loop (unless_none b) none (plains row_at (t.begin (before k)) k) (before (t.begin (before k)))
    ∷ a_loop (unless_none b) (some (plains row_at (t.begin k) (t.begin (before k)))) (plains row_at (t.begin k) (t.begin (before k))) (before k)
    ∷ for_node row_at t k c (unless_none b)
    ∷ a_leaf (stop not_plain)
    ∷ a_leaf (stop not_plain)
    ∷ a_label (unless_none b) (before k)
    ∷ a_leaf (stop not_plain)
    ∷ a_scope (before k)
    ∷ a_scope (before k)
    ∷ a_leaf (stop (returned a b))
    ∷ a_leaf (stop (threw a b))
    ∷ a_leaf (jump_as (kind_of c) (unless_none a) k break)
    ∷ a_leaf (jump_as (kind_of c) (unless_none a) k continue)
    ∷ []

unfoldable pub node_of : (ℕ → Row) → Links → ℕ → Row → Node
node_of row_at t k (row op a b c d e) = get_or (nodes_by_op row_at t k a b c d) op (a_leaf (stop not_plain))

-- the next case in source order closes before this one begins
abbrev pub case_before : (begin outer : ℕ) → Option ℕ
case_before begin outer = elim (eqb begin outer) [ true ↦ none | false ↦ some (before begin) ]

abbrev pub is_case : Row → Bool
is_case (row op a b c d e) = eqb op 11

unfoldable pub next_of : Links → ℕ → Row → Option ℕ
next_of t k r = elim (is_case r) [ true ↦ case_before (t.begin k) (t.begin (t.parent k)) | false ↦ t.next k ]

unfoldable pub parent_of : Links → (number k : ℕ) → Option ℕ
parent_of t number k = elim (eqb (suc k) number) [ true ↦ none | false ↦ some (t.parent k) ]

-- the layout of `number` rows
abbrev pub layout_of : (row_at : ℕ → Row) → Links → (number : ℕ) → Layout
layout_of row_at t number = record { node = λ k. node_of row_at t k (row_at k); parent = λ k. parent_of t number k; next = λ k. next_of t k (row_at k) }

-- ---- how the links are made: row by row, and of a row from its last part back

unfoldable pub put : {A : Type 0} → (ℕ → A) → (i : ℕ) (v : A) → ℕ → A
put f i v j = elim (eqb j i) [ true ↦ v | false ↦ f j ]

-- m is a part of row k, and `later` comes after it
abbrev pub with_part : Links → (k m : ℕ) (later : Option ℕ) → Links
with_part t k m later = record { begin = t.begin; parent = put t.parent m k; next = put t.next m later; child = t.child }

-- `later` is the first part of row k
abbrev pub with_row : Links → (k : ℕ) (later : Option ℕ) → Links
with_row t k later = record { begin = t.begin; parent = t.parent; next = t.next; child = put t.child k later }
