-- The rows of a part, put out behind what is out already: what the walk has out when it closes a statement is that statement's rows. For the proofs of crate walk.
use mathlib.Core.Path.{◌≡◌, refl, sym, ap, ◌∙◌}
use Prim.Native.Nat.{ℕ, suc, ◌+◌}
use native.Mathlib.Nat.{zero-add, suc-add}
use native.Mathlib.Omega.{arith}
use mathlib.Core.List.{List, [], ◌∷◌, ◌++◌, append_assoc}
use mathlib.Core.Option.{Option, none, some}
use mathlib.Core.Bool.{Bool, true, false}
use lib.ListN.{length}
use Rattle.table.specs.declared.columns.Span.{Span}
use Rattle.table.specs.Table.{Table, instruction_at}
use Rattle.definition.specs.Put.{statements_out, cases_out}
use Rattle.definition.specs.Output.{value_out, update_out, statement_out, instructions_out, block_row, jump_out, added, scope_row}
use Rattle.definition.specs.Statement.{instruction_statements, followed_by}
use Rattle.definition.specs.Tree.{Value, PLAIN, LOAD, UNDEF, SEQ, LOGICAL, COND, OPTIONAL, Instructions, no_instructions, instruction, Statement, INSTR, instr_row, for_of_row, for_in_row}
use Rattle.definition.specs.Tree.{IF, SWITCH, DOWHILE, WHILE, FOR, FOROF, FORIN, LABEL, TRY, SCOPE, RETURN, THROW, BREAK, CONTINUE, Statements, done, ◌▸◌}
use Rattle.definition.specs.Tree.{Cases, no_cases, CASE, Row, row, value_rows, instructions_rows, update_rows, statement_rows, statements_rows, block_rows}
use Rattle.definition.specs.Tree.{cases_rows, count_statements, count_instructions, count_cases, or_none, update_present, instr_row, for_of_row, for_in_row}

-- ---- the rows of a part and then others

mutual
  pub value_append : (v : Value) (k l : List Row) → value_rows v (k ++ l) ≡ value_rows v k ++ l
  value_append (PLAIN r) k l = refl
  value_append (LOAD p) k l = refl
  value_append (UNDEF s) k l = refl
  value_append (SEQ is i v) k l =
      ap (instructions_rows is) (value_append v (row 5 (count_instructions is) i 0 0 0 ∷ k) l) ∙ instructions_append is
      (value_rows v (row 5 (count_instructions is) i 0 0 0 ∷ k)) l
  value_append (LOGICAL o x y) k l = ap (value_rows x) (value_append y (row 6 o 0 0 0 0 ∷ k) l) ∙ value_append x (value_rows y (row 6 o 0 0 0 0 ∷ k)) l
  value_append (COND x y z) k l =
      ap (λ (r : List Row). value_rows x (value_rows y r)) (value_append z (row 7 0 0 0 0 0 ∷ k) l)
      ∙ ap (value_rows x) (value_append y (value_rows z (row 7 0 0 0 0 0 ∷ k)) l) ∙ value_append x (value_rows y (value_rows z (row 7 0 0 0 0 0 ∷ k))) l
  value_append (OPTIONAL f v) k l = value_append v (row 8 f 0 0 0 0 ∷ k) l

  instructions_append : (is : Instructions) (k l : List Row) → instructions_rows is (k ++ l) ≡ instructions_rows is k ++ l
  instructions_append no_instructions k l = refl
  instructions_append (instruction i p s v r) k l =
      ap (λ (z : List Row). value_rows v (instr_row i p s ∷ z)) (instructions_append r k l) ∙ value_append v (instr_row i p s ∷ instructions_rows r k) l

pub update_append : (v : Option Value) (k l : List Row) → update_rows v (k ++ l) ≡ update_rows v k ++ l
update_append none k l = refl
update_append (some v) k l = value_append v k l

mutual
  pub statement_append : (s : Statement) (k l : List Row) → statement_rows s (k ++ l) ≡ statement_rows s k ++ l
  statement_append (INSTR i p s v) k l = value_append v (instr_row i p s ∷ k) l
  statement_append (IF x i g c true a) k l =
      ap (block_rows c) (block_append a (row 10 x 1 i (or_none g) 0 ∷ k) l) ∙ block_append c (block_rows a (row 10 x 1 i (or_none g) 0 ∷ k)) l
  statement_append (IF x i g c false a) k l = block_append c (row 10 x 0 i (or_none g) 0 ∷ k) l
  statement_append (SWITCH x i g cs) k l = cases_append cs (row 12 x (count_cases cs) i (or_none g) 0 ∷ k) l
  statement_append (DOWHILE i g b v) k l =
      ap (block_rows b) (value_append v (row 13 i (or_none g) 0 0 0 ∷ k) l) ∙ block_append b (value_rows v (row 13 i (or_none g) 0 0 0 ∷ k)) l
  statement_append (WHILE i g v b) k l =
      ap (value_rows v) (block_append b (row 14 i (or_none g) 0 0 0 ∷ k) l) ∙ value_append v (block_rows b (row 14 i (or_none g) 0 0 0 ∷ k)) l
  statement_append (FOR i g n v u b) k l =
      ap (λ (z : List Row). value_rows n (value_rows v (update_rows u z))) (block_append b (row 15 i (or_none g) (update_present u) 0 0 ∷ k) l)
      ∙ ap (λ (z : List Row). value_rows n (value_rows v z)) (update_append u (block_rows b (row 15 i (or_none g) (update_present u) 0 0 ∷ k)) l)
      ∙ ap (value_rows n) (value_append v (update_rows u (block_rows b (row 15 i (or_none g) (update_present u) 0 0 ∷ k))) l)
      ∙ value_append n (value_rows v (update_rows u (block_rows b (row 15 i (or_none g) (update_present u) 0 0 ∷ k)))) l
  statement_append (FOROF i g s n v b) k l =
      ap (λ (z : List Row). value_rows n (value_rows v z)) (block_append b (for_of_row i (or_none g) s ∷ k) l)
      ∙ ap (value_rows n) (value_append v (block_rows b (for_of_row i (or_none g) s ∷ k)) l)
      ∙ value_append n (value_rows v (block_rows b (for_of_row i (or_none g) s ∷ k))) l
  statement_append (FORIN i g s n b) k l =
      ap (value_rows n) (block_append b (for_in_row i (or_none g) s ∷ k) l) ∙ value_append n (block_rows b (for_in_row i (or_none g) s ∷ k)) l
  statement_append (LABEL i g b) k l = block_append b (row 18 i (or_none g) 0 0 0 ∷ k) l
  statement_append (TRY i g n b h) k l =
      ap (block_rows b) (block_append h (row 19 i (or_none g) (or_none n) 0 0 ∷ k) l) ∙ block_append b (block_rows h (row 19 i (or_none g) (or_none n) 0 0 ∷ k)) l
  statement_append (SCOPE true s b) k l = block_append b (row 21 s 0 0 0 0 ∷ k) l
  statement_append (SCOPE false s b) k l = block_append b (row 20 s 0 0 0 0 ∷ k) l
  statement_append (RETURN v i) k l = refl
  statement_append (THROW v i) k l = refl
  statement_append (BREAK g i d n) k l = refl
  statement_append (CONTINUE g i d n) k l = refl

  statements_append : (s : Statements) (k l : List Row) → statements_rows s (k ++ l) ≡ statements_rows s k ++ l
  statements_append done k l = refl
  statements_append (s ▸ r) k l = ap (statement_rows s) (statements_append r k l) ∙ statement_append s (statements_rows r k) l

  pub block_append : (s : Statements) (k l : List Row) → block_rows s (k ++ l) ≡ block_rows s k ++ l
  block_append done k l = refl
  block_append (s ▸ r) k l =
      ap (statement_rows s) (statements_append r (row 9 (suc (count_statements r)) 0 0 0 0 ∷ k) l) ∙ statement_append s (statements_rows r (row 9 (suc (count_statements r)) 0 0 0 0 ∷ k)) l

  pub cases_append : (s : Cases) (k l : List Row) → cases_rows s (k ++ l) ≡ cases_rows s k ++ l
  cases_append no_cases k l = refl
  cases_append (CASE x b r) k l = ap (λ (z : List Row). block_rows b (row 11 x 0 0 0 0 ∷ z)) (cases_append r k l) ∙ block_append b (row 11 x 0 0 0 0 ∷ cases_rows r k) l

-- ---- a part put out behind R, and then the rows k

-- a nested list and its BLOCK row
abbrev pub block_out : List Row → Statements → List Row
block_out R s = (R ++ statements_out s) ++ (block_row (count_statements s) ∷ [])

value_out_lem : (R : List Row) (v : Value) (k : List Row) → (R ++ value_out v) ++ k ≡ R ++ value_rows v k
unfolding value_out
value_out_lem R v k = append_assoc R (value_out v) k ∙ ap (λ (z : List Row). R ++ z) (sym (value_append v [] k))

update_out_lem : (R : List Row) (u : Option Value) (k : List Row) → (R ++ update_out u) ++ k ≡ R ++ update_rows u k
unfolding update_out
update_out_lem R none k = append_assoc R [] k
update_out_lem R (some v) k = value_out_lem R v k

cases_out_lem : (R : List Row) (cs : Cases) (k : List Row) → (R ++ cases_out cs) ++ k ≡ R ++ cases_rows cs k
unfolding cases_out
cases_out_lem R cs k = append_assoc R (cases_out cs) k ∙ ap (λ (z : List Row). R ++ z) (sym (cases_append cs [] k))

pub block_rows_lem : (s : Statements) (k : List Row) → block_rows s k ≡ statements_out s ++ (block_row (count_statements s) ∷ k)
unfolding statements_out
block_rows_lem done k = refl
block_rows_lem (s ▸ rest) k = statements_append (s ▸ rest) [] (block_row (suc (count_statements rest)) ∷ k)

pub block_split : (b : Statements) (k : List Row) → block_rows b k ≡ block_rows b [] ++ k
block_split b k = block_rows_lem b k ∙ sym (append_assoc (statements_out b) (block_row (count_statements b) ∷ []) k) ∙ ap (λ (z : List Row). z ++ k) (sym (block_rows_lem b []))

pub block_out_lem : (R : List Row) (s : Statements) (k : List Row) → block_out R s ++ k ≡ R ++ block_rows s k
block_out_lem R s k = simp append_assoc (ap (λ (z : List Row). R ++ z) (sym (block_rows_lem s k)))

-- ---- what is out when a statement is closed

pub rows_if : (R : List Row) (x id : ℕ) (g : Option ℕ) (c a : Statements) → block_out R c ++ (row 10 x 0 id (or_none g) 0 ∷ []) ≡ R ++ statement_out (IF x id g c false a)
unfolding statement_out
rows_if R x id g c a = block_out_lem R c _

pub rows_else : (R : List Row) (x id : ℕ) (g : Option ℕ) (c a : Statements) → block_out (block_out R c) a ++ (row 10 x 1 id (or_none g) 0 ∷ []) ≡ R ++ statement_out (IF x id g c true a)
unfolding statement_out
rows_else R x id g c a = block_out_lem (block_out R c) a _ ∙ block_out_lem R c _

pub rows_do_while : (R : List Row) (id : ℕ) (g : Option ℕ) (b : Statements) (v : Value) → (block_out R b ++ value_out v) ++ (row 13 id (or_none g) 0 0 0 ∷ []) ≡ R ++ statement_out (DOWHILE id g b v)
unfolding statement_out
rows_do_while R id g b v = value_out_lem (block_out R b) v _ ∙ block_out_lem R b _

pub rows_while : (R : List Row) (id : ℕ) (g : Option ℕ) (v : Value) (b : Statements) → block_out (R ++ value_out v) b ++ (row 14 id (or_none g) 0 0 0 ∷ []) ≡ R ++ statement_out (WHILE id g v b)
unfolding statement_out
rows_while R id g v b = block_out_lem (R ++ value_out v) b _ ∙ value_out_lem R v _

pub rows_for : (R : List Row) (id : ℕ) (g : Option ℕ) (n v : Value) (u : Option Value) (b : Statements)
    → block_out (((R ++ value_out n) ++ value_out v) ++ update_out u) b ++ (row 15 id (or_none g) (update_present u) 0 0 ∷ []) ≡ R ++ statement_out (FOR id g n v u b)
unfolding statement_out
rows_for R id g n v u b =
    block_out_lem (((R ++ value_out n) ++ value_out v) ++ update_out u) b _ ∙ update_out_lem ((R ++ value_out n) ++ value_out v) u _
    ∙ value_out_lem (R ++ value_out n) v _ ∙ value_out_lem R n _

pub rows_for_of : (R : List Row) (id : ℕ) (g : Option ℕ) (s : Span) (n v : Value) (b : Statements)
    → block_out ((R ++ value_out n) ++ value_out v) b ++ (for_of_row id (or_none g) s ∷ []) ≡ R ++ statement_out (FOROF id g s n v b)
unfolding statement_out
rows_for_of R id g s n v b = block_out_lem ((R ++ value_out n) ++ value_out v) b _ ∙ value_out_lem (R ++ value_out n) v _ ∙ value_out_lem R n _

pub rows_for_in : (R : List Row) (id : ℕ) (g : Option ℕ) (s : Span) (n : Value) (b : Statements)
    → block_out (R ++ value_out n) b ++ (for_in_row id (or_none g) s ∷ []) ≡ R ++ statement_out (FORIN id g s n b)
unfolding statement_out
rows_for_in R id g s n b = block_out_lem (R ++ value_out n) b _ ∙ value_out_lem R n _

pub rows_label : (R : List Row) (id : ℕ) (g : Option ℕ) (b : Statements) → block_out R b ++ (row 18 id (or_none g) 0 0 0 ∷ []) ≡ R ++ statement_out (LABEL id g b)
unfolding statement_out
rows_label R id g b = block_out_lem R b _

pub rows_try : (R : List Row) (id : ℕ) (g n : Option ℕ) (b h : Statements) → block_out (block_out R b) h ++ (row 19 id (or_none g) (or_none n) 0 0 ∷ []) ≡ R ++ statement_out (TRY id g n b h)
unfolding statement_out
rows_try R id g n b h = block_out_lem (block_out R b) h _ ∙ block_out_lem R b _

pub rows_scope : (R : List Row) (p : Bool) (s : ℕ) (b : Statements) → block_out R b ++ (scope_row p s ∷ []) ≡ R ++ statement_out (SCOPE p s b)
unfolding statement_out
rows_scope R true s b = block_out_lem R b _
rows_scope R false s b = block_out_lem R b _

pub rows_value : (R : List Row) (i l : ℕ) (s : Span) (v : Value) → (R ++ value_out v) ++ (instr_row i l s ∷ []) ≡ R ++ statement_out (INSTR i l s v)
unfolding statement_out
rows_value R i l s v = value_out_lem R v _

pub rows_case : (R : List Row) (x : ℕ) (b : Statements) (r : Cases) → R ++ cases_out (CASE x b r) ≡ (block_out R b ++ (row 11 x 0 0 0 0 ∷ [])) ++ cases_out r
unfolding cases_out
rows_case R x b r = sym (append_assoc (block_out R b) (row 11 x 0 0 0 0 ∷ []) (cases_rows r []) ∙ block_out_lem R b (row 11 x 0 0 0 0 ∷ cases_rows r []))

pub rows_switch : (R : List Row) (x id : ℕ) (g : Option ℕ) (cs : Cases) → (R ++ cases_out cs) ++ (row 12 x (count_cases cs) id (or_none g) 0 ∷ []) ≡ R ++ statement_out (SWITCH x id g cs)
unfolding statement_out
rows_switch R x id g cs = cases_out_lem R cs _

-- ---- a block: its instructions, its statement, if it has one, and the statements after it

instructions_count : (t : Table) (rs : List ℕ) (s : Statements) → count_statements (instruction_statements t rs s) ≡ length rs + count_statements s
unfolding instruction_statements
instructions_count t [] s = sym (zero-add (count_statements s))
instructions_count t (r ∷ rs) s = ap suc (instructions_count t rs s) ∙ sym (suc-add (length rs) (count_statements s))

instructions_out_lem : (t : Table) (rs : List ℕ) (s : Statements) → statements_out (instruction_statements t rs s) ≡ instructions_out t rs ++ statements_out s
unfolding instruction_statements statements_out instructions_out
instructions_out_lem t [] s = refl
instructions_out_lem t (r ∷ rs) s =
    ap (λ (z : List Row). row 1 r 0 0 0 0 ∷ instr_row (instruction_at t r).id (instruction_at t r).lvalue (instruction_at t r).span ∷ z) (instructions_out_lem t rs s)

followed_out : (o : Option Statement) (s : Statements) → statements_out (followed_by o s) ≡ jump_out o ++ statements_out s
unfolding statements_out statement_out
followed_out none s = refl
followed_out (some x) s = statement_append x [] (statements_rows s [])

-- a list of no statement or of one
pub rows_single : (R : List Row) (o : Option Statement) → (R ++ jump_out o) ++ (block_row (added o 0) ∷ []) ≡ block_out R (followed_by o done)
unfolding statements_out statement_out
rows_single R none = refl
rows_single R (some s) = refl

pub rows_chain : (R : List Row) (t : Table) (rs : List ℕ) (o : Option Statement) (s : Statements)
    → R ++ statements_out (instruction_statements t rs (followed_by o s)) ≡ ((R ++ instructions_out t rs) ++ jump_out o) ++ statements_out s
rows_chain R t rs o s = ap (λ (z : List Row). R ++ z) (instructions_out_lem t rs (followed_by o s) ∙ ap (λ (z : List Row). instructions_out t rs ++ z) (followed_out o s)) ∙ sym (simp append_assoc)

pub count_chain : (m : ℕ) (t : Table) (rs : List ℕ) (o : Option Statement) (s : Statements)
    → m + count_statements (instruction_statements t rs (followed_by o s)) ≡ added o (m + length rs) + count_statements s
count_chain m t rs none s = omega (arith, instructions_count t rs s)
count_chain m t rs (some x) s = omega (arith, instructions_count t rs (x ▸ s))
