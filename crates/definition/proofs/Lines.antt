-- M-101: the lines of a part, put out behind what is out already, beside the rows of proofs/Rows. For the proofs of crate walk.
use mathlib.Core.Path.{◌≡◌, refl, sym, ap, ◌∙◌}
use Prim.Native.Nat.{ℕ, ◌+◌, ◌-◌}
use native.Mathlib.Omega.{arith}
use mathlib.Core.List.{List, [], ◌∷◌, ◌++◌, append_assoc, append-nil, map, map-append}
use mathlib.Core.Option.{Option, none, some}
use mathlib.Core.Bool.{Bool, true, false}
use lib.ListN.{length, length-append}
use Rattle.table.specs.Table.{Table}
use Rattle.table.specs.declared.columns.Span.{Span}
use Rattle.definition.specs.Around.{Around}
use Rattle.definition.specs.Context.{has, Context, Resolution, get_break_target, get_continue_target}
use Rattle.definition.specs.Index.{label_of, rows_in, Labelled, labelled_by, in_parts, in_list, in_cases, Line, line_of}
use Rattle.definition.specs.Output.{Output, ◌⊕◌, line_out, value_out, update_out, statement_out, instructions_out, block_row, jump_out, added, scope_row}
use Rattle.definition.specs.Statement.{break_to_scope, break_resolved, visit_break, continue_resolved, visit_continue, instruction_statements, followed_by}
use Rattle.definition.specs.Tree.{Kind, implicit, labeled, unlabeled, Value, Statement, INSTR, IF, SWITCH, DOWHILE, WHILE, FOR, FOROF, FORIN, LABEL, TRY}
use Rattle.definition.specs.Tree.{SCOPE, RETURN, THROW, Statements, done, Cases, no_cases, CASE, Row, row, value_rows, update_rows, statement_rows}
use Rattle.definition.specs.Tree.{block_rows, instr_row, for_of_row, for_in_row, count_cases, or_none, update_present}
use Rattle.definition.proofs.Steps.{Good, good_unless, good_pick}
use Rattle.definition.specs.Put.{lines_in, lines_of, list_put, block_put, cases_put, statement_put, step_put, statements_out, cases_out}
use Rattle.definition.proofs.Rows.{block_out, block_out_lem, rows_if, rows_else, rows_do_while, rows_while, rows_for, rows_for_of}
use Rattle.definition.proofs.Rows.{rows_for_in, rows_label, rows_try, rows_scope, rows_value, rows_single, rows_case, rows_switch, rows_chain}

-- ---- rows behind what is out

pub output_eq : {R S : Output} → R.rows ≡ S.rows → R.lines ≡ S.lines → R ≡ S
output_eq {R} {S} e f = ap (λ (z : List Row). record { rows = z; lines = R.lines }) e ∙ ap (λ (z : List Line). record { rows = S.rows; lines = z }) f

-- no rows more
pub out_nil : (R : Output) → R ⊕ [] ≡ R
out_nil R = output_eq (append-nil R.rows) refl

-- ---- a statement with no line

abbrev pub Unlined : Statement → Type 0
Unlined s = (label_of s ≡ none) × ((n : ℕ) → in_parts n s ≡ [])

abbrev pub UnlinedStep : Option Statement → Type 0
UnlinedStep none = Unit {0}
UnlinedStep (some s) = Unlined s

pub unlined_none : (s : Statement) → Unlined s → (n : ℕ) → in_parts n s ++ labelled_by (label_of s) n s ≡ []
unlined_none s u n = ap (λ (z : List Labelled). z ++ labelled_by (label_of s) n s) (u.1 n) ∙ ap (λ (g : Option ℕ). labelled_by g n s) u.0

pub break_unlined : (o : Around) (at b i : ℕ) (c : Context) → Good UnlinedStep (visit_break o at b i c)
unfolding visit_break
break_unlined o at b i c = by (get_break_target c b)
  where
    scope_unlined : (k : Kind) → Good UnlinedStep (break_to_scope k at c.visits)
    scope_unlined implicit = unfold break_to_scope in tt
    scope_unlined labeled = unfold break_to_scope in tt
    scope_unlined unlabeled = unfold break_to_scope in tt

    by : (r : Option Resolution) → Good UnlinedStep (break_resolved o at b i c r)
    by none = unfold break_resolved in tt
    by (some r) =
        unfold break_resolved in_list in good_pick UnlinedStep (has c.scope_fallthroughs r.target) _ _ (scope_unlined r.kind)
        (good_unless UnlinedStep _ 29 at c.visits _ (λ _. (refl, λ n. refl)))

pub continue_unlined : (o : Around) (at b i : ℕ) (c : Context) → Good Unlined (visit_continue o at b i c)
unfolding visit_continue
continue_unlined o at b i c = by (get_continue_target c b)
  where
    by : (r : Option Resolution) → Good Unlined (continue_resolved o at b i c r)
    by none = unfold continue_resolved in tt
    by (some r) = unfold continue_resolved in_list in good_unless Unlined _ 29 at c.visits _ (λ _. (refl, λ n. refl))

pub unlined_put : (R : Output) (S : List Row) (s : Statement) → R.rows ++ S ≡ R.rows ++ statement_out s → Unlined s → R ⊕ S ≡ statement_put R s
unlined_put R S s e u = output_eq e (sym (ap (λ (z : List Labelled). R.lines ++ map line_of z) (unlined_none s u (length R.rows)) ∙ append-nil R.lines))

pub unlined_step : (R : Output) (o : Option Statement) → UnlinedStep o → R ⊕ jump_out o ≡ step_put R o
unlined_step R none u = refl
unlined_step R (some s) u = unlined_put R (statement_out s) s refl u

pub instr_put : (R : Output) (i l : ℕ) (s : Span) (v : Value) → (R ⊕ value_out v) ⊕ (instr_row i l s ∷ []) ≡ statement_put R (INSTR i l s v)
unfolding in_list
instr_put R i l s v = output_eq (rows_value R.rows i l s v) (sym (append-nil R.lines))

pub throw_put : (R : Output) (v i : ℕ) → R ⊕ (row 23 v i 0 0 0 ∷ []) ≡ statement_put R (THROW v i)
unfolding in_list statement_out
throw_put R v i = unlined_put R _ (THROW v i) refl (refl, λ n. refl)

pub return_put : (R : Output) (v i : ℕ) → R ⊕ (row 22 v i 0 0 0 ∷ []) ≡ statement_put R (RETURN v i)
unfolding in_list statement_out
return_put R v i = unlined_put R _ (RETURN v i) refl (refl, λ n. refl)

-- ---- a statement is complete

-- R was out when s began, and R₁ is before its closing row
pub record Parts (R : Output) (s : Statement) (closing : Row) (R₁ : Output) : Type 0 where
  pub rows : R₁.rows ++ (closing ∷ []) ≡ R.rows ++ statement_out s
  pub lines : R₁.lines ≡ R.lines ++ map line_of (in_parts (length R.rows) s)

-- the line has the last of the statement's rows
own_line : (R R₁ : Output) (s : Statement) (k : Row) → Parts R s k R₁ → (g : Option ℕ) → line_out g (length R.rows) (length R₁.rows) ≡ map line_of (labelled_by g (length R.rows) s)
unfolding statement_out
own_line R R₁ s k p none = refl
own_line R R₁ s k p (some f) = ap (λ (z : ℕ). record { label = f; first = length R.rows; closing = z } ∷ []) last
  where
    both : length R₁.rows + 1 ≡ length R.rows + rows_in (statement_rows s)
    both = sym (length-append R₁.rows (k ∷ [])) ∙ ap length p.rows ∙ length-append R.rows (statement_rows s [])

    last : length R₁.rows ≡ (length R.rows + rows_in (statement_rows s)) - 1
    last = omega (arith, both)

pub close_put : (R R₁ : Output) (s : Statement) (k : Row) (g : Option ℕ) (first : ℕ) → Parts R s k R₁ → first ≡ length R.rows → g ≡ label_of s
    → ◌≡◌ {A = Output} (record { rows = R₁.rows ++ (k ∷ []); lines = R₁.lines ++ line_out g first (length R₁.rows) }) (statement_put R s)
close_put R R₁ s k g first p e f = output_eq p.rows
    (rw (e, f) (ap (λ (z : List Line). z ++ line_out (label_of s) (length R.rows) (length R₁.rows)) p.lines
    ∙ append_assoc R.lines (map line_of (in_parts (length R.rows) s)) (line_out (label_of s) (length R.rows) (length R₁.rows))
    ∙ ap (λ (z : List Line). R.lines ++ (map line_of (in_parts (length R.rows) s) ++ z)) (own_line R R₁ s k p (label_of s))
    ∙ ap (λ (z : List Line). R.lines ++ z) (sym (map-append line_of (in_parts (length R.rows) s) (labelled_by (label_of s) (length R.rows) s)))))

-- ---- where the parts begin

block_size : (R : List Row) (s : Statements) → length (block_out R s) ≡ length R + rows_in (block_rows s)
block_size R s = ap length (sym (append-nil (block_out R s)) ∙ block_out_lem R s []) ∙ length-append R (block_rows s [])

value_size : (R : List Row) (v : Value) → length (R ++ value_out v) ≡ length R + rows_in (value_rows v)
unfolding value_out
value_size R v = length-append R (value_rows v [])

update_size : (R : List Row) (u : Option Value) → length (R ++ update_out u) ≡ length R + rows_in (update_rows u)
unfolding update_out
update_size R none = length-append R []
update_size R (some v) = value_size R v

moved : (L : List Line) (s : Statements) {m n : ℕ} → m ≡ n → L ++ lines_in m s ≡ L ++ lines_in n s
moved L s e = ap (λ (z : ℕ). L ++ lines_in z s) e

joined : (L : List Line) (A B : List Labelled) → (L ++ map line_of A) ++ map line_of B ≡ L ++ map line_of (A ++ B)
joined L A B = append_assoc L (map line_of A) (map line_of B) ∙ ap (λ (z : List Line). L ++ z) (sym (map-append line_of A B))

-- ---- what is out before a statement is closed

pub parts_if : (R : Output) (x id : ℕ) (g : Option ℕ) (c a : Statements) → Parts R (IF x id g c false a) (row 10 x 0 id (or_none g) 0) (block_put R c)
unfolding in_list
parts_if R x id g c a = record { rows = rows_if R.rows x id g c a; lines = refl }

pub parts_else : (R : Output) (x id : ℕ) (g : Option ℕ) (c a : Statements) → Parts R (IF x id g c true a) (row 10 x 1 id (or_none g) 0) (block_put (block_put R c) a)
unfolding in_list
parts_else R x id g c a = record {
  rows = rows_else R.rows x id g c a;
  lines = moved (R.lines ++ lines_in (length R.rows) c) a (block_size R.rows c) ∙ joined R.lines (in_list (length R.rows) c) (in_list (length R.rows + rows_in (block_rows c)) a);
}

pub parts_do_while : (R : Output) (id : ℕ) (g : Option ℕ) (b : Statements) (v : Value) → Parts R (DOWHILE id g b v) (row 13 id (or_none g) 0 0 0) (block_put R b ⊕ value_out v)
unfolding in_list
parts_do_while R id g b v = record { rows = rows_do_while R.rows id g b v; lines = refl }

pub parts_while : (R : Output) (id : ℕ) (g : Option ℕ) (v : Value) (b : Statements) → Parts R (WHILE id g v b) (row 14 id (or_none g) 0 0 0) (block_put (R ⊕ value_out v) b)
unfolding in_list
parts_while R id g v b = record { rows = rows_while R.rows id g v b; lines = moved R.lines b (value_size R.rows v) }

pub parts_for : (R : Output) (id : ℕ) (g : Option ℕ) (n v : Value) (u : Option Value) (b : Statements)
    → Parts R (FOR id g n v u b) (row 15 id (or_none g) (update_present u) 0 0) (block_put (((R ⊕ value_out n) ⊕ value_out v) ⊕ update_out u) b)
unfolding in_list
parts_for R id g n v u b = record {
  rows = rows_for R.rows id g n v u b;
  lines = moved R.lines b (omega (arith, update_size ((R.rows ++ value_out n) ++ value_out v) u, value_size (R.rows ++ value_out n) v, value_size R.rows n));
}

pub parts_for_of : (R : Output) (id : ℕ) (g : Option ℕ) (s : Span) (n v : Value) (b : Statements)
    → Parts R (FOROF id g s n v b) (for_of_row id (or_none g) s) (block_put ((R ⊕ value_out n) ⊕ value_out v) b)
unfolding in_list
parts_for_of R id g s n v b = record {
  rows = rows_for_of R.rows id g s n v b;
  lines = moved R.lines b (omega (arith, value_size (R.rows ++ value_out n) v, value_size R.rows n));
}

pub parts_for_in : (R : Output) (id : ℕ) (g : Option ℕ) (s : Span) (n : Value) (b : Statements) → Parts R (FORIN id g s n b) (for_in_row id (or_none g) s) (block_put (R ⊕ value_out n) b)
unfolding in_list
parts_for_in R id g s n b = record { rows = rows_for_in R.rows id g s n b; lines = moved R.lines b (value_size R.rows n) }

pub parts_label : (R : Output) (id : ℕ) (g : Option ℕ) (b : Statements) → Parts R (LABEL id g b) (row 18 id (or_none g) 0 0 0) (block_put R b)
unfolding in_list
parts_label R id g b = record { rows = rows_label R.rows id g b; lines = refl }

pub parts_try : (R : Output) (id : ℕ) (g n : Option ℕ) (b h : Statements) → Parts R (TRY id g n b h) (row 19 id (or_none g) (or_none n) 0 0) (block_put (block_put R b) h)
unfolding in_list
parts_try R id g n b h = record {
  rows = rows_try R.rows id g n b h;
  lines = moved (R.lines ++ lines_in (length R.rows) b) h (block_size R.rows b) ∙ joined R.lines (in_list (length R.rows) b) (in_list (length R.rows + rows_in (block_rows b)) h);
}

pub parts_scope : (R : Output) (p : Bool) (s : ℕ) (b : Statements) → Parts R (SCOPE p s b) (scope_row p s) (block_put R b)
unfolding in_list
parts_scope R p s b = record { rows = rows_scope R.rows p s b; lines = refl }

pub parts_switch : (R : Output) (x id : ℕ) (g : Option ℕ) (cs : Cases) → Parts R (SWITCH x id g cs) (row 12 x (count_cases cs) id (or_none g) 0) (cases_put R cs)
unfolding in_list
parts_switch R x id g cs = record { rows = rows_switch R.rows x id g cs; lines = refl }

-- ---- cases

pub case_put : (R : Output) (x : ℕ) (b : Statements) (r : Cases) → cases_put R (CASE x b r) ≡ cases_put (block_put R b ⊕ (row 11 x 0 0 0 0 ∷ [])) r
unfolding in_list
case_put R x b r = output_eq (rows_case R.rows x b r)
    (sym (ap (λ (z : ℕ). (R.lines ++ lines_in (length R.rows) b) ++ map line_of (in_cases z r)) later ∙ joined R.lines (in_list (length R.rows) b)
    (in_cases (length R.rows + (rows_in (block_rows b) + 1)) r)))
  where
    later : length (block_out R.rows b ++ (row 11 x 0 0 0 0 ∷ [])) ≡ length R.rows + (rows_in (block_rows b) + 1)
    later = omega (arith, length-append (block_out R.rows b) (row 11 x 0 0 0 0 ∷ []), block_size R.rows b)

pub no_case_put : (R : Output) → cases_put R no_cases ≡ R
unfolding in_list cases_out
no_case_put R = output_eq (append-nil R.rows) (append-nil R.lines)

-- ---- a block: its instructions, its statement, if it has one, and the statements after it

-- a list of no statement or of one, which has no line
pub single_put : (R : Output) (o : Option Statement) → UnlinedStep o → (R ⊕ jump_out o) ⊕ (block_row (added o 0) ∷ []) ≡ block_put R (followed_by o done)
unfolding in_list
single_put R none u = output_eq (rows_single R.rows none) (sym (append-nil R.lines))
single_put R (some s) u =
    output_eq (rows_single R.rows (some s))
    (sym (ap (λ (z : List Labelled). R.lines ++ map line_of z)
    (append-nil (in_parts (length R.rows) s ++ labelled_by (label_of s) (length R.rows) s) ∙ unlined_none s u (length R.rows)) ∙ append-nil R.lines))

pub instructions_lined : (t : Table) (rs : List ℕ) (n : ℕ) (s : Statements) → in_list n (instruction_statements t rs s) ≡ in_list (n + length (instructions_out t rs)) s
unfolding instruction_statements instructions_out in_list
instructions_lined t [] n s = ap (λ (z : ℕ). in_list z s) (omega arith)
instructions_lined t (r ∷ rs) n s = instructions_lined t rs (n + 2) s ∙ ap (λ (z : ℕ). in_list z s) (omega arith)

followed_lined : (R : Output) (o : Option Statement) (s : Statements) → R.lines ++ lines_in (length R.rows) (followed_by o s) ≡ (step_put R o).lines ++ lines_in (length (step_put R o).rows) s
unfolding in_list statement_out
followed_lined R none s = moved R.lines s (ap length (sym (append-nil R.rows)))
followed_lined R (some x) s =
    sym (moved (R.lines ++ lines_of (length R.rows) x) s (length-append R.rows (statement_rows x []))
    ∙ joined R.lines (in_parts (length R.rows) x ++ labelled_by (label_of x) (length R.rows) x) (in_list (length R.rows + rows_in (statement_rows x)) s))

step_rows : (R : Output) (o : Option Statement) → (step_put R o).rows ≡ R.rows ++ jump_out o
step_rows R none = refl
step_rows R (some s) = refl

pub no_list_put : (R : Output) → list_put R done ≡ R
unfolding in_list statements_out
no_list_put R = output_eq (append-nil R.rows) (append-nil R.lines)

pub chain_put : (R : Output) (t : Table) (rs : List ℕ) (o : Option Statement) (s : Statements)
    → list_put R (instruction_statements t rs (followed_by o s)) ≡ list_put (step_put (R ⊕ instructions_out t rs) o) s
chain_put R t rs o s = output_eq
    (rows_chain R.rows t rs o s ∙ ap (λ (z : List Row). z ++ statements_out s) (sym (step_rows (R ⊕ instructions_out t rs) o)))
    (ap (λ (z : List Labelled). R.lines ++ map line_of z) (instructions_lined t rs (length R.rows) (followed_by o s))
    ∙ moved R.lines (followed_by o s) (sym (length-append R.rows (instructions_out t rs)))
    ∙ followed_lined (R ⊕ instructions_out t rs) o s)
