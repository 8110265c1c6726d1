-- M-101: where a labelled statement's rows stand among those of the tree: at its first row. For theorems/proofs/Found.
use mathlib.Core.Path.{◌≡◌, refl, sym, ap, ◌∙◌, subst}
use Prim.Native.Nat.{ℕ, ◌+◌, ◌≤◌}
use native.Mathlib.Nat.{le_refl}
use native.Mathlib.Omega.{arith}
use mathlib.Core.List.{List, [], ◌∷◌, ◌++◌, append_assoc, append-nil}
use mathlib.Core.Option.{Option, none, some}
use mathlib.Core.Bool.{true, false}
use lib.ListN.{length, length-append}
use Rattle.definition.specs.Index.{Each, label_of, rows_in, Labelled, labelled_by, in_parts, in_list, in_cases, labelled}
use Rattle.definition.specs.Output.{Output, no_output, statement_out, block_row}
use Rattle.definition.specs.Tree.{Statement, INSTR, IF, SWITCH, DOWHILE, WHILE, FOR, FOROF, FORIN, LABEL, TRY, SCOPE, RETURN, THROW, BREAK, CONTINUE}
use Rattle.definition.specs.Tree.{Statements, done, ◌▸◌, Cases, no_cases, CASE, Row, row, rows, value_rows, update_rows, statement_rows, statements_rows}
use Rattle.definition.specs.Tree.{block_rows, instr_row, for_of_row, for_in_row, cases_rows, count_statements, count_cases, or_none, update_present}
use Rattle.definition.proofs.Rows.{value_append, update_append, statement_append, cases_append, block_rows_lem, block_split}
use Rattle.definition.specs.Put.{statements_out}
use Rattle.definition.proofs.Lines.{Parts, parts_if, parts_else, parts_do_while, parts_while, parts_for, parts_for_of, parts_for_in, parts_label, parts_try, parts_scope, parts_switch}

-- ---- a list of labelled statements, of each of which something holds

each_append : (P : Labelled → Type 0) (ls ms : List Labelled) → Each P ls → Each P ms → Each P (ls ++ ms)
each_append P [] ms p q = q
each_append P (l ∷ ls) ms (p, r) q = (p, each_append P ls ms r q)

pub each_map : (P Q : Labelled → Type 0) (ls : List Labelled) → ((l : Labelled) → P l → Q l) → Each P ls → Each Q ls
each_map P Q [] f p = tt
each_map P Q (l ∷ ls) f (p, r) = (f l p, each_map P Q ls f r)

-- ---- rows inside of rows

-- the statement's rows are among these, which begin at row n
pub record Sits (n : ℕ) (list : List Row) (l : Labelled) : Type 0 where
  pub before : List Row
  pub after : List Row
  pub among : list ≡ before ++ (statement_rows l.statement [] ++ after)
  pub first : l.first ≡ n + length before
  pub some_row : 1 ≤ rows_in (statement_rows l.statement)

-- some rows, and others around them
sits_in : {n m : ℕ} {list : List Row} (whole front back : List Row) (l : Labelled) → whole ≡ front ++ (list ++ back) → m ≡ n + length front → Sits m list l → Sits n whole l
sits_in {n} {m} {list} whole front back l e f s = record {
  before = front ++ s.before;
  after = s.after ++ back;
  among = e ∙ ap (λ (z : List Row). front ++ (z ++ back)) s.among ∙ simp append_assoc;
  first = omega (arith, s.first, f, length-append front s.before);
  some_row = s.some_row;
}

each_in : (n m : ℕ) (list whole front back : List Row) (ls : List Labelled) → whole ≡ front ++ (list ++ back) → m ≡ n + length front → Each (Sits m list) ls → Each (Sits n whole) ls
each_in n m list whole front back ls e f h = each_map (Sits m list) (Sits n whole) ls (λ l s. sits_in whole front back l e f s) h

-- ---- every statement has a row

ends : {s : Statement} {k : Row} {R : Output} → Parts no_output s k R → 1 ≤ rows_in (statement_rows s)
unfolding statement_out
ends {k = k} {R} p = omega (arith, length-append R.rows (k ∷ []), ap length p.rows)

pub has_row : (s : Statement) → 1 ≤ rows_in (statement_rows s)
has_row (INSTR i l s v) = omega (arith, ap length (value_append v [] (instr_row i l s ∷ [])), length-append (value_rows v []) (instr_row i l s ∷ []))
has_row (IF x i g c true a) = ends (parts_else no_output x i g c a)
has_row (IF x i g c false a) = ends (parts_if no_output x i g c a)
has_row (SWITCH x i g cs) = ends (parts_switch no_output x i g cs)
has_row (DOWHILE i g b v) = ends (parts_do_while no_output i g b v)
has_row (WHILE i g v b) = ends (parts_while no_output i g v b)
has_row (FOR i g n v u b) = ends (parts_for no_output i g n v u b)
has_row (FOROF i g s n v b) = ends (parts_for_of no_output i g s n v b)
has_row (FORIN i g s n b) = ends (parts_for_in no_output i g s n b)
has_row (LABEL i g b) = ends (parts_label no_output i g b)
has_row (TRY i g n b h) = ends (parts_try no_output i g n b h)
has_row (SCOPE p s b) = ends (parts_scope no_output p s b)
has_row (RETURN v i) = le_refl 1
has_row (THROW v i) = le_refl 1
has_row (BREAK g i k n) = le_refl 1
has_row (CONTINUE g i k n) = le_refl 1

-- ---- the tree

own_sits : (n : ℕ) (s : Statement) (g : Option ℕ) → Each (Sits n (statement_rows s [])) (labelled_by g n s)
own_sits n s none = tt
own_sits n s (some g) = (record { before = []; after = []; among = sym (append-nil (statement_rows s [])); first = omega arith; some_row = has_row s }, tt)

-- a body at the front, and what follows its BLOCK row
body_in : (n : ℕ) (b : Statements) (k : List Row) → Each (Sits n (statements_out b)) (in_list n b) → Each (Sits n (block_rows b k)) (in_list n b)
body_in n b k h = each_in n n (statements_out b) (block_rows b k) [] (block_row (count_statements b) ∷ k) (in_list n b) (block_rows_lem b k) (omega arith) h

-- a body behind some rows
body_behind : (n m : ℕ) (front : List Row) (b : Statements) (k : List Row)
    → m ≡ n + length front → Each (Sits m (statements_out b)) (in_list m b) → Each (Sits n (front ++ block_rows b k)) (in_list m b)
body_behind n m front b k e h =
    each_in n m (statements_out b) (front ++ block_rows b k) front (block_row (count_statements b) ∷ k) (in_list m b)
    (ap (λ (z : List Row). front ++ z) (block_rows_lem b k)) e h

-- two bodies
bodies_in : (n : ℕ) (b c : Statements) (k : List Row)
    → Each (Sits n (statements_out b)) (in_list n b) → Each (Sits (n + rows_in (block_rows b)) (statements_out c)) (in_list (n + rows_in (block_rows b)) c)
    → Each (Sits n (block_rows b (block_rows c k))) (in_list n b ++ in_list (n + rows_in (block_rows b)) c)
bodies_in n b c k p q =
    each_append (Sits n (block_rows b (block_rows c k))) (in_list n b) (in_list (n + rows_in (block_rows b)) c) (body_in n b (block_rows c k) p)
    (subst (λ (z : List Row). Each (Sits n z) (in_list (n + rows_in (block_rows b)) c)) (sym (block_split b (block_rows c k)))
    (body_behind n (n + rows_in (block_rows b)) (block_rows b []) c k refl q))

mutual
  unfolding in_list statements_out

  parts_sit : (n : ℕ) (s : Statement) → Each (Sits n (statement_rows s [])) (in_parts n s)
  parts_sit n (INSTR i l s v) = tt
  parts_sit n (IF x i g c true a) = bodies_in n c a (row 10 x 1 i (or_none g) 0 ∷ []) (list_sits n c) (list_sits (n + rows_in (block_rows c)) a)
  parts_sit n (IF x i g c false a) = body_in n c (row 10 x 0 i (or_none g) 0 ∷ []) (list_sits n c)
  parts_sit n (SWITCH x i g cs) =
      each_in n n (cases_rows cs []) (cases_rows cs (row 12 x (count_cases cs) i (or_none g) 0 ∷ [])) [] (row 12 x (count_cases cs) i (or_none g) 0 ∷ [])
      (in_cases n cs) (cases_append cs [] (row 12 x (count_cases cs) i (or_none g) 0 ∷ [])) (omega arith) (cases_sit n cs)
  parts_sit n (DOWHILE i g b v) = body_in n b (value_rows v (row 13 i (or_none g) 0 0 0 ∷ [])) (list_sits n b)
  parts_sit n (WHILE i g v b) =
      subst (λ (z : List Row). Each (Sits n z) (in_list (n + rows_in (value_rows v)) b)) (sym (value_append v [] (block_rows b (row 14 i (or_none g) 0 0 0 ∷ []))))
      (body_behind n (n + rows_in (value_rows v)) (value_rows v []) b (row 14 i (or_none g) 0 0 0 ∷ []) refl (list_sits (n + rows_in (value_rows v)) b))
  parts_sit n (FOR i g a v u b) =
      let k : List Row = row 15 i (or_none g) (update_present u) 0 0 ∷ [] in
      let m : ℕ = n + (rows_in (value_rows a) + (rows_in (value_rows v) + rows_in (update_rows u))) in
      subst (λ (z : List Row). Each (Sits n z) (in_list m b))
      (sym (value_append a [] (value_rows v (update_rows u (block_rows b k))) ∙ ap (λ (z : List Row). value_rows a [] ++ z)
      (value_append v [] (update_rows u (block_rows b k)) ∙ ap (λ (z : List Row). value_rows v [] ++ z) (update_append u [] (block_rows b k))) ∙ simp append_assoc))
      (body_behind n m (value_rows a [] ++ (value_rows v [] ++ update_rows u [])) b k
      (omega (arith, length-append (value_rows a []) (value_rows v [] ++ update_rows u []), length-append (value_rows v []) (update_rows u []))) (list_sits m b))
  parts_sit n (FOROF i g s a v b) =
      let k : List Row = for_of_row i (or_none g) s ∷ [] in
      let m : ℕ = n + (rows_in (value_rows a) + rows_in (value_rows v)) in
      subst (λ (z : List Row). Each (Sits n z) (in_list m b))
      (sym (value_append a [] (value_rows v (block_rows b k)) ∙ ap (λ (z : List Row). value_rows a [] ++ z) (value_append v [] (block_rows b k)) ∙ simp append_assoc))
      (body_behind n m (value_rows a [] ++ value_rows v []) b k (omega (arith, length-append (value_rows a []) (value_rows v []))) (list_sits m b))
  parts_sit n (FORIN i g s a b) =
      subst (λ (z : List Row). Each (Sits n z) (in_list (n + rows_in (value_rows a)) b)) (sym (value_append a [] (block_rows b (for_in_row i (or_none g) s ∷ []))))
      (body_behind n (n + rows_in (value_rows a)) (value_rows a []) b (for_in_row i (or_none g) s ∷ []) refl (list_sits (n + rows_in (value_rows a)) b))
  parts_sit n (LABEL i g b) = body_in n b (row 18 i (or_none g) 0 0 0 ∷ []) (list_sits n b)
  parts_sit n (TRY i g m b h) = bodies_in n b h (row 19 i (or_none g) (or_none m) 0 0 ∷ []) (list_sits n b) (list_sits (n + rows_in (block_rows b)) h)
  parts_sit n (SCOPE true s b) = body_in n b (row 21 s 0 0 0 0 ∷ []) (list_sits n b)
  parts_sit n (SCOPE false s b) = body_in n b (row 20 s 0 0 0 0 ∷ []) (list_sits n b)
  parts_sit n (RETURN v i) = tt
  parts_sit n (THROW v i) = tt
  parts_sit n (BREAK g i k m) = tt
  parts_sit n (CONTINUE g i k m) = tt

  list_sits : (n : ℕ) (s : Statements) → Each (Sits n (statements_out s)) (in_list n s)
  list_sits n done = tt
  list_sits n (s ▸ r) =
      let m : ℕ = n + rows_in (statement_rows s) in
      subst (λ (z : List Row). Each (Sits n z) (in_list n (s ▸ r))) (sym (statement_append s [] (statements_rows r [])))
      (each_append (Sits n (statement_rows s [] ++ statements_rows r [])) (in_parts n s ++ labelled_by (label_of s) n s) (in_list m r)
      (each_in n n (statement_rows s []) (statement_rows s [] ++ statements_rows r []) [] (statements_rows r []) (in_parts n s ++ labelled_by (label_of s) n s) refl (omega arith)
      (each_append (Sits n (statement_rows s [])) (in_parts n s) (labelled_by (label_of s) n s) (parts_sit n s) (own_sits n s (label_of s))))
      (each_in n m (statements_rows r []) (statement_rows s [] ++ statements_rows r []) (statement_rows s []) [] (in_list m r)
      (ap (λ (z : List Row). statement_rows s [] ++ z) (sym (append-nil (statements_rows r [])))) refl (list_sits m r)))

  cases_sit : (n : ℕ) (cs : Cases) → Each (Sits n (cases_rows cs [])) (in_cases n cs)
  cases_sit n no_cases = tt
  cases_sit n (CASE x b r) =
      let m : ℕ = n + (rows_in (block_rows b) + 1) in
      each_append (Sits n (block_rows b (row 11 x 0 0 0 0 ∷ cases_rows r []))) (in_list n b) (in_cases m r) (body_in n b (row 11 x 0 0 0 0 ∷ cases_rows r []) (list_sits n b))
      (each_in n m (cases_rows r []) (block_rows b (row 11 x 0 0 0 0 ∷ cases_rows r [])) (block_rows b [] ++ (row 11 x 0 0 0 0 ∷ [])) [] (in_cases m r)
      (block_split b (row 11 x 0 0 0 0 ∷ cases_rows r []) ∙ sym
      (append_assoc (block_rows b []) (row 11 x 0 0 0 0 ∷ []) (cases_rows r [] ++ []) ∙ ap (λ (z : List Row). block_rows b [] ++ (row 11 x 0 0 0 0 ∷ z))
      (append-nil (cases_rows r []))))
      (omega (arith, length-append (block_rows b []) (row 11 x 0 0 0 0 ∷ []))) (cases_sit m r))

-- each labelled statement of a tree has its rows among the tree's, from its first row on
pub tree_sits : (root : Statements) → Each (Sits 0 (rows root)) (labelled root)
tree_sits root = body_in 0 root [] (list_sits 0 root)
