-- M-102, "index included": the language entry's tree, which differs only in BREAKs that are Labeled in place of Unlabeled, has the first entry's lines.
-- For proofs/Theorems.
use mathlib.Core.Path.{◌≡◌, refl, sym, ap, ◌∙◌}
use Prim.Native.Nat.{ℕ, suc, ◌+◌, ◌-◌}
use native.Mathlib.Omega.{arith}
use mathlib.Core.List.{List, [], ◌∷◌, ◌++◌, map, map-append}
use mathlib.Core.Option.{Option, none, some}
use mathlib.Core.Bool.{true, false}
use lib.ListN.{length, length-append}
use Rattle.definition.specs.Index.{label_of, rows_in, Labelled, labelled_by, in_parts, in_list, in_cases, Line, line_of, lines}
use Rattle.definition.proofs.Relabels.{Relabeled, the_same, a_break, in_if, in_switch, in_do_while, in_while, in_for, in_for_of, in_for_in, in_label, in_try, in_scope}
use Rattle.definition.proofs.Relabels.{RelabeledAll, none_left, and_then, RelabeledCases, no_case_left, a_case, relabels}
use Rattle.definition.specs.Around.{Enclosing}
use Rattle.definition.specs.Relabeled.{relabeled}
use Rattle.definition.specs.Tree.{Value, Statement, Statements, ◌▸◌, Cases, Row, value_rows, update_rows, statement_rows, statements_rows, block_rows, cases_rows}
use Rattle.definition.proofs.Rows.{value_append, update_append, statement_append}

-- ---- as many rows

abbrev AsMany : (f g : List Row → List Row) → Type 0
AsMany f g = (k l : List Row) → length k ≡ length l → length (f k) ≡ length (g l)

value_many : (v : Value) → AsMany (value_rows v) (value_rows v)
value_many v k l e =
    omega (arith, e, ap length (value_append v [] k), ap length (value_append v [] l), length-append (value_rows v []) k, length-append (value_rows v []) l)

update_many : (u : Option Value) → AsMany (update_rows u) (update_rows u)
update_many u k l e =
    omega (arith, e, ap length (update_append u [] k), ap length (update_append u [] l), length-append (update_rows u []) k, length-append (update_rows u []) l)

mutual
  statement_many : {s s' : Statement} → Relabeled s s' → AsMany (statement_rows s) (statement_rows s')
  statement_many (the_same s) k l e =
      omega (arith, e, ap length (statement_append s [] k), ap length (statement_append s [] l), length-append (statement_rows s []) k, length-append (statement_rows s []) l)
  statement_many (a_break target id loops) k l e = ap suc e
  statement_many (in_if x i g true p q) k l e = block_many p _ _ (block_many q _ _ (ap suc e))
  statement_many (in_if x i g false p q) k l e = block_many p _ _ (ap suc e)
  statement_many (in_switch x i g p) k l e = cases_many p _ _ (ap suc e)
  statement_many (in_do_while i g v p) k l e = block_many p _ _ (value_many v _ _ (ap suc e))
  statement_many (in_while i g v p) k l e = value_many v _ _ (block_many p _ _ (ap suc e))
  statement_many (in_for i g a v u p) k l e = value_many a _ _ (value_many v _ _ (update_many u _ _ (block_many p _ _ (ap suc e))))
  statement_many (in_for_of i g s a v p) k l e = value_many a _ _ (value_many v _ _ (block_many p _ _ (ap suc e)))
  statement_many (in_for_in i g s a p) k l e = value_many a _ _ (block_many p _ _ (ap suc e))
  statement_many (in_label i g p) k l e = block_many p _ _ (ap suc e)
  statement_many (in_try i g m p q) k l e = block_many p _ _ (block_many q _ _ (ap suc e))
  statement_many (in_scope true s p) k l e = block_many p _ _ (ap suc e)
  statement_many (in_scope false s p) k l e = block_many p _ _ (ap suc e)

  list_many : {s s' : Statements} → RelabeledAll s s' → AsMany (statements_rows s) (statements_rows s')
  list_many none_left k l e = e
  list_many (and_then p q) k l e = statement_many p _ _ (list_many q k l e)

  block_many : {s s' : Statements} → RelabeledAll s s' → AsMany (block_rows s) (block_rows s')
  block_many none_left k l e = ap suc e
  block_many (and_then p q) k l e = statement_many p _ _ (list_many q _ _ (ap suc e))

  cases_many : {s s' : Cases} → RelabeledCases s s' → AsMany (cases_rows s) (cases_rows s')
  cases_many no_case_left k l e = e
  cases_many (a_case x p q) k l e = block_many p _ _ (ap suc (cases_many q k l e))

-- ---- the same lines

abbrev Alike : (xs ys : List Labelled) → Type 0
Alike xs ys = map line_of xs ≡ map line_of ys

alike_append : (xs ys zs ws : List Labelled) → Alike xs zs → Alike ys ws → Alike (xs ++ ys) (zs ++ ws)
alike_append xs ys zs ws p q =
    map-append line_of xs ys ∙ ap (λ (z : List Line). z ++ map line_of ys) p ∙ ap (λ (z : List Line). map line_of zs ++ z) q ∙ sym (map-append line_of zs ws)

own_alike : (g : Option ℕ) (n : ℕ) (s s' : Statement) → rows_in (statement_rows s) ≡ rows_in (statement_rows s') → Alike (labelled_by g n s) (labelled_by g n s')
own_alike none n s s' e = refl
own_alike (some g) n s s' e = ap (λ (m : ℕ). record { label = g; first = n; closing = (n + m) - 1 } ∷ []) e

same_label : {s s' : Statement} → Relabeled s s' → label_of s ≡ label_of s'
same_label (the_same s) = refl
same_label (a_break target id loops) = refl
same_label (in_if x i g y p q) = refl
same_label (in_switch x i g p) = refl
same_label (in_do_while i g v p) = refl
same_label (in_while i g v p) = refl
same_label (in_for i g a v u p) = refl
same_label (in_for_of i g s a v p) = refl
same_label (in_for_in i g s a p) = refl
same_label (in_label i g p) = refl
same_label (in_try i g m p q) = refl
same_label (in_scope y s p) = refl

-- the same lines from another row, which is the same
list_moved : (xs : List Labelled) (s : Statements) (n m : ℕ) → n ≡ m → Alike xs (in_list n s) → Alike xs (in_list m s)
list_moved xs s n m e p = p ∙ ap (λ (k : ℕ). map line_of (in_list k s)) e

cases_moved : (xs : List Labelled) (s : Cases) (n m : ℕ) → n ≡ m → Alike xs (in_cases n s) → Alike xs (in_cases m s)
cases_moved xs s n m e p = p ∙ ap (λ (k : ℕ). map line_of (in_cases k s)) e

-- two nested lists, the second behind the first
two_alike : (c c' a a' : Statements) (n : ℕ) → rows_in (block_rows c) ≡ rows_in (block_rows c') → Alike (in_list n c) (in_list n c')
    → Alike (in_list (n + rows_in (block_rows c)) a) (in_list (n + rows_in (block_rows c)) a')
    → Alike (in_list n c ++ in_list (n + rows_in (block_rows c)) a) (in_list n c' ++ in_list (n + rows_in (block_rows c')) a')
two_alike c c' a a' n e p q =
    alike_append (in_list n c) (in_list (n + rows_in (block_rows c)) a) (in_list n c') (in_list (n + rows_in (block_rows c')) a') p
    (list_moved (in_list (n + rows_in (block_rows c)) a) a' (n + rows_in (block_rows c)) (n + rows_in (block_rows c')) (ap (λ (m : ℕ). n + m) e) q)

-- a statement and the rest of its list
rest_alike : (s s' : Statement) (r r' : Statements) (n : ℕ) → rows_in (statement_rows s) ≡ rows_in (statement_rows s') → label_of s ≡ label_of s' → Alike (in_parts n s) (in_parts n s')
    → Alike (in_list (n + rows_in (statement_rows s)) r) (in_list (n + rows_in (statement_rows s)) r') → Alike (in_list n (s ▸ r)) (in_list n (s' ▸ r'))
unfolding in_list
rest_alike s s' r r' n e l p q =
    alike_append (in_parts n s ++ labelled_by (label_of s) n s) (in_list (n + rows_in (statement_rows s)) r)
    (in_parts n s' ++ labelled_by (label_of s') n s') (in_list (n + rows_in (statement_rows s')) r')
    (alike_append (in_parts n s) (labelled_by (label_of s) n s) (in_parts n s') (labelled_by (label_of s') n s') p
    (own_alike (label_of s) n s s' e ∙ ap (λ (g : Option ℕ). map line_of (labelled_by g n s')) l))
    (list_moved (in_list (n + rows_in (statement_rows s)) r) r' (n + rows_in (statement_rows s)) (n + rows_in (statement_rows s')) (ap (λ (m : ℕ). n + m) e) q)

mutual
  unfolding in_parts in_list in_cases

  parts_alike : {s s' : Statement} → Relabeled s s' → (n : ℕ) → Alike (in_parts n s) (in_parts n s')
  parts_alike (the_same s) n = refl
  parts_alike (a_break target id loops) n = refl
  parts_alike (in_if x i g true {first = c} {first' = c'} {second = a} {second' = a'} p q) n =
      two_alike c c' a a' n (block_many p [] [] refl) (list_alike p n) (list_alike q (n + rows_in (block_rows c)))
  parts_alike (in_if x i g false p q) n = list_alike p n
  parts_alike (in_switch x i g p) n = cases_alike p n
  parts_alike (in_do_while i g v p) n = list_alike p n
  parts_alike (in_while i g v p) n = list_alike p _
  parts_alike (in_for i g a v u p) n = list_alike p _
  parts_alike (in_for_of i g s a v p) n = list_alike p _
  parts_alike (in_for_in i g s a p) n = list_alike p _
  parts_alike (in_label i g p) n = list_alike p n
  parts_alike (in_try i g m {first = c} {first' = c'} {second = a} {second' = a'} p q) n =
      two_alike c c' a a' n (block_many p [] [] refl) (list_alike p n) (list_alike q (n + rows_in (block_rows c)))
  parts_alike (in_scope y s p) n = list_alike p n

  list_alike : {s s' : Statements} → RelabeledAll s s' → (n : ℕ) → Alike (in_list n s) (in_list n s')
  list_alike none_left n = refl
  list_alike (and_then {statement = a} {statement' = a'} {rest = r} {rest' = r'} p q) n =
      rest_alike a a' r r' n (statement_many p [] [] refl) (same_label p) (parts_alike p n) (list_alike q (n + rows_in (statement_rows a)))

  cases_alike : {s s' : Cases} → RelabeledCases s s' → (n : ℕ) → Alike (in_cases n s) (in_cases n s')
  cases_alike no_case_left n = refl
  cases_alike (a_case x {body = b} {body' = b'} {rest = r} {rest' = r'} p q) n =
      alike_append (in_list n b) (in_cases (n + (rows_in (block_rows b) + 1)) r) (in_list n b') (in_cases (n + (rows_in (block_rows b') + 1)) r') (list_alike p n)
      (cases_moved (in_cases (n + (rows_in (block_rows b) + 1)) r) r' (n + (rows_in (block_rows b) + 1)) (n + (rows_in (block_rows b') + 1))
      (ap (λ (m : ℕ). n + (m + 1)) (block_many p [] [] refl)) (cases_alike q (n + (rows_in (block_rows b) + 1))))

pub same_lines : (around : List Enclosing) (first : Statements) → lines first ≡ lines (relabeled around first)
unfolding lines
same_lines around first = list_alike (relabels around first) 0
