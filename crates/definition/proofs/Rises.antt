-- M-101: the lines of a tree are "in the order of closing rows", and these are rows of the tree. For theorems/proofs/Found and proofs/Preview.
use mathlib.Core.Path.{◌≡◌, ap, ◌∙◌}
use Prim.Native.Nat.{ℕ, suc, ◌+◌, ◌-◌, ◌≤◌, ◌<◌}
use native.Mathlib.Omega.{arith}
use mathlib.Core.List.{List, [], ◌∷◌, ◌++◌}
use mathlib.Core.Option.{Option, none, some}
use mathlib.Core.Bool.{true, false}
use lib.ListN.{length, length-append}
use Rattle.definition.specs.Index.{label_of, rows_in, Labelled, labelled_by, in_parts, in_list, in_cases, labelled, line_of}
use Rattle.definition.specs.Output.{block_row}
use Rattle.definition.specs.Tree.{Value, Statement, INSTR, IF, SWITCH, DOWHILE, WHILE, FOR, FOROF, FORIN, LABEL, TRY, SCOPE, RETURN, THROW, BREAK}
use Rattle.definition.specs.Tree.{CONTINUE, Statements, done, ◌▸◌, Cases, no_cases, CASE, Row, row, value_rows, update_rows, statement_rows, statements_rows}
use Rattle.definition.specs.Tree.{block_rows, for_of_row, for_in_row, cases_rows, rows, count_statements, count_cases, or_none, update_present}
use Rattle.definition.proofs.Rows.{value_append, update_append, statement_append, cases_append, block_rows_lem, block_split}
use Rattle.definition.specs.Put.{statements_out}
use Rattle.definition.proofs.Sits.{has_row}

-- their closing rows are from row a on, each after the one before, and below row b
pub data Rises : ℕ → List Labelled → ℕ → Type 0 where
  no_more : {a b : ℕ} → a ≤ b → Rises a [] b
  then_on_lem : {a b : ℕ} {l : Labelled} {ls : List Labelled} → a ≤ (line_of l).closing → Rises (suc (line_of l).closing) ls b → Rises a (l ∷ ls) b

-- the same with the numbers found from the goal
nothing : {a b : ℕ} → a ≤ b → Rises a [] b
nothing h = no_more h

one : {a b : ℕ} {l : Labelled} {ls : List Labelled} → a ≤ (line_of l).closing → Rises (suc (line_of l).closing) ls b → Rises a (l ∷ ls) b
one h r = then_on_lem h r

rises_from : {a c : ℕ} {ls : List Labelled} (b : ℕ) → a ≤ b → Rises b ls c → Rises a ls c
rises_from {a} {c} b h (no_more k) = let q : a ≤ c = omega (arith, h, k) in no_more q
rises_from {a} b h (then_on_lem {l = l} k r) = let q : a ≤ (line_of l).closing = omega (arith, h, k) in then_on_lem q r

rises_to : {a c : ℕ} {ls : List Labelled} (b : ℕ) → Rises a ls b → b ≤ c → Rises a ls c
rises_to {a} {c} b (no_more k) h = let q : a ≤ c = omega (arith, h, k) in no_more q
rises_to b (then_on_lem k r) h = then_on_lem k (rises_to b r h)

rises_append : {a c : ℕ} {ls ms : List Labelled} (b : ℕ) → Rises a ls b → Rises b ms c → Rises a (ls ++ ms) c
rises_append b (no_more k) q = rises_from b k q
rises_append b (then_on_lem k r) q = then_on_lem k (rises_append b r q)

-- ---- how many rows

block_length : (b : Statements) (k : List Row) → length (block_rows b k) ≡ rows_in (block_rows b) + length k
block_length b k = ap length (block_split b k) ∙ length-append (block_rows b []) k

value_length : (v : Value) (k : List Row) → length (value_rows v k) ≡ rows_in (value_rows v) + length k
value_length v k = ap length (value_append v [] k) ∙ length-append (value_rows v []) k

update_length : (u : Option Value) (k : List Row) → length (update_rows u k) ≡ rows_in (update_rows u) + length k
update_length u k = ap length (update_append u [] k) ∙ length-append (update_rows u []) k

-- ---- the tree

own_rises : (n : ℕ) (s : Statement) (g : Option ℕ) → Rises ((n + rows_in (statement_rows s)) - 1) (labelled_by g n s) (n + rows_in (statement_rows s))
own_rises n s none = nothing (omega arith)
own_rises n s (some g) = one (omega arith) (nothing (omega (arith, has_row s)))

-- from a body that begins at row m to the closing row
body : {n m c : ℕ} (b : Statements) → n ≤ m → Rises m (in_list m b) (m + rows_in (block_rows b)) → m + rows_in (block_rows b) ≤ c → Rises n (in_list m b) c
body {m = m} b h r k = rises_to (m + rows_in (block_rows b)) (rises_from m h r) k

bodies : {n c : ℕ} (b d : Statements) → Rises n (in_list n b) (n + rows_in (block_rows b))
    → Rises (n + rows_in (block_rows b)) (in_list (n + rows_in (block_rows b)) d) ((n + rows_in (block_rows b)) + rows_in (block_rows d))
    → (n + rows_in (block_rows b)) + rows_in (block_rows d) ≤ c → Rises n (in_list n b ++ in_list (n + rows_in (block_rows b)) d) c
bodies {n} b d p q k = rises_append (n + rows_in (block_rows b)) p (rises_to ((n + rows_in (block_rows b)) + rows_in (block_rows d)) q k)

-- a list and its BLOCK row
blocked : (n : ℕ) (s : Statements) → Rises n (in_list n s) (n + rows_in (statements_rows s)) → Rises n (in_list n s) (n + rows_in (block_rows s))
unfolding statements_out
blocked n s r = rises_to (n + rows_in (statements_rows s)) r (omega (arith, ap length (block_rows_lem s []), length-append (statements_out s) (block_row (count_statements s) ∷ [])))

mutual
  unfolding in_list

  parts_rise : (n : ℕ) (s : Statement) → Rises n (in_parts n s) ((n + rows_in (statement_rows s)) - 1)
  parts_rise n (INSTR i l s v) = nothing (omega (arith, has_row (INSTR i l s v)))
  parts_rise n (IF x i g c true a) =
      bodies c a (blocked n c (list_rises n c)) (blocked (n + rows_in (block_rows c)) a (list_rises (n + rows_in (block_rows c)) a))
      (omega (arith, block_length c (block_rows a (row 10 x 1 i (or_none g) 0 ∷ [])), block_length a (row 10 x 1 i (or_none g) 0 ∷ [])))
  parts_rise n (IF x i g c false a) = body c (omega arith) (blocked n c (list_rises n c)) (omega (arith, block_length c (row 10 x 0 i (or_none g) 0 ∷ [])))
  parts_rise n (SWITCH x i g cs) =
      rises_to (n + rows_in (cases_rows cs)) (cases_rise n cs)
      (omega (arith, ap length (cases_append cs [] (row 12 x (count_cases cs) i (or_none g) 0 ∷ [])), length-append (cases_rows cs []) (row 12 x (count_cases cs) i (or_none g) 0 ∷ [])))
  parts_rise n (DOWHILE i g b v) =
      body b (omega arith) (blocked n b (list_rises n b)) (omega (arith, block_length b (value_rows v (row 13 i (or_none g) 0 0 0 ∷ [])), value_length v (row 13 i (or_none g) 0 0 0 ∷ [])))
  parts_rise n (WHILE i g v b) =
      body b (omega arith) (blocked (n + rows_in (value_rows v)) b (list_rises (n + rows_in (value_rows v)) b))
      (omega (arith, value_length v (block_rows b (row 14 i (or_none g) 0 0 0 ∷ [])), block_length b (row 14 i (or_none g) 0 0 0 ∷ [])))
  parts_rise n (FOR i g a v u b) =
      let k : List Row = row 15 i (or_none g) (update_present u) 0 0 ∷ [] in
      body b (omega arith) (blocked (n + (rows_in (value_rows a) + (rows_in (value_rows v) + rows_in (update_rows u)))) b
      (list_rises (n + (rows_in (value_rows a) + (rows_in (value_rows v) + rows_in (update_rows u)))) b))
      (omega (arith, value_length a (value_rows v (update_rows u (block_rows b k))), value_length v (update_rows u (block_rows b k)), update_length u (block_rows b k), block_length b k))
  parts_rise n (FOROF i g s a v b) =
      let k : List Row = for_of_row i (or_none g) s ∷ [] in
      body b (omega arith) (blocked (n + (rows_in (value_rows a) + rows_in (value_rows v))) b (list_rises (n + (rows_in (value_rows a) + rows_in (value_rows v))) b))
      (omega (arith, value_length a (value_rows v (block_rows b k)), value_length v (block_rows b k), block_length b k))
  parts_rise n (FORIN i g s a b) =
      body b (omega arith) (blocked (n + rows_in (value_rows a)) b (list_rises (n + rows_in (value_rows a)) b))
      (omega (arith, value_length a (block_rows b (for_in_row i (or_none g) s ∷ [])), block_length b (for_in_row i (or_none g) s ∷ [])))
  parts_rise n (LABEL i g b) = body b (omega arith) (blocked n b (list_rises n b)) (omega (arith, block_length b (row 18 i (or_none g) 0 0 0 ∷ [])))
  parts_rise n (TRY i g m b h) =
      bodies b h (blocked n b (list_rises n b)) (blocked (n + rows_in (block_rows b)) h (list_rises (n + rows_in (block_rows b)) h))
      (omega (arith, block_length b (block_rows h (row 19 i (or_none g) (or_none m) 0 0 ∷ [])), block_length h (row 19 i (or_none g) (or_none m) 0 0 ∷ [])))
  parts_rise n (SCOPE true s b) = body b (omega arith) (blocked n b (list_rises n b)) (omega (arith, block_length b (row 21 s 0 0 0 0 ∷ [])))
  parts_rise n (SCOPE false s b) = body b (omega arith) (blocked n b (list_rises n b)) (omega (arith, block_length b (row 20 s 0 0 0 0 ∷ [])))
  parts_rise n (RETURN v i) = nothing (omega arith)
  parts_rise n (THROW v i) = nothing (omega arith)
  parts_rise n (BREAK g i k m) = nothing (omega arith)
  parts_rise n (CONTINUE g i k m) = nothing (omega arith)

  list_rises : (n : ℕ) (s : Statements) → Rises n (in_list n s) (n + rows_in (statements_rows s))
  list_rises n done = nothing (omega arith)
  list_rises n (s ▸ r) =
      rises_to ((n + rows_in (statement_rows s)) + rows_in (statements_rows r))
      (rises_append (n + rows_in (statement_rows s)) (rises_append ((n + rows_in (statement_rows s)) - 1) (parts_rise n s) (own_rises n s (label_of s)))
      (list_rises (n + rows_in (statement_rows s)) r))
      (omega (arith, ap length (statement_append s [] (statements_rows r [])), length-append (statement_rows s []) (statements_rows r [])))

  cases_rise : (n : ℕ) (cs : Cases) → Rises n (in_cases n cs) (n + rows_in (cases_rows cs))
  cases_rise n no_cases = nothing (omega arith)
  cases_rise n (CASE x b r) =
      rises_to ((n + (rows_in (block_rows b) + 1)) + rows_in (cases_rows r))
      (rises_append (n + rows_in (block_rows b)) (blocked n b (list_rises n b)) (rises_from (n + (rows_in (block_rows b) + 1)) (omega arith) (cases_rise (n + (rows_in (block_rows b) + 1)) r)))
      (omega (arith, block_length b (row 11 x 0 0 0 0 ∷ cases_rows r [])))

pub tree_rises : (root : Statements) → Rises 0 (labelled root) (rows_in (block_rows root))
tree_rises root = rises_to (0 + rows_in (block_rows root)) (blocked 0 root (list_rises 0 root)) (omega arith)

rises_count : {a b : ℕ} {ls : List Labelled} → Rises a ls b → a + length ls ≤ b
rises_count (no_more k) = omega (arith, k)
rises_count (then_on_lem k r) = omega (arith, k, rises_count r)

-- so a tree has fewer lines than rows
pub fewer_lines : (root : Statements) → length (labelled root) < length (rows root)
unfolding statements_out
fewer_lines root = omega (arith, rises_count (list_rises 0 root), ap length (block_rows_lem root []), length-append (statements_out root) (block_row (count_statements root) ∷ []))
