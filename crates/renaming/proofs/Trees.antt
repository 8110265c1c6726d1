-- A tree with its labels and jumps' targets renamed, and its rows: those of the tree, renamed.
use mathlib.Core.Path.{◌≡◌, refl, sym, ap, ◌∙◌}
use Prim.Native.Nat.{ℕ, suc}
use native.Mathlib.Omega.{arith}
use mathlib.Core.List.{List, [], ◌∷◌, map}
use mathlib.Core.Option
use mathlib.Core.Option.{Option, none, some}
use mathlib.Core.Bool.{true, false}
use Rattle.definition.specs.Tree.{Value, PLAIN, LOAD, UNDEF, SEQ, LOGICAL, COND, OPTIONAL, Instructions, no_instructions, instruction, Statement, INSTR, IF}
use Rattle.definition.specs.Tree.{SWITCH, DOWHILE, WHILE, FOR, FOROF, FORIN, LABEL, TRY, SCOPE, RETURN, THROW, BREAK, CONTINUE, Statements, done, ◌▸◌, Cases}
use Rattle.definition.specs.Tree.{no_cases, CASE, Row, row, instr_row, for_of_row, for_in_row, or_none, update_present, count_statements}
use Rattle.definition.specs.Tree.{count_cases, value_rows, instructions_rows, update_rows, statement_rows, statements_rows, block_rows, cases_rows, rows}
use Rattle.renaming.specs.Renaming.{renamed_row}
use Rattle.renaming.proofs.Alike.{Moves}

abbrev mutual
  pub renamed_statement : (new : ℕ → ℕ) → Statement → Statement
  renamed_statement new (INSTR id lvalue span value) = INSTR id lvalue span value
  renamed_statement new (IF test id label consequent present alternate) = IF test id (Option.map new label) (renamed_statements new consequent) present (renamed_statements new alternate)
  renamed_statement new (SWITCH test id label cases) = SWITCH test id (Option.map new label) (renamed_cases new cases)
  renamed_statement new (DOWHILE id label body test) = DOWHILE id (Option.map new label) (renamed_statements new body) test
  renamed_statement new (WHILE id label test body) = WHILE id (Option.map new label) test (renamed_statements new body)
  renamed_statement new (FOR id label init test update body) = FOR id (Option.map new label) init test update (renamed_statements new body)
  renamed_statement new (FOROF id label span init test body) = FOROF id (Option.map new label) span init test (renamed_statements new body)
  renamed_statement new (FORIN id label span init body) = FORIN id (Option.map new label) span init (renamed_statements new body)
  renamed_statement new (LABEL id label body) = LABEL id (Option.map new label) (renamed_statements new body)
  renamed_statement new (TRY id label binding body handler) = TRY id (Option.map new label) binding (renamed_statements new body) (renamed_statements new handler)
  renamed_statement new (SCOPE pruned scope body) = SCOPE pruned scope (renamed_statements new body)
  renamed_statement new (RETURN value id) = RETURN value id
  renamed_statement new (THROW value id) = THROW value id
  renamed_statement new (BREAK target id kind loops) = BREAK (new target) id kind loops
  renamed_statement new (CONTINUE target id kind loops) = CONTINUE (new target) id kind loops

  pub renamed_statements : (new : ℕ → ℕ) → Statements → Statements
  renamed_statements new done = done
  renamed_statements new (statement ▸ rest) = renamed_statement new statement ▸ renamed_statements new rest

  pub renamed_cases : (new : ℕ → ℕ) → Cases → Cases
  renamed_cases new no_cases = no_cases
  renamed_cases new (CASE test body rest) = CASE test (renamed_statements new body) (renamed_cases new rest)

module _ (new : ℕ → ℕ) (m : Moves new) where
  abbrev renamed_rows : List Row → List Row
  renamed_rows = map (renamed_row new)

  -- "Label 65,535 is none", and is no block
  label_same : (o : Option ℕ) → or_none (Option.map new o) ≡ new (or_none o)
  label_same none = sym (m.outside 65535 (omega arith))
  label_same (some b) = refl

  mutual
    value_rows_lem : (v : Value) (after : List Row) → value_rows v (renamed_rows after) ≡ renamed_rows (value_rows v after)
    value_rows_lem (PLAIN r) after = refl
    value_rows_lem (LOAD p) after = refl
    value_rows_lem (UNDEF s) after = refl
    value_rows_lem (SEQ is id v) after = ap (instructions_rows is) (value_rows_lem v _) ∙ instructions_rows_lem is _
    value_rows_lem (LOGICAL o l r) after = ap (value_rows l) (value_rows_lem r _) ∙ value_rows_lem l _
    value_rows_lem (COND x c a) after = ap (λ (z : List Row). value_rows x (value_rows c z)) (value_rows_lem a _) ∙ (ap (value_rows x) (value_rows_lem c _) ∙ value_rows_lem x _)
    value_rows_lem (OPTIONAL f v) after = value_rows_lem v _

    instructions_rows_lem : (is : Instructions) (after : List Row) → instructions_rows is (renamed_rows after) ≡ renamed_rows (instructions_rows is after)
    instructions_rows_lem no_instructions after = refl
    instructions_rows_lem (instruction id lvalue span v rest) after = ap (λ (z : List Row). value_rows v (instr_row id lvalue span ∷ z)) (instructions_rows_lem rest after) ∙ value_rows_lem v _

  update_rows_lem : (u : Option Value) (after : List Row) → update_rows u (renamed_rows after) ≡ renamed_rows (update_rows u after)
  update_rows_lem none after = refl
  update_rows_lem (some v) after = value_rows_lem v after

  count_same : (s : Statements) → count_statements (renamed_statements new s) ≡ count_statements s
  count_same done = refl
  count_same (s ▸ rest) = ap suc (count_same rest)

  cases_same : (k : Cases) → count_cases (renamed_cases new k) ≡ count_cases k
  cases_same no_cases = refl
  cases_same (CASE x b rest) = ap suc (cases_same rest)

  mutual
    pub statement_rows_lem : (s : Statement) (after : List Row) → statement_rows (renamed_statement new s) (renamed_rows after) ≡ renamed_rows (statement_rows s after)
    statement_rows_lem (INSTR id lvalue span v) after = value_rows_lem v _
    statement_rows_lem (IF x id l c true a) after =
        ap (λ (z : ℕ). block_rows (renamed_statements new c) (block_rows (renamed_statements new a) (row 10 x 1 id z 0 ∷ renamed_rows after))) (label_same l)
        ∙ (ap (block_rows (renamed_statements new c)) (block_rows_lem a _) ∙ block_rows_lem c _)
    statement_rows_lem (IF x id l c false a) after = ap (λ (z : ℕ). block_rows (renamed_statements new c) (row 10 x 0 id z 0 ∷ renamed_rows after)) (label_same l) ∙ block_rows_lem c _
    statement_rows_lem (SWITCH x id l k) after =
        ap (λ (z : ℕ). cases_rows (renamed_cases new k) (row 12 x z id (or_none (Option.map new l)) 0 ∷ renamed_rows after)) (cases_same k)
        ∙ (ap (λ (z : ℕ). cases_rows (renamed_cases new k) (row 12 x (count_cases k) id z 0 ∷ renamed_rows after)) (label_same l) ∙ cases_rows_lem k _)
    statement_rows_lem (DOWHILE id l b x) after =
        ap (λ (z : ℕ). block_rows (renamed_statements new b) (value_rows x (row 13 id z 0 0 0 ∷ renamed_rows after))) (label_same l)
        ∙ (ap (block_rows (renamed_statements new b)) (value_rows_lem x _) ∙ block_rows_lem b _)
    statement_rows_lem (WHILE id l x b) after =
        ap (λ (z : ℕ). value_rows x (block_rows (renamed_statements new b) (row 14 id z 0 0 0 ∷ renamed_rows after))) (label_same l)
        ∙ (ap (value_rows x) (block_rows_lem b _) ∙ value_rows_lem x _)
    statement_rows_lem (FOR id l i x u b) after =
        ap (λ (z : ℕ). value_rows i (value_rows x (update_rows u (block_rows (renamed_statements new b) (row 15 id z (update_present u) 0 0 ∷ renamed_rows after))))) (label_same l)
        ∙ (ap (λ (z : List Row). value_rows i (value_rows x (update_rows u z))) (block_rows_lem b _)
        ∙ (ap (λ (z : List Row). value_rows i (value_rows x z)) (update_rows_lem u _) ∙ (ap (value_rows i) (value_rows_lem x _) ∙ value_rows_lem i _)))
    statement_rows_lem (FOROF id l s i x b) after =
        ap (λ (z : ℕ). value_rows i (value_rows x (block_rows (renamed_statements new b) (for_of_row id z s ∷ renamed_rows after)))) (label_same l)
        ∙ (ap (λ (z : List Row). value_rows i (value_rows x z)) (block_rows_lem b _) ∙ (ap (value_rows i) (value_rows_lem x _) ∙ value_rows_lem i _))
    statement_rows_lem (FORIN id l s i b) after =
        ap (λ (z : ℕ). value_rows i (block_rows (renamed_statements new b) (for_in_row id z s ∷ renamed_rows after))) (label_same l)
        ∙ (ap (value_rows i) (block_rows_lem b _) ∙ value_rows_lem i _)
    statement_rows_lem (LABEL id l b) after = ap (λ (z : ℕ). block_rows (renamed_statements new b) (row 18 id z 0 0 0 ∷ renamed_rows after)) (label_same l) ∙ block_rows_lem b _
    statement_rows_lem (TRY id l n b h) after =
        ap (λ (z : ℕ). block_rows (renamed_statements new b) (block_rows (renamed_statements new h) (row 19 id z (or_none n) 0 0 ∷ renamed_rows after))) (label_same l)
        ∙ (ap (block_rows (renamed_statements new b)) (block_rows_lem h _) ∙ block_rows_lem b _)
    statement_rows_lem (SCOPE true n b) after = block_rows_lem b _
    statement_rows_lem (SCOPE false n b) after = block_rows_lem b _
    statement_rows_lem (RETURN v id) after = refl
    statement_rows_lem (THROW v id) after = refl
    statement_rows_lem (BREAK b id k n) after = refl
    statement_rows_lem (CONTINUE b id k n) after = refl

    statements_rows_lem : (s : Statements) (after : List Row) → statements_rows (renamed_statements new s) (renamed_rows after) ≡ renamed_rows (statements_rows s after)
    statements_rows_lem done after = refl
    statements_rows_lem (s ▸ rest) after = ap (statement_rows (renamed_statement new s)) (statements_rows_lem rest after) ∙ statement_rows_lem s _

    pub block_rows_lem : (s : Statements) (after : List Row) → block_rows (renamed_statements new s) (renamed_rows after) ≡ renamed_rows (block_rows s after)
    block_rows_lem done after = refl
    block_rows_lem (s ▸ rest) after =
        ap (λ (z : ℕ). statement_rows (renamed_statement new s) (statements_rows (renamed_statements new rest) (row 9 (suc z) 0 0 0 0 ∷ renamed_rows after))) (count_same rest)
        ∙ (ap (statement_rows (renamed_statement new s)) (statements_rows_lem rest _) ∙ statement_rows_lem s _)

    cases_rows_lem : (k : Cases) (after : List Row) → cases_rows (renamed_cases new k) (renamed_rows after) ≡ renamed_rows (cases_rows k after)
    cases_rows_lem no_cases after = refl
    cases_rows_lem (CASE x b rest) after = ap (λ (z : List Row). block_rows (renamed_statements new b) (row 11 x 0 0 0 0 ∷ z)) (cases_rows_lem rest after) ∙ block_rows_lem b _

  pub tree_rows : (root : Statements) → rows (renamed_statements new root) ≡ map (renamed_row new) (rows root)
  tree_rows root = block_rows_lem root []
