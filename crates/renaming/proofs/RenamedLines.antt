-- M-101: the lines of a renamed tree are those of the tree with each label renamed, in their places.
use mathlib.Core.Path.{◌≡◌, refl, sym, ap, ◌∙◌}
use Prim.Native.Nat.{ℕ, ◌+◌, ◌-◌}
use mathlib.Core.List.{List, [], ◌∷◌, ◌++◌, map, map-append}
use mathlib.Core.Option
use mathlib.Core.Option.{Option, none, some}
use mathlib.Core.Bool.{true, false}
use lib.ListN.{length, length-map}
use Rattle.definition.specs.Tree.{Statement, INSTR, IF, SWITCH, DOWHILE, WHILE, FOR, FOROF, FORIN, LABEL, TRY, SCOPE, RETURN, THROW, BREAK, CONTINUE}
use Rattle.definition.specs.Tree.{Statements, done, ◌▸◌, Cases, no_cases, CASE, value_rows, update_rows, statement_rows, block_rows}
use Rattle.definition.specs.Index.{label_of, rows_in, Labelled, labelled_by, in_parts, in_list, in_cases, labelled, Line, line_of, lines, line_words}
use Rattle.renaming.specs.Renaming.{renamed_row, renamed_index}
use Rattle.renaming.proofs.Alike.{Moves}
use Rattle.renaming.proofs.Trees.{renamed_statement, renamed_statements, renamed_cases, statement_rows_lem, block_rows_lem}

module _ (new : ℕ → ℕ) where
  abbrev pub renamed_line : Line → Line
  renamed_line line = record { label = new line.label; first = line.first; closing = line.closing }

  -- ---- the words of lines

  pub lines_renamed : (list : List Line) (after : List ℕ) → renamed_index new (length list) (line_words list ++ after) ≡ line_words (map renamed_line list) ++ after
  unfolding renamed_index line_words
  lines_renamed [] after = refl
  lines_renamed (line ∷ list) after = ap (λ (words : List ℕ). new line.label ∷ line.first ∷ line.closing ∷ words) (lines_renamed list after)

  -- ---- the labelled statements of a renamed tree

  abbrev renamed_labelled : Labelled → Labelled
  renamed_labelled entry = record { label = new entry.label; first = entry.first; statement = renamed_statement new entry.statement }

  abbrev Renamed : (list renamed : List Labelled) → Type 0
  Renamed list renamed = renamed ≡ map renamed_labelled list

  renamed_append : (ls ms : List Labelled) {ls' ms' : List Labelled} → Renamed ls ls' → Renamed ms ms' → Renamed (ls ++ ms) (ls' ++ ms')
  renamed_append ls ms p q = rw (p, q) (sym (map-append renamed_labelled ls ms))

  own_renamed : (first : ℕ) (s : Statement) (label : Option ℕ) → Renamed (labelled_by label first s) (labelled_by (Option.map new label) first (renamed_statement new s))
  own_renamed first s none = refl
  own_renamed first s (some label) = refl

  label_renamed : (s : Statement) → label_of (renamed_statement new s) ≡ Option.map new (label_of s)
  label_renamed (INSTR i l s v) = refl
  label_renamed (IF x i g c p a) = refl
  label_renamed (SWITCH x i g cs) = refl
  label_renamed (DOWHILE i g b v) = refl
  label_renamed (WHILE i g v b) = refl
  label_renamed (FOR i g a v u b) = refl
  label_renamed (FOROF i g s a v b) = refl
  label_renamed (FORIN i g s a b) = refl
  label_renamed (LABEL i g b) = refl
  label_renamed (TRY i g m b h) = refl
  label_renamed (SCOPE p s b) = refl
  label_renamed (RETURN v i) = refl
  label_renamed (THROW v i) = refl
  label_renamed (BREAK g i k m) = refl
  label_renamed (CONTINUE g i k m) = refl

  module _ (m : Moves new) where
    -- as many rows
    statement_size : (s : Statement) → rows_in (statement_rows (renamed_statement new s)) ≡ rows_in (statement_rows s)
    statement_size s = ap length (statement_rows_lem new m s []) ∙ length-map (statement_rows s []) (renamed_row new)

    block_size : (b : Statements) → rows_in (block_rows (renamed_statements new b)) ≡ rows_in (block_rows b)
    block_size b = ap length (block_rows_lem new m b []) ∙ length-map (block_rows b []) (renamed_row new)

    mutual
      unfolding in_list

      parts_renamed : (n : ℕ) (s : Statement) → Renamed (in_parts n s) (in_parts n (renamed_statement new s))
      parts_renamed n (INSTR i l s v) = refl
      parts_renamed n (IF x i g c true a) =
          renamed_append (in_list n c) (in_list (n + rows_in (block_rows c)) a) (list_renamed n c)
          (ap (λ (z : ℕ). in_list (n + z) (renamed_statements new a)) (block_size c) ∙ list_renamed (n + rows_in (block_rows c)) a)
      parts_renamed n (IF x i g c false a) = list_renamed n c
      parts_renamed n (SWITCH x i g cs) = cases_renamed n cs
      parts_renamed n (DOWHILE i g b v) = list_renamed n b
      parts_renamed n (WHILE i g v b) = list_renamed (n + rows_in (value_rows v)) b
      parts_renamed n (FOR i g a v u b) = list_renamed (n + (rows_in (value_rows a) + (rows_in (value_rows v) + rows_in (update_rows u)))) b
      parts_renamed n (FOROF i g s a v b) = list_renamed (n + (rows_in (value_rows a) + rows_in (value_rows v))) b
      parts_renamed n (FORIN i g s a b) = list_renamed (n + rows_in (value_rows a)) b
      parts_renamed n (LABEL i g b) = list_renamed n b
      parts_renamed n (TRY i g k b h) =
          renamed_append (in_list n b) (in_list (n + rows_in (block_rows b)) h) (list_renamed n b)
          (ap (λ (z : ℕ). in_list (n + z) (renamed_statements new h)) (block_size b) ∙ list_renamed (n + rows_in (block_rows b)) h)
      parts_renamed n (SCOPE p s b) = list_renamed n b
      parts_renamed n (RETURN v i) = refl
      parts_renamed n (THROW v i) = refl
      parts_renamed n (BREAK g i k l) = refl
      parts_renamed n (CONTINUE g i k l) = refl

      list_renamed : (n : ℕ) (s : Statements) → Renamed (in_list n s) (in_list n (renamed_statements new s))
      list_renamed n done = refl
      list_renamed n (s ▸ rest) =
          renamed_append (in_parts n s ++ labelled_by (label_of s) n s) (in_list (n + rows_in (statement_rows s)) rest)
          (renamed_append (in_parts n s) (labelled_by (label_of s) n s) (parts_renamed n s)
          (ap (λ (g : Option ℕ). labelled_by g n (renamed_statement new s)) (label_renamed s) ∙ own_renamed n s (label_of s)))
          (ap (λ (z : ℕ). in_list (n + z) (renamed_statements new rest)) (statement_size s) ∙ list_renamed (n + rows_in (statement_rows s)) rest)

      cases_renamed : (n : ℕ) (k : Cases) → Renamed (in_cases n k) (in_cases n (renamed_cases new k))
      cases_renamed n no_cases = refl
      cases_renamed n (CASE x b rest) =
          renamed_append (in_list n b) (in_cases (n + (rows_in (block_rows b) + 1)) rest) (list_renamed n b)
          (ap (λ (z : ℕ). in_cases (n + (z + 1)) (renamed_cases new rest)) (block_size b) ∙ cases_renamed (n + (rows_in (block_rows b) + 1)) rest)

    line_renamed : (entry : Labelled) → line_of (renamed_labelled entry) ≡ renamed_line (line_of entry)
    line_renamed entry =
        ap (λ (z : ℕ). record { label = new entry.label; first = entry.first; closing = (entry.first + z) - 1 }) (statement_size entry.statement)

    all_renamed : (list : List Labelled) → map line_of (map renamed_labelled list) ≡ map renamed_line (map line_of list)
    all_renamed [] = refl
    all_renamed (entry ∷ list) = rw (line_renamed entry, all_renamed list) refl

    pub tree_lines : (root : Statements) → lines (renamed_statements new root) ≡ map renamed_line (lines root)
    unfolding lines
    tree_lines root = ap (map line_of) (list_renamed 0 root) ∙ all_renamed (labelled root)
