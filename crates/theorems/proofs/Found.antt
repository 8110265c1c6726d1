-- M-101, proved of every accepted build, in either entry: no two lines bear the same label, there are at most 1,023, and the lookup of each labelled
-- statement's label gives code 0 and just that statement's rows. For whoever calls the build.
use mathlib.Core.Path.{◌≡◌, refl, sym, ap, ◌∙◌, subst}
use Prim.Native.Nat.{ℕ, zero, suc, ◌+◌, ◌*◌, ◌-◌, ◌/◌, ◌≤◌, ◌<◌}
use native.Mathlib.Omega.{arith}
use mathlib.Core.List.{List, [], ◌∷◌, ◌++◌, append_assoc, map}
use mathlib.Core.Bool.{Bool, true, false}
use lib.ListN.{length, get_or, drop, replicate, length-append, length-map, get_or-map}
use lib.Seq.{slice, take_at, drop_at}
use lib.Dec.{leb}
use borrow.Author.Tests.{leb-true, leb-false}
use Rattle.table.specs.Table.{table_of}
use Rattle.definition.specs.Tree.{RETURN, Statements, Row, row, rows, statement_rows}
use Rattle.definition.specs.Around.{Rule}
use Rattle.definition.specs.Index.{Each, rows_in, Labelled, labelled, Line, line_of, lines, line_words}
use Rattle.definition.specs.Build.{Outcome, words_of, built}
use Rattle.definition.specs.Reading.{TreeOf}
use Rattle.theorems.specs.Indexed.{OneLineEach, InOrder, Finds, FindsLabelled}
use Rattle.definition.proofs.Accepted.{Accepted, accepted_of, words_length}
use Rattle.definition.proofs.Outcomes.{index_length, buffer_length}
use Rattle.definition.proofs.Checked.{ranged}
use Rattle.definition.proofs.Emitted.{Without, Different, tree_different, tree_few}
use Rattle.definition.proofs.TreeInBuffer.{read_tree}
use Rattle.lookup.specs.Lookup.{lines_read, line_word, part_of, found, part_found}
use Rattle.lookup.proofs.Searches.{First, as_told, as_held}
use Rattle.lookup.proofs.Answers.{by_first, part_in}
use Rattle.definition.proofs.Rises.{Rises, no_more, then_on_lem, tree_rises}
use Rattle.definition.proofs.Sits.{Sits, tree_sits}

-- ---- the words of lines

abbrev no_labelled : Labelled
no_labelled = record { label = 0; first = 0; statement = RETURN 0 0 }

abbrev line_at : List Line → ℕ → Line
line_at list i = get_or list i (line_of no_labelled)

-- the words of line i
record Words (index : List ℕ) (i : ℕ) (line : Line) : Type 0 where
  label : line_word index i 0 ≡ line.label
  first : line_word index i 1 ≡ line.first
  closing : line_word index i 2 ≡ line.closing

words_at : (list : List Line) (more : List ℕ) (i : ℕ) → i < length list → Words (line_words list ++ more) i (line_at list i)
unfolding line_words
words_at [] more i h = absurd (omega (arith, h))
words_at (line ∷ list) more zero h = record { label = refl; first = refl; closing = refl }
words_at (line ∷ list) more (suc i) h =
    let w : Words (line_words list ++ more) i (line_at list i) = words_at list more i (omega (arith, h)) in
    record { label = next 0 ∙ w.label; first = next 1 ∙ w.first; closing = next 2 ∙ w.closing }
  where
    next : (k : ℕ) → get_or (line.label ∷ line.first ∷ line.closing ∷ (line_words list ++ more)) (suc i * 3 + k) 0 ≡ get_or (line_words list ++ more) (i * 3 + k) 0
    next k =
        let e : suc i * 3 + k ≡ suc (suc (suc (i * 3 + k))) = omega arith in
        ap (λ (z : ℕ). get_or (line.label ∷ line.first ∷ line.closing ∷ (line_words list ++ more)) z 0) e

-- ---- different labels

without_at : (b : ℕ) (ls : List Labelled) → Without b ls → (i : ℕ) → i < length ls → (get_or ls i no_labelled).label ≡ b → ⊥
without_at b [] h i l e = omega (arith, l)
without_at b (x ∷ ls) h zero l e = h.0 e
without_at b (x ∷ ls) h (suc i) l e = without_at b ls h.1 i (omega (arith, l)) e

different_at : (ls : List Labelled) → Different ls → (i j : ℕ) → i < length ls → j < length ls → (get_or ls i no_labelled).label ≡ (get_or ls j no_labelled).label → i ≡ j
different_at [] h i j a b e = absurd (omega (arith, a))
different_at (x ∷ ls) h zero zero a b e = refl
different_at (x ∷ ls) h zero (suc j) a b e = absurd (without_at x.label ls h.0 j (omega (arith, b)) (sym e))
different_at (x ∷ ls) h (suc i) zero a b e = absurd (without_at x.label ls h.0 i (omega (arith, a)) e)
different_at (x ∷ ls) h (suc i) (suc j) a b e = ap suc (different_at ls h.1 i j (omega (arith, a)) (omega (arith, b)) e)

-- ---- rising closing rows

rises_above : {a b : ℕ} {ls : List Labelled} → Rises a ls b → (i : ℕ) → i < length ls → a ≤ (line_of (get_or ls i no_labelled)).closing
rises_above (no_more k) i h = absurd (omega (arith, h))
rises_above (then_on_lem k r) zero h = k
rises_above (then_on_lem k r) (suc i) h = omega (arith, k, rises_above r i (omega (arith, h)))

rises_at : {a b : ℕ} {ls : List Labelled} → Rises a ls b → (i j : ℕ) → i < j → j < length ls → (line_of (get_or ls i no_labelled)).closing < (line_of (get_or ls j no_labelled)).closing
rises_at (no_more k) i j h l = absurd (omega (arith, l))
rises_at (then_on_lem k r) i zero h l = absurd (omega (arith, h))
rises_at (then_on_lem k r) zero (suc j) h l = rises_above r j (omega (arith, l))
rises_at (then_on_lem k r) (suc i) (suc j) h l = rises_at r i j (omega (arith, h)) (omega (arith, l))

-- ---- lists

each_get : (P : Labelled → Type 0) (ls : List Labelled) → Each P ls → (i : ℕ) → i < length ls → P (get_or ls i no_labelled)
each_get P [] h i l = absurd (omega (arith, l))
each_get P (x ∷ ls) h zero l = h.0
each_get P (x ∷ ls) h (suc i) l = each_get P ls h.1 i (omega (arith, l))

each_at : (P : Labelled → Type 0) (ls : List Labelled) → ((i : ℕ) → i < length ls → P (get_or ls i no_labelled)) → Each P ls
each_at P [] f = tt
each_at P (x ∷ ls) f = (f 0 (omega arith), each_at P ls (λ i l. f (suc i) (omega (arith, l))))

words_append : (list more : List Row) → words_of (list ++ more) ≡ words_of list ++ words_of more
unfolding words_of
words_append [] more = refl
words_append (row op a b c d e ∷ list) more = ap (λ (z : List ℕ). op ∷ a ∷ b ∷ c ∷ d ∷ e ∷ z) (words_append list more)

-- ---- an accepted build

module _ (rule : Rule) (words : List ℕ) (lent lent_index : ℕ) (a : Accepted rule words lent lent_index) where
  abbrev outcome : Outcome
  outcome = built rule words lent lent_index

  abbrev entries : List Labelled
  entries = labelled a.root.statements

  number : outcome.lines ≡ length entries
  unfolding lines
  number = a.index_number ∙ length-map entries line_of

  -- line i of the index is that of labelled statement i
  line_of_lem : (i : ℕ) → i < outcome.lines → Words outcome.index i (line_of (get_or entries i no_labelled))
  unfolding lines
  line_of_lem i h = subst (λ (z : List ℕ). Words z i (line_of (get_or entries i no_labelled))) (sym a.indexed)
      (subst (λ (z : Line). Words (line_words (map line_of entries) ++ replicate (lent_index - length (map line_of entries) * 3) 0) i z) (get_or-map line_of entries i no_labelled)
      (words_at (map line_of entries) _ i (omega (arith, h, a.index_number))))

  differ : Different entries
  differ = tree_different rule (table_of words) (ranged words a.checks).few a.root a.builds

  each_once : OneLineEach outcome
  each_once i j h k e =
      different_at entries differ i j (omega (arith, h, number)) (omega (arith, k, number)) (sym (line_of_lem i h).label ∙ e ∙ (line_of_lem j k).label)

  in_order : InOrder outcome
  in_order i j h k =
      omega (arith, (line_of_lem i (omega (arith, h, k))).closing, (line_of_lem j k).closing, rises_at (tree_rises a.root.statements) i j h (omega (arith, k, number)))

  -- ---- the lookup of labelled statement i

  whole : outcome.lines * 3 ≤ lent_index
  whole = omega (arith, a.index_number, a.index_room)

  all_read : lines_read outcome.index outcome.lines ≡ outcome.lines
  all_read = by (leb (length outcome.index / 3) outcome.lines) refl
    where
      by : (y : Bool) → leb (length outcome.index / 3) outcome.lines ≡ y → lines_read outcome.index outcome.lines ≡ outcome.lines
      by true e =
          let few : length outcome.index / 3 ≤ outcome.lines = leb-true _ _ e in
          sym (as_held outcome.index outcome.lines few) ∙ omega (arith, few, whole, index_length rule words lent lent_index)
      by false e = sym (as_told outcome.index outcome.lines (leb-false _ _ e))

  module _ (i : ℕ) (h : i < outcome.lines) (s : Sits 0 (rows a.root.statements) (get_or entries i no_labelled)) where
    abbrev entry : Labelled
    entry = get_or entries i no_labelled

    abbrev size : ℕ
    size = rows_in (statement_rows entry.statement)

    abbrev closing : ℕ
    closing = (entry.first + size) - 1

    stands : length (rows a.root.statements) ≡ length s.before + (size + length s.after)
    stands = ap length s.among ∙ omega (arith, length-append s.before (statement_rows entry.statement [] ++ s.after), length-append (statement_rows entry.statement []) s.after)

    first_line : First outcome.index entry.label 0 outcome.lines i
    first_line = record {
      from = omega arith;
      read = omega (arith, h);
      has = (line_of_lem i h).label;
      none_before = λ j _ k e. not_same j k (each_once j i (omega (arith, k, h)) h (e ∙ sym (line_of_lem i h).label));
    }
      where
        not_same : (j : ℕ) → j < i → j ≡ i → ⊥
        not_same j k e = omega (arith, k, e)

    found_there : found outcome.index outcome.lines entry.label (length outcome.buffer) ≡ record { code = 0; at = 0; begin = entry.first * 6; end = (closing + 1) * 6 }
    found_there =
        by_first outcome.index outcome.lines entry.label (length outcome.buffer) i (subst (λ (n : ℕ). First outcome.index entry.label 0 n i) (sym all_read) first_line)
        ∙ ap (λ (z : ℕ). part_of z (line_word outcome.index i 2) (length outcome.buffer)) (line_of_lem i h).first
        ∙ ap (λ (z : ℕ). part_of entry.first z (length outcome.buffer)) (line_of_lem i h).closing
        ∙ ap (λ (z : ℕ). part_of entry.first closing z) (buffer_length rule words lent lent_index)
        ∙ part_in entry.first closing lent (omega (arith, s.some_row)) (omega (arith, s.some_row, s.first, stands, a.room))

    zeros : List ℕ
    zeros = replicate (lent - length (rows a.root.statements) * 6) 0

    abbrev own : List ℕ
    own = words_of (statement_rows entry.statement [])

    split : words_of (s.before ++ (statement_rows entry.statement [] ++ s.after)) ≡ words_of s.before ++ (own ++ words_of s.after)
    split =
        words_append s.before (statement_rows entry.statement [] ++ s.after)
        ∙ ap (λ (z : List ℕ). words_of s.before ++ z) (words_append (statement_rows entry.statement []) s.after)

    stands_in : outcome.buffer ≡ (words_of s.before ++ own) ++ (words_of s.after ++ zeros)
    unfolding zeros
    stands_in = a.held ∙ ap (λ (z : List Row). words_of z ++ zeros) s.among ∙ ap (λ (z : List ℕ). z ++ zeros) split ∙ simp append_assoc

    part : slice (entry.first * 6) ((closing + 1) * 6) outcome.buffer ≡ own
    part =
        ap (λ (z : List ℕ). slice (entry.first * 6) ((closing + 1) * 6) z) stands_in
        ∙ ap (λ (z : List ℕ). drop (entry.first * 6) z)
        (take_at (words_of s.before ++ own) (words_of s.after ++ zeros) ((closing + 1) * 6)
        (omega (arith, length-append (words_of s.before) own, words_length s.before, words_length (statement_rows entry.statement []), s.first, s.some_row)))
        ∙ drop_at (words_of s.before) own (entry.first * 6) (omega (arith, words_length s.before, s.first))

    finds : Finds outcome entry
    finds = ap (part_found outcome.buffer) found_there ∙ ap (λ (z : List ℕ). record { code = 0; at = 0; words = z }) part

  finds_each : FindsLabelled outcome a.root.statements
  finds_each = each_at (Finds outcome) entries (λ i h. finds i (omega (arith, h, number)) (each_get (Sits 0 (rows a.root.statements)) entries (tree_sits a.root.statements) i h))

-- "No two lines of one accepted tree bear the same label, and this is proved."
pub one_line_each : (rule : Rule) (words : List ℕ) (lent lent_index : ℕ) → (built rule words lent lent_index).code ≡ 0 → OneLineEach (built rule words lent lent_index)
one_line_each rule words lent lent_index h = each_once rule words lent lent_index (accepted_of rule words lent lent_index h)

pub lines_in_order : (rule : Rule) (words : List ℕ) (lent lent_index : ℕ) → (built rule words lent lent_index).code ≡ 0 → InOrder (built rule words lent lent_index)
lines_in_order rule words lent lent_index h = in_order rule words lent lent_index (accepted_of rule words lent lent_index h)

pub most_lines : (rule : Rule) (words : List ℕ) (lent lent_index : ℕ) → (built rule words lent lent_index).code ≡ 0 → (built rule words lent lent_index).lines ≤ 1023
most_lines rule words lent lent_index h =
    let a : Accepted rule words lent lent_index = accepted_of rule words lent lent_index h in
    omega (arith, number rule words lent lent_index a, tree_few rule (table_of words) (ranged words a.checks).few a.root a.builds)

-- "A lookup gives back the statement's own rows": in the tree that the rows in the buffer are read as
pub finds_labelled : (rule : Rule) (words : List ℕ) (lent lent_index : ℕ) → (built rule words lent lent_index).code ≡ 0 → (root : Statements) → TreeOf (built rule words lent lent_index) root
    → FindsLabelled (built rule words lent lent_index) root
finds_labelled rule words lent lent_index h root held =
    subst (λ (z : Statements). FindsLabelled (built rule words lent lent_index) z) (sym (read_tree rule words lent lent_index h root held))
    (finds_each rule words lent lent_index (accepted_of rule words lent lent_index h))
