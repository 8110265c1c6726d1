-- Every outcome, for any words and any lent buffers: a refusal with zeros, 40 with the number of rows needed, 41, or the rows and the lines and then zeros.
-- For the reader.
use mathlib.Core.Path.{◌≡◌, refl, ◌∙◌, subst}
use Prim.Native.Nat.{ℕ, ◌*◌, ◌-◌, ◌/◌, ◌≤◌}
use native.Mathlib.Omega.{arith}
use mathlib.Core.List.{List, ◌++◌}
use mathlib.Core.Bool.{Bool, true, false, ◌||◌}
use lib.ListN.{length, replicate, length-append, length-replicate}
use lib.Dec.{T, eqb, leb}
use borrow.Author.Tests.{leb-true}
use Rattle.table.specs.Check.{Verdict, checked}
use Rattle.table.specs.Check as check
use Rattle.table.specs.Table.{table_of}
use Rattle.definition.specs.Tree.{Statements, Row, rows}
use Rattle.definition.specs.Around.{Rule}
use Rattle.definition.specs.Index.{Line, lines, line_words}
use Rattle.definition.specs.Build.{Report, accepted, rejected, report, Outcome, refusal, words_of, placed, outcome_of, after_check, built}
use Rattle.definition.proofs.Steps.{of_paper}
use Rattle.definition.proofs.Never.{never_of_paper}
use Rattle.definition.proofs.Checked.{of_check, Coded, coded}
use Rattle.definition.proofs.Accepted.{Accepted, accepted_of, words_length, line_words_length}

-- the code of a refusal of words or of a table: 1 to 4, 10 to 31
abbrev pub of_input : ℕ → Bool
of_input code = of_check code || of_paper code

of_check_lem : (code : ℕ) → T (of_check code) → T (of_input code)
of_check_lem code h = by (of_check code) h
  where
    by : (y : Bool) → T y → T (y || of_paper code)
    by true k = tt
    by false k = absurd k

of_table : (code : ℕ) → T (of_paper code) → T (of_input code)
of_table code h = by (of_check code)
  where
    by : (y : Bool) → T (y || of_paper code)
    by true = tt
    by false = h

-- "Accepted: at 0, the buffer holds the rows, then zeros", and the index its lines
abbrev pub acceptance : (lent lent_index : ℕ) → List Row → List Line → (visits : ℕ) → Outcome
acceptance lent lent_index list lines visits = record {
  code = 0;
  at = 0;
  rows = length list;
  visits = visits;
  lines = length lines;
  buffer = words_of list ++ replicate (lent - length list * 6) 0;
  index = line_words lines ++ replicate (lent_index - length lines * 3) 0;
}

-- what holds of each kind of outcome holds of all
module _ (rule : Rule) (P : Outcome → Type 0) (lent lent_index : ℕ)
    (on_refusal : (code at visits : ℕ) → T (of_input code) → P (refusal code at 0 visits lent lent_index))
    (on_full : (list : List Row) (visits : ℕ) → P (refusal 40 0 (length list) visits lent lent_index))
    (on_full_index : (visits : ℕ) → P (refusal 41 0 0 visits lent lent_index))
    (on_fit : (list : List Row) (lines : List Line) (visits : ℕ) → length list ≤ lent / 6 → length lines ≤ lent_index / 3 → P (acceptance lent lent_index list lines visits)) where
  on_lines : (list : List Row) (lines : List Line) (visits : ℕ) → length list ≤ lent / 6 → (fits : Bool) → leb (length lines) (lent_index / 3) ≡ fits
      → P (elim fits [ true ↦ acceptance lent lent_index list lines visits | false ↦ refusal 41 0 0 visits lent lent_index ])
  on_lines list lines visits h true e = on_fit list lines visits h (leb-true (length lines) (lent_index / 3) e)
  on_lines list lines visits h false e = on_full_index visits

  on_rows : (list : List Row) (lines : List Line) (visits : ℕ) → P (placed lent lent_index list lines visits)
  unfolding placed
  on_rows list lines visits = by (leb (length list) (lent / 6)) refl
    where
      by : (fits : Bool) → leb (length list) (lent / 6) ≡ fits → P (elim fits [
        | true ↦ elim (leb (length lines) (lent_index / 3)) [ true ↦ acceptance lent lent_index list lines visits | false ↦ refusal 41 0 0 visits lent lent_index ]
        | false ↦ refusal 40 0 (length list) visits lent lent_index
      ])
      by true e = on_lines list lines visits (leb-true (length list) (lent / 6) e) (leb (length lines) (lent_index / 3)) refl
      by false e = on_full list visits

  on_report : (words : List ℕ) (r : Report) → report rule (table_of words) ≡ r → P (outcome_of lent lent_index r)
  unfolding outcome_of
  on_report words (accepted list lines visits) e = on_rows list lines visits
  on_report words (rejected code at visits) e = on_refusal code at visits (of_table code (never_of_paper rule (table_of words) code at visits e))

  on_verdict : (words : List ℕ) (v : Verdict) → checked words ≡ v → P (after_check rule lent lent_index v words)
  unfolding after_check
  on_verdict words check.accepted e = on_report words (report rule (table_of words)) refl
  on_verdict words (check.refused code at) e = on_refusal code at 0 (of_check_lem code (subst Coded e (coded words)))

  pub every_outcome : (words : List ℕ) → P (built rule words lent lent_index)
  unfolding built
  every_outcome words = on_verdict words (checked words) refl

-- ---- for any words and any lent buffers

-- 0, a refusal of the words or of the table, 40 or 41
abbrev pub of_outcome : ℕ → Bool
of_outcome code = eqb code 0 || of_input code || eqb code 40 || eqb code 41

refused_input : (code : ℕ) → T (of_input code) → code ≡ 0 → ⊥
refused_input code h e = subst (λ (n : ℕ). T (of_input n)) e h

module _ (rule : Rule) (words : List ℕ) (lent lent_index : ℕ) where
  pub outcome_code : T (of_outcome (built rule words lent lent_index).code)
  unfolding refusal
  outcome_code =
      every_outcome rule (λ o. T (of_outcome o.code)) lent lent_index
      (λ code at visits h. among code h) (λ list visits. tt) (λ visits. tt) (λ list lines visits h k. tt) words
    where
      among : (code : ℕ) → T (of_input code) → T (of_outcome code)
      among code h = by (eqb code 0) (of_input code) h
        where
          by : (x y : Bool) → T y → T (x || y || eqb code 40 || eqb code 41)
          by true y k = tt
          by false true k = tt
          by false false k = absurd k

  -- "A refused build leaves zeros in both buffers", and no line is told
  pub refused_zeros : ((built rule words lent lent_index).code ≡ 0 → ⊥)
      → ((built rule words lent lent_index).buffer ≡ replicate lent 0) × ((built rule words lent lent_index).index ≡ replicate lent_index 0) × ((built rule words lent lent_index).lines ≡ 0)
  unfolding refusal
  refused_zeros =
      every_outcome rule (λ o. (o.code ≡ 0 → ⊥) → (o.buffer ≡ replicate lent 0) × (o.index ≡ replicate lent_index 0) × (o.lines ≡ 0)) lent lent_index
      (λ code at visits h _. (refl, refl, refl)) (λ list visits _. (refl, refl, refl)) (λ visits _. (refl, refl, refl))
      (λ list lines visits h k not_accepted. absurd (not_accepted refl)) words

  -- "Rows is 0 except at 40", of refusals
  pub refused_rows : ((built rule words lent lent_index).code ≡ 0 → ⊥) → ((built rule words lent lent_index).code ≡ 40 → ⊥) → (built rule words lent lent_index).rows ≡ 0
  unfolding refusal
  refused_rows =
      every_outcome rule (λ o. (o.code ≡ 0 → ⊥) → (o.code ≡ 40 → ⊥) → o.rows ≡ 0) lent lent_index
      (λ code at visits h _ _. refl) (λ list visits _ not_full. absurd (not_full refl)) (λ visits _ _. refl)
      (λ list lines visits h k not_accepted _. absurd (not_accepted refl)) words

  pub accepted_at : (built rule words lent lent_index).code ≡ 0 → (built rule words lent lent_index).at ≡ 0
  unfolding refusal
  accepted_at =
      every_outcome rule (λ o. o.code ≡ 0 → o.at ≡ 0) lent lent_index
      (λ code at visits h e. absurd (refused_input code h e)) (λ list visits e. refl) (λ visits e. refl) (λ list lines visits h k e. refl) words

  pub accepted_fits : (built rule words lent lent_index).code ≡ 0 → ((built rule words lent lent_index).rows * 6 ≤ lent) × ((built rule words lent lent_index).lines * 3 ≤ lent_index)
  unfolding refusal
  accepted_fits =
      every_outcome rule (λ o. o.code ≡ 0 → (o.rows * 6 ≤ lent) × (o.lines * 3 ≤ lent_index)) lent lent_index
      (λ code at visits h e. absurd (refused_input code h e)) (λ list visits e. absurd (omega (arith, e))) (λ visits e. absurd (omega (arith, e)))
      (λ list lines visits h k e. (omega (arith, h), omega (arith, k))) words

  pub buffer_length : length (built rule words lent lent_index).buffer ≡ lent
  unfolding refusal
  buffer_length =
      every_outcome rule (λ o. length o.buffer ≡ lent) lent lent_index
      (λ code at visits h. length-replicate lent 0) (λ list visits. length-replicate lent 0) (λ visits. length-replicate lent 0)
      (λ list lines visits h k. length-append (words_of list) (replicate (lent - length list * 6) 0)
      ∙ omega (arith, h, words_length list, length-replicate {A = ℕ} (lent - length list * 6) 0)) words

  pub index_length : length (built rule words lent lent_index).index ≡ lent_index
  unfolding refusal
  index_length =
      every_outcome rule (λ o. length o.index ≡ lent_index) lent lent_index
      (λ code at visits h. length-replicate lent_index 0) (λ list visits. length-replicate lent_index 0) (λ visits. length-replicate lent_index 0)
      (λ list lines visits h k. length-append (line_words lines) (replicate (lent_index - length lines * 3) 0)
      ∙ omega (arith, k, line_words_length lines, length-replicate {A = ℕ} (lent_index - length lines * 3) 0)) words

  -- one equation for all that a refusal shows
  pub refused_form : ((built rule words lent lent_index).code ≡ 0 → ⊥)
      → built rule words lent lent_index
      ≡ refusal (built rule words lent lent_index).code (built rule words lent lent_index).at (built rule words lent lent_index).rows (built rule words lent lent_index).visits lent lent_index
  unfolding refusal
  refused_form =
      every_outcome rule (λ o. (o.code ≡ 0 → ⊥) → o ≡ refusal o.code o.at o.rows o.visits lent lent_index) lent lent_index
      (λ code at visits h _. refl) (λ list visits _. refl) (λ visits _. refl) (λ list lines visits h k not_accepted. absurd (not_accepted refl)) words

  -- and for all that an accepted build shows
  pub accepted_form : (built rule words lent lent_index).code ≡ 0 → (root : Statements)
      × (length (rows root) * 6 ≤ lent)
      × (built rule words lent lent_index ≡ acceptance lent lent_index (rows root) (lines root) (built rule words lent lent_index).visits)
  accepted_form h =
      let a : Accepted rule words lent lent_index = accepted_of rule words lent lent_index h in (
        a.root.statements,
        omega (arith, (accepted_fits h).0, a.number),
        (λ i. record {
          code = h i;
          at = accepted_at h i;
          rows = a.number i;
          visits = (built rule words lent lent_index).visits;
          lines = a.index_number i;
          buffer = a.held i;
          index = a.indexed i;
        }),
      )
