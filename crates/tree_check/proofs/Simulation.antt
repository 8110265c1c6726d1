-- The check over beginnings answers what the machine over sorts does: the stack of sorts is what stands before the next row, part before part.
use mathlib.Core.Path.{◌≡◌, refl, sym, ap, subst, ◌∙◌}
use Prim.Native.Nat.{ℕ, zero, suc, ◌+◌, ◌*◌, ◌-◌, ◌/◌, ◌<◌, ◌≤◌}
use native.Mathlib.Omega.{arith}
use mathlib.Core.List.{List, [], ◌∷◌}
use mathlib.Core.Option.{Option, none, some}
use mathlib.Core.Bool.{Bool, true, false, ◌&&◌}
use lib.ListN.{length, get_or, set, length-set}
use lib.Seq.{get_or-set_same, get_or-set_other}
use lib.Dec.{eqb, leb}
use borrow.Author.Tests.{eq-eqb, ne_eqb, eqb-true, eqb-false, leb-true}
use Rattle.std.specs.Prelude.{Result, Ok, Err, None, Some}
use Rattle.std.specs.Prelude as rust
use Rattle.definition.specs.Tree.{Row, row}
use Rattle.definition.proofs.Steps.{none_some}
use Rattle.tree_grammar.specs.Grammar.{Answer}
use Rattle.tree_grammar.specs.Ranges.{in_range}
use Rattle.tree_grammar.specs.Needs.{Sort, a_value, an_instr, a_statement, a_block, a_case, serves, parts_of, made_by, Sorts, taken, sort_step, RowsVerdict}
use Rattle.tree_grammar.specs.Needs.{accepted, refused, code_of, at_of, remainder, rows_verdict, rows_of_words, sized_verdict, tree_verdict}
use Rattle.tree_grammar.proofs.Upto.{and_both}
use Rattle.tree_grammar.proofs.Words.{words_answered}
use Rattle.tree_check.specs.declared.TreeError.{TreeError}
use Rattle.tree_check.specs.declared.TreeError.TheVariants.{RowOutOfRange, PartsMissing, NotOneTree}
use Rattle.tree_check.specs.Found.{verdict_of, answer_of, TreeChecked, checked_of, word_at, row_at, parts_begin, Ready, one_root, tree_checked}
use Rattle.tree_check.specs.Found.{TreeRead, read_from, no_begins, no_list, tree_read}
use Rattle.tree_check.proofs.SortLaws.{block_made}
use Rattle.tree_check.proofs.PartLaws.{found_low}
use Rattle.tree_check.proofs.ReadLaws.{set_low, start_ready}

abbrev Same : TreeRead → RowsVerdict → Type 0
Same read verdict = answer_of read.answer ≡ verdict

-- ---- the words as rows

abbrev rows_from : List ℕ → (i count : ℕ) → List Row
rows_from words i zero = []
rows_from words i (suc count) = row_at words i ∷ rows_from words (suc i) count

rows_length : (words : List ℕ) (i count : ℕ) → length (rows_from words i count) ≡ count
rows_length words i zero = refl
rows_length words i (suc count) = ap suc (rows_length words (suc i) count)

module _ (op a b c d e : ℕ) (words : List ℕ) where
  word_after : (i column : ℕ) → word_at (op ∷ a ∷ b ∷ c ∷ d ∷ e ∷ words) (suc i) column ≡ word_at words i column
  unfolding word_at
  word_after i column = let z : suc i * 6 + column ≡ suc (suc (suc (suc (suc (suc (i * 6 + column)))))) = omega arith in rw z

  rows_after : (i count : ℕ) → rows_from (op ∷ a ∷ b ∷ c ∷ d ∷ e ∷ words) (suc i) count ≡ rows_from words i count
  rows_after i zero = refl
  rows_after i (suc count) =
      rw (word_after i 0, word_after i 1, word_after i 2, word_after i 3, word_after i 4, word_after i 5, rows_after (suc i) count)

  first_row : row_at (op ∷ a ∷ b ∷ c ∷ d ∷ e ∷ words) 0 ≡ row op a b c d e
  unfolding word_at
  first_row = refl

whole_rows : (words : List ℕ) (n : ℕ) → length words ≡ n * 6 → rows_of_words words ≡ some (rows_from words 0 n)
whole_rows [] n h = let z : n ≡ 0 = omega arith in rw z
whole_rows (op ∷ []) n h = absurd (omega arith)
whole_rows (op ∷ a ∷ []) n h = absurd (omega arith)
whole_rows (op ∷ a ∷ b ∷ []) n h = absurd (omega arith)
whole_rows (op ∷ a ∷ b ∷ c ∷ []) n h = absurd (omega arith)
whole_rows (op ∷ a ∷ b ∷ c ∷ d ∷ []) n h = absurd (omega arith)
whole_rows (op ∷ a ∷ b ∷ c ∷ d ∷ e ∷ words) zero h = absurd (omega arith)
whole_rows (op ∷ a ∷ b ∷ c ∷ d ∷ e ∷ words) (suc n) h =
    rw (whole_rows words n (omega arith), first_row op a b c d e words, rows_after op a b c d e words 0 n)

row_words : (words : List ℕ) (list : List Row) → rows_of_words words ≡ some list → length words ≡ length list * 6
row_words [] list e = let z : [] ≡ list = cc e in rw (← z)
row_words (op ∷ []) list e = absurd (none_some e)
row_words (op ∷ a ∷ []) list e = absurd (none_some e)
row_words (op ∷ a ∷ b ∷ []) list e = absurd (none_some e)
row_words (op ∷ a ∷ b ∷ c ∷ []) list e = absurd (none_some e)
row_words (op ∷ a ∷ b ∷ c ∷ d ∷ []) list e = absurd (none_some e)
row_words (op ∷ a ∷ b ∷ c ∷ d ∷ f ∷ words) list e = by (rows_of_words words) e (λ l q. row_words words l q) refl
  where
    by : (o : Option (List Row)) → elim o [ none ↦ none | some l ↦ some (row op a b c d f ∷ l) ] ≡ some list
        → ((l : List Row) → rows_of_words words ≡ some l → length words ≡ length l * 6) → rows_of_words words ≡ o
        → length (op ∷ a ∷ b ∷ c ∷ d ∷ f ∷ words) ≡ length list * 6
    by none e on q = absurd (none_some e)
    by (some l) e on q = let z : row op a b c d f ∷ l ≡ list = cc e in rw (← z) (omega (arith, on l q))

-- ---- the stack

module _ (words : List ℕ) where
  -- the sorts of the parts before row `cursor`, the latest first
  data Stands (begins : List ℕ) : (cursor : ℕ) → Sorts → Type 0 where
    nothing : Stands begins 0 []
    a_part : {last : ℕ} {stack : Sorts} → Stands begins (get_or begins last 0) stack → Stands begins (suc last) (made_by (word_at words last 0) ∷ stack)

  abbrev Agree : List ℕ → rust.Option ℕ → Option Sorts → Type 0
  Agree begins None none = Unit {0}
  Agree begins None (some left) = ⊥
  Agree begins (Some cursor) none = ⊥
  Agree begins (Some cursor) (some left) = Stands begins cursor left

  takes_alike : (begins : List ℕ) (wanted : List Sort) {cursor : ℕ} {stack : Sorts} → Stands begins cursor stack → Agree begins (parts_begin words begins wanted cursor) (taken wanted stack)
  unfolding parts_begin
  takes_alike begins [] s = s
  takes_alike begins (sort ∷ wanted) nothing = tt
  takes_alike begins (sort ∷ wanted) (a_part {last = last} {stack = stack} s) = by (serves sort (made_by (word_at words last 0))) (takes_alike begins wanted s)
    where
      by : (y : Bool) → Agree begins (parts_begin words begins wanted (get_or begins last 0)) (taken wanted stack)
          → Agree begins (elim y [ true ↦ parts_begin words begins wanted (get_or begins last 0) | false ↦ None ]) (elim y [ true ↦ taken wanted stack | false ↦ none ])
      by true h = h
      by false h = tt

  -- what is stored for a later row leaves the stack alone
  kept : (begins : List ℕ) → ((j : ℕ) → get_or begins j 0 ≤ j) → (k first : ℕ) {cursor : ℕ} {stack : Sorts} → cursor ≤ k → Stands begins cursor stack → Stands (set begins k first) cursor stack
  kept begins low k first h nothing = nothing
  kept begins low k first h (a_part {last = last} {stack = stack} s) =
      let same : get_or (set begins k first) last 0 ≡ get_or begins last 0 = get_or-set_other begins k last first 0 (λ e. omega arith) in
      a_part {last = last} {stack = stack} (rw same (kept begins low k first (omega (arith, low last)) s))

  next_stands : (begins : List ℕ) → ((j : ℕ) → get_or begins j 0 ≤ j) → (k first : ℕ) {left : Sorts} → k < length begins → first ≤ k → Stands begins first left
      → Stands (set begins k first) (suc k) (made_by (word_at words k 0) ∷ left)
  next_stands begins low k first {left} h l s = a_part {last = k} {stack = left} (rw (get_or-set_same begins k first 0 h) (kept begins low k first l s))

  -- ---- the remainder

  data Bottom (cursor : ℕ) (stack : Sorts) : Type 0 where
    at_bottom : cursor ≡ 0 → stack ≡ [] → Bottom cursor stack
    above : (cursor ≡ 0 → ⊥) → (sort : Sort) (rest : Sorts) → stack ≡ sort ∷ rest → Bottom cursor stack

  bottom : {begins : List ℕ} {cursor : ℕ} {stack : Sorts} → Stands begins cursor stack → Bottom cursor stack
  bottom nothing = at_bottom refl refl
  bottom (a_part s) = above (λ e. omega arith) _ _ refl

  abbrev Ends : Bool → Sort → Sorts → Type 0
  Ends y sort stack = elim (y && serves a_block sort) [ true ↦ accepted | false ↦ refused 62 0 ] ≡ remainder (sort ∷ stack)

  alone : (sort : Sort) → Ends true sort []
  alone a_value = refl
  alone an_instr = refl
  alone a_statement = refl
  alone a_block = refl
  alone a_case = refl

  not_alone : (sort other : Sort) (stack : Sorts) → Ends false sort (other ∷ stack)
  not_alone a_value other stack = refl
  not_alone an_instr other stack = refl
  not_alone a_statement other stack = refl
  not_alone a_block other stack = refl
  not_alone a_case other stack = refl

  ending : (begins : List ℕ) (last : ℕ) → one_root words begins (suc last) ≡ eqb (get_or begins last 0) 0 && serves a_block (made_by (word_at words last 0))
  unfolding one_root
  ending begins last =
      let z : suc last - 1 ≡ last = omega arith in
      ap (λ (k : ℕ). eqb (get_or begins k 0) 0 && eqb (word_at words k 0) 9) z
      ∙ ap (λ (y : Bool). eqb (get_or begins last 0) 0 && y) (block_made (word_at words last 0))

  told : (y : Bool) → answer_of {X = Unit {0}} (elim y [ true ↦ Ok tt | false ↦ Err NotOneTree ]) ≡ elim y [ true ↦ accepted | false ↦ refused 62 0 ]
  told true = refl
  told false = refl

  remains : (begins : List ℕ) {cursor : ℕ} {stack : Sorts} → 1 ≤ cursor → Stands begins cursor stack → Same (read_from words begins cursor 0) (remainder stack)
  unfolding read_from
  remains begins h nothing = absurd (omega arith)
  remains begins h (a_part {last = last} {stack = stack} s) =
      told (one_root words begins (suc last)) ∙ (ap (λ (y : Bool). elim y [ true ↦ accepted | false ↦ refused 62 0 ]) (ending begins last) ∙ by (bottom s))
    where
      by : Bottom (get_or begins last 0) stack → Ends (eqb (get_or begins last 0) 0) (made_by (word_at words last 0)) stack
      by (at_bottom e q) = rw (eq-eqb (get_or begins last 0) 0 e, q) (alone (made_by (word_at words last 0)))
      by (above f sort rest q) = rw (ne_eqb (get_or begins last 0) 0 f, q) (not_alone (made_by (word_at words last 0)) sort rest)

  -- ---- the rows

  alike : (count i : ℕ) (begins : List ℕ) (stack : Sorts) → ((k : ℕ) → get_or begins k 0 ≤ k) → i + count ≤ length begins → 1 ≤ i + count → Stands begins i stack
      → Same (read_from words begins i count) (rows_verdict (rows_from words i count) i stack)
  unfolding read_from rows_verdict sort_step
  alike zero i begins stack low room some_row s = remains begins (omega arith) s
  alike (suc count) i begins stack low room some_row s =
      by (in_range (row_at words i)) (parts_begin words begins (parts_of (row_at words i)) i) (taken (parts_of (row_at words i)) stack) refl (takes_alike begins (parts_of (row_at words i)) s)
      (λ first left l q. alike count (suc i) (set begins i first) (made_by (word_at words i 0) ∷ left) (set_low begins i first low (omega arith) l)
      (omega (arith, length-set begins i first)) (omega arith) (next_stands begins low i first (omega arith) l q))
    where
      by : (y : Bool) (o : rust.Option ℕ) (t : Option Sorts) → parts_begin words begins (parts_of (row_at words i)) i ≡ o → Agree begins o t
          → ((first : ℕ) (left : Sorts) → first ≤ i → Stands begins first left
          → Same (read_from words (set begins i first) (suc i) count) (rows_verdict (rows_from words (suc i) count) (suc i) (made_by (word_at words i 0) ∷ left)))
          → Same
          (elim y [
            | true ↦ elim o [ None ↦ record { answer = Err (PartsMissing i); begin = begins } | Some first ↦ read_from words (set begins i first) (suc i) count ]
            | false ↦ record { answer = Err (RowOutOfRange i); begin = begins }
          ])
          (elim y [
            | true ↦
                elim (elim t as (λ x. Option Sorts) [ none ↦ none | some left ↦ some (made_by (word_at words i 0) ∷ left) ]) [
                  | none ↦ refused 61 i
                  | some next ↦ rows_verdict (rows_from words (suc i) count) (suc i) next
                ]
            | false ↦ refused 60 i
          ])
      by false o t q a on = refl
      by true None none q a on = refl
      by true None (some left) q a on = absurd a
      by true (Some first) none q a on = absurd a
      by true (Some first) (some left) q a on = on first left (found_low words begins low (parts_of (row_at words i)) i first q) a

  -- ---- the whole

  abbrev SizedSame : Bool → Type 0
  SizedSame y = Same (elim y [ true ↦ read_from words no_begins 0 (length words / 6) | false ↦ no_list ])
      (elim y [ true ↦ rows_verdict (rows_from words 0 (length words / 6)) 0 [] | false ↦ refused 62 0 ])

  sized_same : (y : Bool) → leb 1 (length words / 6) && leb (length words / 6) 2048 ≡ y → SizedSame y
  sized_same false e = refl
  sized_same true e =
      let h : (leb 1 (length words / 6) ≡ true) × (leb (length words / 6) 2048 ≡ true) = and_both _ _ e in
      let start : Ready words no_begins 0 = start_ready words in
      alike (length words / 6) 0 no_begins [] start.low (omega (arith, start.size, leb-true (length words / 6) 2048 h.1)) (omega (arith, leb-true 1 (length words / 6) h.0)) nothing

  sized_verdict_lem : sized_verdict (rows_from words 0 (length words / 6))
      ≡ elim (leb 1 (length words / 6) && leb (length words / 6) 2048) [ true ↦ rows_verdict (rows_from words 0 (length words / 6)) 0 [] | false ↦ refused 62 0 ]
  sized_verdict_lem =
      ap (λ (n : ℕ). elim (leb 1 n && leb n 2048) [ true ↦ rows_verdict (rows_from words 0 (length words / 6)) 0 [] | false ↦ refused 62 0 ]) (rows_length words 0 (length words / 6))

  pub read_answers : Same (tree_read words) (tree_verdict words)
  unfolding tree_read tree_verdict
  read_answers = by (eqb (length words) (length words / 6 * 6)) refl
    where
      by : (y : Bool) → eqb (length words) (length words / 6 * 6) ≡ y
          → Same (elim (y && (leb 1 (length words / 6) && leb (length words / 6) 2048)) [ true ↦ read_from words no_begins 0 (length words / 6) | false ↦ no_list ]) (tree_verdict words)
      by true e = rw (whole_rows words (length words / 6) (eqb-true _ _ e), tree_verdict, sized_verdict_lem) (sized_same _ refl)
      by false e = rw (no_rows (rows_of_words words) refl, tree_verdict) refl
        where
          no_rows : (o : Option (List Row)) → rows_of_words words ≡ o → rows_of_words words ≡ none
          no_rows none q = q
          no_rows (some list) q = absurd (eqb-false (length words) (length words / 6 * 6) e (omega (arith, row_words words list q)))

  pub told_so : (result : Result (Unit {0}) TreeError) (begins : List ℕ) → record { answer = result; begin = begins } ≡ tree_read words → checked_of result ≡ tree_checked words
  told_so result begins e = ap (λ (r : TreeRead). checked_of r.answer) e ∙ ap (λ (v : RowsVerdict). record { code = code_of v; at = at_of v }) read_answers

  pub refused_so : {error : TreeError} {begins : List ℕ} → record { answer = Err error; begin = begins } ≡ tree_read words
      → record { code = code_of (verdict_of error); at = at_of (verdict_of error) } ≡ tree_checked words
  refused_so {error} {begins} e = told_so (Err error) begins e

  pub accepted_so : {begins : List ℕ} → record { answer = Ok tt; begin = begins } ≡ tree_read words → record { code = 0; at = 0 } ≡ tree_checked words
  accepted_so {begins} e = told_so (Ok tt) begins e

  -- which is the grammar's answer
  pub refused_answer : {error : TreeError} {begins : List ℕ} → record { answer = Err error; begin = begins } ≡ tree_read words
      → Answer words (code_of (verdict_of error)) (at_of (verdict_of error))
  refused_answer {error} {begins} e = subst (λ (c : TreeChecked). Answer words c.code c.at) (sym (refused_so e)) (words_answered words)

  pub accepted_answer : {begins : List ℕ} → record { answer = Ok tt; begin = begins } ≡ tree_read words → Answer words 0 0
  accepted_answer {begins} e = subst (λ (c : TreeChecked). Answer words c.code c.at) (sym (accepted_so e)) (words_answered words)
