-- From what the functions give to what a file gives.
use mathlib.Core.Path.{◌≡◌, refl, sym, ap, ◌∙◌, subst}
use Prim.Native.Nat.{ℕ, zero, suc, ◌+◌, ◌-◌, ◌<◌, ◌≤◌}
use native.Mathlib.Omega.{arith}
use native.Mathlib.Numerals.{add-one}
use mathlib.Core.List.{List}
use mathlib.Core.Bool.{Bool, true, false}
use lib.ListN.{length, get_or, take, drop, drop_of_length-le, length-take, length-drop}
use lib.Seq.{drop-cons, take_all}
use lib.Dec.{leb}
use borrow.Author.Tests.{eq-eqb, ne_eqb, le-leb, lt-leb, leb-true}
use Rattle.std.specs.Prelude.{Option, Some, None, Result, Ok, Err, MatchOption, MatchResult, unwrap_or}
use Rattle.text.specs.Lent.{Holds}
use Rattle.text.specs.Printed.{tree_names}
use Rattle.text.proofs.LentLaws.{holds_all}
use Rattle.tree_grammar.specs.Grammar.{Answer}
use Rattle.tree_grammar.specs.Needs.{tree_verdict, code_of, at_of}
use Rattle.tree_grammar.proofs.Words.{words_answered}
use Rattle.tree_check.specs.Found.{TreeChecked}
use Rattle.tree_check.specs.Read.{WordsRead, Refused, checked_as}
use Rattle.tree_check.specs.declared.file.BadByte.{BadByte}
use Rattle.tree_check.proofs.FileLaws.{too_many_words}
use Rattle.tree_runs.specs.Ran.{Outcome, refusal}
use Rattle.tree_runs.specs.Given.{refused, run_of}
use Rattle.tree_runs.proofs.OneOutcome.{given_is}
use Rattle.tree_run.specs.Given.{Given, stopped, read, answer_names, opens_answers, answers_from, given_from, file_given, run_given, file_run}
use Rattle.tree_run.specs.Prints.{AnswersAt}

-- ---- where the answers begin

module _ (file : List ℕ) where
  abbrev pub Opens : ℕ → Type 0
  Opens k = get_or file k 0 ≡ 97

  abbrev pub Other : ℕ → Type 0
  Other k = get_or file k 0 ≡ 97 → ⊥

  -- what is left of the bytes has the place that the whole has
  record Looking (at : ℕ) : Type 0 where
    pub rest : answers_from 0 file ≡ answers_from at (drop at file)
    pub within : at ≤ length file

  looking_start : Looking 0
  looking_start = record { rest = refl; within = omega arith }

  module _ {at : ℕ} (l : Looking at) where
    module _ (more : at < length file) {opens : Bool} (is : opens ≡ opens_answers at (get_or file at 0)) where
      opened : answers_from at (drop at file) ≡ elim (opens_answers at (get_or file at 0)) [ true ↦ at | false ↦ answers_from (suc at) (drop (suc at) file) ]
      opened = unfold answers_from in rw (drop-cons file at 0 more)

      found_here : opens ≡ true → AnswersAt file at
      found_here e =
          let here : answers_from at (drop at file) ≡ at = opened ∙ rw (sym is ∙ e) in
          record { is = sym (l.rest ∙ here); within = l.within }

      look_on : opens ≡ false → Looking (at + 1)
      look_on e =
          let on : answers_from at (drop at file) ≡ answers_from (at + 1) (drop (at + 1) file) = opened ∙ rw (sym is ∙ e, add-one at) in
          record { rest = l.rest ∙ on; within = omega arith }

    none_there : length file ≤ at → AnswersAt file (length file)
    none_there h = record { is = omega (arith, l.rest, nothing, h, l.within); within = omega arith }
      where
        nothing : answers_from at (drop at file) ≡ at
        nothing = unfold answers_from in rw (drop_of_length-le file h)

  -- no byte before this one opens the answers
  look_to : (at : ℕ) → at ≤ length file → ((k : ℕ) → 13 ≤ k → k < at → Other k) → Looking at
  look_to zero h f = looking_start
  look_to (suc at) h f = rw (← add-one at) (look_on (look_to at (omega (arith, h)) (λ k a b. f k a (omega (arith, b)))) (omega (arith, h)) refl (by (leb 13 at) refl))
    where
      by : (y : Bool) → leb 13 at ≡ y → opens_answers at (get_or file at 0) ≡ false
      by true e = rw e (ne_eqb (get_or file at 0) 97 (f at (leb-true 13 at e) (omega arith)))
      by false e = rw e refl

  pub looked : (found : Option ℕ)
      → MatchOption found ((k : ℕ) → 13 ≤ k → k < length file → Other k) (λ i. (13 ≤ i) × (i < length file) × Opens i × ((k : ℕ) → 13 ≤ k → k < i → Other k))
      → AnswersAt file (unwrap_or found (length file))
  looked None f = none_there (look_to (length file) (omega arith) f) (omega arith)
  looked (Some i) f = found_here (look_to i (omega (arith, f.1)) f.3) f.1 refl (rw (le-leb 13 i f.0, eq-eqb (get_or file i 0) 97 f.2) refl)

-- ---- the rows' words

module _ {lent_words : List ℕ} {count : ℕ} {list : List ℕ} (h : Holds lent_words count list) (answers : List ℕ) (lent : ℕ) {o : Outcome} where
  pub words_too_many : length lent_words ≡ 12288 → length lent_words < count → o ≡ refusal 62 0 lent → o ≡ run_of list answers lent
  words_too_many room l q =
      let c : checked_as list (record { code = 62; at = 0 }) = too_many_words room h l in
      let code : 62 ≡ code_of (tree_verdict list) = ap (λ (r : TreeChecked). r.code) c in
      let at : 0 ≡ at_of (tree_verdict list) = ap (λ (r : TreeChecked). r.at) c in
      let answered : Answer list 62 0 =
      subst (λ (n : ℕ). Answer list n 0) (sym code) (subst (λ (n : ℕ). Answer list (code_of (tree_verdict list)) n) (sym at) (words_answered list)) in
      q ∙ given_is list answers lent (refused 62 0 answered (λ z. omega (arith, z)))

  pub words_run : count ≤ length lent_words → o ≡ run_of (take count lent_words) answers lent → o ≡ run_of list answers lent
  words_run l g = g ∙ ap (λ (z : List ℕ). run_of z answers lent) (holds_all lent_words count list h l)

-- ---- the answers, where the place of a refusal is counted from the file's first byte

abbrev Reading : Type 0
Reading = Result ℕ BadByte

pub answers_read : (r : Reading) {given : ℕ} → MatchResult r (λ x. ◌≡◌ {A = Reading} (Ok given) (Ok x)) (λ e. ⊥) → r ≡ Ok given
answers_read (Ok x) m = sym m
answers_read (Err e) m = absurd m

pub answers_misread : (from : ℕ) (bad : BadByte) (r : Reading) → MatchResult r (λ x. ◌≡◌ {A = Reading} (Err bad) (Ok x)) (λ e. bad ≡ record { at = from + e.at })
    → (e : BadByte) × (r ≡ Err e) × (bad ≡ record { at = from + e.at })
answers_misread from bad (Ok x) m = cc
answers_misread from bad (Err e) m = (e, refl, m)

-- ---- the file

-- the part from a byte on, as a slice has it
pub part_is : (file : List ℕ) (from : ℕ) → take (length file - from) (drop from file) ≡ drop from file
part_is file from = take_all (length file - from) (drop from file) (rw (length-drop from file) (omega arith))

pub part_few : (file : List ℕ) (from : ℕ) → length (take (length file - from) (drop from file)) ≤ length file - from
part_few file from = rw (length-take (length file - from) (drop from file)) (omega arith)

parted : {file : List ℕ} {from : ℕ} → AnswersAt file from → file_given file ≡ given_from from file
unfolding file_given
parted a = rw (← a.is)

runs_given : (rows answers : List ℕ) (lent : ℕ) → run_of rows answers lent ≡ run_given (read rows answers) lent
unfolding run_given
runs_given rows answers lent = refl

module _ (file : List ℕ) (lent : ℕ) {o : Outcome} where
  pub file_long : 262144 < length file → o ≡ refusal 51 0 lent → o ≡ file_run file lent
  unfolding file_run
  file_long h q = q ∙ rw (lt-leb (length file) 262144 h, file_run)

  module _ (short : length file ≤ 262144) {from : ℕ} (a : AnswersAt file from) where
    -- a file within the limit gives what its two parts give
    of_parts : {given : Given} → given_from from file ≡ given → o ≡ run_given given lent → o ≡ file_run file lent
    of_parts {given} e q =
        let within : file_run file lent ≡ run_given (file_given file) lent = unfold file_run in rw (le-leb (length file) 262144 short, file_run) in
        q ∙ sym (within ∙ ap (λ (g : Given). run_given g lent) (parted a ∙ e))

    pub rows_refused : {at : ℕ} → Refused tree_names 5 (take from file) at → o ≡ refusal 50 at lent → o ≡ file_run file lent
    rows_refused {at} r q = of_parts {given = stopped at} (rw r.is) (q ∙ unfold run_given in refl)

    module _ {lent_words : List ℕ} {count : ℕ} (p : WordsRead tree_names 5 (take from file) lent_words count) {part : List ℕ} (is : part ≡ drop from file) where
      pub answers_refused : {at : ℕ} → Refused answer_names 0 part at → o ≡ refusal 50 (from + at) lent → o ≡ file_run file lent
      answers_refused {at} r q = of_parts {given = stopped (from + at)} (rw (p.is, ← is, r.is)) (q ∙ unfold run_given in refl)

      pub file_runs : {lent_answers : List ℕ} {given : ℕ} → WordsRead answer_names 0 part lent_answers given → given ≤ length lent_answers
          → ((list : List ℕ) → Holds lent_words count list → o ≡ run_of list (take given lent_answers) lent) → o ≡ file_run file lent
      file_runs {lent_answers} {given} s fits h =
          let held : take given lent_answers ≡ s.list = holds_all lent_answers given s.list s.held fits in
          let ran : o ≡ run_given (read p.list s.list) lent = h p.list p.held ∙ ap (λ (z : List ℕ). run_of p.list z lent) held ∙ runs_given p.list s.list lent in
          of_parts {given = read p.list s.list} (rw (p.is, ← is, s.is)) ran
