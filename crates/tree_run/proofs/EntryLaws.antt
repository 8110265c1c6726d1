-- The whole run: from what the check accepts to the definition's outcome.
use mathlib.Core.Path.{◌≡◌, refl, sym, ap, ◌∙◌, subst}
use mathlib.Core.Logic.{◌⊎◌, inl, inr}
use Prim.Native.Nat.{ℕ, zero, suc, ◌+◌, ◌*◌, ◌-◌, ◌/◌, ◌<◌, ◌≤◌}
use native.Mathlib.Omega.{arith}
use native.Mathlib.Nat.{le_refl}
use mathlib.Core.List.{List, [], ◌∷◌, map}
use mathlib.Core.Option.{Option, none, some}
use mathlib.Core.Bool.{Bool, true, false}
use lib.ListN.{length, get_or, take, length-map, length-take}
use lib.Seq.{ext_get_or, get_or-take}
use borrow.Author.Tests.{le-leb, lt-leb, ne_eqb}
use Rattle.std.specs.Prelude.{Result, Ok, Err, Some, None}
use Rattle.table.specs.Words.{largest}
use Rattle.table.specs.Table.{unless_none}
use Rattle.table.specs.Check as check
use Rattle.table.specs.Check.{unused, fits}
use Rattle.definition.specs.Tree.{Row, row, Statements}
use Rattle.definition.specs.Tree as tree
use Rattle.definition.specs.Reading.{ReadAs}
use Rattle.definition.specs.Build.{words_of}
use Rattle.definition.specs.Run.{Answers, Reason, returned, threw, no_answer_left, not_plain, no_target, end_of_tree, no_such_case}
use Rattle.definition.specs.TreeRun.{Completed, run_statements, reason_of}
use Rattle.tree_grammar.specs.Ranges.{rules_by_op, in_range, all_in_range}
use Rattle.tree_grammar.specs.Grammar.{most_rows, Answer, no_list, of_rows, one_tree, out_of_range, no_parts, remainder}
use Rattle.tree_grammar.specs.Needs.{code_of, at_of}
use Rattle.tree_grammar.proofs.Upto.{and_both}
use Rattle.tree_grammar.proofs.Sound.{in_range_lem}
use Rattle.tree_check.specs.declared.TreeError.{TreeError}
use Rattle.tree_check.specs.declared.TreeError.TheVariants.{RowOutOfRange, PartsMissing, NotOneTree}
use Rattle.tree_check.specs.Found.{verdict_of, word_at, row_at, tree_read, Begun}
use Rattle.tree_check.proofs.Simulation.{refused_answer, accepted_answer}
use Rattle.tree_check.proofs.Begins.{begins_found}
use Rattle.tree_runs.specs.Numbered.{end_statements, numbered}
use Rattle.tree_runs.specs.Links.{Links}
use Rattle.tree_runs.specs.Machine.{enter, state}
use Rattle.tree_runs.specs.Machine as machine
use Rattle.tree_runs.specs.Ran.{Outcome, not_run, first_not_run, refusal, performed_all, ended, from_reached, after_sorts, ran}
use Rattle.tree_runs.specs.Given.{RunGives, refused, runs}
use Rattle.tree_runs.proofs.Lays.{Targets, Stand, at_end, stands, root_laid}
use Rattle.tree_runs.proofs.Images.{instruction_at}
use Rattle.tree_runs.proofs.RowsRun.{rows_run, rows_ran}
use Rattle.tree_run.specs.declared.Run.{Run}
use Rattle.tree_run.specs.declared.RunError.{RunError}
use Rattle.tree_run.specs.Abstraction.{if_any, RowsLinked, layout_at}
use Rattle.tree_run.specs.Holds.{Held, Walks, told, Ends, filled, not_run_from, number_of, kept, outcome_of}
use Rattle.tree_run.specs.Holds as holds

true_false : true ≡ false → ⊥
true_false e = let z : ◌≡◌ {A = ℕ} 0 1 = cc in omega arith

-- ---- what the check accepts

pub record Accepted (words : List ℕ) : Type 0 where
  list : List Row
  same : words_of list ≡ words
  least : 1 ≤ length list
  most : length list ≤ most_rows
  ranged : all_in_range list ≡ true
  root : Statements
  reading : ReadAs list root

module _ (words : List ℕ) where
  of_answer : {code at : ℕ} → Answer words code at → code ≡ 0 → Accepted words
  of_answer (no_list f) e = absurd (omega (arith, e))
  of_answer (of_rows list w l m code at (one_tree o)) e = record { list = list; same = w; least = l; most = m; ranged = o.ranged; root = o.root; reading = o.reading }
  of_answer (of_rows list w l m code at (out_of_range i g r)) e = absurd (omega (arith, e))
  of_answer (of_rows list w l m code at (no_parts i g r f)) e = absurd (omega (arith, e))
  of_answer (of_rows list w l m code at (remainder a r f)) e = absurd (omega (arith, e))

  pub accepted : {begins : List ℕ} → record { answer = Ok tt; begin = begins } ≡ tree_read words → Accepted words
  accepted {begins} e = of_answer (accepted_answer words e) refl

  pub check_refused : {error : TreeError} {begins : List ℕ} (answers : Answers) (lent : ℕ) {o : Outcome} → record { answer = Err error; begin = begins } ≡ tree_read words
      → o ≡ refusal (code_of (verdict_of error)) (at_of (verdict_of error)) lent → RunGives words answers lent o
  check_refused {error} {begins} answers lent e q = rw q (refused (code_of (verdict_of error)) (at_of (verdict_of error)) (refused_answer words e) (is_code error))
    where
      is_code : (error : TreeError) → code_of (verdict_of error) ≡ 0 → ⊥
      is_code (RowOutOfRange at) z = omega arith
      is_code (PartsMissing at) z = omega arith
      is_code NotOneTree z = omega arith

  pub begun : {begins : List ℕ} → record { answer = Ok tt; begin = begins } ≡ tree_read words → Begun words begins (length words / 6)
  begun {begins} e = begins_found words (sym e)

-- ---- the words as rows

abbrev AllAt : List ℕ → List Row → ℕ → Type 0
AllAt words [] f = Unit {0}
AllAt words (r ∷ list) f = (row_at words f ≡ r) × AllAt words list (suc f)

module _ (op a b c d e : ℕ) (words : List ℕ) where
  word_after : (i column : ℕ) → word_at (op ∷ a ∷ b ∷ c ∷ d ∷ e ∷ words) (suc i) column ≡ word_at words i column
  unfolding word_at
  word_after i column = let z : suc i * 6 + column ≡ suc (suc (suc (suc (suc (suc (i * 6 + column)))))) = omega arith in rw z

  all_after : (list : List Row) (f : ℕ) → AllAt words list f → AllAt (op ∷ a ∷ b ∷ c ∷ d ∷ e ∷ words) list (suc f)
  all_after [] f h = tt
  all_after (r ∷ list) f h = (rw (word_after f 0, word_after f 1, word_after f 2, word_after f 3, word_after f 4, word_after f 5) h.0, all_after list (suc f) h.1)

  first_row : row_at (op ∷ a ∷ b ∷ c ∷ d ∷ e ∷ words) 0 ≡ row op a b c d e
  unfolding word_at
  first_row = refl

words_rows : (list : List Row) → AllAt (words_of list) list 0
unfolding words_of
words_rows [] = tt
words_rows (row op a b c d e ∷ list) = (first_row op a b c d e (words_of list), all_after op a b c d e (words_of list) list 0 (words_rows list))

length_words : (list : List Row) → length (words_of list) ≡ length list * 6
unfolding words_of
length_words [] = refl
length_words (row op a b c d e ∷ list) = let z : length (words_of list) ≡ length list * 6 = length_words list in omega (arith, z)

some_is : (n : ℕ) → (n ≡ 65535 → ⊥) → unless_none n ≡ some n
unfolding unless_none
some_is n e = ap (λ (y : Bool). elim y [ true ↦ none | false ↦ some n ]) (ne_eqb n largest e)

target_some : (a : ℕ) → fits (check.row 1024) a ≡ true → unless_none a ≡ some a
unfolding fits
target_some a e = some_is a (λ z. true_false (sym e ∙ ap (λ (n : ℕ). fits (check.row 1024) n) z))

targets : (r : Row) → in_range r ≡ true → Targets r
targets (row op a b c d e) h = λ s. by s
  where
    fit : (n : ℕ) → op ≡ n → fits (get_or (get_or rules_by_op n []) 0 unused) a ≡ true
    fit n q = subst (λ (n : ℕ). fits (get_or (get_or rules_by_op n []) 0 unused) a ≡ true) q (in_range_lem op a b c d e h).columns.fit_a

    by : (op ≡ 24) ⊎ (op ≡ 25) → unless_none a ≡ some a
    by (inl q) = target_some a (fit 24 q)
    by (inr q) = target_some a (fit 25 q)

abbrev op_of : Row → ℕ
op_of (row op a b c d e) = op

module _ (words : List ℕ) (t : Links) (number : ℕ) (linked : RowsLinked words t number) where
  stand_from : (list : List Row) (f : ℕ) → AllAt words list f → all_in_range list ≡ true → f + length list ≡ number → Stand (row_at words) t number f list
  stand_from [] f h r e = at_end {f = f} (omega (arith, e))
  stand_from (x ∷ list) f h r e =
      let q = and_both (in_range x) (all_in_range list) r in
      stands h.0 (targets x q.0) (linked f (omega (arith, e))) (stand_from list (suc f) h.1 q.1 (omega (arith, e)))

-- ---- 64

-- what is found of the rows from row f on
first_is : (words : List ℕ) (list : List Row) (f : ℕ) → AllAt words list f → if_any (not_run_from words f (length list)) ≡ first_not_run list f
unfolding first_not_run not_run_from
first_is words [] f h = refl
first_is words (row op a b c d e ∷ list) f h =
    subst (λ (o : ℕ). if_any (elim (not_run o) [ true ↦ Some f | false ↦ not_run_from words (suc f) (length list) ]) ≡ first_not_run (row op a b c d e ∷ list) f)
    (sym (ap op_of h.0)) (by (not_run op) (first_is words list (suc f) h.1))
  where
    by : (y : Bool) → if_any (not_run_from words (suc f) (length list)) ≡ first_not_run list (suc f)
        → if_any (elim y [ true ↦ Some f | false ↦ not_run_from words (suc f) (length list) ]) ≡ elim y [ true ↦ some f | false ↦ first_not_run list (suc f) ]
    by true q = refl
    by false q = q

-- ---- the end of the walk, and the outcome

-- a refused run leaves zeros
pub kept_none : (code at : ℕ) (buffer : List ℕ) → record { code = code; at = at; number = 0; reason = 0; buffer = kept 0 buffer } ≡ refusal code at (length buffer)
unfolding refusal
kept_none code at buffer = let z : length buffer - 0 ≡ length buffer = omega arith in rw z refl

module _ (words : List ℕ) (t : Links) (number : ℕ) where
  abbrev instruction : ℕ → ℕ
  instruction = instruction_at (row_at words) t number

  held_map : {buffer : List ℕ} {n : ℕ} {reached : List ℕ} → Held words buffer n reached → take n buffer ≡ map instruction reached
  held_map {buffer} {n} {reached} h =
      ext_get_or 0 (take n buffer) (map instruction reached) (long ∙ sym (length-map reached instruction ∙ h.count)) (λ i g. at i (omega (arith, g, long)))
    where
      long : length (take n buffer) ≡ n
      long = let z : length (take n buffer) ≡ _ = length-take n buffer in omega (arith, z, h.fits)

      at : (i : ℕ) → i < n → get_or (take n buffer) i 0 ≡ get_or (map instruction reached) i 0
      at i g = get_or-take n buffer i 0 g ∙ (h.same i g ∙ sym (map_at reached i (omega (arith, g, h.count))))
        where
          map_at : (l : List ℕ) (i : ℕ) → i < length l → get_or (map instruction l) i 0 ≡ word_at words (get_or l i 0) 1
          map_at [] i g = absurd (omega arith)
          map_at (x ∷ l) zero g = refl
          map_at (x ∷ l) (suc i) g = map_at l i (omega arith)

  module _ (buffer : List ℕ) (end : Completed) where
    abbrev outcome : Outcome
    outcome = from_reached instruction (length buffer) end.rows (reason_of end.completion)

    fits_outcome : {n : ℕ} → Held words buffer n end.rows → outcome ≡ ended (map instruction end.rows) (length buffer) (reason_of end.completion)
    unfolding from_reached
    fits_outcome h =
        ap (λ (y : Bool). elim y [
          | true ↦ ended (map instruction end.rows) (length buffer) (reason_of end.completion)
          | false ↦ refusal 65 (get_or end.rows (length buffer) 0) (length buffer)
        ]) (le-leb (length end.rows) (length buffer) (omega (arith, h.count, h.fits)))

    over_outcome : length buffer < length end.rows → outcome ≡ refusal 65 (get_or end.rows (length buffer) 0) (length buffer)
    unfolding from_reached
    over_outcome l =
        ap (λ (y : Bool). elim y [
          | true ↦ ended (map instruction end.rows) (length buffer) (reason_of end.completion)
          | false ↦ refusal 65 (get_or end.rows (length buffer) 0) (length buffer)
        ]) (lt-leb (length end.rows) (length buffer) l)

    told_is : (n : ℕ) (performed : List ℕ) (reason : Reason) → length performed ≡ n → take n buffer ≡ performed
        → outcome_of (told n reason) (kept (number_of (told n reason)) buffer) ≡ ended performed (length buffer) reason
    unfolding ended performed_all
    told_is n performed (returned v i) c q = rw (q, c) refl
    told_is n performed (threw v i) c q = rw (q, c) refl
    told_is n performed end_of_tree c q = rw (q, c) refl
    told_is n performed no_answer_left c q = rw (q, c) refl
    told_is n performed (no_target at) c q = kept_none 63 at buffer
    told_is n performed not_plain c q = kept_none 64 0 buffer
    told_is n performed no_such_case c q = kept_none 64 0 buffer

    pub outcome_is : {r : Result Run RunError} → Ends words buffer r end → outcome_of r (kept (number_of r) buffer) ≡ outcome
    outcome_is (filled l e) = rw e (kept_none 65 (get_or end.rows (length buffer) 0) buffer ∙ sym (over_outcome l))
    outcome_is (holds.ended n h e) =
        rw e (told_is n (map instruction end.rows) (reason_of end.completion) (length-map end.rows instruction ∙ h.count) (held_map h) ∙ sym (fits_outcome h))

    told_number : (n : ℕ) (reason : Reason) → number_of (told n reason) ≤ n
    told_number n (returned v i) = le_refl n
    told_number n (threw v i) = le_refl n
    told_number n end_of_tree = le_refl n
    told_number n no_answer_left = le_refl n
    told_number n (no_target at) = omega arith
    told_number n not_plain = omega arith
    told_number n no_such_case = omega arith

    pub number_fits : {r : Result Run RunError} → Ends words buffer r end → number_of r ≤ length buffer
    number_fits (filled l e) = rw e (omega arith)
    number_fits (holds.ended n h e) = rw e (omega (arith, told_number n (reason_of end.completion), h.fits))

-- ---- the whole

module _ (words : List ℕ) (a : Accepted words) where
  pub rows_number : length words / 6 ≡ length a.list
  rows_number = let z : length words ≡ length a.list * 6 = ap length (sym a.same) ∙ length_words a.list in omega (arith, z)

  pub rows_most : length words / 6 ≤ 2048
  rows_most = omega (arith, rows_number, a.most)

  pub rows_least : 1 ≤ length words / 6
  rows_least = omega (arith, rows_number, a.least)

  all_at : AllAt words a.list 0
  all_at = subst (λ (w : List ℕ). AllAt w a.list 0) a.same (words_rows a.list)

  first_at : if_any (not_run_from words 0 (length words / 6)) ≡ first_not_run (tree.rows a.root) 0
  first_at = rw (rows_number, a.reading.same_rows) (first_is words a.list 0 all_at)

  gives_run : (answers : Answers) (lent : ℕ) {o : Outcome} → o ≡ ran a.root answers lent → RunGives words answers lent o
  gives_run answers lent e = rw e (runs a.list a.same a.least a.most a.ranged a.root a.reading)

  -- 64
  pub run_other : (answers : Answers) (lent : ℕ) {n : ℕ} {o : Outcome} → Some n ≡ not_run_from words 0 (length words / 6) → o ≡ refusal 64 n lent → RunGives words answers lent o
  unfolding ran after_sorts
  run_other answers lent {n} {o} e q = gives_run answers lent (q ∙ ap (λ (z : Option ℕ). after_sorts z a.root answers lent) (ap if_any e ∙ first_at))

  module _ (t : Links) {number : ℕ} (is : number ≡ length words / 6) (linked : RowsLinked words t number) where
    stand : Stand (row_at words) t number 0 (tree.rows a.root)
    stand = rw a.reading.same_rows (stand_from words t number linked a.list 0 all_at a.ranged (omega (arith, is, rows_number)))

    abbrev the_end : Answers → Completed
    the_end answers = run_statements (numbered 0 a.root) answers

    walked : (answers : Answers) → machine.Completes (layout_at words t number) (suc (length answers) * suc (3 * number)) (state (enter (number - 1)) [] answers) (the_end answers)
    walked answers =
        let e : suc (end_statements 0 a.root) ≡ number = (root_laid (row_at words) t number a.root a.reading.well_formed stand).2 in
        let z : number - 1 ≡ end_statements 0 a.root = omega (arith, e) in
        rw z (rows_run (row_at words) t number a.root a.reading.well_formed stand answers)

    pub walks : (answers : Answers) → Walks (layout_at words t number) number answers
    walks answers = record { end = the_end answers; gives = walked answers }

    module _ (answers : Answers) (e : None ≡ not_run_from words 0 (length words / 6)) {r : Result Run RunError} {buffer : List ℕ}
        (ends : (m : ℕ) (end : Completed) → machine.Completes (layout_at words t number) m (state (enter (number - 1)) [] answers) end → Ends words buffer r end) where
      at_end_of : Ends words buffer r (the_end answers)
      at_end_of = ends _ (the_end answers) (walked answers)

      ran_is : from_reached (instruction_at (row_at words) t number) (length buffer) (the_end answers).rows (reason_of (the_end answers).completion) ≡ ran a.root answers (length buffer)
      ran_is = sym (rows_ran (row_at words) t number a.root a.reading.well_formed stand (sym first_at ∙ ap if_any (sym e)) answers (length buffer))

      pub run_fits : number_of r ≤ length buffer
      run_fits = number_fits words t number buffer (the_end answers) at_end_of

      pub run_given : (lent : ℕ) → length buffer ≡ lent → RunGives words answers lent (outcome_of r (kept (number_of r) buffer))
      run_given lent z = gives_run answers lent (outcome_is words t number buffer (the_end answers) at_end_of ∙ (ran_is ∙ ap (ran a.root answers) z))
