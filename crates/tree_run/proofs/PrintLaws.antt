-- What is printed of a run: no more rows than the buffer has words, and 720,974 bytes are enough.
use mathlib.Core.Path.{◌≡◌, refl, sym, ap, ◌∙◌, subst}
use Prim.Native.Nat.{ℕ, zero, suc, ◌+◌, ◌*◌, ◌≤◌}
use native.Mathlib.Omega.{arith}
use mathlib.Core.List.{List, [], ◌∷◌, ◌++◌}
use mathlib.Core.Option.{Option, none, some}
use mathlib.Core.Bool.{Bool, true, false}
use lib.ListN.{length, get_or, length-append}
use lib.Dec.{leb}
use Rattle.text.specs.Line.{line}
use Rattle.text.specs.File.{Words}
use Rattle.text.specs.Printed.{Written, written_of, lent_of}
use Rattle.text.specs.Writer.{written}
use Rattle.text.specs.declared.write.Writer.{Writer}
use Rattle.text.proofs.PrintsLaws.{AsPrinted, as_printed}
use Rattle.text.proofs.WriteLaws.{Narrow, line_most, lines_most, text_fits}
use Rattle.text.proofs.WriterLaws.{written_append}
use Rattle.definition.specs.Tree.{Statements, rows}
use Rattle.definition.specs.Run.{Answers, Reason, returned, threw, no_answer_left, not_plain, no_target, end_of_tree, no_such_case, Run, unfinished, stopped}
use Rattle.definition.specs.TreeRun.{tree_run}
use Rattle.tree_runs.specs.Numbered.{numbered}
use Rattle.tree_runs.specs.Ran.{Outcome, refusal, first_not_run, performed_all, ended, given, after_sorts, ran}
use Rattle.tree_runs.specs.Given.{root_of, run_by, run_of}
use Rattle.tree_grammar.specs.Needs.{RowsVerdict, rows_of_words, tree_verdict}
use Rattle.tree_grammar.specs.Needs as goal
use Rattle.tree_run.specs.Given.{Given, stopped as misread, read, file_given, run_given, file_run}
use Rattle.std.specs.Prelude.{Result, Ok, Err}
use Rattle.tree_run.specs.declared.Run as told
use Rattle.tree_check.specs.declared.file.FileError.{FileError}
use Rattle.tree_check.specs.declared.file.FileError.TheVariants as file
use Rattle.tree_check.specs.declared.file.FileError.TheVariants.{TooLong, NotInForm}
use Rattle.tree_run.specs.declared.RunError.{RunError}
use Rattle.tree_run.specs.declared.RunError.TheVariants.{NotATree, NoTarget, NotRun, NoRoom}
use Rattle.tree_check.specs.declared.TreeError.TheVariants.{RowOutOfRange, PartsMissing, NotOneTree}
use Rattle.tree_run.specs.Answer.{file_code}
use Rattle.tree_run.specs.Prints.{file_outcome, run_names, performed_lines, printed_run, most_printed, lent_rows, run_text}

-- ---- the number of rows

abbrev Within : Outcome → Type 0
Within o = o.number ≤ length o.buffer

refusal_within : (code at lent : ℕ) → Within (refusal code at lent)
unfolding refusal
refusal_within code at lent = omega arith

all_within : (performed : List ℕ) (reason lent : ℕ) → Within (performed_all performed reason lent)
unfolding performed_all
all_within performed reason lent = simp length-append (omega arith)

ended_within : (performed : List ℕ) (lent : ℕ) (reason : Reason) → Within (ended performed lent reason)
unfolding ended
ended_within performed lent (returned value id) = all_within performed 1 lent
ended_within performed lent (threw value id) = all_within performed 2 lent
ended_within performed lent end_of_tree = all_within performed 3 lent
ended_within performed lent no_answer_left = all_within performed 4 lent
ended_within performed lent (no_target at) = refusal_within 63 at lent
ended_within performed lent not_plain = refusal_within 64 0 lent
ended_within performed lent no_such_case = refusal_within 64 0 lent

given_within : (lent : ℕ) (run numbered_run : Run) → Within (given lent run numbered_run)
unfolding given
given_within lent (stopped performed left reason) (stopped reached left' numbered_reason) = by (leb (length reached) lent)
  where
    by : (y : Bool) → Within (elim y [ true ↦ ended performed lent numbered_reason | false ↦ refusal 65 (get_or reached lent 0) lent ])
    by true = ended_within performed lent numbered_reason
    by false = refusal_within 65 (get_or reached lent 0) lent
given_within lent unfinished numbered_run = refusal_within 64 0 lent
given_within lent (stopped performed left reason) unfinished = refusal_within 64 0 lent

sorts_within : (first : Option ℕ) (root : Statements) (answers : Answers) (lent : ℕ) → Within (after_sorts first root answers lent)
unfolding after_sorts
sorts_within (some i) root answers lent = refusal_within 64 i lent
sorts_within none root answers lent = given_within lent (tree_run root answers) (tree_run (numbered 0 root) answers)

ran_within : (root : Statements) (answers : Answers) (lent : ℕ) → Within (ran root answers lent)
unfolding ran
ran_within root answers lent = sorts_within (first_not_run (rows root) 0) root answers lent

run_within : (words answers : List ℕ) (lent : ℕ) (v : RowsVerdict) → Within (run_by v words answers lent)
unfolding run_by
run_within words answers lent goal.accepted = ran_within (root_of (rows_of_words words)) answers lent
run_within words answers lent (goal.refused code at) = refusal_within code at lent

given_run_within : (g : Given) (lent : ℕ) → Within (run_given g lent)
unfolding run_given run_of
given_run_within (misread at) lent = refusal_within 50 at lent
given_run_within (read rows answers) lent = run_within rows answers lent (tree_verdict rows)

file_within : (file : List ℕ) (lent : ℕ) → Within (file_run file lent)
unfolding file_run
file_within file lent = by (leb (length file) 262144)
  where
    by : (short : Bool) → Within (elim short [ true ↦ run_given (file_given file) lent | false ↦ refusal 51 0 lent ])
    by true = given_run_within (file_given file) lent
    by false = refusal_within 51 0 lent

told_buffer : (r : Result told.Run (FileError RunError)) (buffer : List ℕ) → (file_outcome r buffer).buffer ≡ buffer
told_buffer (Ok run) buffer = refl
told_buffer (Err error) buffer = refl

-- no more rows are told than the buffer has words
pub number_within : (file : List ℕ) (lent : ℕ) (r : Result told.Run (FileError RunError)) (buffer : List ℕ)
    → file_outcome r buffer ≡ file_run file lent → (file_outcome r buffer).number ≤ length buffer
number_within file lent r buffer e =
    subst (λ (b : List ℕ). (file_outcome r buffer).number ≤ length b) (told_buffer r buffer) (subst Within (sym e) (file_within file lent))

-- ---- the lines

-- the two lines that are always there, then those of the rows performed
pub lines_written : (w : Writer) (o : Outcome)
    → written w (printed_run o) ≡ written (written (written w run_names) (line (o.code ∷ o.at ∷ o.number ∷ o.reason ∷ []))) (performed_lines o.code o.number o.buffer)
unfolding printed_run
lines_written w o =
    let numbers : List ℕ = o.code ∷ o.at ∷ o.number ∷ o.reason ∷ [] in
    let rows : List ℕ = performed_lines o.code o.number o.buffer in
    written_append w run_names (line numbers ++ rows) ∙ written_append (written w run_names) (line numbers) rows

-- a refusal has no more
pub refused_lines : (w : Writer) (code number : ℕ) (buffer : List ℕ) → (code ≡ 0 → ⊥) → written w (performed_lines code number buffer) ≡ w
unfolding performed_lines written
refused_lines w zero number buffer f = absurd (f refl)
refused_lines w (suc code) number buffer f = refl

-- a refusal has a code
pub no_code : (error : FileError RunError) → file_code error ≡ 0 → ⊥
no_code TooLong z = omega arith
no_code (NotInForm bad) z = omega arith
no_code (file.Refused (NotATree (RowOutOfRange at))) z = omega arith
no_code (file.Refused (NotATree (PartsMissing at))) z = omega arith
no_code (file.Refused (NotATree NotOneTree)) z = omega arith
no_code (file.Refused (NoTarget at)) z = omega arith
no_code (file.Refused (NotRun at)) z = omega arith
no_code (file.Refused (NoRoom at)) z = omega arith

-- ---- room

performed_most : (code number : ℕ) (buffer : List ℕ) → Narrow buffer → length (performed_lines code number buffer) ≤ 12 + number * 11
unfolding performed_lines
performed_most zero number buffer p = simp length-append (omega (arith, lines_most 1 1 number buffer p))
performed_most (suc code) number buffer p = omega arith

pub printed_most : (o : Outcome) → Words (o.code ∷ o.at ∷ o.number ∷ o.reason ∷ []) → Narrow o.buffer → o.number ≤ 65536 → length (printed_run o) ≤ most_printed
unfolding printed_run
printed_most o w n few =
    let numbers : List ℕ = o.code ∷ o.at ∷ o.number ∷ o.reason ∷ [] in
    simp length-append (omega (arith, line_most numbers w, performed_most o.code o.number o.buffer n, few))

-- a run into the lent words, and what is written of it
pub run_printed : (file : List ℕ) {lent room : ℕ} {o : Outcome} {r : Written} {out : List ℕ} → lent ≡ lent_rows → o ≡ file_run file lent → length (printed_run o) ≤ most_printed
    → r ≡ written_of room (printed_run o) → out ≡ lent_of room (printed_run o) → AsPrinted most_printed (run_text file) room r out
run_printed file {room = room} {o = o} e g most answer bytes =
    as_printed (ap printed_run (sym (g ∙ ap (file_run file) e)))
    (record { answer = answer; bytes = bytes; enough = λ long. answer ∙ text_fits room (printed_run o) (omega (arith, most, long)) })
