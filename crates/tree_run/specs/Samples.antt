-- The definition on files, by computation.
use Rattle.std.specs.Prelude.{◌≡◌, refl, [], ◌∷◌}
use Rattle.text.specs.Ascii.{ascii}
use Rattle.text.specs.Decimal.{digits_of, decimal}
use Rattle.text.specs.Line.{line, lines, cut}
use Rattle.text.specs.Reading.{is_digit, may_follow}
use Rattle.tree_check.specs.Scan.{first_digit, in_number, stepped, scanned, alike, table_words}
use Rattle.tree_runs.specs.Ran.{refusal}
use Rattle.tree_run.specs.Given.{stopped, read, answers_from, file_given}
use Rattle.tree_run.specs.Prints.{performed_lines, printed_run}

pub the_files :
    (file_given (ascii "op a b c d e\n9 0 0 0 0 0\nanswer\n") ≡ read (9 ∷ 0 ∷ 0 ∷ 0 ∷ 0 ∷ 0 ∷ []) [])
    × (file_given (ascii "op a b c d e\n9 0 0 0 0 0\nanswer\n1\n4294967295\n") ≡ read (9 ∷ 0 ∷ 0 ∷ 0 ∷ 0 ∷ 0 ∷ []) (1 ∷ 4294967295 ∷ []))
    × (file_given (ascii "op a b c d e\nanswer\n0\n") ≡ read [] (0 ∷ []))
    × (file_given (ascii "") ≡ stopped 0)
    × (file_given (ascii "op a answer") ≡ stopped 5)
    × (file_given (ascii "op a b c d e\n9 0 0 0 0 0\n") ≡ stopped 25)
    × (file_given (ascii "op a b c d e\n9 0 0 0 0 answer\n") ≡ stopped 23)
    × (file_given (ascii "op a b c d e\n9 0 0 0 0 0answer\n") ≡ stopped 24)
    × (file_given (ascii "op a b c d e\n9 0 0 0 0 0\nanswers\n") ≡ stopped 31)
    × (file_given (ascii "op a b c d e\n9 0 0 0 0 0\nanswer\n1 0\n") ≡ stopped 33)
    × (file_given (ascii "op a b c d e\n9 0 0 0 0 0\nanswer\n1\nanswer\n") ≡ stopped 34)
    × (file_given (ascii "op a b c d e\n9 0 0 0 0 0\nanswer\n1") ≡ stopped 33)
unfolding file_given answers_from table_words alike scanned stepped in_number first_digit may_follow is_digit
the_files = (refl, refl, refl, refl, refl, refl, refl, refl, refl, refl, refl, refl)

pub the_texts :
    (printed_run (record { code = 0; at = 0; number = 2; reason = 1; buffer = 7 ∷ 4095 ∷ 0 ∷ [] }) ≡ ascii "code at number reason\n0 0 2 1\ninstruction\n7\n4095\n")
    × (printed_run (refusal 63 12 3) ≡ ascii "code at number reason\n63 12 0 0\n")
unfolding printed_run performed_lines refusal line lines cut decimal digits_of
the_texts = (refl, refl)
