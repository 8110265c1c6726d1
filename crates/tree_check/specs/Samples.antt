-- The definition on files, by computation.
use Rattle.std.specs.Prelude.{◌≡◌, refl, [], ◌∷◌}
use Rattle.text.specs.Ascii.{ascii}
use Rattle.text.specs.Reading.{is_digit, may_follow}
use Rattle.tree_check.specs.Scan.{stopped, words, first_digit, in_number, stepped, scanned, alike, table_words, file_words}

pub the_files :
    (file_words (ascii "op a b c d e\n22 0 7 0 0 0\n9 1 0 0 0 0\n") ≡ words (22 ∷ 0 ∷ 7 ∷ 0 ∷ 0 ∷ 0 ∷ 9 ∷ 1 ∷ 0 ∷ 0 ∷ 0 ∷ 0 ∷ []))
    × (file_words (ascii "op a b c d e\n") ≡ words [])
    × (file_words (ascii "") ≡ stopped 0)
    × (file_words (ascii "op a b c d e") ≡ stopped 12)
    × (file_words (ascii "op b") ≡ stopped 3)
    × (file_words (ascii "op a b c d e\n22 0 7 0 0 0") ≡ stopped 25)
    × (file_words (ascii "op a b c d e\n22 0 7 0 0\n") ≡ stopped 23)
    × (file_words (ascii "op a b c d e\n22 0 7 0 0 0 ") ≡ stopped 25)
    × (file_words (ascii "op a b c d e\n022") ≡ stopped 14)
    × (file_words (ascii "op a b c d e\n4294967295 4294967296") ≡ stopped 33)
    × (file_words (ascii "op a b c d e\n\n") ≡ stopped 13)
unfolding table_words alike scanned stepped in_number first_digit may_follow is_digit
the_files = (refl, refl, refl, refl, refl, refl, refl, refl, refl, refl, refl)
