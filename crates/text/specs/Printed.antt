-- What is printed of a result (paper 01, "Samples").
use Rattle.std.specs.Prelude.{List, [], ◌∷◌, ◌++◌, ℕ, zero, suc, leb, length, replicate, Result, Ok, Err}
use Rattle.text.specs.Ascii.{ascii}
use Rattle.text.specs.Decimal.{choose}
use Rattle.text.specs.Line.{line, lines, rows_in}
use Rattle.text.specs.Lent.{padded}
use Rattle.text.specs.declared.write.NoRoom.{NoRoom}

abbrev pub result_names : List ℕ
result_names = ascii "code at rows visits\n"

abbrev pub tree_names : List ℕ
tree_names = ascii "op a b c d e\n"

-- the lines of a tree, if the code says accepted: its names, then a line for each whole row
unfoldable pub tree_lines : ℕ → List ℕ → List ℕ
tree_lines zero tree = tree_names ++ lines (rows_in 6 6 tree)
tree_lines (suc code) tree = []

unfoldable pub printed : ℕ → ℕ → ℕ → ℕ → List ℕ → List ℕ
printed code at rows visits tree = result_names ++ (line (code ∷ at ∷ rows ∷ visits ∷ []) ++ tree_lines code tree)

-- the number of bytes, or that there are more than were lent
abbrev pub Written : Type 0
Written = Result ℕ NoRoom

abbrev pub no_room : Written
no_room = Err (record {})

-- the answer of writing a text into `room` lent bytes, and what these hold then: the text and zeros, or zeros if it does not fit
unfoldable pub written_of : ℕ → List ℕ → Written
written_of room text = choose (leb (length text) room) (λ _. Ok (length text)) (λ _. no_room)

unfoldable pub lent_of : ℕ → List ℕ → List ℕ
lent_of room text = choose (leb (length text) room) (λ _. padded room text) (λ _. replicate room 0)
