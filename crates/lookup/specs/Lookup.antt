-- M-101: the lookup of a statement by its label, from the words of the index, the number of lines, the label and the tree buffer. Quotes are M-101's.
use Rattle.std.specs.Prelude.{ℕ, zero, suc, ◌+◌, ◌*◌, ◌/◌, List, [], Bool, true, false, ◌||◌, length, get_or, eqb, leb, ltb, Option, Some, None, Result, Ok, Err}
use Rattle.std.specs.Borrow.{Bor}
use Rattle.std.specs.declared.ops.Range.{Range}
use Rattle.std.proofs.Math.Seq.{slice}
use Rattle.lookup.specs.declared.LookupError.{LookupError}
use Rattle.lookup.specs.declared.LookupError.TheVariants.{NoSuchLabel, BadLine}

-- what the lookup's refusals mean, by M-101's numbers
abbrev pub code_of : LookupError → ℕ
code_of NoSuchLabel = 42
code_of BadLine = 43

-- code (0 found), at, and where the part begins and ends in the tree buffer, in words
pub record Found : Type 0 where
  pub code : ℕ
  pub at : ℕ
  pub begin : ℕ
  pub end : ℕ

-- "takes that number, reads no line beyond it or beyond the buffer": a line that is partly beyond is not read
unfoldable pub lines_read : (index : List ℕ) → (number : ℕ) → ℕ
lines_read index number = elim (ltb number (length index / 3)) [ true ↦ number | false ↦ length index / 3 ]

-- word 0, 1 or 2 of a line: "label, first row of the statement, closing row"
abbrev pub line_word : (index : List ℕ) → (line word : ℕ) → ℕ
line_word index line word = get_or index (line * 3 + word) 0

-- "the first line that has the label", among the `left` lines from this line on
unfoldable pub first_with : (index : List ℕ) → (label line left : ℕ) → Option ℕ
first_with index label line zero = None
first_with index label line (suc left) = elim (eqb (line_word index line 0) label) [ true ↦ Some line | false ↦ first_with index label (suc line) left ]

-- "Answers, all at 0"
abbrev pub refusal : (code : ℕ) → Found
refusal code = record { code = code; at = 0; begin = 0; end = 0 }

-- a search's answer with numbers; "a refused lookup gives an empty part"
abbrev pub found_of : Result (Range ℕ) LookupError → Found
found_of (Ok part) = record { code = 0; at = 0; begin = part.start; end = part.end }
found_of (Err error) = refusal (code_of error)

abbrev pub part_unless : (bad : Bool) → (first closing : ℕ) → Found
part_unless true first closing = refusal 43
part_unless false first closing = record { code = 0; at = 0; begin = first * 6; end = (closing + 1) * 6 }

-- "43 when the line found has its first row after its closing row or a closing row beyond the whole rows of the tree buffer handed in"
unfoldable pub part_of : (first closing tree : ℕ) → Found
part_of first closing tree = part_unless (ltb closing first || leb (tree / 6) closing) first closing

-- "42 in a lookup exactly when no line has the label"
unfoldable pub found_at : (index : List ℕ) → (tree : ℕ) → Option ℕ → Found
found_at index tree None = refusal 42
found_at index tree (Some line) = part_of (line_word index line 1) (line_word index line 2) tree

-- where the part begins and ends, in words of a tree buffer of `tree` words
unfoldable pub found : (index : List ℕ) → (number label tree : ℕ) → Found
found index number label tree = found_at index tree (first_with index label 0 (lines_read index number))

-- "gives back the statement's own rows as a part of the caller's tree buffer"
pub record Part : Type 0 where
  pub code : ℕ
  pub at : ℕ
  pub words : List ℕ

abbrev pub part_found : (tree : List ℕ) → Found → Part
part_found tree found = record { code = found.code; at = found.at; words = slice found.begin found.end tree }

abbrev pub looked : (index : List ℕ) → (number label : ℕ) → (tree : List ℕ) → Part
looked index number label tree = part_found tree (found index number label (length tree))

-- a lookup's answer with numbers and the words of the part, which a refused one has not
abbrev pub looked_of : Result (Bor (List ℕ)) LookupError → Part
looked_of (Ok part) = record { code = 0; at = 0; words = part.now }
looked_of (Err error) = record { code = code_of error; at = 0; words = [] }
