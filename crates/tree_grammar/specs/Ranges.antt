-- M-100: the ranges of a row's columns.
use Rattle.std.specs.Prelude.{ℕ, List, [], ◌∷◌, Bool, true, ◌&&◌, get_or, leb}
use Rattle.table.specs.Words.{largest}
use Rattle.table.specs.Check.{Rule, unused, number, row_or_none, fits}
use Rattle.table.specs.Check as check
use Rattle.definition.specs.Tree.{Row, row}

-- "blocks are below 1,024 (a label may be none), instructions and places below 4,096 (a CASE's test and a TRY's binding may be none), unused columns 0,
-- counts below 2,048, flags 0 or 1, kinds and operators 0 to 2, other columns at most 65,535"
abbrev pub block : Rule
block = check.row 1024

abbrev pub label : Rule
label = row_or_none 1024

abbrev pub instruction : Rule
instruction = check.row 4096

abbrev pub place : Rule
place = check.row 4096

abbrev pub place_or_none : Rule
place_or_none = row_or_none 4096

abbrev pub count : Rule
count = check.row 2048

abbrev pub flag : Rule
flag = number 1

-- a kind or an operator
abbrev pub choice : Rule
choice = number 2

-- M-107: "The check of M-100 allows d up to 128 there."
abbrev pub crossed : Rule
crossed = number 128

abbrev pub free : Rule
free = number largest

-- the columns a to e of each op, in the order of the ops; those not listed are unused. There is no op 0
abbrev pub rules_by_op : List (List Rule)
rules_by_op =
    []
    ∷ (instruction ∷ [])
    ∷ (place ∷ [])
    ∷ (free ∷ free ∷ [])
    ∷ (free ∷ place ∷ free ∷ free ∷ [])
    ∷ (count ∷ free ∷ [])
    ∷ (choice ∷ [])
    ∷ []
    ∷ (flag ∷ [])
    ∷ (count ∷ [])
    ∷ (place ∷ flag ∷ free ∷ label ∷ [])
    ∷ (place_or_none ∷ [])
    ∷ (place ∷ count ∷ free ∷ label ∷ [])
    ∷ (free ∷ label ∷ [])
    ∷ (free ∷ label ∷ [])
    ∷ (free ∷ label ∷ flag ∷ [])
    ∷ (free ∷ label ∷ free ∷ free ∷ [])
    ∷ (free ∷ label ∷ free ∷ free ∷ [])
    ∷ (free ∷ label ∷ [])
    ∷ (free ∷ label ∷ place_or_none ∷ [])
    ∷ (free ∷ [])
    ∷ (free ∷ [])
    ∷ (place ∷ free ∷ [])
    ∷ (place ∷ free ∷ [])
    ∷ (block ∷ free ∷ choice ∷ crossed ∷ [])
    ∷ (block ∷ free ∷ choice ∷ crossed ∷ [])
    ∷ []

unfoldable pub row_rules : (op : ℕ) → List Rule
row_rules op = get_or rules_by_op op []

unfoldable pub fits_column : (op column w : ℕ) → Bool
fits_column op column w = fits (get_or (row_rules op) column unused) w

unfoldable pub in_range : Row → Bool
in_range (row op a b c d e) =
    leb 1 op && (leb op 25 && (fits_column op 0 a && (fits_column op 1 b && (fits_column op 2 c && (fits_column op 3 d && fits_column op 4 e)))))

abbrev pub all_in_range : List Row → Bool
all_in_range [] = true
all_in_range (r ∷ list) = in_range r && all_in_range list
