-- Corners of the check, by computation.
use mathlib.Core.Path.{◌≡◌, refl}
use mathlib.Core.List.{List, [], ◌∷◌, ◌++◌}
use lib.ListN.{replicate}
use Rattle.table.specs.Check.{fits}
use Rattle.definition.specs.Tree.{Row, row}
use Rattle.tree_grammar.specs.Ranges.{in_range, fits_column, row_rules}
use Rattle.tree_grammar.specs.Needs.{RowsVerdict, accepted, refused, sort_step, made_by, rows_verdict, sized_verdict, tree_verdict}

abbrev Is : List Row → RowsVerdict → Type 0
Is list verdict = rows_verdict list 0 [] ≡ verdict

pub the_corners :
    Is (row 22 0 7 0 0 0 ∷ row 9 1 0 0 0 0 ∷ []) accepted
    × Is (row 22 0 0 0 0 0 ∷ row 9 1 0 0 0 0 ∷ row 0 0 0 0 0 0 ∷ []) (refused 60 2)
    × Is (row 22 0 0 0 0 0 ∷ row 9 2 0 0 0 0 ∷ row 26 0 0 0 0 0 ∷ []) (refused 61 1)
    × Is (row 9 1 7 0 0 0 ∷ []) (refused 60 0)
    × Is (row 9 2048 0 0 0 0 ∷ []) (refused 60 0)
    × Is (row 9 2047 0 0 0 0 ∷ []) (refused 61 0)
    × Is (row 3 0 0 0 0 0 ∷ row 5 0 0 0 0 0 ∷ row 4 0 0 0 0 0 ∷ row 9 1 0 0 0 0 ∷ []) accepted
    × Is (row 1 0 0 0 0 0 ∷ row 4 0 0 0 0 0 ∷ row 9 0 0 0 0 0 ∷ []) (refused 62 0)
    × Is (row 9 0 0 0 0 0 ∷ row 9 0 0 0 0 0 ∷ row 10 0 0 0 65535 0 ∷ row 9 1 0 0 0 0 ∷ []) (refused 62 0)
    × Is (row 9 0 0 0 0 0 ∷ row 11 0 0 0 0 0 ∷ row 12 0 0 0 65535 0 ∷ row 9 1 0 0 0 0 ∷ []) (refused 62 0)
    × Is (row 9 0 0 0 0 0 ∷ row 1 0 0 0 0 0 ∷ row 14 0 65535 0 0 0 ∷ row 9 1 0 0 0 0 ∷ []) (refused 61 2)
    × Is (row 24 65535 0 0 0 0 ∷ row 9 1 0 0 0 0 ∷ []) (refused 60 0)
    × Is (row 24 3 0 1 128 0 ∷ row 9 1 0 0 0 0 ∷ []) accepted
    × Is (row 24 3 0 1 129 0 ∷ row 9 1 0 0 0 0 ∷ []) (refused 60 0)
    × (tree_verdict [] ≡ refused 62 0)
    × (tree_verdict (9 ∷ 0 ∷ 0 ∷ 0 ∷ 0 ∷ []) ≡ refused 62 0)
    × (tree_verdict (9 ∷ 0 ∷ 0 ∷ 0 ∷ 0 ∷ 0 ∷ 9 ∷ []) ≡ refused 62 0)
    × (tree_verdict (9 ∷ 0 ∷ 0 ∷ 0 ∷ 0 ∷ 0 ∷ []) ≡ accepted)
unfolding rows_verdict in_range fits_column row_rules fits sort_step made_by tree_verdict
the_corners = (refl, refl, refl, refl, refl, refl, refl, refl, refl, refl, refl, refl, refl, refl, refl, refl, refl, refl)

-- 2,047 RETURNs in a BLOCK are 2,048 rows; 2,049 rows are too many, whatever is in them
abbrev full : List Row
full = replicate 2047 (row 22 0 0 0 0 0) ++ (row 9 2047 0 0 0 0 ∷ [])

pub the_largest : Is full accepted
unfolding rows_verdict in_range fits_column row_rules fits sort_step made_by
the_largest = refl

pub one_too_many : sized_verdict (replicate 2049 (row 22 0 0 0 0 0)) ≡ refused 62 0
one_too_many = refl
