-- "An old span s becomes from s and to s, so 0 becomes none" (M-112): the last word of a block's and of an instruction's row, twice.
use Rattle.std.specs.Prelude.{ℕ, ◌-◌, List, [], ◌∷◌, ◌++◌, map, get_or, length, take, drop}
use Rattle.text.specs.Layout.{layout}
use Rattle.text.specs.Line.{cut, flat}
use Rattle.text.specs.declared.version.Version.TheVariants.{Old}
use Rattle.convert.specs.Cut.{instructions_at, cases_at}

unfoldable pub doubled : List ℕ → List ℕ
doubled row = row ++ (get_or row (length row - 1) 0 ∷ [])

-- the words of `count` rows from the first word on
unfoldable pub doubled_rows : (width count : ℕ) → List ℕ → List ℕ
doubled_rows width count words = flat (map doubled (cut width width count words))

-- old words in the new form
unfoldable pub widened : List ℕ → List ℕ
widened words =
    take 6 words
    ++ (doubled_rows 10 (get_or words 1 0) (drop 6 words)
    ++ (doubled_rows 6 (get_or words 2 0) (drop (instructions_at (layout Old) words) words)
    ++ drop (cases_at (layout Old) words) words))
