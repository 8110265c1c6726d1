-- M-111: the list of old numbers, the renaming that it stands for, and the order of a breadth-first walk.
use Rattle.std.specs.Prelude.{◌≡◌, ℕ, zero, suc, ◌<◌, List, [], ◌∷◌, ◌++◌, Bool, true, false, not, ◌&&◌, get_or, length, replicate, eqb, ltb}
use Rattle.table.specs.Table.{Table, rows_from, table_of}
use Rattle.table.specs.Words.{block_count}
use Rattle.table.specs.Check.{accepted, refused, checked}
use Rattle.definition.specs.Completion.{contains}
use Rattle.table.specs.Lines.{named_at}
use Rattle.renaming.specs.Renaming.{renamed}

-- ---- a list of old numbers

-- "46 .. when the list isn't a permutation of the block numbers": as many numbers as blocks, each a block, none twice
abbrev pub all_below : ℕ → List ℕ → Bool
all_below n [] = true
all_below n (b ∷ list) = ltb b n && all_below n list

abbrev pub none_twice : List ℕ → Bool
none_twice [] = true
none_twice (b ∷ list) = not (contains list b) && none_twice list

unfoldable pub is_permutation : ℕ → List ℕ → Bool
is_permutation n list = eqb (length list) n && (all_below n list && none_twice list)

-- the old number of a block: what stands at its place in the list. A number beyond the list is its own
unfoldable pub old_number : List ℕ → ℕ → ℕ
old_number list b = get_or list b b

-- its new number: the place where it stands. A number that is not in the list is its own
abbrev pub place_from : (place : ℕ) → List ℕ → ℕ → ℕ
place_from place [] b = b
place_from place (old ∷ list) b = elim (eqb old b) [ true ↦ place | false ↦ place_from (suc place) list b ]

unfoldable pub new_number : List ℕ → ℕ → ℕ
new_number list b = place_from 0 list b

-- ---- the walk

-- those of some names that are not in the list yet, each put at its end when it is first named
abbrev pub with_named : List ℕ → (names : List ℕ) → List ℕ
with_named found [] = found
with_named found (b ∷ names) = elim (contains found b) [ true ↦ with_named found names | false ↦ with_named (found ++ (b ∷ [])) names ]

-- the block found at each place, from `place` on, names others: so many places are looked at, as far as there are any
unfoldable pub walk_from : Table → (places place : ℕ) → (found : List ℕ) → List ℕ
walk_from t zero place found = found
walk_from t (suc places) place found =
    elim (ltb place (length found)) [
      | true ↦ walk_from t places (suc place) (with_named found (named_at t (get_or found place 0)))
      | false ↦ found
    ]

-- the walk from the entry names every block
abbrev pub AllNamed : Table → Type 0
AllNamed t = (b : ℕ) → b < length t.blocks → contains (walk_from t (length t.blocks) 0 (t.entry ∷ [])) b ≡ true

-- "the entry becomes 0, the others follow as a breadth-first walk along M-110's lines first names them, and blocks it never names come last in their old order"
unfoldable pub walking_order : Table → List ℕ
walking_order t = with_named (walk_from t (length t.blocks) 0 (t.entry ∷ [])) (rows_from 0 (length t.blocks))

-- ---- the two operations, of words with no refusal 1 to 4

unfoldable pub rearranged : List ℕ → List ℕ
rearranged words = renamed (new_number (walking_order (table_of words))) (old_number (walking_order (table_of words))) words

-- "renames every block, the entry too, to its old number in the list": the row of a block is the one at its new number
unfoldable pub restored_by : (list : List ℕ) → List ℕ → List ℕ
restored_by list words = renamed (old_number list) (new_number list) words

-- ---- the whole, for any words and any lent lengths. "A refusal leaves zeros in every output."

-- "It gives the new table .. and the list of old numbers."
pub record Rearrangement : Type 0 where
  pub code : ℕ
  pub at : ℕ
  pub table : List ℕ
  pub list : List ℕ

unfoldable pub refused_rearrangement : (code at lent_table lent_list : ℕ) → Rearrangement
refused_rearrangement code at lent_table lent_list = record { code = code; at = at; table = replicate lent_table 0; list = replicate lent_list 0 }

-- "1 to 4 first; 45, at 0, when an output's length isn't just the one needed"
unfoldable pub rearrangement : (words : List ℕ) → (lent_table lent_list : ℕ) → Rearrangement
rearrangement words lent_table lent_list =
    elim (checked words) [
      | refused code at ↦ refused_rearrangement code at lent_table lent_list
      | accepted ↦
          elim (eqb lent_table (length words) && eqb lent_list (block_count words)) [
            | true ↦ record { code = 0; at = 0; table = rearranged words; list = walking_order (table_of words) }
            | false ↦ refused_rearrangement 45 0 lent_table lent_list
          ]
    ]

pub record Restoration : Type 0 where
  pub code : ℕ
  pub at : ℕ
  pub table : List ℕ

unfoldable pub refused_restoration : (code at lent_table : ℕ) → Restoration
refused_restoration code at lent_table = record { code = code; at = at; table = replicate lent_table 0 }

-- "46, at 0, in the inverse, after 45, when the list isn't a permutation of the block numbers"
unfoldable pub restoration : (words list : List ℕ) → (lent_table : ℕ) → Restoration
restoration words list lent_table =
    elim (checked words) [
      | refused code at ↦ refused_restoration code at lent_table
      | accepted ↦
          elim (eqb lent_table (length words)) [
            | true ↦
                elim (is_permutation (block_count words) list) [
                  | true ↦ record { code = 0; at = 0; table = restored_by list words }
                  | false ↦ refused_restoration 46 0 lent_table
                ]
            | false ↦ refused_restoration 45 0 lent_table
          ]
    ]
