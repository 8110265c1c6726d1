-- The contracts of the functions below the converters.
use Rattle.std.specs.Prelude.{ℕ, ◌+◌, ◌-◌, ◌*◌, ◌/◌, List, Option, None, Some, true, false, ltb}
use Rattle.table.specs.Words.{block_count, instruction_count}
use Rattle.table.specs.Check.{Verdict, accepted, refused, checked}
use Rattle.text.specs.Placed.{Placing}
use Rattle.convert.specs.Write.{table_text, unless_refused}

-- a word's place in the old form: the `to`s before it are left out of the count
unfoldable pub old_place : (blocks instructions at : ℕ) → ℕ
old_place blocks instructions at =
    elim (ltb at 6) [
      | true ↦ at
      | false ↦
          elim (ltb at (6 + blocks * 11)) [
            | true ↦ at - (at - 6) / 11
            | false ↦
                elim (ltb at (6 + blocks * 11 + instructions * 7)) [
                  | true ↦ at - blocks - (at - (6 + blocks * 11)) / 7
                  | false ↦ at - blocks - instructions
                ]
          ]
    ]

-- a verdict with its place moved
unfoldable pub moved : (ℕ → ℕ) → Verdict → Verdict
moved back accepted = accepted
moved back (refused code at) = refused code (back at)

-- the verdict on widened words, in places of the old form
abbrev pub moved_back : (wide : List ℕ) → Verdict
moved_back wide = moved (old_place (block_count wide) (instruction_count wide)) (checked wide)

-- what widened words give
abbrev pub of_wide : (wide : List ℕ) → (lent : ℕ) → Placing
of_wide wide lent = unless_refused (moved_back wide) lent (table_text wide)

-- the place of the first `to` that differs from its `from`, if one does
abbrev pub apart_at : Option ℕ → Verdict
apart_at None = accepted
apart_at (Some at) = refused 52 at
