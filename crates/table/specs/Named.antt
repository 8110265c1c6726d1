-- How the code lists the blocks that a row names: a Switch's case rows, then at most five blocks.
use Rattle.std.specs.Prelude.{ℕ, ◌+◌, ◌<◌, ◌≤◌, ◌≡◌, List, [], ◌∷◌, ◌++◌, Option, None, Some, take, drop}
use Rattle.std.proofs.Math.Option as maybe
use Rattle.table.specs.Words.{block_count, case_count}
use Rattle.table.specs.Table.{Terminal, absent, unreachable, throw, return, goto, if, branch, switch, do_while, while, for, for_of, for_in}
use Rattle.table.specs.Table.{logical, ternary, optional, label, sequence, maybe_throw, try, scope, table_of, terminal_at}
use Rattle.table.specs.Lines.{case_blocks, named_at}
use Rattle.table.specs.declared.lines.Named.{Named}

abbrev pub no_case : (blocks : List (Option ℕ)) → Named
no_case blocks = record { first_case = 0; cases = 0; blocks = blocks }

-- the definitions' option as the code's
abbrev pub option_of : maybe.Option ℕ → Option ℕ
option_of maybe.none = None
option_of (maybe.some block) = Some block

-- the list for each terminal, by column
abbrev pub names_of : Terminal → Named
names_of absent = no_case (None ∷ None ∷ None ∷ None ∷ None ∷ [])
names_of unreachable = no_case (None ∷ None ∷ None ∷ None ∷ None ∷ [])
names_of (throw value) = no_case (None ∷ None ∷ None ∷ None ∷ None ∷ [])
names_of (return value) = no_case (None ∷ None ∷ None ∷ None ∷ None ∷ [])
names_of (goto block variant) = no_case (Some block ∷ None ∷ None ∷ None ∷ None ∷ [])
names_of (if test consequent alternate fallthrough) = no_case (Some consequent ∷ Some alternate ∷ Some fallthrough ∷ None ∷ None ∷ [])
names_of (branch test consequent alternate) = no_case (Some consequent ∷ Some alternate ∷ None ∷ None ∷ None ∷ [])
names_of (switch test first number fallthrough) = record { first_case = first; cases = number; blocks = Some fallthrough ∷ None ∷ None ∷ None ∷ None ∷ [] }
names_of (do_while loop test fallthrough) = no_case (Some loop ∷ Some test ∷ Some fallthrough ∷ None ∷ None ∷ [])
names_of (while test loop fallthrough) = no_case (Some test ∷ Some loop ∷ Some fallthrough ∷ None ∷ None ∷ [])
names_of (for init test update loop fallthrough) = no_case (Some init ∷ Some test ∷ option_of update ∷ Some loop ∷ Some fallthrough ∷ [])
names_of (for_of init test loop fallthrough) = no_case (Some init ∷ Some test ∷ Some loop ∷ Some fallthrough ∷ None ∷ [])
names_of (for_in init loop fallthrough) = no_case (Some init ∷ Some loop ∷ Some fallthrough ∷ None ∷ None ∷ [])
names_of (logical operator test fallthrough) = no_case (Some test ∷ Some fallthrough ∷ None ∷ None ∷ None ∷ [])
names_of (ternary test fallthrough) = no_case (Some test ∷ Some fallthrough ∷ None ∷ None ∷ None ∷ [])
names_of (optional flag test fallthrough) = no_case (Some test ∷ Some fallthrough ∷ None ∷ None ∷ None ∷ [])
names_of (label block fallthrough) = no_case (Some block ∷ Some fallthrough ∷ None ∷ None ∷ None ∷ [])
names_of (sequence block fallthrough) = no_case (Some block ∷ Some fallthrough ∷ None ∷ None ∷ None ∷ [])
names_of (maybe_throw continuation) = no_case (Some continuation ∷ None ∷ None ∷ None ∷ None ∷ [])
names_of (try block handler fallthrough binding) = no_case (Some block ∷ Some handler ∷ Some fallthrough ∷ None ∷ None ∷ [])
names_of (scope pruned block fallthrough number) = no_case (Some block ∷ Some fallthrough ∷ None ∷ None ∷ None ∷ [])

-- the blocks that are there
abbrev pub present : List (Option ℕ) → List ℕ
present [] = []
present (None ∷ blocks) = present blocks
present (Some block ∷ blocks) = block ∷ present blocks

abbrev pub AllBelow : ℕ → List ℕ → Type 0
AllBelow most [] = Unit {0}
AllBelow most (block ∷ blocks) = (block < most) × AllBelow most blocks

-- the blocks of the case rows, then the others
abbrev pub listed : (ws : List ℕ) → Named → List ℕ
listed ws named = case_blocks (take named.cases (drop named.first_case (table_of ws).cases)) ++ present named.blocks

-- this list is what the row names, within the bounds that a reader of the list needs
pub record Names (ws : List ℕ) (row : ℕ) (named : Named) : Type 0 where
  pub few : block_count ws ≤ 1024
  pub is : named ≡ names_of (terminal_at (table_of ws) row)
  pub are : named_at (table_of ws) row ≡ listed ws named
  pub within : named.first_case + named.cases ≤ case_count ws
  pub below : AllBelow (block_count ws) (present named.blocks)
