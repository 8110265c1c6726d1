-- What keeps the control stack small between two points at which the build is watched (definition/specs/Watched).
use Rattle.std.specs.Prelude.{◌≡◌, ℕ, ◌≤◌, ◌<◌, length}
use Rattle.table.specs.Table.{Table, Block, Terminal}
use Rattle.definition.specs.Around.{Around}
use Rattle.definition.specs.Context.{Context}
use Rattle.definition.specs.Result.{ok}
use Rattle.definition.specs.Statement.{BlockResult, TerminalResult, TraverseInside, visit_terminal}
use Rattle.definition.specs.Value.{VisitValueBlock}
use Rattle.definition.specs.Watched.{at_most_entries, watch}

-- The walk of nested blocks ends with fewer entries than so many, wherever it begins with no more.
abbrev pub LeavesRoom : (most : ℕ) → TraverseInside → Type 0
LeavesRoom most traverse =
    (around : Around) (block : ℕ) (cx : Context) (result : BlockResult) → length cx.stack ≤ most → traverse around block cx ≡ ok result
    → length result.context.stack < most

-- An arm adds one entry at most: whatever the walk of its nested blocks, none of them begins with more than so many, and the arm ends
-- with fewer, if it begins with fewer.
abbrev pub AnArmAddsOneEntry : Type 0
AnArmAddsOneEntry =
    (most : ℕ) (t : Table) (visit : VisitValueBlock) (traverse : TraverseInside) → LeavesRoom most traverse
    → (around : Around) (terminal : Terminal) (at : ℕ) (block : Block) (cx : Context) → length cx.stack < most
    → (visit_terminal t visit (λ around. watch (at_most_entries most) around (traverse around)) around terminal at block cx
    ≡ visit_terminal t visit traverse around terminal at block cx)
    × ((result : TerminalResult) → visit_terminal t visit traverse around terminal at block cx ≡ ok result
    → length result.context.stack < most)
