-- The build, watched from outside: wherever a block's walk begins and wherever it ends, at every depth and after every fallthrough, the
-- build is refused unless the statements being built around the block, and the state, are allowed. A bound of the walk is a theorem that
-- such a build is the definition's. An arm schedules onto the state that it begins with, or onto one that a nested block's walk ends with.
use Rattle.std.specs.Prelude.{ℕ, zero, suc, Bool, not, leb, length}
use Rattle.table.specs.Table.{Table, block_at, terminal_at}
use Rattle.definition.specs.Around.{Rule, Around, outermost}
use Rattle.definition.specs.Context.{Context, start}
use Rattle.definition.specs.Result.{Result, ok, refused, ◌>>=◌, refuse_if}
use Rattle.definition.specs.Statement.{BlockResult, TraverseBlock, TraverseInside, enter_block, visit_terminal, then_next}
use Rattle.definition.specs.Value.{most_depth, most_visits, VisitValueBlock, visit_value_block}

abbrev pub Allowed : Type 0
Allowed = (around : Around) → Context → Bool

abbrev pub at_most_entries : (most : ℕ) → Allowed
at_most_entries most around cx = leb (length cx.stack) most

-- the entry block is 1 deep
abbrev pub at_most_deep : (most : ℕ) → Allowed
at_most_deep most around cx = leb (suc (length around.statements)) most

-- a number of its own, which no table gives
abbrev pub not_allowed : ℕ
not_allowed = 93

-- a block's walk, watched where it begins and where it ends
unfoldable pub watch : Allowed → Around → TraverseBlock → TraverseBlock
watch allowed around walk block cx =
    refuse_if (not (allowed around cx)) not_allowed block cx.visits >>= λ _.
    walk block cx >>= λ result.
    refuse_if (not (allowed around result.context)) not_allowed block result.context.visits >>= λ _.
    ok result

-- visit_block, each of whose blocks is watched
unfoldable pub visit_watched : Allowed → Table → VisitValueBlock → TraverseInside → Around → (blocks_left : ℕ) → TraverseBlock
visit_watched allowed t visit traverse around zero block cx = refused 31 block cx.visits
visit_watched allowed t visit traverse around (suc blocks_left) block cx =
    watch allowed around (λ block cx.
    enter_block t block cx >>= λ entered.
    visit_terminal t visit traverse around (terminal_at t block) block (block_at t block) entered >>= λ result.
    then_next t block (visit_watched allowed t visit traverse around blocks_left) result.statement result.next result.context) block cx

-- traverse_block, with every level below watched too
unfoldable pub traverse_watched : Allowed → Table → (depth_left : ℕ) → TraverseInside
traverse_watched allowed t zero around block cx = refused 30 block cx.visits
traverse_watched allowed t (suc depth_left) around block cx =
    visit_watched allowed t (visit_value_block t depth_left) (traverse_watched allowed t depth_left) around (suc most_visits) block cx

-- build_tree, watched
unfoldable pub watched : Allowed → Rule → Table → Result BlockResult
watched allowed rule t = traverse_watched allowed t most_depth (outermost rule) t.entry start
