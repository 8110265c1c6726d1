-- What the code's types stand for: completions, places and turns of the walk (tree_runs/specs/Machine, Acts), and the links of the rows.
use Rattle.std.specs.Prelude.{ℕ, zero, suc, ◌+◌, ◌<◌, List, [], ◌++◌, Bool, true, false, ◌||◌, get_or, eqb, Option, Some, None}
use Rattle.std.proofs.Math.Option as math
use Rattle.std.proofs.Math.Option.{none, some}
use Rattle.definition.specs.Completion as definition
use Rattle.definition.specs.Completion.{normal, break, continue, stop}
use Rattle.definition.specs.Run.{returned, threw, no_answer_left, not_plain}
use Rattle.tree_check.specs.Found.{row_at}
use Rattle.tree_runs.specs.Links as links
use Rattle.tree_runs.specs.Links.{Linked, plains, cases_back, node_of, layout_of}
use Rattle.tree_runs.specs.Layout.{Node, Layout}
use Rattle.tree_runs.specs.Machine as machine
use Rattle.tree_runs.specs.Machine.{enter, leave, or_leave, case_at}
use Rattle.tree_runs.specs.Acts as acts
use Rattle.tree_runs.specs.Acts.{go, ask, pick, Act, act}
use Rattle.tree_run.specs.declared.completions.Completion.{Completion}
use Rattle.tree_run.specs.declared.completions.Completion.TheVariants.{Normal, Break, Continue, Return, Throw, Unanswered, NotRun}
use Rattle.tree_run.specs.declared.links.Link.{Link}
use Rattle.tree_run.specs.declared.rows.Tree.{Tree}
use Rattle.tree_run.specs.declared.turns.Place.{Place}
use Rattle.tree_run.specs.declared.turns.Place.TheVariants.{Enter, Leave}
use Rattle.tree_run.specs.declared.turns.Then.{Then}
use Rattle.tree_run.specs.declared.turns.Then.TheVariants.{Go, Ask, Pick}
use Rattle.tree_run.specs.declared.turns.Turn.{Turn}

-- a label or a row, or none
abbrev pub if_any : Option ℕ → math.Option ℕ
if_any None = none
if_any (Some n) = some n

abbrev pub completion_of : Completion → definition.Completion
completion_of Normal = normal
completion_of (Break target jump) = break (if_any target) jump
completion_of (Continue target jump) = continue (if_any target) jump
completion_of (Return value id) = stop (returned value id)
completion_of (Throw value id) = stop (threw value id)
completion_of Unanswered = stop no_answer_left
completion_of NotRun = stop not_plain

abbrev pub stops : definition.Completion → Bool
stops normal = false
stops (break target id) = false
stops (continue target id) = false
stops (stop reason) = true

abbrev pub place_of : Place → machine.Place
place_of (Enter row) = enter row
place_of (Leave row completion) = leave row (completion_of completion)

-- begin is the check's, the others are made by src/links
abbrev pub begin_in : (begin : List ℕ) → ℕ → ℕ
begin_in begin k = get_or begin k 0

abbrev pub link_at : List Link → ℕ → Link
link_at list k = get_or list k (record { parent = 0; next = None; child = None })

abbrev pub links_of : (begin : List ℕ) → List Link → links.Links
links_of begin list =
    record { begin = begin_in begin; parent = λ k. (link_at list k).parent; next = λ k. if_any (link_at list k).next; child = λ k. if_any (link_at list k).child }

abbrev pub RowsLinked : (words : List ℕ) → links.Links → (rows : ℕ) → Type 0
RowsLinked words t rows = (k : ℕ) → k < rows → Linked (row_at words) t k

abbrev pub node_at : (words : List ℕ) → links.Links → ℕ → Node
node_at words t k = node_of (row_at words) t k (row_at words k)

abbrev pub layout_at : (words : List ℕ) → links.Links → (rows : ℕ) → Layout
layout_at words t rows = layout_of (row_at words) t rows

-- the same of the code's tree
abbrev pub links_in : Tree → links.Links
links_in tree = links_of tree.begin.now tree.links.now

abbrev pub node_in : Tree → ℕ → Node
node_in tree k = node_at tree.words.now (links_in tree) k

abbrev pub layout_in : Tree → Layout
layout_in tree = layout_at tree.words.now (links_in tree) tree.rows

abbrev pub then_of : links.Links → Then → acts.Then
then_of t (Go place) = go (place_of place)
then_of t (Ask row if_yes if_no) = ask row (enter if_yes) (or_leave (if_any if_no) row)
then_of t (Pick row first cases) = pick row (cases_back t cases first [])

unfoldable pub act_of : (words : List ℕ) → links.Links → Turn → Act
act_of words t turn =
    act (plains (row_at words) turn.rows.start turn.rows.end ++ plains (row_at words) turn.more.start turn.more.end) (then_of t turn.then)

-- where an answer leads
unfoldable pub chosen_by : acts.Then → (given : ℕ) → machine.Place
chosen_by (go place) given = place
chosen_by (ask k if_yes if_no) zero = if_no
chosen_by (ask k if_yes if_no) (suc n) = if_yes
chosen_by (pick k cases) place = or_leave (case_at cases place) k

-- the root's end, or a completion that stops the run
abbrev pub halted_at : Place → (rows : ℕ) → Bool
halted_at (Enter row) rows = false
halted_at (Leave row completion) rows = stops (completion_of completion) || eqb (row + 1) rows

-- and the completion there
abbrev pub end_at : Place → (rows : ℕ) → Option Completion
end_at (Enter row) rows = None
end_at (Leave row completion) rows = elim (halted_at (Leave row completion) rows) [ true ↦ Some completion | false ↦ None ]
