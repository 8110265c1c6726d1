-- What is said of a test that the code hands on as a closure: which of the definition's tests its answers are.
use Rattle.std.specs.Prelude.{◌≡◌, ℕ, Bool}
use Rattle.table.specs.declared.terminals.Terminal as code
use Rattle.table.specs.Table.{Table, Terminal, code_of, terminal_at}
use Rattle.table.specs.Ending.{ending}
use Rattle.definition.specs.Completion.{contains}
use Rattle.definition.specs.Plain.{Width, plain_codes}

-- of a block: its number and its terminal
abbrev pub Answers : (post : (block : ℕ) → (end : code.Terminal) → (answer : Bool) → Type 0) → Table → (p : ℕ → Terminal → Bool) → Type 0
Answers post t p = (block : ℕ) (end : code.Terminal) (answer : Bool) → terminal_at t block ≡ ending end → post block end answer → answer ≡ p block (ending end)

-- of a case's block
abbrev pub AnswersCase : (post : (block : ℕ) → (answer : Bool) → Type 0) → (p : ℕ → Bool) → Type 0
AnswersCase post p = (block : ℕ) (answer : Bool) → post block answer → answer ≡ p block

-- whether plain tables of a width have such a terminal
abbrev pub AnswersCode : (post : (end : code.Terminal) → (answer : Bool) → Type 0) → Width → Type 0
AnswersCode post width = (end : code.Terminal) (answer : Bool) → post end answer → answer ≡ contains (plain_codes width) (code_of (ending end))
