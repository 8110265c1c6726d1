-- What visit_break and visit_continue promise.
use Rattle.std.specs.Prelude as std
use Rattle.std.specs.Prelude.{ℕ, ◌≡◌, ◌+◌, ◌≤◌, Ok, Err, MatchResult}
use Rattle.std.proofs.Math.Option.{Option}
use Rattle.definition.specs.Output.{◌⊕◌, added, jump_out, statement_out}
use Rattle.definition.specs.Result.{Result, ok}
use Rattle.definition.specs.Tree.{Statement}
use Rattle.walk.specs.Out.{Puts}
use Rattle.walk.specs.State.{refused_by}
use Rattle.walk.specs.declared.refusal.Refused.{Refused}
use Rattle.walk.specs.declared.state.Walk.{Walk}

-- a jump's row, if it has one, and nothing else
pub record Leapt (outcome : Result (Option Statement)) (start : Walk) (made : ℕ) (end : Walk) : Type 0 where
  pub statement : Option Statement
  pub same : outcome ≡ ok statement
  pub count : added statement 0 ≡ made
  pub puts : Puts start (λ out. out ⊕ jump_out statement) end
  pub cx : end.cx ≡ start.cx
  pub rows : end.tally.rows ≤ start.tally.rows + 1
  pub visits : end.tally.visits ≡ start.tally.visits
  pub lines : end.lines ≡ start.lines

abbrev pub Jumped : Result (Option Statement) → Walk → std.Result ℕ Refused → Walk → Type 0
Jumped outcome start r end = MatchResult r (λ made. Leapt outcome start made end) (λ e. outcome ≡ refused_by e)

pub record Resumed (outcome : Result Statement) (start end : Walk) : Type 0 where
  pub statement : Statement
  pub same : outcome ≡ ok statement
  pub puts : Puts start (λ out. out ⊕ statement_out statement) end
  pub cx : end.cx ≡ start.cx
  pub rows : end.tally.rows ≤ start.tally.rows + 1
  pub visits : end.tally.visits ≡ start.tally.visits
  pub lines : end.lines ≡ start.lines

abbrev pub Continued : Result Statement → Walk → std.Result (Unit {0}) Refused → Walk → Type 0
Continued outcome start r end = MatchResult r (λ _. Resumed outcome start end) (λ e. outcome ≡ refused_by e)
