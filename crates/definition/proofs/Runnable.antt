-- The trees that M-103 runs: "64, before running, at the first LOGICAL, COND, OPTIONAL, TRY, FOROF or FORIN". For proofs/Semantics, which says that the tree of
-- a plain table is one, and for the runner.
use mathlib.Core.Option.{Option, none, some}
use Rattle.definition.specs.Tree.{Value, PLAIN, LOAD, UNDEF, SEQ, LOGICAL, COND, OPTIONAL, Instructions, no_instructions, instruction, Statement, INSTR, IF}
use Rattle.definition.specs.Tree.{SWITCH, DOWHILE, WHILE, FOR, FOROF, FORIN, LABEL, TRY, SCOPE, RETURN, THROW, BREAK, CONTINUE, Statements, done, ◌▸◌}
use Rattle.definition.specs.Tree.{Cases, no_cases, CASE}

abbrev mutual
  pub Straight : Value → Type 0
  Straight (PLAIN instruction_row) = Unit {0}
  Straight (LOAD place) = Unit {0}
  Straight (UNDEF span) = Unit {0}
  Straight (SEQ instructions id value) = StraightAll instructions × Straight value
  Straight (LOGICAL operator left right) = ⊥
  Straight (COND test consequent alternate) = ⊥
  Straight (OPTIONAL flag value) = ⊥

  pub StraightAll : Instructions → Type 0
  StraightAll no_instructions = Unit {0}
  StraightAll (instruction id lvalue span value rest) = Straight value × StraightAll rest

abbrev pub StraightUpdate : Option Value → Type 0
StraightUpdate none = Unit {0}
StraightUpdate (some update) = Straight update

abbrev mutual
  pub RunnableStatement : Statement → Type 0
  RunnableStatement (INSTR id lvalue span value) = Straight value
  RunnableStatement (IF test id label consequent present alternate) = Runnable consequent × Runnable alternate
  RunnableStatement (SWITCH test id label cases) = RunnableCases cases
  RunnableStatement (DOWHILE id label body test) = Runnable body × Straight test
  RunnableStatement (WHILE id label test body) = Straight test × Runnable body
  RunnableStatement (FOR id label init test update body) = Straight init × Straight test × StraightUpdate update × Runnable body
  RunnableStatement (FOROF id label span init test body) = ⊥
  RunnableStatement (FORIN id label span init body) = ⊥
  RunnableStatement (LABEL id label body) = Runnable body
  RunnableStatement (TRY id label binding body handler) = ⊥
  RunnableStatement (SCOPE pruned scope body) = Runnable body
  RunnableStatement (RETURN value id) = Unit {0}
  RunnableStatement (THROW value id) = Unit {0}
  RunnableStatement (BREAK target id kind loops) = Unit {0}
  RunnableStatement (CONTINUE target id kind loops) = Unit {0}

  pub Runnable : Statements → Type 0
  Runnable done = Unit {0}
  Runnable (statement ▸ rest) = RunnableStatement statement × Runnable rest

  pub RunnableCases : Cases → Type 0
  RunnableCases no_cases = Unit {0}
  RunnableCases (CASE test body rest) = Runnable body × RunnableCases rest
