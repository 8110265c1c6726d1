-- M-102, "which differs only as follows": the language entry's tree is the first entry's, but that a break to a loop is Labeled "also when a switch is being
-- built between the jump and that loop". The kind of a BREAK is `kind_by language` of what is around it, and nothing else moves.
use Rattle.std.specs.Prelude.{ℕ, ◌≤◌, ◌≡◌, List, ◌∷◌, ◌⊎◌}
use Rattle.std.proofs.Math.Option.{none}
use Rattle.definition.specs.Result.{Result, ok, refused}
use Rattle.definition.specs.Tree.{Statement, INSTR, IF, SWITCH, DOWHILE, WHILE, FOR, FOROF, FORIN, LABEL, TRY, SCOPE, RETURN, THROW, BREAK, CONTINUE}
use Rattle.definition.specs.Tree.{Statements, done, ◌▸◌, Cases, no_cases, CASE}
use Rattle.definition.specs.Around.{language, Enclosing, a_loop, a_switch, another, is_switch_inside, kind_by}
use Rattle.definition.specs.Context.{Context}
use Rattle.definition.specs.Statement.{BlockResult}

-- within these statements, the innermost first
unfoldable mutual
  pub relabeled_statement : List Enclosing → Statement → Statement
  relabeled_statement around (INSTR id lvalue span value) = INSTR id lvalue span value
  relabeled_statement around (IF test id label consequent present alternate) =
      IF test id label (relabeled (another label ∷ around) consequent) present (relabeled (another label ∷ around) alternate)
  relabeled_statement around (SWITCH test id label cases) = SWITCH test id label (relabeled_cases (a_switch label ∷ around) cases)
  relabeled_statement around (DOWHILE id label body test) = DOWHILE id label (relabeled (a_loop label ∷ around) body) test
  relabeled_statement around (WHILE id label test body) = WHILE id label test (relabeled (a_loop label ∷ around) body)
  relabeled_statement around (FOR id label init test update body) = FOR id label init test update (relabeled (a_loop label ∷ around) body)
  relabeled_statement around (FOROF id label span init test body) = FOROF id label span init test (relabeled (a_loop label ∷ around) body)
  relabeled_statement around (FORIN id label span init body) = FORIN id label span init (relabeled (a_loop label ∷ around) body)
  relabeled_statement around (LABEL id label body) = LABEL id label (relabeled (another label ∷ around) body)
  relabeled_statement around (TRY id label binding body handler) =
      TRY id label binding (relabeled (another label ∷ around) body) (relabeled (another label ∷ around) handler)
  relabeled_statement around (SCOPE pruned scope body) = SCOPE pruned scope (relabeled (another none ∷ around) body)
  relabeled_statement around (RETURN value id) = RETURN value id
  relabeled_statement around (THROW value id) = THROW value id
  relabeled_statement around (BREAK target id kind loops) = BREAK target id (kind_by language (is_switch_inside around) kind) loops
  relabeled_statement around (CONTINUE target id kind loops) = CONTINUE target id kind loops

  pub relabeled : List Enclosing → Statements → Statements
  relabeled around done = done
  relabeled around (statement ▸ rest) = relabeled_statement around statement ▸ relabeled around rest

  pub relabeled_cases : List Enclosing → Cases → Cases
  relabeled_cases around no_cases = no_cases
  relabeled_cases around (CASE test body rest) = CASE test (relabeled around body) (relabeled_cases around rest)

-- what the first entry gives, and the language entry: "the same, or 29". Where the first refuses, the second refuses alike, or with 29; and 29 comes
-- with no more visits than the first entry has (`seen` is the count of a result)
abbrev pub Apart : {A : Type 0} → (A → A → Type 0) → (seen : A → ℕ) → Result A → Result A → Type 0
Apart Alike seen (ok a) (ok b) = Alike a b
Apart Alike seen (ok a) (refused code at visits) = (code ≡ 29) × (visits ≤ seen a)
Apart Alike seen (refused code at visits) (ok b) = ⊥
Apart Alike seen (refused code at visits) (refused code' at' visits') = ((code ≡ code') × (at ≡ at') × (visits ≡ visits')) ⊎ ((code' ≡ 29) × (visits' ≤ visits))

-- the count of visits that a list of statements leaves
abbrev pub visits_after : BlockResult → ℕ
visits_after result = result.context.visits

-- lists of statements that differ only so, with the same Context after them, and the same visits
pub data AlikeBlocks (around : List Enclosing) : BlockResult → BlockResult → Type 0 where
  alike_blocks : (first : Statements) (context : Context)
      → AlikeBlocks around (record { statements = first; context = context }) (record { statements = relabeled around first; context = context })
