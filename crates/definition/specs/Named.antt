-- M-107 and M-102, of the tree alone: the number of a jump counts the loops around it up to the statement that it was resolved on, and a jump to a loop is
-- Labeled exactly when that number is above 0; in the language entry every Labeled jump names a label around it, and an Unlabeled break stands directly in
-- its loop. proofs/Labels proves it of every tree that the build makes.
use Rattle.std.specs.Prelude.{◌≡◌, ℕ, zero, suc, List, [], ◌∷◌, Bool, true, false}
use Rattle.std.proofs.Math.Option.{Option, none, some}
use Rattle.definition.specs.Tree.{Kind, implicit, labeled, unlabeled, Statement, INSTR, IF, SWITCH, DOWHILE, WHILE, FOR, FOROF, FORIN, LABEL, TRY, SCOPE, RETURN}
use Rattle.definition.specs.Tree.{THROW, BREAK, CONTINUE, Statements, done, ◌▸◌, Cases, no_cases, CASE}
use Rattle.definition.specs.Around.{Rule, rust, language, Enclosing, a_loop, a_switch, another, is_switch_inside, kind_by, names_statement, names_loop}

-- "A jump that comes out Labeled must name the label of a statement around it"; and a bare break leaves "the nearest loop or switch", which is a loop
abbrev pub BreakNamed : (is_switch_inside named : Bool) → Kind → Type 0
BreakNamed switch named implicit = Unit {0}
BreakNamed switch named labeled = named ≡ true
BreakNamed switch named unlabeled = switch ≡ false

-- "and a continue the label of the very loop it resolved to"
abbrev pub ContinueNamed : (named : Bool) → Kind → Type 0
ContinueNamed named implicit = Unit {0}
ContinueNamed named labeled = named ≡ true
ContinueNamed named unlabeled = Unit {0}

abbrev pub InLanguage : Rule → Type 0 → Type 0
InLanguage rust claim = Unit {0}
InLanguage language claim = claim

-- a loop has the label, or none: its fallthrough is the target
abbrev pub LabelOr : Option ℕ → (target : ℕ) → Type 0
LabelOr none target = Unit {0}
LabelOr (some label) target = label ≡ target

-- "the very loop it resolved to": so many loops are between
abbrev pub VeryLoop : List Enclosing → (loops target : ℕ) → Type 0
VeryLoop [] loops target = ⊥
VeryLoop (a_loop label ∷ outer) zero target = LabelOr label target
VeryLoop (a_loop label ∷ outer) (suc loops) target = VeryLoop outer loops target
VeryLoop (a_switch label ∷ outer) loops target = VeryLoop outer loops target
VeryLoop (another label ∷ outer) loops target = VeryLoop outer loops target

-- ---- M-107: "the number of loops on the control stack above the one it found", in the tree

-- what a break was resolved on
pub data Landing : Type 0 where
  on_a_loop on_another : Landing

abbrev pub OtherLabel : Option ℕ → (target : ℕ) → Type 0
OtherLabel none target = Unit {0}
OtherLabel (some label) target = label ≡ target → ⊥

-- with so many loops between, and no statement between that bears the label: on a loop whose fallthrough is the target; on another statement with that label
-- (or a scope, which has none); or on a later case of a switch
pub data Lands : Landing → List Enclosing → (loops target : ℕ) → Type 0 where
  this_loop : {outer : List Enclosing} (label : Option ℕ) (target : ℕ) → LabelOr label target → Lands on_a_loop (a_loop label ∷ outer) 0 target
  this_switch : {outer : List Enclosing} (target : ℕ) → Lands on_another (a_switch (some target) ∷ outer) 0 target
  this_statement : {outer : List Enclosing} (label : Option ℕ) (target : ℕ) → LabelOr label target → Lands on_another (another label ∷ outer) 0 target
  a_later_case : {outer : List Enclosing} (label : Option ℕ) (target : ℕ) → Lands on_another (a_switch label ∷ outer) 0 target
  inside_a_loop : {landing : Landing} {outer : List Enclosing} {loops target : ℕ} (label : Option ℕ) → OtherLabel label target → Lands landing outer loops target
      → Lands landing (a_loop label ∷ outer) (suc loops) target
  inside_a_switch : {landing : Landing} {outer : List Enclosing} {loops target : ℕ} (label : Option ℕ) → OtherLabel label target → Lands landing outer loops target
      → Lands landing (a_switch label ∷ outer) loops target
  inside_another : {landing : Landing} {outer : List Enclosing} {loops target : ℕ} (label : Option ℕ) → OtherLabel label target → Lands landing outer loops target
      → Lands landing (another label ∷ outer) loops target

-- "In the Rust-equal entry, a jump whose target is a loop is Labeled exactly when the number is above 0." A break to another statement is never Unlabeled
abbrev pub LandedKind : Landing → (loops : ℕ) → Kind → Type 0
LandedKind on_a_loop zero kind = kind ≡ unlabeled
LandedKind on_a_loop (suc loops) kind = kind ≡ labeled
LandedKind on_another loops kind = kind ≡ unlabeled → ⊥

-- a break of this kind, by the rule, with this number
pub record BreakLanded (rule : Rule) (around : List Enclosing) (target : ℕ) (kind : Kind) (loops : ℕ) : Type 0 where
  pub landing : Landing
  pub lands : Lands landing around loops target
  pub first : Kind
  pub landed : LandedKind landing loops first
  pub by_rule : kind ≡ kind_by rule (is_switch_inside around) first

-- a continue lands on a loop; it may be Implicit or Unlabeled where the number is 0
abbrev pub ContinueLanded : (loops : ℕ) → Kind → Type 0
ContinueLanded zero kind = kind ≡ labeled → ⊥
ContinueLanded (suc loops) kind = kind ≡ labeled

-- within these statements, the innermost first
unfoldable mutual
  pub NamedStatement : Rule → List Enclosing → Statement → Type 0
  NamedStatement rule around (INSTR id lvalue span value) = Unit {0}
  NamedStatement rule around (IF test id label consequent present alternate) = Named rule (another label ∷ around) consequent × Named rule (another label ∷ around) alternate
  NamedStatement rule around (SWITCH test id label cases) = NamedCases rule (a_switch label ∷ around) cases
  NamedStatement rule around (DOWHILE id label body test) = Named rule (a_loop label ∷ around) body
  NamedStatement rule around (WHILE id label test body) = Named rule (a_loop label ∷ around) body
  NamedStatement rule around (FOR id label init test update body) = Named rule (a_loop label ∷ around) body
  NamedStatement rule around (FOROF id label span init test body) = Named rule (a_loop label ∷ around) body
  NamedStatement rule around (FORIN id label span init body) = Named rule (a_loop label ∷ around) body
  NamedStatement rule around (LABEL id label body) = Named rule (another label ∷ around) body
  NamedStatement rule around (TRY id label binding body handler) = Named rule (another label ∷ around) body × Named rule (another label ∷ around) handler
  NamedStatement rule around (SCOPE pruned scope body) = Named rule (another none ∷ around) body
  NamedStatement rule around (RETURN value id) = Unit {0}
  NamedStatement rule around (THROW value id) = Unit {0}
  NamedStatement rule around (BREAK target id kind loops) =
      BreakLanded rule around target kind loops × InLanguage rule (BreakNamed (is_switch_inside around) (names_statement around target) kind)
  NamedStatement rule around (CONTINUE target id kind loops) =
      VeryLoop around loops target × ContinueLanded loops kind × InLanguage rule (ContinueNamed (names_loop around loops target) kind)

  pub Named : Rule → List Enclosing → Statements → Type 0
  Named rule around done = Unit {0}
  Named rule around (statement ▸ rest) = NamedStatement rule around statement × Named rule around rest

  pub NamedCases : Rule → List Enclosing → Cases → Type 0
  NamedCases rule around no_cases = Unit {0}
  NamedCases rule around (CASE test body rest) = Named rule around body × NamedCases rule around rest
