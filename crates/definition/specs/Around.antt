-- Change request M-102: the two entries of the build, and what is being built around a jump. Quotes are M-102's.
use Rattle.std.specs.Prelude.{ℕ, zero, suc, List, [], ◌∷◌, Bool, true, false, not, ◌||◌, eqb}
use Rattle.std.proofs.Math.Option.{Option, none, some}
use Rattle.definition.specs.Context.{Resolution}
use Rattle.definition.specs.Tree.{Kind, implicit, labeled, unlabeled}

-- the entry that equals the Rust, and "a second entry, the language entry"
pub data Rule : Type 0 where
  rust language : Rule

-- a statement that is being built: one of its nested lists contains the jump. Its label is the fallthrough that it took, if it took one; a scope's row has none
pub data Enclosing : Type 0 where
  a_loop : (label : Option ℕ) → Enclosing
  a_switch : (label : Option ℕ) → Enclosing
  another : (label : Option ℕ) → Enclosing

-- the rule, and the statements being built, the innermost first. The control stack does not have all of them: not, say, a switch that did not take its fallthrough
pub record Around : Type 0 where
  pub rule : Rule
  pub statements : List Enclosing

abbrev pub outermost : Rule → Around
outermost rule = record { rule = rule; statements = [] }

abbrev pub within : Enclosing → Around → Around
within enclosing around = record { rule = around.rule; statements = enclosing ∷ around.statements }

-- ---- the kind of a break

-- a switch is being built inside of the innermost loop
unfoldable pub is_switch_inside : List Enclosing → Bool
is_switch_inside [] = false
is_switch_inside (a_loop label ∷ outer) = false
is_switch_inside (a_switch label ∷ outer) = true
is_switch_inside (another label ∷ outer) = is_switch_inside outer

-- "There a break to a loop is Labeled also when a switch is being built between the jump and that loop, whether or not the switch took its fallthrough."
-- (Only a break to the innermost loop is Unlabeled. A break to a loop further out is Labeled by paper 01's rule.)
unfoldable pub kind_by : Rule → (switch_between : Bool) → Kind → Kind
kind_by rust switch_between kind = kind
kind_by language switch_between implicit = implicit
kind_by language switch_between labeled = labeled
kind_by language true unlabeled = labeled
kind_by language false unlabeled = unlabeled

unfoldable pub break_kind_in : Around → Kind → Kind
break_kind_in around kind = kind_by around.rule (is_switch_inside around.statements) kind

-- ---- the label that a jump names

unfoldable pub is_label : Option ℕ → (target : ℕ) → Bool
is_label none target = false
is_label (some label) target = eqb label target

-- "the label of a statement around it"
unfoldable pub names_statement : List Enclosing → (target : ℕ) → Bool
names_statement [] target = false
names_statement (a_loop label ∷ outer) target = is_label label target || names_statement outer target
names_statement (a_switch label ∷ outer) target = is_label label target || names_statement outer target
names_statement (another label ∷ outer) target = is_label label target || names_statement outer target

-- "and a continue the label of the very loop it resolved to": the one with so many loops inside of it
unfoldable pub names_loop : List Enclosing → (loops target : ℕ) → Bool
names_loop [] loops target = false
names_loop (a_loop label ∷ outer) zero target = is_label label target
names_loop (a_loop label ∷ outer) (suc loops) target = names_loop outer loops target
names_loop (a_switch label ∷ outer) loops target = names_loop outer loops target
names_loop (another label ∷ outer) loops target = names_loop outer loops target

-- "29 in the new entry .. exactly when a Labeled jump finds no such label"
unfoldable pub unnamed : Rule → Kind → (named : Bool) → Bool
unnamed rust kind named = false
unnamed language implicit named = false
unnamed language labeled named = not named
unnamed language unlabeled named = false

unfoldable pub break_unnamed : Around → Resolution → Bool
break_unnamed around found = unnamed around.rule (break_kind_in around found.kind) (names_statement around.statements found.target)

unfoldable pub continue_unnamed : Around → Resolution → Bool
continue_unnamed around found = unnamed around.rule found.kind (names_loop around.statements found.loops found.target)
