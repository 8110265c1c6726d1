-- A statement put before those around it.
use mathlib.Core.Path.{◌≡◌, ap}
use mathlib.Core.List.{◌∷◌}
use borrow.Author.Rules.{rules}
use Rattle.std.proofs.Common.{Bor}
use Rattle.definition.specs.Around as definition
use Rattle.definition.specs.Around.{within, outermost}
use Rattle.control.specs.Rule.{rule_of}
use Rattle.control.specs.declared.rule.Rule.{Rule}
use Rattle.walk.specs.Around.{enclosing_of, around_of}
use Rattle.walk.specs.declared.around.Enclosing.{Enclosing}
use Rattle.walk.specs.declared.around.Around.{Around, Within, Outermost, the_lemmas}

pub around_within : (rule : Rule) (statement : Enclosing) (outer : Bor Around) → rule_of rule ≡ (around_of outer.now).rule
    → around_of (Within rule statement outer) ≡ within (enclosing_of statement) (around_of outer.now)
around_within rule statement outer e =
    let step : around_of (Within rule statement outer) ≡ record { rule = rule_of rule; statements = enclosing_of statement ∷ (around_of outer.now).statements } = search (rules, the_lemmas) in
    rw step (ap (λ (r : definition.Rule). record { rule = r; statements = enclosing_of statement ∷ (around_of outer.now).statements }) e)

pub around_outermost : (rule : Rule) → around_of (Outermost rule) ≡ outermost (rule_of rule)
around_outermost rule = search (rules, the_lemmas)
