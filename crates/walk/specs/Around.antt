-- From the code's statements around to the definition's.
use Rattle.std.specs.Prelude.{◌∷◌}
use Rattle.table.specs.Columns.{maybe_of}
use Rattle.definition.specs.Around as definition
use Rattle.definition.specs.Around.{a_loop, a_switch, another, outermost}
use Rattle.control.specs.Rule.{rule_of}
use Rattle.walk.specs.declared.around.Enclosing.{Enclosing}
use Rattle.walk.specs.declared.around.Enclosing.TheVariants.{Loop, Switch, Another}
use Rattle.walk.specs.declared.around.Around.{Around, fold-Around}
use Rattle.walk.specs.declared.around.Around.TheOpen.{Around-F}

abbrev pub enclosing_of : Enclosing → definition.Enclosing
enclosing_of (Loop label) = a_loop (maybe_of label)
enclosing_of (Switch label) = a_switch (maybe_of label)
enclosing_of (Another label) = another (maybe_of label)

-- one statement within those around it
abbrev pub around_step : Around-F definition.Around → definition.Around
around_step (Around-F.Outermost rule) = outermost (rule_of rule)
around_step (Around-F.Within rule statement outer) = record { rule = rule_of rule; statements = enclosing_of statement ∷ outer.now.statements }

abbrev pub around_of : Around → definition.Around
around_of = fold-Around definition.Around around_step
