-- The columns of an operation.
use Rattle.std.specs.Prelude.{List, [], ◌∷◌, get_or}
use Rattle.table.specs.Check.{Rule, unused}

-- rules for two columns: those not listed are unused
abbrev pub two : List Rule → List Rule
two rules = get_or rules 0 unused ∷ get_or rules 1 unused ∷ []
