-- How many blocks a set has. The contracts of the statement walk count by it what each block that was entered has paid for.
use Rattle.std.specs.Prelude.{ℕ, suc, [], ◌∷◌, true, false}
use Rattle.definition.specs.Context.{Flags}

abbrev pub marks : Flags → ℕ
marks [] = 0
marks (true ∷ s) = suc (marks s)
marks (false ∷ s) = marks s
