-- What the code's own types for a column stand for: a Goto's variant, and a row that may be none.
use Rattle.std.specs.Prelude.{ℕ, Option, Some, None}
use Rattle.std.proofs.Math.Option as maybe
use Rattle.table.specs.declared.terminals.GotoVariant.{GotoVariant}
use Rattle.table.specs.declared.terminals.GotoVariant.TheVariants as goto
use Rattle.table.specs.Table.{Variant, Break, Continue, Try}

-- "variant (0 Break, 1 Continue, 2 Try)"
abbrev pub goto_variant : GotoVariant → Variant
goto_variant goto.Break = Break
goto_variant goto.Continue = Continue
goto_variant goto.Try = Try

-- an option of the code as the definition's
abbrev pub maybe_of : Option ℕ → maybe.Option ℕ
maybe_of None = maybe.none
maybe_of (Some row) = maybe.some row
