-- The code's own loop as the definition's.
use Rattle.std.specs.Prelude.{Option, Some, None}
use Rattle.std.proofs.Math.Option as maybe
use Rattle.definition.specs.PlainLoops.{Loop}
use Rattle.plain.specs.declared.facts.Loop as own

abbrev pub as_loop : own.Loop → Loop
as_loop found = record { test = found.test; body = found.body; fallthrough = found.fallthrough; again = found.again }

abbrev pub maybe_loop : Option own.Loop → maybe.Option Loop
maybe_loop None = maybe.none
maybe_loop (Some found) = maybe.some (as_loop found)
