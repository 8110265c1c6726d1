-- An error is a refusal: its code does not say accepted.
use Rattle.std.specs.Prelude.{◌≡◌}
use Rattle.std.proofs.Common.{arith}
use Rattle.table.proofs.RefusalLaws.{refusal_some}
use Rattle.dot.specs.Answer.{code_of}
use Rattle.dot.specs.declared.DrawError.{DrawError}
use Rattle.dot.specs.declared.DrawError.TheVariants.{Table, NoRoom}

pub code_some : (error : DrawError) → code_of error ≡ 0 → ⊥
code_some (Table refusal) e = refusal_some refusal e
code_some NoRoom e = omega (arith, e)
