-- An error is a refusal: its code does not say accepted.
use Rattle.std.specs.Prelude.{◌≡◌}
use Rattle.std.proofs.Common.{arith}
use Rattle.table.proofs.RefusalLaws.{refusal_some}
use Rattle.text.proofs.PrintsLaws.{error_some}
use Rattle.convert.specs.ConvertAnswer.{code_of}
use Rattle.convert.specs.declared.ConvertError.{ConvertError}
use Rattle.convert.specs.declared.ConvertError.TheVariants.{File, Table, SpanApart, NoRoom}

pub convert_some : (error : ConvertError) → code_of error ≡ 0 → ⊥
convert_some (File error) e = error_some error e
convert_some (Table refusal) e = refusal_some refusal e
convert_some (SpanApart at) e = omega (arith, e)
convert_some NoRoom e = omega (arith, e)
