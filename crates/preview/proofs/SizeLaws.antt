-- What is printed of a preview: 81 bytes are enough.
use mathlib.Core.Path.{◌≡◌, ◌∙◌}
use mathlib.Core.List.{List, [], ◌∷◌, ◌++◌}
use Prim.Native.Nat.{ℕ, ◌^◌, ◌<◌}
use native.Mathlib.Omega.{arith}
use lib.ListN.{length-append}
use Rattle.text.specs.Line.{line}
use Rattle.text.specs.Printed.{Written, written_of, lent_of}
use Rattle.text.specs.Prints.{WrittenText}
use Rattle.text.proofs.WriteLaws.{line_most, text_fits}
use Rattle.definition.specs.Preview.{Preview}
use Rattle.preview.specs.Prints.{size_names, size_text}

-- every number has 32 bits
abbrev pub Narrow : Preview → Type 0
Narrow p = (p.code < 2 ^ 32) × (p.at < 2 ^ 32) × (p.rows < 2 ^ 32) × (p.visits < 2 ^ 32) × (p.lines < 2 ^ 32)

pub size_written : (p : Preview) {room : ℕ} {r : Written} {lent : List ℕ} → Narrow p → r ≡ written_of room (size_text p) → lent ≡ lent_of room (size_text p) → WrittenText 81 (size_text p) room r lent
unfolding size_text
size_written p {room} n answer bytes = record {
  answer = answer;
  bytes = bytes;
  enough = λ long. answer ∙ text_fits room (size_names ++ numbers) (simp length-append (omega (arith, line_most columns (n.0, (n.1, (n.2, (n.3, (n.4, tt))))), long)));
}
  where
    columns : List ℕ
    columns = p.code ∷ p.at ∷ p.rows ∷ p.visits ∷ p.lines ∷ []

    numbers : List ℕ
    numbers = line columns
