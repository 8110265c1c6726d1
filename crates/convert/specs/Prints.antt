-- What the converters print of a file: the text of the answer, or the two lines of its refusal. With 65,542 bytes lent oldtonew never prints 53, with
-- 32,768 bytes newtoold does not (`convert/proofs/CodeLaws`, `new_fits`, `old_fits`).
use Rattle.std.specs.Prelude.{ℕ, List}
use Rattle.text.specs.Placed.{printed_placing}
use Rattle.convert.specs.Convert.{old_to_new, new_to_old}

abbrev pub new_text : (room : ℕ) → (file : List ℕ) → List ℕ
new_text room file = printed_placing (old_to_new file room)

abbrev pub old_text : (room : ℕ) → (file : List ℕ) → List ℕ
old_text room file = printed_placing (new_to_old file room)
