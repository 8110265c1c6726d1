-- Laws of writing text into a lent buffer.
use mathlib.Core.Path.{◌≡◌, refl, sym, ap, ◌∙◌}
use mathlib.Core.Bool.{Bool, true, false}
use mathlib.Core.List.{List, [], ◌∷◌, ◌++◌, append-nil}
use Rattle.std.specs.Prelude.{Ok, Err}
use Prim.Native.Nat.{ℕ, zero, suc, ◌+◌, ◌-◌, ◌*◌, ◌/◌, ◌^◌, ◌≤◌, ◌<◌}
use native.Mathlib.Omega.{arith}
use native.Mathlib.Numerals.{add-one}
use native.Mathlib.Nat.{add-div_left, div-eq_of_lt, div-zero}
use lib.Dec.{eqb, leb}
use borrow.Author.Tests.{le-leb, leb-true}
use lib.ListN.{length, take, drop, get_or, length-append, length-take, length-drop, drop_of_length-le}
use lib.Seq.{drop-cons, get_or-drop, take-nil, take-append-le, drop_at}
use Rattle.text.specs.Decimal.{choose, decimal}
use Rattle.text.specs.Line.{after, line, lines, cut, rows_in}
use Rattle.text.specs.Form.{ending}
use Rattle.text.specs.Printed.{result_names, tree_names, tree_lines, printed, Written, no_room, written_of}
use Rattle.text.specs.File.{Words}
use Rattle.text.proofs.DecimalLaws.{decimal_ten}
use Rattle.text.proofs.FormLaws.{after_ending}
use Rattle.text.proofs.PartLaws.{last_number}

-- ---- a line of numbers

-- the numbers from i on
pub line_open : (ns : List ℕ) (i : ℕ) → i < length ns → line (drop i ns) ≡ decimal (get_or ns i 0) ++ (ending (eqb (i + 1) (length ns)) ∷ line (drop (i + 1) ns))
unfolding line
line_open ns i p =
    let m : length (drop (suc i) ns) ≡ length ns - suc i = length-drop (suc i) ns in
    let e : after (drop (suc i) ns) ≡ ending (eqb (i + 1) (length ns)) =
    after_ending (drop (suc i) ns) ∙ ap (λ (b : Bool). ending b) (last_number (length (drop (suc i) ns)) i (length ns) (omega arith)) in
    rw (drop-cons ns i 0 p, e, add-one i)

pub line_done : (ns : List ℕ) (i : ℕ) → length ns ≤ i → line (drop i ns) ≡ []
unfolding line
line_done ns i p = rw (drop_of_length-le ns p)

-- ---- the whole rows of words

module _ (stride width : ℕ) where
  -- a row is one more
  pub rows_counted : (row rest : List ℕ) → 0 < stride → length row ≡ stride → length (row ++ rest) / stride ≡ suc (length rest / stride)
  rows_counted row rest some long = rw (length-append row rest, long, add-div_left (length rest) some) (omega arith)

  -- it and those behind it
  pub rows_open : (row rest : List ℕ) → 0 < stride → width ≤ stride → length row ≡ stride → rows_in stride width (row ++ rest) ≡ take width row ∷ rows_in stride width rest
  unfolding cut
  rows_open row rest some fits long = rw (rows_counted row rest some long, take-append-le width row rest (omega (arith, long)), drop_at row rest stride long)

  pub rows_none : (rest : List ℕ) → length rest < stride → rows_in stride width rest ≡ []
  unfolding cut
  rows_none rest p = rw (div-eq_of_lt p)

-- of rows of no words there are none
pub no_rows : (width : ℕ) (words : List ℕ) → rows_in 0 width words ≡ []
unfolding cut
no_rows width words = rw (div-zero (length words))

-- ---- the result

-- a line of numbers of 32 bits
pub line_most : (ns : List ℕ) → Words ns → length (line ns) ≤ length ns * 11
unfolding line
line_most [] p = omega arith
line_most (n ∷ ns) p = simp length-append (omega (arith, line_most ns p.1, decimal_ten n p.0))

pub printed_refused : (code at rows visits : ℕ) (tree : List ℕ) → (code ≡ 0 → ⊥) → printed code at rows visits tree ≡ result_names ++ line (code ∷ at ∷ rows ∷ visits ∷ [])
unfolding printed tree_lines
printed_refused zero at rows visits tree f = absurd (f refl)
printed_refused (suc code) at rows visits tree f = rw (append-nil (line (suc code ∷ at ∷ rows ∷ visits ∷ [])))

pub printed_accepted : (code at rows visits : ℕ) (tree : List ℕ) → code ≡ 0
    → printed code at rows visits tree ≡ result_names ++ (line (code ∷ at ∷ rows ∷ visits ∷ []) ++ (tree_names ++ lines (rows_in 6 6 tree)))
unfolding printed tree_lines
printed_accepted zero at rows visits tree e = refl
printed_accepted (suc code) at rows visits tree e = absurd (omega arith)

-- ---- room

-- each word has 32 bits, as the words of a slice have
abbrev pub Narrow : List ℕ → Type 0
Narrow words = (i : ℕ) → get_or words i 0 < 2 ^ 32

pub narrow_words : (words : List ℕ) → Narrow words → Words words
narrow_words [] p = tt
narrow_words (w ∷ words) p = (p 0, narrow_words words (λ i. p (suc i)))

pub narrow_take : (n : ℕ) (words : List ℕ) → Narrow words → Narrow (take n words)
narrow_take n [] p i = rw (take-nil {A = ℕ} n) (p i)
narrow_take zero (w ∷ words) p i = omega arith
narrow_take (suc n) (w ∷ words) p zero = p 0
narrow_take (suc n) (w ∷ words) p (suc i) = narrow_take n words (λ k. p (suc k)) i

pub narrow_drop : (n : ℕ) (words : List ℕ) → Narrow words → Narrow (drop n words)
narrow_drop n words p i = rw (get_or-drop n words i 0) (p (n + i))

pub lines_most : (stride width count : ℕ) (words : List ℕ) → Narrow words → length (lines (cut stride width count words)) ≤ count * width * 11
unfolding cut lines
lines_most stride width zero words n = omega arith
lines_most stride width (suc count) words n =
    let e : suc count * width ≡ width + count * width = omega arith in
    let l : length (take width words) ≤ width = rw (length-take width words) (omega arith) in
    let first = line_most (take width words) (narrow_words (take width words) (narrow_take width words n)) in
    simp length-append (omega (arith, e, l, first, lines_most stride width count (drop stride words) (narrow_drop stride words n)))

-- 77 bytes for the lines of a result, and 66 for each row, are enough
pub printed_most : (code at rows visits : ℕ) (tree : List ℕ) → Words (code ∷ at ∷ rows ∷ visits ∷ []) → Narrow tree
    → length (printed code at rows visits tree) ≤ 77 + length tree / 6 * 66
unfolding printed tree_lines
printed_most zero at rows visits tree p q =
    simp length-append (omega (arith, line_most (zero ∷ at ∷ rows ∷ visits ∷ []) p, lines_most 6 6 (length tree / 6) tree q))
printed_most (suc code) at rows visits tree p q =
    simp length-append (omega (arith, line_most (suc code ∷ at ∷ rows ∷ visits ∷ []) p))

-- so much room is never too little
pub text_fits : (room : ℕ) (text : List ℕ) → length text ≤ room → written_of room text ≡ Ok (length text)
unfolding written_of
text_fits room text p = rw (le-leb (length text) room p)

pub written_fits : (room code at rows visits : ℕ) (tree : List ℕ) → Words (code ∷ at ∷ rows ∷ visits ∷ []) → Narrow tree → 77 + length tree / 6 * 66 ≤ room
    → written_of room (printed code at rows visits tree) ≡ Ok (length (printed code at rows visits tree))
written_fits room code at rows visits tree p q r = text_fits room (printed code at rows visits tree) (omega (arith, printed_most code at rows visits tree p q))

-- what was written lies within the lent bytes
pub bytes_within : (room end : ℕ) (text : List ℕ) (r : Written) → r ≡ written_of room text → r ≡ Ok end → end ≤ room
unfolding written_of
bytes_within room end text r e f = by_room (leb (length text) room) refl (sym e ∙ f)
  where
    count : Written → ℕ
    count (Ok n) = n
    count (Err none) = 0

    by_room : (b : Bool) → leb (length text) room ≡ b → choose b (λ _. Ok (length text)) (λ _. no_room) ≡ Ok end → end ≤ room
    by_room true p g = omega (arith, leb-true (length text) room p, ap count g)
    by_room false p g = omega (arith, ap count g)
