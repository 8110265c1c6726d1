-- From the rearranged words and their text to what is printed.
use Prim.Native.Nat.{ℕ, ◌+◌, ◌*◌, ◌≤◌}
use mathlib.Core.Path.{◌≡◌, ◌∙◌}
use mathlib.Core.List.{List, []}
use native.Mathlib.Omega.{arith}
use lib.ListN.{length, get_or, take, drop, length-append}
use lib.Seq.{length-take-le}
use Rattle.table.specs.Check.{accepted, refused, checked}
use Rattle.table.specs.Answer.{refusal_code}
use Rattle.table.specs.declared.Refusal.{Refusal}
use Rattle.table.specs.declared.Refusal.TheVariants as refusals
use Rattle.table.specs.Promise.{Promise, Sized}
use Rattle.table.proofs.PromiseLaws.{promised, promise_checked}
use Rattle.text.specs.Layout.{Layout, layout}
use Rattle.text.specs.Answer.{Accepted}
use Rattle.text.proofs.AnswerLaws.{good_room}
use Rattle.text.specs.Printed.{printed, Written, written_of, lent_of}
use Rattle.text.specs.Prints.{WrittenText}
use Rattle.text.specs.declared.version.Version.TheVariants.{New}
use Rattle.text.proofs.WriteLaws.{Narrow, narrow_words, narrow_take, narrow_drop, line_most, lines_most, text_fits}
use Rattle.renaming.specs.Order.{rearranged}
use Rattle.renaming.proofs.OrderLaws.{rearranged_checked}
use Rattle.convert.specs.Cut.{instructions_at, cases_at, places_at, identifiers_at, end_at, Shaped, tables_in, text_in}
use Rattle.convert.specs.Write.{table_text}
use Rattle.convert.proofs.TextLaws.{sized_shaped}
use Rattle.order.specs.Prints.{unless_refused, ordered_text}

-- ---- how long a text is: at most 11 bytes a word, and 144 for the six lines of names

words_long : (words : List ℕ) → Shaped (layout New) words
    → length words ≡ 6 + get_or words 1 0 * 11 + get_or words 2 0 * 7 + get_or words 3 0 * 2 + get_or words 4 0 + get_or words 5 0
unfolding end_at identifiers_at places_at cases_at instructions_at
words_long words s = omega (arith, s.long)

text_most : (words : List ℕ) → Shaped (layout New) words → Narrow words → length (table_text words) ≤ 144 + length words * 11
unfolding text_in tables_in
text_most words s n =
    let long = words_long words s in
    let head = line_most (take 6 words) (narrow_words (take 6 words) (narrow_take 6 words n)) in
    let b = lines_most 11 11 (get_or words 1 0) (drop 6 words) (narrow_drop 6 words n) in
    let i = lines_most 7 7 (get_or words 2 0) (drop (instructions_at (layout New) words) words) (narrow_drop (instructions_at (layout New) words) words n) in
    let c = lines_most 2 2 (get_or words 3 0) (drop (cases_at (layout New) words) words) (narrow_drop (cases_at (layout New) words) words n) in
    let p = lines_most 1 1 (get_or words 4 0) (drop (places_at (layout New) words) words) (narrow_drop (places_at (layout New) words) words n) in
    let d = lines_most 1 1 (get_or words 5 0) (drop (identifiers_at (layout New) words) words) (narrow_drop (identifiers_at (layout New) words) words n) in
    simp length-append (omega (arith, long, head, length-take-le 6 words s.head, b, i, c, p, d))

-- the writer's answer, and bytes that are enough
pub table_printed : (words : List ℕ) {room : ℕ} {r : Written} {lent : List ℕ} → Sized words → length words ≤ 16384 → Narrow words
    → r ≡ written_of room (table_text words) → lent ≡ lent_of room (table_text words) → WrittenText 180368 (table_text words) room r lent
table_printed words {room} sized few narrow answer bytes = record {
  answer = answer;
  bytes = bytes;
  enough = λ long. answer ∙ text_fits room (table_text words) (omega (arith, long, few, text_most words (sized_shaped words sized) narrow));
}

-- ---- the rearranged words

pub rearranged_sized : {words new_words : List ℕ} → new_words ≡ rearranged words → Promise words → Sized new_words
rearranged_sized {words} e promise = rw e (promised (rearranged words) (rearranged_checked words (promise_checked words promise))).sized

-- ---- what is printed of a file's words

module _ (words : List ℕ) {room : ℕ} {r : Written} {lent : List ℕ} where
  pub accepted_printed : accepted ≡ checked words → WrittenText 180368 (table_text (rearranged words)) room r lent → WrittenText 180368 (ordered_text words) room r lent
  unfolding unless_refused
  accepted_printed v h = rw (← v) h

  pub refused_printed : {code at : ℕ} → refused code at ≡ checked words → WrittenText 180368 (printed code at 0 0 []) room r lent → WrittenText 180368 (ordered_text words) room r lent
  unfolding unless_refused
  refused_printed v h = rw (← v) h

-- a refusal's code is 1 to 4
pub refused_some : (refusal : Refusal) → refusal_code refusal ≡ 0 → ⊥
refused_some refusals.WrongLength e = omega (arith, e)
refused_some (refusals.CountOverLimit _) e = omega (arith, e)
refused_some refusals.EntryOutOfRange e = omega (arith, e)
refused_some (refusals.BadWord _) e = omega (arith, e)

-- ---- the words of a file

-- a file has at most 16,384
pub words_few : (f : Layout) (file words : List ℕ) → Accepted f file words → length words ≤ 16384
words_few f file words h = omega (arith, good_room f file words h.good, h.short)
