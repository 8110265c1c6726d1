-- Laws of reading a part of the file.
use mathlib.Core.Path.{◌≡◌, sym, subst, ◌∙◌}
use mathlib.Core.List.{List, [], ◌∷◌, ◌++◌, append_assoc}
use Rattle.std.specs.Prelude.{Result, Ok, Err}
use Rattle.std.specs.Borrow.{Bor}
use Prim.Native.Nat.{ℕ, zero, suc, ◌+◌, ◌-◌, ◌≤◌, ◌<◌}
use native.Mathlib.Omega.{arith}
use lib.Dec.{eqb}
use lib.ListN.{length}
use lib.Seq.{take_all}
use borrow.Author.Tests.{eq-eqb, ne_eqb}
use Rattle.text.specs.Lent.{Holds}
use Rattle.text.specs.Layout.{layout}
use Rattle.text.specs.Form.{Form, field, literal, row, rows, tables, whole, finished, is_zero, Text}
use Rattle.text.specs.Steps.{Reached, Stopped, At, ReaderAt, NamesEnd, NamesRead, PartEnd, PartRead, RowNumbers, HeadEnd}
use Rattle.text.specs.declared.reader.Reader.{Reader}
use Rattle.text.specs.declared.version.Version.{Version}
use Rattle.text.specs.declared.version.Version.TheVariants.{New}
use Rattle.text.proofs.LentLaws.{holds_none}
use Rattle.text.proofs.StepLaws.{reached_none, finished_good}

-- ---- a row

pub last_number : (more i width : ℕ) → width ≡ i + 1 + more → is_zero more ≡ eqb (i + 1) width
last_number zero i width e = sym (eq-eqb (i + 1) width (omega arith))
last_number (suc more) i width e = sym (ne_eqb (i + 1) width (omega arith))

pub row_open : (width i : ℕ) (before : List ℕ) (next : List ℕ → Form) → i < width
    → row (width - i) before next ≡ field (eqb (i + 1) width) (λ n. row (width - (i + 1)) (before ++ (n ∷ [])) next)
unfolding row
row_open width i before next p =
    let e : width - i ≡ suc (width - (i + 1)) = omega arith in
    rw (e, last_number (width - (i + 1)) i width (omega arith))

pub row_done : (width i : ℕ) (before : List ℕ) (next : List ℕ → Form) → width ≤ i → row (width - i) before next ≡ next before
unfolding row
row_done width i before next p = let e : width - i ≡ 0 = omega arith in rw e

-- ---- the lines of a table

pub rows_open : (width count i : ℕ) (next : Form) → i < count → rows width (count - i) next ≡ row width [] (λ _. rows width (count - (i + 1)) next)
unfolding rows
rows_open width count i next p = let e : count - i ≡ suc (count - (i + 1)) = omega arith in rw e

pub rows_done : (width count i : ℕ) (next : Form) → count ≤ i → rows width (count - i) next ≡ next
unfolding rows
rows_done width count i next p = let e : count - i ≡ 0 = omega arith in rw e

-- ---- one part after another

-- a line of names, which has no words, and then a part
module _ {names : List ℕ} (r r₁ : Reader) (file : r₁.file ≡ r.file) (words : r₁.words ≡ r.words) (count : r₁.count ≡ r.count) (h : NamesEnd r.file.now names r.at r₁.at) where
  named : (root : Form) (read : List ℕ) (next : Form) → ReaderAt root r read (literal names next) → ReaderAt root r₁ read next
  named root read next a = record { reached = rw file (h.reached root read next a.reached); holds = rw (words, count) a.holds }

  pub names_then : (r' : Reader) (second : Form → Form) (s : Result (Unit {0}) ℕ) → PartRead second r₁ s r' → PartRead (λ next. literal names (second next)) r s r'
  names_then r' second (Ok _) k = record { reached = λ root read next a. k.reached root read next (named root read (second next) a) }
  names_then r' second (Err stop) k = λ root read next a. rw (← file) (k root read next (named root read (second next) a))

-- two parts, the second where the first ended
pub part_then : {first : Form → Form} {r r' : Reader} (r'' : Reader) (second : Form → Form) (s : Result (Unit {0}) ℕ) → r'.file ≡ r.file → PartEnd first r r'
    → PartRead second r' s r'' → PartRead (λ next. first (second next)) r s r''
part_then r'' second (Ok _) file h k = record {
  reached = λ root words next a.
      let (new, a') = h.reached root words (second next) a in
      let (more, a'') = k.reached root (words ++ new) next a' in
      (new ++ more, rw (append_assoc words new more) at a'');
}
part_then r'' second (Err stop) file h k = λ root words next a. let (new, a') = h.reached root words (second next) a in rw (← file) (k root (words ++ new) next a')

-- ---- the head

-- what comes after the head's names
abbrev headed : Version → Form
headed version = row 6 [] λ head. tables (layout version) head finished

abbrev head_names : List ℕ
head_names = (layout New).head.names

begun : (version : Version) (file : List ℕ) → Reached (whole (layout version)) file 0 [] (literal head_names (headed version))
unfolding whole
begun version file = reached_none file

-- the six words that a row of six numbers was read into are its numbers
six_words : {root : Form} {file : List ℕ} {at count : ℕ} (next : List ℕ → Form) (head numbers : List ℕ) → length head ≡ 6 → length numbers ≡ 6
    → At root file head at count numbers (next numbers) → At root file head at count head (next head)
six_words {root} {file} {at} {count} next head numbers p q a =
    let H = a.holds in
    let six : count ≡ 6 = omega (arith, H.counted) in
    let same : numbers ≡ head =
    sym (take_all (length head) numbers (omega arith)) ∙ sym (rw six at H.held) ∙ take_all 6 head (omega arith) in
    subst (λ (l : List ℕ). At root file head at count l (next l)) same a

pub head_stops : {file : List ℕ} (stop : ℕ) → NamesRead file head_names 0 (Err stop) → (version : Version) → Stopped (whole (layout version)) file stop
head_stops {file} stop h version = h _ [] (headed version) (begun version file)

pub head_named : {file : List ℕ} {at : ℕ} (head : List ℕ) (version : Version) → NamesEnd file head_names 0 at
    → At (whole (layout version)) file head at 0 [] (row 6 [] λ l. tables (layout version) l finished)
head_named {file} head version h = record { reached = h.reached _ [] (headed version) (begun version file); holds = holds_none head }

pub head_row : {file : List ℕ} (head : List ℕ) {at : ℕ} (r : Reader) → NamesEnd file head_names 0 at → length r.words.now ≡ 6 → r.file.now ≡ file
    → ((root : Form) (words : List ℕ) (next : List ℕ → Form) → At root file head at 0 words (row 6 [] next) → RowNumbers root 6 words next r) → HeadEnd file r.at r.words.now
head_row {file} head {at} r h p same k = record {
  within = rw (← same) r.within;
  few = omega (arith, r.few, (six New).1);
  reached = λ version. (six version).0;
}
  where
    six : (version : Version) → At (whole (layout version)) file r.words.now r.at 6 r.words.now (tables (layout version) r.words.now finished) × (r.count ≡ 6)
    six version =
        let w = k _ [] (λ l. tables (layout version) l finished) (head_named head version h) in
        let count : r.count ≡ 6 = omega (arith, w.at.holds.counted, w.long) in
        (rw (same, count) at (six_words (λ l. tables (layout version) l finished) r.words.now w.numbers p w.long w.at), count)

-- the same words in another buffer
pub stored_too : {root : Form} {file buffer : List ℕ} {at count : ℕ} {words : List ℕ} {next : Form} (buffer' : List ℕ) → At root file buffer at count words next → Holds buffer' (length words) words
    → At root file buffer' at count words next
stored_too {words = words} buffer' a h = record { reached = a.reached; holds = subst (λ (k : ℕ). Holds buffer' k words) a.holds.counted h }

-- a reader at the end of its file has read a good one: `left` is what it leaves in the buffer that it was lent
pub read_done : {root : Form} {file : Bor (List ℕ)} {left words : List ℕ} (r : Reader) → r.file ≡ file → left ≡ r.words.now → length file.now ≤ r.at
    → ReaderAt root r words finished → (all : List ℕ) × Text root file.now all × Holds left r.count all
read_done {words = words} r file left p a =
    let end : r.at ≡ length r.file.now = omega (arith, r.within, rw (← file) at p) in
    (words, rw (← file) (finished_good _ _ _ a.reached end), rw left a.holds)
