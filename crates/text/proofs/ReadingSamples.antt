-- The reading of paper 01's sample, by computation: in its own form, and in the form of today.
use mathlib.Core.Path.{◌≡◌, refl}
use mathlib.Core.List.{List, [], ◌∷◌, ◌++◌}
use Prim.Native.Nat.{ℕ}
use Rattle.text.specs.Ascii.{ascii}
use Rattle.text.specs.Layout.{layout}
use Rattle.text.specs.Form.{literal, row, rows, table, tables, whole}
use Rattle.text.specs.Reading.{reads, refuses, is_digit, may_follow, next_of, ended, read_from, reading}
use Rattle.text.specs.declared.version.Version.TheVariants.{Old, New}

abbrev head : List ℕ
head = ascii "entry blocks instructions cases places identifiers\n"

abbrev sample : List ℕ
sample = head ++ ascii "0 1 0 0 1 1\nfirst count code a b c d e id span\n0 0 3 0 0 0 0 0 7 0\nid lvalue code p q span\ntest block\nidentifier\n0\nnamed\n1\n"

pub old_read : reading (layout Old) sample ≡ reads (0 ∷ 1 ∷ 0 ∷ 0 ∷ 1 ∷ 1 ∷ 0 ∷ 0 ∷ 3 ∷ 0 ∷ 0 ∷ 0 ∷ 0 ∷ 0 ∷ 7 ∷ 0 ∷ 0 ∷ 1 ∷ [])
unfolding reading read_from ended next_of may_follow is_digit whole tables table rows row literal
old_read = refl

-- the `s` of `span`
pub new_refused : reading (layout New) sample ≡ refuses 50 93
unfolding reading read_from ended next_of may_follow is_digit whole tables table rows row literal
new_refused = refl

-- a leading zero, a number of 33 bits, an end that is missing
pub zero_refused : reading (layout New) (head ++ ascii "00 1 0 0 1 1\n") ≡ refuses 50 52
unfolding reading read_from ended next_of may_follow is_digit whole tables table rows row literal
zero_refused = refl

pub large_refused : reading (layout New) (head ++ ascii "4294967296 1 0 0 1 1\n") ≡ refuses 50 60
unfolding reading read_from ended next_of may_follow is_digit whole tables table rows row literal
large_refused = refl

pub short_refused : reading (layout New) (head ++ ascii "4294967295 1") ≡ refuses 50 63
unfolding reading read_from ended next_of may_follow is_digit whole tables table rows row literal
short_refused = refl
