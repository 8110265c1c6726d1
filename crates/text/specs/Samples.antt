-- The definitions on the sample of paper 01, and on numbers at the ends of their range.
use Rattle.std.specs.Prelude.{◌≡◌, refl, List, [], ◌∷◌, ℕ}
use Rattle.std.proofs.Common.{arith}
use Rattle.text.specs.Ascii.{ascii}
use Rattle.text.specs.Decimal.{digits_of, decimal}
use Rattle.text.specs.Line.{line, lines, cut, flat}
use Rattle.text.specs.Layout.{layout}
use Rattle.text.specs.File.{Tables, Formed, Good}
use Rattle.text.specs.declared.version.Version.TheVariants.{Old, New}
use Rattle.text.specs.Printed.{tree_lines, printed}

smallest : decimal 0 ≡ ascii "0"
unfolding decimal digits_of
smallest = refl

largest : decimal 4294967295 ≡ ascii "4294967295"
unfolding decimal digits_of
largest = refl

-- one block, which returns place 0, with no span
sample : List ℕ → Tables
sample span = record {
  head = 0 ∷ 1 ∷ 0 ∷ 0 ∷ 1 ∷ 1 ∷ [];
  blocks = (0 ∷ 0 ∷ 3 ∷ 0 ∷ 0 ∷ 0 ∷ 0 ∷ 0 ∷ 7 ∷ span) ∷ [];
  instructions = [];
  cases = [];
  places = (0 ∷ []) ∷ [];
  identifiers = (1 ∷ []) ∷ [];
}

sample_formed : Formed (layout New) (sample (0 ∷ 0 ∷ []))
unfolding sample
sample_formed = record {
  head = omega arith;
  blocks = omega arith;
  instructions = omega arith;
  cases = omega arith;
  places = omega arith;
  identifiers = omega arith;
}

pub sample_good : Good (layout New)
    (ascii "entry blocks instructions cases places identifiers\n0 1 0 0 1 1\nfirst count code a b c d e id from to\n0 0 3 0 0 0 0 0 7 0 0\nid lvalue code p q from to\ntest block\nidentifier\n0\nnamed\n1\n")
    (0 ∷ 1 ∷ 0 ∷ 0 ∷ 1 ∷ 1 ∷ 0 ∷ 0 ∷ 3 ∷ 0 ∷ 0 ∷ 0 ∷ 0 ∷ 0 ∷ 7 ∷ 0 ∷ 0 ∷ 0 ∷ 1 ∷ [])
unfolding sample line lines flat decimal digits_of
sample_good = record { tables = sample (0 ∷ 0 ∷ []); formed = sample_formed; text = refl; word = refl }

-- the same in paper 01's form
old_sample_formed : Formed (layout Old) (sample (0 ∷ []))
unfolding sample
old_sample_formed = record {
  head = omega arith;
  blocks = omega arith;
  instructions = omega arith;
  cases = omega arith;
  places = omega arith;
  identifiers = omega arith;
}

old_sample_good : Good (layout Old)
    (ascii "entry blocks instructions cases places identifiers\n0 1 0 0 1 1\nfirst count code a b c d e id span\n0 0 3 0 0 0 0 0 7 0\nid lvalue code p q span\ntest block\nidentifier\n0\nnamed\n1\n")
    (0 ∷ 1 ∷ 0 ∷ 0 ∷ 1 ∷ 1 ∷ 0 ∷ 0 ∷ 3 ∷ 0 ∷ 0 ∷ 0 ∷ 0 ∷ 0 ∷ 7 ∷ 0 ∷ 0 ∷ 1 ∷ [])
unfolding sample line lines flat decimal digits_of
old_sample_good = record { tables = sample (0 ∷ []); formed = old_sample_formed; text = refl; word = refl }

pub sample_printed : printed 0 0 2 1 (22 ∷ 0 ∷ 7 ∷ 0 ∷ 0 ∷ 0 ∷ 9 ∷ 1 ∷ 0 ∷ 0 ∷ 0 ∷ 0 ∷ []) ≡ ascii "code at rows visits\n0 0 2 1\nop a b c d e\n22 0 7 0 0 0\n9 1 0 0 0 0\n"
unfolding printed tree_lines cut line lines decimal digits_of
sample_printed = refl

-- a refusal has two lines
refusal_printed : printed 40 0 2 1 [] ≡ ascii "code at rows visits\n40 0 2 1\n"
unfolding printed tree_lines line decimal digits_of
refusal_printed = refl
