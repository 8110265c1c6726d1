-- The sample of paper 01, from the bytes of its file to the bytes that are printed.
use mathlib.Core.Path.{sym, ap, ◌∙◌}
use native.Mathlib.Omega.{arith}
use mathlib.Core.Logic.{inl}
use Rattle.text.specs.Ascii.{ascii}
use Rattle.text.specs.Samples.{sample_good, sample_printed}
use Rattle.definition.specs.Around.{rust}
use Rattle.definition.specs.Build.{Outcome}
use Rattle.definition.proofs.Samples.{file_sample}
use Rattle.definition.specs.Samples.{file}
use Rattle.build.specs.Prints.{printed_outcome, Prints}

-- "Lines of input", "Output"
pub sample_prints :
    Prints rust
    (ascii
    "entry blocks instructions cases places identifiers\n0 1 0 0 1 1\nfirst count code a b c d e id from to\n0 0 3 0 0 0 0 0 7 0 0\nid lvalue code p q from to\ntest block\nidentifier\n0\nnamed\n1\n")
    (ascii "code at rows visits\n0 0 2 1\nop a b c d e\n22 0 7 0 0 0\n9 1 0 0 0 0\n")
unfolding printed_outcome
sample_prints = inl (record {
  words = file;
  accepted = record { short = omega arith; good = sample_good };
  lines = sym sample_printed ∙ sym (ap (λ (o : Outcome). printed_outcome o) file_sample);
})
