-- The run of a file is the one outcome that `FileGives` allows, where no reader of trees is in the definition.
use mathlib.Core.Path.{◌≡◌, refl, sym, ap, ◌∙◌}
use mathlib.Core.Bool.{Bool, true, false}
use Prim.Native.Nat.{ℕ, ◌≤◌}
use mathlib.Core.List.{List}
use lib.Dec.{leb}
use lib.ListN.{length}
use borrow.Author.Tests.{leb-true, leb-false, le-leb, lt-leb}
use Rattle.tree_runs.specs.Ran.{Outcome, refusal}
use Rattle.tree_runs.proofs.OneOutcome.{given_is, is_given}
use Rattle.tree_run.specs.Given.{Given, stopped, read, file_given, run_given, file_run, FileGives, long, misread, runs}

module _ (file : List ℕ) (lent : ℕ) where
  within : length file ≤ 262144 → {g : Given} → file_given file ≡ g → run_given g lent ≡ file_run file lent
  unfolding file_run
  within short e = sym (rw (le-leb (length file) 262144 short, file_run) (ap (λ (g : Given). run_given g lent) e))

  -- what is allowed is the run
  pub gives_is : {o : Outcome} → FileGives file lent o → o ≡ file_run file lent
  unfolding run_given
  gives_is (long h) = unfold file_run in sym (rw (lt-leb (length file) 262144 h, file_run))
  gives_is (misread h at e) = within h e
  gives_is (runs h rows answers e g) = given_is rows answers lent g ∙ within h e

  -- and the run is allowed
  pub is_gives : FileGives file lent (file_run file lent)
  unfolding file_run run_given
  is_gives = by (leb (length file) 262144) refl (file_given file) refl
    where
      by : (short : Bool) → leb (length file) 262144 ≡ short → (g : Given) → file_given file ≡ g
          → FileGives file lent (elim short [ true ↦ run_given g lent | false ↦ refusal 51 0 lent ])
      by false e g i = long (leb-false (length file) 262144 e)
      by true e (stopped at) i = misread (leb-true (length file) 262144 e) at i
      by true e (read rows answers) i = runs (leb-true (length file) 262144 e) rows answers i (is_given rows answers lent refl)
