-- Beyond the papers: what the number `plainness` (specs/PlainTest) says of a table. 1: it is plain in paper 01's sense; 2: in M-113's; not 0: exactly where it is plain
-- with loops and switches, so that a law speaks of it. By the two tests, which are right (proofs/PlainTest, proofs/LoopTest), and since each law's tables are among the next's.
use mathlib.Core.Path.{◌≡◌, refl, sym, ◌∙◌}
use mathlib.Core.Logic.{◌↔◌}
use Prim.Native.Nat.{ℕ}
use native.Mathlib.Omega.{arith}
use mathlib.Core.List.{List}
use mathlib.Core.Bool.{Bool, true, false, cond}
use Rattle.table.specs.Table.{Table, table_of}
use Rattle.definition.specs.Around.{Rule, language}
use Rattle.definition.specs.Build.{built}
use Rattle.definition.specs.Plain.{paper_01, with_switch, Plain}
use Rattle.definition.specs.PlainLoops.{PlainLoops}
use Rattle.definition.specs.PlainTest.{is_plain, is_plain_loops, plainness}
use Rattle.definition.specs.RunLaw.{RunLaw, SwitchLaw}
use Rattle.definition.proofs.Steps.{true_false}
use Rattle.definition.proofs.PlainEnough.{plain_widens, plain_enough}
use Rattle.definition.proofs.PlainTest.{is_plain_lem, plain_is}
use Rattle.definition.proofs.LoopTest.{is_plain_loops_lem, plain_loops_is}
use Rattle.definition.proofs.Law.{run_law, loops_and_switches_law}

-- ---- three tests, the first that holds

abbrev first_of : (a b c : Bool) → ℕ
first_of a b c = cond a 1 (cond b 2 (cond c 3 0))

first_is : (a b c : Bool) → first_of a b c ≡ 1 → a ≡ true
first_is true b c e = refl
first_is false true c e = absurd (let z : ◌≡◌ {A = ℕ} 2 1 = e in omega (arith, z))
first_is false false true e = absurd (let z : ◌≡◌ {A = ℕ} 3 1 = e in omega (arith, z))
first_is false false false e = absurd (let z : ◌≡◌ {A = ℕ} 0 1 = e in omega (arith, z))

is_first : (a b c : Bool) → a ≡ true → first_of a b c ≡ 1
is_first true b c e = refl
is_first false b c e = absurd (true_false (sym e))

second_is : (a b c : Bool) → first_of a b c ≡ 2 → b ≡ true
second_is true b c e = absurd (let z : ◌≡◌ {A = ℕ} 1 2 = e in omega (arith, z))
second_is false true c e = refl
second_is false false true e = absurd (let z : ◌≡◌ {A = ℕ} 3 2 = e in omega (arith, z))
second_is false false false e = absurd (let z : ◌≡◌ {A = ℕ} 0 2 = e in omega (arith, z))

none_is : (a b c : Bool) → first_of a b c ≡ 0 → c ≡ false
none_is true b c e = absurd (let z : ◌≡◌ {A = ℕ} 1 0 = e in omega (arith, z))
none_is false true c e = absurd (let z : ◌≡◌ {A = ℕ} 2 0 = e in omega (arith, z))
none_is false false true e = absurd (let z : ◌≡◌ {A = ℕ} 3 0 = e in omega (arith, z))
none_is false false false e = refl

some_is : (a b c : Bool) → (first_of a b c ≡ 0 → ⊥) → (a ≡ true → c ≡ true) → (b ≡ true → c ≡ true) → c ≡ true
some_is true b c f p q = p refl
some_is false true c f p q = q refl
some_is false false true f p q = refl
some_is false false false f p q = absurd (f refl)

-- ---- the number

module _ (t : Table) where
  pub plain_by_paper_01 : (plainness t ≡ 1) ↔ Plain paper_01 t
  plain_by_paper_01 = (
    λ e. is_plain_lem t paper_01 (first_is (is_plain t paper_01) (is_plain t with_switch) (is_plain_loops t with_switch) e),
    λ pl. is_first (is_plain t paper_01) (is_plain t with_switch) (is_plain_loops t with_switch) (plain_is t paper_01 pl),
  )

  pub plain_by_m_113 : plainness t ≡ 2 → Plain with_switch t
  plain_by_m_113 e = is_plain_lem t with_switch (second_is (is_plain t paper_01) (is_plain t with_switch) (is_plain_loops t with_switch) e)

  pub spoken_of_at_all : (plainness t ≡ 0 → ⊥) → PlainLoops with_switch t
  spoken_of_at_all f =
      is_plain_loops_lem t with_switch (some_is (is_plain t paper_01) (is_plain t with_switch) (is_plain_loops t with_switch) f
      (λ e. plain_loops_is t with_switch (plain_enough t (plain_widens t (is_plain_lem t paper_01 e))))
      (λ e. plain_loops_is t with_switch (plain_enough t (is_plain_lem t with_switch e))))

  pub not_spoken_of : plainness t ≡ 0 → PlainLoops with_switch t → ⊥
  not_spoken_of e pl =
      true_false (sym (plain_loops_is t with_switch pl) ∙ none_is (is_plain t paper_01) (is_plain t with_switch) (is_plain_loops t with_switch) e)

-- ---- the laws by the number

-- 1: demand 3, in both entries
pub law_of_number_1 : (rule : Rule) (words : List ℕ) (lent lent_index : ℕ) → (built rule words lent lent_index).code ≡ 0 → plainness (table_of words) ≡ 1
    → RunLaw words (built rule words lent lent_index)
law_of_number_1 rule words lent lent_index h e = run_law rule words lent lent_index h ((plain_by_paper_01 (table_of words)).0 e)

-- any but 0: in the language entry
pub law_of_every_number : (words : List ℕ) (lent lent_index : ℕ) → (built language words lent lent_index).code ≡ 0 → (plainness (table_of words) ≡ 0 → ⊥)
    → SwitchLaw words (built language words lent lent_index)
law_of_every_number words lent lent_index h f = loops_and_switches_law words lent lent_index h (spoken_of_at_all (table_of words) f)
