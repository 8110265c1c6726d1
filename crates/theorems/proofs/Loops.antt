-- Beyond the papers: the final theorems on the run law with DoWhile and For, with Switch as a compiler makes it and with ends that are not reached. The law for callers of
-- both entries stands beside demand 3 in Theorems.antt, that of the runner in Requests.antt; here: the conditions' test is right, the number `plainness` says which
-- law speaks of a table, and the law is not empty.
use mathlib.Core.Path.{◌≡◌}
use mathlib.Core.Logic.{◌↔◌}
use Prim.Native.Nat.{ℕ}
use mathlib.Core.List.{List}
use mathlib.Core.Bool.{true}
use Rattle.table.specs.Table.{Table, table_of}
use Rattle.definition.specs.Around.{Rule, rust, language}
use Rattle.definition.specs.Build.{built}
use Rattle.definition.specs.Plain.{Width, paper_01, with_switch, Plain}
use Rattle.definition.specs.PlainLoops.{PlainLoops}
use Rattle.definition.specs.PlainTest.{is_plain_loops, plainness}
use Rattle.definition.specs.RunLaw.{RunLaw, SwitchLaw}
use Rattle.definition.proofs.LoopTest.{loop_test_lem}
use Rattle.definition.proofs.Plainness.{plain_by_paper_01, plain_by_m_113, spoken_of_at_all, not_spoken_of, law_of_number_1, law_of_every_number}
use Rattle.definition.specs.LoopExamples.{updates, again, does, once, nested, ends, scoped, switches, falls}
use Rattle.definition.proofs.LoopLawExample.{updates_law, again_law, does_law, once_law, nested_law, ends_law, scoped_law, switches_law, falls_law, switches_not_for_rust}

-- ---- the conditions can be computed

pub the_test_of_loops_is_right : (width : Width) (t : Table) → (is_plain_loops t width ≡ true) ↔ PlainLoops width t
the_test_of_loops_is_right = loop_test_lem

-- ---- which law speaks of a table

pub the_number_is_1_of_paper_01s_tables : (t : Table) → (plainness t ≡ 1) ↔ Plain paper_01 t
the_number_is_1_of_paper_01s_tables = plain_by_paper_01

pub the_number_is_2_of_tables_of_m_113 : (t : Table) → plainness t ≡ 2 → Plain with_switch t
the_number_is_2_of_tables_of_m_113 = plain_by_m_113

pub any_number_is_of_tables_with_loops : (t : Table) → (plainness t ≡ 0 → ⊥) → PlainLoops with_switch t
any_number_is_of_tables_with_loops = spoken_of_at_all

pub the_number_is_0_of_no_such_table : (t : Table) → plainness t ≡ 0 → PlainLoops with_switch t → ⊥
the_number_is_0_of_no_such_table = not_spoken_of

-- so an accepted table with the number 1 runs as its tree in both entries, one with any but 0 in the language entry
pub the_runs_agree_by_the_number_1 : (rule : Rule) (words : List ℕ) (lent lent_index : ℕ) → (built rule words lent lent_index).code ≡ 0 → plainness (table_of words) ≡ 1
    → RunLaw words (built rule words lent lent_index)
the_runs_agree_by_the_number_1 = law_of_number_1

pub the_runs_agree_by_any_number : (words : List ℕ) (lent lent_index : ℕ) → (built language words lent lent_index).code ≡ 0 → (plainness (table_of words) ≡ 0 → ⊥)
    → SwitchLaw words (built language words lent lent_index)
the_runs_agree_by_any_number = law_of_every_number

-- ---- the law is not empty

pub the_runs_of_a_for_with_update_agree : (rule : Rule) → RunLaw updates (built rule updates 600 300)
the_runs_of_a_for_with_update_agree = updates_law

pub the_runs_of_a_for_whose_init_is_its_update_agree : (rule : Rule) → RunLaw again (built rule again 600 300)
the_runs_of_a_for_whose_init_is_its_update_agree = again_law

pub the_runs_of_a_do_while_agree : (rule : Rule) → RunLaw does (built rule does 600 300)
the_runs_of_a_do_while_agree = does_law

pub the_runs_of_a_do_while_left_before_its_test_agree : (rule : Rule) → RunLaw once (built rule once 600 300)
the_runs_of_a_do_while_left_before_its_test_agree = once_law

pub the_runs_of_a_do_inside_a_for_agree : (rule : Rule) → RunLaw nested (built rule nested 600 300)
the_runs_of_a_do_inside_a_for_agree = nested_law

pub the_runs_with_an_end_not_reached_agree : (rule : Rule) → RunLaw ends (built rule ends 600 300)
the_runs_with_an_end_not_reached_agree = ends_law

pub the_runs_with_a_scopes_end_not_reached_agree : (rule : Rule) → RunLaw scoped (built rule scoped 600 300)
the_runs_with_a_scopes_end_not_reached_agree = scoped_law

pub the_runs_of_a_switch_without_default_agree : SwitchLaw switches (built language switches 600 300)
the_runs_of_a_switch_without_default_agree = switches_law

pub the_runs_of_a_case_that_goes_on_agree : SwitchLaw falls (built language falls 600 300)
the_runs_of_a_case_that_goes_on_agree = falls_law

-- in the first entry it does not hold with a switch: a break that leaves the loop leaves only the switch
pub not_in_the_first_entry : SwitchLaw switches (built rust switches 600 300) → ⊥
not_in_the_first_entry = switches_not_for_rust
