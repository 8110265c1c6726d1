-- What `seen` leaves out has the stores at the ends of arms and inits, so that conditions on the table alone give those of SeenValues. For proofs/LawOfValues.
use mathlib.Core.Path.{◌≡◌, refl, sym, ap, ◌∙◌}
use Prim.Native.Nat.{ℕ, zero, suc}
use mathlib.Core.List.{List, [], ◌∷◌, ◌++◌}
use mathlib.Core.Option.{Option, some}
use mathlib.Core.Bool.{Bool, true, false, not, cond}
use lib.ListN.{get_or}
use lib.Dec.{eqb}
use Rattle.table.specs.Table.{Table, Block, no_block, Terminal, absent, unreachable, throw, return, goto, if, branch, switch, do_while, while, for, for_of, for_in}
use Rattle.table.specs.Table.{logical, ternary, optional, label, sequence, maybe_throw, try, scope, terminal_at, instruction_rows_at}
use Rattle.definition.specs.Completion.{contains}
use Rattle.definition.specs.Value.{most_depth, Ways, branch_ways}
use Rattle.definition.proofs.Steps.{true_false, none_some, some_eq}
use Rattle.definition.proofs.PlainTest.{all_at}
use Rattle.definition.proofs.ChainsRead.{nothing_seen, first_rows, later_rows, silent_from, exit_only, exit_there}
use Rattle.definition.specs.ValueEnds.{ValueEnd, ends_at, end_of, ways_after, ways_of_test, store_at_end, store_of_end, store_of, straight_rows, stores_of_ways, unseen_of_optional, unseen_of, unseen_of_all, seen, seen_rows}
use Rattle.definition.specs.Plain.{fallthrough_of}
use Rattle.definition.specs.PlainValue.{test_of, is_optional, PlainValues}
use Rattle.definition.proofs.SeenConditions.{Quiet, SeenValues, SeenInits}

module _ (t : Table) where
  among_all : (blocks : List Block) (b row : ℕ) → contains (unseen_of t (get_or blocks b no_block).terminal) row ≡ true → contains (unseen_of_all t blocks) row ≡ true
  among_all [] b row h = absurd (true_false (sym h))
  among_all (k ∷ ks) zero row h = first_rows t (unseen_of t k.terminal) (unseen_of_all t ks) row h
  among_all (k ∷ ks) (suc b) row h = later_rows t (unseen_of t k.terminal) (unseen_of_all t ks) row (among_all ks b row h)

  not_seen : (b row : ℕ) → contains (unseen_of t (terminal_at t b)) row ≡ true → seen t row ≡ false
  unfolding seen
  not_seen b row h = ap not (among_all t.blocks b row h)

  quiet : (b c h e : ℕ) → end_of t c ≡ some (ends_at h e) → ((row : ℕ) → contains (store_of t c) row ≡ true → contains (unseen_of t (terminal_at t b)) row ≡ true) → Quiet t (seen t) h
  quiet b c h e q k =
      nothing_seen t (seen t) (store_at_end t (instruction_rows_at t h)) (λ row w. not_seen b row (k row (ap (λ (z : Option ValueEnd). contains (store_of_end t z) row) q ∙ w)))

  ways : (test h y c d place : ℕ) → end_of t test ≡ some (ends_at h y) → terminal_at t y ≡ branch place c d → ways_of_test t test ≡ some (record { consequent = c; alternate = d })
  unfolding ways_of_test
  ways test h y c d place q e = ap (λ (z : Option ValueEnd). ways_after t z) q ∙ ap branch_ways e

  yes_among : (m : Terminal) (test c d row : ℕ) → test_of m ≡ some test → ways_of_test t test ≡ some (record { consequent = c; alternate = d }) → contains (store_of t c) row ≡ true
      → contains (unseen_of t m) row ≡ true
  yes_among absent test' c d row q w h = absurd (none_some q)
  yes_among unreachable test' c d row q w h = absurd (none_some q)
  yes_among (throw value) test' c d row q w h = absurd (none_some q)
  yes_among (return value) test' c d row q w h = absurd (none_some q)
  yes_among (goto block variant) test' c d row q w h = absurd (none_some q)
  yes_among (if test consequent alternate fallthrough) test' c d row q w h = absurd (none_some q)
  yes_among (branch test consequent alternate) test' c d row q w h = absurd (none_some q)
  yes_among (switch test first number fallthrough) test' c d row q w h = absurd (none_some q)
  yes_among (do_while loop test fallthrough) test' c d row q w h = absurd (none_some q)
  yes_among (while test loop fallthrough) test' c d row q w h = absurd (none_some q)
  yes_among (for init test update loop fallthrough) test' c d row q w h = absurd (none_some q)
  yes_among (for_of init test loop fallthrough) test' c d row q w h = absurd (none_some q)
  yes_among (for_in init loop fallthrough) test' c d row q w h = absurd (none_some q)
  yes_among (logical operator test fallthrough) test' c d row q w h = ap (λ (z : Option Ways). contains (stores_of_ways t z) row) (ap (λ (z : ℕ). ways_of_test t z) (some_eq q) ∙ w) ∙ first_rows t (store_of t c) (store_of t d) row h
  yes_among (ternary test fallthrough) test' c d row q w h = ap (λ (z : Option Ways). contains (stores_of_ways t z) row) (ap (λ (z : ℕ). ways_of_test t z) (some_eq q) ∙ w) ∙ first_rows t (store_of t c) (store_of t d) row h
  yes_among (optional flag test fallthrough) test' c d row q w h = ap (λ (z : Option Ways). contains (unseen_of_optional t z) row) (ap (λ (z : ℕ). ways_of_test t z) (some_eq q) ∙ w) ∙ first_rows t (store_of t c) (straight_rows t most_depth d) row h
  yes_among (label block fallthrough) test' c d row q w h = absurd (none_some q)
  yes_among (sequence block fallthrough) test' c d row q w h = absurd (none_some q)
  yes_among (maybe_throw continuation) test' c d row q w h = absurd (none_some q)
  yes_among (try block handler fallthrough binding) test' c d row q w h = absurd (none_some q)
  yes_among (scope pruned block fallthrough number) test' c d row q w h = absurd (none_some q)

  no_among : (m : Terminal) (test c d row : ℕ) → is_optional m ≡ false → test_of m ≡ some test → ways_of_test t test ≡ some (record { consequent = c; alternate = d })
      → contains (store_of t d) row ≡ true → contains (unseen_of t m) row ≡ true
  no_among absent test' c d row o q w h = absurd (none_some q)
  no_among unreachable test' c d row o q w h = absurd (none_some q)
  no_among (throw value) test' c d row o q w h = absurd (none_some q)
  no_among (return value) test' c d row o q w h = absurd (none_some q)
  no_among (goto block variant) test' c d row o q w h = absurd (none_some q)
  no_among (if test consequent alternate fallthrough) test' c d row o q w h = absurd (none_some q)
  no_among (branch test consequent alternate) test' c d row o q w h = absurd (none_some q)
  no_among (switch test first number fallthrough) test' c d row o q w h = absurd (none_some q)
  no_among (do_while loop test fallthrough) test' c d row o q w h = absurd (none_some q)
  no_among (while test loop fallthrough) test' c d row o q w h = absurd (none_some q)
  no_among (for init test update loop fallthrough) test' c d row o q w h = absurd (none_some q)
  no_among (for_of init test loop fallthrough) test' c d row o q w h = absurd (none_some q)
  no_among (for_in init loop fallthrough) test' c d row o q w h = absurd (none_some q)
  no_among (logical operator test fallthrough) test' c d row o q w h = ap (λ (z : Option Ways). contains (stores_of_ways t z) row) (ap (λ (z : ℕ). ways_of_test t z) (some_eq q) ∙ w) ∙ later_rows t (store_of t c) (store_of t d) row h
  no_among (ternary test fallthrough) test' c d row o q w h = ap (λ (z : Option Ways). contains (stores_of_ways t z) row) (ap (λ (z : ℕ). ways_of_test t z) (some_eq q) ∙ w) ∙ later_rows t (store_of t c) (store_of t d) row h
  no_among (optional flag test fallthrough) test' c d row o q w h = absurd (true_false o)
  no_among (label block fallthrough) test' c d row o q w h = absurd (none_some q)
  no_among (sequence block fallthrough) test' c d row o q w h = absurd (none_some q)
  no_among (maybe_throw continuation) test' c d row o q w h = absurd (none_some q)
  no_among (try block handler fallthrough binding) test' c d row o q w h = absurd (none_some q)
  no_among (scope pruned block fallthrough number) test' c d row o q w h = absurd (none_some q)

  at_block : (b row : ℕ) (m : Terminal) → terminal_at t b ≡ m → contains (unseen_of t m) row ≡ true → contains (unseen_of t (terminal_at t b)) row ≡ true
  at_block b row m e h = ap (λ (z : Terminal). contains (unseen_of t z) row) e ∙ h

  pub seen_values : ((b b' f : ℕ) → fallthrough_of (terminal_at t b) ≡ some f → fallthrough_of (terminal_at t b') ≡ some f → b ≡ b') → PlainValues t → SeenValues t (seen t)
  seen_values one v = record {
    yes_arm = λ b m h y c d f holder e a q k. (
      v.yes_arm b m h y c d f holder e a q k,
      quiet b c holder e k (λ row w. at_block b row m a.terminal (yes_among m a.test c d row a.tested (ways a.test h y c d a.place a.ends a.ways) w)),
    );
    no_arm = λ b m h y c d f holder e a o q k. (
      v.no_arm b m h y c d f holder e a o q k,
      quiet b d holder e k (λ row w. at_block b row m a.terminal (no_among m a.test c d row o a.tested (ways a.test h y c d a.place a.ends a.ways) w)),
    );
    block_arm = λ b c f holder e q k. (v.block_arm b c f holder e q k, quiet b c holder e k (λ row w. at_block b row (sequence c f) q w));
    left = λ b o x f h y c d a.
        let (to, only) = v.left b o x f h y c d a in
        silent_from t (seen t) most_depth c f to (λ row w. not_seen b row (at_block b row (logical o x f) a.terminal
        (yes_among (logical o x f) a.test c d row a.tested (ways a.test h y c d a.place a.ends a.ways) (all_at (straight_rows t most_depth c) (λ r. contains (store_of t c) r) row only w))));
    no_value = λ b o x f h y c d exit a k.
        let (exit', q) = v.exits b o x f a.terminal in
        silent_from t (seen t) most_depth d exit (v.no_value b o x f h y c d exit a (q ∙ ap some (sym (exit_only t v.one_owner k most_depth exit' q))))
        (λ row w. not_seen b row (at_block b row (optional o x f) a.terminal
        (ap (λ (z : Option Ways). contains (unseen_of_optional t z) row) (ap (λ (z : ℕ). ways_of_test t z) (some_eq a.tested) ∙ ways a.test h y c d a.place a.ends a.ways)
        ∙ later_rows t (store_of t c) (straight_rows t most_depth d) row w)));
    exits = λ b o x f e. let (exit, q) = v.exits b o x f e in (exit, exit_there t v.one_owner most_depth b o x f exit e q);
    tests = v.tests;
    one_fallthrough = one;
  }

  pub seen_inits : SeenInits t (seen t)
  seen_inits = record { quiet = λ b init test u l f h e q k. quiet b init h e k (λ row w. at_block b row (for init test u l f) q w) }
