-- Words that the check accepts give a table that is `Ranged`, and the refusals of the check have the codes 1 to 4. For proofs/Law and proofs/Accepted.
use mathlib.Core.Path.{◌≡◌, refl, sym, subst}
use Prim.Native.Nat.{ℕ, zero, suc, ◌+◌, ◌<◌}
use native.Mathlib.Omega.{arith}
use mathlib.Core.List.{List, [], ◌∷◌}
use mathlib.Core.Option.{some}
use mathlib.Core.Bool.{Bool, true, false, ◌&&◌}
use lib.ListN.{length, get_or-eq_default}
use lib.Dec.{T, eqb, leb, ltb}
use borrow.Author.Tests.{ltb-true, ltb-false}
use Rattle.table.specs.Words.{word, entry_word, block_count, place_count, case_count, words_needed}
use Rattle.table.specs.Check.{Verdict, accepted, refused, Rule, fits, block_rules, instruction_rules, case_rules, place_rules, identifier_rules, and_then, row_verdict}
use Rattle.table.specs.Check.{rows_verdict, words_verdict, limits, counts_verdict, checked}
use Rattle.table.specs.Table.{Block, no_block, Terminal, absent, unreachable, throw, return, goto, if, branch, switch, do_while, while, for, for_of, for_in}
use Rattle.table.specs.Table.{logical, ternary, optional, label, sequence, maybe_throw, try, scope, table_of, terminal_at}
use Rattle.table.specs.Promise.{InRange, Promise}
use Rattle.table.proofs.PromiseLaws.{promised}
use Rattle.table.proofs.RangeLaws.{in_range_lem}
use Rattle.table.proofs.TableLaws.{length_blocks}
use Rattle.definition.specs.Plain.{fallthrough_of}
use Rattle.definition.proofs.Ranged.{Ranged}
use Rattle.definition.proofs.Steps.{none_some}

below : {n g f : ℕ} → g < n → some g ≡ some f → f < n
below {n} {g} {f} h e = let z : g ≡ f = cc in subst (λ (k : ℕ). k < n) z h

-- ---- what the promise says of a terminal's fallthrough and binding

module _ (blocks places cases : ℕ) where
  fallthrough_below : (m : Terminal) → InRange blocks places cases m → (f : ℕ) → fallthrough_of m ≡ some f → f < blocks
  fallthrough_below absent r f e = absurd (none_some e)
  fallthrough_below unreachable r f e = absurd (none_some e)
  fallthrough_below (throw v) r f e = absurd (none_some e)
  fallthrough_below (return v) r f e = absurd (none_some e)
  fallthrough_below (goto g v) r f e = absurd (none_some e)
  fallthrough_below (if x c a g) r f e = below r.3 e
  fallthrough_below (branch x c a) r f e = absurd (none_some e)
  fallthrough_below (switch x i n g) r f e = below r.2 e
  fallthrough_below (do_while l x g) r f e = below r.2 e
  fallthrough_below (while x l g) r f e = below r.2 e
  fallthrough_below (for i x u l g) r f e = below r.4 e
  fallthrough_below (for_of i x l g) r f e = below r.3 e
  fallthrough_below (for_in i l g) r f e = below r.2 e
  fallthrough_below (logical o x g) r f e = below r.2 e
  fallthrough_below (ternary x g) r f e = below r.1 e
  fallthrough_below (optional o x g) r f e = below r.2 e
  fallthrough_below (label x g) r f e = below r.1 e
  fallthrough_below (sequence x g) r f e = below r.1 e
  fallthrough_below (maybe_throw k) r f e = absurd (none_some e)
  fallthrough_below (try x k g n) r f e = below r.2 e
  fallthrough_below (scope p x g n) r f e = below r.1 e

module _ (ws : List ℕ) (p : Promise ws) where
  -- every block is in range, as one beyond the table is absent
  block_in_range : (b : ℕ) → InRange (block_count ws) (place_count ws) (case_count ws) (terminal_at (table_of ws) b)
  block_in_range b = by (ltb b (block_count ws)) refl
    where
      by : (y : Bool) → ltb b (block_count ws) ≡ y → InRange (block_count ws) (place_count ws) (case_count ws) (terminal_at (table_of ws) b)
      by true e = in_range_lem ws p b (ltb-true b (block_count ws) e)
      by false e =
          subst (λ (k : Block). InRange (block_count ws) (place_count ws) (case_count ws) k.terminal)
          (sym (get_or-eq_default (table_of ws).blocks no_block (omega (arith, ltb-false b (block_count ws) e, length_blocks ws)))) tt

  promise_ranged : Ranged (table_of ws)
  promise_ranged = record {
    few = omega (arith, length_blocks ws, p.sized.limited.blocks);
    fallthroughs = λ b f e. omega (arith, length_blocks ws, fallthrough_below (block_count ws) (place_count ws) (case_count ws) (terminal_at (table_of ws) b) (block_in_range b) f e);
    bindings = λ b x h f n e. omega (arith, p.sized.limited.places, (subst (InRange (block_count ws) (place_count ws) (case_count ws)) e (block_in_range b)).3);
  }

pub ranged : (ws : List ℕ) → checked ws ≡ accepted → Ranged (table_of ws)
ranged ws h = promise_ranged ws (promised ws h)

-- ---- a refusal of the check has a code from 1 to 4

-- "1 under six words" to "4 first bad word"
abbrev pub of_check : ℕ → Bool
of_check code = leb 1 code && leb code 4

abbrev pub Coded : Verdict → Type 0
Coded accepted = Unit {0}
Coded (refused code at) = T (of_check code)

coded_test : (y : Bool) (a b : Verdict) → Coded a → Coded b → Coded (elim y [ true ↦ a | false ↦ b ])
coded_test true a b h k = h
coded_test false a b h k = k

coded_then : (first next : Verdict) → Coded first → Coded next → Coded (and_then first next)
unfolding and_then
coded_then accepted next h k = k
coded_then (refused code at) next h k = h

coded_counted : (counts next : Verdict) → Coded counts → Coded next → Coded (elim counts [ refused code at ↦ refused code at | accepted ↦ next ])
coded_counted accepted next h k = k
coded_counted (refused code at) next h k = h

module _ (ws : List ℕ) where
  coded_row : (at : ℕ) (rules : List Rule) → Coded (row_verdict ws at rules)
  unfolding row_verdict
  coded_row at [] = tt
  coded_row at (rule ∷ rules) = coded_test (fits rule (word ws at)) (row_verdict ws (suc at) rules) (refused 4 at) (coded_row (suc at) rules) tt

  coded_rows : (rules : ℕ → List Rule) (at first count : ℕ) → Coded (rows_verdict ws rules at first count)
  unfolding rows_verdict
  coded_rows rules at first zero = tt
  coded_rows rules at first (suc count) =
      coded_then (row_verdict ws at (rules first)) (rows_verdict ws rules (at + length (rules first)) (suc first) count)
      (coded_row at (rules first)) (coded_rows rules (at + length (rules first)) (suc first) count)

  coded_counts : (at : ℕ) (most : List ℕ) → Coded (counts_verdict ws at most)
  unfolding counts_verdict
  coded_counts at [] = tt
  coded_counts at (limit ∷ most) = coded_test (leb (word ws at) limit) (counts_verdict ws (suc at) most) (refused 2 at) (coded_counts (suc at) most) tt

  coded_words : Coded (words_verdict ws)
  unfolding words_verdict
  coded_words =
      coded_then _ _ (coded_rows (block_rules ws) _ 0 _) (coded_then _ _ (coded_rows (instruction_rules ws) _ 0 _)
      (coded_then _ _ (coded_rows (case_rules ws) _ 0 _) (coded_then _ _ (coded_rows (place_rules ws) _ 0 _) (coded_rows (identifier_rules ws) _ 0 _))))

  pub coded : Coded (checked ws)
  unfolding checked
  coded =
      coded_test (ltb (length ws) 6) (refused 1 0) _ tt
      (coded_counted (counts_verdict ws 1 limits) _ (coded_counts 1 limits)
      (coded_test (eqb (length ws) (words_needed ws)) _ (refused 1 0) (coded_test (ltb (entry_word ws) (block_count ws)) (words_verdict ws) (refused 3 0) coded_words tt) tt))
