-- M-100: "Every list that the build makes within that size is accepted."
use mathlib.Core.Path.{◌≡◌, refl, sym, ap, ◌∙◌, subst}
use Prim.Native.Nat.{ℕ, zero, suc, ◌+◌, ◌*◌, ◌<◌, ◌≤◌}
use native.Mathlib.Omega.{arith}
use mathlib.Core.List.{List, [], ◌∷◌}
use mathlib.Core.Bool.{Bool, true, false}
use mathlib.Core.Logic.{◌⊎◌, inl, inr, ⊎_elim}
use lib.ListN.{length, get_or, take, get_or-eq_default}
use lib.Dec.{eqb, leb, ltb}
use borrow.Author.Tests.{leb-true, eqb-true, eqb-false, ltb-true, ltb-false}
use Rattle.table.specs.Words.{block_count, instruction_count, case_count, place_count, block_word, instruction_word}
use Rattle.table.specs.Check.{unused, end_of, fits, block_rules, instruction_rules}
use Rattle.table.specs.Table.{Block, no_block, Case, instruction_of, case_of, tabulate, table_of, block_at}
use Rattle.table.specs.Promise.{Promise, InRange}
use Rattle.table.proofs.RuleLaws.{present}
use Rattle.table.proofs.PromiseLaws.{promised, number_most}
use Rattle.table.proofs.RangeLaws.{in_range_lem, absent_zero, run_in_range, lvalue_below, operands_in_range, case_test, case_block}
use Rattle.table.proofs.TableLaws.{length_blocks, instruction_at_lem}
use Rattle.table.proofs.BlockLaws.{id_at, span_at}
use Rattle.definition.specs.Around.{Rule}
use Rattle.definition.specs.Tree.{Row, rows, Statements}
use Rattle.definition.specs.Reading.{WellFormed}
use Rattle.definition.specs.Build.{words_of, built}
use Rattle.definition.proofs.Accepted.{Accepted, accepted_of, rows_of_buffer, words_rows}
use Rattle.definition.proofs.Checked.{ranged}
use Rattle.definition.proofs.Formed.{tree_formed}
use Rattle.tree_grammar.specs.Grammar.{ReadsAsTree, one_tree, Answer, of_rows}
use Rattle.tree_grammar.specs.Needs.{accepted, refused, code_of, rows_verdict}
use Rattle.tree_grammar.proofs.Upto.{and_both}
use Rattle.tree_grammar.proofs.Trees.{Spanned, tree_in}
use Rattle.tree_grammar.proofs.Built.{Cased, Bounded, tree_ranged}
use Rattle.tree_grammar.proofs.Answers.{accepts}

module _ (ws : List ℕ) (p : Promise ws) where
  -- what holds of every block of the table, and of a row of zeros, holds of every number
  everywhere : (P : Block → Type 0) → P no_block → ((b : ℕ) → b < block_count ws → P (block_at (table_of ws) b)) → (b : ℕ) → P (block_at (table_of ws) b)
  everywhere P o h b = by (ltb b (block_count ws)) refl
    where
      by : (y : Bool) → ltb b (block_count ws) ≡ y → P (block_at (table_of ws) b)
      by true e = h b (ltb-true _ _ e)
      by false e = subst P (sym (get_or-eq_default (table_of ws).blocks no_block (omega (arith, ltb-false b (block_count ws) e, length_blocks ws)))) o

  -- the second end of a span
  end_most : (from w : ℕ) → fits (end_of from) w ≡ true → w ≤ 65535
  unfolding fits
  end_most from w e = leb-true w 65535 (and_both (leb from w) (leb w 65535) e).1

  -- a column that is at most 65,535 in every row that is there
  free_column : (b : ℕ) → b < block_count ws → (column : ℕ) → column < 11
      → ((block_word ws b 2 ≡ 0 → ⊥) → fits (get_or (block_rules ws b) column unused) (block_word ws b column) ≡ true → block_word ws b column ≤ 65535) → block_word ws b column ≤ 65535
  free_column b h column l f = by (eqb (block_word ws b 2) 0) refl
    where
      by : (y : Bool) → eqb (block_word ws b 2) 0 ≡ y → block_word ws b column ≤ 65535
      by true e = omega (arith, absent_zero ws p b h (eqb-true (block_word ws b 2) 0 e) column l)
      by false e = f (eqb-false (block_word ws b 2) 0 e) (p.block b h column l)

  id_most : (b : ℕ) → b < block_count ws → block_word ws b 8 ≤ 65535
  id_most b h = free_column b h 8 (omega arith) (λ f q. number_most 65535 _ (rw (present ws b f) at q))

  from_most : (b : ℕ) → b < block_count ws → block_word ws b 9 ≤ 65535
  from_most b h = free_column b h 9 (omega arith) (λ f q. number_most 65535 _ (rw (present ws b f) at q))

  to_most : (b : ℕ) → b < block_count ws → block_word ws b 10 ≤ 65535
  to_most b h = free_column b h 10 (omega arith) (λ f q. end_most (block_word ws b 9) _ (rw (present ws b f) at q))

  cases_in : (n : ℕ) (f : ℕ → Case) (k : ℕ) → ((i : ℕ) → i < k → (((f i).test ≡ 65535) ⊎ ((f i).test < 4096)) × ((f i).block < n)) → Cased n (tabulate f k)
  unfolding tabulate
  cases_in n f zero h = tt
  cases_in n f (suc k) h = ((h 0 (omega arith)).0, (h 0 (omega arith)).1, cases_in n (λ i. f (suc i)) k (λ i l. h (suc i) (omega arith)))

  cased : Cased (block_count ws) (table_of ws).cases
  unfolding table_of case_of
  cased = cases_in (block_count ws) (case_of ws) (case_count ws) (λ i h. (⊎_elim (λ e. inl e) (λ l. inr (omega (arith, p.sized.limited.places))) (case_test ws p i h), case_block ws p i h))

  instruction_id_most : (i : ℕ) → i < instruction_count ws → instruction_word ws i 0 ≤ 65535
  unfolding instruction_rules
  instruction_id_most i h = number_most 65535 _ (p.instruction i h 0 (omega arith))

  instruction_spanned : (i : ℕ) → i < instruction_count ws → (instruction_word ws i 5 ≤ 65535) × (instruction_word ws i 6 ≤ 65535)
  unfolding instruction_rules
  instruction_spanned i h = (number_most 65535 _ (p.instruction i h 5 (omega arith)), end_most (instruction_word ws i 5) _ (p.instruction i h 6 (omega arith)))

  bounded : Bounded (table_of ws) (block_count ws) (place_count ws) (instruction_count ws) (case_count ws)
  unfolding instruction_of
  bounded = record {
    few_blocks = p.sized.limited.blocks;
    few_places = p.sized.limited.places;
    few_instructions = p.sized.limited.instructions;
    ends = everywhere (λ x. InRange (block_count ws) (place_count ws) (case_count ws) x.terminal) tt (λ b h. in_range_lem ws p b h);
    id = everywhere (λ x. x.id ≤ 65535) (omega arith) (λ b h. rw (id_at ws b h) (id_most b h));
    span = everywhere (λ x. Spanned x.span) (omega arith, omega arith) (λ b h. rw (span_at ws b h) (from_most b h, to_most b h));
    run = everywhere (λ x. x.first + x.count ≤ instruction_count ws) (omega arith) (λ b h. run_in_range ws p b h);
    instruction_id = λ i h. rw (instruction_at_lem ws i h) (instruction_id_most i h);
    lvalue = λ i h. rw (instruction_at_lem ws i h) (lvalue_below ws p i h);
    instruction_span = λ i h. rw (instruction_at_lem ws i h) (instruction_spanned i h);
    operands = λ i h. operands_in_range ws p i h;
    cased = cased;
  }

module _ (rule : Rule) (words : List ℕ) (lent lent_index : ℕ) (h : (built rule words lent lent_index).code ≡ 0) (few : (built rule words lent lent_index).rows ≤ 2048) (list : List Row)
    (held : words_of list ≡ take ((built rule words lent lent_index).rows * 6) (built rule words lent lent_index).buffer) where
  pub built_reads : ReadsAsTree list
  built_reads =
      let a : Accepted rule words lent lent_index = accepted_of rule words lent lent_index h in
      let root : Statements = a.root.statements in
      let e : rows root ≡ list = sym (words_rows list (rows root) (held ∙ rows_of_buffer rule words lent lent_index a)) in
      let k : Bounded (table_of words) _ _ _ _ = bounded words (promised words a.checks) in
      let formed : WellFormed root = tree_formed (table_of words) (ranged words a.checks) rule a.root a.builds in
      subst ReadsAsTree e (record {
        ranged = tree_in root formed (tree_ranged (table_of words) _ _ _ _ k rule a.root a.builds) (omega (arith, few, a.number));
        root = root;
        reading = record { well_formed = formed; same_rows = refl };
      })

  pub built_accepted : rows_verdict list 0 [] ≡ accepted
  built_accepted = accepts list built_reads

-- the same of the words: the check of the rows that an accepted build leaves is 0 at 0
module _ (rule : Rule) (words : List ℕ) (lent lent_index : ℕ) (h : (built rule words lent lent_index).code ≡ 0) (few : (built rule words lent lent_index).rows ≤ 2048) where
  pub built_answered : Answer (take ((built rule words lent lent_index).rows * 6) (built rule words lent lent_index).buffer) 0 0
  built_answered =
      let a : Accepted rule words lent lent_index = accepted_of rule words lent lent_index h in
      let list : List Row = rows a.root.statements in
      let held : words_of list ≡ take ((built rule words lent lent_index).rows * 6) (built rule words lent lent_index).buffer = sym (rows_of_buffer rule words lent lent_index a) in
      let reads : ReadsAsTree list = built_reads rule words lent lent_index h few list held in
      of_rows list held (some_row list (accepts list reads)) (omega (arith, few, a.number)) 0 0 (one_tree reads)
    where
      some_row : (list : List Row) → rows_verdict list 0 [] ≡ accepted → 1 ≤ length list
      some_row [] e = absurd (let y : rows_verdict [] 0 [] ≡ refused 62 0 = unfold rows_verdict in refl in let z : ◌≡◌ {A = ℕ} 0 62 = ap code_of (sym e ∙ y) in omega arith)
      some_row (r ∷ list) e = omega arith
