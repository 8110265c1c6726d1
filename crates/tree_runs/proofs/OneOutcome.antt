-- For any words, answers and lent buffer there is one outcome.
use mathlib.Core.Path.{◌≡◌, refl, sym, ap, ◌∙◌, subst}
use Prim.Native.Nat.{ℕ}
use native.Mathlib.Omega.{arith}
use mathlib.Core.List.{List, [], ◌∷◌}
use Rattle.definition.specs.Tree.{Row, row, Statements}
use Rattle.definition.specs.Reading.{ReadAs}
use Rattle.definition.specs.Build.{words_of}
use Rattle.definition.specs.Run.{Answers}
use Rattle.definition.proofs.Readings.{one_reading}
use Rattle.tree_grammar.specs.Grammar.{Answer, of_rows, no_list, one_tree, out_of_range, no_parts, remainder}
use Rattle.tree_grammar.specs.Needs.{tree_verdict, code_of, at_of}
use Rattle.tree_grammar.proofs.Words.{words_answer_is}
use Rattle.tree_runs.specs.Ran.{Outcome, refusal, ran}
use Rattle.tree_runs.specs.Given.{RunGives, refused, runs, root_in, root_of, run_by, run_of}
use Prim.Native.Nat.{◌≤◌}
use mathlib.Core.Option.{Option, none, some}
use mathlib.Core.Bool.{true}
use lib.ListN.{length}
use Rattle.definition.specs.Reading.{block}
use Rattle.definition.specs.Reader.{read}
use Rattle.definition.proofs.Readings.{forest_read}
use Rattle.tree_grammar.specs.Ranges.{all_in_range}
use Rattle.tree_grammar.specs.Grammar.{most_rows}
use Rattle.tree_grammar.specs.Needs.{RowsVerdict, rows_of_words, sized_verdict}
use Rattle.tree_grammar.specs.Needs as goal
use Rattle.tree_grammar.proofs.Words.{words_back, sized, words_answered}
use Rattle.tree_grammar.proofs.Answers.{accepts}

cons_nil : {x : ℕ} {xs : List ℕ} → x ∷ xs ≡ [] → ⊥
cons_nil e = let z : ◌≡◌ {A = ℕ} 0 1 = cc in omega arith

pub words_inj : (l k : List Row) → words_of l ≡ words_of k → l ≡ k
unfolding words_of
words_inj [] [] e = refl
words_inj [] (row op a b c d f ∷ k) e = absurd (cons_nil (sym e))
words_inj (row op a b c d f ∷ l) [] e = absurd (cons_nil e)
words_inj (row op a b c d f ∷ l) (row op' a' b' c' d' f' ∷ k) e =
    let r : row op a b c d f ≡ row op' a' b' c' d' f' = cc in
    let t : words_of l ≡ words_of k = cc in
    ap (λ (x : Row). x ∷ l) r ∙ ap (λ (z : List Row). row op' a' b' c' d' f' ∷ z) (words_inj l k t)

module _ (words : List ℕ) (answers : Answers) (lent : ℕ) where
  refusals : (code at code' at' : ℕ) → Answer words code at → Answer words code' at' → refusal code at lent ≡ refusal code' at' lent
  refusals code at code' at' p q =
      let x = words_answer_is words p in
      let y = words_answer_is words q in
      ap (λ (n : ℕ). refusal n at lent) (x.0 ∙ sym y.0) ∙ ap (λ (n : ℕ). refusal code' n lent) (x.1 ∙ sym y.1)

  pub one_outcome : {o o' : Outcome} → RunGives words answers lent o → RunGives words answers lent o' → o ≡ o'
  one_outcome (refused code at p f) (refused code' at' q g) = refusals code at code' at' p q
  one_outcome (refused code at p f) (runs list w l m r root d) =
      absurd (f ((words_answer_is words p).0 ∙ sym (words_answer_is words (of_rows list w l m 0 0 (one_tree (record { ranged = r; root = root; reading = d })))).0))
  one_outcome (runs list w l m r root d) (refused code at p f) =
      absurd (f ((words_answer_is words p).0 ∙ sym (words_answer_is words (of_rows list w l m 0 0 (one_tree (record { ranged = r; root = root; reading = d })))).0))
  one_outcome (runs list w l m r root d) (runs list' w' l' m' r' root' d') =
      ap (λ (z : Statements). ran z answers lent)
      (one_reading list root root' d (subst (λ (z : List Row). ReadAs z root') (words_inj list' list (w' ∙ sym w)) d'))

-- what the relation gives is what the function gives
module _ (words : List ℕ) (answers : Answers) (lent : ℕ) where
  refused_is : (code at : ℕ) → Answer words code at → (code ≡ 0 → ⊥) → refusal code at lent ≡ run_of words answers lent
  unfolding run_of run_by
  refused_is code at p f = by (tree_verdict words) refl
    where
      by : (v : RowsVerdict) → tree_verdict words ≡ v → refusal code at lent ≡ run_by v words answers lent
      by goal.accepted e = absurd (f ((words_answer_is words p).0 ∙ ap code_of e))
      by (goal.refused c a) e =
          ap (λ (n : ℕ). refusal n at lent) ((words_answer_is words p).0 ∙ ap code_of e) ∙ ap (λ (n : ℕ). refusal c n lent) ((words_answer_is words p).1 ∙ ap at_of e)

  runs_is : (list : List Row) → words_of list ≡ words → 1 ≤ length list → length list ≤ most_rows → all_in_range list ≡ true → (root : Statements) → ReadAs list root
      → ran root answers lent ≡ run_of words answers lent
  unfolding run_of run_by tree_verdict read
  runs_is list w l m r root d =
      let z : rows_of_words words ≡ some list = ap rows_of_words (sym w) ∙ words_back list in
      let v : tree_verdict words ≡ goal.accepted =
      ap (λ (o : Option (List Row)). elim o [ none ↦ goal.refused 62 0 | some k ↦ sized_verdict k ]) z ∙ (sized list l m ∙ accepts list (record { ranged = r; root = root; reading = d })) in
      let back : read list [] ≡ some (block root ∷ []) = ap (λ (k : List Row). read k []) (sym d.same_rows) ∙ forest_read (block root ∷ []) (d.well_formed, tt) [] in
      let t : root ≡ root_of (rows_of_words words) = sym (ap root_of z ∙ ap root_in back) in
      ap (λ (k : Statements). ran k answers lent) t ∙ sym (ap (λ (k : RowsVerdict). run_by k words answers lent) v)

  pub given_is : {o : Outcome} → RunGives words answers lent o → o ≡ run_of words answers lent
  given_is (refused code at p f) = refused_is code at p f
  given_is (runs list w l m r root d) = runs_is list w l m r root d

  -- and the function gives what the relation does
  by_answer_lem : {code at : ℕ} → Answer words code at → RunGives words answers lent (run_of words answers lent)
  by_answer_lem (no_list f) = subst (RunGives words answers lent) (refused_is 62 0 (no_list f) (λ e. omega (arith, e))) (refused 62 0 (no_list f) (λ e. omega (arith, e)))
  by_answer_lem (of_rows list w l m code at (one_tree t)) =
      subst (RunGives words answers lent) (runs_is list w l m t.ranged t.root t.reading) (runs list w l m t.ranged t.root t.reading)
  by_answer_lem (of_rows list w l m code at (out_of_range i g f)) =
      let a : Answer words 60 i = of_rows list w l m 60 i (out_of_range i g f) in
      subst (RunGives words answers lent) (refused_is 60 i a (λ e. omega (arith, e))) (refused 60 i a (λ e. omega (arith, e)))
  by_answer_lem (of_rows list w l m code at (no_parts i g r f)) =
      let a : Answer words 61 i = of_rows list w l m 61 i (no_parts i g r f) in
      subst (RunGives words answers lent) (refused_is 61 i a (λ e. omega (arith, e))) (refused 61 i a (λ e. omega (arith, e)))
  by_answer_lem (of_rows list w l m code at (remainder r q f)) =
      let a : Answer words 62 0 = of_rows list w l m 62 0 (remainder r q f) in
      subst (RunGives words answers lent) (refused_is 62 0 a (λ e. omega (arith, e))) (refused 62 0 a (λ e. omega (arith, e)))

  pub is_given : {o : Outcome} → o ≡ run_of words answers lent → RunGives words answers lent o
  is_given e = subst (RunGives words answers lent) (sym e) (by_answer_lem (words_answered words))
