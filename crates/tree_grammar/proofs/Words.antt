-- The check of words: its answer is the grammar's, and the only one.
use mathlib.Core.Path.{◌≡◌, refl, sym, ap, ◌∙◌}
use Prim.Native.Nat.{ℕ, ◌≤◌}
use mathlib.Core.List.{List, [], ◌∷◌}
use mathlib.Core.Option.{Option, none, some}
use mathlib.Core.Bool.{Bool, true, false, ◌&&◌}
use lib.ListN.{length}
use lib.Dec.{leb}
use borrow.Author.Tests.{leb-true, le-leb}
use Rattle.definition.specs.Tree.{Row, row}
use Rattle.definition.specs.Build.{words_of}
use Rattle.definition.proofs.Steps.{none_some, true_false}
use Rattle.tree_grammar.specs.Grammar.{most_rows, Answer, no_list, of_rows}
use Rattle.tree_grammar.specs.Needs.{refused, code_of, at_of, rows_verdict, rows_of_words, sized_verdict, tree_verdict}
use Rattle.tree_grammar.proofs.Upto.{and_both}
use Rattle.tree_grammar.proofs.Answers.{verdict_of, machine_answers, answer_is, code_is, at_is}

pub words_back : (list : List Row) → rows_of_words (words_of list) ≡ some list
unfolding words_of
words_back [] = refl
words_back (row op a b c d e ∷ list) = rw (words_back list)

back_words : (words : List ℕ) (list : List Row) → rows_of_words words ≡ some list → words_of list ≡ words
unfolding words_of
back_words [] list e = ap words_of (sym (list_is e))
  where
    list_is : some [] ≡ some list → [] ≡ list
    list_is e = cc
back_words (op ∷ []) list e = absurd (none_some e)
back_words (op ∷ a ∷ []) list e = absurd (none_some e)
back_words (op ∷ a ∷ b ∷ []) list e = absurd (none_some e)
back_words (op ∷ a ∷ b ∷ c ∷ []) list e = absurd (none_some e)
back_words (op ∷ a ∷ b ∷ c ∷ d ∷ []) list e = absurd (none_some e)
back_words (op ∷ a ∷ b ∷ c ∷ d ∷ f ∷ words) list e = by (rows_of_words words) refl e (λ l q. back_words words l q)
  where
    by : (o : Option (List Row)) → rows_of_words words ≡ o → elim o [ none ↦ none | some l ↦ some (row op a b c d f ∷ l) ] ≡ some list
        → ((l : List Row) → rows_of_words words ≡ some l → words_of l ≡ words)
        → words_of list ≡ op ∷ a ∷ b ∷ c ∷ d ∷ f ∷ words
    by none o e q = absurd (none_some e)
    by (some l) o e q = let z : row op a b c d f ∷ l ≡ list = cc e in ap words_of (sym z) ∙ ap (λ (k : List ℕ). op ∷ a ∷ b ∷ c ∷ d ∷ f ∷ k) (q l o)

pub sized : (list : List Row) → 1 ≤ length list → length list ≤ most_rows → sized_verdict list ≡ rows_verdict list 0 []
sized list h l =
    let y : leb 1 (length list) && leb (length list) most_rows ≡ true = rw (le-leb 1 (length list) h, le-leb (length list) 2048 l) in
    ap (λ (b : Bool). elim b [ true ↦ rows_verdict list 0 [] | false ↦ refused 62 0 ]) y

-- every list of words has an answer
pub words_answered : (words : List ℕ) → Answer words (code_of (tree_verdict words)) (at_of (tree_verdict words))
unfolding tree_verdict
words_answered words = by (rows_of_words words) refl
  where
    size : (list : List Row) → rows_of_words words ≡ some list → (y : Bool) → leb 1 (length list) && leb (length list) most_rows ≡ y
        → Answer words (code_of (elim y [ true ↦ rows_verdict list 0 [] | false ↦ refused 62 0 ])) (at_of (elim y [ true ↦ rows_verdict list 0 [] | false ↦ refused 62 0 ]))
    size list o true e =
        let q : (leb 1 (length list) ≡ true) × (leb (length list) most_rows ≡ true) = and_both _ _ e in
        of_rows list (back_words words list o) (leb-true 1 (length list) q.0) (leb-true (length list) 2048 q.1) _ _ (machine_answers list)
    size list o false e = no_list (λ l w m n.
        let z : l ≡ list = same l (sym (words_back l) ∙ (ap rows_of_words w ∙ o)) in
        true_false (sym (ap (λ (k : List Row). leb 1 (length k) && leb (length k) most_rows) (sym z) ∙ (rw (le-leb 1 (length l) m, le-leb (length l) 2048 n))) ∙ e))
      where
        same : (l : List Row) → some l ≡ some list → l ≡ list
        same l e = cc

    by : (o : Option (List Row)) → rows_of_words words ≡ o
        → Answer words (code_of (elim o [ none ↦ refused 62 0 | some list ↦ sized_verdict list ]))
        (at_of (elim o [ none ↦ refused 62 0 | some list ↦ sized_verdict list ]))
    by none o = no_list (λ l w m n. none_some (sym o ∙ (ap rows_of_words (sym w) ∙ words_back l)))
    by (some list) o = size list o (leb 1 (length list) && leb (length list) most_rows) refl

-- and it has no other
pub words_answer_is : (words : List ℕ) {code at : ℕ} → Answer words code at → (code ≡ code_of (tree_verdict words)) × (at ≡ at_of (tree_verdict words))
unfolding tree_verdict
words_answer_is words (no_list f) = by (rows_of_words words) refl
  where
    small : (list : List Row) → words_of list ≡ words → (y : Bool) → leb 1 (length list) && leb (length list) most_rows ≡ y
        → (62 ≡ code_of (elim y [ true ↦ rows_verdict list 0 [] | false ↦ refused 62 0 ])) × (0 ≡ at_of (elim y [ true ↦ rows_verdict list 0 [] | false ↦ refused 62 0 ]))
    small list w true e =
        let q : (leb 1 (length list) ≡ true) × (leb (length list) most_rows ≡ true) = and_both _ _ e in
        absurd (f list w (leb-true 1 (length list) q.0) (leb-true (length list) 2048 q.1))
    small list w false e = (refl, refl)

    by : (o : Option (List Row)) → rows_of_words words ≡ o
        → (62 ≡ code_of (elim o [ none ↦ refused 62 0 | some list ↦ sized_verdict list ])) × (0 ≡ at_of (elim o [ none ↦ refused 62 0 | some list ↦ sized_verdict list ]))
    by none o = (refl, refl)
    by (some list) o = small list (back_words words list o) (leb 1 (length list) && leb (length list) most_rows) refl
words_answer_is words (of_rows list w m n code at q) =
    let z : rows_of_words words ≡ some list = ap rows_of_words (sym w) ∙ words_back list in
    let v : tree_verdict words ≡ verdict_of list code at = ap (λ (o : Option (List Row)). elim o [ none ↦ refused 62 0 | some l ↦ sized_verdict l ]) z ∙ (sized list m n ∙ answer_is list q) in
    (sym (ap code_of v ∙ code_is list code at), sym (ap at_of v ∙ at_is list q))
