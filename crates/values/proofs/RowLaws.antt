-- Laws of the rows that a buffer holds: a row put on top, a row taken back, and at the end the buffer's words.
use mathlib.Core.Path.{◌≡◌, refl, sym, ap, subst, ◌∙◌}
use mathlib.Core.Bool.{Bool, true, false}
use mathlib.Core.List.{List, [], ◌∷◌, ◌++◌, append_assoc, append-nil}
use Prim.Native.Nat.{ℕ, suc, ◌+◌, ◌-◌, ◌*◌, ◌/◌, ◌≤◌, ◌<◌}
use native.Mathlib.Omega.{arith}
use lib.Dec.{ltb}
use lib.ListN.{length, get_or, take, drop, length-append, length-drop, get_or-append}
use lib.Seq.{sets, sets-eq, length-sets, length-take-le, get_or-take, get_or-drop, get_or-append-add, take-add, ext_get_or}
use borrow.Author.Tests.{ltb-true, ltb-false}
use Rattle.definition.specs.Tree.{Row, row}
use Rattle.definition.specs.Build.{words_of}
use Rattle.values.specs.Rows.{cells, placed, Rows, RowAt, Holds, Written}
use Rattle.values.specs.Stack.{pushed}

-- the rows stay where the words that they stand on stay
rows_kept : (b b' : List ℕ) (stack : List Row) → length b' ≡ length b → ((i : ℕ) → i < length stack * 6 → get_or b' i 0 ≡ get_or b i 0) → Rows b stack → Rows b' stack
rows_kept b b' [] e f h = tt
rows_kept b b' (r ∷ below) e f h = (
  λ k p q. f (length below * 6 + k) (omega arith) ∙ h.0 k p (omega arith),
  rows_kept b b' below e (λ i p. f i (omega arith)) h.1,
)

length_cells : (r : Row) → length (cells r) ≡ 6
length_cells (row op a b c d e) = refl

module _ (b : List ℕ) (n : ℕ) (r : Row) where
  -- the buffer after the six stores
  abbrev stored : List ℕ
  stored = sets b (n * 6) (cells r)

  module _ (fits : n < length b / 6) where
    split : stored ≡ (take (n * 6) b ++ cells r) ++ drop (n * 6 + 6) b
    split = subst (λ (k : ℕ). stored ≡ (take (n * 6) b ++ cells r) ++ drop (n * 6 + k) b) (length_cells r) (sets-eq (cells r) b (n * 6) (omega (arith, length_cells r)))

    front : length (take (n * 6) b) ≡ n * 6
    front = length-take-le (n * 6) b (omega arith)

    at_n : RowAt stored n r
    at_n k p q =
        let t = take (n * 6) b in
        ap (λ (l : List ℕ). get_or l (n * 6 + k) 0) split
        ∙ get_or-append (t ++ cells r) (drop (n * 6 + 6) b) 0 (n * 6 + k) (omega (arith, length-append t (cells r), length_cells r, front))
        ∙ subst (λ (m : ℕ). get_or (t ++ cells r) (m + k) 0 ≡ get_or (cells r) k 0) front (get_or-append-add t (cells r) k 0)

    under : (i : ℕ) → i < n * 6 → get_or stored i 0 ≡ get_or b i 0
    under i p =
        let t = take (n * 6) b in
        ap (λ (l : List ℕ). get_or l i 0) split
        ∙ get_or-append (t ++ cells r) (drop (n * 6 + 6) b) 0 i (omega (arith, length-append t (cells r), front))
        ∙ get_or-append t (cells r) 0 i (omega (arith, front))
        ∙ get_or-take (n * 6) b i 0 p

  put_by : (stack : List Row) → Holds b n stack → (t : Bool) → ltb n (length b / 6) ≡ t → Holds (placed b n r) (n + 1) (r ∷ stack)
  unfolding placed
  put_by stack h true e = rw e (record {
    count = omega (arith, h.count);
    rows = (
      subst (λ (m : ℕ). RowAt stored m r) (sym h.count) (at_n (ltb-true n (length b / 6) e)),
      rows_kept b stored stack (length-sets b (n * 6) (cells r)) (λ i p. under (ltb-true n (length b / 6) e) i (omega (arith, h.count))) h.rows,
    );
  })
  put_by stack h false e = rw e (record {
    count = omega (arith, h.count);
    rows = (λ k p q. absurd (omega (arith, ltb-false n (length b / 6) e, h.count)), h.rows);
  })

  -- a row more
  pub holds_put : (stack : List Row) → Holds b n stack → Holds (placed b n r) (n + 1) (r ∷ stack)
  holds_put stack h = put_by stack h (ltb n (length b / 6)) refl

-- a row was written: whatever rows the buffer held, it holds them and this one
pub written_held : {b b' : List ℕ} {n n' : ℕ} {r : Row} → Written b n r b' n' → (stack : List Row) → Holds b n stack → Holds b' n' (r ∷ stack)
written_held {b} {n = n} {r = r} w stack h = rw (w.words, w.count) (holds_put b n r stack h)

-- a row less
pub holds_pop : (b : List ℕ) (n : ℕ) (r : Row) (stack : List Row) → Holds b n (r ∷ stack) → Holds b (n - 1) stack
holds_pop b n r stack h = record { count = omega (arith, h.count); rows = h.rows.1 }

-- ---- the buffer's words

-- the words of a stack's rows, from the lowest up
unfoldable flat : List Row → List ℕ
flat [] = []
flat (r ∷ below) = flat below ++ cells r

flat_held : (b : List ℕ) (stack : List Row) → Rows b stack → length stack * 6 ≤ length b → take (length stack * 6) b ≡ flat stack
unfolding flat
flat_held b [] h p = refl
flat_held b (r ∷ below) h p =
    let k = length below in
    let e : suc (length below) * 6 ≡ length below * 6 + 6 = omega arith in
    let d = drop (k * 6) b in
    let l : length (take 6 d) ≡ 6 = length-take-le 6 d (omega (arith, length-drop (k * 6) b)) in
    rw e (take-add (k * 6) 6 b
    ∙ ap (λ (s : List ℕ). s ++ take 6 d) (flat_held b below h.1 (omega arith))
    ∙ ap (λ (s : List ℕ). flat below ++ s) (ext_get_or 0 (take 6 d) (cells r) (l ∙ sym (length_cells r))
    (λ i q. get_or-take 6 d i 0 (omega (arith, l)) ∙ get_or-drop (k * 6) b i 0 ∙ h.0 i (omega (arith, l)) (omega arith))))

words_cons : (r : Row) (rows : List Row) → words_of (r ∷ rows) ≡ cells r ++ words_of rows
unfolding words_of
words_cons (row op a b c d e) rows = refl

flat_pushed : (rows below : List Row) → flat (pushed rows below) ≡ flat below ++ words_of rows
unfolding pushed flat words_of
flat_pushed [] below = sym (append-nil (flat below))
flat_pushed (r ∷ rows) below =
    flat_pushed rows (r ∷ below) ∙ append_assoc (flat below) (cells r) (words_of rows) ∙ ap (λ (l : List ℕ). flat below ++ l) (sym (words_cons r rows))

-- a buffer that holds the rows, and has room for all of them, begins with their words
pub words_held : (b : List ℕ) (n : ℕ) (rows : List Row) → Holds b n (pushed rows []) → n * 6 ≤ length b → take (n * 6) b ≡ words_of rows
unfolding flat
words_held b n rows h p =
    let e = h.count in
    rw (← e) (flat_held b (pushed rows []) h.rows (rw e p)) ∙ flat_pushed rows []
