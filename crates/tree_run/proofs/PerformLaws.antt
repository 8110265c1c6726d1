-- Rows performed into the lent buffer.
use mathlib.Core.Path.{◌≡◌, refl, sym, ap, ◌∙◌, subst}
use Prim.Native.Nat.{ℕ, suc, ◌+◌, ◌-◌, ◌<◌, ◌≤◌}
use native.Mathlib.Omega.{arith}
use native.Mathlib.Numerals.{add-one}
use mathlib.Core.List.{List, [], ◌∷◌, ◌++◌, append-nil, append_assoc}
use mathlib.Core.Bool.{Bool, true, false}
use lib.ListN.{length, get_or, set, length-set, length-append, get_or-append}
use lib.Seq.{get_or-set_same, get_or-set_other, get_or_at}
use lib.Dec.{eqb}
use borrow.Author.Tests.{eq-eqb, ne_eqb, eqb-true, eqb-false}
use Rattle.tree_check.specs.Found.{word_at, row_at}
use Rattle.tree_runs.specs.Links.{plains_from, plains}
use Rattle.std.specs.Prelude.{Result, Ok, Err}
use Rattle.std.specs.Result.{IsErrAnd}
use Rattle.std.proofs.lemmas.Result.{err_from_is_err_and}
use Rattle.tree_run.specs.declared.performed.Performed.{Performed}
use Rattle.tree_run.specs.declared.RunError.{RunError}
use Rattle.tree_run.specs.declared.RunError.TheVariants.{NoRoom}
use Rattle.tree_run.specs.Holds.{Held, Took, took, filled, Performs}

-- what a `?` hands on
pub err_same : {T E : Type 0} {r : Result T E} {e : E} → IsErrAnd r (λ y. y ≡ e) → r ≡ Err e
err_same {E = E} {r = r} h = let k = err_from_is_err_and r h in k.1 ∙ ap (λ (e : E). Err e) k.2

pub err_ok : {e : RunError} {u : Unit {0}} → ◌≡◌ {A = Result (Unit {0}) RunError} (Err e) (Ok u) → ⊥
err_ok z = cc

module _ (words : List ℕ) where
  one : (row : ℕ) (y : Bool) → eqb (word_at words row 0) 1 ≡ y → plains_from (row_at words) row 1 ≡ elim y [ true ↦ row ∷ [] | false ↦ [] ]
  unfolding plains_from
  one row y e = ap (λ (z : Bool). elim z [ true ↦ row ∷ [] | false ↦ [] ]) e

  module _ {buffer : List ℕ} {number : ℕ} {reached : List ℕ} (h : Held words buffer number reached) {op : ℕ} (row : ℕ) (is : op ≡ word_at words row 0) where
    other : (op ≡ 1 → ⊥) → reached ++ plains_from (row_at words) row 1 ≡ reached
    other f = ap (λ (z : List ℕ). reached ++ z) (one row false (ne_eqb (word_at words row 0) 1 (λ e. f (is ∙ e)))) ∙ append-nil reached

    this : op ≡ 1 → reached ++ plains_from (row_at words) row 1 ≡ reached ++ (row ∷ [])
    this e = ap (λ (z : List ℕ). reached ++ z) (one row true (eq-eqb (word_at words row 0) 1 (sym is ∙ e)))

    more_length : length (reached ++ (row ∷ [])) ≡ number + 1
    more_length = length-append reached (row ∷ []) ∙ ap (λ (n : ℕ). n + 1) h.count

    pub row_other : (op ≡ 1 → ⊥) → Took words buffer number (Ok tt) (reached ++ plains_from (row_at words) row 1)
    row_other f = took refl (subst (λ (z : List ℕ). Held words buffer number z) (sym (other f)) h)

    pub row_full : op ≡ 1 → length buffer ≤ number → Took words buffer number (Err (NoRoom row)) (reached ++ plains_from (row_at words) row 1)
    row_full e l =
        let z : number ≡ length buffer = omega (arith, h.fits, l) in
        subst (λ (r : List ℕ). Took words buffer number (Err (NoRoom row)) r) (sym (this e))
        (filled (omega (arith, more_length, z)) (ap (λ (k : ℕ). Err (NoRoom k)) (sym (get_or_at reached row [] 0 (length buffer) (h.count ∙ z)))))

    pub row_one : {v : ℕ} → op ≡ 1 → number < length buffer → v ≡ word_at words row 1
        → Took words (set buffer number v) (number + 1) (Ok tt) (reached ++ plains_from (row_at words) row 1)
    row_one {v} e l q =
        subst (λ (r : List ℕ). Took words (set buffer number v) (number + 1) (Ok tt) r) (sym (this e))
        (took refl (record { count = more_length; fits = omega (arith, length-set buffer number v, l); same = λ i g. by i g (eqb i number) refl }))
      where
        by : (i : ℕ) → i < number + 1 → (y : Bool) → eqb i number ≡ y → get_or (set buffer number v) i 0 ≡ word_at words (get_or (reached ++ (row ∷ [])) i 0) 1
        by i g true z =
            let w : i ≡ number = eqb-true i number z in
            rw w (get_or-set_same buffer number v 0 l ∙ (q ∙ ap (λ (r : ℕ). word_at words r 1) (sym (get_or_at reached row [] 0 number h.count))))
        by i g false z =
            let w : i ≡ number → ⊥ = eqb-false i number z in
            let under : i < number = omega (arith, g, w) in
            get_or-set_other buffer number i v 0 w
            ∙ (h.same i under ∙ ap (λ (r : ℕ). word_at words r 1) (sym (get_or-append reached (row ∷ []) 0 i (omega (arith, under, h.count)))))

  -- a buffer that can't take some rows can't take those and more
  full_more : {buffer reached : List ℕ} {number : ℕ} {p : Result (Unit {0}) RunError} {e : RunError} (more all : List ℕ) → p ≡ Err e → Took words buffer number p reached
      → reached ++ more ≡ all → Took words buffer number (Err e) all
  full_more more all q (took f h) z = absurd (err_ok (sym q ∙ f))
  full_more {buffer} {reached} {p = p} {e = e} more all q (filled l f) z =
      let at : get_or reached (length buffer) 0 ≡ get_or all (length buffer) 0
      = sym (get_or-append reached more 0 (length buffer) l) ∙ ap (λ (s : List ℕ). get_or s (length buffer) 0) z in
      let long : length reached ≤ length all = subst (λ (s : List ℕ). length reached ≤ length s) z (simp length-append (omega arith)) in
      filled (omega (arith, l, long)) (sym q ∙ (f ∙ ap (λ (k : ℕ). Err (NoRoom k)) at))

  pub taken : {buffer reached : List ℕ} {number : ℕ} {p : Result (Unit {0}) RunError} {u : Unit {0}} → p ≡ Ok u → Took words buffer number p reached
      → Held words buffer number reached
  taken q (took f h) = h
  taken q (filled l f) = absurd (err_ok (sym f ∙ q))

  -- ---- row by row

  -- what is left of the rows to perform gives what they all give
  pub record Performing (before now : Performed) (from to row : ℕ) : Type 0 where
    pub same : now.rows.ghost_name ≡ before.rows.ghost_name
    pub long : length now.rows.now ≡ length before.rows.now
    pub held : (reached : List ℕ) → Held words before.rows.now before.number reached
        → (so_far : List ℕ) × (Held words now.rows.now now.number so_far) × (reached ++ plains (row_at words) from to ≡ so_far ++ plains (row_at words) row to)

  plains_next : (row to : ℕ) → row < to → plains (row_at words) row to ≡ plains_from (row_at words) row 1 ++ plains (row_at words) (row + 1) to
  unfolding plains_from
  plains_next row to h =
      let n : to - row ≡ suc (to - (row + 1)) = omega arith in
      ap (λ (z : ℕ). plains_from (row_at words) row z) n ∙
      (by (eqb (word_at words row 0) 1) ∙ ap (λ (r : ℕ). plains_from (row_at words) row 1 ++ plains_from (row_at words) r (to - (row + 1))) (sym (add-one row)))
    where
      by : (y : Bool) → elim y [ true ↦ row ∷ plains_from (row_at words) (suc row) (to - (row + 1)) | false ↦ plains_from (row_at words) (suc row) (to - (row + 1)) ]
          ≡ elim y [ true ↦ row ∷ [] | false ↦ [] ] ++ plains_from (row_at words) (suc row) (to - (row + 1))
      by true = refl
      by false = refl

  plains_end : (row to : ℕ) → to ≤ row → plains (row_at words) row to ≡ []
  unfolding plains_from
  plains_end row to h = let n : to - row ≡ 0 = omega arith in ap (λ (z : ℕ). plains_from (row_at words) row z) n

  module _ {before now : Performed} {from to row : ℕ} (I : Performing before now from to row) where
    module _ (h : row < to) {now' : Performed} {p : Result (Unit {0}) RunError} (each : Performs words now now' p (plains_from (row_at words) row 1)) where
      on : (reached so_far : List ℕ) → reached ++ plains (row_at words) from to ≡ so_far ++ plains (row_at words) row to
          → (so_far ++ plains_from (row_at words) row 1) ++ plains (row_at words) (row + 1) to ≡ reached ++ plains (row_at words) from to
      on reached so_far q =
          append_assoc so_far (plains_from (row_at words) row 1) (plains (row_at words) (row + 1) to) ∙ (ap (λ (z : List ℕ). so_far ++ z) (sym (plains_next row to h)) ∙ sym q)

      pub performing_full : {e : RunError} → p ≡ Err e → Performs words before now' (Err e) (plains (row_at words) from to)
      performing_full e = record {
        same = each.same ∙ I.same;
        long = each.long ∙ I.long;
        took = λ reached g. let k = I.held reached g in
            full_more (plains (row_at words) (row + 1) to) (reached ++ plains (row_at words) from to) e (each.took k.0 k.1) (on reached k.0 k.2);
      }

      pub performing_next : {u : Unit {0}} → p ≡ Ok u → Performing before now' from to (row + 1)
      performing_next e = record {
        same = each.same ∙ I.same;
        long = each.long ∙ I.long;
        held = λ reached g. let k = I.held reached g in (k.0 ++ plains_from (row_at words) row 1, taken e (each.took k.0 k.1), sym (on reached k.0 k.2));
      }

    pub performing_end : to ≤ row → Performs words before now (Ok tt) (plains (row_at words) from to)
    performing_end h = record {
      same = I.same;
      long = I.long;
      took = λ reached g. let k = I.held reached g in
          took refl (subst (λ (z : List ℕ). Held words now.rows.now now.number z) (sym (k.2 ∙ (ap (λ (z : List ℕ). k.0 ++ z) (plains_end row to h) ∙ append-nil k.0))) k.1);
    }

  -- both stretches of a turn
  pub both_full : {old new : Performed} {p : Result (Unit {0}) RunError} {e : RunError} (rows more : List ℕ) → p ≡ Err e → Performs words old new p rows
      → Performs words old new (Err e) (rows ++ more)
  both_full rows more e t = record {
    same = t.same;
    long = t.long;
    took = λ reached h. full_more more (reached ++ (rows ++ more)) e (t.took reached h) (append_assoc reached rows more);
  }

  pub both_on : {old mid new : Performed} {p q : Result (Unit {0}) RunError} {u : Unit {0}} (rows more : List ℕ) → p ≡ Ok u → Performs words old mid p rows
      → Performs words mid new q more → Performs words old new q (rows ++ more)
  both_on {new = new} {q = q} rows more e t then = record {
    same = then.same ∙ t.same;
    long = then.long ∙ t.long;
    took = λ reached h. subst (λ (z : List ℕ). Took words new.rows.now new.number q z) (append_assoc reached rows more) (then.took (reached ++ rows) (taken e (t.took reached h)));
  }
