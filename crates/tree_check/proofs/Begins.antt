-- What the check finds of an accepted list, for whoever walks over its parts: each row's parts begin where its beginning says.
use mathlib.Core.Path.{◌≡◌, refl, sym, ap, ◌∙◌, subst}
use Prim.Native.Nat.{ℕ, zero, suc, ◌+◌, ◌*◌, ◌/◌, ◌<◌, ◌≤◌}
use native.Mathlib.Omega.{arith}
use mathlib.Core.List.{List, [], ◌∷◌}
use mathlib.Core.Bool.{Bool, true, false, ◌&&◌}
use lib.ListN.{length, get_or, set, length-set}
use lib.Seq.{get_or-set_same, get_or-set_other}
use lib.Dec.{eqb, leb}
use borrow.Author.Tests.{eqb-true, eqb-false, leb-true}
use Rattle.std.specs.Prelude.{Option, None, Some, Result, Ok, Err}
use Rattle.tree_grammar.specs.Ranges.{in_range}
use Rattle.tree_grammar.specs.Needs.{Sort, serves, parts_of, made_by}
use Rattle.tree_grammar.proofs.Upto.{and_both}
use Rattle.tree_check.specs.declared.TreeError.{TreeError}
use Rattle.tree_check.specs.declared.TreeError.TheVariants.{RowOutOfRange, PartsMissing}
use Rattle.tree_check.specs.Found.{word_at, row_at, parts_begin, Ready, TreeRead, read_from, no_begins, no_list, tree_read, Begun}
use Rattle.tree_check.proofs.PartLaws.{found_low}
use Rattle.tree_check.proofs.ReadLaws.{set_low, start_ready}

module _ (words : List ℕ) where
  -- what is stored for a row does not change where the parts before it begin
  same_search : (begins : List ℕ) → ((j : ℕ) → get_or begins j 0 ≤ j) → (k first : ℕ) (wanted : List Sort) (cursor : ℕ) → cursor ≤ k
      → parts_begin words (set begins k first) wanted cursor ≡ parts_begin words begins wanted cursor
  unfolding parts_begin
  same_search begins low k first [] cursor h = refl
  same_search begins low k first (sort ∷ wanted) zero h = refl
  same_search begins low k first (sort ∷ wanted) (suc last) h =
      let same : get_or (set begins k first) last 0 ≡ get_or begins last 0 = get_or-set_other begins k last first 0 (λ e. omega arith) in
      ap (λ (o : Option ℕ). elim (serves sort (made_by (word_at words last 0))) [ true ↦ o | false ↦ None ])
      (ap (parts_begin words (set begins k first) wanted) same ∙ same_search begins low k first wanted (get_or begins last 0) (omega (arith, low last)))

  next_begun : (begins : List ℕ) (i first : ℕ) → Begun words begins i → i < length begins → first ≤ i → parts_begin words begins (parts_of (row_at words i)) i ≡ Some first
      → Begun words (set begins i first) (suc i)
  next_begun begins i first b room l e = record { begun = λ k h. by k h (eqb k i) refl; low = set_low begins i first b.low room l }
    where
      by : (k : ℕ) → k < suc i → (y : Bool) → eqb k i ≡ y → parts_begin words (set begins i first) (parts_of (row_at words k)) k ≡ Some (get_or (set begins i first) k 0)
      by k h true q =
          let z : k ≡ i = eqb-true k i q in
          rw z (same_search begins b.low i first (parts_of (row_at words i)) i (omega arith) ∙ (e ∙ ap (λ (n : ℕ). Some n) (sym (get_or-set_same begins i first 0 room))))
      by k h false q =
          let f : k ≡ i → ⊥ = eqb-false k i q in
          let under : k < i = omega arith in
          same_search begins b.low i first (parts_of (row_at words k)) k (omega arith)
          ∙ (b.begun k under ∙ ap (λ (n : ℕ). Some n) (sym (get_or-set_other begins i k first 0 f)))

  -- the list is accepted, with these beginnings
  abbrev Gives : TreeRead → (begins : List ℕ) → Type 0
  Gives read begins = read ≡ record { answer = Ok tt; begin = begins }

  refuses : {error : TreeError} {begins begins' : List ℕ} → Gives (record { answer = Err error; begin = begins }) begins' → ⊥
  refuses {error} e = let z : ◌≡◌ {A = Result (Unit {0}) TreeError} (Err error) (Ok tt) = ap (λ (r : TreeRead). r.answer) e in cc

  all_begun : (count i : ℕ) (begins : List ℕ) {begins' : List ℕ} → Begun words begins i → i + count ≤ length begins → Gives (read_from words begins i count) begins' → Begun words begins' (i + count)
  unfolding read_from
  all_begun zero i begins b room e = let z : i + 0 ≡ i = omega arith in rw (z, ← (ap (λ (r : TreeRead). r.begin) e)) b
  all_begun (suc count) i begins {begins'} b room e =
      by (in_range (row_at words i)) (parts_begin words begins (parts_of (row_at words i)) i) refl e
      (λ first l q c. all_begun count (suc i) (set begins i first) (next_begun begins i first b (omega arith) l q) (omega (arith, length-set begins i first)) c)
    where
      by : (y : Bool) (o : Option ℕ) → parts_begin words begins (parts_of (row_at words i)) i ≡ o
          → Gives
          (elim y [
            | true ↦ elim o [ None ↦ record { answer = Err (PartsMissing i); begin = begins } | Some first ↦ read_from words (set begins i first) (suc i) count ]
            | false ↦ record { answer = Err (RowOutOfRange i); begin = begins }
          ])
          begins'
          → ((first : ℕ) → first ≤ i → parts_begin words begins (parts_of (row_at words i)) i ≡ Some first → Gives (read_from words (set begins i first) (suc i) count) begins'
          → Begun words begins' (suc i + count))
          → Begun words begins' (i + suc count)
      by false o q e on = absurd (refuses e)
      by true None q e on = absurd (refuses e)
      by true (Some first) q e on =
          let z : i + suc count ≡ suc i + count = omega arith in
          rw z (on first (found_low words begins b.low (parts_of (row_at words i)) i first q) q e)

  pub begins_found : {begins : List ℕ} → tree_read words ≡ record { answer = Ok tt; begin = begins } → Begun words begins (length words / 6)
  unfolding tree_read
  begins_found {begins} h = by (eqb (length words) (length words / 6 * 6) && (leb 1 (length words / 6) && leb (length words / 6) 2048)) refl h
    where
      by : (y : Bool) → eqb (length words) (length words / 6 * 6) && (leb 1 (length words / 6) && leb (length words / 6) 2048) ≡ y
          → Gives (elim y [ true ↦ read_from words no_begins 0 (length words / 6) | false ↦ no_list ]) begins
          → Begun words begins (length words / 6)
      by false e h = absurd (refuses h)
      by true e h =
          let s : Ready words no_begins 0 = start_ready words in
          let n : ℕ = length words / 6 in
          let sized : (leb 1 n && leb n 2048) ≡ true = (and_both (eqb (length words) (n * 6)) (leb 1 n && leb n 2048) e).1 in
          let few : leb n 2048 ≡ true = (and_both (leb 1 n) (leb n 2048) sized).1 in
          let z : 0 + length words / 6 ≡ length words / 6 = omega arith in
          let room : 0 + length words / 6 ≤ length no_begins = omega (arith, s.size, leb-true (length words / 6) 2048 few) in
          subst (Begun words begins) z (all_begun (length words / 6) 0 no_begins (record { begun = λ k l. absurd (omega arith); low = s.low }) room h)
