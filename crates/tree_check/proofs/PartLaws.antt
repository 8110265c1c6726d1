-- The parts that a row takes, and where they begin.
use mathlib.Core.Path.{◌≡◌, refl, sym, ap, ◌∙◌}
use Prim.Native.Nat.{ℕ, zero, suc, ◌+◌, ◌-◌, ◌<◌, ◌≤◌}
use native.Mathlib.Omega.{arith}
use mathlib.Core.List.{List, [], ◌∷◌}
use mathlib.Core.Bool.{Bool, true, false}
use lib.ListN.{get_or}
use Rattle.std.specs.Prelude.{Option, None, Some}
use Rattle.tree_grammar.specs.Needs.{Sort, serves, many, if_present, needs_by_op, made_by}
use Rattle.tree_check.specs.Found.{word_at, parts_begin, Ready}

-- a flag that is not 0
pub is_present : (flag : ℕ) (sort : Sort) (more : List Sort) → (flag ≡ 0 → ⊥) → sort ∷ more ≡ if_present flag sort more
is_present zero sort more f = absurd (f refl)
is_present (suc n) sort more f = refl

-- the parts by the words as they were read
pub same_needs : {op op' a a' b b' c c' : ℕ} → op ≡ op' → a ≡ a' → b ≡ b' → c ≡ c' → get_or (needs_by_op a b c) op [] ≡ get_or (needs_by_op a' b' c') op' []
same_needs {op' = op'} {a} {a'} {b} {b'} {c} o p q r =
    ap (λ (z : ℕ). get_or (needs_by_op a b c) z []) o
    ∙ (ap (λ (z : ℕ). get_or (needs_by_op z b c) op' []) p ∙ (ap (λ (z : ℕ). get_or (needs_by_op a' z c) op' []) q ∙ ap (λ (z : ℕ). get_or (needs_by_op a' b' z) op' []) r))

module _ (words begins : List ℕ) where
  -- what is found lies before the cursor
  pub found_low : ((k : ℕ) → get_or begins k 0 ≤ k) → (wanted : List Sort) (cursor found : ℕ) → parts_begin words begins wanted cursor ≡ Some found → found ≤ cursor
  unfolding parts_begin
  found_low low [] cursor found e = let z : cursor ≡ found = cc e in omega arith
  found_low low (sort ∷ wanted) zero found e = cc
  found_low low (sort ∷ wanted) (suc last) found e = by (serves sort (made_by (word_at words last 0))) e (λ q. found_low low wanted (get_or begins last 0) found q)
    where
      by : (y : Bool) → elim y [ true ↦ parts_begin words begins wanted (get_or begins last 0) | false ↦ None ] ≡ Some found
          → (parts_begin words begins wanted (get_or begins last 0) ≡ Some found → found ≤ get_or begins last 0) → found ≤ suc last
      by true e h = omega (arith, h e, low last)
      by false e h = cc

  -- ---- one part

  by_sort : (sort : Sort) (tail : List Sort) (last : ℕ) {y : Bool} → serves sort (made_by (word_at words last 0)) ≡ y
      → parts_begin words begins (sort ∷ tail) (suc last) ≡ elim y [ true ↦ parts_begin words begins tail (get_or begins last 0) | false ↦ None ]
  unfolding parts_begin
  by_sort sort tail last e = ap (λ (y : Bool). elim y [ true ↦ parts_begin words begins tail (get_or begins last 0) | false ↦ None ]) e

  pub no_part : (sort : Sort) (at : ℕ) → at < 1 → None ≡ parts_begin words begins (sort ∷ []) at
  unfolding parts_begin
  no_part sort at h = let z : at ≡ 0 = omega arith in rw z

  -- whether it serves, by the op of the row before, as they were read
  pub one_part : (sort : Sort) (at last : ℕ) {op : ℕ} {found : Sort} {y : Bool} → (1 ≤ at) × (last ≡ at - 1) → op ≡ word_at words last 0 → found ≡ made_by op → y ≡ serves sort found
      → elim y [ true ↦ Some (get_or begins last 0) | false ↦ None ] ≡ parts_begin words begins (sort ∷ []) at
  unfolding parts_begin
  one_part sort at last h read made is =
      let z : suc last ≡ at = omega (arith, h.0, h.1) in
      sym (ap (parts_begin words begins (sort ∷ [])) (sym z) ∙ by_sort sort [] last (ap (serves sort) (sym (made ∙ ap made_by read)) ∙ sym is))

  -- ---- parts one after another

  abbrev pub and_then : Option ℕ → (ℕ → Option ℕ) → Option ℕ
  and_then None next = None
  and_then (Some middle) next = next middle

  part_then : (sort : Sort) (tail : List Sort) (at : ℕ) → parts_begin words begins (sort ∷ tail) at ≡ and_then (parts_begin words begins (sort ∷ []) at) (parts_begin words begins tail)
  unfolding parts_begin
  part_then sort tail zero = refl
  part_then sort tail (suc last) = by (serves sort (made_by (word_at words last 0)))
    where
      by : (y : Bool) → elim y [ true ↦ parts_begin words begins tail (get_or begins last 0) | false ↦ None ]
          ≡ and_then (elim y [ true ↦ Some (get_or begins last 0) | false ↦ None ]) (parts_begin words begins tail)
      by true = refl
      by false = refl

  pub parts_then : (sort : Sort) (tail : List Sort) (n at : ℕ)
      → parts_begin words begins (many n sort tail) at ≡ and_then (parts_begin words begins (many n sort []) at) (parts_begin words begins tail)
  unfolding parts_begin
  parts_then sort tail zero at = refl
  parts_then sort tail (suc n) at =
      part_then sort (many n sort tail) at ∙ (by (parts_begin words begins (sort ∷ []) at) (parts_then sort tail n)
      ∙ ap (λ (o : Option ℕ). and_then o (parts_begin words begins tail)) (sym (part_then sort (many n sort []) at)))
    where
      by : (o : Option ℕ) → ((at : ℕ) → parts_begin words begins (many n sort tail) at ≡ and_then (parts_begin words begins (many n sort []) at) (parts_begin words begins tail))
          → and_then o (parts_begin words begins (many n sort tail)) ≡ and_then (and_then o (parts_begin words begins (many n sort []))) (parts_begin words begins tail)
      by None on = refl
      by (Some middle) on = on middle

  -- ---- parts of one sort

  -- what is left of a search gives what the whole gives
  pub record Seeking (sort : Sort) (count from done at : ℕ) : Type 0 where
    pub rest : parts_begin words begins (many count sort []) from ≡ parts_begin words begins (many (count - done) sort []) at
    pub near : at ≤ from

  pub ready_before : {rows at : ℕ} → Ready words begins rows → at ≤ rows → Ready words begins at
  ready_before ready h = record { whole = omega (arith, ready.whole, h); few = omega (arith, ready.few, h); size = ready.size; low = ready.low }

  module _ {rows : ℕ} (ready : Ready words begins rows) {sort : Sort} {count done at : ℕ} (s : Seeking sort count rows done at) where
    module _ (more : done < count) {part : Option ℕ} (is : part ≡ parts_begin words begins (sort ∷ []) at) where
      next : and_then part (parts_begin words begins (many (count - (done + 1)) sort [])) ≡ parts_begin words begins (many count sort []) rows
      next =
          let z : count - done ≡ suc (count - (done + 1)) = omega arith in
          sym (s.rest ∙ (ap (λ (n : ℕ). parts_begin words begins (many n sort []) at) z ∙ (part_then sort (many (count - (done + 1)) sort []) at ∙ rw is)))

    pub seek_missing : done < count → None ≡ parts_begin words begins (sort ∷ []) at → None ≡ parts_begin words begins (many count sort []) rows
    seek_missing more is = next more is

    pub seek_on : done < count → {first : ℕ} → Some first ≡ parts_begin words begins (sort ∷ []) at → Seeking sort count rows (done + 1) first
    seek_on more {first} is = record { rest = sym (next more is); near = omega (arith, s.near, found_low ready.low (sort ∷ []) at first (sym is)) }

    pub seek_end : count ≤ done → Some at ≡ parts_begin words begins (many count sort []) rows
    unfolding parts_begin
    seek_end h = let z : count - done ≡ 0 = omega arith in sym (s.rest ∙ rw z)

  -- ---- the parts of a row

  module _ (row n : ℕ) (sort : Sort) (tail : List Sort) {wanted : List Sort} (are : many n sort tail ≡ wanted) where
    first_part : {part : Option ℕ} → part ≡ parts_begin words begins (many n sort []) row → and_then part (parts_begin words begins tail) ≡ parts_begin words begins wanted row
    first_part is = rw is (sym (parts_then sort tail n row) ∙ ap (λ (w : List Sort). parts_begin words begins w row) are)

    pub first_missing : None ≡ parts_begin words begins (many n sort []) row → None ≡ parts_begin words begins wanted row
    first_missing is = first_part is

    pub then_the_rest : {at : ℕ} → Some at ≡ parts_begin words begins (many n sort []) row → {part : Option ℕ} → part ≡ parts_begin words begins tail at → part ≡ parts_begin words begins wanted row
    then_the_rest is rest = rest ∙ first_part is

  pub found_near : {rows : ℕ} → Ready words begins rows → (wanted : List Sort) {at : ℕ} → Some at ≡ parts_begin words begins wanted rows → at ≤ rows
  found_near {rows} ready wanted {at} is = found_low ready.low wanted rows at (sym is)
