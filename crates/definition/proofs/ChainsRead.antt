-- From the conditions on straight ways and chains of Optionals, which are computed (specs/PlainValue), the relations of proofs/Chains. For proofs/SeenRows and proofs/ValueTest.
use mathlib.Core.Path.{◌≡◌, refl, sym, ap, ◌∙◌, subst}
use Prim.Native.Nat.{ℕ, zero, suc}
use mathlib.Core.List.{List, [], ◌∷◌, ◌++◌}
use mathlib.Core.Option.{Option, none, some}
use mathlib.Core.Bool.{Bool, true, false, ◌&&◌, ◌||◌, cond}
use lib.ListN.{get_or}
use lib.Dec.{eqb}
use borrow.Author.Tests.{eqb-true, eq-eqb}
use Rattle.table.specs.Table.{Table, Block, Terminal, absent, unreachable, throw, return, goto, if, branch, switch, do_while, while, for, for_of, for_in}
use Rattle.table.specs.Table.{logical, ternary, optional, label, sequence, maybe_throw, try, scope, no_block, block_at, terminal_at, instruction_rows_at}
use Rattle.definition.specs.Completion.{contains}
use Rattle.definition.specs.Value.{most_depth, is_empty_goto}
use Rattle.definition.specs.Plain.{is_branch}
use Rattle.definition.specs.ValueEnds.{ValueEnd, ends_at, end_of, straight_rows_at, straight_rows, seen_rows}
use Rattle.definition.specs.PlainValue.{find_of, straight_to_at, straight_to, bare_at, bare, end_is, owns_test, owner, exit_by, exit_on, exit_at, exit_of}
use Rattle.definition.proofs.Steps.{true_false, none_some, some_eq}
use Rattle.definition.proofs.PlainTest.{and_left, and_right, or_left, or_right}
use Rattle.definition.proofs.Chains.{Silent, silent_goto, silent_throw, Bare, bare_branch, bare_throw, Owns, Unowned, Exits, exit_last, exit_linked}

find_sound : (bs : List Block) (p : ℕ → Terminal → Bool) (b : ℕ) → find_of bs p ≡ some b → p b (get_or bs b no_block).terminal ≡ true
find_sound [] p b h = absurd (none_some h)
find_sound (k ∷ ks) p b h = at (p 0 k.terminal) refl (find_of ks (λ n. p (suc n))) refl h (λ n q. find_sound ks (λ m. p (suc m)) n q)
  where
    at : (y : Bool) → p 0 k.terminal ≡ y → (o : Option ℕ) → find_of ks (λ n. p (suc n)) ≡ o
        → cond y (some 0) (elim o [ none ↦ none | some n ↦ some (suc n) ]) ≡ some b
        → ((n : ℕ) → find_of ks (λ m. p (suc m)) ≡ some n → p (suc n) (get_or ks n no_block).terminal ≡ true) → p b (get_or (k ∷ ks) b no_block).terminal ≡ true
    at true q o r e ih = subst (λ (z : ℕ). p z (get_or (k ∷ ks) z no_block).terminal ≡ true) (some_eq e) q
    at false q none r e ih = absurd (none_some e)
    at false q (some n) r e ih = subst (λ (z : ℕ). p z (get_or (k ∷ ks) z no_block).terminal ≡ true) (some_eq e) (ih n r)

find_some : (bs : List Block) (p : ℕ → Terminal → Bool) (b : ℕ) → ((c : ℕ) → p c no_block.terminal ≡ false) → p b (get_or bs b no_block).terminal ≡ true → find_of bs p ≡ none → ⊥
find_some [] p b n h e = true_false (sym h ∙ n b)
find_some (k ∷ ks) p b n h e = at (p 0 k.terminal) refl (find_of ks (λ m. p (suc m))) refl b h e (λ c q. find_some ks (λ m. p (suc m)) c (λ d. n (suc d)) q)
  where
    at : (y : Bool) → p 0 k.terminal ≡ y → (o : Option ℕ) → find_of ks (λ m. p (suc m)) ≡ o → (b : ℕ) → p b (get_or (k ∷ ks) b no_block).terminal ≡ true
        → cond {A = Option ℕ} y (some 0) (elim o [ none ↦ none | some m ↦ some (suc m) ]) ≡ none
        → ((c : ℕ) → p (suc c) (get_or ks c no_block).terminal ≡ true → find_of ks (λ m. p (suc m)) ≡ none → ⊥) → ⊥
    at true q o r b h e ih = none_some (sym e)
    at false q (some m) r b h e ih = none_some (sym e)
    at false q none r zero h e ih = true_false (sym h ∙ q)
    at false q none r (suc b) h e ih = ih b h r

module _ (t : Table) where
  -- ---- straight ways

  pub nothing_seen : (seen_row : ℕ → Bool) (rows : List ℕ) → ((row : ℕ) → contains rows row ≡ true → seen_row row ≡ false) → seen_rows seen_row rows ≡ []
  nothing_seen seen_row [] h = refl
  nothing_seen seen_row (r ∷ rs) h =
      ap (λ (y : Bool). cond y (r ∷ seen_rows seen_row rs) (seen_rows seen_row rs)) (h r (or_left (eqb r r) (contains rs r) (eq-eqb r r refl)))
      ∙ nothing_seen seen_row rs (λ row q. h row (or_right (eqb r row) (contains rs row) q))

  pub first_rows : (a b : List ℕ) (row : ℕ) → contains a row ≡ true → contains (a ++ b) row ≡ true
  first_rows [] b row h = absurd (true_false (sym h))
  first_rows (n ∷ a) b row h = at (eqb n row) (λ q. first_rows a b row q) h
    where
      at : (y : Bool) → (contains a row ≡ true → contains (a ++ b) row ≡ true) → y || contains a row ≡ true → y || contains (a ++ b) row ≡ true
      at true f q = refl
      at false f q = f q

  pub later_rows : (a b : List ℕ) (row : ℕ) → contains b row ≡ true → contains (a ++ b) row ≡ true
  later_rows [] b row h = h
  later_rows (n ∷ a) b row h = or_right (eqb n row) (contains (a ++ b) row) (later_rows a b row h)

  -- a straight way none of whose rows is seen
  pub silent_from : (seen_row : ℕ → Bool) (n b f : ℕ) → straight_to t n b ≡ some f → ((row : ℕ) → contains (straight_rows t n b) row ≡ true → seen_row row ≡ false) → Silent t seen_row b f
  silent_from seen_row zero b f h k = absurd (none_some h)
  silent_from seen_row (suc n) b f h k = at (terminal_at t b) refl h k (λ c q w. silent_from seen_row n c f q w)
    where
      at : (m : Terminal) → terminal_at t b ≡ m → straight_to_at t (λ next. straight_to t n next) m ≡ some f
          → ((row : ℕ) → contains (straight_rows_at t (λ next. straight_rows t n next) b m) row ≡ true → seen_row row ≡ false)
          → ((c : ℕ) → straight_to t n c ≡ some f → ((row : ℕ) → contains (straight_rows t n c) row ≡ true → seen_row row ≡ false) → Silent t seen_row c f) → Silent t seen_row b f
      at absent e q w ih = absurd (none_some q)
      at unreachable e q w ih = absurd (none_some q)
      at (throw value) e q w ih = absurd (none_some q)
      at (return value) e q w ih = absurd (none_some q)
      at (goto block variant) e q w ih = silent_goto variant (e ∙ ap (λ (z : ℕ). goto z variant) (some_eq q)) (nothing_seen seen_row (instruction_rows_at t b) w)
      at (if test consequent alternate fallthrough) e q w ih = absurd (none_some q)
      at (branch test consequent alternate) e q w ih = absurd (none_some q)
      at (switch test first number fallthrough) e q w ih = absurd (none_some q)
      at (do_while loop test fallthrough) e q w ih = absurd (none_some q)
      at (while test loop fallthrough) e q w ih = absurd (none_some q)
      at (for init test update loop fallthrough) e q w ih = absurd (none_some q)
      at (for_of init test loop fallthrough) e q w ih = absurd (none_some q)
      at (for_in init loop fallthrough) e q w ih = absurd (none_some q)
      at (logical operator test fallthrough) e q w ih = absurd (none_some q)
      at (ternary test fallthrough) e q w ih = absurd (none_some q)
      at (optional flag test fallthrough) e q w ih = absurd (none_some q)
      at (label block fallthrough) e q w ih = absurd (none_some q)
      at (sequence block fallthrough) e q w ih = absurd (none_some q)
      at (maybe_throw continuation) e q w ih =
          silent_throw continuation e (nothing_seen seen_row (instruction_rows_at t b) (λ row i. w row (first_rows (instruction_rows_at t b) (straight_rows t n continuation) row i)))
          (ih continuation q (λ row i. w row (later_rows (instruction_rows_at t b) (straight_rows t n continuation) row i)))
      at (try block handler fallthrough binding) e q w ih = absurd (none_some q)
      at (scope pruned block fallthrough number) e q w ih = absurd (none_some q)

  -- ---- chains

  pub bare_is : (n f e : ℕ) → bare t n f ≡ some (some e) → Bare t f e
  bare_is zero f e h = absurd (none_some h)
  bare_is (suc n) f e h = at (instruction_rows_at t f) refl (terminal_at t f) refl h (λ k q. bare_is n k e q)
    where
      on : (c : ℕ) (y : Bool) → is_empty_goto (block_at t c) ≡ y → instruction_rows_at t f ≡ [] → terminal_at t f ≡ maybe_throw c
          → elim y [ true ↦ some none | false ↦ bare t n c ] ≡ some (some e) → ((k : ℕ) → bare t n k ≡ some (some e) → Bare t k e) → Bare t f e
      on c true k q w h ih = absurd (none_some (some_eq h))
      on c false k q w h ih = bare_throw c w k q (ih c h)

      at : (rs : List ℕ) → instruction_rows_at t f ≡ rs → (m : Terminal) → terminal_at t f ≡ m → bare_at t (λ k. bare t n k) f rs m ≡ some (some e)
          → ((k : ℕ) → bare t n k ≡ some (some e) → Bare t k e) → Bare t f e
      at (r ∷ rs) q m w h ih = absurd (none_some (some_eq h))
      at [] q absent w h ih = absurd (none_some (some_eq h))
      at [] q unreachable w h ih = absurd (none_some (some_eq h))
      at [] q (throw value) w h ih = absurd (none_some (some_eq h))
      at [] q (return value) w h ih = absurd (none_some (some_eq h))
      at [] q (goto block variant) w h ih = absurd (none_some (some_eq h))
      at [] q (if test consequent alternate fallthrough) w h ih = absurd (none_some (some_eq h))
      at [] q (branch test consequent alternate) w h ih = subst (λ (z : ℕ). Bare t f z) (some_eq (some_eq h)) (bare_branch test consequent alternate w q)
      at [] q (switch test first number fallthrough) w h ih = absurd (none_some (some_eq h))
      at [] q (do_while loop test fallthrough) w h ih = absurd (none_some (some_eq h))
      at [] q (while test loop fallthrough) w h ih = absurd (none_some (some_eq h))
      at [] q (for init test update loop fallthrough) w h ih = absurd (none_some (some_eq h))
      at [] q (for_of init test loop fallthrough) w h ih = absurd (none_some (some_eq h))
      at [] q (for_in init loop fallthrough) w h ih = absurd (none_some (some_eq h))
      at [] q (logical operator test fallthrough) w h ih = absurd (none_some (some_eq h))
      at [] q (ternary test fallthrough) w h ih = absurd (none_some (some_eq h))
      at [] q (optional flag test fallthrough) w h ih = absurd (none_some (some_eq h))
      at [] q (label block fallthrough) w h ih = absurd (none_some (some_eq h))
      at [] q (sequence block fallthrough) w h ih = absurd (none_some (some_eq h))
      at [] q (maybe_throw continuation) w h ih = on continuation (is_empty_goto (block_at t continuation)) refl q w h ih
      at [] q (try block handler fallthrough binding) w h ih = absurd (none_some (some_eq h))
      at [] q (scope pruned block fallthrough number) w h ih = absurd (none_some (some_eq h))

  pub bare_only : (n f e : ℕ) (r : Option ℕ) → Bare t f e → bare t n f ≡ some r → r ≡ some e
  bare_only zero f e r z h = absurd (none_some h)
  bare_only (suc n) f e r (bare_branch p c d w q) h =
      sym (some_eq (sym (ap (λ (z : List ℕ). bare_at t (λ k. bare t n k) f z (terminal_at t f)) q ∙ ap (λ (z : Terminal). bare_at t (λ k. bare t n k) f [] z) w) ∙ h))
  bare_only (suc n) f e r (bare_throw c w i q z) h =
      bare_only n c e r z
      (sym (ap (λ (z : List ℕ). bare_at t (λ k. bare t n k) f z (terminal_at t f)) q ∙ ap (λ (z : Terminal). bare_at t (λ k. bare t n k) f [] z) w
      ∙ ap (λ (y : Bool). elim y [ true ↦ some none | false ↦ bare t n c ]) i) ∙ h)

  pub branch_is : (m : Terminal) → is_branch m ≡ true → (p : ℕ) × (c : ℕ) × (d : ℕ) × (m ≡ branch p c d)
  branch_is absent h = absurd (true_false (sym h))
  branch_is unreachable h = absurd (true_false (sym h))
  branch_is (throw value) h = absurd (true_false (sym h))
  branch_is (return value) h = absurd (true_false (sym h))
  branch_is (goto block variant) h = absurd (true_false (sym h))
  branch_is (if test consequent alternate fallthrough) h = absurd (true_false (sym h))
  branch_is (branch test consequent alternate) h = (test, consequent, alternate, refl)
  branch_is (switch test first number fallthrough) h = absurd (true_false (sym h))
  branch_is (do_while loop test fallthrough) h = absurd (true_false (sym h))
  branch_is (while test loop fallthrough) h = absurd (true_false (sym h))
  branch_is (for init test update loop fallthrough) h = absurd (true_false (sym h))
  branch_is (for_of init test loop fallthrough) h = absurd (true_false (sym h))
  branch_is (for_in init loop fallthrough) h = absurd (true_false (sym h))
  branch_is (logical operator test fallthrough) h = absurd (true_false (sym h))
  branch_is (ternary test fallthrough) h = absurd (true_false (sym h))
  branch_is (optional flag test fallthrough) h = absurd (true_false (sym h))
  branch_is (label block fallthrough) h = absurd (true_false (sym h))
  branch_is (sequence block fallthrough) h = absurd (true_false (sym h))
  branch_is (maybe_throw continuation) h = absurd (true_false (sym h))
  branch_is (try block handler fallthrough binding) h = absurd (true_false (sym h))
  branch_is (scope false block fallthrough number) h = absurd (true_false (sym h))
  branch_is (scope true block fallthrough number) h = absurd (true_false (sym h))

  pub owns_is : (e b : ℕ) → owns_test t e (terminal_at t b) ≡ true → Owns t e b
  owns_is e b h = at (terminal_at t b) refl h
    where
      ended : (o x f : ℕ) → terminal_at t b ≡ optional o x f → (z : Option ValueEnd) → end_of t x ≡ z → end_is t z e ≡ true → Owns t e b
      ended o x f q none k w = absurd (true_false (sym w))
      ended o x f q (some at) k w =
          let u : eqb at.end e ≡ true = and_left (eqb at.end e) (is_branch (terminal_at t at.end)) w in
          let v : is_branch (terminal_at t at.end) ≡ true = and_right (eqb at.end e) (is_branch (terminal_at t at.end)) w in
          let (p, c, d, s) = branch_is (terminal_at t at.end) v in
          let same : at.end ≡ e = eqb-true at.end e u in
          record {
            flag = o;
            test = x;
            fallthrough = f;
            holder = at.holder;
            consequent = c;
            alternate = d;
            asks = record { test = x; place = p; terminal = q; tested = refl; ends = k ∙ ap (λ (z : ℕ). some (ends_at at.holder z)) same; ways = ap (λ (z : ℕ). terminal_at t z) (sym same) ∙ s };
          }

      at : (m : Terminal) → terminal_at t b ≡ m → owns_test t e m ≡ true → Owns t e b
      at absent q h = absurd (true_false (sym h))
      at unreachable q h = absurd (true_false (sym h))
      at (throw value) q h = absurd (true_false (sym h))
      at (return value) q h = absurd (true_false (sym h))
      at (goto block variant) q h = absurd (true_false (sym h))
      at (if test consequent alternate fallthrough) q h = absurd (true_false (sym h))
      at (branch test consequent alternate) q h = absurd (true_false (sym h))
      at (switch test first number fallthrough) q h = absurd (true_false (sym h))
      at (do_while loop test fallthrough) q h = absurd (true_false (sym h))
      at (while test loop fallthrough) q h = absurd (true_false (sym h))
      at (for init test update loop fallthrough) q h = absurd (true_false (sym h))
      at (for_of init test loop fallthrough) q h = absurd (true_false (sym h))
      at (for_in init loop fallthrough) q h = absurd (true_false (sym h))
      at (logical operator test fallthrough) q h = absurd (true_false (sym h))
      at (ternary test fallthrough) q h = absurd (true_false (sym h))
      at (optional flag test fallthrough) q h = ended flag test fallthrough q (end_of t test) refl h
      at (label block fallthrough) q h = absurd (true_false (sym h))
      at (sequence block fallthrough) q h = absurd (true_false (sym h))
      at (maybe_throw continuation) q h = absurd (true_false (sym h))
      at (try block handler fallthrough binding) q h = absurd (true_false (sym h))
      at (scope pruned block fallthrough number) q h = absurd (true_false (sym h))

  pub owns_passes : (e b : ℕ) → Owns t e b → owns_test t e (terminal_at t b) ≡ true
  owns_passes e b o =
      ap (λ (z : Terminal). owns_test t e z) o.asks.terminal ∙ ap (λ (z : Option ValueEnd). end_is t z e) (ap (λ (z : ℕ). end_of t z) (some_eq o.asks.tested) ∙ o.asks.ends)
      ∙ ap (λ (y : Bool). y && is_branch (terminal_at t e)) (eq-eqb e e refl) ∙ ap is_branch o.asks.ways

  -- ---- where the tests of two Optionals do not end in one Branch

  module _ (one : (e b b' : ℕ) → owns_test t e (terminal_at t b) ≡ true → owns_test t e (terminal_at t b') ≡ true → b ≡ b') where
    owner_is : (e b : ℕ) → Owns t e b → owner t e ≡ some b
    owner_is e b o = at (owner t e) refl
      where
        at : (r : Option ℕ) → owner t e ≡ r → owner t e ≡ some b
        at none q = absurd (find_some t.blocks (λ c m. owns_test t e m) b (λ c. refl) (owns_passes e b o) q)
        at (some b') q = q ∙ ap (λ (z : ℕ). some z) (sym (one e b b' (owns_passes e b o) (find_sound t.blocks (λ c m. owns_test t e m) b' q)))

    -- the exit is one
    pub exit_only : {b x : ℕ} → Exits t b x → (n y : ℕ) → exit_of t n b ≡ some y → x ≡ y
    exit_only (exit_last o u f e k) zero y q = absurd (none_some q)
    exit_only {b} (exit_last o u f e k) (suc n) y q = at (bare t most_depth f) refl (sym (ap (λ (z : Terminal). exit_at t (λ c. exit_of t n c) z) e) ∙ q)
      where
        on : (g : ℕ) → bare t most_depth f ≡ some (some g) → (r : Option ℕ) → owner t g ≡ r → exit_by t (λ c. exit_of t n c) f r ≡ some y → f ≡ y
        on g w none s v = some_eq v
        on g w (some b') s v = absurd (k g (bare_is most_depth f g w) b' (owns_is g b' (find_sound t.blocks (λ c m. owns_test t g m) b' s)))

        at : (r : Option (Option ℕ)) → bare t most_depth f ≡ r → exit_on t (λ c. exit_of t n c) f r ≡ some y → f ≡ y
        at none w v = absurd (none_some v)
        at (some none) w v = some_eq v
        at (some (some g)) w v = on g w (owner t g) refl v
    exit_only (exit_linked o u f e b' w z s k) zero y q = absurd (none_some q)
    exit_only {b} {x} (exit_linked o u f e b' w z s k) (suc n) y q =
        at (bare t most_depth f) refl (sym (ap (λ (z : Terminal). exit_at t (λ c. exit_of t n c) z) w) ∙ q) (λ v. exit_only k n y v)
      where
        at : (r : Option (Option ℕ)) → bare t most_depth f ≡ r → exit_on t (λ c. exit_of t n c) f r ≡ some y → (exit_of t n b' ≡ some y → x ≡ y) → x ≡ y
        at none p v ih = absurd (none_some v)
        at (some none) p v ih = absurd (none_some (bare_only most_depth f e none z p))
        at (some (some g)) p v ih =
            ih (sym (ap (λ (r : Option ℕ). exit_by t (λ c. exit_of t n c) f r) (ap (λ (x : ℕ). owner t x) (some_eq (bare_only most_depth f e (some g) z p)) ∙ owner_is e b' s)) ∙ v)

    -- and there is one
    pub exit_there : (n b o u f y : ℕ) → terminal_at t b ≡ optional o u f → exit_of t n b ≡ some y → Exits t b y
    exit_there zero b o u f y e q = absurd (none_some q)
    exit_there (suc n) b o u f y e q = at (bare t most_depth f) refl (sym (ap (λ (z : Terminal). exit_at t (λ c. exit_of t n c) z) e) ∙ q) (λ b' o' u' f' e' q'. exit_there n b' o' u' f' y e' q')
      where
        last : (f ≡ y) → ((g : ℕ) → Bare t f g → Unowned t g) → Exits t b y
        last s k = subst (λ (z : ℕ). Exits t b z) s (exit_last o u f e k)

        on : (g : ℕ) → bare t most_depth f ≡ some (some g) → (r : Option ℕ) → owner t g ≡ r → exit_by t (λ c. exit_of t n c) f r ≡ some y
            → ((b' o' u' f' : ℕ) → terminal_at t b' ≡ optional o' u' f' → exit_of t n b' ≡ some y → Exits t b' y) → Exits t b y
        on g w none s v ih =
            last (some_eq v) (λ g' z b' owns.
            let same : some g ≡ some g' = bare_only most_depth f g' (some g) z w in
            none_some (sym s ∙ ap (λ (x : ℕ). owner t x) (some_eq same) ∙ owner_is g' b' owns))
        on g w (some b') s v ih =
            let owns : Owns t g b' = owns_is g b' (find_sound t.blocks (λ c m. owns_test t g m) b' s) in
            exit_linked o u f g b' e (bare_is most_depth f g w) owns (ih b' owns.flag owns.test owns.fallthrough owns.asks.terminal v)

        at : (r : Option (Option ℕ)) → bare t most_depth f ≡ r → exit_on t (λ c. exit_of t n c) f r ≡ some y
            → ((b' o' u' f' : ℕ) → terminal_at t b' ≡ optional o' u' f' → exit_of t n b' ≡ some y → Exits t b' y) → Exits t b y
        at none w v ih = absurd (none_some v)
        at (some none) w v ih = last (some_eq v) (λ g z. absurd (none_some (bare_only most_depth f g none z w)))
        at (some (some g)) w v ih = on g w (owner t g) refl v ih
