-- The renamed words are accepted by the table check where the first are, and there only.
use mathlib.Core.Path.{◌≡◌, refl, sym, ap, ◌∙◌}
use Prim.Native.Nat.{ℕ, zero, suc, ◌<◌, ◌≤◌}
use native.Mathlib.Omega.{arith}
use native.Mathlib.Decide.{ℕ_discrete}
use mathlib.Core.List.{List, [], ◌∷◌}
use mathlib.Core.Bool.{Bool, true, false, ◌||◌}
use mathlib.Core.Logic.{◌⊎◌, inl, inr}
use lib.ListN.{get_or}
use lib.Dec.{eqb, ltb}
use borrow.Author.Tests.{eqb-true, eqb-false, eq-eqb, lt-ltb}
use Rattle.table.specs.Words.{entry_word, block_count, instruction_count, case_count, place_count, identifier_count, block_word, case_word, largest}
use Rattle.table.specs.Check.{accepted, Rule, unused, row, row_or_none, fits, block, block_or_none, place, place_or_none, rules_by_code}
use Rattle.table.specs.Check.{terminal_rules, block_rules, operand_rules, instruction_rules, case_rules, checked}
use Rattle.table.specs.Promise.{Sized, Promise}
use Rattle.table.proofs.RuleLaws.{absent, present}
use Rattle.table.proofs.PromiseLaws.{promised, promise_checked, none_or_below, row_below, row_fitting}
use Rattle.renaming.specs.Renaming.{Renaming, names_by_code, names_block, renamed_if, renamed_block_row, renamed, RenamedWords}
use Rattle.renaming.proofs.Alike.{new_below}
use Rattle.renaming.proofs.WordLaws.{renamed_is, renamed_needed, undone, one_renamed}

-- ---- the renaming that undoes a renaming

pub inverse : (n : ℕ) (new old : ℕ → ℕ) → Renaming n new old → Renaming n old new
inverse n new old r = record { old_new = r.new_old; new_old = r.old_new; beyond = λ b h. sym (ap old (r.beyond b h)) ∙ r.old_new b }

-- ---- a word that fits its rule still fits it

module _ (n : ℕ) (new : ℕ → ℕ) (below : (b : ℕ) → b < n → new b < n) (none_stays : new largest ≡ largest) where
  abbrev Keeps : Rule → Type 0
  Keeps rule = (w : ℕ) → fits rule w ≡ true → fits rule (new w) ≡ true

  keep : Keeps (row n)
  keep w h = row_fitting n (new w) (below w (row_below n w h))

  or_none_lem : (rule : ℕ) (w : ℕ) → (w ≡ largest) ⊎ (w < rule) → fits (row_or_none rule) w ≡ true
  unfolding fits
  or_none_lem rule w (inl e) = rw (eq-eqb w largest e)
  or_none_lem rule w (inr l) = by (eqb w largest)
    where
      by : (y : Bool) → y || ltb w rule ≡ true
      by true = refl
      by false = lt-ltb w rule l

  keep_none : Keeps (row_or_none n)
  keep_none w h = or_none_lem n (new w) (by (none_or_below n w h))
    where
      by : (w ≡ largest) ⊎ (w < n) → (new w ≡ largest) ⊎ (new w < n)
      by (inl e) = inl (ap new e ∙ none_stays)
      by (inr l) = inr (below w l)

  -- every column that names a block has a rule that keeps its word
  abbrev Named : List Rule → List Bool → Type 0
  Named rules [] = Unit {0}
  Named [] (name ∷ names) = ⊥
  Named (rule ∷ rules) (true ∷ names) = Keeps rule × Named rules names
  Named (rule ∷ rules) (false ∷ names) = Named rules names

  named : (rules : List Rule) (names : List Bool) → Named rules names → (k w : ℕ)
      → fits (get_or rules k unused) w ≡ true → fits (get_or rules k unused) (renamed_if (get_or names k false) new w) ≡ true
  named rules [] h k w e = e
  named [] (name ∷ names) h k w e = absurd h
  named (rule ∷ rules) (true ∷ names) h zero w e = h.0 w e
  named (rule ∷ rules) (false ∷ names) h zero w e = e
  named (rule ∷ rules) (true ∷ names) h (suc k) w e = named rules names h.1 k w e
  named (rule ∷ rules) (false ∷ names) h (suc k) w e = named rules names h k w e

  -- lists in step
  data Each : List (List Rule) → List (List Bool) → Type 0 where
    ends : Each [] []
    ◌and◌ : {r : List Rule} {rs : List (List Rule)} {n : List Bool} {ns : List (List Bool)} → Named r n → Each rs ns → Each (r ∷ rs) (n ∷ ns)

  infixr 5 ◌and◌
  each : (rs : List (List Rule)) (ns : List (List Bool)) → Each rs ns → (k : ℕ) → Named (get_or rs k []) (get_or ns k [])
  each [] [] ends k = tt
  each (r ∷ rs) (n ∷ ns) (h and hs) zero = h
  each (r ∷ rs) (n ∷ ns) (h and hs) (suc k) = each rs ns hs k
  each [] (n ∷ ns) h k = elim h [ ]
  each (r ∷ rs) [] h k = elim h [ ]

module _ (new old : ℕ → ℕ) (ws : List ℕ) (p : Promise ws) (g : Renaming (block_count ws) new old) where
  few : block_count ws ≤ 1024
  few = p.sized.limited.blocks

  below : (b : ℕ) → b < block_count ws → new b < block_count ws
  below b h = new_below (block_count ws) new old g (block_count ws) (omega arith) b h

  old_below : (b : ℕ) → b < block_count ws → old b < block_count ws
  old_below b h = new_below (block_count ws) old new (inverse (block_count ws) new old g) (block_count ws) (omega arith) b h

  none_stays : new largest ≡ largest
  none_stays = g.beyond largest (omega (arith, few))

  every_code : (first code : ℕ) → Named (block_count ws) new below none_stays (terminal_rules ws code first) (get_or names_by_code code [])
  unfolding terminal_rules block block_or_none
  every_code first =
      let K : Keeps (block_count ws) new below none_stays (row (block_count ws)) = keep (block_count ws) new below none_stays in
      let N : Keeps (block_count ws) new below none_stays (row_or_none (block_count ws)) = keep_none (block_count ws) new below none_stays in
      each (block_count ws) new below none_stays (rules_by_code ws first) names_by_code
      (tt and tt and tt and tt
      and (K, tt)
      and (K, (K, (K, tt)))
      and (K, (K, tt))
      and (K, tt)
      and (K, (K, (K, tt)))
      and (K, (K, (K, tt)))
      and (K, (K, (N, (K, (K, tt)))))
      and (K, (K, (K, (K, tt))))
      and (K, (K, (K, tt)))
      and (K, (K, tt))
      and (K, (K, tt))
      and (K, (K, tt))
      and (K, (K, tt))
      and (K, (K, tt))
      and (K, tt)
      and (K, (K, (K, tt)))
      and (K, (K, tt))
      and (K, (K, tt))
      and ends)

  named_fits : (code first k w : ℕ)
      → fits (get_or (terminal_rules ws code first) k unused) w ≡ true → fits (get_or (terminal_rules ws code first) k unused) (renamed_if (names_block code k) new w) ≡ true
  unfolding names_block
  named_fits code first k w h = named (block_count ws) new below none_stays (terminal_rules ws code first) (get_or names_by_code code []) (every_code first code) k w h

  -- only a Switch's rules look at column b, and there it names no block
  first_unread : (code x y : ℕ) → (code ≡ 7 → ⊥) → terminal_rules ws code x ≡ terminal_rules ws code y
  unfolding terminal_rules
  first_unread zero x y f = refl
  first_unread (suc zero) x y f = refl
  first_unread (suc (suc zero)) x y f = refl
  first_unread (suc (suc (suc zero))) x y f = refl
  first_unread (suc (suc (suc (suc zero)))) x y f = refl
  first_unread (suc (suc (suc (suc (suc zero))))) x y f = refl
  first_unread (suc (suc (suc (suc (suc (suc zero)))))) x y f = refl
  first_unread (suc (suc (suc (suc (suc (suc (suc zero))))))) x y f = absurd (f refl)
  first_unread (suc (suc (suc (suc (suc (suc (suc (suc code)))))))) x y f = refl

  first_same : (code x : ℕ) → terminal_rules ws code (renamed_if (names_block code 1) new x) ≡ terminal_rules ws code x
  unfolding names_block
  first_same code x = elim (ℕ_discrete code 7) [ yes e ↦ rw e | no f ↦ first_unread code (renamed_if (names_block code 1) new x) x f ]

  module _ (ws' : List ℕ) (r : RenamedWords new old ws ws') where
    every_rule_same : (first : ℕ) → rules_by_code ws' first ≡ rules_by_code ws first
    unfolding block block_or_none place place_or_none
    every_rule_same first = rw (r.blocks, r.places, r.cases)

    terminal_rules_same : (code first : ℕ) → terminal_rules ws' code first ≡ terminal_rules ws code first
    unfolding terminal_rules
    terminal_rules_same code first = ap (λ (rules : List (List Rule)). get_or rules code []) (every_rule_same first)

    -- ---- a block's row

    module _ (i : ℕ) (h : i < block_count ws) where
      columns : (k : ℕ) → k < 11 → block_word ws' i k ≡ get_or (renamed_block_row new ws (old i)) k 0
      columns k l = r.block i h k l

      code_same : block_word ws' i 2 ≡ block_word ws (old i) 2
      unfolding renamed_block_row
      code_same = columns 2 (omega arith)

      ends_same : terminal_rules ws' (block_word ws' i 2) (block_word ws' i 4) ≡ terminal_rules ws (block_word ws (old i) 2) (block_word ws (old i) 4)
      unfolding renamed_block_row
      ends_same = rw (code_same, columns 4 (omega arith)) (terminal_rules_same _ _ ∙ first_same (block_word ws (old i) 2) (block_word ws (old i) 4))

      first_column : block_word ws' i 0 ≡ block_word ws (old i) 0
      unfolding renamed_block_row
      first_column = columns 0 (omega arith)

      from_column : block_word ws' i 9 ≡ block_word ws (old i) 9
      unfolding renamed_block_row
      from_column = columns 9 (omega arith)

      rules_same : block_rules ws' i ≡ block_rules ws (old i)
      rules_same = by (eqb (block_word ws (old i) 2) 0) refl
        where
          by : (y : Bool) → eqb (block_word ws (old i) 2) 0 ≡ y → block_rules ws' i ≡ block_rules ws (old i)
          by true e = rw (absent ws (old i) (eqb-true _ _ e)) (absent ws' i (code_same ∙ eqb-true _ _ e))
          by false e = rw (present ws (old i) (eqb-false _ _ e), present ws' i (λ q. eqb-false _ _ e (sym code_same ∙ q)), ends_same, first_column, from_column, r.instructions)

      fit : (k : ℕ) → k < 11 → fits (get_or (block_rules ws (old i)) k unused) (block_word ws (old i) k) ≡ true
      fit k l = p.block (old i) (old_below i h) k l

      -- of a row that is there
      present_fits : (block_word ws (old i) 2 ≡ 0 → ⊥) → (k : ℕ) → k < 11 → fits (get_or (block_rules ws (old i)) k unused) (get_or (renamed_block_row new ws (old i)) k 0) ≡ true
      unfolding renamed_block_row
      present_fits f zero l = fit 0 l
      present_fits f (suc zero) l = fit 1 l
      present_fits f (suc (suc zero)) l = fit 2 l
      present_fits f (suc (suc (suc zero))) l = rw (present ws (old i) f) (named_fits _ _ 0 _ (rw (present ws (old i) f) at (fit 3 l)))
      present_fits f (suc (suc (suc (suc zero)))) l = rw (present ws (old i) f) (named_fits _ _ 1 _ (rw (present ws (old i) f) at (fit 4 l)))
      present_fits f (suc (suc (suc (suc (suc zero))))) l = rw (present ws (old i) f) (named_fits _ _ 2 _ (rw (present ws (old i) f) at (fit 5 l)))
      present_fits f (suc (suc (suc (suc (suc (suc zero)))))) l = rw (present ws (old i) f) (named_fits _ _ 3 _ (rw (present ws (old i) f) at (fit 6 l)))
      present_fits f (suc (suc (suc (suc (suc (suc (suc zero))))))) l = rw (present ws (old i) f) (named_fits _ _ 4 _ (rw (present ws (old i) f) at (fit 7 l)))
      present_fits f (suc (suc (suc (suc (suc (suc (suc (suc zero)))))))) l = fit 8 l
      present_fits f (suc (suc (suc (suc (suc (suc (suc (suc (suc zero))))))))) l = fit 9 l
      present_fits f (suc (suc (suc (suc (suc (suc (suc (suc (suc (suc zero)))))))))) l = fit 10 l
      present_fits f (suc (suc (suc (suc (suc (suc (suc (suc (suc (suc (suc k))))))))))) l = absurd (omega arith)

      -- of a row that is 0 throughout
      absent_same : block_word ws (old i) 2 ≡ 0 → (k : ℕ) → k < 11 → get_or (renamed_block_row new ws (old i)) k 0 ≡ block_word ws (old i) k
      unfolding renamed_block_row names_block
      absent_same z zero l = refl
      absent_same z (suc zero) l = refl
      absent_same z (suc (suc zero)) l = refl
      absent_same z (suc (suc (suc zero))) l = rw z
      absent_same z (suc (suc (suc (suc zero)))) l = rw z
      absent_same z (suc (suc (suc (suc (suc zero))))) l = rw z
      absent_same z (suc (suc (suc (suc (suc (suc zero)))))) l = rw z
      absent_same z (suc (suc (suc (suc (suc (suc (suc zero))))))) l = rw z
      absent_same z (suc (suc (suc (suc (suc (suc (suc (suc zero)))))))) l = refl
      absent_same z (suc (suc (suc (suc (suc (suc (suc (suc (suc zero))))))))) l = refl
      absent_same z (suc (suc (suc (suc (suc (suc (suc (suc (suc (suc zero)))))))))) l = refl
      absent_same z (suc (suc (suc (suc (suc (suc (suc (suc (suc (suc (suc k))))))))))) l = absurd (omega arith)

      row_fits : (k : ℕ) → k < 11 → fits (get_or (block_rules ws' i) k unused) (block_word ws' i k) ≡ true
      row_fits k l = rw (rules_same, columns k l) (by (eqb (block_word ws (old i) 2) 0) refl)
        where
          by : (y : Bool) → eqb (block_word ws (old i) 2) 0 ≡ y → fits (get_or (block_rules ws (old i)) k unused) (get_or (renamed_block_row new ws (old i)) k 0) ≡ true
          by true e = rw (absent_same (eqb-true _ _ e) k l) (fit k l)
          by false e = present_fits (eqb-false _ _ e) k l

    -- ---- the others

    pub renamed_sized : Sized ws'
    renamed_sized = record {
      limited = record {
        head = omega (arith, r.long, p.sized.limited.head);
        blocks = omega (arith, r.blocks, p.sized.limited.blocks);
        instructions = omega (arith, r.instructions, p.sized.limited.instructions);
        cases = omega (arith, r.cases, p.sized.limited.cases);
        places = omega (arith, r.places, p.sized.limited.places);
        identifiers = omega (arith, r.identifiers, p.sized.limited.identifiers);
      };
      long = r.long ∙ (p.sized.long ∙ sym (renamed_needed new old ws ws' r));
    }

    instruction_rules_same : (i : ℕ) → i < instruction_count ws → instruction_rules ws' i ≡ instruction_rules ws i
    unfolding instruction_rules operand_rules place
    instruction_rules_same i h = rw (r.instruction i h 2 (omega arith), r.instruction i h 5 (omega arith), r.places)

    case_fits : (i : ℕ) → i < case_count ws → (k : ℕ) → k < 2 → fits (get_or (case_rules ws' i) k unused) (case_word ws' i k) ≡ true
    unfolding case_rules place_or_none block
    case_fits i h zero l = rw (r.places, r.case_test i h) (p.case i h 0 l)
    case_fits i h (suc zero) l = rw (r.blocks, r.case_block i h) (keep (block_count ws) new below none_stays _ (p.case i h 1 l))
    case_fits i h (suc (suc k)) l = absurd (omega arith)

    pub renamed_promise : Promise ws'
    renamed_promise = record {
      sized = renamed_sized;
      entry = rw (r.entry, r.blocks) (below (entry_word ws) p.entry);
      block = λ i h k l. row_fits i (omega (arith, h, r.blocks)) k l;
      instruction = λ i h k l.
          let q : i < instruction_count ws = omega (arith, h, r.instructions) in
          rw (instruction_rules_same i q, r.instruction i q k l) (p.instruction i q k l);
      case = λ i h k l. case_fits i (omega (arith, h, r.cases)) k l;
      place = λ i h. let q : i < place_count ws = omega (arith, h, r.places) in rw (r.place i q, r.identifiers) (p.place i q);
      identifier = λ i h. let q : i < identifier_count ws = omega (arith, h, r.identifiers) in rw (r.identifier i q) (p.identifier i q);
    }

-- ---- exactly when

module _ (new old : ℕ → ℕ) (ws : List ℕ) (s : Sized ws) (g : Renaming (block_count ws) new old) where
  stays_below : (b : ℕ) → b < block_count ws → new b < block_count ws
  stays_below b h = new_below (block_count ws) new old g (block_count ws) (omega arith) b h

  -- "The inverse .. renames every block, the entry too, to its old number in the list, and so restores the first table exactly."
  pub restored : renamed old new (renamed new old ws) ≡ ws
  restored = sym (one_renamed old new (renamed new old ws) ws (renamed old new (renamed new old ws)) back (renamed_is old new (renamed new old ws) sized) sized)
    where
      r : RenamedWords new old ws (renamed new old ws)
      r = renamed_is new old ws s

      back : RenamedWords old new (renamed new old ws) ws
      back = undone new old ws (renamed new old ws) g.old_new stays_below r

      sized : Sized (renamed new old ws)
      sized = record {
        limited = record {
          head = omega (arith, r.long, s.limited.head);
          blocks = omega (arith, r.blocks, s.limited.blocks);
          instructions = omega (arith, r.instructions, s.limited.instructions);
          cases = omega (arith, r.cases, s.limited.cases);
          places = omega (arith, r.places, s.limited.places);
          identifiers = omega (arith, r.identifiers, s.limited.identifiers);
        };
        long = r.long ∙ (s.long ∙ sym (renamed_needed new old ws (renamed new old ws) r));
      }

  pub renamed_checked : checked ws ≡ accepted → checked (renamed new old ws) ≡ accepted
  renamed_checked h = promise_checked (renamed new old ws) (renamed_promise new old ws (promised ws h) g (renamed new old ws) (renamed_is new old ws s))

pub checked_renamed : (new old : ℕ → ℕ) (ws : List ℕ) (s : Sized ws) (g : Renaming (block_count ws) new old) → checked (renamed new old ws) ≡ accepted → checked ws ≡ accepted
checked_renamed new old ws s g h =
    let ws' : List ℕ = renamed new old ws in
    let r : RenamedWords new old ws ws' = renamed_is new old ws s in
    let q : Promise ws' = promised ws' h in
    let g' : Renaming (block_count ws') old new = rw r.blocks (inverse (block_count ws) new old g) in
    rw (restored new old ws s g) at (renamed_checked old new ws' q.sized g' h)
