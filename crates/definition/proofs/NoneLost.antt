-- Of a wide plain table: no block of it leads to an Unreachable one, so that no run that begins at the entry comes to one. For proofs/LawOfValues: a scope's list
-- never completes normally where the scope's fallthrough is Unreachable.
use mathlib.Core.Path.{◌≡◌, refl, sym, ◌∙◌, subst}
use mathlib.Core.Logic.{◌⊎◌, inl, inr}
use Prim.Native.Nat.{ℕ, zero, suc}
use native.Mathlib.Omega.{arith}
use mathlib.Core.List.{List, [], ◌∷◌}
use mathlib.Core.Bool.{Bool, true, false, cond}
use lib.Dec.{eqb}
use borrow.Author.Tests.{eqb-true, eq-eqb}
use Rattle.table.specs.Table.{Table, Case, Terminal, absent, unreachable, throw, return, goto, if, branch, switch, do_while, while, for, for_of, for_in, logical}
use Rattle.table.specs.Table.{ternary, optional, label, sequence, maybe_throw, try, scope, is_unreachable, block_at, terminal_at}
use Rattle.definition.specs.Run.{Answers, Reason}
use Rattle.definition.specs.BlockRun.{go, halt, by_answer, case_list, at_place, by_place, move}
use Rattle.definition.specs.Completion.{contains}
use Rattle.definition.specs.Statement.{cases_last_first}
use Rattle.definition.specs.Plain.{Width, blocks_of, All}
use Rattle.definition.specs.PlainLoops.{drop_own, proper_blocks_of, Reached}
use Rattle.definition.proofs.PlainEnough.{or_left, or_right, either_or, or_false, from_reverse}
use Rattle.definition.proofs.Semantics.{in_whole_order}
use Rattle.definition.specs.WideLoops.{WideLoops, wide_entered_by}
use Rattle.definition.specs.WideRun.{wide_move}
use Rattle.definition.proofs.Arrive.{NoneLost}

go_block : {b b' : ℕ} {a a' : Answers} → go b a ≡ go b' a' → b ≡ b'
go_block e = cc

halt_goes : {b : ℕ} {a : Answers} {r : Reason} → halt r ≡ go b a → ⊥
halt_goes e = let z : ◌≡◌ {A = ℕ} 0 1 = cc in omega arith

-- a case is the fallthrough, or not left out
drop_or : (f : ℕ) (cases : List Case) (k : ℕ) → contains (blocks_of cases) k ≡ true → (contains (blocks_of (drop_own f cases)) k ≡ true) ⊎ (f ≡ k)
drop_or f [] k h = inl h
drop_or f (c ∷ cs) k h = at (eqb c.block f) refl (λ q. drop_or f cs k q)
  where
    at : (y : Bool) → eqb c.block f ≡ y → (contains (blocks_of cs) k ≡ true → (contains (blocks_of (drop_own f cs)) k ≡ true) ⊎ (f ≡ k))
        → (contains (blocks_of (cond y (drop_own f cs) (c ∷ cs))) k ≡ true) ⊎ (f ≡ k)
    at false e more = inl h
    at true e more =
        either_or (eqb c.block k) (contains (blocks_of cs) k) h (λ q. inr (sym (eqb-true c.block f e) ∙ eqb-true c.block k q)) more

at_place_in : (cases : List Case) (place : ℕ) (answers : Answers) (b : ℕ) (left : Answers) → at_place cases place answers ≡ go b left → contains (blocks_of cases) b ≡ true
unfolding at_place
at_place_in [] place answers b left e = absurd (halt_goes e)
at_place_in (c ∷ cs) zero answers b left e = or_left (eqb c.block b) (contains (blocks_of cs) b) (eq-eqb c.block b (go_block e))
at_place_in (c ∷ cs) (suc place) answers b left e = or_right (eqb c.block b) (contains (blocks_of cs) b) (at_place_in cs place answers b left e)

module _ {width : Width} (t : Table) (pl : WideLoops width t) where
  by_answer_lem : (c a : ℕ) → Reached t c → Reached t a → (answers : Answers) (b : ℕ) (left : Answers) → by_answer c a answers ≡ go b left → Reached t b
  unfolding by_answer
  by_answer_lem c a rc ra [] b left e = absurd (halt_goes e)
  by_answer_lem c a rc ra (zero ∷ answers) b left e = subst (λ (z : ℕ). Reached t z) (go_block e) ra
  by_answer_lem c a rc ra (suc n ∷ answers) b left e = subst (λ (z : ℕ). Reached t z) (go_block e) rc

  -- a case block is reached; so is one that is the Switch's own fallthrough, as an Unreachable fallthrough is no case
  case_in : (b x i n f k : ℕ) → terminal_at t b ≡ switch x i n f → contains (blocks_of (cases_last_first t i n)) k ≡ true → Reached t k
  case_in b x i n f k e h = elim (drop_or f (cases_last_first t i n) k h) [
    | inl q ↦ proper q
    | inr q ↦ own (is_unreachable (terminal_at t k)) refl q
  ]
    where
      proper : contains (blocks_of (drop_own f (cases_last_first t i n))) k ≡ true → Reached t k
      proper q = pl.case_reached k (record { of = b; among = subst (λ (m : Terminal). contains (proper_blocks_of t m) k ≡ true) (sym e) q })

      own : (y : Bool) → is_unreachable (terminal_at t k) ≡ y → f ≡ k → is_unreachable (terminal_at t k) ≡ false
      own false z q = z
      own true z q =
          proper (subst (λ (cs : List Case). contains (blocks_of cs) k ≡ true)
          (sym (pl.open_cases b x i n f e (subst (λ (m : ℕ). is_unreachable (terminal_at t m) ≡ true) (sym q) z))) h)

  by_place_lem : (b x i n f : ℕ) → terminal_at t b ≡ switch x i n f → (answers : Answers) (k : ℕ) (left : Answers) → by_place (case_list t i n) answers ≡ go k left → Reached t k
  unfolding by_place
  by_place_lem b x i n f e [] k left h = absurd (halt_goes h)
  by_place_lem b x i n f e (place ∷ answers) k left h =
      case_in b x i n f k e (or_false (contains (blocks_of (cases_last_first t i n)) k) (from_reverse (cases_last_first t i n) [] k
      (subst (λ (cs : List Case). contains (blocks_of cs) k ≡ true) (sym (in_whole_order t i n)) (at_place_in (case_list t i n) place answers k left h))))

  entered : (b : ℕ) (m : Terminal) → terminal_at t b ≡ m → All (Reached t) (wide_entered_by m)
  entered b m e = subst (λ (z : Terminal). All (Reached t) (wide_entered_by z)) e (pl.entered b)

  moves_to : (b : ℕ) (m : Terminal) → terminal_at t b ≡ m → (id : ℕ) (answers : Answers) (k : ℕ) (left : Answers) → wide_move t m id answers ≡ go k left → Reached t k
  unfolding wide_move move
  moves_to b absent e id answers k left h = absurd (halt_goes h)
  moves_to b unreachable e id answers k left h = absurd (halt_goes h)
  moves_to b (throw v) e id answers k left h = absurd (halt_goes h)
  moves_to b (return v) e id answers k left h = absurd (halt_goes h)
  moves_to b (for_of i x l f) e id answers k left h = absurd (halt_goes h)
  moves_to b (for_in i l f) e id answers k left h = absurd (halt_goes h)
  moves_to b (logical op x f) e id answers k left h = subst (λ (z : ℕ). Reached t z) (go_block h) (entered b (logical op x f) e).0
  moves_to b (ternary x f) e id answers k left h = subst (λ (z : ℕ). Reached t z) (go_block h) (entered b (ternary x f) e).0
  moves_to b (optional g x f) e id answers k left h = subst (λ (z : ℕ). Reached t z) (go_block h) (entered b (optional g x f) e).0
  moves_to b (sequence x f) e id answers k left h = subst (λ (z : ℕ). Reached t z) (go_block h) (entered b (sequence x f) e).0
  moves_to b (maybe_throw n) e id answers k left h = subst (λ (z : ℕ). Reached t z) (go_block h) (entered b (maybe_throw n) e).0
  moves_to b (try x y f n) e id answers k left h = absurd (halt_goes h)
  moves_to b (goto g v) e id answers k left h = let p : All (Reached t) (g ∷ []) = entered b (goto g v) e in subst (λ (z : ℕ). Reached t z) (go_block h) p.0
  moves_to b (if x y a f) e id answers k left h = let p : All (Reached t) (y ∷ a ∷ []) = entered b (if x y a f) e in by_answer_lem y a p.0 p.1.0 answers k left h
  moves_to b (branch x y a) e id answers k left h = let p : All (Reached t) (y ∷ a ∷ []) = entered b (branch x y a) e in by_answer_lem y a p.0 p.1.0 answers k left h
  moves_to b (switch x i n f) e id answers k left h = by_place_lem b x i n f e answers k left h
  moves_to b (do_while l x f) e id answers k left h = subst (λ (z : ℕ). Reached t z) (go_block h) (entered b (do_while l x f) e).0
  moves_to b (while x l f) e id answers k left h = subst (λ (z : ℕ). Reached t z) (go_block h) (entered b (while x l f) e).0
  moves_to b (for i x u l f) e id answers k left h = subst (λ (z : ℕ). Reached t z) (go_block h) (entered b (for i x u l f) e).0
  moves_to b (label x f) e id answers k left h = subst (λ (z : ℕ). Reached t z) (go_block h) (entered b (label x f) e).0
  moves_to b (scope p x f n) e id answers k left h = subst (λ (z : ℕ). Reached t z) (go_block h) (entered b (scope p x f n) e).0

  pub none_lost : (seen_row : ℕ → Bool) → NoneLost t seen_row
  none_lost seen_row b answers k left e = moves_to b (terminal_at t b) refl (block_at t b).id answers k left e
