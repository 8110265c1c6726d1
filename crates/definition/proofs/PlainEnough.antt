-- What the run law needs of a plain table, of either width. It is less than paper 01 and M-113 ask: that some While names each Branch block (`branches`), and
-- no second one (`one_while`), is used but for case blocks, which are no Branch blocks; that the cases of a Switch differ (`cases_differ`) and are no loop
-- blocks (`case_loop`) is used nowhere. For proofs/Law and what it rests on.
use mathlib.Core.Path.{◌≡◌, refl, sym, ap, ◌∙◌, subst}
use Prim.Native.Nat.{ℕ}
use mathlib.Core.Option.{Option, some}
use mathlib.Core.List.{List, [], ◌∷◌, reverse_aux}
use lib.ListN.{take, drop}
use mathlib.Core.Bool.{Bool, true, false, ◌||◌, cond}
use lib.Dec.{eqb}
use Rattle.table.specs.Table.{Table, Case, Operation, other, load_local, store_local}
use Rattle.table.specs.Table.{Terminal, absent, unreachable, throw, return, goto, if, branch, switch, do_while, while, for, for_of, for_in, logical}
use Rattle.table.specs.Table.{ternary, optional, label, sequence, maybe_throw, try, scope, code_of, is_unreachable, terminal_at, instruction_at, instruction_rows_at}
use Rattle.definition.specs.Completion.{contains}
use Rattle.definition.specs.Plain.{Width, paper_01, with_switch, Plain, IsCase, blocks_of, case_blocks_of, paper_codes, plain_codes, other_names, is_branch, is_store, ends_in_store, NotBranch, All}
use Rattle.definition.specs.PlainLoops.{Loop, new_loop, loop_of, ends_in_unnamed, loop_codes, drop_own, proper_blocks_of, IsProper, Reached, entered_by, PlainLoops}
use Rattle.definition.specs.Value.{stored_to_named}
use Rattle.definition.specs.BlockRun.{case_list}
use Rattle.definition.specs.Statement.{cases_last_first}
use Rattle.definition.proofs.Steps.{true_false, none_some, some_eq}

-- ---- M-113 widens paper 01

-- what paper 01 has is among what M-113 has
pub wide_codes : (width : Width) (code : ℕ) → contains (plain_codes width) code ≡ true → contains (plain_codes with_switch) code ≡ true
wide_codes paper_01 code h = or (eqb 7 code)
  where
    or : (y : Bool) → y || contains (plain_codes paper_01) code ≡ true
    or true = refl
    or false = h
wide_codes with_switch code h = h

pub plain_widens : (t : Table) → Plain paper_01 t → Plain with_switch t
plain_widens t pl = record {
  ends = λ b. wide_codes paper_01 (code_of (terminal_at t b)) (pl.ends b);
  no_goto_try = pl.no_goto_try;
  tests = pl.tests;
  entry = pl.entry;
  branches = pl.branches;
  one_while = pl.one_while;
  names = pl.names;
  no_store = pl.no_store;
  one_fallthrough = pl.one_fallthrough;
  no_loop = pl.no_loop;
  no_test = pl.no_test;
  cases_differ = pl.cases_differ;
  case_fallthrough = pl.case_fallthrough;
  case_loop = pl.case_loop;
  case_test = pl.case_test;
  case_goto = pl.case_goto;
}

-- ---- what is used

pub wide_enough : (width : Width) (code : ℕ) → contains (loop_codes width) code ≡ true → contains (loop_codes with_switch) code ≡ true
wide_enough paper_01 code h = or (eqb 7 code)
  where
    or : (y : Bool) → y || contains (loop_codes paper_01) code ≡ true
    or true = refl
    or false = h
wide_enough with_switch code h = h

-- what is used is what `PlainLoops` says
abbrev pub PlainEnough : Width → Table → Type 0
PlainEnough width t = PlainLoops width t

-- a case block is no While's test, so no Branch
not_branch : {width : Width} (t : Table) → Plain width t → (k : ℕ) → IsCase t k → NotBranch t k
not_branch t pl k c = at (terminal_at t k) refl
  where
    at : (m : Terminal) → terminal_at t k ≡ m → is_branch m ≡ false
    at absent e = refl
    at unreachable e = refl
    at (throw v) e = refl
    at (return v) e = refl
    at (goto g v) e = refl
    at (if x y a f) e = refl
    at (branch x y a) e = let (w, q) = pl.branches k x y a e in absurd (pl.case_test w k y a q c)
    at (switch x i n f) e = refl
    at (do_while l x f) e = refl
    at (while x l f) e = refl
    at (for i x u l f) e = refl
    at (for_of i x l f) e = refl
    at (for_in i l f) e = refl
    at (logical op x f) e = refl
    at (ternary x f) e = refl
    at (optional g x f) e = refl
    at (label x f) e = refl
    at (sequence x f) e = refl
    at (maybe_throw n) e = refl
    at (try x y f n) e = refl
    at (scope false x f n) e = refl
    at (scope true x f n) e = refl

-- a proper case is a case
pub or_left : (x y : Bool) → x ≡ true → x || y ≡ true
or_left true y h = refl
or_left false y h = absurd (true_false (sym h))

pub or_right : (x y : Bool) → y ≡ true → x || y ≡ true
or_right true y h = refl
or_right false y h = h

pub either_or : {P : Type 0} (x y : Bool) → x || y ≡ true → (x ≡ true → P) → (y ≡ true → P) → P
either_or true y h f g = f refl
either_or false y h f g = g h

from_drop : (f : ℕ) (ks : List Case) (k : ℕ) → contains (blocks_of (drop_own f ks)) k ≡ true → contains (blocks_of ks) k ≡ true
from_drop f [] k h = h
from_drop f (c ∷ ks) k h = at (eqb c.block f) (λ e. from_drop f ks k e) h
  where
    at : (y : Bool) → (contains (blocks_of (drop_own f ks)) k ≡ true → contains (blocks_of ks) k ≡ true)
        → contains (blocks_of (cond y (drop_own f ks) (c ∷ ks))) k ≡ true → contains (blocks_of (c ∷ ks)) k ≡ true
    at true ih e = or_right (eqb c.block k) (contains (blocks_of ks) k) (ih e)
    at false ih e = e

pub from_reverse : (ks later : List Case) (k : ℕ) → contains (blocks_of (reverse_aux ks later)) k ≡ true → contains (blocks_of ks) k || contains (blocks_of later) k ≡ true
from_reverse [] later k h = h
from_reverse (c ∷ ks) later k h =
    either_or (contains (blocks_of ks) k) (eqb c.block k || contains (blocks_of later) k) (from_reverse ks (c ∷ later) k h)
    (λ e. or_left (eqb c.block k || contains (blocks_of ks) k) (contains (blocks_of later) k) (or_right (eqb c.block k) (contains (blocks_of ks) k) e))
    (λ e. either_or (eqb c.block k) (contains (blocks_of later) k) e
    (λ e₁. or_left (eqb c.block k || contains (blocks_of ks) k) (contains (blocks_of later) k) (or_left (eqb c.block k) (contains (blocks_of ks) k) e₁))
    (λ e₁. or_right (eqb c.block k || contains (blocks_of ks) k) (contains (blocks_of later) k) e₁))

pub or_false : (x : Bool) → x || false ≡ true → x ≡ true
or_false true h = refl
or_false false h = h

in_list : (t : Table) (i n k : ℕ) → contains (blocks_of (cases_last_first t i n)) k ≡ true → contains (blocks_of (case_list t i n)) k ≡ true
unfolding cases_last_first case_list
in_list t i n k e = or_false (contains (blocks_of (take n (drop i t.cases))) k) (from_reverse (take n (drop i t.cases)) [] k e)

proper_of : (t : Table) (m : Terminal) (k : ℕ) → contains (proper_blocks_of t m) k ≡ true → contains (case_blocks_of t m) k ≡ true
proper_of t absent k h = h
proper_of t unreachable k h = h
proper_of t (throw v) k h = h
proper_of t (return v) k h = h
proper_of t (goto g v) k h = h
proper_of t (if x y a f) k h = h
proper_of t (branch x y a) k h = h
proper_of t (switch x i n f) k h = in_list t i n k (from_drop f (cases_last_first t i n) k h)
proper_of t (do_while l x f) k h = h
proper_of t (while x l f) k h = h
proper_of t (for i x u l f) k h = h
proper_of t (for_of i x l f) k h = h
proper_of t (for_in i l f) k h = h
proper_of t (logical op x f) k h = h
proper_of t (ternary x f) k h = h
proper_of t (optional g x f) k h = h
proper_of t (label x f) k h = h
proper_of t (sequence x f) k h = h
proper_of t (maybe_throw n) k h = h
proper_of t (try x y f n) k h = h
proper_of t (scope p x f n) k h = h

proper_case : (t : Table) (k : ℕ) → IsProper t k → IsCase t k
proper_case t k c = record { of = c.of; among = proper_of t (terminal_at t c.of) k c.among }

-- its loops are Whiles
only_while : (m : Terminal) (loop : Loop) → contains (plain_codes with_switch) (code_of m) ≡ true → loop_of m ≡ some loop
    → (m ≡ while loop.test loop.body loop.fallthrough) × (loop.again ≡ loop.test)
only_while absent loop h e = absurd (none_some e)
only_while unreachable loop h e = absurd (none_some e)
only_while (throw v) loop h e = absurd (none_some e)
only_while (return v) loop h e = absurd (none_some e)
only_while (goto g v) loop h e = absurd (none_some e)
only_while (if x y a f) loop h e = absurd (none_some e)
only_while (branch x y a) loop h e = absurd (none_some e)
only_while (switch x i n f) loop h e = absurd (none_some e)
only_while (do_while l x f) loop h e = absurd (true_false (sym h))
only_while (while x l f) loop h e =
    (ap (λ (z : Loop). while z.test z.body z.fallthrough) (some_eq e), subst (λ (z : Loop). z.again ≡ z.test) (some_eq e) refl)
only_while (for i x u l f) loop h e = absurd (true_false (sym h))
only_while (for_of i x l f) loop h e = absurd (none_some e)
only_while (for_in i l f) loop h e = absurd (none_some e)
only_while (logical op x f) loop h e = absurd (none_some e)
only_while (ternary x f) loop h e = absurd (none_some e)
only_while (optional g x f) loop h e = absurd (none_some e)
only_while (label x f) loop h e = absurd (none_some e)
only_while (sequence x f) loop h e = absurd (none_some e)
only_while (maybe_throw n) loop h e = absurd (none_some e)
only_while (try x y f n) loop h e = absurd (none_some e)
only_while (scope p x f n) loop h e = absurd (none_some e)

-- what ends in no StoreLocal ends in none to an unnamed identifier
no_unnamed : (t : Table) (o : Operation) → is_store o ≡ false → eqb (stored_to_named t o) 0 ≡ false
unfolding stored_to_named
no_unnamed t other h = refl
no_unnamed t (load_local p) h = refl
no_unnamed t (store_local p q) h = absurd (true_false h)

ends_no_unnamed : (t : Table) (rows : List ℕ) → ends_in_store t rows ≡ false → ends_in_unnamed t rows ≡ false
ends_no_unnamed t [] h = refl
ends_no_unnamed t (row ∷ []) h = no_unnamed t (instruction_at t row).operation h
ends_no_unnamed t (row ∷ next ∷ rows) h = ends_no_unnamed t (next ∷ rows) h

pub more_codes : (width : Width) (code : ℕ) → contains (plain_codes width) code ≡ true → contains (loop_codes width) code ≡ true
more_codes paper_01 code h = or (eqb 8 code) (eqb 10 code) (eqb 1 code)
  where
    or : (x y z : Bool) → x || (y || (z || contains paper_codes code)) ≡ true
    or true y z = refl
    or false true z = refl
    or false false true = refl
    or false false false = h
more_codes with_switch code h = or (eqb 7 code) (eqb 8 code) (eqb 10 code) (eqb 1 code) (contains paper_codes code) h
  where
    or : (x y z v w : Bool) → x || w ≡ true → x || (y || (z || (v || w))) ≡ true
    or true y z v w h = refl
    or false true z v w h = refl
    or false false true v w h = refl
    or false false false true w h = refl
    or false false false false w h = h

-- it has no Unreachable block
plain_reachable : (m : Terminal) → contains (plain_codes with_switch) (code_of m) ≡ true → is_unreachable m ≡ false
plain_reachable absent h = refl
plain_reachable unreachable h = absurd (true_false (sym h))
plain_reachable (throw v) h = refl
plain_reachable (return v) h = refl
plain_reachable (goto g v) h = refl
plain_reachable (if x c a f) h = refl
plain_reachable (branch x c a) h = refl
plain_reachable (switch x i n f) h = refl
plain_reachable (do_while l x f) h = refl
plain_reachable (while x l f) h = refl
plain_reachable (for i x u l f) h = refl
plain_reachable (for_of i x l f) h = refl
plain_reachable (for_in i l f) h = refl
plain_reachable (logical o x f) h = refl
plain_reachable (ternary x f) h = refl
plain_reachable (optional g x f) h = refl
plain_reachable (label b f) h = refl
plain_reachable (sequence b f) h = refl
plain_reachable (maybe_throw k) h = refl
plain_reachable (try b h' f n) h = refl
plain_reachable (scope false b f s) h = refl
plain_reachable (scope true b f s) h = refl

pub plain_enough : {width : Width} (t : Table) → Plain width t → PlainEnough width t
plain_enough {width} t pl = record {
  ends = λ b. more_codes width (code_of (terminal_at t b)) (pl.ends b);
  no_goto_try = pl.no_goto_try;
  tests = λ b x l f k e. pl.tests b x l f (the_while b (new_loop x l f k) e).0;
  inits = λ b i x u l f e. absurd (no_for b i x u l f e);
  updates = λ b i x u l f e. absurd (no_for b i x (some u) l f e);
  entry = pl.entry;
  names = pl.names;
  bodies = λ b x l f k e. bodies b x l f (the_while b (new_loop x l f k) e).0;
  test_store = λ b x y a e. ends_no_unnamed t (instruction_rows_at t b) (pl.no_store b x y a e);
  init_store = λ b i x u l f e. absurd (no_for b i x u l f e);
  init_load = λ b i x u l f e. absurd (no_for b i x u l f e);
  update_store = λ b i x u l f e. absurd (no_for b i x (some u) l f e);
  one_fallthrough = pl.one_fallthrough;
  no_loop = λ b f w x l g k e q h. pl.no_loop b f w x l g e (the_while w (new_loop x l g k) q).0 h;
  no_again = λ b f w x l g k e q h. pl.no_test b f w x l g e (the_while w (new_loop x l g k) q).0 (subst (λ (z : ℕ). f ≡ z) (the_while w (new_loop x l g k) q).1 h);
  case_fallthrough = λ b k e c. pl.case_fallthrough b k e (proper_case t k c);
  case_not_branch = λ k c. not_branch t pl k (proper_case t k c);
  entry_reached = reached t.entry;
  entered = λ b. all (entered_by (terminal_at t b));
  case_reached = λ k c. reached k;
  open_ends = λ b f e h. absurd (true_false (sym h ∙ reached f));
  open_cases = λ b x i n f e h. absurd (true_false (sym h ∙ reached f));
}
  where
    the_while : (b : ℕ) (loop : Loop) → loop_of (terminal_at t b) ≡ some loop → (terminal_at t b ≡ while loop.test loop.body loop.fallthrough) × (loop.again ≡ loop.test)
    the_while b loop e = only_while (terminal_at t b) loop (wide_codes width (code_of (terminal_at t b)) (pl.ends b)) e

    reached : (b : ℕ) → Reached t b
    reached b = plain_reachable (terminal_at t b) (wide_codes width (code_of (terminal_at t b)) (pl.ends b))

    all : (bs : List ℕ) → All (Reached t) bs
    all [] = tt
    all (b ∷ bs) = (reached b, all bs)

    no_for : (b i x : ℕ) (u : Option ℕ) (l f : ℕ) → terminal_at t b ≡ for i x u l f → ⊥
    no_for b i x u l f e = true_false (sym (wide_codes width (code_of (terminal_at t b)) (pl.ends b)) ∙ ap (λ (m : Terminal). contains (plain_codes with_switch) (code_of m)) e)

    bodies : (b x l f : ℕ) → terminal_at t b ≡ while x l f → NotBranch t l × NotBranch t f
    bodies b x l f e =
        let parts : All (NotBranch t) (other_names (while x l f)) = subst (λ (m : Terminal). All (NotBranch t) (other_names m)) e (pl.names b) in
        (parts.0, parts.1.0)
