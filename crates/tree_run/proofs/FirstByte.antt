-- `file_given` reads just the good files, and the place that it stops at is the first byte no good file could have there, or the file's length.
use mathlib.Core.Path.{◌≡◌, refl, sym, ap, ◌∙◌, subst}
use Prim.Native.Nat.{ℕ, zero, suc, ◌+◌, ◌-◌, ◌/◌, ◌%◌, ◌<◌, ◌≤◌}
use native.Mathlib.Omega.{arith}
use mathlib.Core.List.{List, [], ◌∷◌, ◌++◌, append-nil, append_assoc}
use mathlib.Core.Bool.{Bool, true, false, ◌&&◌}
use lib.ListN.{length, take, drop, length-append, length-drop, take-append-drop}
use lib.Seq.{take_at, drop_at, take-add, take-append-le, take-take, length-take-le}
use lib.Dec.{eqb, leb, ltb}
use borrow.Author.Tests.{ne_eqb, ltb-true, ltb-false, leb-false}
use Rattle.text.specs.Decimal.{decimal}
use Rattle.text.specs.Line.{after, line, lines, flat}
use Rattle.text.specs.Printed.{tree_names}
use Rattle.text.proofs.DecimalLaws.{decimal_small, decimal_more}
use Rattle.tree_check.specs.Scan.{Scanned, words, table_words, file_words}
use Rattle.tree_check.specs.Scan as scan
use Rattle.tree_check.specs.Good.{TableFile, RefusedAt}
use Rattle.tree_check.proofs.FirstByte.{good_read, read_good, refused_first}
use Rattle.tree_run.specs.Given.{stopped, read, answer_names, opens_answers, answers_from, joined, file_given}
use Rattle.tree_run.specs.Good.{RunFile}

stopped_read : {at : ℕ} {rows answers : List ℕ} → stopped at ≡ read rows answers → ⊥
stopped_read e = let z : ◌≡◌ {A = ℕ} 0 1 = cc in omega arith

true_false : true ≡ false → ⊥
true_false e = let z : ◌≡◌ {A = ℕ} 0 1 = cc in omega arith

-- ---- no row has an `a`

abbrev NoA : List ℕ → Type 0
NoA [] = Unit {0}
NoA (byte ∷ bytes) = (byte ≡ 97 → ⊥) × NoA bytes

no_a_both : (a b : List ℕ) → NoA a → NoA b → NoA (a ++ b)
no_a_both [] b h k = k
no_a_both (x ∷ a) b h k = (h.0, no_a_both a b h.1 k)

decimal_free : (steps n : ℕ) → n ≤ steps → NoA (decimal n)
decimal_free zero n h = subst NoA (sym (decimal_small n (omega arith))) ((λ z. omega (arith, z)), tt)
decimal_free (suc steps) n h = by (ltb n 10) refl (λ q. decimal_free steps (n / 10) q)
  where
    by : (y : Bool) → ltb n 10 ≡ y → (n / 10 ≤ steps → NoA (decimal (n / 10))) → NoA (decimal n)
    by true e on = let small : n < 10 = ltb-true n 10 e in subst NoA (sym (decimal_small n small)) ((λ z. omega (arith, z)), tt)
    by false e on =
        let large : 10 ≤ n = ltb-false n 10 e in
        subst NoA (sym (decimal_more n large)) (no_a_both (decimal (n / 10)) ((48 + n % 10) ∷ []) (on (omega arith)) ((λ z. omega (arith, z)), tt))

after_free : (ns : List ℕ) → after ns ≡ 97 → ⊥
after_free [] z = omega (arith, z)
after_free (n ∷ ns) z = omega (arith, z)

line_free : (ns : List ℕ) → NoA (line ns)
unfolding line
line_free [] = tt
line_free (n ∷ ns) = no_a_both (decimal n) (after ns ∷ line ns) (decimal_free n n (omega arith)) (after_free ns, line_free ns)

lines_free : (rows : List (List ℕ)) → NoA (lines rows)
unfolding lines
lines_free [] = tt
lines_free (row ∷ rows) = no_a_both (line row) (lines rows) (line_free row) (lines_free rows)

-- ---- where the answers begin

-- from a place on no byte opens them
abbrev Shut : (at : ℕ) → List ℕ → Type 0
Shut at [] = Unit {0}
Shut at (byte ∷ bytes) = (opens_answers at byte ≡ false) × Shut (suc at) bytes

-- the next byte, if there is one, opens them
abbrev Opens : (at : ℕ) → List ℕ → Type 0
Opens at [] = Unit {0}
Opens at (byte ∷ bytes) = opens_answers at byte ≡ true

not_open : (at byte : ℕ) → (byte ≡ 97 → ⊥) → opens_answers at byte ≡ false
not_open at byte f = by (leb 13 at)
  where
    by : (y : Bool) → y && eqb byte 97 ≡ false
    by true = ne_eqb byte 97 f
    by false = refl

no_a_shut : (at : ℕ) (bytes : List ℕ) → NoA bytes → Shut at bytes
no_a_shut at [] h = tt
no_a_shut at (byte ∷ bytes) h = (not_open at byte h.0, no_a_shut (suc at) bytes h.1)

shut_both : (at middle : ℕ) (a b : List ℕ) → at + length a ≡ middle → Shut at a → Shut middle b → Shut at (a ++ b)
shut_both at middle [] b e h k = let z : middle ≡ at = omega (arith, e) in subst (λ (n : ℕ). Shut n b) z k
shut_both at middle (x ∷ a) b e h k = (h.0, shut_both (suc at) middle a b (omega (arith, e)) h.1 k)

rows_shut : (rows : List (List ℕ)) → Shut 0 (tree_names ++ lines rows)
rows_shut rows =
    shut_both 0 13 tree_names (lines rows) refl (refl, (refl, (refl, (refl, (refl, (refl, (refl, (refl, (refl, (refl, (refl, (refl, (refl, tt)))))))))))))
    (no_a_shut 13 (lines rows) (lines_free rows))

begins_after : (at n : ℕ) (first second : List ℕ) → at + length first ≡ n → Shut at first → Opens n second → answers_from at (first ++ second) ≡ n
unfolding answers_from
begins_after at n [] [] e s o = omega (arith, e)
begins_after at n [] (byte ∷ second) e s o =
    let z : n ≡ at = omega (arith, e) in
    let here : opens_answers at byte ≡ true = subst (λ (k : ℕ). opens_answers k byte ≡ true) z o in
    ap (λ (y : Bool). elim y [ true ↦ at | false ↦ answers_from (suc at) second ]) here ∙ sym z
begins_after at n (byte ∷ first) second e s o =
    ap (λ (y : Bool). elim y [ true ↦ at | false ↦ answers_from (suc at) (first ++ second) ]) s.0 ∙ begins_after (suc at) n first second (omega (arith, e)) s.1 o

-- in any file: not before the place, and not behind its end
from_within : (at : ℕ) (bytes : List ℕ) → (at ≤ answers_from at bytes) × (answers_from at bytes ≤ at + length bytes)
unfolding answers_from
from_within at [] = (omega arith, omega arith)
from_within at (byte ∷ bytes) = by (from_within (suc at) bytes) (opens_answers at byte)
  where
    by : (suc at ≤ answers_from (suc at) bytes) × (answers_from (suc at) bytes ≤ suc at + length bytes) → (y : Bool)
        → (at ≤ elim y [ true ↦ at | false ↦ answers_from (suc at) bytes ]) × (elim y [ true ↦ at | false ↦ answers_from (suc at) bytes ] ≤ at + suc (length bytes))
    by h true = (omega arith, omega arith)
    by h false = (omega (arith, h.0), omega (arith, h.1))

-- a file that begins with the same bytes has the same place, if it lies among them
same_place : (at k : ℕ) (bytes rest : List ℕ) → answers_from at bytes < at + k → answers_from at bytes < at + length bytes → answers_from at (take k bytes ++ rest) ≡ answers_from at bytes
unfolding answers_from
same_place at k [] rest h l = absurd (omega (arith, l))
same_place at zero (byte ∷ bytes) rest h l = absurd (omega (arith, h, (from_within at (byte ∷ bytes)).0))
same_place at (suc k) (byte ∷ bytes) rest h l = by (λ p q. same_place (suc at) k bytes rest p q) (opens_answers at byte) h l
  where
    by : (answers_from (suc at) bytes < suc at + k → answers_from (suc at) bytes < suc at + length bytes → answers_from (suc at) (take k bytes ++ rest) ≡ answers_from (suc at) bytes)
        → (y : Bool) → elim y [ true ↦ at | false ↦ answers_from (suc at) bytes ] < at + suc k → elim y [ true ↦ at | false ↦ answers_from (suc at) bytes ] < at + suc (length bytes)
        → ◌≡◌ {A = ℕ} (elim y [ true ↦ at | false ↦ answers_from (suc at) (take k bytes ++ rest) ]) (elim y [ true ↦ at | false ↦ answers_from (suc at) bytes ])
    by on true h l = refl
    by on false h l = on (omega (arith, h)) (omega (arith, l))

-- and no earlier one, if it lies behind them
later_place : (at k : ℕ) (bytes rest : List ℕ) → at + k ≤ answers_from at bytes → k ≤ length bytes → at + k ≤ answers_from at (take k bytes ++ rest)
unfolding answers_from
later_place at zero bytes rest h l = omega (arith, (from_within at rest).0)
later_place at (suc k) [] rest h l = absurd (omega (arith, l))
later_place at (suc k) (byte ∷ bytes) rest h l = by (λ p. later_place (suc at) k bytes rest p (omega (arith, l))) (opens_answers at byte) h
  where
    by : (suc at + k ≤ answers_from (suc at) bytes → suc at + k ≤ answers_from (suc at) (take k bytes ++ rest)) → (y : Bool)
        → at + suc k ≤ elim y [ true ↦ at | false ↦ answers_from (suc at) bytes ] → at + suc k ≤ elim y [ true ↦ at | false ↦ answers_from (suc at) (take k bytes ++ rest) ]
    by on true h = absurd (omega (arith, h))
    by on false h = omega (arith, on (omega (arith, h)))

-- ---- good files

module _ {file : List ℕ} (g : RunFile file) where
  long_names : 13 ≤ length g.first
  long_names = omega (arith, ap length g.rows.text ∙ length-append tree_names (lines g.rows.rows))

  opens_there : Opens (length g.first) g.second
  opens_there = subst (Opens (length g.first)) (sym g.answers.text) (by (leb 13 (length g.first)) refl)
    where
      by : (y : Bool) → leb 13 (length g.first) ≡ y → leb 13 (length g.first) && true ≡ true
      by true e = rw e
      by false e = absurd (omega (arith, leb-false 13 (length g.first) e, long_names))

  good_place : answers_from 0 file ≡ length g.first
  good_place =
      ap (answers_from 0) g.whole
      ∙ begins_after 0 (length g.first) g.first g.second (omega arith) (subst (Shut 0) (sym g.rows.text) (rows_shut g.rows.rows)) opens_there

  first_is : take (answers_from 0 file) file ≡ g.first
  first_is = rw good_place (ap (take (length g.first)) g.whole ∙ take_at g.first g.second (length g.first) refl)

  second_is : drop (answers_from 0 file) file ≡ g.second
  second_is = rw good_place (ap (drop (length g.first)) g.whole ∙ drop_at g.first g.second (length g.first) refl)

  -- a good file is read
  pub run_back : file_given file ≡ read (flat g.rows.rows) (flat g.answers.rows)
  unfolding file_given
  run_back =
      let rows : file_words (take (answers_from 0 file) file) ≡ words (flat g.rows.rows) = ap file_words first_is ∙ good_read tree_names 5 g.rows in
      let answers : table_words answer_names 0 (drop (answers_from 0 file) file) ≡ words (flat g.answers.rows) = ap (table_words answer_names 0) second_is ∙ good_read answer_names 0 g.answers in
      ap (λ (s : Scanned). joined (answers_from 0 file) s (table_words answer_names 0 (drop (answers_from 0 file) file))) rows
      ∙ ap (λ (s : Scanned). joined (answers_from 0 file) (words (flat g.rows.rows)) s) answers

not_good : {file : List ℕ} {n : ℕ} → file_given file ≡ stopped n → RunFile file → ⊥
not_good e g = stopped_read (sym e ∙ run_back g)

-- ---- the place of 50

module _ (file : List ℕ) where
  abbrev from : ℕ
  from = answers_from 0 file

  abbrev before : List ℕ
  before = take (answers_from 0 file) file

  abbrev behind : List ℕ
  behind = drop (answers_from 0 file) file

  from_most : from ≤ length file
  from_most = omega (arith, (from_within 0 file).1)

  before_long : length before ≡ from
  before_long = length-take-le from file from_most

  -- a good file that begins as this one does beyond the place has the same rows
  module _ (k : ℕ) (rest : List ℕ) (g : RunFile (take k file ++ rest)) (beyond : from < k) (within : k ≤ length file) where
    place_same : answers_from 0 (take k file ++ rest) ≡ from
    place_same = same_place 0 k file rest (omega (arith, beyond)) (omega (arith, beyond, within))

    pub rows_same : TableFile tree_names 5 before
    rows_same =
        let long : length (take k file) ≡ k = length-take-le k file within in
        let same : take from (take k file ++ rest) ≡ before = take-append-le from (take k file) rest (omega (arith, long, beyond)) ∙ take-take from k file (omega (arith, beyond)) in
        subst (TableFile tree_names 5) (sym (first_is g) ∙ (ap (λ (n : ℕ). take n (take k file ++ rest)) place_same ∙ same)) g.rows

  -- refused in the rows
  module _ (m : ℕ) (e : file_words before ≡ scan.stopped m) (all : file_given file ≡ stopped m) where
    rows_refused : RefusedAt (TableFile tree_names 5) before m
    rows_refused = refused_first tree_names 5 before m e

    taken_same : (k : ℕ) → k ≤ from → take k file ≡ take k before
    taken_same k h = sym (take-take k from file h)

    pub run_refused_in_rows : RefusedAt RunFile file m
    run_refused_in_rows = record {
      within = omega (arith, rows_refused.within, before_long, from_most);
      viable = (
        rows_refused.viable.0 ++ answer_names,
        record {
          first = take m before ++ rows_refused.viable.0;
          second = answer_names;
          rows = rows_refused.viable.1;
          answers = record { rows = []; formed = tt; text = sym (append-nil answer_names) ∙ ap (λ (z : List ℕ). answer_names ++ z) (unfold lines in refl) };
          whole = ap (λ (z : List ℕ). z ++ (rows_refused.viable.0 ++ answer_names)) (taken_same m (omega (arith, rows_refused.within, before_long)))
              ∙ sym (append_assoc (take m before) rows_refused.viable.0 answer_names);
        },
      );
      no_further = λ l rest g. by l rest g (ltb m from) refl;
      not_good = not_good all;
    }
      where
        by : m < length file → (rest : List ℕ) → RunFile (take (suc m) file ++ rest) → (y : Bool) → ltb m from ≡ y → ⊥
        by l rest g true q =
            let inside : m < from = ltb-true m from q in
            let long : suc m ≤ length g.first = omega (arith, later_place 0 (suc m) file rest (omega (arith, inside)) (omega (arith, l)), good_place g) in
            let begins : take (suc m) g.first ≡ take (suc m) before =
            sym (take-append-le (suc m) g.first g.second long)
            ∙ (ap (take (suc m)) (sym g.whole)
            ∙ (take-append-le (suc m) (take (suc m) file) rest (omega (arith, length-take-le (suc m) file (omega (arith, l))))
            ∙ (take-take (suc m) (suc m) file (omega arith) ∙ taken_same (suc m) (omega (arith, inside))))) in
            let text : g.first ≡ take (suc m) before ++ drop (suc m) g.first =
            sym (take-append-drop (suc m) g.first) ∙ ap (λ (z : List ℕ). z ++ drop (suc m) g.first) begins in
            rows_refused.no_further (omega (arith, inside, before_long)) (drop (suc m) g.first) (subst (TableFile tree_names 5) text g.rows)
        by l rest g false q =
            let outside : from ≤ m = ltb-false m from q in
            rows_refused.not_good (rows_same (suc m) rest g (omega (arith, outside)) (omega (arith, l)))

  -- refused in the answers
  module _ {list : List ℕ} (good : file_words before ≡ words list) (m : ℕ) (e : table_words answer_names 0 behind ≡ scan.stopped m) (all : file_given file ≡ stopped (from + m)) where
    answers_refused : RefusedAt (TableFile answer_names 0) behind m
    answers_refused = refused_first answer_names 0 behind m e

    behind_long : length behind ≡ length file - from
    behind_long = length-drop from file

    pub run_refused_in_answers : RefusedAt RunFile file (from + m)
    run_refused_in_answers = record {
      within = omega (arith, answers_refused.within, behind_long, from_most);
      viable = (
        answers_refused.viable.0,
        record {
          first = before;
          second = take m behind ++ answers_refused.viable.0;
          rows = (read_good tree_names 5 before list good).0;
          answers = answers_refused.viable.1;
          whole = ap (λ (z : List ℕ). z ++ answers_refused.viable.0) (take-add from m file) ∙ append_assoc before (take m behind) answers_refused.viable.0;
        },
      );
      no_further = λ l rest g.
          let k : ℕ = suc (from + m) in
          let beyond : from < k = omega arith in
          let there : k ≤ length file = omega (arith, l) in
          let cut : take k file ≡ before ++ take (suc m) behind = let z : k ≡ from + suc m = omega arith in ap (λ (n : ℕ). take n file) z ∙ take-add from (suc m) file in
          let text : take k file ++ rest ≡ before ++ (take (suc m) behind ++ rest) = ap (λ (z : List ℕ). z ++ rest) cut ∙ append_assoc before (take (suc m) behind) rest in
          let second : g.second ≡ take (suc m) behind ++ rest =
          sym (second_is g) ∙ (ap (λ (n : ℕ). drop n (take k file ++ rest)) (place_same k rest g beyond there)
          ∙ (ap (drop from) text ∙ drop_at before (take (suc m) behind ++ rest) from before_long)) in
          answers_refused.no_further (omega (arith, l, behind_long)) rest (subst (TableFile answer_names 0) second g.answers);
      not_good = not_good all;
    }

  -- the place is the first byte that no good file could have there, or the file's length
  pub run_refused_first : (n : ℕ) → file_given file ≡ stopped n → RefusedAt RunFile file n
  run_refused_first n e = by (file_words before) refl (table_words answer_names 0 behind) refl e
    where
      stop_is : {i j : ℕ} → stopped i ≡ stopped j → i ≡ j
      stop_is q = cc

      parts : file_given file ≡ joined from (file_words before) (table_words answer_names 0 behind)
      parts = unfold file_given in refl

      by : (r : Scanned) → file_words before ≡ r → (a : Scanned) → table_words answer_names 0 behind ≡ a → file_given file ≡ stopped n → RefusedAt RunFile file n
      by (scan.stopped m) p a q e =
          let all : file_given file ≡ stopped m = parts ∙ rw p in
          subst (RefusedAt RunFile file) (stop_is (sym all ∙ e)) (run_refused_in_rows m p all)
      by (words list) p (scan.stopped m) q e =
          let all : file_given file ≡ stopped (from + m) = parts ∙ rw (p, q) in
          subst (RefusedAt RunFile file) (stop_is (sym all ∙ e)) (run_refused_in_answers p m q all)
      by (words list) p (words answers) q e =
          let all : file_given file ≡ read list answers = parts ∙ rw (p, q) in
          absurd (stopped_read (sym e ∙ all))

  -- what is read is a good file's
  pub read_run : (list answers : List ℕ) → file_given file ≡ read list answers → RunFile file
  read_run list answers e = by (file_words before) refl (table_words answer_names 0 behind) refl
    where
      parts : file_given file ≡ joined from (file_words before) (table_words answer_names 0 behind)
      parts = unfold file_given in refl

      by : (r : Scanned) → file_words before ≡ r → (a : Scanned) → table_words answer_names 0 behind ≡ a → RunFile file
      by (scan.stopped m) p a q = let all : file_given file ≡ stopped m = parts ∙ rw p in absurd (stopped_read (sym all ∙ e))
      by (words l) p (scan.stopped m) q = let all : file_given file ≡ stopped (from + m) = parts ∙ rw (p, q) in absurd (stopped_read (sym all ∙ e))
      by (words l) p (words a) q = record {
        first = before;
        second = behind;
        rows = (read_good tree_names 5 before l p).0;
        answers = (read_good answer_names 0 behind a q).0;
        whole = sym (take-append-drop from file);
      }
