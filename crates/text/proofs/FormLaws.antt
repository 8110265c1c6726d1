-- The texts of the form are the good files.
use mathlib.Core.Path.{◌≡◌, refl, sym, ap, ap₂, subst, ◌∙◌}
use mathlib.Core.Bool.{Bool, true, false}
use mathlib.Core.List.{List, [], ◌∷◌, ◌++◌, append-nil, append_assoc}
use mathlib.Core.Logic.{inl, inr, ⊎_elim}
use Prim.Native.Nat.{ℕ, zero, suc, ◌+◌, ◌*◌, ◌/◌, ◌%◌, ◌^◌, ◌≤◌, ◌<◌}
use native.Mathlib.Omega.{arith}
use lib.Dec.{ltb}
use lib.ListN.{length, get_or}
use lib.Seq.{append_snoc}
use borrow.Author.Tests.{ltb-true, ltb-false}
use Rattle.text.specs.Decimal.{decimal}
use Rattle.text.specs.Line.{after, line, lines, flat}
use Rattle.text.specs.File.{Words, Row, Rows, Table, Tables, Formed, text_of, words_of, Good}
use Rattle.text.specs.Layout.{Layout}
use Rattle.text.specs.Form.{Form, finished, byte, field, digits, ending, is_zero, literal, row, rows, table, tables, whole, Text}
use Rattle.text.proofs.DecimalLaws.{decimal_small, decimal_more, decimal_next}
use Rattle.text.proofs.StepLaws.{ending_low}

-- ---- a line of names

literal_in : (names : List ℕ) (next : Form) (bytes words : List ℕ) → Text next bytes words → Text (literal names next) (names ++ bytes) words
unfolding literal Text
literal_in [] next bytes words t = t
literal_in (b ∷ names) next bytes words t = (refl, literal_in names next bytes words t)

literal_out : (names : List ℕ) (next : Form) (bytes words : List ℕ) → Text (literal names next) bytes words
    → (rest : List ℕ) × (bytes ≡ names ++ rest) × Text next rest words
unfolding literal Text
literal_out [] next bytes words t = (bytes, refl, t)
literal_out (b ∷ names) next [] words t = absurd t
literal_out (b ∷ names) next (c ∷ bytes) words t =
    let (rest, e, u) = literal_out names next bytes words t.1 in
    (rest, ap₂ (λ (x : ℕ) (l : List ℕ). x ∷ l) t.0 e, u)

-- ---- a number and its end

module _ (last : Bool) (next : ℕ → Form) where
  -- the digits of n lead from the number's start to the digits of value n
  Leads : ℕ → Type 0
  Leads n = n < 2 ^ 32 → (bytes words : List ℕ) → Text (digits n last next) bytes words → Text (field last next) (decimal n ++ bytes) words

  leads_by : (n : ℕ) (small : Bool) → ltb n 10 ≡ small → (10 ≤ n → Leads (n / 10)) → Leads n
  unfolding Leads Text
  leads_by n true e shorter q bytes words t = rw (decimal_small n (ltb-true n 10 e)) (n, ltb-true n 10 e, refl, t)
  leads_by n false e shorter q bytes words t =
      let h : 10 ≤ n = ltb-false n 10 e in
      let same : n ≡ n / 10 * 10 + n % 10 = omega arith in
      rw (decimal_more n h, append_snoc (decimal (n / 10)) (48 + n % 10) bytes)
      (shorter h (omega arith) ((48 + n % 10) ∷ bytes) words
      (inr (n % 10, omega arith, refl, omega arith, omega arith, subst (λ (k : ℕ). Text (digits k last next) bytes words) same t)))

  leads : (most n : ℕ) → n ≤ most → Leads n
  leads zero n p = leads_by n (ltb n 10) refl (λ h. absurd (omega arith))
  leads (suc most) n p = leads_by n (ltb n 10) refl (λ h. leads most (n / 10) (omega arith))

  field_in : (n : ℕ) → n < 2 ^ 32 → (bytes words : List ℕ) → Text (next n) bytes words → Text (field last next) (decimal n ++ (ending last ∷ bytes)) (n ∷ words)
  unfolding Leads Text
  field_in n p bytes words t = leads n n (omega arith) p (ending last ∷ bytes) (n ∷ words) (inl (refl, (words, refl, t)))

  record Number (bytes words : List ℕ) : Type 0 where
    n : ℕ
    small : n < 2 ^ 32
    rest : List ℕ
    more : List ℕ
    shown : bytes ≡ decimal n ++ (ending last ∷ rest)
    kept : words ≡ n ∷ more
    text : Text (next n) rest more

  digits_out : (v : ℕ) → v < 2 ^ 32 → (bytes words : List ℕ) → Text (digits v last next) bytes words → Number (decimal v ++ bytes) words
  unfolding Text
  digits_out v p [] words t = absurd t
  digits_out v p (c ∷ bytes) words t =
      ⊎_elim
      (λ w. record { n = v; small = p; rest = bytes; more = w.1.0; shown = rw w.0; kept = w.1.1; text = w.1.2 })
      (λ w.
      let r = digits_out (v * 10 + w.0) w.4 bytes words w.5 in
      record {
        n = r.n;
        small = r.small;
        rest = r.rest;
        more = r.more;
        shown = rw w.2 (sym (append_snoc (decimal v) (48 + w.0) bytes) ∙ rw (← (decimal_next v w.0 w.3 w.1)) r.shown);
        kept = r.kept;
        text = r.text;
      })
      t

  field_out : (bytes words : List ℕ) → Text (field last next) bytes words → Number bytes words
  unfolding Text
  field_out [] words t = absurd t
  field_out (c ∷ bytes) words t =
      let r = digits_out t.0 (omega (arith, t.1)) bytes words t.3 in
      subst (λ (l : List ℕ). Number l words) (rw (decimal_small t.0 t.1, t.2)) r

-- ---- a line of numbers

pub after_ending : (ns : List ℕ) → after ns ≡ ending (is_zero (length ns))
after_ending [] = refl
after_ending (n ∷ ns) = refl

row_in : (ns before : List ℕ) (next : List ℕ → Form) (bytes words : List ℕ) → Words ns → Text (next (before ++ ns)) bytes words
    → Text (row (length ns) before next) (line ns ++ bytes) (ns ++ words)
unfolding row line
row_in [] before next bytes words p t = rw (append-nil before) at t
row_in (n ∷ ns) before next bytes words p t =
    let rest : Text (row (length ns) (before ++ (n ∷ [])) next) (line ns ++ bytes) (ns ++ words) =
    row_in ns (before ++ (n ∷ [])) next bytes words p.1 (rw (append_snoc before n ns) t) in
    rw (append_assoc (decimal n) (after ns ∷ line ns) bytes, after_ending ns)
    (field_in (is_zero (length ns)) (λ k. row (length ns) (before ++ (k ∷ [])) next) n p.0 (line ns ++ bytes) (ns ++ words) rest)

record Numbers (width : ℕ) (before : List ℕ) (next : List ℕ → Form) (bytes words : List ℕ) : Type 0 where
  ns : List ℕ
  row : Row width ns
  rest : List ℕ
  more : List ℕ
  shown : bytes ≡ line ns ++ rest
  kept : words ≡ ns ++ more
  text : Text (next (before ++ ns)) rest more

row_out : (width : ℕ) (before : List ℕ) (next : List ℕ → Form) (bytes words : List ℕ) → Text (row width before next) bytes words → Numbers width before next bytes words
unfolding row line
row_out zero before next bytes words t = record {
  ns = [];
  row = record { long = refl; words = tt };
  rest = bytes;
  more = words;
  shown = refl;
  kept = refl;
  text = rw (append-nil before) t;
}
row_out (suc width) before next bytes words t =
    let f = field_out (is_zero width) (λ n. row width (before ++ (n ∷ [])) next) bytes words t in
    let r = row_out width (before ++ (f.n ∷ [])) next f.rest f.more f.text in
    let e : after r.ns ≡ ending (is_zero width) = after_ending r.ns ∙ ap (λ (k : ℕ). ending (is_zero k)) r.row.long in
    record {
      ns = f.n ∷ r.ns;
      row = record { long = ap suc r.row.long; words = (f.small, r.row.words) };
      rest = r.rest;
      more = r.more;
      shown = f.shown ∙ rw (e, append_assoc (decimal f.n) (ending (is_zero width) ∷ line r.ns) r.rest, ← r.shown);
      kept = f.kept ∙ rw (← r.kept);
      text = rw (append_snoc before f.n r.ns) at r.text;
    }

-- ---- the lines of a table

rows_in : (width : ℕ) (rs : List (List ℕ)) (next : Form) (bytes words : List ℕ) → Rows width rs → Text next bytes words
    → Text (rows width (length rs) next) (lines rs ++ bytes) (flat rs ++ words)
unfolding rows lines flat
rows_in width [] next bytes words p t = t
rows_in width (r ∷ rs) next bytes words p t =
    let u = rows_in width rs next bytes words p.1 t in
    rw (append_assoc (line r) (lines rs) bytes, append_assoc r (flat rs) words)
    (subst (λ (k : ℕ). Text (row k [] (λ _. rows width (length rs) next)) (line r ++ (lines rs ++ bytes)) (r ++ (flat rs ++ words))) p.0.long
    (row_in r [] (λ _. rows width (length rs) next) (lines rs ++ bytes) (flat rs ++ words) p.0.words u))

-- bytes that begin with a table: its line of names, then its lines
record Listed (names : List ℕ) (width count : ℕ) (next : Form) (bytes words : List ℕ) : Type 0 where
  rs : List (List ℕ)
  table : Table count width rs
  rest : List ℕ
  more : List ℕ
  shown : bytes ≡ names ++ (lines rs ++ rest)
  kept : words ≡ flat rs ++ more
  text : Text next rest more

rows_out : (width count : ℕ) (next : Form) (bytes words : List ℕ) → Text (rows width count next) bytes words → Listed [] width count next bytes words
unfolding rows lines flat
rows_out width zero next bytes words t = record {
  rs = [];
  table = record { many = refl; each = tt };
  rest = bytes;
  more = words;
  shown = refl;
  kept = refl;
  text = t;
}
rows_out width (suc count) next bytes words t =
    let a = row_out width [] (λ _. rows width count next) bytes words t in
    let r = rows_out width count next a.rest a.more a.text in
    record {
      rs = a.ns ∷ r.rs;
      table = record { many = ap suc r.table.many; each = (a.row, r.table.each) };
      rest = r.rest;
      more = r.more;
      shown = a.shown ∙ rw (append_assoc (line a.ns) (lines r.rs) r.rest, ← r.shown);
      kept = a.kept ∙ rw (append_assoc a.ns (flat r.rs) r.more, ← r.kept);
      text = r.text;
    }

-- ---- a table, its line of names with it

table_in : (names : List ℕ) (width count : ℕ) (rs : List (List ℕ)) (next : Form) (bytes words : List ℕ) → Table count width rs → Text next bytes words
    → Text (table names width count next) (names ++ (lines rs ++ bytes)) (flat rs ++ words)
unfolding table
table_in names width count rs next bytes words p t =
    literal_in names (rows width count next) (lines rs ++ bytes) (flat rs ++ words)
    (subst (λ (k : ℕ). Text (rows width k next) (lines rs ++ bytes) (flat rs ++ words)) p.many (rows_in width rs next bytes words p.each t))

table_out : (names : List ℕ) (width count : ℕ) (next : Form) (bytes words : List ℕ) → Text (table names width count next) bytes words → Listed names width count next bytes words
unfolding table
table_out names width count next bytes words t =
    let (rest, e, u) = literal_out names (rows width count next) bytes words t in
    let r = rows_out width count next rest words u in
    record {
      rs = r.rs;
      table = r.table;
      rest = r.rest;
      more = r.more;
      shown = e ∙ ap (λ (l : List ℕ). names ++ l) r.shown;
      kept = r.kept;
      text = r.text;
    }

-- ---- the file

regroup : (a b c d e f g h i j k l : List ℕ) → a ++ b ++ c ++ d ++ e ++ f ++ g ++ h ++ i ++ j ++ k ++ l ≡ a ++ (b ++ (c ++ (d ++ (e ++ (f ++ (g ++ (h ++ (i ++ (j ++ (k ++ (l ++ [])))))))))))
regroup a b c d e f g h i j k l = simp (append_assoc, append-nil)

regroup_words : (a b c d e f : List ℕ) → a ++ b ++ c ++ d ++ e ++ f ≡ a ++ (b ++ (c ++ (d ++ (e ++ (f ++ [])))))
regroup_words a b c d e f = simp (append_assoc, append-nil)

assemble : {file r₀ r₁ r₂ r₃ r₄ r₅ r₆ : List ℕ} (a b c d e f g h i j k l : List ℕ)
    → file ≡ a ++ r₀ → r₀ ≡ b ++ r₁ → r₁ ≡ c ++ (d ++ r₂) → r₂ ≡ e ++ (f ++ r₃) → r₃ ≡ g ++ (h ++ r₄) → r₄ ≡ i ++ (j ++ r₅) → r₅ ≡ k ++ (l ++ r₆) → r₆ ≡ []
    → file ≡ a ++ b ++ c ++ d ++ e ++ f ++ g ++ h ++ i ++ j ++ k ++ l
assemble a b c d e f g h i j k l p q r s t u v w = rw (regroup a b c d e f g h i j k l, p, q, r, s, t, u, v, w)

assemble_words : {words r₁ r₂ r₃ r₄ r₅ r₆ : List ℕ} (a b c d e f : List ℕ)
    → words ≡ a ++ r₁ → r₁ ≡ b ++ r₂ → r₂ ≡ c ++ r₃ → r₃ ≡ d ++ r₄ → r₄ ≡ e ++ r₅ → r₅ ≡ f ++ r₆ → r₆ ≡ []
    → words ≡ a ++ b ++ c ++ d ++ e ++ f
assemble_words a b c d e f p q r s t u v = rw (regroup_words a b c d e f, p, q, r, s, t, u, v)

abbrev body : Layout → List ℕ → Form
body f head = tables f head finished

finished_in : Text finished [] []
unfolding Text
finished_in = refl

tables_in : (y : Layout) (t : Tables) → Formed y t → Text (whole y) (text_of y t) (words_of t)
unfolding whole tables
tables_in y t f =
    let h = t.head in
    let t₅ = table_in y.identifiers.names y.identifiers.width (get_or h 5 0) t.identifiers finished [] [] f.identifiers finished_in in
    let t₄ = table_in y.places.names y.places.width (get_or h 4 0) t.places _ _ _ f.places t₅ in
    let t₃ = table_in y.cases.names y.cases.width (get_or h 3 0) t.cases _ _ _ f.cases t₄ in
    let t₂ = table_in y.instructions.names y.instructions.width (get_or h 2 0) t.instructions _ _ _ f.instructions t₃ in
    let t₁ = table_in y.blocks.names y.blocks.width (get_or h 1 0) t.blocks _ _ _ f.blocks t₂ in
    let r = row_in h [] (body y) _ _ f.head.words t₁ in
    let w = literal_in y.head.names (row y.head.width [] (body y)) _ _ (rw f.head.long at r) in
    rw (
      regroup y.head.names (line h) y.blocks.names (lines t.blocks) y.instructions.names (lines t.instructions) y.cases.names
          (lines t.cases) y.places.names (lines t.places) y.identifiers.names (lines t.identifiers),
      regroup_words h (flat t.blocks) (flat t.instructions) (flat t.cases) (flat t.places) (flat t.identifiers),
    )
    w

finished_out : (bytes words : List ℕ) → Text finished bytes words → (bytes ≡ []) × (words ≡ [])
unfolding Text
finished_out [] words t = (refl, t)
finished_out (c ∷ bytes) words t = absurd t

pub good_text : (y : Layout) (file words : List ℕ) → Good y file words → Text (whole y) file words
good_text y file words g = rw (g.text, g.word) (tables_in y g.tables g.formed)

pub text_good : (y : Layout) (file words : List ℕ) → Text (whole y) file words → Good y file words
unfolding whole tables
text_good y file words t =
    let (rest, named, u) = literal_out y.head.names (row y.head.width [] (body y)) file words t in
    let r = row_out y.head.width [] (body y) rest words u in
    let h = r.ns in
    let t₁ = table_out y.blocks.names y.blocks.width (get_or h 1 0) _ r.rest r.more r.text in
    let t₂ = table_out y.instructions.names y.instructions.width (get_or h 2 0) _ t₁.rest t₁.more t₁.text in
    let t₃ = table_out y.cases.names y.cases.width (get_or h 3 0) _ t₂.rest t₂.more t₂.text in
    let t₄ = table_out y.places.names y.places.width (get_or h 4 0) _ t₃.rest t₃.more t₃.text in
    let t₅ = table_out y.identifiers.names y.identifiers.width (get_or h 5 0) _ t₄.rest t₄.more t₄.text in
    let z = finished_out t₅.rest t₅.more t₅.text in
    record {
      tables = record { head = h; blocks = t₁.rs; instructions = t₂.rs; cases = t₃.rs; places = t₄.rs; identifiers = t₅.rs };
      formed = record { head = r.row; blocks = t₁.table; instructions = t₂.table; cases = t₃.table; places = t₄.table; identifiers = t₅.table };
      text =
          assemble y.head.names (line h) y.blocks.names (lines t₁.rs) y.instructions.names (lines t₂.rs) y.cases.names (lines t₃.rs)
          y.places.names (lines t₄.rs) y.identifiers.names (lines t₅.rs)
          named r.shown t₁.shown t₂.shown t₃.shown t₄.shown t₅.shown z.0;
      word = assemble_words h (flat t₁.rs) (flat t₂.rs) (flat t₃.rs) (flat t₄.rs) (flat t₅.rs)
          r.kept t₁.kept t₂.kept t₃.kept t₄.kept t₅.kept z.1;
    }

-- ---- one reading

-- a text of the form has one list of words
pub text_one : (form : Form) (bytes us vs : List ℕ) → Text form bytes us → Text form bytes vs → us ≡ vs
unfolding Text
text_one finished [] us vs t u = t ∙ sym u
text_one finished (c ∷ bytes) us vs t u = absurd t
text_one (byte b next) [] us vs t u = absurd t
text_one (byte b next) (c ∷ bytes) us vs t u = text_one next bytes us vs t.1 u.1
text_one (field last next) [] us vs t u = absurd t
text_one (field last next) (c ∷ bytes) us vs t u =
    let same : u.0 ≡ t.0 = omega (arith, t.2, u.2) in
    text_one (digits t.0 last next) bytes us vs t.3 (subst (λ (d : ℕ). Text (digits d last next) bytes vs) same u.3)
text_one (digits v last next) [] us vs t u = absurd t
text_one (digits v last next) (c ∷ bytes) us vs t u =
    ⊎_elim
    (λ a. ⊎_elim
    (λ b. a.1.1 ∙ ap (λ (l : List ℕ). v ∷ l) (text_one (next v) bytes a.1.0 b.1.0 a.1.2 b.1.2) ∙ sym b.1.1)
    (λ b. absurd (omega (arith, a.0, b.2, ending_low last)))
    u)
    (λ a. ⊎_elim
    (λ b. absurd (omega (arith, b.0, a.2, ending_low last)))
    (λ b.
    let same : b.0 ≡ a.0 = omega (arith, a.2, b.2) in
    text_one (digits (v * 10 + a.0) last next) bytes us vs a.5 (subst (λ (d : ℕ). Text (digits (v * 10 + d) last next) bytes vs) same b.5))
    u)
    t
