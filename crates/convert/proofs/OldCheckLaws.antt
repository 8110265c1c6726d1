-- The old check is today's on the widened words, with each `to` left out of the count of its places.
use Prim.Native.Nat.{ℕ, zero, suc, ◌+◌, ◌-◌, ◌*◌, ◌≤◌, ◌<◌}
use mathlib.Core.Path.{◌≡◌, refl, sym, ap, ◌∙◌}
use mathlib.Core.Bool.{Bool, true, false}
use mathlib.Core.List.{List, [], ◌∷◌, ◌++◌}
use native.Mathlib.Omega.{arith}
use native.Mathlib.Nat.{zero-add}
use lib.Dec.{eqb, ltb, leb}
use lib.ListN.{length, get_or, take, drop, length-drop}
use lib.Seq.{length-take-le, get_or-take, get_or-drop}
use borrow.Author.Tests.{le-ltb, eq-eqb, le-leb}
use Rattle.table.specs.Words.{word, entry_word, block_count, instruction_count, case_count, place_count, identifier_count, blocks_begin, instructions_begin, cases_begin}
use Rattle.table.specs.Words.{places_begin, identifiers_begin, words_needed, block_word, instruction_word, largest}
use Rattle.table.specs.Check.{Verdict, accepted, refused, Rule, unused, number, row, row_or_none, rows_from, end_of, fits, block, block_or_none, place}
use Rattle.table.specs.Check.{place_or_none, rules_by_code, terminal_rules, operands_by_code, operand_rules, block_rules, instruction_rules, case_rules, place_rules}
use Rattle.table.specs.Check.{identifier_rules, and_then, row_verdict, rows_verdict, words_verdict, limits, counts_verdict, checked}
use Rattle.table.proofs.RowLaws.{row_fits}
use Rattle.table.proofs.RuleLaws.{block_width, instruction_width, case_width, place_width, identifier_width}
use Rattle.text.specs.Layout.{layout}
use Rattle.text.specs.declared.version.Version.TheVariants.{Old}
use Rattle.convert.specs.Cut.{instructions_at, cases_at, places_at, identifiers_at, end_at, Shaped}
use Rattle.convert.specs.Write.{table_text, unless_refused}
use Rattle.convert.specs.OldCheck.{old_block_word, old_instruction_word, old_block_rules, old_instruction_rules, old_words_verdict, old_checked}
use Rattle.convert.specs.Widen.{doubled, doubled_rows, widened}
use Rattle.convert.specs.Convert.{new_of_old}
use Rattle.convert.specs.Parts.{old_place, moved, of_wide}
use Rattle.convert.proofs.SpanLaws.{place_head, place_block, place_instruction, place_rest}
use Rattle.convert.proofs.WidenLaws.{doubled_at, doubled_end, doubled_word, blocks_fit, instructions_fit, wide_head, wide_blocks, wide_instructions, wide_rest, wide_shaped}

-- ---- verdicts whose places are moved

moved_then : (back : ℕ → ℕ) (first next : Verdict) → moved back (and_then first next) ≡ and_then (moved back first) (moved back next)
unfolding moved and_then
moved_then back accepted next = refl
moved_then back (refused code at) next = refl

-- old words and new ones, and where a place of the new ones was
module _ (old new : List ℕ) (back : ℕ → ℕ) where
  -- the same rules on the same words
  row_moved : (at at' : ℕ) (rules : List Rule) → ((k : ℕ) → k < length rules → word new (at' + k) ≡ word old (at + k)) → ((k : ℕ) → k < length rules → back (at' + k) ≡ at + k)
      → row_verdict old at rules ≡ moved back (row_verdict new at' rules)
  unfolding row_verdict moved
  row_moved at at' [] same places = refl
  row_moved at at' (rule ∷ rules) same places =
      let z : at' + 0 ≡ at' = omega arith in
      let y : at + 0 ≡ at = omega arith in
      let first : word new at' ≡ word old at = rw (z, y) at (same 0 (omega arith)) in
      let there : back at' ≡ at = rw (z, y) at (places 0 (omega arith)) in
      let next = row_moved (suc at) (suc at') rules
      (λ k p. (let u : suc at' + k ≡ at' + suc k = omega arith in let v : suc at + k ≡ at + suc k = omega arith in rw (u, v) (same (suc k) (omega arith))))
      (λ k p. (let u : suc at' + k ≡ at' + suc k = omega arith in let v : suc at + k ≡ at + suc k = omega arith in rw (u, v) (places (suc k) (omega arith)))) in
      by (fits rule (word old at)) (fits rule (word new at')) (ap (fits rule) first) there next
    where
      by : (b b' : Bool) → b' ≡ b → back at' ≡ at → row_verdict old (suc at) rules ≡ moved back (row_verdict new (suc at') rules)
          → elim b [ true ↦ row_verdict old (suc at) rules | false ↦ refused 4 at ] ≡ moved back (elim b' [ true ↦ row_verdict new (suc at') rules | false ↦ refused 4 at' ])
      by true true e there next = next
      by false false e there next = ap (refused 4) (sym there)
      by true false e there next = absurd (let z : ◌≡◌ {A = ℕ} 0 1 = cc in omega arith)
      by false true e there next = absurd (let z : ◌≡◌ {A = ℕ} 0 1 = cc in omega arith)

  -- rows that go alike, one by one
  rows_moved : (rules rules' : ℕ → List Rule) (width width' : ℕ) → ((i : ℕ) → length (rules i) ≡ width) → ((i : ℕ) → length (rules' i) ≡ width') → (at at' first count : ℕ)
      → ((i : ℕ) → i < count → row_verdict old (at + i * width) (rules (first + i)) ≡ moved back (row_verdict new (at' + i * width') (rules' (first + i))))
      → rows_verdict old rules at first count ≡ moved back (rows_verdict new rules' at' first count)
  unfolding rows_verdict moved
  rows_moved rules rules' width width' wide wide' at at' first zero h = refl
  rows_moved rules rules' width width' wide wide' at at' first (suc count) h =
      let z : at + 0 * width ≡ at = omega arith in
      let y : at' + 0 * width' ≡ at' = omega arith in
      let x : first + 0 ≡ first = omega arith in
      let one : row_verdict old at (rules first) ≡ moved back (row_verdict new at' (rules' first)) = rw (z, y, x) at (h 0 (omega arith)) in
      let more : rows_verdict old rules (at + width) (suc first) count ≡ moved back (rows_verdict new rules' (at' + width') (suc first) count) =
      rows_moved rules rules' width width' wide wide' (at + width) (at' + width') (suc first) count
      (λ i p.
      (let u : at + width + i * width ≡ at + suc i * width = omega arith in
      let v : at' + width' + i * width' ≡ at' + suc i * width' = omega arith in
      let w : suc first + i ≡ first + suc i = omega arith in
      rw (u, v, w) (h (suc i) (omega arith)))) in
      rw (wide first, wide' first, one, more) (sym (moved_then back (row_verdict new at' (rules' first)) (rows_verdict new rules' (at' + width') (suc first) count)))

-- one rule more, on a word that fits it where the others do
row_more : (ws : List ℕ) (at : ℕ) (rules : List Rule) (last : Rule) → (row_verdict ws at rules ≡ accepted → fits last (word ws (at + length rules)) ≡ true)
    → row_verdict ws at (rules ++ (last ∷ [])) ≡ row_verdict ws at rules
unfolding row_verdict
row_more ws at [] last h =
    let z : at + 0 ≡ at = omega arith in
    rw (rw z at (h refl), row_verdict)
row_more ws at (rule ∷ rules) last h = by (fits rule (word ws at)) refl (row_more ws (suc at) rules last)
  where
    by : (b : Bool) → fits rule (word ws at) ≡ b
        → ((row_verdict ws (suc at) rules ≡ accepted → fits last (word ws (suc at + length rules)) ≡ true)
        → row_verdict ws (suc at) (rules ++ (last ∷ [])) ≡ row_verdict ws (suc at) rules)
        → ◌≡◌ {A = Verdict} (elim b [ true ↦ row_verdict ws (suc at) (rules ++ (last ∷ [])) | false ↦ refused 4 at ])
        (elim b [ true ↦ row_verdict ws (suc at) rules | false ↦ refused 4 at ])
    by true e more =
        let z : at + suc (length rules) ≡ suc at + length rules = omega arith in
        more (λ a. rw z at (h (rw (e, row_verdict) a)))
    by false e more = refl

-- ---- old words and the widened ones

below : (i d width : ℕ) → i * width + width ≤ (i + suc d) * width
below i d width = omega arith

-- the words of rows that were doubled
module _ (old new rest : List ℕ) (width count from from' : ℕ) (some : 1 ≤ width) (fit : count * width ≤ length (drop from old))
    (at : drop from' new ≡ doubled_rows width count (drop from old) ++ rest) where
  row_words : (i : ℕ) → i < count → (k : ℕ) → k ≤ width → get_or new (from' + i * suc width + k) 0 ≡ get_or (doubled (take width (drop (i * width) (drop from old)))) k 0
  row_words i p k q =
      let e : from' + i * suc width + k ≡ from' + (i * suc width + k) = omega arith in
      rw e (sym (get_or-drop from' new (i * suc width + k) 0) ∙ rw at (doubled_word width some count (drop from old) rest fit i k p q))

  row_long : (i : ℕ) → i < count → length (take width (drop (i * width) (drop from old))) ≡ width
  row_long i p =
      let e : i + suc (count - suc i) ≡ count = omega arith in
      length-take-le width (drop (i * width) (drop from old)) (rw (length-drop (i * width) (drop from old)) (omega (arith, fit, rw e at (below i (count - suc i) width))))

  own_word : (i k : ℕ) → k < width → get_or (take width (drop (i * width) (drop from old))) k 0 ≡ get_or old (from + i * width + k) 0
  own_word i k p =
      let e : from + i * width + k ≡ from + (i * width + k) = omega arith in
      get_or-take width (drop (i * width) (drop from old)) k 0 p ∙ get_or-drop (i * width) (drop from old) k 0 ∙ get_or-drop from old (i * width + k) 0 ∙ rw e

  -- its own words
  same_word : (i : ℕ) → i < count → (k : ℕ) → k < width → word new (from' + i * suc width + k) ≡ word old (from + i * width + k)
  unfolding word
  same_word i p k q = row_words i p k (omega arith) ∙ doubled_at (take width (drop (i * width) (drop from old))) k (rw (row_long i p) q) ∙ own_word i k q

  -- and the last once more
  last_word : (i : ℕ) → i < count → word new (from' + i * suc width + width) ≡ word old (from + i * width + (width - 1))
  unfolding word
  last_word i p =
      row_words i p width (omega arith)
      ∙ doubled_end (take width (drop (i * width) (drop from old))) width (sym (row_long i p))
      ∙ rw (row_long i p) (own_word i (width - 1) (omega arith))

-- the rule of a second end
abbrev last_rule : Bool → ℕ → Rule
last_rule true span = unused
last_rule false span = end_of span

abbrev span_rule : Bool → Rule
span_rule true = unused
span_rule false = number largest

-- an end that is the same fits where the first does
same_fits : (absent : Bool) (span : ℕ) → fits (span_rule absent) span ≡ true → fits (last_rule absent span) span ≡ true
unfolding fits
same_fits true span h = h
same_fits false span h = rw (le-leb span span (omega arith)) h

-- the rules of a block's row by its words
abbrev old_rules : (absent : Bool) (first count : ℕ) (terminal : List Rule) → List Rule
old_rules true first count terminal = unused ∷ unused ∷ unused ∷ unused ∷ unused ∷ unused ∷ unused ∷ unused ∷ unused ∷ unused ∷ []
old_rules false first count terminal =
    number largest
    ∷ rows_from first count
    ∷ number 21
    ∷ get_or terminal 0 unused
    ∷ get_or terminal 1 unused
    ∷ get_or terminal 2 unused
    ∷ get_or terminal 3 unused
    ∷ get_or terminal 4 unused
    ∷ number largest
    ∷ number largest
    ∷ []

old_rules_lem : (ws : List ℕ) (b : ℕ) → old_block_rules ws b ≡ old_rules (eqb (old_block_word ws b 2) 0) (old_block_word ws b 0) (instruction_count ws)
    (terminal_rules ws (old_block_word ws b 2) (old_block_word ws b 4))
unfolding old_block_rules
old_rules_lem ws b = by (eqb (old_block_word ws b 2) 0)
  where
    by : (t : Bool)
        → elim t [ true ↦ old_rules true 0 0 [] | false ↦ old_rules false (old_block_word ws b 0) (instruction_count ws) (terminal_rules ws (old_block_word ws b 2) (old_block_word ws b 4)) ]
        ≡ old_rules t (old_block_word ws b 0) (instruction_count ws) (terminal_rules ws (old_block_word ws b 2) (old_block_word ws b 4))
    by true = refl
    by false = refl

new_rules : (ws : List ℕ) (b : ℕ)
    → block_rules ws b
    ≡ old_rules (eqb (block_word ws b 2) 0) (block_word ws b 0) (instruction_count ws) (terminal_rules ws (block_word ws b 2) (block_word ws b 4)) ++
    (last_rule (eqb (block_word ws b 2) 0) (block_word ws b 9) ∷ [])
unfolding block_rules
new_rules ws b = by (eqb (block_word ws b 2) 0)
  where
    by : (t : Bool)
        → elim t [
          | true ↦ old_rules true 0 0 [] ++ (unused ∷ [])
          | false ↦ old_rules false (block_word ws b 0) (instruction_count ws) (terminal_rules ws (block_word ws b 2) (block_word ws b 4)) ++ (end_of (block_word ws b 9) ∷ [])
        ]
        ≡ old_rules t (block_word ws b 0) (instruction_count ws) (terminal_rules ws (block_word ws b 2) (block_word ws b 4)) ++ (last_rule t (block_word ws b 9) ∷ [])
    by true = refl
    by false = refl

old_long : (t : Bool) (first count : ℕ) (terminal : List Rule) → length (old_rules t first count terminal) ≡ 10
old_long true first count terminal = refl
old_long false first count terminal = refl

old_block_width : (ws : List ℕ) (b : ℕ) → length (old_block_rules ws b) ≡ 10
old_block_width ws b = rw (old_rules_lem ws b) (old_long (eqb (old_block_word ws b 2) 0) _ _ _)

old_span : (t : Bool) (first count : ℕ) (terminal : List Rule) → get_or (old_rules t first count terminal) 9 unused ≡ span_rule t
old_span true first count terminal = refl
old_span false first count terminal = refl

old_instruction_width : (ws : List ℕ) (i : ℕ) → length (old_instruction_rules ws i) ≡ 6
unfolding old_instruction_rules
old_instruction_width ws i = refl

-- an accepted row's last word fits
span_fits : (ws : List ℕ) (at k : ℕ) (rules : List Rule) → row_verdict ws at rules ≡ accepted → k < length rules → fits (get_or rules k unused) (word ws (at + k)) ≡ true
span_fits ws at k rules h p =
    let z : at + 0 ≡ at = omega arith in
    let y : 0 + k ≡ k = omega arith in
    rw y at (row_fits ws at 0 rules (rw z h) k p)

-- the order of the refusals: too short, the counts, the length, the entry, the words
unfoldable whole : (short : Bool) (counts : Verdict) (exact enters : Bool) (words : Verdict) → Verdict
whole short counts exact enters words =
    elim short [
      | true ↦ refused 1 0
      | false ↦
          elim counts [
            | refused code at ↦ refused code at
            | accepted ↦ elim exact [ false ↦ refused 1 0 | true ↦ elim enters [ false ↦ refused 3 0 | true ↦ words ] ]
          ]
    ]

old_whole : (ws : List ℕ)
    → old_checked ws ≡ whole (ltb (length ws) 6) (counts_verdict ws 1 limits) (eqb (length ws) (end_at (layout Old) ws)) (ltb (entry_word ws) (block_count ws)) (old_words_verdict ws)
unfolding old_checked whole
old_whole ws = refl

new_whole : (ws : List ℕ) → checked ws ≡ whole (ltb (length ws) 6) (counts_verdict ws 1 limits) (eqb (length ws) (words_needed ws)) (ltb (entry_word ws) (block_count ws)) (words_verdict ws)
unfolding checked whole
new_whole ws = refl

whole_moved : (back : ℕ → ℕ) (s s' : Bool) (v v' : Verdict) (x x' b b' : Bool) (w w' : Verdict) → s ≡ false → s' ≡ false → v ≡ moved back v' → x ≡ true
    → x' ≡ true → b' ≡ b → w ≡ moved back w' → 0 ≡ back 0
    → whole s v x b w ≡ moved back (whole s' v' x' b' w')
unfolding whole moved
whole_moved back s s' v v' x x' b b' w w' short short' counts exact exact' enters words here = rw (short, short', counts, exact, exact', enters, words) (by v' b)
  where
    by : (v' : Verdict) (b : Bool) → whole false (moved back v') true b (moved back w') ≡ moved back (whole false v' true b w')
    by (refused code at) b = refl
    by accepted true = refl
    by accepted false = ap (refused 3) here

module _ (old : List ℕ) (shaped : Shaped (layout Old) old) where
  abbrev new : List ℕ
  new = widened old

  abbrev back : ℕ → ℕ
  back = old_place (block_count old) (instruction_count old)

  -- ---- the head

  head_same : (k : ℕ) → k < 6 → word new k ≡ word old k
  unfolding word
  head_same k p = wide_head old shaped k p

  pub blocks_same : block_count new ≡ block_count old
  unfolding block_count
  blocks_same = head_same 1 (omega arith)

  pub instructions_same : instruction_count new ≡ instruction_count old
  unfolding instruction_count
  instructions_same = head_same 2 (omega arith)

  cases_same : case_count new ≡ case_count old
  unfolding case_count
  cases_same = head_same 3 (omega arith)

  places_same : place_count new ≡ place_count old
  unfolding place_count
  places_same = head_same 4 (omega arith)

  identifiers_same : identifier_count new ≡ identifier_count old
  unfolding identifier_count
  identifiers_same = head_same 5 (omega arith)

  block_is : block new ≡ block old
  unfolding block
  block_is = ap row blocks_same

  block_or_none_is : block_or_none new ≡ block_or_none old
  unfolding block_or_none
  block_or_none_is = ap row_or_none blocks_same

  place_is : place new ≡ place old
  unfolding place
  place_is = ap row places_same

  place_or_none_is : place_or_none new ≡ place_or_none old
  unfolding place_or_none
  place_or_none_is = ap row_or_none places_same

  rules_same : (first : ℕ) → rules_by_code new first ≡ rules_by_code old first
  rules_same first = rw (block_is, block_or_none_is, place_is, place_or_none_is, cases_same)

  terminal_same : (code first : ℕ) → terminal_rules new code first ≡ terminal_rules old code first
  unfolding terminal_rules
  terminal_same code first = ap (λ (rules : List (List Rule)). get_or rules code []) (rules_same first)

  by_code_same : operands_by_code new ≡ operands_by_code old
  by_code_same = rw place_is

  operands_same : (code : ℕ) → operand_rules new code ≡ operand_rules old code
  unfolding operand_rules
  operands_same code = ap (λ (rules : List (List Rule)). get_or rules code []) by_code_same

  -- ---- the blocks

  module _ (b : ℕ) (p : b < block_count old) where
    pub block_same : (k : ℕ) → k < 10 → word new (6 + b * 11 + k) ≡ word old (6 + b * 10 + k)
    unfolding block_count word
    block_same k q = same_word old new _ 10 (get_or old 1 0) 6 6 (omega arith) (blocks_fit old shaped) (wide_blocks old shaped) b p k q

    pub block_last : word new (6 + b * 11 + 10) ≡ word old (6 + b * 10 + 9)
    unfolding block_count word
    block_last = last_word old new _ 10 (get_or old 1 0) 6 6 (omega arith) (blocks_fit old shaped) (wide_blocks old shaped) b p

    block_back : (k : ℕ) → k < 10 → back (6 + b * 11 + k) ≡ 6 + b * 10 + k
    block_back k q =
        sym (place_block (block_count old) (instruction_count old) (6 + b * 11 + k) (omega arith) (omega arith)) ∙ omega arith

    block_rules_lem : block_rules new b ≡ old_block_rules old b ++ (last_rule (eqb (old_block_word old b 2) 0) (old_block_word old b 9) ∷ [])
    unfolding block_word old_block_word blocks_begin
    block_rules_lem =
        new_rules new b
        ∙ rw (
          block_same 2 (omega arith),
          block_same 0 (omega arith),
          block_same 4 (omega arith),
          block_same 9 (omega arith),
          instructions_same,
          terminal_same (word old (6 + b * 10 + 2)) (word old (6 + b * 10 + 4)),
          old_rules_lem old b,
        )

    block_fits : row_verdict new (6 + b * 11) (old_block_rules old b) ≡ accepted
        → fits (last_rule (eqb (old_block_word old b 2) 0) (old_block_word old b 9)) (word new (6 + b * 11 + length (old_block_rules old b))) ≡ true
    unfolding old_block_word
    block_fits h =
        let first : fits (get_or (old_block_rules old b) 9 unused) (word new (6 + b * 11 + 9)) ≡ true =
        span_fits new (6 + b * 11) 9 (old_block_rules old b) h (rw (old_block_width old b) (omega arith)) in
        rw (old_block_width old b, block_last)
        (same_fits (eqb (old_block_word old b 2) 0) (old_block_word old b 9) (rw (old_rules_lem old b, old_span (eqb (old_block_word old b 2) 0) _ _ _, block_same 9 (omega arith)) at first))

    block_moved : row_verdict old (6 + b * 10) (old_block_rules old b) ≡ moved back (row_verdict new (6 + b * 11) (block_rules new b))
    block_moved =
        row_moved old new back (6 + b * 10) (6 + b * 11) (old_block_rules old b) (λ k q. block_same k (rw (old_block_width old b) at q)) (λ k q. block_back k (rw (old_block_width old b) at q))
        ∙ ap (moved back) (sym (row_more new (6 + b * 11) (old_block_rules old b) _ block_fits) ∙ ap (row_verdict new (6 + b * 11)) (sym block_rules_lem))

  -- ---- the instructions

  pub begin : instructions_begin new ≡ 6 + block_count old * 11
  unfolding instructions_begin blocks_begin
  begin = rw blocks_same

  module _ (i : ℕ) (p : i < instruction_count old) where
    abbrev from : ℕ
    from = 6 + block_count old * 11

    abbrev from_old : ℕ
    from_old = instructions_at (layout Old) old

    pub instruction_same : (k : ℕ) → k < 6 → word new (from + i * 7 + k) ≡ word old (from_old + i * 6 + k)
    unfolding block_count instruction_count word
    instruction_same k q =
        same_word old new _ 6 (get_or old 2 0) from_old from (omega arith) (instructions_fit old shaped) (wide_instructions old shaped) i p k q

    pub instruction_last : word new (from + i * 7 + 6) ≡ word old (from_old + i * 6 + 5)
    unfolding block_count instruction_count word
    instruction_last = last_word old new _ 6 (get_or old 2 0) from_old from (omega arith) (instructions_fit old shaped) (wide_instructions old shaped) i p

    instruction_back : (k : ℕ) → k < 6 → back (from + i * 7 + k) ≡ from_old + i * 6 + k
    unfolding instructions_at block_count word
    instruction_back k q =
        sym (place_instruction (block_count old) (instruction_count old) (from + i * 7 + k) (omega arith) (omega arith) (omega arith)) ∙ omega arith

    instruction_rules_lem : instruction_rules new i ≡ old_instruction_rules old i ++ (end_of (old_instruction_word old i 5) ∷ [])
    unfolding instruction_rules instruction_word old_instruction_rules old_instruction_word
    instruction_rules_lem = rw (begin, instruction_same 2 (omega arith), instruction_same 5 (omega arith), operands_same (word old (from_old + i * 6 + 2)), place_is)

    instruction_fits : row_verdict new (from + i * 7) (old_instruction_rules old i) ≡ accepted
        → fits (end_of (old_instruction_word old i 5)) (word new (from + i * 7 + length (old_instruction_rules old i))) ≡ true
    unfolding old_instruction_word old_instruction_rules
    instruction_fits h =
        let first : fits (number largest) (word new (from + i * 7 + 5)) ≡ true = span_fits new (from + i * 7) 5 (old_instruction_rules old i) h (omega arith) in
        rw instruction_last (same_fits false (old_instruction_word old i 5) (rw (instruction_same 5 (omega arith)) at first))

    instruction_moved : row_verdict old (from_old + i * 6) (old_instruction_rules old i) ≡ moved back (row_verdict new (from + i * 7) (instruction_rules new i))
    instruction_moved =
        row_moved old new back (from_old + i * 6) (from + i * 7) (old_instruction_rules old i) (λ k q. instruction_same k (rw (old_instruction_width old i) at q))
        (λ k q. instruction_back k (rw (old_instruction_width old i) at q))
        ∙ ap (moved back) (sym (row_more new (from + i * 7) (old_instruction_rules old i) _ instruction_fits) ∙ ap (row_verdict new (from + i * 7)) (sym instruction_rules_lem))

  -- ---- the other tables

  abbrev cases_new : ℕ
  cases_new = 6 + block_count old * 11 + instruction_count old * 7

  abbrev cases_old : ℕ
  cases_old = cases_at (layout Old) old

  rest_same : (j : ℕ) → word new (cases_new + j) ≡ word old (cases_old + j)
  unfolding block_count instruction_count word
  rest_same j = sym (get_or-drop cases_new new j 0) ∙ rw (wide_rest old shaped) (get_or-drop cases_old old j 0)

  rest_back : (j : ℕ) → back (cases_new + j) ≡ cases_old + j
  unfolding cases_at instructions_at block_count instruction_count word
  rest_back j = sym (place_rest (block_count old) (instruction_count old) (cases_new + j) (omega arith) (omega arith) (omega arith)) ∙ omega arith

  -- a table of the same rules, so many words behind
  rest_rows : (rules rules' : ℕ → List Rule) (width d count : ℕ) → ((i : ℕ) → length (rules i) ≡ width) → ((i : ℕ) → rules' i ≡ rules i)
      → rows_verdict old rules (cases_old + d) 0 count ≡ moved back (rows_verdict new rules' (cases_new + d) 0 count)
  rest_rows rules rules' width d count wide same =
      rows_moved old new back rules rules' width width wide (λ i. ap (λ (l : List Rule). length l) (same i) ∙ wide i) (cases_old + d) (cases_new + d) 0 count (λ i p.
      (rw (same (0 + i)) (row_moved old new back (cases_old + d + i * width) (cases_new + d + i * width) (rules (0 + i))
      (λ k q. rw (there i k, here i k) (rest_same (d + i * width + k)))
      (λ k q. rw (there i k, here i k) (rest_back (d + i * width + k))))))
    where
      there : (i k : ℕ) → cases_new + d + i * width + k ≡ cases_new + (d + i * width + k)
      there i k = omega arith

      here : (i k : ℕ) → cases_old + d + i * width + k ≡ cases_old + (d + i * width + k)
      here i k = omega arith

  case_rules_same : (i : ℕ) → case_rules new i ≡ case_rules old i
  unfolding case_rules
  case_rules_same i = rw (place_or_none_is, block_is)

  place_rules_same : (i : ℕ) → place_rules new i ≡ place_rules old i
  unfolding place_rules
  place_rules_same i = rw identifiers_same

  identifier_rules_same : (i : ℕ) → identifier_rules new i ≡ identifier_rules old i
  unfolding identifier_rules
  identifier_rules_same i = refl

  -- where the tables begin
  cases_begin_lem : cases_begin new ≡ cases_new + 0
  unfolding cases_begin
  cases_begin_lem = rw (begin, instructions_same) (omega arith)

  places_begin_lem : places_begin new ≡ cases_new + case_count old * 2
  unfolding places_begin cases_begin
  places_begin_lem = rw (begin, instructions_same, cases_same)

  identifiers_begin_lem : identifiers_begin new ≡ cases_new + (case_count old * 2 + place_count old)
  unfolding identifiers_begin
  identifiers_begin_lem = rw (places_begin_lem, places_same) (omega arith)

  old_cases : cases_at (layout Old) old ≡ cases_old + 0
  old_cases = omega arith

  old_places : places_at (layout Old) old ≡ cases_old + case_count old * 2
  unfolding places_at case_count word
  old_places = refl

  old_identifiers : identifiers_at (layout Old) old ≡ cases_old + (case_count old * 2 + place_count old)
  unfolding identifiers_at places_at case_count place_count word
  old_identifiers = omega arith

  -- ---- the words

  blocks_moved : rows_verdict old (old_block_rules old) 6 0 (block_count old) ≡ moved back (rows_verdict new (block_rules new) blocks_begin 0 (block_count new))
  unfolding blocks_begin
  blocks_moved =
      rw blocks_same
      (rows_moved old new back (old_block_rules old) (block_rules new) 10 11 (old_block_width old) (block_width new) 6 6 0 (block_count old) (λ b p. rw (zero-add b) (block_moved b p)))

  instructions_moved : rows_verdict old (old_instruction_rules old) (instructions_at (layout Old) old) 0 (instruction_count old)
      ≡ moved back (rows_verdict new (instruction_rules new) (instructions_begin new) 0 (instruction_count new))
  instructions_moved =
      rw (begin, instructions_same)
      (rows_moved old new back (old_instruction_rules old) (instruction_rules new) 6 7 (old_instruction_width old) (instruction_width new)
      (instructions_at (layout Old) old) (6 + block_count old * 11) 0 (instruction_count old)
      (λ i p. rw (zero-add i) (instruction_moved i p)))

  cases_moved : rows_verdict old (case_rules old) (cases_at (layout Old) old) 0 (case_count old) ≡ moved back (rows_verdict new (case_rules new) (cases_begin new) 0 (case_count new))
  cases_moved =
      rw (cases_begin_lem, cases_same) (ap (λ (at : ℕ). rows_verdict old (case_rules old) at 0 (case_count old)) old_cases ∙ rest_rows (case_rules old) (case_rules new)
      2 0 (case_count old) (case_width old) case_rules_same)

  places_moved : rows_verdict old (place_rules old) (places_at (layout Old) old) 0 (place_count old) ≡ moved back (rows_verdict new (place_rules new) (places_begin new) 0 (place_count new))
  places_moved = rw (places_begin_lem, places_same, old_places) (rest_rows (place_rules old) (place_rules new) 1 (case_count old * 2) (place_count old) (place_width old) place_rules_same)

  identifiers_moved : rows_verdict old (identifier_rules old) (identifiers_at (layout Old) old) 0 (identifier_count old)
      ≡ moved back (rows_verdict new (identifier_rules new) (identifiers_begin new) 0 (identifier_count new))
  identifiers_moved =
      rw (identifiers_begin_lem, identifiers_same, old_identifiers)
      (rest_rows (identifier_rules old) (identifier_rules new) 1 (case_count old * 2 + place_count old) (identifier_count old) (identifier_width old) identifier_rules_same)

  words_moved : old_words_verdict old ≡ moved back (words_verdict new)
  unfolding old_words_verdict words_verdict
  words_moved =
      rw (moved_then, moved_then, moved_then, moved_then, ← blocks_moved, ← instructions_moved, ← cases_moved, ← places_moved, ← identifiers_moved)

  -- ---- the whole

  counts_same : (at : ℕ) (limits : List ℕ) → 1 ≤ at → at + length limits ≤ 6 → counts_verdict old at limits ≡ moved back (counts_verdict new at limits)
  unfolding counts_verdict moved
  counts_same at [] p q = refl
  counts_same at (limit ∷ limits) p q =
      by (leb (word old at) limit) (leb (word new at) limit) (ap (λ (n : ℕ). leb n limit) (head_same at (omega arith))) (counts_same (suc at) limits (omega arith) (omega arith))
      (place_head (block_count old) (instruction_count old) at (omega arith))
    where
      by : (b b' : Bool) → b' ≡ b → counts_verdict old (suc at) limits ≡ moved back (counts_verdict new (suc at) limits) → at ≡ back at
          → elim b [ true ↦ counts_verdict old (suc at) limits | false ↦ refused 2 at ] ≡ moved back (elim b' [ true ↦ counts_verdict new (suc at) limits | false ↦ refused 2 at ])
      by true true e next here = next
      by false false e next here = ap (refused 2) here
      by true false e next here = absurd (let z : ◌≡◌ {A = ℕ} 0 1 = cc in omega arith)
      by false true e next here = absurd (let z : ◌≡◌ {A = ℕ} 0 1 = cc in omega arith)

  entry_same : entry_word new ≡ entry_word old
  unfolding entry_word
  entry_same = head_same 0 (omega arith)

  new_long : length new ≡ words_needed new
  unfolding end_at identifiers_at places_at cases_at instructions_at words_needed identifiers_begin places_begin cases_begin instructions_begin blocks_begin block_count
      instruction_count case_count place_count identifier_count word
  new_long = omega (arith, (wide_shaped old shaped).long)

  pub checked_moved : old_checked old ≡ moved back (checked new)
  checked_moved =
      old_whole old
      ∙ whole_moved back _ _ _ _ _ _ _ _ _ _
      (le-ltb (length old) 6 shaped.head) (le-ltb (length new) 6 (wide_shaped old shaped).head) (counts_same 1 limits (omega arith) (omega arith))
      (eq-eqb (length old) (end_at (layout Old) old) shaped.long) (eq-eqb (length new) (words_needed new) new_long) (rw (entry_same, blocks_same)) words_moved
      (place_head (block_count old) (instruction_count old) 0 (omega arith))
      ∙ ap (moved back) (sym (new_whole new))

  -- what widened words give is what the old ones give
  pub wide_converted : (lent : ℕ) → of_wide new lent ≡ new_of_old old lent
  unfolding new_of_old
  wide_converted lent = rw (blocks_same, instructions_same) (ap (λ (v : Verdict). unless_refused v lent (table_text new)) (sym checked_moved))
