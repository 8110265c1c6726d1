-- A run does not look at a PLAIN's column or a jump's id: the tree with row numbers runs as the tree does, and performs the rows that hold what the tree performs.
use mathlib.Core.Path.{◌≡◌, refl, sym, ap, ◌∙◌, subst}
use Prim.Native.Nat.{ℕ, zero, suc, ◌+◌}
use mathlib.Core.List.{List, [], ◌∷◌, ◌++◌, map}
use mathlib.Core.Option.{Option, none, some}
use mathlib.Core.Bool.{Bool, true, false}
use lib.ListN.{length, length-append}
use Rattle.definition.specs.Tree.{Kind, implicit, labeled, unlabeled, Value, PLAIN, LOAD, UNDEF, SEQ, LOGICAL, COND, OPTIONAL, Instructions, no_instructions}
use Rattle.definition.specs.Tree.{instruction, Statement, INSTR, IF, SWITCH, DOWHILE, WHILE, FOR, FOROF, FORIN, LABEL, TRY, SCOPE, RETURN, THROW, BREAK}
use Rattle.definition.specs.Tree.{CONTINUE, Statements, done, ◌▸◌, Cases, no_cases, CASE, Row, row, instr_row, or_none, value_rows}
use Rattle.definition.specs.Tree.{instructions_rows, count_instructions, count_statements, count_cases, statement_rows, statements_rows, block_rows, cases_rows}
use Rattle.definition.specs.Reading.{WellFormedStatement, WellFormed, WellFormedCases}
use Rattle.definition.specs.Run.{Answers, Reason}
use Rattle.definition.specs.Completion.{Completion, normal, break, continue, stop, contains, label_set, loop_continues, breakable, labelled}
use Rattle.definition.specs.TreeRun.{entry_at, choose_place, switch_ends, entries_from, Completed, completed, completing, prefix, then_on, then, choose, performs}
use Rattle.definition.specs.TreeRun.{performs_all, after_body, while_rounds, while_loop, for_loop, do_while_loop, jump_completion, loop, run_statement}
use Rattle.definition.specs.TreeRun.{run_statements}
use Rattle.tree_runs.specs.Numbered.{close_value, end_instructions, close_statement, end_statements, numbered_value, numbered_instructions}
use Rattle.tree_runs.specs.Numbered.{numbered_statement, numbered, numbered_cases}
use Rattle.tree_runs.specs.Links.{Links}
use Rattle.tree_runs.proofs.Lays.{Stand, onward, the_row, value_at, instructions_at, statement_at, block_at_lem}

-- completions that differ at most in the jump's id
pub data AlikeEnds : Completion → Completion → Type 0 where
  both_normal : AlikeEnds normal normal
  both_break : {t : Option ℕ} {i j : ℕ} → AlikeEnds (break t i) (break t j)
  both_continue : {t : Option ℕ} {i j : ℕ} → AlikeEnds (continue t i) (continue t j)
  both_stop : {r : Reason} → AlikeEnds (stop r) (stop r)

breakable_alike : {c c' : Completion} → AlikeEnds c c' → AlikeEnds (breakable c) (breakable c')
unfolding breakable
breakable_alike both_normal = both_normal
breakable_alike (both_break {t = none}) = both_normal
breakable_alike (both_break {t = some x}) = both_break
breakable_alike both_continue = both_continue
breakable_alike both_stop = both_stop

labelled_alike : (l : Option ℕ) {c c' : Completion} → AlikeEnds c c' → AlikeEnds (labelled l c) (labelled l c')
unfolding labelled
labelled_alike l both_normal = both_normal
labelled_alike l (both_break {t = none}) = both_break
labelled_alike l (both_break {t = some x} {i = i} {j = j}) = at (contains (label_set l) x)
  where
    at : (y : Bool) → AlikeEnds (elim y [ true ↦ normal | false ↦ break (some x) i ]) (elim y [ true ↦ normal | false ↦ break (some x) j ])
    at true = both_normal
    at false = both_break
labelled_alike l both_continue = both_continue
labelled_alike l both_stop = both_stop

continues_alike : (l : List ℕ) {c c' : Completion} → AlikeEnds c c' → loop_continues c' l ≡ loop_continues c l
unfolding loop_continues
continues_alike l both_normal = refl
continues_alike l both_break = refl
continues_alike l (both_continue {t = none}) = refl
continues_alike l (both_continue {t = some x}) = refl
continues_alike l both_stop = refl

map_append : (g : ℕ → ℕ) (a b : List ℕ) → map g (a ++ b) ≡ map g a ++ map g b
map_append g [] b = refl
map_append g (x ∷ a) b = ap (λ (z : List ℕ). g x ∷ z) (map_append g a b)

abbrev column_of : Row → ℕ
column_of (row op a b c d e) = a

-- `Im xs xs'`: the rows xs performed by one run stand for the rows xs' performed by the other
module _ (Im : List ℕ → List ℕ → Type 0) where
  pub record Alike (o o' : Completed) : Type 0 where
    pub rows : Im o.rows o'.rows
    pub left : o'.left ≡ o.left
    pub ends : AlikeEnds o.completion o'.completion

  abbrev pub AlikeRuns : (k k' : Answers → Completed) → Type 0
  AlikeRuns k k' = (a : Answers) → Alike (k a) (k' a)

module _ (Im : List ℕ → List ℕ → Type 0) (im_none : Im [] []) (im_both : (xs xs' ys ys' : List ℕ) → Im xs xs' → Im ys ys' → Im (xs ++ ys) (xs' ++ ys')) where
  prefix_alike : (xs xs' : List ℕ) (o o' : Completed) → Im xs xs' → Alike Im o o' → Alike Im (prefix xs o) (prefix xs' o')
  unfolding prefix completed
  prefix_alike xs xs' o o' p h = record { rows = im_both xs xs' o.rows o'.rows p h.rows; left = h.left; ends = h.ends }

  completing_alike : (f : Completion → Completion) → ((c c' : Completion) → AlikeEnds c c' → AlikeEnds (f c) (f c')) → (o o' : Completed) → Alike Im o o' → Alike Im (completing f o) (completing f o')
  unfolding completing completed
  completing_alike f e o o' h = record { rows = h.rows; left = h.left; ends = e o.completion o'.completion h.ends }

  go_on : (k k' : Answers → Completed) → AlikeRuns Im k k' → (o o' : Completed) → Alike Im o o' → Alike Im (k o.left) (k' o'.left)
  go_on k k' h o o' q = subst (λ (z : Answers). Alike Im (k o.left) (k' z)) (sym q.left) (h o.left)

  then_alike : (o o' : Completed) (k k' : Answers → Completed) → Alike Im o o' → AlikeRuns Im k k' → Alike Im (then o k) (then o' k')
  unfolding then
  then_alike o o' k k' h q = on o.completion o'.completion h.ends
    where
      on : (c c' : Completion) → AlikeEnds c c' → Alike Im (then_on c o k) (then_on c' o' k')
      on normal normal both_normal = unfold then_on in prefix_alike o.rows o'.rows (k o.left) (k' o'.left) h.rows (go_on k k' q o o' h)
      on (break x i) (break y j) both_break = unfold then_on in h
      on (continue x i) (continue y j) both_continue = unfold then_on in h
      on (stop r) (stop s) both_stop = unfold then_on in h
      on normal (break y j) e = elim e [ ]
      on normal (continue y j) e = elim e [ ]
      on normal (stop s) e = elim e [ ]
      on (break x i) normal e = elim e [ ]
      on (break x i) (continue y j) e = elim e [ ]
      on (break x i) (stop s) e = elim e [ ]
      on (continue x i) normal e = elim e [ ]
      on (continue x i) (break y j) e = elim e [ ]
      on (continue x i) (stop s) e = elim e [ ]
      on (stop r) normal e = elim e [ ]
      on (stop r) (break y j) e = elim e [ ]
      on (stop r) (continue y j) e = elim e [ ]

  choose_alike : (y y' n n' : Answers → Completed) → AlikeRuns Im y y' → AlikeRuns Im n n' → AlikeRuns Im (choose y n) (choose y' n')
  unfolding choose completed
  choose_alike y y' n n' p q [] = record { rows = im_none; left = refl; ends = both_stop }
  choose_alike y y' n n' p q (zero ∷ a) = q a
  choose_alike y y' n n' p q (suc m ∷ a) = p a

  nothing_alike : AlikeRuns Im (λ z. completed [] normal z) (λ z. completed [] normal z)
  unfolding completed
  nothing_alike a = record { rows = im_none; left = refl; ends = both_normal }

  after_alike : (l : List ℕ) (o o' : Completed) (k k' : Answers → Completed) → Alike Im o o' → AlikeRuns Im k k' → Alike Im (after_body l o k) (after_body l o' k')
  unfolding after_body
  after_alike l o o' k k' h q =
      subst (λ (y : Bool). Alike Im (elim (loop_continues o.completion l) [ true ↦ prefix o.rows (k o.left) | false ↦ o ])
      (elim y [ true ↦ prefix o'.rows (k' o'.left) | false ↦ o' ])) (sym (continues_alike l h.ends))
      (on (loop_continues o.completion l))
    where
      on : (y : Bool) → Alike Im (elim y [ true ↦ prefix o.rows (k o.left) | false ↦ o ]) (elim y [ true ↦ prefix o'.rows (k' o'.left) | false ↦ o' ])
      on true = prefix_alike o.rows o'.rows (k o.left) (k' o'.left) h.rows (go_on k k' q o o' h)
      on false = h

  module _ (l : List ℕ) (body body' : Answers → Completed) (h : AlikeRuns Im body body') where
    rounds_alike : (xs xs' : List ℕ) → Im xs xs' → (n : ℕ) → AlikeRuns Im (while_rounds l xs body n) (while_rounds l xs' body' n)
    unfolding while_rounds completed
    rounds_alike xs xs' p zero a = record { rows = p; left = refl; ends = both_stop }
    rounds_alike xs xs' p (suc n) a =
        prefix_alike xs xs' _ _ p
        (choose_alike (λ z. after_body l (body z) (λ z'. while_rounds l xs body n z')) (λ z. after_body l (body' z) (λ z'. while_rounds l xs' body' n z'))
        (λ z. completed [] normal z) (λ z. completed [] normal z)
        (λ z. after_alike l (body z) (body' z) (λ z'. while_rounds l xs body n z') (λ z'. while_rounds l xs' body' n z') (h z) (λ z'. rounds_alike xs xs' p n z')) nothing_alike a)

    while_alike : (xs xs' : List ℕ) → Im xs xs' → AlikeRuns Im (while_loop l xs body) (while_loop l xs' body')
    unfolding while_loop
    while_alike xs xs' p a = rounds_alike xs xs' p (length a) a

    for_alike : (xs xs' ys ys' : List ℕ) → Im xs xs' → Im ys ys' → AlikeRuns Im (for_loop l xs ys body) (for_loop l xs' ys' body')
    unfolding for_loop
    for_alike xs xs' ys ys' p q a =
        prefix_alike xs xs' _ _ p
        (choose_alike (λ z. after_body l (body z) (λ z'. while_loop l (ys ++ xs) body z')) (λ z. after_body l (body' z) (λ z'. while_loop l (ys' ++ xs') body' z'))
        (λ z. completed [] normal z) (λ z. completed [] normal z)
        (λ z. after_alike l (body z) (body' z) (λ z'. while_loop l (ys ++ xs) body z') (λ z'. while_loop l (ys' ++ xs') body' z') (h z)
        (while_alike (ys ++ xs) (ys' ++ xs') (im_both ys ys' xs xs' q p))) nothing_alike a)

    do_while_alike : (xs xs' : List ℕ) → Im xs xs' → AlikeRuns Im (do_while_loop l xs body) (do_while_loop l xs' body')
    unfolding do_while_loop
    do_while_alike xs xs' p a = after_alike l (body a) (body' a) (λ z. while_loop l xs body z) (λ z. while_loop l xs' body' z) (h a) (while_alike xs xs' p)

  loop_alike : (l : Option ℕ) (o o' : Completed) → Alike Im o o' → Alike Im (loop l o) (loop l o')
  unfolding loop
  loop_alike l o o' h = completing_alike (λ c. labelled l (breakable c)) (λ c c' e. labelled_alike l (breakable_alike e)) o o' h

  switch_alike : (l : Option ℕ) (o o' : Completed) → Alike Im o o' → Alike Im (switch_ends l o) (switch_ends l o')
  unfolding switch_ends
  switch_alike l o o' h = completing_alike (λ c. labelled l (breakable c)) (λ c c' e. labelled_alike l (breakable_alike e)) o o' h

  abbrev AllAlike : (es es' : List (Answers → Completed)) → Type 0
  AllAlike [] [] = Unit {0}
  AllAlike [] (e ∷ es) = ⊥
  AllAlike (e ∷ es) [] = ⊥
  AllAlike (e ∷ es) (e' ∷ es') = AlikeRuns Im e e' × AllAlike es es'

  entry_alike : (es es' : List (Answers → Completed)) → AllAlike es es' → (place : ℕ) → AlikeRuns Im (entry_at es place) (entry_at es' place)
  unfolding entry_at
  entry_alike [] [] h place a = nothing_alike a
  entry_alike [] (e ∷ es) h place a = absurd h
  entry_alike (e ∷ es) [] h place a = absurd h
  entry_alike (e ∷ es) (e' ∷ es') (h, q) zero a = h a
  entry_alike (e ∷ es) (e' ∷ es') (h, q) (suc place) a = entry_alike es es' q place a

  place_alike : (es es' : List (Answers → Completed)) → AllAlike es es' → AlikeRuns Im (choose_place es) (choose_place es')
  unfolding choose_place completed
  place_alike es es' h [] = record { rows = im_none; left = refl; ends = both_stop }
  place_alike es es' h (place ∷ a) = entry_alike es es' h place a

  leaf_alike : (c c' : Completion) → AlikeEnds c c' → AlikeRuns Im (λ a. completed [] c a) (λ a. completed [] c' a)
  unfolding completed
  leaf_alike c c' h a = record { rows = im_none; left = refl; ends = h }

  instr_alike : (xs xs' : List ℕ) → Im xs xs' → AlikeRuns Im (λ a. completed xs normal a) (λ a. completed xs' normal a)
  unfolding completed
  instr_alike xs xs' p a = record { rows = p; left = refl; ends = both_normal }

  break_alike : (k : Kind) (x i j : ℕ) → AlikeEnds (jump_completion k x i break) (jump_completion k x j break)
  unfolding jump_completion
  break_alike implicit x i j = both_normal
  break_alike labeled x i j = both_break
  break_alike unlabeled x i j = both_break

  continue_alike : (k : Kind) (x i j : ℕ) → AlikeEnds (jump_completion k x i continue) (jump_completion k x j continue)
  unfolding jump_completion
  continue_alike implicit x i j = both_normal
  continue_alike labeled x i j = both_continue
  continue_alike unlabeled x i j = both_continue

  -- ---- the tree: `At f list` is what is known of the rows from row f on

  module _ (At : ℕ → List Row → Type 0) (step : (f : ℕ) (r : Row) (list : List Row) → At f (r ∷ list) → At (suc f) list)
      (value_im : (v : Value) (f : ℕ) (after : List Row) → At f (value_rows v after) → Im (performs v) (performs (numbered_value f v)))
      (after_value : (v : Value) (f : ℕ) (after : List Row) → At f (value_rows v after) → At (suc (close_value f v)) after)
      (after_statement : (s : Statement) (f : ℕ) (after : List Row) → WellFormedStatement s → At f (statement_rows s after) → At (suc (close_statement f s)) after)
      (after_block : (ss : Statements) (f : ℕ) (after : List Row) → WellFormed ss → At f (block_rows ss after) → At (suc (end_statements f ss)) after) where
    mutual
      unfolding run_statement run_statements entries_from numbered_statement numbered numbered_cases WellFormedStatement WellFormed WellFormedCases

      statement_alike : (s : Statement) (f : ℕ) (after : List Row) → WellFormedStatement s → At f (statement_rows s after) → (a : Answers)
          → Alike Im (run_statement s a) (run_statement (numbered_statement f s) a)
      statement_alike (INSTR i l s v) f after w h a = instr_alike (performs v) _ (value_im v f (instr_row i l s ∷ after) h) a
      statement_alike (IF x i l c true y) f after (wl, wc, wa, we) h a =
          completing_alike (labelled l) (λ c c' e. labelled_alike l e) _ _
          (choose_alike (λ z. run_statements c z) _ (λ z. run_statements y z) _ (λ z. tree_alike c f (block_rows y (row 10 x 1 i (or_none l) 0 ∷ after)) wc h z)
          (λ z. tree_alike y (suc (end_statements f c)) (row 10 x 1 i (or_none l) 0 ∷ after) wa (after_block c f (block_rows y (row 10 x 1 i (or_none l) 0 ∷ after)) wc h) z) a)
      statement_alike (IF x i l c false y) f after (wl, wc, wa, we) h a =
          completing_alike (labelled l) (λ c c' e. labelled_alike l e) _ _
          (choose_alike (λ z. run_statements c z) _ (λ z. completed [] normal z) _ (λ z. tree_alike c f (row 10 x 0 i (or_none l) 0 ∷ after) wc h z) nothing_alike a)
      statement_alike (SWITCH x i l cs) f after (wl, wc) h a =
          switch_alike l _ _ (place_alike (entries_from cs (λ z. completed [] normal z) []) _
          (cases_alike cs f (row 12 x (count_cases cs) i (or_none l) 0 ∷ after) wc h (λ z. completed [] normal z) (λ z. completed [] normal z) nothing_alike [] [] tt) a)
      statement_alike (DOWHILE i l b x) f after (wl, wb) h a =
          loop_alike l _ _ (do_while_alike (label_set l) (λ z. run_statements b z) _ (λ z. tree_alike b f (value_rows x (row 13 i (or_none l) 0 0 0 ∷ after)) wb h z) (performs x) _
          (value_im x (suc (end_statements f b)) (row 13 i (or_none l) 0 0 0 ∷ after) (after_block b f (value_rows x (row 13 i (or_none l) 0 0 0 ∷ after)) wb h)) a)
      statement_alike (WHILE i l x b) f after (wl, wb) h a =
          loop_alike l _ _ (while_alike (label_set l) (λ z. run_statements b z) _
          (λ z. tree_alike b (suc (close_value f x)) (row 14 i (or_none l) 0 0 0 ∷ after) wb
          (after_value x f (block_rows b (row 14 i (or_none l) 0 0 0 ∷ after)) h) z)
          (performs x) _ (value_im x f (block_rows b (row 14 i (or_none l) 0 0 0 ∷ after)) h) a)
      statement_alike (FOR i l n x none b) f after (wl, wb) h a =
          let e = block_rows b (row 15 i (or_none l) 0 0 0 ∷ after) in
          let p = after_value n f (value_rows x e) h in
          let q = after_value x (suc (close_value f n)) e p in
          prefix_alike (performs n) _ _ _ (value_im n f (value_rows x e) h)
          (loop_alike l _ _ (for_alike (label_set l) (λ z. run_statements b z) _ (λ z. tree_alike b (suc (close_value (suc (close_value f n)) x)) (row 15 i (or_none l) 0 0 0 ∷ after) wb q z)
          (performs x) _ [] [] (value_im x (suc (close_value f n)) e p) im_none a))
      statement_alike (FOR i l n x (some o) b) f after (wl, wb) h a =
          let e = block_rows b (row 15 i (or_none l) 1 0 0 ∷ after) in
          let p = after_value n f (value_rows x (value_rows o e)) h in
          let q = after_value x (suc (close_value f n)) (value_rows o e) p in
          let r = after_value o (suc (close_value (suc (close_value f n)) x)) e q in
          prefix_alike (performs n) _ _ _ (value_im n f (value_rows x (value_rows o e)) h)
          (loop_alike l _ _ (for_alike (label_set l) (λ z. run_statements b z) _
          (λ z. tree_alike b (suc (close_value (suc (close_value (suc (close_value f n)) x)) o)) (row 15 i (or_none l) 1 0 0 ∷ after) wb r z)
          (performs x) _ (performs o) _ (value_im x (suc (close_value f n)) (value_rows o e) p) (value_im o (suc (close_value (suc (close_value f n)) x)) e q) a))
      statement_alike (FOROF i l s n x b) f after w h a = leaf_alike _ _ both_stop a
      statement_alike (FORIN i l s n b) f after w h a = leaf_alike _ _ both_stop a
      statement_alike (LABEL i l b) f after (wl, wb) h a = completing_alike (labelled l) (λ c c' e. labelled_alike l e) _ _ (tree_alike b f (row 18 i (or_none l) 0 0 0 ∷ after) wb h a)
      statement_alike (TRY i l n b c) f after w h a = leaf_alike _ _ both_stop a
      statement_alike (SCOPE true s b) f after w h a = tree_alike b f (row 21 s 0 0 0 0 ∷ after) w h a
      statement_alike (SCOPE false s b) f after w h a = tree_alike b f (row 20 s 0 0 0 0 ∷ after) w h a
      statement_alike (RETURN v i) f after w h a = leaf_alike _ _ both_stop a
      statement_alike (THROW v i) f after w h a = leaf_alike _ _ both_stop a
      statement_alike (BREAK x i k n) f after w h a = leaf_alike _ _ (break_alike k x i f) a
      statement_alike (CONTINUE x i k n) f after w h a = leaf_alike _ _ (continue_alike k x i f) a

      pub tree_alike : (ss : Statements) (f : ℕ) (after : List Row) → WellFormed ss → At f (block_rows ss after) → (a : Answers)
          → Alike Im (run_statements ss a) (run_statements (numbered f ss) a)
      tree_alike done f after w h a = nothing_alike a
      tree_alike (s ▸ r) f after (ws, wr) h a =
          then_alike _ _ (λ z. run_statements r z) _ (statement_alike s f (statements_rows r (row 9 (suc (count_statements r)) 0 0 0 0 ∷ after)) ws h a)
          (λ z. list_alike r (suc (close_statement f s)) (row 9 (suc (count_statements r)) 0 0 0 0 ∷ after) wr
          (after_statement s f (statements_rows r (row 9 (suc (count_statements r)) 0 0 0 0 ∷ after)) ws h) z)

      list_alike : (ss : Statements) (f : ℕ) (after : List Row) → WellFormed ss → At f (statements_rows ss after) → (a : Answers)
          → Alike Im (run_statements ss a) (run_statements (numbered f ss) a)
      list_alike done f after w h a = nothing_alike a
      list_alike (s ▸ r) f after (ws, wr) h a =
          then_alike _ _ (λ z. run_statements r z) _ (statement_alike s f (statements_rows r after) ws h a)
          (λ z. list_alike r (suc (close_statement f s)) after wr (after_statement s f (statements_rows r after) ws h) z)

      cases_alike : (cs : Cases) (f : ℕ) (after : List Row) → WellFormedCases cs → At f (cases_rows cs after) → (k k' : Answers → Completed) → AlikeRuns Im k k'
          → (es es' : List (Answers → Completed)) → AllAlike es es' → AllAlike (entries_from cs k es) (entries_from (numbered_cases f cs) k' es')
      cases_alike no_cases f after w h k k' q es es' p = p
      cases_alike (CASE x b r) f after (wb, wr) h k k' q es es' p =
          let entry : AlikeRuns Im (λ z. then (run_statements b z) k) (λ z. then (run_statements (numbered f b) z) k')
          = λ z. then_alike (run_statements b z) (run_statements (numbered f b) z) k k' (tree_alike b f (row 11 x 0 0 0 0 ∷ cases_rows r after) wb h z) q in
          cases_alike r (suc (suc (end_statements f b))) after wr
          (step (suc (end_statements f b)) (row 11 x 0 0 0 0) (cases_rows r after) (after_block b f (row 11 x 0 0 0 0 ∷ cases_rows r after) wb h))
          (λ z. then (run_statements b z) k) (λ z. then (run_statements (numbered f b) z) k') entry ((λ z. then (run_statements b z) k) ∷ es)
          ((λ z. then (run_statements (numbered f b) z) k') ∷ es') (entry, p)

-- ---- rows that stand with their links: the tree with row numbers performs the rows that hold what the tree performs

module _ (row_at : ℕ → Row) (t : Links) (number : ℕ) where
  -- the instruction that a PLAIN's row performs
  abbrev pub instruction_at : ℕ → ℕ
  instruction_at k = column_of (row_at k)

  -- the rows xs' hold the instructions xs
  pub record Image (xs xs' : List ℕ) : Type 0 where
    pub same : map instruction_at xs' ≡ xs

  image_both : {xs xs' ys ys' : List ℕ} → Image xs xs' → Image ys ys' → Image (xs ++ ys) (xs' ++ ys')
  image_both {xs} {xs'} {ys} {ys'} p q =
      record { same = map_append instruction_at xs' ys' ∙ (ap (λ (z : List ℕ). z ++ map instruction_at ys') p.same ∙ ap (λ (z : List ℕ). xs ++ z) q.same) }

  image_none : Image [] []
  image_none = record { same = refl }

  mutual
    value_image : (v : Value) (f : ℕ) (after : List Row) → Stand row_at t number f (value_rows v after) → Image (performs v) (performs (numbered_value f v))
    value_image (PLAIN n) f after h = record { same = ap (λ (z : Row). column_of z ∷ []) (the_row row_at t number h) }
    value_image (LOAD n) f after h = image_none
    value_image (UNDEF n) f after h = image_none
    value_image (SEQ is i v) f after h =
        image_both (instructions_image is f (value_rows v (row 5 (count_instructions is) i 0 0 0 ∷ after)) h)
        (value_image v (end_instructions f is) (row 5 (count_instructions is) i 0 0 0 ∷ after)
        (instructions_at row_at t number is f (value_rows v (row 5 (count_instructions is) i 0 0 0 ∷ after)) h).rest)
    value_image (LOGICAL o l r) f after h =
        image_both (value_image l f (value_rows r (row 6 o 0 0 0 0 ∷ after)) h)
        (value_image r (suc (close_value f l)) (row 6 o 0 0 0 0 ∷ after) (value_at row_at t number l f (value_rows r (row 6 o 0 0 0 0 ∷ after)) h).rest)
    value_image (COND x y z) f after h =
        let p = (value_at row_at t number x f (value_rows y (value_rows z (row 7 0 0 0 0 0 ∷ after))) h).rest in
        let q = (value_at row_at t number y (suc (close_value f x)) (value_rows z (row 7 0 0 0 0 0 ∷ after)) p).rest in
        image_both
        (image_both (value_image x f (value_rows y (value_rows z (row 7 0 0 0 0 0 ∷ after))) h) (value_image y (suc (close_value f x)) (value_rows z (row 7 0 0 0 0 0 ∷ after)) p))
        (value_image z (suc (close_value (suc (close_value f x)) y)) (row 7 0 0 0 0 0 ∷ after) q)
    value_image (OPTIONAL g v) f after h = value_image v f (row 8 g 0 0 0 0 ∷ after) h

    instructions_image : (is : Instructions) (f : ℕ) (after : List Row) → Stand row_at t number f (instructions_rows is after) → Image (performs_all is) (performs_all (numbered_instructions f is))
    instructions_image no_instructions f after h = image_none
    instructions_image (instruction i l s v r) f after h =
        image_both (value_image v f (instr_row i l s ∷ instructions_rows r after) h)
        (instructions_image r (suc (suc (close_value f v))) after (onward row_at t number (value_at row_at t number v f (instr_row i l s ∷ instructions_rows r after) h).rest))

  pub block_alike : (ss : Statements) (f : ℕ) (after : List Row) → WellFormed ss → Stand row_at t number f (block_rows ss after) → (a : Answers)
      → Alike Image (run_statements ss a) (run_statements (numbered f ss) a)
  block_alike ss f after w h a =
      tree_alike Image image_none (λ xs xs' ys ys' p q. image_both p q) (λ g list. Stand row_at t number g list) (λ g r list k. onward row_at t number k)
      (λ v g rest k. value_image v g rest k) (λ v g rest k. (value_at row_at t number v g rest k).rest) (λ s g rest z k. (statement_at row_at t number s g rest z k).rest)
      (λ z g rest y k. (block_at_lem row_at t number z g rest y k).rest) ss f after w h a

-- ---- any tree and the same with row numbers: as many rows are performed, and the ends are alike

pub record SameLength (xs xs' : List ℕ) : Type 0 where
  pub same : length xs' ≡ length xs

same_none : SameLength [] []
same_none = record { same = refl }

same_both : {xs xs' ys ys' : List ℕ} → SameLength xs xs' → SameLength ys ys' → SameLength (xs ++ ys) (xs' ++ ys')
same_both {xs} {xs'} {ys} {ys'} p q =
    record { same = length-append xs' ys' ∙ (ap (λ (n : ℕ). n + length ys') p.same ∙ (ap (λ (n : ℕ). length xs + n) q.same ∙ sym (length-append xs ys))) }

mutual
  value_length : (v : Value) (f : ℕ) → SameLength (performs v) (performs (numbered_value f v))
  value_length (PLAIN n) f = record { same = refl }
  value_length (LOAD n) f = same_none
  value_length (UNDEF n) f = same_none
  value_length (SEQ is i v) f = same_both (instructions_length is f) (value_length v (end_instructions f is))
  value_length (LOGICAL o l r) f = same_both (value_length l f) (value_length r (suc (close_value f l)))
  value_length (COND x y z) f =
      same_both (same_both (value_length x f) (value_length y (suc (close_value f x)))) (value_length z (suc (close_value (suc (close_value f x)) y)))
  value_length (OPTIONAL g v) f = value_length v f

  instructions_length : (is : Instructions) (f : ℕ) → SameLength (performs_all is) (performs_all (numbered_instructions f is))
  instructions_length no_instructions f = same_none
  instructions_length (instruction i l s v r) f = same_both (value_length v f) (instructions_length r (suc (suc (close_value f v))))

pub numbered_alike : (ss : Statements) → WellFormed ss → (a : Answers) → Alike SameLength (run_statements ss a) (run_statements (numbered 0 ss) a)
numbered_alike ss w a =
    tree_alike SameLength same_none (λ xs xs' ys ys' p q. same_both p q) (λ f list. Unit {0}) (λ f r list h. tt) (λ v f rest h. value_length v f) (λ v f rest h. tt)
    (λ s f rest z h. tt) (λ z f rest y h. tt) ss 0 [] w tt a
