-- On a tree that has none of the new statements and values, and where every row is seen, the wide tree run is the tree run. For proofs/Law.
use mathlib.Core.Path.{◌≡◌, refl, sym, ap, ◌∙◌}
use Prim.Native.Nat.{ℕ, zero, suc}
use mathlib.Core.List.{List, [], ◌∷◌, ◌++◌, append-nil, append_assoc}
use mathlib.Core.Option.{Option, none, some}
use mathlib.Core.Bool.{Bool, true, false, ◌&&◌, cond}
use lib.ListN.{length}
use Rattle.definition.specs.Tree.{Value, PLAIN, LOAD, UNDEF, SEQ, LOGICAL, COND, OPTIONAL, Instructions, no_instructions, instruction, Statement, INSTR, IF, SWITCH, DOWHILE}
use Rattle.definition.specs.Tree.{WHILE, FOR, FOROF, FORIN, LABEL, TRY, SCOPE, RETURN, THROW, BREAK, CONTINUE, Statements, done, ◌▸◌, Cases, no_cases, CASE}
use Rattle.definition.specs.Run.{Answers, no_answer_left, Run, stopped}
use Rattle.definition.specs.Completion.{Completion, normal, break, continue, stop, label_set, loop_continues, labelled}
use Rattle.definition.specs.TreeRun.{Completed, completed, completing, prefix, then_on, then, choose, performs, performs_all, after_body, while_rounds, while_loop, for_loop}
use Rattle.definition.specs.TreeRun.{do_while_loop, performs_update, loop, switch_ends, entry_at, choose_place, run_statement, run_statements, entries_from, reason_of, tree_run}
use Rattle.definition.specs.ValueEnds.{seen_rows}
use Rattle.definition.specs.ValueRun.{in_whole, Valued, valued, value_prefix, then_value_on, then_value, is_load, is_link, run_value, run_all}
use Rattle.definition.specs.WideTreeRun.{after_value_on, after_value, wide_rounds, wide_while, wide_for, wide_do_while, run_update, wide_statement, wide_statements, wide_entries, wide_tree_run}
use Rattle.definition.proofs.Runnable.{Straight, StraightAll, StraightUpdate, RunnableStatement, Runnable, RunnableCases}

-- ---- parts with the same continuations

abbrev Same : (Answers → Completed) → (Answers → Completed) → Type 0
Same f g = (a : Answers) → f a ≡ g a

then_on_same : (e : Completion) (part : Completed) (f g : Answers → Completed) → Same f g → then_on e part f ≡ then_on e part g
unfolding then_on
then_on_same normal part f g h = ap (λ (z : Completed). prefix part.rows z) (h part.left)
then_on_same (break target id) part f g h = refl
then_on_same (continue target id) part f g h = refl
then_on_same (stop reason) part f g h = refl

then_same : {x y : Completed} (f g : Answers → Completed) → x ≡ y → Same f g → then x f ≡ then y g
unfolding then
then_same {x} {y} f g q h = ap (λ (z : Completed). then_on z.completion z f) q ∙ then_on_same y.completion y f g h

choose_same : (f g f' g' : Answers → Completed) → Same f f' → Same g g' → Same (choose f g) (choose f' g')
unfolding choose
choose_same f g f' g' h k [] = refl
choose_same f g f' g' h k (zero ∷ a) = k a
choose_same f g f' g' h k (suc n ∷ a) = h a

body_by : (y : Bool) (body : Completed) (f g : Answers → Completed) → Same f g
    → ◌≡◌ {A = Completed} (elim y [ true ↦ prefix body.rows (f body.left) | false ↦ body ]) (elim y [ true ↦ prefix body.rows (g body.left) | false ↦ body ])
body_by true body f g h = ap (λ (z : Completed). prefix body.rows z) (h body.left)
body_by false body f g h = refl

body_same : (labels : List ℕ) {x y : Completed} (f g : Answers → Completed) → x ≡ y → Same f g → after_body labels x f ≡ after_body labels y g
unfolding after_body
body_same labels {x} {y} f g q h = ap (λ (z : Completed). after_body labels z f) q ∙ body_by (loop_continues y.completion labels) y f g h

ends_normally : (rows : List ℕ) (a : Answers) → prefix rows (completed [] normal a) ≡ completed rows normal a
unfolding prefix completed
ends_normally rows a = ap (λ (z : List ℕ). completed z normal a) (append-nil rows)

alternate_same : (y : Bool) (part part' : Completed) (left : Answers) → part ≡ part'
    → ◌≡◌ {A = Completed} (elim y [ true ↦ part | false ↦ completed [] normal left ]) (elim y [ true ↦ part' | false ↦ completed [] normal left ])
alternate_same true part part' left h = h
alternate_same false part part' left h = refl

-- ---- a value whose run asks nothing

abbrev Performs : (Answers → Valued) → List ℕ → Type 0
Performs value rows = (a : Answers) → value a ≡ valued rows in_whole a

and_after : (value : Answers → Valued) (rows : List ℕ) → Performs value rows → (f g : Answers → Completed) → Same f g → (a : Answers) → after_value (value a) f ≡ prefix rows (g a)
unfolding after_value after_value_on valued
and_after value rows p f g h a = ap (λ (z : Valued). after_value z f) (p a) ∙ ap (λ (z : Completed). prefix rows z) (h a)

and_value : (value value' : Answers → Valued) (rows rows' : List ℕ) → Performs value rows → Performs value' rows' → Performs (λ a. then_value (value a) value') (rows ++ rows')
unfolding then_value then_value_on valued value_prefix
and_value value value' rows rows' p q a = ap (λ (z : Valued). then_value z value') (p a) ∙ ap (λ (z : Valued). value_prefix rows z) (q a)

rounds_same : (labels : List ℕ) (test : Answers → Valued) (rows : List ℕ) (f g : Answers → Completed) → Performs test rows → Same f g → (n : ℕ)
    → Same (wide_rounds labels test f n) (while_rounds labels rows g n)
unfolding wide_rounds while_rounds
rounds_same labels test rows f g p h zero a =
    and_after test rows p (λ left. completed [] (stop no_answer_left) left) (λ left. completed [] (stop no_answer_left) left) (λ left. refl) a
    ∙ (unfold prefix completed in ap (λ (z : List ℕ). completed z (stop no_answer_left) a) (append-nil rows))
rounds_same labels test rows f g p h (suc n) a =
    and_after test rows p
    (λ a'. choose (λ left. after_body labels (f left) (λ left'. wide_rounds labels test f n left')) (λ left. completed [] normal left) a')
    (λ a'. choose (λ left. after_body labels (g left) (λ left'. while_rounds labels rows g n left')) (λ left. completed [] normal left) a')
    (λ a'. choose_same (λ left. after_body labels (f left) (λ left'. wide_rounds labels test f n left')) (λ left. completed [] normal left)
    (λ left. after_body labels (g left) (λ left'. while_rounds labels rows g n left')) (λ left. completed [] normal left)
    (λ left. body_same labels (λ left'. wide_rounds labels test f n left') (λ left'. while_rounds labels rows g n left') (h left) (λ left'. rounds_same labels test rows f g p h n left'))
    (λ left. refl) a') a

while_same : (labels : List ℕ) (test : Answers → Valued) (rows : List ℕ) (f g : Answers → Completed) → Performs test rows → Same f g → Same (wide_while labels test f) (while_loop labels rows g)
unfolding wide_while while_loop
while_same labels test rows f g p h a = rounds_same labels test rows f g p h (length a) a

for_same : (labels : List ℕ) (test update : Answers → Valued) (rows again : List ℕ) (f g : Answers → Completed) → Performs test rows → Performs update again → Same f g
    → Same (wide_for labels test update f) (for_loop labels rows again g)
unfolding wide_for for_loop
for_same labels test update rows again f g p q h a =
    and_after test rows p
    (λ a'. choose (λ left. after_body labels (f left) (λ left'. wide_while labels (λ l. then_value (update l) test) f left')) (λ left. completed [] normal left) a')
    (λ a'. choose (λ left. after_body labels (g left) (λ left'. while_loop labels (again ++ rows) g left')) (λ left. completed [] normal left) a')
    (λ a'. choose_same (λ left. after_body labels (f left) (λ left'. wide_while labels (λ l. then_value (update l) test) f left')) (λ left. completed [] normal left)
    (λ left. after_body labels (g left) (λ left'. while_loop labels (again ++ rows) g left')) (λ left. completed [] normal left)
    (λ left. body_same labels (λ left'. wide_while labels (λ l. then_value (update l) test) f left') (λ left'. while_loop labels (again ++ rows) g left') (h left)
    (λ left'. while_same labels (λ l. then_value (update l) test) (again ++ rows) f g (and_value update test again rows q p) h left'))
    (λ left. refl) a') a

do_while_same : (labels : List ℕ) (test : Answers → Valued) (rows : List ℕ) (f g : Answers → Completed) → Performs test rows → Same f g
    → Same (wide_do_while labels test f) (do_while_loop labels rows g)
unfolding wide_do_while do_while_loop
do_while_same labels test rows f g p h a =
    body_same labels (λ left. wide_while labels test f left) (λ left. while_loop labels rows g left) (h a) (λ left. while_same labels test rows f g p h left)

-- ---- cases

abbrev SameAll : List (Answers → Completed) → List (Answers → Completed) → Type 0
SameAll [] [] = Unit {0}
SameAll [] (g ∷ gs) = ⊥
SameAll (f ∷ fs) [] = ⊥
SameAll (f ∷ fs) (g ∷ gs) = Same f g × SameAll fs gs

entry_same : (fs gs : List (Answers → Completed)) → SameAll fs gs → (place : ℕ) (a : Answers) → entry_at fs place a ≡ entry_at gs place a
unfolding entry_at
entry_same [] [] h place a = refl
entry_same [] (g ∷ gs) h place a = absurd h
entry_same (f ∷ fs) [] h place a = absurd h
entry_same (f ∷ fs) (g ∷ gs) h zero a = h.0 a
entry_same (f ∷ fs) (g ∷ gs) h (suc place) a = entry_same fs gs h.1 place a

place_same : (fs gs : List (Answers → Completed)) → SameAll fs gs → Same (choose_place fs) (choose_place gs)
unfolding choose_place
place_same fs gs h [] = refl
place_same fs gs h (place ∷ a) = entry_same fs gs h place a

-- ---- the tree

module _ (seen_row : ℕ → Bool) (all_seen : (row : ℕ) → seen_row row ≡ true) where
  row_seen : (row : ℕ) → seen_rows seen_row (row ∷ []) ≡ row ∷ []
  row_seen row = ap (λ (y : Bool). cond y (row ∷ []) []) (all_seen row)

  mutual
    unfolding run_value run_all

    value_same : (v : Value) → Straight v → (tested : Bool) → Performs (run_value seen_row v tested) (performs v)
    value_same (PLAIN row) p tested a = ap (λ (z : List ℕ). valued z in_whole a) (row_seen row)
    value_same (LOAD place) p tested a = refl
    value_same (UNDEF span) p tested a = refl
    value_same (SEQ is i v) (h, p) tested a =
        and_value (run_all seen_row is (is_load v && tested)) (run_value seen_row v tested) (performs_all is) (performs v) (all_same is h (is_load v && tested)) (value_same v p tested) a
    value_same (LOGICAL o x y) p tested a = absurd p
    value_same (COND x y z) p tested a = absurd p
    value_same (OPTIONAL f v) p tested a = absurd p

    all_same : (is : Instructions) → StraightAll is → (link : Bool) → Performs (run_all seen_row is link) (performs_all is)
    all_same no_instructions p link a = refl
    all_same (instruction i l sp v rest) (h, p) link a =
        and_value (run_value seen_row v (is_link v rest && link)) (run_all seen_row rest link) (performs v) (performs_all rest) (value_same v h (is_link v rest && link)) (all_same rest p link) a

  update_same : (u : Option Value) → StraightUpdate u → Performs (run_update seen_row u) (performs_update u)
  update_same none p a = refl
  update_same (some v) p a = value_same v p false a

  mutual
    unfolding wide_statements wide_statement wide_entries run_statements run_statement entries_from

    statement_same : (s : Statement) → RunnableStatement s → Same (wide_statement seen_row s) (run_statement s)
    statement_same (INSTR i l sp v) p a =
        and_after (run_value seen_row v false) (performs v) (value_same v p false) (λ left. completed [] normal left) (λ left. completed [] normal left) (λ left. refl) a
        ∙ ends_normally (performs v) a
    statement_same (IF x i l c y d) (p, q) a =
        ap (λ (z : Completed). completing (labelled l) z)
        (choose_same (λ left. wide_statements seen_row c left) (λ left. elim y [ true ↦ wide_statements seen_row d left | false ↦ completed [] normal left ])
        (λ left. run_statements c left) (λ left. elim y [ true ↦ run_statements d left | false ↦ completed [] normal left ])
        (λ left. statements_same c p left) (λ left. alternate_same y (wide_statements seen_row d left) (run_statements d left) left (statements_same d q left)) a)
    statement_same (SWITCH x i l cs) p a =
        ap (λ (z : Completed). switch_ends l z)
        (place_same (wide_entries seen_row cs (λ left. completed [] normal left) []) (entries_from cs (λ left. completed [] normal left) [])
        (entries_same cs p (λ left. completed [] normal left) (λ left. completed [] normal left) (λ left. refl) [] [] tt) a)
    statement_same (DOWHILE i l body test) (p, q) a =
        ap (λ (z : Completed). loop l z)
        (do_while_same (label_set l) (λ left. run_value seen_row test false left) (performs test) (λ left. wide_statements seen_row body left) (λ left. run_statements body left)
        (value_same test q false) (λ left. statements_same body p left) a)
    statement_same (WHILE i l test body) (p, q) a =
        ap (λ (z : Completed). loop l z)
        (while_same (label_set l) (λ left. run_value seen_row test false left) (performs test) (λ left. wide_statements seen_row body left) (λ left. run_statements body left)
        (value_same test p false) (λ left. statements_same body q left) a)
    statement_same (FOR i l init test update body) (p, q, u, r) a =
        and_after (run_value seen_row init false) (performs init) (value_same init p false)
        (λ b. loop l (wide_for (label_set l) (λ left. run_value seen_row test false left) (λ left. run_update seen_row update left) (λ left. wide_statements seen_row body left) b))
        (λ b. loop l (for_loop (label_set l) (performs test) (performs_update update) (λ left. run_statements body left) b))
        (λ b. ap (λ (z : Completed). loop l z)
        (for_same (label_set l) (λ left. run_value seen_row test false left) (λ left. run_update seen_row update left) (performs test) (performs_update update)
        (λ left. wide_statements seen_row body left) (λ left. run_statements body left) (value_same test q false) (update_same update u) (λ left. statements_same body r left) b)) a
    statement_same (FOROF i l sp init test body) p a = absurd p
    statement_same (FORIN i l sp init body) p a = absurd p
    statement_same (LABEL i l body) p a = ap (λ (z : Completed). completing (labelled l) z) (statements_same body p a)
    statement_same (TRY i l binding body handler) p a = absurd p
    statement_same (SCOPE pruned scope body) p a = statements_same body p a
    statement_same (RETURN v i) p a = refl
    statement_same (THROW v i) p a = refl
    statement_same (BREAK target i kind loops) p a = refl
    statement_same (CONTINUE target i kind loops) p a = refl

    statements_same : (s : Statements) → Runnable s → Same (wide_statements seen_row s) (run_statements s)
    statements_same done p a = refl
    statements_same (statement ▸ rest) (p, q) a =
        then_same (λ left. wide_statements seen_row rest left) (λ left. run_statements rest left) (statement_same statement p a) (λ left. statements_same rest q left)

    entries_same : (cs : Cases) → RunnableCases cs → (f g : Answers → Completed) → Same f g → (fs gs : List (Answers → Completed)) → SameAll fs gs
        → SameAll (wide_entries seen_row cs f fs) (entries_from cs g gs)
    entries_same no_cases p f g h fs gs hs = hs
    entries_same (CASE test body earlier) (p, q) f g h fs gs hs =
        entries_same earlier q (λ left. then (wide_statements seen_row body left) f) (λ left. then (run_statements body left) g)
        (λ left. then_same f g (statements_same body p left) h) ((λ left. then (wide_statements seen_row body left) f) ∷ fs) ((λ left. then (run_statements body left) g) ∷ gs)
        ((λ left. then_same f g (statements_same body p left) h), hs)

  pub same_tree_run : (root : Statements) → Runnable root → (answers : Answers) → wide_tree_run seen_row root answers ≡ tree_run root answers
  unfolding wide_tree_run tree_run
  same_tree_run root p answers = ap (λ (z : Completed). stopped z.rows z.left (reason_of z.completion)) (statements_same root p answers)
