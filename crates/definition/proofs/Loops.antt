-- What a tree run takes of the answers, for proofs/Law; and for the reader the paper's own equation for WHILE, with no count in it.
use mathlib.Core.Path.{◌≡◌, refl, sym, ap, ◌∙◌, subst}
use Prim.Native.Nat.{ℕ, zero, suc, ◌≤◌}
use native.Mathlib.Nat.{le_refl, le_trans, le_of_suc-le-suc, not-suc-le-zero, le_step}
use mathlib.Core.List.{List, [], ◌∷◌, ◌++◌, append-nil, append_assoc}
use mathlib.Core.Option.{Option}
use mathlib.Core.Bool.{Bool, true, false}
use lib.ListN.{length}
use Rattle.definition.specs.Tree.{Value, Statement, INSTR, IF, SWITCH, DOWHILE, WHILE, FOR, FOROF, FORIN, LABEL, TRY, SCOPE}
use Rattle.definition.specs.Tree.{RETURN, THROW, BREAK, CONTINUE, Statements, done, ◌▸◌, Cases, no_cases, CASE}
use Rattle.definition.specs.Run.{Answers, no_answer_left}
use Rattle.definition.specs.Completion.{Completion, normal, break, continue, stop, label_set, loop_continues, breakable, labelled}
use Rattle.definition.specs.TreeRun.{Completed, completed, completing, prefix, then_on, then, choose, performs, after_body, while_rounds, while_loop, for_loop, do_while_loop, performs_update, loop}
use Rattle.definition.specs.TreeRun.{switch_ends, entry_at, choose_place, run_statement, run_statements, entries_from}

-- ---- answers are taken from the front, and none is given back

-- `left` is what is left of the answers once some are taken
pub record Taken (answers left : Answers) : Type 0 where
  pub taken : Answers
  pub whole : taken ++ left ≡ answers

taken_none : (a : Answers) → Taken a a
taken_none a = record { taken = []; whole = refl }

taken_one : (x : ℕ) {a b : Answers} → Taken a b → Taken (x ∷ a) b
taken_one x p = record { taken = x ∷ p.taken; whole = ap (λ (z : Answers). x ∷ z) p.whole }

taken_both : {a b c : Answers} → Taken a b → Taken b c → Taken a c
taken_both p q = record { taken = p.taken ++ q.taken; whole = rw append_assoc (ap (λ (z : Answers). p.taken ++ z) q.whole ∙ p.whole) }

shorter : (taken left : Answers) → length left ≤ length (taken ++ left)
shorter [] left = le_refl (length left)
shorter (x ∷ taken) left = le_step (shorter taken left)

pub taken_shorter : {a b : Answers} → Taken a b → length b ≤ length a
taken_shorter {a} {b} p = subst (λ (z : Answers). length b ≤ length z) p.whole (shorter p.taken b)

abbrev Takes : (Answers → Completed) → Type 0
Takes k = (a : Answers) → Taken a (k a).left

choose_takes : (y n : Answers → Completed) → Takes y → Takes n → Takes (choose y n)
unfolding choose completed
choose_takes y n p q [] = taken_none []
choose_takes y n p q (zero ∷ a) = taken_one zero (q a)
choose_takes y n p q (suc m ∷ a) = taken_one (suc m) (p a)

then_on_takes : (e : Completion) (o : Completed) (k : Answers → Completed) → Takes k → Taken o.left (then_on e o k).left
unfolding then_on prefix completed
then_on_takes normal o k p = p o.left
then_on_takes (break x i) o k p = taken_none o.left
then_on_takes (continue x i) o k p = taken_none o.left
then_on_takes (stop r) o k p = taken_none o.left

then_takes : (a : Answers) (o : Completed) (k : Answers → Completed) → Taken a o.left → Takes k → Taken a (then o k).left
unfolding then
then_takes a o k h p = taken_both h (then_on_takes o.completion o k p)

-- what `after_body` does where the loop continues, and where it does not
abbrev after_on : Bool → Completed → (Answers → Completed) → Completed
after_on m o k = elim m [ true ↦ prefix o.rows (k o.left) | false ↦ o ]

after_takes : (m : Bool) (o : Completed) (k : Answers → Completed) → Takes k → Taken o.left (after_on m o k).left
unfolding prefix completed
after_takes true o k p = p o.left
after_takes false o k p = taken_none o.left

rounds_takes : (l test : List ℕ) (body : Answers → Completed) → Takes body → (n : ℕ) → Takes (while_rounds l test body n)
unfolding while_rounds choose prefix completed after_body
rounds_takes l test body p zero a = taken_none a
rounds_takes l test body p (suc n) [] = taken_none []
rounds_takes l test body p (suc n) (zero ∷ a) = taken_one zero (taken_none a)
rounds_takes l test body p (suc n) (suc m ∷ a) =
    taken_one (suc m) (taken_both (p a)
    (after_takes (loop_continues (body a).completion l) (body a) (λ a'. while_rounds l test body n a') (rounds_takes l test body p n)))

round_takes : (l test : List ℕ) (body again : Answers → Completed) → Takes body → Takes again
    → Takes (λ a. prefix test (choose (λ a'. after_body l (body a') again) (λ a'. completed [] normal a') a))
unfolding choose prefix completed after_body
round_takes l test body again p q [] = taken_none []
round_takes l test body again p q (zero ∷ a) = taken_one zero (taken_none a)
round_takes l test body again p q (suc m ∷ a) = taken_one (suc m) (taken_both (p a) (after_takes (loop_continues (body a).completion l) (body a) again q))

for_takes : (l test update : List ℕ) (body : Answers → Completed) → Takes body → Takes (for_loop l test update body)
unfolding for_loop while_loop
for_takes l test update body p =
    round_takes l test body (λ a. while_rounds l (update ++ test) body (length a) a) p (λ a. rounds_takes l (update ++ test) body p (length a) a)

do_while_takes : (l test : List ℕ) (body : Answers → Completed) → Takes body → Takes (do_while_loop l test body)
unfolding do_while_loop while_loop after_body
do_while_takes l test body p a =
    taken_both (p a)
    (after_takes (loop_continues (body a).completion l) (body a) (λ a'. while_rounds l test body (length a') a') (λ a'. rounds_takes l test body p (length a') a'))

abbrev AllTake : List (Answers → Completed) → Type 0
AllTake [] = Unit {0}
AllTake (entry ∷ entries) = Takes entry × AllTake entries

entry_takes : (es : List (Answers → Completed)) → AllTake es → (k : ℕ) → Takes (entry_at es k)
unfolding entry_at completed
entry_takes [] p k a = taken_none a
entry_takes (e ∷ es) (p, q) zero a = p a
entry_takes (e ∷ es) (p, q) (suc k) a = entry_takes es q k a

place_takes : (es : List (Answers → Completed)) → AllTake es → Takes (choose_place es)
unfolding choose_place completed
place_takes es p [] = taken_none []
place_takes es p (k ∷ a) = taken_one k (entry_takes es p k a)

mutual
  unfolding run_statement completed completing prefix loop while_loop switch_ends

  takes_statement : (s : Statement) (a : Answers) → Taken a (run_statement s a).left
  takes_statement (INSTR i l s v) a = taken_none a
  takes_statement (IF t i l c true x) a =
      choose_takes (λ a'. run_statements c a') (λ a'. run_statements x a') (λ a'. takes_statements c a') (λ a'. takes_statements x a') a
  takes_statement (IF t i l c false x) a =
      choose_takes (λ a'. run_statements c a') (λ a'. completed [] normal a') (λ a'. takes_statements c a') (λ a'. taken_none a') a
  takes_statement (SWITCH t i l cs) a =
      place_takes (entries_from cs (λ a'. completed [] normal a') []) (takes_entries cs (λ a'. completed [] normal a') (λ a'. taken_none a') [] tt) a
  takes_statement (DOWHILE i l b t) a = do_while_takes (label_set l) (performs t) (λ a'. run_statements b a') (λ a'. takes_statements b a') a
  takes_statement (WHILE i l t b) a = rounds_takes (label_set l) (performs t) (λ a'. run_statements b a') (λ a'. takes_statements b a') (length a) a
  takes_statement (FOR i l n t u b) a = for_takes (label_set l) (performs t) (performs_update u) (λ a'. run_statements b a') (λ a'. takes_statements b a') a
  takes_statement (FOROF i l s n t b) a = taken_none a
  takes_statement (FORIN i l s n b) a = taken_none a
  takes_statement (LABEL i l b) a = takes_statements b a
  takes_statement (TRY i l n b h) a = taken_none a
  takes_statement (SCOPE p s b) a = takes_statements b a
  takes_statement (RETURN v i) a = taken_none a
  takes_statement (THROW v i) a = taken_none a
  takes_statement (BREAK t i k n) a = taken_none a
  takes_statement (CONTINUE t i k n) a = taken_none a

  pub takes_statements : (s : Statements) (a : Answers) → Taken a (run_statements s a).left
  takes_statements done a = taken_none a
  takes_statements (s ▸ r) a = then_takes a (run_statement s a) (λ a'. run_statements r a') (takes_statement s a) (λ a'. takes_statements r a')

  takes_entries : (cs : Cases) (after : Answers → Completed) → Takes after → (later : List (Answers → Completed)) → AllTake later → AllTake (entries_from cs after later)
  takes_entries no_cases after p later q = q
  takes_entries (CASE x b cs) after p later q =
      takes_entries cs (λ a'. then (run_statements b a') after) (λ a'. then_takes a' (run_statements b a') after (takes_statements b a') p)
      ((λ a'. then (run_statements b a') after) ∷ later) ((λ a'. then_takes a' (run_statements b a') after (takes_statements b a') p), q)

-- ---- the rounds of a WHILE

after_same : (m : Bool) (o : Completed) (k k' : Answers → Completed) → k o.left ≡ k' o.left → after_on m o k ≡ after_on m o k'
after_same true o k k' e = ap (λ (z : Completed). prefix o.rows z) e
after_same false o k k' e = refl

module _ (l test : List ℕ) (body : Answers → Completed) (p : Takes body) where
  -- any count that is not below the number of the answers gives the same
  rounds_same : (n m : ℕ) (a : Answers) → length a ≤ n → length a ≤ m → while_rounds l test body n a ≡ while_rounds l test body m a
  unfolding while_rounds choose prefix completed after_body
  rounds_same zero zero a h k = refl
  rounds_same zero (suc m) [] h k = ap (λ (z : List ℕ). completed z (stop no_answer_left) []) (sym (append-nil test))
  rounds_same zero (suc m) (x ∷ a) h k = absurd (not-suc-le-zero h)
  rounds_same (suc n) zero [] h k = ap (λ (z : List ℕ). completed z (stop no_answer_left) []) (append-nil test)
  rounds_same (suc n) zero (x ∷ a) h k = absurd (not-suc-le-zero k)
  rounds_same (suc n) (suc m) [] h k = refl
  rounds_same (suc n) (suc m) (zero ∷ a) h k = refl
  rounds_same (suc n) (suc m) (suc y ∷ a) h k =
      ap (λ (z : Completed). prefix test z)
      (after_same (loop_continues (body a).completion l) (body a) (λ a'. while_rounds l test body n a') (λ a'. while_rounds l test body m a')
      (rounds_same n m (body a).left (le_trans (taken_shorter (p a)) (le_of_suc-le-suc h)) (le_trans (taken_shorter (p a)) (le_of_suc-le-suc k))))

  -- "its test, then by one answer its body and itself again (yes) or ends (no)"
  loop_again : (a : Answers) → while_loop l test body a
      ≡ prefix test (choose (λ a'. after_body l (body a') (λ a''. while_loop l test body a'')) (λ a'. completed [] normal a') a)
  unfolding while_loop while_rounds choose prefix completed after_body
  loop_again [] = ap (λ (z : List ℕ). completed z (stop no_answer_left) []) (sym (append-nil test))
  loop_again (zero ∷ a) = refl
  loop_again (suc y ∷ a) =
      ap (λ (z : Completed). prefix test z)
      (after_same (loop_continues (body a).completion l) (body a) (λ a'. while_rounds l test body (length a) a') (λ a''. while_rounds l test body (length a'') a'')
      (rounds_same (length a) (length (body a).left) (body a).left (taken_shorter (p a)) (le_refl (length (body a).left))))

pub while_again : (l : List ℕ) (t : Value) (b : Statements) (a : Answers)
    → while_loop l (performs t) (λ a'. run_statements b a') a
    ≡ prefix (performs t) (choose (λ a'. after_body l (run_statements b a') (λ a''. while_loop l (performs t) (λ z. run_statements b z) a'')) (λ a'. completed [] normal a') a)
while_again l t b a = loop_again l (performs t) (λ a'. run_statements b a') (λ a'. takes_statements b a') a

-- ---- and WHILE itself: "its test, then by one answer its body and itself again (yes) or ends (no)"

-- after the body: the statement again, or its end
unfoldable pub after_round : Option ℕ → Completed → (Answers → Completed) → Completed
after_round l body again = elim (loop_continues body.completion (label_set l)) [ true ↦ prefix body.rows (again body.left) | false ↦ loop l body ]

loop_prefix : (l : Option ℕ) (rs : List ℕ) (o : Completed) → loop l (prefix rs o) ≡ prefix rs (loop l o)
unfolding loop completing prefix completed
loop_prefix l rs o = refl

loop_after : (l : Option ℕ) (m : Bool) (o : Completed) (k : Answers → Completed)
    → loop l (after_on m o k) ≡ elim m [ true ↦ prefix o.rows (loop l (k o.left)) | false ↦ loop l o ]
loop_after l true o k = loop_prefix l o.rows (k o.left)
loop_after l false o k = refl

while_on : (i : ℕ) (l : Option ℕ) (t : Value) (b : Statements) (a : Answers)
    → loop l (choose (λ a'. after_body (label_set l) (run_statements b a') (λ a''. while_loop (label_set l) (performs t) (λ z. run_statements b z) a'')) (λ a'. completed [] normal a') a)
    ≡ choose (λ a'. after_round l (run_statements b a') (λ a''. run_statement (WHILE i l t b) a'')) (λ a'. completed [] normal a') a
unfolding choose loop completing completed breakable labelled run_statement after_round after_body
while_on i l t b [] = refl
while_on i l t b (zero ∷ a) = refl
while_on i l t b (suc n ∷ a) =
    loop_after l (loop_continues (run_statements b a).completion (label_set l)) (run_statements b a) (λ a''. while_loop (label_set l) (performs t) (λ z. run_statements b z) a'')

pub while_itself : (i : ℕ) (l : Option ℕ) (t : Value) (b : Statements) (a : Answers)
    → run_statement (WHILE i l t b) a
    ≡ prefix (performs t) (choose (λ a'. after_round l (run_statements b a') (λ a''. run_statement (WHILE i l t b) a'')) (λ a'. completed [] normal a') a)
unfolding run_statement
while_itself i l t b a = ap (λ (o : Completed). loop l o) (while_again (label_set l) t b a) ∙ loop_prefix l (performs t) _ ∙ ap (λ (o : Completed). prefix (performs t) o) (while_on i l t b a)
