-- The definition run on samples of M-103.
use mathlib.Core.Path.{◌≡◌, refl}
use Prim.Native.Nat.{ℕ}
use mathlib.Core.List.{List, [], ◌∷◌}
use mathlib.Core.Option.{none, some}
use mathlib.Core.Bool.{false}
use Rattle.definition.specs.Tree.{labeled, unlabeled, PLAIN, LOAD, OPTIONAL, Statement, INSTR, IF, SWITCH, DOWHILE, WHILE, FOR, LABEL}
use Rattle.definition.specs.Tree.{RETURN, BREAK, CONTINUE, Statements, done, ◌▸◌, no_cases, CASE}
use Rattle.definition.specs.Completion.{loop_continues, breakable, labelled}
use Rattle.definition.specs.TreeRun.{completed, completing, prefix, then_on, then, choose, after_body, while_rounds, while_loop, for_loop, do_while_loop, loop}
use Rattle.definition.specs.TreeRun.{switch_ends, entry_at, choose_place, jump_completion, run_statement, reason_of, tree_run}
use Rattle.tree_runs.specs.Numbered.{numbered_statement}
use Rattle.tree_runs.specs.Ran.{Outcome, refusal, first_not_run, performed_all, ended, given, after_sorts, ran}

abbrev Given : Type 0
Given = List ℕ

-- code, at, number, reason, then the words of the buffer
abbrev shown : Outcome → Given
shown o = o.code ∷ o.at ∷ o.number ∷ o.reason ∷ o.buffer

abbrev plain : ℕ → Statement
plain n = INSTR 0 0 (record { from = 0; to = 0 }) (PLAIN n)

abbrev bare : Statement
bare = BREAK 0 0 unlabeled 0

abbrev again : Statement
again = CONTINUE 0 0 unlabeled 0

-- SWITCH, cases in source order {10}, {11, BREAK Unlabeled}, {12}
abbrev picks : Statements
picks = SWITCH 0 0 none (CASE 0 (plain 12 ▸ done) (CASE 0 (plain 11 ▸ bare ▸ done) (CASE 0 (plain 10 ▸ done) no_cases))) ▸ done

abbrev steps : Statements
steps = FOR 0 (some 5) (PLAIN 90) (PLAIN 91) (some (PLAIN 92)) (plain 1 ▸ again ▸ done) ▸ done

abbrev asks_last : Statements
asks_last = DOWHILE 0 (some 5) (plain 1 ▸ again ▸ plain 9 ▸ done) (PLAIN 2) ▸ done

abbrev passes : Statements
passes = WHILE 0 (some 5) (LOAD 0) (LABEL 0 (some 5) (CONTINUE 5 0 labeled 0 ▸ done) ▸ plain 7 ▸ done) ▸ done

abbrev lost : Statements
lost = LABEL 0 (some 5) (plain 1 ▸ CONTINUE 5 0 labeled 0 ▸ done) ▸ done

abbrev leaves : Statements
leaves = IF 0 0 (some 5) (plain 1 ▸ BREAK 5 0 labeled 0 ▸ plain 2 ▸ done) false done ▸ plain 3 ▸ done

abbrev early : Statements
early = RETURN 0 0 ▸ BREAK 5 0 unlabeled 0 ▸ done

abbrev foreign : Statements
foreign = RETURN 0 0 ▸ INSTR 0 0 (record { from = 0; to = 0 }) (OPTIONAL 0 (PLAIN 0)) ▸ done

samples :
    (shown (ran picks (0 ∷ []) 3) ≡ 0 ∷ 0 ∷ 2 ∷ 3 ∷ 10 ∷ 11 ∷ 0 ∷ [])
    × (shown (ran picks (1 ∷ []) 1) ≡ 0 ∷ 0 ∷ 1 ∷ 3 ∷ 11 ∷ [])
    × (shown (ran picks (2 ∷ 7 ∷ []) 1) ≡ 0 ∷ 0 ∷ 1 ∷ 3 ∷ 12 ∷ [])
    × (shown (ran picks (3 ∷ []) 1) ≡ 0 ∷ 0 ∷ 0 ∷ 3 ∷ 0 ∷ [])
    × (shown (ran picks [] 1) ≡ 0 ∷ 0 ∷ 0 ∷ 4 ∷ 0 ∷ [])
    × (shown (ran steps (1 ∷ 0 ∷ []) 5) ≡ 0 ∷ 0 ∷ 5 ∷ 3 ∷ 90 ∷ 91 ∷ 1 ∷ 92 ∷ 91 ∷ [])
    × (shown (ran steps [] 2) ≡ 0 ∷ 0 ∷ 2 ∷ 4 ∷ 90 ∷ 91 ∷ [])
    × (shown (ran steps (1 ∷ 0 ∷ []) 3) ≡ 65 ∷ 2 ∷ 0 ∷ 0 ∷ 0 ∷ 0 ∷ 0 ∷ [])
    × (shown (ran steps (1 ∷ 0 ∷ []) 4) ≡ 65 ∷ 1 ∷ 0 ∷ 0 ∷ 0 ∷ 0 ∷ 0 ∷ 0 ∷ [])
    × (shown (ran asks_last [] 2) ≡ 0 ∷ 0 ∷ 2 ∷ 4 ∷ 1 ∷ 2 ∷ [])
    × (shown (ran asks_last (1 ∷ 0 ∷ []) 4) ≡ 0 ∷ 0 ∷ 4 ∷ 3 ∷ 1 ∷ 2 ∷ 1 ∷ 2 ∷ [])
    × (shown (ran passes (1 ∷ 1 ∷ 0 ∷ []) 0) ≡ 0 ∷ 0 ∷ 0 ∷ 3 ∷ [])
    × (shown (ran lost [] 1) ≡ 63 ∷ 2 ∷ 0 ∷ 0 ∷ 0 ∷ [])
    × (shown (ran lost [] 0) ≡ 65 ∷ 0 ∷ 0 ∷ 0 ∷ [])
    × (shown (ran leaves (1 ∷ []) 2) ≡ 0 ∷ 0 ∷ 2 ∷ 3 ∷ 1 ∷ 3 ∷ [])
    × (shown (ran early [] 0) ≡ 0 ∷ 0 ∷ 0 ∷ 1 ∷ [])
    × (shown (ran foreign [] 0) ≡ 64 ∷ 2 ∷ 0 ∷ 0 ∷ [])
    × (shown (ran done [] 0) ≡ 0 ∷ 0 ∷ 0 ∷ 3 ∷ [])
unfolding ran after_sorts given first_not_run ended performed_all refusal loop_continues breakable labelled completed completing prefix then_on then choose after_body
    while_rounds while_loop for_loop do_while_loop loop switch_ends entry_at choose_place jump_completion run_statement reason_of tree_run numbered_statement
samples = (refl, refl, refl, refl, refl, refl, refl, refl, refl, refl, refl, refl, refl, refl, refl, refl, refl, refl)
