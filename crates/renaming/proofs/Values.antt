-- The value walk over a renamed table: the same values, places, ids and visits, and the block renamed. No row of a value names a block.
use mathlib.Core.Path.{◌≡◌, refl, sym, ap, ◌∙◌, subst}
use Prim.Native.Nat.{ℕ, zero, suc}
use mathlib.Core.List.{List, [], ◌∷◌}
use mathlib.Core.Option
use mathlib.Core.Option.{Option, none, some}
use mathlib.Core.Bool.{Bool, true, false, ◌&&◌}
use lib.Dec.{eqb}
use Rattle.table.specs.declared.columns.Span.{Span}
use Rattle.table.specs.Table.{Table, Block, Operation, other, load_local, store_local, Terminal, absent, unreachable, throw, return, goto}
use Rattle.table.specs.Table.{if, branch, switch, do_while, while, for, for_of, for_in, logical, ternary, optional, label, sequence, maybe_throw, try, scope}
use Rattle.table.specs.Table.{block_at, terminal_at, instruction_at, instruction_rows}
use Rattle.definition.specs.Tree.{Value, PLAIN, LOAD, UNDEF, SEQ, LOGICAL, COND, OPTIONAL, Instructions, no_instructions, instruction}
use Rattle.definition.specs.Value.{begin_visit, ValueBlockResult, ValueTerminalResult, is_empty, instructions_of, wrap_with_sequence}
use Rattle.definition.specs.Value.{stored_to_named, last, extract_value_block_result, extract_or_refuse, VisitValueBlock, Ways, branch_ways}
use Rattle.definition.specs.Value.{TestBlockResult, test_block_ended, visit_test_block, single_instruction, visit_value_block_terminal, then_fallthrough, branch_value}
use Rattle.definition.specs.Value.{is_empty_goto, maybe_throw_value, terminal_then_fallthrough, visit_value_block_at, is_fallthrough, visit_value_block, innermost_value}
use Rattle.definition.specs.Value.{loaded_place, same_identifier, value_block_result_to_sequence}
use Rattle.renaming.proofs.Alike.{Moves, same_test, Alike, alike_by, alike_unless}
use Rattle.renaming.proofs.Tables.{renamed_terminal, renamed_block, renamed_table, Reordered, code_same, absent_same}

abbrev pub renamed_value : (new : ℕ → ℕ) → ValueBlockResult → ValueBlockResult
renamed_value new r = record { block = new r.block; place = r.place; value = r.value; id = r.id; visits = r.visits }

abbrev renamed_end : (new : ℕ → ℕ) → ValueTerminalResult → ValueTerminalResult
renamed_end new r = record { value = r.value; place = r.place; fallthrough = new r.fallthrough; id = r.id; visits = r.visits }

abbrev renamed_ways : (new : ℕ → ℕ) → Ways → Ways
renamed_ways new w = record { consequent = new w.consequent; alternate = new w.alternate }

abbrev renamed_test : (new : ℕ → ℕ) → TestBlockResult → TestBlockResult
renamed_test new r = record { test = renamed_value new r.test; ways = renamed_ways new r.ways }

abbrev pub SameValue : (new : ℕ → ℕ) → ValueBlockResult → ValueBlockResult → Type 0
SameValue new r r' = r' ≡ renamed_value new r

abbrev pub SameEnd : (new : ℕ → ℕ) → ValueTerminalResult → ValueTerminalResult → Type 0
SameEnd new r r' = r' ≡ renamed_end new r

unfoldable pub ValuesAlike : (new : ℕ → ℕ) → (visit visit' : VisitValueBlock) → Type 0
ValuesAlike new visit visit' = (b : ℕ) (f : Option ℕ) (span : Span) (v : ℕ) → Alike new (SameValue new) (visit b f span v) (visit' (new b) (Option.map new f) span v)

-- ---- what is read of the instructions, places and identifiers

module _ (new : ℕ → ℕ) (t : Table) (blocks : List Block) where
  abbrev there : Table
  there = renamed_table new blocks t

  instructions_same : (rs : List ℕ) (more : Instructions) → instructions_of there rs more ≡ instructions_of t rs more
  unfolding instructions_of
  instructions_same [] more = refl
  instructions_same (r ∷ rs) more = ap (instruction (instruction_at t r).id (instruction_at t r).lvalue (instruction_at t r).span (PLAIN r)) (instructions_same rs more)

  wrap_same : (rs : List ℕ) (id : ℕ) (v : Value) → wrap_with_sequence there rs id v ≡ wrap_with_sequence t rs id v
  unfolding wrap_with_sequence
  wrap_same [] id v = refl
  wrap_same (r ∷ rs) id v = ap (λ (is : Instructions). SEQ is id v) (instructions_same (r ∷ rs) no_instructions)

  named_same : (o : Operation) → stored_to_named there o ≡ stored_to_named t o
  unfolding stored_to_named
  named_same other = refl
  named_same (load_local place) = refl
  named_same (store_local a b) = refl

  extract_same : (b r : ℕ) (rs : List ℕ) (v : ℕ) → extract_value_block_result there (new b) r rs v ≡ renamed_value new (extract_value_block_result t b r rs v)
  unfolding extract_value_block_result
  extract_same b r rs v = rw (named_same (instruction_at t (last r rs)).operation, wrap_same) refl

  loaded_same : (v : Value) → loaded_place there v ≡ loaded_place t v
  loaded_same (PLAIN row) = refl
  loaded_same (LOAD place) = refl
  loaded_same (UNDEF span) = refl
  loaded_same (SEQ instructions id value) = refl
  loaded_same (LOGICAL operator left right) = refl
  loaded_same (COND test consequent alternate) = refl
  loaded_same (OPTIONAL flag value) = refl

  identifier_same : (p : ℕ) (o : Option ℕ) → same_identifier there p o ≡ same_identifier t p o
  unfolding same_identifier
  identifier_same p none = refl
  identifier_same p (some q) = refl

  pub sequence_same : (r : ValueBlockResult) (span : Span) → value_block_result_to_sequence there (renamed_value new r) span ≡ value_block_result_to_sequence t r span
  unfolding value_block_result_to_sequence
  sequence_same r span = rw (loaded_same (innermost_value r.value), identifier_same r.place (loaded_place t (innermost_value r.value)))

-- ---- the walk

module _ (new : ℕ → ℕ) (m : Moves new) (t : Table) (blocks : List Block) (moved : Reordered new t.blocks blocks) where
  pub begin_alike : (b v : ℕ) → Alike new (λ a a'. a' ≡ a) (begin_visit t b v) (begin_visit (there new t blocks) (new b) v)
  unfolding begin_visit
  begin_alike b v =
      alike_unless new _ _ _ 31 b _ v v _ _ refl refl refl
      (alike_unless new _ _ _ 10 b _ (suc v) (suc v) _ _ (absent_same new t blocks moved b) refl refl refl)

  extract_alike : (b : ℕ) (rs : List ℕ) (v code at : ℕ) → Alike new (SameValue new) (extract_or_refuse t b rs v code at) (extract_or_refuse (there new t blocks) (new b) rs v code (new at))
  unfolding extract_or_refuse
  extract_alike b [] v code at = (refl, (λ _. refl), refl)
  extract_alike b (r ∷ rs) v code at = extract_same new t blocks b r rs v

  ways_same : (x : Terminal) → branch_ways (renamed_terminal new x) ≡ Option.map (renamed_ways new) (branch_ways x)
  ways_same absent = refl
  ways_same unreachable = refl
  ways_same (throw value) = refl
  ways_same (return value) = refl
  ways_same (goto block variant) = refl
  ways_same (if test consequent alternate fallthrough) = refl
  ways_same (branch test consequent alternate) = refl
  ways_same (switch test first number fallthrough) = refl
  ways_same (do_while loop test fallthrough) = refl
  ways_same (while test loop fallthrough) = refl
  ways_same (for init test update loop fallthrough) = refl
  ways_same (for_of init test loop fallthrough) = refl
  ways_same (for_in init loop fallthrough) = refl
  ways_same (logical operator test fallthrough) = refl
  ways_same (ternary test fallthrough) = refl
  ways_same (optional flag test fallthrough) = refl
  ways_same (label block fallthrough) = refl
  ways_same (sequence block fallthrough) = refl
  ways_same (maybe_throw continuation) = refl
  ways_same (try block handler fallthrough binding) = refl
  ways_same (scope pruned block fallthrough number) = refl

  ended_alike : (r : ValueBlockResult) (w : Option Ways) (at : ℕ)
      → Alike new (λ a a'. a' ≡ renamed_test new a) (test_block_ended r w at) (test_block_ended (renamed_value new r) (Option.map (renamed_ways new) w) (new at))
  unfolding test_block_ended
  ended_alike r none at = (refl, (λ _. refl), refl)
  ended_alike r (some w) at = refl

  module _ (visit visit' : VisitValueBlock) (va : ValuesAlike new visit visit') where
    test_alike : (b : ℕ) (span : Span) (v at : ℕ)
        → Alike new (λ a a'. a' ≡ renamed_test new a) (visit_test_block t visit b span v at) (visit_test_block (there new t blocks) visit' (new b) span v (new at))
    unfolding visit_test_block ValuesAlike
    test_alike b span v at =
        alike_by new (renamed_value new) _ _ _ _ _ (va b none span v) (λ r.
        rw (ap (λ (k : Block). branch_ways k.terminal) (moved r.block) ∙ ways_same (terminal_at t r.block)) (ended_alike r (branch_ways (terminal_at t r.block)) at))

    pub end_alike : (x : Terminal) (id : ℕ) (span : Span) (v at : ℕ)
        → Alike new (SameEnd new) (visit_value_block_terminal t visit x id span v at)
        (visit_value_block_terminal (there new t blocks) visit' (renamed_terminal new x) id span v (new at))
    unfolding visit_value_block_terminal ValuesAlike
    end_alike absent id span v at = (refl, (λ _. refl), refl)
    end_alike unreachable id span v at = (refl, (λ _. refl), refl)
    end_alike (throw value) id span v at = (refl, (λ _. refl), refl)
    end_alike (return value) id span v at = (refl, (λ _. refl), refl)
    end_alike (goto block variant) id span v at = (refl, (λ _. refl), refl)
    end_alike (if test consequent alternate fallthrough) id span v at = (refl, (λ _. refl), refl)
    end_alike (branch test consequent alternate) id span v at = (refl, (λ _. refl), refl)
    end_alike (switch test first number fallthrough) id span v at = (refl, (λ _. refl), refl)
    end_alike (do_while loop test fallthrough) id span v at = (refl, (λ _. refl), refl)
    end_alike (while test loop fallthrough) id span v at = (refl, (λ _. refl), refl)
    end_alike (for init test update loop fallthrough) id span v at = (refl, (λ _. refl), refl)
    end_alike (for_of init test loop fallthrough) id span v at = (refl, (λ _. refl), refl)
    end_alike (for_in init loop fallthrough) id span v at = (refl, (λ _. refl), refl)
    end_alike (logical operator test fallthrough) id span v at =
        alike_by new (renamed_test new) (SameEnd new) _ _ _ _ (test_alike test span v at) (λ tested.
        alike_by new (renamed_value new) (SameEnd new) _ _ _ _ (va tested.ways.consequent (some fallthrough) span tested.test.visits) (λ left.
        alike_by new (renamed_value new) (SameEnd new) _ _ _ _ (va tested.ways.alternate (some fallthrough) span left.visits) (λ right. refl)))
    end_alike (ternary test fallthrough) id span v at =
        alike_by new (renamed_test new) (SameEnd new) _ _ _ _ (test_alike test span v at) (λ tested.
        alike_by new (renamed_value new) (SameEnd new) _ _ _ _ (va tested.ways.consequent (some fallthrough) span tested.test.visits) (λ left.
        alike_by new (renamed_value new) (SameEnd new) _ _ _ _ (va tested.ways.alternate (some fallthrough) span left.visits) (λ right. refl)))
    end_alike (optional flag test fallthrough) id span v at =
        alike_by new (renamed_test new) (SameEnd new) _ _ _ _ (test_alike test span v at) (λ tested.
        alike_by new (renamed_value new) (SameEnd new) _ _ _ _ (va tested.ways.consequent (some fallthrough) span tested.test.visits) (λ left.
        rw (ap (λ (k : Block). k.span) (moved tested.test.block))))
    end_alike (label block fallthrough) id span v at = (refl, (λ _. refl), refl)
    end_alike (sequence block fallthrough) id span v at = alike_by new (renamed_value new) (SameEnd new) _ _ _ _ (va block (some fallthrough) span v) (λ inner. refl)
    end_alike (maybe_throw continuation) id span v at = (refl, (λ _. refl), refl)
    end_alike (try block handler fallthrough binding) id span v at = (refl, (λ _. refl), refl)
    end_alike (scope pruned block fallthrough number) id span v at = (refl, (λ _. refl), refl)

    then_alike : (x : Terminal) (b : ℕ) (k : Block) (span : Span) (v : ℕ)
        → Alike new (SameValue new) (terminal_then_fallthrough t visit x b k span v)
        (terminal_then_fallthrough (there new t blocks) visit' (renamed_terminal new x) (new b) (renamed_block new k) span v)
    unfolding then_fallthrough ValuesAlike
    then_alike x b k span v =
        alike_by new (renamed_end new) (SameValue new) _ _ _ _ (end_alike x k.id k.span v b) (λ init.
        alike_by new (renamed_value new) (SameValue new) _ _ _ _ (va init.fallthrough none span init.visits) (λ final.
        rw (instructions_same new t blocks (instruction_rows k) (single_instruction init.id init.place span init.value))))

    branch_alike : (b test id : ℕ) (rs : List ℕ) (v : ℕ) → Alike new (SameValue new) (branch_value t b test id rs v) (branch_value (there new t blocks) (new b) test id rs v)
    unfolding branch_value
    branch_alike b test id [] v = refl
    branch_alike b test id (r ∷ rs) v = extract_same new t blocks b r rs v

    maybe_alike : (b x : ℕ) (rs : List ℕ) (f : Option ℕ) (span : Span) (v : ℕ) (y : Bool)
        → Alike new (SameValue new) (maybe_throw_value t visit b x rs f span v y) (maybe_throw_value (there new t blocks) visit' (new b) (new x) rs (Option.map new f) span v y)
    unfolding maybe_throw_value ValuesAlike
    maybe_alike b x rs f span v true = extract_alike x rs v 28 b
    maybe_alike b x rs f span v false = alike_by new (renamed_value new) (SameValue new) _ _ _ _ (va x f span v) (λ final. rw (wrap_same new t blocks rs final.id final.value))

    goto_same : (b : ℕ) → is_empty_goto (block_at (there new t blocks) (new b)) ≡ is_empty_goto (block_at t b)
    unfolding is_empty_goto
    goto_same b = ap is_empty_goto (moved b) ∙ ap (λ (n : ℕ). is_empty (instruction_rows (block_at t b)) && eqb n 4) (code_same new (terminal_at t b))

    at_alike : (x : Terminal) (b : ℕ) (k : Block) (f : Option ℕ) (span : Span) (v : ℕ)
        → Alike new (SameValue new) (visit_value_block_at t visit x b k f span v)
        (visit_value_block_at (there new t blocks) visit' (renamed_terminal new x) (new b) (renamed_block new k) (Option.map new f) span v)
    unfolding visit_value_block_at
    at_alike absent b k f span v = then_alike absent b k span v
    at_alike unreachable b k f span v = then_alike unreachable b k span v
    at_alike (throw value) b k f span v = then_alike (throw value) b k span v
    at_alike (return value) b k f span v = then_alike (return value) b k span v
    at_alike (goto block variant) b k f span v = extract_alike b (instruction_rows k) v 24 b
    at_alike (if test consequent alternate fallthrough) b k f span v = then_alike (if test consequent alternate fallthrough) b k span v
    at_alike (branch test consequent alternate) b k f span v = branch_alike b test k.id (instruction_rows k) v
    at_alike (switch test first number fallthrough) b k f span v = then_alike (switch test first number fallthrough) b k span v
    at_alike (do_while loop test fallthrough) b k f span v = then_alike (do_while loop test fallthrough) b k span v
    at_alike (while test loop fallthrough) b k f span v = then_alike (while test loop fallthrough) b k span v
    at_alike (for init test update loop fallthrough) b k f span v = then_alike (for init test update loop fallthrough) b k span v
    at_alike (for_of init test loop fallthrough) b k f span v = then_alike (for_of init test loop fallthrough) b k span v
    at_alike (for_in init loop fallthrough) b k f span v = then_alike (for_in init loop fallthrough) b k span v
    at_alike (logical operator test fallthrough) b k f span v = then_alike (logical operator test fallthrough) b k span v
    at_alike (ternary test fallthrough) b k f span v = then_alike (ternary test fallthrough) b k span v
    at_alike (optional flag test fallthrough) b k f span v = then_alike (optional flag test fallthrough) b k span v
    at_alike (label block fallthrough) b k f span v = then_alike (label block fallthrough) b k span v
    at_alike (sequence block fallthrough) b k f span v = then_alike (sequence block fallthrough) b k span v
    at_alike (maybe_throw x) b k f span v =
        alike_unless new (SameValue new) _ _ 10 x _ v v _ _ (absent_same new t blocks moved x) refl refl
        (rw (goto_same x) (maybe_alike b x (instruction_rows k) f span v (is_empty_goto (block_at t x))))
    at_alike (try block handler fallthrough binding) b k f span v = then_alike (try block handler fallthrough binding) b k span v
    at_alike (scope pruned block fallthrough number) b k f span v = then_alike (scope pruned block fallthrough number) b k span v

  fallthrough_same : (f : Option ℕ) (b : ℕ) → is_fallthrough (Option.map new f) (new b) ≡ is_fallthrough f b
  fallthrough_same none b = refl
  fallthrough_same (some f) b = same_test new m f b

  pub values_alike : (d : ℕ) → ValuesAlike new (visit_value_block t d) (visit_value_block (there new t blocks) d)
  unfolding visit_value_block ValuesAlike
  values_alike zero b f span v = (refl, (λ _. refl), refl)
  values_alike (suc d) b f span v =
      alike_by new (λ a. a) (SameValue new) _ _ _ _ (begin_alike b v) (λ begun.
      alike_unless new (SameValue new) _ _ 23 b _ begun begun _ _ (fallthrough_same f b) refl refl
      (subst (λ (k : Block). Alike new (SameValue new) (visit_value_block_at t (visit_value_block t d) (terminal_at t b) b (block_at t b) f span begun)
      (visit_value_block_at (there new t blocks) (visit_value_block (there new t blocks) d) k.terminal (new b) k (Option.map new f) span begun)) (sym (moved b))
      (at_alike (visit_value_block t d) (visit_value_block (there new t blocks) d) (values_alike d) (terminal_at t b) b (block_at t b) f span begun)))
