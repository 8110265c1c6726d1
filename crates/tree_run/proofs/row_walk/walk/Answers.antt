-- `walk` ends as the machine does from the root on. Each return is a law of WalkLaws: the machine halts here (`walk_end`), or a row finds no room in the buffer
-- (`instr_full`, `walk_full`). `handed_back` says that the buffer is the caller's.
use Rattle.std.proofs.Common.{rules, refl, sym, ap, ◌∙◌}
use Rattle.tree_run.specs.Abstraction.{links_in, completion_of, place_of}
use Rattle.tree_run.proofs.PerformLaws.{err_same}
use Rattle.tree_run.proofs.WalkLaws.{walk_start, handed_back, halts_at, turned, walk_full, walk_less, walk_next, walk_end, instr_full, instr_next, instr_less}
use Rattle.tree_run.proofs.row_walk.walk.Goals as goal

pub loop-end-init : goal.loop-end-init
loop-end-init c = record { same = refl; walking = walk_start _ _ _ _ refl c.requires.walks }

pub returns-in-Some : goal.returns-in-Some
returns-in-Some c =
    let tree = c.args.tree.now in
    handed_back tree.words.now (links_in tree) tree.rows _ (search rules)
    (walk_end tree.words.now (links_in tree) tree.rows _ c.loop-end.invariant.walking (completion_of c.in-Some.end)
    (halts_at tree.words.now (links_in tree) tree.rows c.loop-end.place c.in-Some.end (sym c.end_at.ensures ∙ c.in-Some.is)) c.told.ensures)

pub returns-in_err-perform : goal.returns-in_err-perform
returns-in_err-perform c =
    let tree = c.args.tree.now in
    let instr = c.instruction_at.ensures _ c.in-Some-instruction_at.is in
    rw (err_same c.from_residual.ensures.1)
    (handed_back tree.words.now (links_in tree) tree.rows _ (search (rules, c.perform.ensures.same))
    (instr_full tree.words.now (links_in tree) tree.rows _ c.loop-end.invariant.walking (ap place_of instr.0) instr.1 c.begin.ensures c.perform.ensures c.in_err-perform.was))

pub loop-end-smaller-in-Some-instruction_at : goal.loop-end-smaller-in-Some-instruction_at
loop-end-smaller-in-Some-instruction_at c =
    let tree = c.args.tree.now in
    let instr = c.instruction_at.ensures _ c.in-Some-instruction_at.is in
    instr_less tree.words.now (links_in tree) tree.rows _ c.loop-end.invariant.walking (ap place_of instr.0) instr.1
    c.begin.ensures c.perform.ensures c.in_ok-perform.was _ c.after_instruction-place.ensures

pub loop-end-preserved-in-Some-instruction_at : goal.loop-end-preserved-in-Some-instruction_at
loop-end-preserved-in-Some-instruction_at c =
    let tree = c.args.tree.now in
    let instr = c.instruction_at.ensures _ c.in-Some-instruction_at.is in
    record {
      same = c.perform.ensures.same ∙ c.loop-end.invariant.same;
      walking = instr_next tree.words.now (links_in tree) tree.rows _ c.loop-end.invariant.walking (ap place_of instr.0) instr.1
          c.begin.ensures c.perform.ensures c.in_ok-perform.was _ c.after_instruction-place.ensures;
    }

pub returns-in_err-perform_turn : goal.returns-in_err-perform_turn
returns-in_err-perform_turn c =
    let tree = c.args.tree.now in
    rw (err_same c.from_residual-in_err-perform_turn.ensures.1)
    (handed_back tree.words.now (links_in tree) tree.rows _ (search (rules, c.perform_turn.ensures.same))
    (walk_full tree.words.now (links_in tree) tree.rows _ c.loop-end.invariant.walking _ _
    (turned tree.words.now (links_in tree) tree.rows (place_of c.loop-end.place) c.decide-turn.result (c.decide-turn.ensures (sym c.end_at.ensures ∙ c.in_default.is)))
    c.perform_turn.ensures c.in_err-perform_turn.was))

pub loop-end-smaller : goal.loop-end-smaller
loop-end-smaller c =
    let tree = c.args.tree.now in
    walk_less tree.words.now (links_in tree) tree.rows _ c.loop-end.invariant.walking _ _
    (turned tree.words.now (links_in tree) tree.rows (place_of c.loop-end.place) c.decide-turn.result (c.decide-turn.ensures (sym c.end_at.ensures ∙ c.in_default.is)))
    c.perform_turn.ensures c.in_ok-perform_turn.was _ _ c.go_on-there.ensures

pub loop-end-preserved : goal.loop-end-preserved
loop-end-preserved c =
    let tree = c.args.tree.now in
    record {
      same = c.perform_turn.ensures.same ∙ c.loop-end.invariant.same;
      walking = walk_next tree.words.now (links_in tree) tree.rows _ c.loop-end.invariant.walking _ _
          (turned tree.words.now (links_in tree) tree.rows (place_of c.loop-end.place) c.decide-turn.result (c.decide-turn.ensures (sym c.end_at.ensures ∙ c.in_default.is)))
          c.perform_turn.ensures c.in_ok-perform_turn.was _ _ c.go_on-there.ensures;
    }
