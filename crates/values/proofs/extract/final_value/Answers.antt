-- `final_value` meets `run_outcome` of one instruction. A store to an identifier with no name gives a LOAD of what is stored (`extract_load`), any other
-- instruction a PLAIN (`extract_plain`); each is one row more (`one_row`).
use Rattle.values.proofs.MetLaws.{one_row}
use Rattle.values.proofs.ExtractLaws.{extract_load, extract_plain, load_ends}
use Rattle.values.specs.Stack.{push_value}
use Rattle.definition.specs.Tree.{PLAIN, LOAD}
use Rattle.definition.specs.Value.{loaded_by}
use mathlib.Core.Path.{refl, sym, ap, ◌∙◌}
use Rattle.values.proofs.extract.final_value.Goals as goal

pub returns-in-Some : goal.returns-in-Some
unfolding push_value
returns-in-Some c =
    let o = c.operation-operation.ensures in
    let store = c.in-Some.ensures in
    let named = rw store.0 at o.named in
    rw (extract_load c.instruction-head.ensures _ _ o.is store.0 store.1)
    (one_row (LOAD _) (λ stack. refl) c.requires.fit named.0 (load_ends named.1) c.put_row-load.ensures c.loading.ensures)

pub returns-in-None : goal.returns-in-None
unfolding push_value
returns-in-None c =
    let o = c.operation-operation.ensures in
    rw (extract_plain c.instruction-head.ensures _ _ o.is c.in-None.ensures)
    (one_row (PLAIN _) (λ stack. refl) c.requires.fit c.instruction-head.ensures.there
    (record { sequences = refl; instructions = refl; loaded = c.loaded_by.ensures.loaded ∙ sym (ap loaded_by o.is); there = c.loaded_by.ensures.there _ o.named })
    c.put_row-plain.ensures c.loading-in-None.ensures)
