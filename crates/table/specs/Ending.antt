-- What the code's terminal and operation stand for: the definition's. `code_of` of that has the paper's number of each.
use Rattle.std.specs.Prelude.{true, false}
use Rattle.table.specs.declared.terminals.Terminal.{Terminal}
use Rattle.table.specs.declared.terminals.Terminal.TheVariants as code
use Rattle.table.specs.declared.columns.Operation.{Operation}
use Rattle.table.specs.declared.columns.Operation.TheVariants as operation
use Rattle.table.specs.Table as paper
use Rattle.table.specs.Table.{unless_none}
use Rattle.table.specs.Columns.{goto_variant, maybe_of}

abbrev pub ending : Terminal → paper.Terminal
ending code.Absent = paper.absent
ending code.Unreachable = paper.unreachable
ending (code.Throw end) = paper.throw end.value
ending (code.Return end) = paper.return end.value
ending (code.Goto end) = paper.goto end.block (goto_variant end.variant)
ending (code.If end) = paper.if end.test end.consequent end.alternate end.fallthrough
ending (code.Branch end) = paper.branch end.test end.consequent end.alternate
ending (code.Switch end) = paper.switch end.test end.first end.number end.fallthrough
ending (code.DoWhile end) = paper.do_while end.loop_block end.test end.fallthrough
ending (code.While end) = paper.while end.test end.loop_block end.fallthrough
ending (code.For end) = paper.for end.init end.test (maybe_of end.update) end.loop_block end.fallthrough
ending (code.ForOf end) = paper.for_of end.init end.test end.loop_block end.fallthrough
ending (code.ForIn end) = paper.for_in end.init end.loop_block end.fallthrough
ending (code.Logical end) = paper.logical end.operator end.test end.fallthrough
ending (code.Ternary end) = paper.ternary end.test end.fallthrough
ending (code.Optional end) = paper.optional end.flag end.test end.fallthrough
ending (code.Label end) = paper.label end.block end.fallthrough
ending (code.Sequence end) = paper.sequence end.block end.fallthrough
ending (code.MaybeThrow end) = paper.maybe_throw end.continuation
ending (code.Try end) = paper.try end.block end.handler end.fallthrough (unless_none end.binding)
ending (code.Scope end) = paper.scope false end.block end.fallthrough end.scope
ending (code.PrunedScope end) = paper.scope true end.block end.fallthrough end.scope

-- ---- an instruction's operation

abbrev pub operating : Operation → paper.Operation
operating operation.Other = paper.other
operating (operation.LoadLocal place) = paper.load_local place
operating (operation.StoreLocal stored_to stored_value) = paper.store_local stored_to stored_value
