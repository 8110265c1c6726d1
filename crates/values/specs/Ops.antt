-- Paper 01, "Tree rows": the numbers of the ops.
use Rattle.std.specs.Prelude.{ℕ}
use Rattle.values.specs.declared.op.Op.{Op}
use Rattle.values.specs.declared.op.Op.TheVariants as op

abbrev pub number_of : Op → ℕ
number_of op.Plain = 1
number_of op.Load = 2
number_of op.Undef = 3
number_of op.Instr = 4
number_of op.Seq = 5
number_of op.Logical = 6
number_of op.Cond = 7
number_of op.Optional = 8
number_of op.Block = 9
number_of op.If = 10
number_of op.Case = 11
number_of op.Switch = 12
number_of op.DoWhile = 13
number_of op.While = 14
number_of op.For = 15
number_of op.ForOf = 16
number_of op.ForIn = 17
number_of op.Label = 18
number_of op.Try = 19
number_of op.Scope = 20
number_of op.Pruned = 21
number_of op.Return = 22
number_of op.Throw = 23
number_of op.Break = 24
number_of op.Continue = 25
