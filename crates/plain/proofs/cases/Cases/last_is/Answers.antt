use native.Mathlib.Omega.{arith}
use mathlib.Core.Path.{◌≡◌, refl}
use Rattle.plain.proofs.CaseLaws.{last_own, last_none}
use Rattle.plain.proofs.cases.Cases.last_is.Goals as goal

pub returns-then-self-gt0 : goal.returns-then-self-gt0
returns-then-self-gt0 c = last_own c.args.self.first c.args.self.number c.args.fallthrough c.args.self.there (λ e. omega arith) c.case.ensures

pub returns-else-self-gt0 : goal.returns-else-self-gt0
returns-else-self-gt0 c = let e : c.args.self.number ≡ 0 = omega arith in rw e (last_none _ c.args.self.first 0 c.args.fallthrough refl)
