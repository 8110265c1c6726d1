-- M-107 and M-102, of the tree whose rows the lent buffer holds: its jumps are as definition/specs/Named says.
use Rattle.std.specs.Prelude.{◌≡◌, ◌*◌, [], take}
use Rattle.definition.specs.Around.{Rule}
use Rattle.definition.specs.Build.{Outcome, words_of}
use Rattle.definition.specs.Named.{Named}
use Rattle.definition.specs.Tree.{Statements, rows}

pub record LabelsThere (rule : Rule) (outcome : Outcome) : Type 0 where
  pub root : Statements
  pub held : take (outcome.rows * 6) outcome.buffer ≡ words_of (rows root)
  pub named : Named rule [] root
