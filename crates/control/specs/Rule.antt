-- From the code's rule to the definition's.
use Rattle.definition.specs.Around as definition
use Rattle.control.specs.declared.rule.Rule.{Rule}
use Rattle.control.specs.declared.rule.Rule.TheVariants.{Rust, Language}

abbrev pub rule_of : Rule → definition.Rule
rule_of Rust = definition.rust
rule_of Language = definition.language
