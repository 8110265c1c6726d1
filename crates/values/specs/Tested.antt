-- What the visit of a test block promises: the definition's test, and the ways and the span of the Branch at its end.
use Rattle.std.specs.Prelude.{◌≡◌, List, ℕ, ◌<◌, Ok, Err, MatchResult}
use Rattle.std.specs.Prelude as std
use Rattle.table.specs.Words.{block_count}
use Rattle.table.specs.Table.{table_of, block_at}
use Rattle.definition.specs.Result.{Result}
use Rattle.definition.specs.Tree.{Value}
use Rattle.definition.specs.Value.{TestBlockResult}
use Rattle.values.specs.declared.result.Tally.{Tally}
use Rattle.values.specs.declared.result.ValueBlockResult.{ValueBlockResult}
use Rattle.values.specs.declared.refusal.Refused.{Refused}
use Rattle.values.specs.Met.{block_result, Met}
use Rattle.values.specs.declared.value_walk.TestBlockResult as code

-- the definition's result with the code's numbers
abbrev pub test_result : (consequent alternate : ℕ) → ValueBlockResult → Value → TestBlockResult
test_result consequent alternate r value = record { test = block_result r value; ways = record { consequent = consequent; alternate = alternate } }

-- a test that is found, with its Branch's ways and span
pub record TestFound (words : List ℕ) (outcome : Result TestBlockResult) (start : Tally) (buffer : List ℕ) (r : code.TestBlockResult) (buffer' : List ℕ) : Type 0 where
  pub met : Met words (test_result r.consequent r.alternate) outcome start 0 buffer (Ok r.test) buffer'
  pub consequent : r.consequent < block_count words
  pub alternate : r.alternate < block_count words
  pub span : (block_at (table_of words) r.test.block).span ≡ r.branch_span

-- a test, or its refusal, of which no ways are told
abbrev pub TestMet : (words : List ℕ) → Result TestBlockResult → Tally → (buffer : List ℕ) → std.Result code.TestBlockResult Refused → (buffer' : List ℕ) → Type 0
TestMet words outcome start buffer r buffer' =
    MatchResult r (λ t. TestFound words outcome start buffer t buffer') (λ e. Met words (test_result 0 0) outcome start 0 buffer (Err e) buffer')
