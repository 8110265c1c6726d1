-- The counts of the head one after the other, and the tables.
use Prim.Native.Nat.{ℕ, suc, ◌+◌, ◌<◌, ◌≤◌}
use mathlib.Core.Path.{◌≡◌}
use mathlib.Core.List.{List}
use native.Mathlib.Omega.{arith}
use native.Mathlib.Numerals.{add-one}
use borrow.Author.Tests.{le-ltb, le-leb, lt-leb}
use Rattle.std.proofs.Common.{drop-cons}
use lib.ListN.{length, get_or, drop}
use Rattle.table.specs.Words.{word}
use Rattle.table.specs.Check.{Verdict, accepted, refused, and_then, limits, counts_verdict, checked}

-- ---- the count at place i of the limits

module _ (ws : List ℕ) (limits : List ℕ) (i : ℕ) (inside : i < length limits) where
  pub count_over : get_or limits i 0 < get_or ws (1 + i) 0 → refused 2 (1 + i) ≡ counts_verdict ws (1 + i) (drop i limits)
  unfolding counts_verdict word
  count_over h = rw (drop-cons limits i 0, lt-leb (get_or ws (1 + i) 0) (get_or limits i 0) h, counts_verdict)

  pub count_within : get_or ws (1 + i) 0 ≤ get_or limits i 0 → counts_verdict ws (1 + i) (drop i limits) ≡ counts_verdict ws (1 + (i + 1)) (drop (i + 1) limits)
  unfolding counts_verdict word
  count_within h =
      let e : suc (1 + i) ≡ 1 + (i + 1) = omega arith in
      rw (drop-cons limits i 0, le-leb (get_or ws (1 + i) 0) (get_or limits i 0) h, e, add-one i, counts_verdict)

-- ---- the whole, where a count is over its limit

pub checked_count : (ws : List ℕ) → 6 ≤ length ws → {code at : ℕ} → refused code at ≡ counts_verdict ws 1 limits → refused code at ≡ checked ws
unfolding checked
checked_count ws long e = rw (le-ltb (length ws) 6 long, ← e, checked)

-- ---- one table after the other

pub goes_on : {first : Verdict} (next : Verdict) → accepted ≡ first → {r : Verdict} → r ≡ next → r ≡ and_then first next
unfolding and_then
goes_on next e h = rw (← e) h

pub stops : {first : Verdict} (next : Verdict) {code at : ℕ} → refused code at ≡ first → refused code at ≡ and_then first next
unfolding and_then
stops next e = rw (← e)
