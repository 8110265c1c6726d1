-- "Neither ever stops otherwise": a good reason is a return, a throw, or no answer left, and no other.
use mathlib.Core.Path.{◌≡◌, refl, sym}
use mathlib.Core.Bool.{true}
use Rattle.definition.specs.Run.{Reason, returned, threw, no_answer_left, not_plain, no_target, end_of_tree, no_such_case, is_good}
use Rattle.definition.specs.Run.{IsGood, a_return, a_throw, the_answers_are_used_up}
use Rattle.definition.proofs.Steps.{true_false}

pub good_reason : (reason : Reason) → is_good reason ≡ true → IsGood reason
good_reason (returned value id) h = a_return value id
good_reason (threw value id) h = a_throw value id
good_reason no_answer_left h = the_answers_are_used_up
good_reason not_plain h = absurd (true_false (sym h))
good_reason (no_target id) h = absurd (true_false (sym h))
good_reason end_of_tree h = absurd (true_false (sym h))
good_reason no_such_case h = absurd (true_false (sym h))

pub reason_good : {reason : Reason} → IsGood reason → is_good reason ≡ true
reason_good (a_return value id) = refl
reason_good (a_throw value id) = refl
reason_good the_answers_are_used_up = refl
