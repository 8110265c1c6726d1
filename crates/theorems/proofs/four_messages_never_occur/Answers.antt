use Rattle.definition.proofs.Never.{never_already_scheduled, never_unschedule_out_of_order, never_maybe_throw_in_value_terminal}
use Rattle.theorems.proofs.Messages.{known}
use Rattle.theorems.proofs.four_messages_never_occur.Goals as goal

pub returns : goal.returns
returns c = (
  λ rule t at visits. (
    never_already_scheduled rule t at visits,
    never_unschedule_out_of_order rule t at visits,
    never_maybe_throw_in_value_terminal rule t at visits,
  ),
  known,
)
