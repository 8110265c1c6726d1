use Rattle.table.proofs.PromiseLaws.{promised}
use Rattle.renaming.proofs.OrderLaws.{walking_order_lem, rearranged_checked, rearranged_entry, rearranged_built, round_trip}
use Rattle.renaming.proofs.Canonical.{one_rearrangement}
use Rattle.theorems.proofs.the_walking_order_can_be_undone.Goals as goal

pub returns : goal.returns
returns c = λ words ok. record {
  permutation = walking_order_lem words (promised words ok);
  checked = rearranged_checked words ok;
  entry = rearranged_entry words ok;
  restored = round_trip words ok;
  builds = rearranged_built words ok;
  one = λ new old renaming all. one_rearrangement new old words ok renaming all;
}
