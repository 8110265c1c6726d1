use Rattle.convert.proofs.WidenLaws.{wide_shaped, wide_most}
use Rattle.convert.proofs.OldCheckLaws.{wide_converted}
use Rattle.convert.proofs.convert_old.Goals as goal

pub write_wide-requires : goal.write_wide-requires
write_wide-requires c =
    rw c.widen-count.ensures.wide_after (record { shaped = wide_shaped _ c.requires.shaped; wide_len_bound = wide_most _ c.requires.shaped c.requires.len_bound })

pub returns : goal.returns
returns c = rw (c.widen-count.ensures.wide_after, wide_converted _ c.requires.shaped _) at c.write_wide.ensures
