use Rattle.preview.proofs.PreviewLaws.{reported_previewed}
use Rattle.preview.proofs.preview_by.Goals as goal

pub returns : goal.returns
returns c = reported_previewed _ _ _ _ _ c.walk.ensures
