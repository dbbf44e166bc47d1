use Rattle.jsonb_value.proofs.Appending.IntervalTexts.{appended_whole}
use Rattle.jsonb_value.proofs.extension.text.and.Goals as goal

pub returns : goal.returns
returns c = appended_whole 160 _ _ _ c.and_str.ensures.within c.and_str.ensures.to_end c.requires
