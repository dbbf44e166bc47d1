use Rattle.error_path.proofs.Between.{within_counted}
use Rattle.error_path.proofs.characters.character_at.Goals as goal

pub returns-then-index-text : goal.returns-then-index-text
returns-then-index-text c = within_counted c.args.text.now c.args.first c.args.index c.if-first-index.false c.if-index-text.true c.characters.result c.characters.ensures.count
