use Rattle.jsonb_core.proofs.Numbers.Rows.{pointed_row}
use Rattle.jsonb_core.proofs.number.text.put_point.Goals as goal

pub returns-clause-text : goal.returns-clause-text
returns-clause-text c =
    pointed_row c.args.scale c.args.start c.args.row.now c.copy_within.new.self c.told-row c.requires.some c.requires.space c.requires.before c.copy_within.ensures.after
