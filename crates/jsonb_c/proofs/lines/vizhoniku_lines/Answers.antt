use Rattle.std.proofs.Common.{inr, ◌∙◌}
use Rattle.jsonb_c.proofs.RejectedLines.{lines_wanting}
use Rattle.jsonb_c.proofs.lines.vizhoniku_lines.Goals as goal

pub returns-in-Err-clause-accepted : goal.returns-in-Err-clause-accepted
returns-in-Err-clause-accepted c =
    λ known all. inr (inr (c.report.ensures.status ∙ lines_wanting c.args.mode c.args.text.now c.texts_of_lines.new.start c.in-Err.rejected known c.in-Err.ensures.fails.reason all))
