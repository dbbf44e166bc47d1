use Rattle.std.proofs.Common.{length, ap, ◌∙◌}
use Rattle.jsonb_spec.specs.Line.{is_line_feed}
use Rattle.text_scan.proofs.Offsets.Lines.{length-offsets}
use Rattle.text_scan.proofs.line.line_feeds.Goals as goal

pub returns : goal.returns
returns c = c.count.ensures ∙ ap length c.memchr_iter.ensures.value ∙ length-offsets is_line_feed c.args.bytes.now
