use Rattle.std.specs.Fmt.InlineText.{inline_text}
use Rattle.jsonb_value.proofs.Appending.IntervalTexts.{clock_joined}
use Rattle.jsonb_value.proofs.extension.text.and_clock.Goals as goal

pub returns : goal.returns
returns c =
    let joined = clock_joined (inline_text c.args.text) c.args.micros in
    cc (c.and_fraction.ensures, c.and_digits-seconds.ensures.text, c.and_digits-minutes.ensures.text, c.and_digits-hours.ensures.text)
