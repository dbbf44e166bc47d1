use Rattle.std.proofs.Common.{◌∙◌, ap}
use Rattle.vjson_run.proofs.Fed.{whole_fed}
use Rattle.jsonb_spec.specs.Program.Input.{without_mark}
use Rattle.vjson_run.proofs.session.Session.feed_whole.Goals as goal

pub returns : goal.returns
returns g c = whole_fed g.W.Write.contents (g.R.Read.remaining c.args.input.now) c.args.self.now c.take_whole.new.self c.new-bytes.result.items c.read_to_end.new.buf.items c.without_mark.result.now
    c.in_ok-read_to_end.ensures.bytes c.new-bytes.ensures.items (c.without_mark.ensures ∙ ap without_mark c.deref.ensures.value) c.take_whole.ensures
