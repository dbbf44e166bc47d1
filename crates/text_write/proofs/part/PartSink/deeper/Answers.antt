use Rattle.std.proofs.Common.{◌∙◌, ◌<◌, ap, subst, sym, string_bytes}
use Rattle.std.proofs.lemmas.List.{length-map}
use Rattle.std.specs.Option.{option_and_then}
use Rattle.text_write.specs.PartSink.{keys_of, other_keys, rest_at}
use Rattle.text_write.proofs.PartPaths.{others_there}
use Rattle.text_write.proofs.part.PartSink.deeper.Goals as goal

pub returns-in-Some : goal.returns-in-Some
returns-in-Some c =
    others_there (keys_of c.args.self.now) c.in-Some.level (subst (λ n. c.in-Some.level < n) (sym (length-map c.args.self.now.path.now string_bytes)) c.if-level-self.true)
    ∙ ap (λ level. option_and_then other_keys (rest_at (keys_of c.args.self.now) level)) (sym c.in-Some.is)
