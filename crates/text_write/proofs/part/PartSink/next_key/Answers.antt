use Rattle.std.proofs.Common.{◌∙◌, Some, ap, sym}
use Rattle.std.specs.Option.{option_and_then}
use Rattle.text_write.specs.PartSink.{first_key, keys_of, rest_at}
use Rattle.text_write.proofs.PartPaths.{first_there}
use Rattle.text_write.proofs.part.PartSink.next_key.Goals as goal

pub returns-in-Some : goal.returns-in-Some
returns-in-Some c =
    let found = c.in-Some.ensures.lookup in
    ap Some c.as_str.ensures.value ∙ first_there c.args.self.now.path.now c.in_ok-level.field-0 c.in-Some.key.now found.3.0 found.1
    ∙ ap (λ level. option_and_then first_key (rest_at (keys_of c.args.self.now) level)) (sym c.in_ok-level.was)
