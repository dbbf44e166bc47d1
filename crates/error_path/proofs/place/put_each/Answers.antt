use Rattle.std.proofs.Common.{true, false, map, string_bytes, subst}
use Rattle.text_scan.specs.Answer.{grammar_of}
use Rattle.jsonb_spec.specs.Path.ErrorPath.{completed, literal}
use Rattle.error_path.specs.Placed.{IsPut}
use Rattle.error_path.proofs.place.put_each.Goals as goal

pub returns-in-Repeated : goal.returns-in-Repeated
returns-in-Repeated c =
    let place = c.args.place.now in
    let text = completed c.args.front.now place.lacking place.closers.items true in
    (true, subst (λ put. IsPut put (grammar_of c.args.grammar) text (map string_bytes place.keys.items) (literal true)) c.in-Repeated.is c.in_ok-put_value.ensures)
