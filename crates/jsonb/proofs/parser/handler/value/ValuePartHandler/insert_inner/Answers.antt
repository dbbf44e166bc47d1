use Rattle.std.proofs.Common.{refl, ap, sym, ◌∙◌, true≢false, string_bytes}
use Rattle.jsonb_spec.specs.Source.{found_member}
use Rattle.jsonb.proofs.Containers.Built.{if_put, put-more}
use Rattle.jsonb.proofs.parser.handler.value.ValuePartHandler.insert_inner.Goals as goal

pub returns-clause-put : goal.returns-clause-put
returns-clause-put g c = if_put c.put_member.result c.put_member.ensures.entries c.put_member.ensures.missing
    (λ inserted missing text s front k offset fs cs held. (
      (put-more front (found_member k s offset) c.args.object.now.members.entries c.put_member.new.members.entries c.replace-key.result c.args.value.value held.1.0.0 inserted missing (ap string_bytes c.replace-key.ensures.value ∙ held.1.0.1 refl) held.0, λ e. absurd (true≢false (sym e))),
      held.1.1,
    ))
