use Rattle.std.proofs.Common.{refl, sym, true≢false}
use Rattle.jsonb_spec.specs.Source.{found_member}
use Rattle.jsonb.proofs.Given.{all_made}
use Rattle.jsonb.proofs.Containers.Built.{if_put, put-more}
use Rattle.jsonb.proofs.parser.handler.value.ValuePartHandler.insert.Goals as goal

pub returns-clause-put : goal.returns-clause-put
returns-clause-put g c = if_put c.put_member.result c.put_member.ensures.entries c.put_member.ensures.missing
    (λ inserted missing text s front k offset fs cs held is. (
      (put-more front (found_member k s offset) c.args.object.now.members.entries c.put_member.new.members.entries c.args.key c.args.value.value held.0.0 inserted missing (held.0.1 refl) (all_made is).0, λ e. absurd (true≢false (sym e))),
      held.1,
    ))
