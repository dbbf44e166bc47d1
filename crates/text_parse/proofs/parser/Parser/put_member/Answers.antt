use Rattle.std.proofs.Common.{refl, subst}
use Rattle.std.proofs.lemmas.Result.{err_from_is_err_and}
use Rattle.jsonb_spec.specs.Parsing.Scalar.{scalar_at}
use Rattle.text_parse.specs.Handler.{Misses}
use Rattle.text_parse.specs.Parser.{parse_at}
use Rattle.text_parse.proofs.Scalars.Built.{puts_on, scalar_still}
use Rattle.text_parse.proofs.Steps.Failures.{misses_same}
use Rattle.text_parse.proofs.Steps.Outcomes.{scalar_quoted}
use Rattle.text_parse.proofs.parser.Parser.put_member.Goals as goal

pub returns-in_err-put_quoted-clause-puts : goal.returns-in_err-put_quoted-clause-puts
returns-in_err-put_quoted-clause-puts g c =
    let p = c.args.self.now in
    let o = c.take_byte.new.self in
    let e = c.if-take_byte.ensures.rest in
    let residual = err_from_is_err_and c.from_residual.result c.from_residual.ensures.1 in
    record {
      puts = rw (residual.1) tt;
      fails = rw (residual.1) (c.if-begins_container.ensures.other, misses_same g.V.Handler.silent c.put_quoted.new.self.reported _ _ (scalar_quoted p o c.take_byte.ensures.advances e) c.in_err-put_quoted.ensures.parses);
    }

pub returns-then-take_byte-clause-puts : goal.returns-then-take_byte-clause-puts
returns-then-take_byte-clause-puts g c =
    let on = c.take_byte.ensures.advances in
    let put = (puts_on g.V.Handler on {other = scalar_at} (scalar_quoted c.args.self.now c.take_byte.new.self on c.if-take_byte.ensures.rest) c.in_ok-put_quoted.ensures).parses in
    record {
      puts =
          record {
            none_opens = c.if-begins_container.ensures.other;
            tree = put.0;
            parses = put.1;
            put = put.2;
          };
      fails = tt;
    }

pub returns-then-begins_container-clause-puts : goal.returns-then-begins_container-clause-puts
returns-then-begins_container-clause-puts g c =
    record {
      puts =
          record {
            stays = refl;
            same_sink = refl;
            same_frame = refl;
            opens = c.if-begins_container.ensures.opens;
            is_there = c.if-begins_container.ensures.other;
          };
      fails = tt;
    }

pub returns-in_err-put_scalar-clause-puts : goal.returns-in_err-put_scalar-clause-puts
returns-in_err-put_scalar-clause-puts g c =
    let still = c.if-take_byte.ensures.rest in
    let residual = err_from_is_err_and c.from_residual-in_err-put_scalar.result c.from_residual-in_err-put_scalar.ensures.1 in
    record {
      puts = rw (residual.1) tt;
      fails = rw (residual.1) (c.if-begins_container.ensures.other, subst (λ q. Misses g.V.Handler.silent c.put_scalar.new.self.reported (parse_at scalar_at q)) still c.in_err-put_scalar.ensures.parses);
    }

pub returns-clause-puts : goal.returns-clause-puts
returns-clause-puts g c =
    let put = (puts_on g.V.Handler c.take_byte.ensures.advances {other = scalar_at} (scalar_still c.args.self.now c.take_byte.new.self c.if-take_byte.ensures.rest) c.in_ok-put_scalar.ensures).parses in
    record {
      puts =
          record {
            none_opens = c.if-begins_container.ensures.other;
            tree = put.0;
            parses = put.1;
            put = put.2;
          };
      fails = tt;
    }
