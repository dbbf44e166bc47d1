use Rattle.std.proofs.Common.{refl, subst, rules}
use Rattle.std.proofs.lemmas.Result.{err_from_is_err_and}
use Rattle.jsonb_spec.specs.Parsing.Whitespace.{skip_whitespace}
use Rattle.text_parse.specs.Frames.{scalar_or_null}
use Rattle.text_parse.specs.Parser.{Skips}
use Rattle.text_parse.proofs.Scalars.Built.{puts_on}
use Rattle.text_parse.proofs.Scalars.Elements.{quote_no_container, quote_stays, quoted_element}
use Rattle.text_parse.proofs.Steps.Failures.{misses_same}
use Rattle.text_parse.proofs.parser.Parser.put_next.Goals as goal

pub returns-in_err-put_quoted : goal.returns-in_err-put_quoted
returns-in_err-put_quoted g c =
    let p = c.args.self.now in
    let o = c.take_byte.new.self in
    let e = c.if-take_byte.ensures.rest in
    let residual = err_from_is_err_and c.from_residual.result c.from_residual.ensures.1 in
    record {
      start = p;
      skips = quote_stays p o e;
      element =
          record {
            puts = rw (residual.1) tt;
            fails = rw (residual.1) (quote_no_container p o e, misses_same g.V.Handler.silent c.put_quoted.new.self.reported _ _ (quoted_element p o e c.take_byte.ensures.advances) c.in_err-put_quoted.ensures.parses);
          };
      advances = search rules;
    }

pub returns-then-take_byte : goal.returns-then-take_byte
returns-then-take_byte g c =
    let p = c.args.self.now in
    let o = c.take_byte.new.self in
    let e = c.if-take_byte.ensures.rest in
    let on = c.take_byte.ensures.advances in
    let put = (puts_on g.V.Handler on {other = scalar_or_null} (quoted_element p o e on) c.in_ok-put_quoted.ensures).parses in
    record {
      start = p;
      skips = quote_stays p o e;
      element =
          record {
            puts = record {
              none_opens = quote_no_container p o e;
              tree = put.0;
              parses = put.1;
              put = put.2;
            };
            fails = tt;
          };
      advances = search rules;
    }

pub returns-then-begins_container : goal.returns-then-begins_container
returns-then-begins_container g c =
    let s = c.skip_whitespace.new.self in
    record {
      start = s;
      skips = subst (λ o. Skips skip_whitespace o s) c.if-take_byte.ensures.rest c.skip_whitespace.ensures;
      element =
          record {
            puts = record {
              stays = refl;
              same_sink = refl;
              same_frame = refl;
              opens = c.if-begins_container.ensures.opens;
              is_there = c.if-begins_container.ensures.other;
            };
            fails = tt;
          };
      advances = search rules;
    }

pub returns-in_err-put_element : goal.returns-in_err-put_element
returns-in_err-put_element g c =
    let s = c.skip_whitespace.new.self in
    let residual = err_from_is_err_and c.from_residual-in_err-put_element.result c.from_residual-in_err-put_element.ensures.1 in
    record {
      start = s;
      skips = subst (λ o. Skips skip_whitespace o s) c.if-take_byte.ensures.rest c.skip_whitespace.ensures;
      element =
          record {
            puts = rw (residual.1) tt;
            fails = rw (residual.1) (c.if-begins_container.ensures.other, c.in_err-put_element.ensures.parses);
          };
      advances = search rules;
    }

pub returns : goal.returns
returns g c =
    let s = c.skip_whitespace.new.self in
    let put = c.in_ok-put_element.ensures.parses in
    record {
      start = s;
      skips = subst (λ o. Skips skip_whitespace o s) c.if-take_byte.ensures.rest c.skip_whitespace.ensures;
      element =
          record {
            puts = record {
              none_opens = c.if-begins_container.ensures.other;
              tree = put.0;
              parses = put.1;
              put = put.2;
            };
            fails = tt;
          };
      advances = search rules;
    }
