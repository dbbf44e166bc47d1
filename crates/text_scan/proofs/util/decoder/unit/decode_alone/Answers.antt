use Rattle.std.proofs.Common.{◌++◌, ◌∷◌, List, ℕ, take, inl, ap, sym, subst, ◌∙◌, arith}
use Rattle.jsonb_spec.specs.Grammar.StringBody.{alone}
use Rattle.jsonb_spec.specs.Parsing.Decoding.{Adds}
use Rattle.text_scan.proofs.Strings.Decoding.{adds_then, decoded_alone}
use Rattle.text_scan.proofs.util.decoder.unit.decode_alone.Goals as goal

pub units-preserved : goal.units-preserved
units-preserved c =
    let inv = c.units.invariant in
    let unit = c.in-Some-read_alone.unit in
    let is = c.in-Some-read_alone.ensures in
    let old : List ℕ = take c.units.done.len c.units.text in
    let new : List ℕ = take c.push_char.result c.push_char.new.text in
    record {
      adds = λ mode beyond.
          let one : Adds mode (92 ∷ 117 ∷ c.in-Some.digits.now) unit.rest.now old new = record {
            text = alone unit.digits.now;
            appended = c.push_char.ensures.written ∙ ap (λ added. old ++ added) (sym is.alone);
            decodes = decoded_alone mode c.in-Some.digits.now unit.digits.now unit.rest.now unit.value beyond is.some (inl is.low);
          } in
          adds_then mode c.args.bytes.now c.units.done.rest.now unit.rest.now (take c.args.len c.args.text.now) old new (inv.adds mode beyond)
          (subst (λ bytes. Adds mode bytes unit.rest.now old new) (sym c.in-Some.ensures.some) one);
      space = omega (arith, inv.space, c.push_char.ensures.len, is.long, c.in-Some.ensures.len);
      shorter = omega (arith, inv.shorter, is.long, c.in-Some.ensures.len);
      size = c.push_char.ensures.size ∙ inv.size;
    }
