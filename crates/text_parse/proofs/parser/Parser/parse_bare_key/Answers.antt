use Rattle.std.proofs.Common.{◌≡◌, ◌<◌, length, take, drop, get_or, Ok, inl, inr, sym, ap, subst, ◌∙◌, arith, length-drop, drop-drop, rules}
use Rattle.std.proofs.lemmas.List.{length-take-le}
use Rattle.std.specs.Str.{IsUtf8}
use Rattle.jsonb_spec.specs.Tree.{plain}
use Rattle.text_parse.specs.Parser.{rest_of, size_of}
use Rattle.jsonb_spec.specs.Parsing.BareKey.{key_end}
use Rattle.text_scan.proofs.Strings.BareKeys.{BeginsBare, bare-character, bare-digit, bare-no_text, bare-nothing, bare-past, bare-text, key_within}
use Rattle.text_parse.proofs.parser.Parser.parse_bare_key.Goals as goal
use Rattle.text_parse.proofs.parser.Parser.parse_bare_key.Goals.{then-end-eq0-via-then-end-eq0, then-end-eq0-via-else-end-eq0+then-rest-end-ge128}

pub returns-in_default : goal.returns-in_default
returns-in_default c =
    record {
      parses =
          bare-nothing (size_of c.args.self.now) (rest_of c.args.self.now) c.in_default.ensures.next;
      takes_no_memory = search rules;
      advances = search rules;
    }

pub returns-then-is_ascii_digit : goal.returns-then-is_ascii_digit
returns-then-is_ascii_digit c =
    record {
      parses =
          let p = c.args.self.now in
          bare-digit (size_of p) (rest_of p) c.in-Some.byte _ p.offset c.in-Some.ensures.next (sym c.is_ascii_digit.ensures.value ∙ c.if-is_ascii_digit.true) (omega (arith, length-drop p.offset p.buf.now, p.inside));
      takes_no_memory = search rules;
      advances = search rules;
    }

pub overflow_add-after : goal.overflow_add-after
overflow_add-after c =
    let p = c.args.self.now in
    omega (arith, key_within c.rest-rest.result.now c.in-At.end c.in-At.ensures, ap length c.rest-rest.ensures, length-drop p.offset p.buf.now)

pub bounds-rest-end : goal.bounds-rest-end
bounds-rest-end c = key_within c.rest-rest.result.now c.in-At.end c.in-At.ensures

pub returns-then-end-eq0 : goal.returns-then-end-eq0
returns-then-end-eq0 c =
    record {
      parses =
          let p = c.args.self.now in
          let rest-is = c.rest-rest.ensures in
          let end = c.in-At.end in
          let begins : BeginsBare (rest_of p) = record { first = c.in-Some.byte; others = _; whole = c.in-Some.ensures.next; no_digit = sym c.is_ascii_digit.ensures.value ∙ c.if-is_ascii_digit.false } in
          let found : key_end (rest_of p) ≡ Ok end = ap key_end (sym rest-is) ∙ c.in-At.ensures in
          bare-character (size_of p) (rest_of p) end p.offset begins found
          (elim c.then-end-eq0.branch [
            | then-end-eq0-via-then-end-eq0 w ↦ inl w.if-end-eq0.true
            | then-end-eq0-via-else-end-eq0+then-rest-end-ge128 w ↦ inr (omega (arith, w.if-rest-end-ge128.true, ap (λ u. get_or u end 0) rest-is))
          ]) (omega (arith, length-drop p.offset p.buf.now, p.inside));
      takes_no_memory = search rules;
      advances = search rules;
    }

pub slice_bounds-from_utf8-end : goal.slice_bounds-from_utf8-end
slice_bounds-from_utf8-end c = sym (length-take-le c.in-At.end c.rest-rest.result.now (omega (arith, key_within c.rest-rest.result.now c.in-At.end c.in-At.ensures)))

pub returns-in-Past : goal.returns-in-Past
returns-in-Past c =
    record {
      parses =
          let p = c.args.self.now in
          let begins : BeginsBare (rest_of p) = record { first = c.in-Some.byte; others = _; whole = c.in-Some.ensures.next; no_digit = sym c.is_ascii_digit.ensures.value ∙ c.if-is_ascii_digit.false } in
          bare-past (size_of p) (rest_of p) c.in-Past.at p.offset begins (ap key_end (sym c.rest-rest.ensures) ∙ c.in-Past.ensures.0) (omega (arith, length-drop p.offset p.buf.now, p.inside));
      takes_no_memory = search rules;
      advances = search rules;
    }

pub returns-in-Ok : goal.returns-in-Ok
returns-in-Ok c =
    record {
      parses =
          let p = c.args.self.now in
          let rest-is = c.rest-rest.ensures in
          let end = c.in-At.end in
          let text = c.in-Ok.ensures.cases in
          let begins : BeginsBare (rest_of p) = record { first = c.in-Some.byte; others = _; whole = c.in-Some.ensures.next; no_digit = sym c.is_ascii_digit.ensures.value ∙ c.if-is_ascii_digit.false } in
          let found : key_end (rest_of p) ≡ Ok end = ap key_end (sym rest-is) ∙ c.in-At.ensures in
          let low : get_or (rest_of p) end 0 < 128 = omega (arith, c.if-rest-end-ge128.false, ap (λ u. get_or u end 0) rest-is) in
          bare-text (size_of p) (rest_of p) end begins found c.if-end-eq0.false low (subst (λ u. IsUtf8 (take end u)) rest-is text.1)
          ∙ ap (λ u. Ok ((plain, u), drop end (rest_of p))) (ap (take end) (sym rest-is) ∙ sym text.0) ∙ ap (λ u. Ok ((plain, c.in-Ok.text.now), u)) (drop-drop end p.offset p.buf.now);
      takes_no_memory = search rules;
      advances = search rules;
    }

pub returns-in-Err : goal.returns-in-Err
returns-in-Err c =
    record {
      parses =
          let p = c.args.self.now in
          let rest-is = c.rest-rest.ensures in
          let end = c.in-At.end in
          let begins : BeginsBare (rest_of p) = record { first = c.in-Some.byte; others = _; whole = c.in-Some.ensures.next; no_digit = sym c.is_ascii_digit.ensures.value ∙ c.if-is_ascii_digit.false } in
          let found : key_end (rest_of p) ≡ Ok end = ap key_end (sym rest-is) ∙ c.in-At.ensures in
          let low : get_or (rest_of p) end 0 < 128 = omega (arith, c.if-rest-end-ge128.false, ap (λ u. get_or u end 0) rest-is) in
          bare-no_text (size_of p) (rest_of p) end p.offset begins found c.if-end-eq0.false low (λ utf8. c.in-Err.ensures.cases.0 (subst (λ u. IsUtf8 (take end u)) (sym rest-is) utf8)) (omega (arith, length-drop p.offset p.buf.now, p.inside));
      takes_no_memory = search rules;
      advances = search rules;
    }

pub invariant_of-self : goal.invariant_of-self
invariant_of-self c =
    let p = c.args.self.now in
    record { inside = omega (arith, key_within c.rest-rest.result.now c.in-At.end c.in-At.ensures, ap length c.rest-rest.ensures, length-drop p.offset p.buf.now, p.inside); agree = c.args.self.now.agree }
