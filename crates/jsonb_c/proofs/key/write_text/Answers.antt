use Rattle.std.proofs.Common.{rules, [], length, inl, inr, refl, sym, arith, ◌∙◌, append-nil}
use Rattle.key_value.proofs.Texts.{some_same}
use Rattle.jsonb_spec.specs.SortKey.{text_key}
use Rattle.jsonb_c.proofs.key.write_text.Goals as goal

pub returns-then-out-needed : goal.returns-then-out-needed
returns-then-out-needed c = record {
  writes = record {
    known = search rules;
    written = λ text e. (some_same c.in-Some-text_size.needed (length text) (c.in-Some-text_size.ensures.sized text e), inr (refl, omega (arith, c.if-out-needed.true)));
    untouched = search rules;
    no_size = search rules;
  };
}

pub returns : goal.returns
returns c = record {
  writes = record {
    known = search rules;
    written = λ text e.
        let same = some_same c.in-Some-text_size.needed (length text) (c.in-Some-text_size.ensures.sized text e) in
        (same, inl (refl, c.put_text.ensures.put text [] (e ∙ sym (append-nil (text_key text))) (omega (arith, same, c.if-out-needed.false))));
    untouched = search rules;
    no_size = search rules;
  };
}
