use Rattle.std.proofs.Common.{◌≡◌, ◌++◌, length, drop, ap, ◌∙◌, arith, length-append}
use Rattle.std.proofs.Math.Seq.{drop-append_seam}
use Rattle.jsonb_spec.specs.SortKey.{number_key}
use Rattle.jsonb_spec.specs.Tree.{number}
use Rattle.key_value.proofs.Texts.{none_some, some_same}
use Rattle.key_document.proofs.from_text.number_size.Goals as goal

pub returns-in-Some : goal.returns-in-Some
returns-in-Some c = record {
  found = λ n p front more e at.
      let key : c.split_at.result.1.now ≡ number_key n ++ more = c.split_at.ensures.back ∙ ap (λ k. drop k c.args.bytes.now) at ∙ ap (drop (length front)) e ∙ drop-append_seam front (number_key n ++ more) in
      let rest = some_same c.in-Some.behind.now more (c.in-Some.ensures.found 512 (number n) (record { proper = p; within = tt }) tt more key) in
      omega (arith, ap length key, length-append (number_key n) more, ap length rest);
}

pub returns-in-None : goal.returns-in-None
returns-in-None c = record {
  found = λ n p front more e at.
      let key : c.split_at.result.1.now ≡ number_key n ++ more = c.split_at.ensures.back ∙ ap (λ k. drop k c.args.bytes.now) at ∙ ap (drop (length front)) e ∙ drop-append_seam front (number_key n ++ more) in
      absurd (none_some _ (c.in-None.ensures.found 512 (number n) (record { proper = p; within = tt }) tt more key));
}
