use Rattle.std.proofs.Common.{ap, ◌∙◌, arith}
use Rattle.key_text.proofs.Decimals.{few}
use Rattle.key_document.proofs.Digits.{ending_read}
use Rattle.key_document.proofs.from_text.count_zeros.Goals as goal

pub returns-then-ending-gt255 : goal.returns-then-ending-gt255
returns-then-ending-gt255 c = record {
  found = λ n p more ends e. absurd (omega (arith, c.if-ending-gt255.true, ap (λ r. r.1.0) c.ending_of-ending.ensures.exact, ap (λ r. r.0) (ending_read n p more c.args.bytes.now ends e), few n p));
}

pub returns : goal.returns
returns c = record {
  found = λ n p more ends e.
      let x = ending_read n p more c.args.bytes.now ends e in
      (ap (λ r. r.1.0) c.ending_of-ending.ensures.exact ∙ ap (λ r. r.0) x, ap (λ r. r.1.1) c.ending_of-ending.ensures.exact ∙ ap (λ r. r.1) x);
}
