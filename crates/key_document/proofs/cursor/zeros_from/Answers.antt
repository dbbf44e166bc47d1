use Rattle.std.proofs.Common.{◌≡◌, ◌<◌, ◌^◌, drop, length, take, ap, ◌∙◌, arith}
use Rattle.jsonb_spec.specs.SortKey.{key_of}
use Rattle.key_text.proofs.Counts.{one_each}
use Rattle.key_document.proofs.Remaining.{halves, left_at}
use Rattle.jsonb_spec.specs.Document.Zeros.{zeros_of}
use Rattle.key_document.proofs.cursor.zeros_from.Goals as goal
use Rattle.jsonb_spec.specs.Document.Counts.{counts_at}

pub returns-in_err-all : goal.returns-in_err-all
returns-in_err-all c = record {
  left = λ t r e h.
      let is_key : c.split_document.result.0.now ≡ key_of t = c.split_document.ensures.key t r e in
      let small : length (counts_at t) < 2 ^ 63 = omega (arith, ap length is_key, one_each t r.proper) in
      absurd (c.in_err-all.ensures.found (counts_at t) small (c.split_document.ensures.zeros t r e));
}

pub returns-in_err-rest : goal.returns-in_err-rest
returns-in_err-rest c = record {
  left = λ t r e h.
      let is_key : c.split_document.result.0.now ≡ key_of t = c.split_document.ensures.key t r e in
      let small : length (counts_at t) < 2 ^ 63 = omega (arith, ap length is_key, one_each t r.proper) in
      let all = c.in_ok-all.ensures.found (counts_at t) small (c.split_document.ensures.zeros t r e) in
      absurd (c.in_err-rest.ensures.found (counts_at t) small all (omega (arith, h, one_each t r.proper)));
}

pub returns : goal.returns
returns c = record {
  left = λ t r e h.
      let is_key : c.split_document.result.0.now ≡ key_of t = c.split_document.ensures.key t r e in
      let zeros = c.split_document.ensures.zeros t r e in
      let small : length (counts_at t) < 2 ^ 63 = omega (arith, ap length is_key, one_each t r.proper) in
      let all = c.in_ok-all.ensures.found (counts_at t) small zeros in
      let rest = c.in_ok-rest.ensures.found (counts_at t) small all (omega (arith, h, one_each t r.proper)) in
      let offset = c.args.offset in
      left_at t offset c.split_document.result.1.now c.left_as.result h zeros c.left_as.ensures.passed
      (c.left_as.ensures.left (take offset (counts_at t)) (drop offset (counts_at t)) (zeros ∙ ap (zeros_of 0) (halves offset (counts_at t))) rest);
}
