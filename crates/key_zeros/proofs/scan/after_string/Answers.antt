use Rattle.std.proofs.Common.{◌∷◌, sym, ap, ◌∙◌, arith}
use Rattle.std.proofs.lemmas.List.{take_rest}
use Rattle.key_zeros.specs.Scan.{from_number_behind}
use Rattle.key_zeros.proofs.Scanning.{run_passed, run_then, nothing_behind, nothing_escaped, other_passed}
use Rattle.key_zeros.proofs.scan.after_string.Goals as goal

pub returns-in_default-clause-found : goal.returns-in_default-clause-found
returns-in_default-clause-found c =
    c.runs.invariant.same ∙ run_passed c.plain_len-run.result c.runs.rest.now c.plain_len-run.ensures.within c.plain_len-run.ensures.plain
    ∙ ap from_number_behind (sym (take_rest c.runs.rest.now c.plain_len-run.result)) ∙ nothing_behind _ c.in_default.ensures.cases

pub returns-then-byte-eq34-clause-found : goal.returns-then-byte-eq34-clause-found
returns-then-byte-eq34-clause-found c =
    run_then c.args.bytes.now c.runs.rest.now _ c.plain_len-run.result c.in-Some.byte.now c.in-Some.others.now c.runs.invariant.same c.plain_len-run.ensures.within c.plain_len-run.ensures.plain (take_rest c.runs.rest.now c.plain_len-run.result) c.in-Some.ensures.cases.0
    ∙ ap (λ b. from_number_behind (b ∷ c.in-Some.others.now)) c.if-byte-eq34.true

pub returns-in_default-split_first-clause-found : goal.returns-in_default-split_first-clause-found
returns-in_default-split_first-clause-found c =
    run_then c.args.bytes.now c.runs.rest.now _ c.plain_len-run.result c.in-Some.byte.now c.in-Some.others.now c.runs.invariant.same c.plain_len-run.ensures.within c.plain_len-run.ensures.plain (take_rest c.runs.rest.now c.plain_len-run.result) c.in-Some.ensures.cases.0
    ∙ ap (λ b. from_number_behind (b ∷ c.in-Some.others.now)) c.if-byte-ne92.false
    ∙ nothing_escaped c.in-Some.others.now c.in_default-split_first.ensures.cases

pub runs-preserved-then-byte-ne92 : goal.runs-preserved-then-byte-ne92
runs-preserved-then-byte-ne92 c = record {
  same = run_then c.args.bytes.now c.runs.rest.now _ c.plain_len-run.result c.in-Some.byte.now c.in-Some.others.now c.runs.invariant.same c.plain_len-run.ensures.within c.plain_len-run.ensures.plain (take_rest c.runs.rest.now c.plain_len-run.result) c.in-Some.ensures.cases.0
      ∙ other_passed c.in-Some.byte.now c.in-Some.others.now c.if-byte-eq34.false c.if-byte-ne92.true;
  within = omega (arith, c.runs.invariant.within, c.in-Some.ensures.cases.1);
}

pub runs-preserved : goal.runs-preserved
runs-preserved c = record {
  same = run_then c.args.bytes.now c.runs.rest.now _ c.plain_len-run.result c.in-Some.byte.now c.in-Some.others.now c.runs.invariant.same c.plain_len-run.ensures.within c.plain_len-run.ensures.plain (take_rest c.runs.rest.now c.plain_len-run.result) c.in-Some.ensures.cases.0
      ∙ ap (λ b. from_number_behind (b ∷ c.in-Some.others.now)) c.if-byte-ne92.false
      ∙ ap (λ bs. from_number_behind (92 ∷ bs)) c.in-Some-split_first.ensures.cases.0;
  within = omega (arith, c.runs.invariant.within, c.in-Some.ensures.cases.1, c.in-Some-split_first.ensures.cases.1);
}
