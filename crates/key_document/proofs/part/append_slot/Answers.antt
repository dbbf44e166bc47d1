use Rattle.std.proofs.Common.{◌≡◌, ◌+◌, ◌<◌, ◌^◌, ◌++◌, length, sym, ap, subst, ◌∙◌, arith, append_assoc, length-append}
use Rattle.std.specs.Prelude.{vec_len, vec_capacity}
use Rattle.jsonb_spec.specs.SortKey.{key_of}
use Rattle.jsonb_spec.specs.Document.Zeros.{zeros_of}
use Rattle.key_document.specs.Changes.{IsLacking}
use Rattle.jsonb_spec.specs.Document.{behind_key, document_of, zeros_at}
use Rattle.key_document.proofs.Changing.{key_lacking}
use Rattle.key_text.proofs.Counts.{one_each}
use Rattle.key_document.proofs.part.append_slot.Goals as goal
use Rattle.jsonb_spec.specs.Document.Counts.{counts_at}

pub returns-in_err-extend_from_slice-clause-appended : goal.returns-in_err-extend_from_slice-clause-appended
returns-in_err-extend_from_slice-clause-appended c = λ t u p small z r at is. key_lacking u c.from_residual.result c.args.out.now c.extend_from_slice.new.self c.from_residual.ensures.1 (omega (arith, c.in_err-extend_from_slice.ensures.full, ap length is))

pub returns-in-Ok-clause-appended : goal.returns-in-Ok-clause-appended
returns-in-Ok-clause-appended c = λ t u p small z r at is.
    let b = at.2 in
    let zeros : c.args.zeros.now ≡ zeros_of 0 (b.counts_before ++ (counts_at u ++ b.counts_behind)) = z ∙ ap (zeros_of 0) b.counts_are in
    let fit : length (b.counts_before ++ (counts_at u ++ b.counts_behind)) < 2 ^ 63 = omega (arith, small, one_each t p, ap length b.counts_are) in
    let cut = c.in-Ok.ensures.cut b.counts_before (counts_at u) b.counts_behind zeros (b.one_each ∙ at.1) (one_each u r.proper ∙ sym (ap length is)) fit in
    record {
      ok = cut ∙ ap (λ l. l ++ behind_key (zeros_at u)) (c.in_ok-extend_from_slice.ensures.items ∙ ap (λ l. c.args.out.now.items ++ l) is) ∙ append_assoc c.args.out.now.items (key_of u) (behind_key (zeros_at u));
      fits = r.within;
      errors = tt;
    }

pub returns-in-Err-clause-appended : goal.returns-in-Err-clause-appended
returns-in-Err-clause-appended c = λ t u p small z r at is.
    let b = at.2 in
    let zeros : c.args.zeros.now ≡ zeros_of 0 (b.counts_before ++ (counts_at u ++ b.counts_behind)) = z ∙ ap (zeros_of 0) b.counts_are in
    let fit : length (b.counts_before ++ (counts_at u ++ b.counts_behind)) < 2 ^ 63 = omega (arith, small, one_each t p, ap length b.counts_are) in
    let cut = c.in-Err.ensures.cut b.counts_before (counts_at u) b.counts_behind zeros (b.one_each ∙ at.1) (one_each u r.proper ∙ sym (ap length is)) fit in
    let mid = c.extend_from_slice.new.self in
    let appended : mid.items ≡ c.args.out.now.items ++ key_of u = c.in_ok-extend_from_slice.ensures.items ∙ ap (λ l. c.args.out.now.items ++ l) is in
    let short : vec_capacity c.args.out.now < vec_len c.args.out.now + length (document_of u) = omega (arith, cut.1, c.in_ok-extend_from_slice.ensures.capacity, c.args.out.now.ok.0, mid.ok.0, ap length appended, length-append c.args.out.now.items (key_of u), length-append (key_of u) (behind_key (zeros_at u))) in
    record { ok = tt; fits = tt; errors = subst (λ error. IsLacking u c.args.out.now error) (sym cut.0) short }
