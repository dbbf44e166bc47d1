use Rattle.std.proofs.Common.{◌≡◌, ◌+◌, ◌<◌, ◌^◌, ◌++◌, drop, length, take, ap, sym, subst, ◌∙◌, arith, append_assoc, length-append}
use Rattle.std.specs.Prelude.{vec_len, vec_capacity}
use Rattle.jsonb_spec.specs.SortKey.{key_of}
use Rattle.jsonb_spec.specs.Document.Numbers.{Pends}
use Rattle.jsonb_spec.specs.Document.Zeros.{zeros_of}
use Rattle.key_document.specs.Changes.{IsLacking}
use Rattle.key_document.specs.Cursor.{IsLeftOf}
use Rattle.jsonb_spec.specs.Document.{behind_key, document_of, zeros_at}
use Rattle.key_document.proofs.Changing.{key_lacking}
use Rattle.key_document.proofs.Remaining.{left_at, next_counts, part_there}
use Rattle.key_document.proofs.cursor.append_next_range.Goals as goal
use Rattle.jsonb_spec.specs.Document.Counts.{counts_at}

pub returns-in_err-extend_from_slice-clause-part : goal.returns-in_err-extend_from_slice-clause-part
returns-in_err-extend_from_slice-clause-part c = λ t r e l h u ru at size.
    let is_key : c.split_document.result.0.now ≡ key_of t = c.split_document.ensures.key t r e in
    let is : c.split_at-2.result.0.now ≡ key_of u = c.split_at-2.ensures.front ∙ ap (take c.args.size) c.split_at.ensures.back ∙ part_there c.split_document.result.0.now at.0 (key_of u) at.2.behind c.args.offset c.args.size (is_key ∙ at.2.key_is) at.1 size in
    key_lacking u c.from_residual.result c.args.out.now c.extend_from_slice.new.self c.from_residual.ensures.1 (omega (arith, c.in_err-extend_from_slice.ensures.full, ap length is))

pub returns-in-Ok-clause-part : goal.returns-in-Ok-clause-part
returns-in-Ok-clause-part c = λ t r e l h u ru at size.
    let is_key : c.split_document.result.0.now ≡ key_of t = c.split_document.ensures.key t r e in
    let z = c.split_document.ensures.zeros t r e in
    let is : c.split_at-2.result.0.now ≡ key_of u = c.split_at-2.ensures.front ∙ ap (take c.args.size) c.split_at.ensures.back ∙ part_there c.split_document.result.0.now at.0 (key_of u) at.2.behind c.args.offset c.args.size (is_key ∙ at.2.key_is) at.1 size in
    let n = next_counts t u c.args.left c.args.offset c.args.size r.proper ru.proper h at size in
    let left = subst (λ zs. IsLeftOf (drop c.args.left.passed (counts_at t)) zs c.args.left) (sym z) l.rest in
    let pends = subst (λ counts. Pends counts c.next_of.result) n.same (c.next_of.ensures.next (drop c.args.left.passed (counts_at t)) left) in
    let fit : length (n.before ++ (counts_at u ++ n.behind)) < 2 ^ 63 = omega (arith, n.fit, ap length is_key) in
    let cut = c.in-Ok.ensures.taken n.before (counts_at u) n.behind pends n.gap n.size_is fit in
    record {
      ok = cut ∙ ap (λ l. l ++ behind_key (zeros_at u)) (c.in_ok-extend_from_slice.ensures.items ∙ ap (λ l. c.args.out.now.items ++ l) is) ∙ append_assoc c.args.out.now.items (key_of u) (behind_key (zeros_at u));
      fits = ru.within;
      errors = tt;
    }

pub returns-in-Ok-clause-left : goal.returns-in-Ok-clause-left
returns-in-Ok-clause-left c = λ t r e l h u ru at size.
    let is_key : c.split_document.result.0.now ≡ key_of t = c.split_document.ensures.key t r e in
    let z = c.split_document.ensures.zeros t r e in
    let zeros = c.split_document.result.1.now in
    let n = next_counts t u c.args.left c.args.offset c.args.size r.proper ru.proper h at size in
    let left = subst (λ zs. IsLeftOf (drop c.args.left.passed (counts_at t)) zs c.args.left) (sym z) l.rest in
    let pends = subst (λ counts. Pends counts c.next_of.result) n.same (c.next_of.ensures.next (drop c.args.left.passed (counts_at t)) left) in
    let fit : length (n.before ++ (counts_at u ++ n.behind)) < 2 ^ 63 = omega (arith, n.fit, ap length is_key) in
    let rest = c.in-Ok.ensures.rest n.before (counts_at u) n.behind pends n.gap n.size_is fit in
    let reported = c.left_as.ensures.left n.front n.behind (z ∙ ap (zeros_of 0) n.all) rest in
    left_at t (c.args.offset + c.args.size) zeros c.left_as.result n.within z c.left_as.ensures.passed (subst (λ counts. IsLeftOf counts zeros c.left_as.result) (sym n.rest) reported)

pub returns-in-Err-clause-part : goal.returns-in-Err-clause-part
returns-in-Err-clause-part c = λ t r e l h u ru at size.
    let is_key : c.split_document.result.0.now ≡ key_of t = c.split_document.ensures.key t r e in
    let z = c.split_document.ensures.zeros t r e in
    let is : c.split_at-2.result.0.now ≡ key_of u = c.split_at-2.ensures.front ∙ ap (take c.args.size) c.split_at.ensures.back ∙ part_there c.split_document.result.0.now at.0 (key_of u) at.2.behind c.args.offset c.args.size (is_key ∙ at.2.key_is) at.1 size in
    let n = next_counts t u c.args.left c.args.offset c.args.size r.proper ru.proper h at size in
    let left = subst (λ zs. IsLeftOf (drop c.args.left.passed (counts_at t)) zs c.args.left) (sym z) l.rest in
    let pends = subst (λ counts. Pends counts c.next_of.result) n.same (c.next_of.ensures.next (drop c.args.left.passed (counts_at t)) left) in
    let fit : length (n.before ++ (counts_at u ++ n.behind)) < 2 ^ 63 = omega (arith, n.fit, ap length is_key) in
    let cut = c.in-Err.ensures.taken n.before (counts_at u) n.behind pends n.gap n.size_is fit in
    let mid = c.extend_from_slice.new.self in
    let appended : mid.items ≡ c.args.out.now.items ++ key_of u = c.in_ok-extend_from_slice.ensures.items ∙ ap (λ l. c.args.out.now.items ++ l) is in
    let short : vec_capacity c.args.out.now < vec_len c.args.out.now + length (document_of u) = omega (arith, cut.1, c.in_ok-extend_from_slice.ensures.capacity, c.args.out.now.ok.0, mid.ok.0, ap length appended, length-append c.args.out.now.items (key_of u), length-append (key_of u) (behind_key (zeros_at u))) in
    record { ok = tt; fits = tt; errors = subst (λ error. IsLacking u c.args.out.now error) (sym cut.0) short }
