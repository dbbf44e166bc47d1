use Rattle.std.proofs.Common.{◌≡◌, ◌+◌, ◌<◌, ◌≤◌, ◌^◌, drop, get_or, length, take, ap, subst, sym, ◌∙◌, arith}
use Rattle.std.proofs.lemmas.List.{drop-drop, length-drop}
use Rattle.jsonb_spec.specs.SortKey.{key_of}
use Rattle.key_document.specs.Cursor.{IsLeftOf}
use Rattle.key_document.proofs.Remaining.{halves, left_at}
use Rattle.key_document.proofs.cursor.pass_number.Goals as goal
use Rattle.key_text.proofs.Counts.{one_each}
use Rattle.jsonb_spec.specs.Document.Counts.{counts_at}
use Rattle.jsonb_spec.specs.Document.Numbers.{Pends}
use Rattle.jsonb_spec.specs.Document.Zeros.{zeros_of}

pub returns-in_err-here : goal.returns-in_err-here
returns-in_err-here c = record {
  zeros = λ t r e l h b.
      let is_key : c.split_document.result.0.now ≡ key_of t = c.split_document.ensures.key t r e in
      let z = c.split_document.ensures.zeros t r e in
      let counts = drop c.args.left.passed (counts_at t) in
      let each = one_each t r.proper in
      let long = length-drop c.args.left.passed (counts_at t) in
      let small : length counts < 2 ^ 63 = omega (arith, ap length is_key, each, long) in
      let enough : c.in-Some.gap ≤ length counts = omega (arith, c.in-Some.ensures, each, long, b, h) in
      let pends = c.next_of.ensures.next counts (subst (λ zs. IsLeftOf counts zs c.args.left) (sym z) l.rest) in
      absurd (c.in_err-here.ensures.found counts small pends enough);
}

pub returns-in_err-behind : goal.returns-in_err-behind
returns-in_err-behind c = record {
  zeros = λ t r e l h b.
      let is_key : c.split_document.result.0.now ≡ key_of t = c.split_document.ensures.key t r e in
      let z = c.split_document.ensures.zeros t r e in
      let counts = drop c.args.left.passed (counts_at t) in
      let each = one_each t r.proper in
      let long = length-drop c.args.left.passed (counts_at t) in
      let small : length counts < 2 ^ 63 = omega (arith, ap length is_key, each, long) in
      let enough : c.in-Some.gap ≤ length counts = omega (arith, c.in-Some.ensures, each, long, b, h) in
      let pends = c.next_of.ensures.next counts (subst (λ zs. IsLeftOf counts zs c.args.left) (sym z) l.rest) in
      let here = c.in_ok-here.ensures.found counts small pends enough in
      let rest = drop c.in-Some.gap counts in
      let rest_long = length-drop c.in-Some.gap counts in
      let fewer : length rest < 2 ^ 63 = omega (arith, small, rest_long) in
      let some : 1 ≤ length rest = omega (arith, c.in-Some.ensures, each, long, rest_long, b, h) in
      absurd (c.in_err-behind.ensures.found rest fewer here some);
}

pub returns : goal.returns
returns c = record {
  zeros = λ t r e l h b.
      let is_key : c.split_document.result.0.now ≡ key_of t = c.split_document.ensures.key t r e in
      let z = c.split_document.ensures.zeros t r e in
      let counts = drop c.args.left.passed (counts_at t) in
      let each = one_each t r.proper in
      let long = length-drop c.args.left.passed (counts_at t) in
      let small : length counts < 2 ^ 63 = omega (arith, ap length is_key, each, long) in
      let enough : c.in-Some.gap ≤ length counts = omega (arith, c.in-Some.ensures, each, long, b, h) in
      let pends = c.next_of.ensures.next counts (subst (λ zs. IsLeftOf counts zs c.args.left) (sym z) l.rest) in
      let here = c.in_ok-here.ensures.found counts small pends enough in
      let rest = drop c.in-Some.gap counts in
      let rest_long = length-drop c.in-Some.gap counts in
      let fewer : length rest < 2 ^ 63 = omega (arith, small, rest_long) in
      let some : 1 ≤ length rest = omega (arith, c.in-Some.ensures, each, long, rest_long, b, h) in
      let at = c.args.offset in
      let behind = c.in_ok-behind.ensures.found rest fewer here some in
      let gap : c.args.left.passed + c.in-Some.gap ≡ at = omega (arith, c.in-Some.ensures, h) in
      let rest_is : rest ≡ drop at (counts_at t) = drop-drop c.in-Some.gap c.args.left.passed (counts_at t) ∙ ap (λ n. drop n (counts_at t)) gap in
      let behind_is : drop 1 rest ≡ drop (at + 1) (counts_at t) = ap (drop 1) rest_is ∙ drop-drop 1 at (counts_at t) in
      let left = c.left_as.ensures.left (take (at + 1) (counts_at t)) (drop (at + 1) (counts_at t)) (z ∙ ap (zeros_of 0) (halves (at + 1) (counts_at t))) (subst (λ cs. Pends cs c.in_ok-behind.behind) behind_is behind) in
      let sum : c.saturating_add.result ≡ at + 1 = omega (arith, c.saturating_add.ensures, b, ap length is_key) in
      let new = left_at t (at + 1) c.split_document.result.1.now c.left_as.result (omega (arith, b)) z (c.left_as.ensures.passed ∙ sum) left in
      (c.first_count.ensures rest here ∙ ap (λ cs. get_or cs 0 0) rest_is, new.1, omega (arith, new.0));
}
