use Rattle.std.proofs.Common.{◌≡◌, ◌+◌, ◌<◌, ◌++◌, length, take, sym, ap, subst, ◌∙◌, arith, append_assoc, length-append}
use Rattle.std.specs.Prelude.{vec_len, vec_capacity}
use Rattle.key_text.proofs.Appending.{both, no_capacity_second}
use Rattle.jsonb_spec.specs.Document.Numbers.{Pends}
use Rattle.jsonb_spec.specs.Document.Zeros.{plain_at_end, zeros_of}
use Rattle.key_document.proofs.Joining.{counts_long, entry_passed, front_passed, front_taken, front_within, lacks_zeros, part_within, plain_bound, take_all, three_parts}
use Rattle.key_document.proofs.splice.join_zeros.Goals as goal

pub returns-in_err-plain-clause-joined : goal.returns-in_err-plain-clause-joined
returns-in_err-plain-clause-joined c = λ front entry part behind x.
    let counts = front ++ (entry ++ behind) in
    let pends = c.in_ok-all.ensures.found counts (omega (arith, x.small, counts_long front entry part behind x)) x.zeros_are in
    let y = c.in_err-plain.ensures.found counts pends (omega (arith, x.front_is, length-append front (entry ++ behind))) (omega (arith, x.small, counts_long front entry part behind x)) (omega (arith, x.small, x.front_is, counts_long front entry part behind x, length-append front (entry ++ behind))) in
    lacks_zeros c.from_residual-in_err-plain.result c.in_err-plain.field-0.0 c.args.out.now c.copy.new.out (zeros_of 0 (take c.args.lengths.now.front counts)) _ c.from_residual-in_err-plain.ensures.1 y.0 y.1
    (omega (arith, ap (λ l. length (zeros_of 0 l)) (front_taken front entry part behind x), front_within front c.args.lengths.now.name part behind))

pub returns-in_err-rest-clause-joined : goal.returns-in_err-rest-clause-joined
returns-in_err-rest-clause-joined c = λ front entry part behind x.
    let counts = front ++ (entry ++ behind) in
    let pends = c.in_ok-all.ensures.found counts (omega (arith, x.small, counts_long front entry part behind x)) x.zeros_are in
    let y = c.in_ok-plain.ensures.found counts pends (omega (arith, x.front_is, length-append front (entry ++ behind))) (omega (arith, x.small, counts_long front entry part behind x)) (omega (arith, x.small, x.front_is, counts_long front entry part behind x, length-append front (entry ++ behind))) in
    let left = subst (λ l. Pends l c.in_ok-plain.left) (front_passed front entry part behind x) y.2 in
    absurd (c.in_err-rest.ensures.found (entry ++ behind) (omega (arith, x.small, x.key_is, length-append entry behind)) left (omega (arith, c.saturating_sub.ensures, c.saturating_sub-entry.ensures, x.key_is, x.front_is, x.behind_is, length-append entry behind)))

pub returns-in_err-named-clause-joined : goal.returns-in_err-named-clause-joined
returns-in_err-named-clause-joined c = λ front entry part behind x.
    let counts = front ++ (entry ++ behind) in
    let pends = c.in_ok-all.ensures.found counts (omega (arith, x.small, counts_long front entry part behind x)) x.zeros_are in
    let y = c.in_ok-plain.ensures.found counts pends (omega (arith, x.front_is, length-append front (entry ++ behind))) (omega (arith, x.small, counts_long front entry part behind x)) (omega (arith, x.small, x.front_is, counts_long front entry part behind x, length-append front (entry ++ behind))) in
    let plain : c.in_ok-plain.plain ≡ plain_at_end 0 front = y.1 ∙ ap (plain_at_end 0) (front_taken front entry part behind x) in
    absurd (c.in_err-named.ensures (omega (arith, plain, plain_bound 0 front, x.fit)))

pub returns-in_err-more-clause-joined : goal.returns-in_err-more-clause-joined
returns-in_err-more-clause-joined c = λ front entry part behind x.
    let counts = front ++ (entry ++ behind) in
    let pends = c.in_ok-all.ensures.found counts (omega (arith, x.small, counts_long front entry part behind x)) x.zeros_are in
    let y = c.in_ok-plain.ensures.found counts pends (omega (arith, x.front_is, length-append front (entry ++ behind))) (omega (arith, x.small, counts_long front entry part behind x)) (omega (arith, x.small, x.front_is, counts_long front entry part behind x, length-append front (entry ++ behind))) in
    let taken = front_taken front entry part behind x in
    let plain : c.in_ok-plain.plain ≡ plain_at_end 0 front = y.1 ∙ ap (plain_at_end 0) taken in
    let first : c.copy.new.out.items ≡ c.args.out.now.items ++ zeros_of 0 front = y.0 ∙ ap (λ l. c.args.out.now.items ++ zeros_of 0 l) taken in
    let sum : c.in_ok-named.named ≡ c.in_ok-plain.plain + c.args.lengths.now.name = c.in_ok-named.ensures (omega (arith, plain, plain_bound 0 front, x.fit)) in
    let named : c.in_ok-named.named ≡ plain_at_end 0 front + c.args.lengths.now.name = omega (arith, sum, plain) in
    let part_pends = c.in_ok-part_all.ensures.found part (omega (arith, x.fit)) x.part_are in
    let z = c.in_err-more.ensures.found part part_pends (omega (arith, x.part_is)) (omega (arith, x.fit)) (omega (arith, named, plain_bound 0 front, x.fit, x.part_is)) in
    let full = subst (λ l. vec_capacity c.copy.new.out < vec_len c.copy.new.out + length (zeros_of c.in_ok-named.named l)) (take_all c.args.lengths.now.part part x.part_is) z.1 in
    lacks_zeros c.from_residual-in_err-more.result c.in_err-more.field-0.0 c.args.out.now c.copy-2.new.out (zeros_of 0 front ++ zeros_of c.in_ok-named.named part) _ c.from_residual-in_err-more.ensures.1 z.0
    (no_capacity_second c.args.out.now c.copy.new.out (zeros_of 0 front) (zeros_of c.in_ok-named.named part) first c.in_ok-plain.ensures.preserves.capacity full)
    (part_within front c.args.lengths.now.name part behind c.in_ok-named.named named)

pub returns-in_err-copy-clause-joined : goal.returns-in_err-copy-clause-joined
returns-in_err-copy-clause-joined c = λ front entry part behind x.
    let counts = front ++ (entry ++ behind) in
    let pends = c.in_ok-all.ensures.found counts (omega (arith, x.small, counts_long front entry part behind x)) x.zeros_are in
    let y = c.in_ok-plain.ensures.found counts pends (omega (arith, x.front_is, length-append front (entry ++ behind))) (omega (arith, x.small, counts_long front entry part behind x)) (omega (arith, x.small, x.front_is, counts_long front entry part behind x, length-append front (entry ++ behind))) in
    let taken = front_taken front entry part behind x in
    let plain : c.in_ok-plain.plain ≡ plain_at_end 0 front = y.1 ∙ ap (plain_at_end 0) taken in
    let first : c.copy.new.out.items ≡ c.args.out.now.items ++ zeros_of 0 front = y.0 ∙ ap (λ l. c.args.out.now.items ++ zeros_of 0 l) taken in
    let left = subst (λ l. Pends l c.in_ok-plain.left) (front_passed front entry part behind x) y.2 in
    let passed : c.saturating_sub-entry.result ≡ length entry = omega (arith, c.saturating_sub.ensures, c.saturating_sub-entry.ensures, x.key_is, x.front_is, x.behind_is) in
    let rest = subst (λ l. Pends l c.in_ok-rest.rest) (entry_passed front entry part behind x _ passed) (c.in_ok-rest.ensures.found (entry ++ behind) (omega (arith, x.small, x.key_is, length-append entry behind)) left (omega (arith, passed, length-append entry behind))) in
    let sum : c.in_ok-named.named ≡ c.in_ok-plain.plain + c.args.lengths.now.name = c.in_ok-named.ensures (omega (arith, plain, plain_bound 0 front, x.fit)) in
    let named : c.in_ok-named.named ≡ plain_at_end 0 front + c.args.lengths.now.name = omega (arith, sum, plain) in
    let part_pends = c.in_ok-part_all.ensures.found part (omega (arith, x.fit)) x.part_are in
    let z = c.in_ok-more.ensures.found part part_pends (omega (arith, x.part_is)) (omega (arith, x.fit)) (omega (arith, named, plain_bound 0 front, x.fit, x.part_is)) in
    let all = take_all c.args.lengths.now.part part x.part_is in
    let second : c.copy-2.new.out.items ≡ c.copy.new.out.items ++ zeros_of c.in_ok-named.named part = z.0 ∙ ap (λ l. c.copy.new.out.items ++ zeros_of c.in_ok-named.named l) all in
    let more : c.in_ok-more.more ≡ plain_at_end c.in_ok-named.named part = z.1 ∙ ap (plain_at_end c.in_ok-named.named) all in
    let w = c.in_err-copy.ensures.found behind rest (omega (arith, x.behind_is)) (omega (arith, x.fit)) (omega (arith, x.behind_is, more, plain_bound c.in_ok-named.named part, named, plain_bound 0 front, x.fit)) in
    let full = subst (λ l. vec_capacity c.copy-2.new.out < vec_len c.copy-2.new.out + length (zeros_of c.in_ok-more.more l)) (take_all c.args.lengths.now.behind behind x.behind_is) w.1 in
    let whole = three_parts front c.args.lengths.now.name part behind c.in_ok-named.named c.in_ok-more.more named more in
    lacks_zeros c.from_residual-in_err-copy.result c.in_err-copy.field-0.0 c.args.out.now c.copy-3.new.out ((zeros_of 0 front ++ zeros_of c.in_ok-named.named part) ++ zeros_of c.in_ok-more.more behind) _ c.from_residual-in_err-copy.ensures.1 w.0
    (no_capacity_second c.args.out.now c.copy-2.new.out (zeros_of 0 front ++ zeros_of c.in_ok-named.named part) (zeros_of c.in_ok-more.more behind)
    (both c.args.out.now.items c.copy.new.out.items c.copy-2.new.out.items (zeros_of 0 front) (zeros_of c.in_ok-named.named part) first second)
    (omega (arith, c.in_ok-plain.ensures.preserves.capacity, c.in_ok-more.ensures.preserves.capacity)) full)
    (omega (arith, ap length whole, ap length (append_assoc (zeros_of 0 front) (zeros_of c.in_ok-named.named part) (zeros_of c.in_ok-more.more behind))))

pub returns-clause-joined : goal.returns-clause-joined
returns-clause-joined c = λ front entry part behind x.
    let counts = front ++ (entry ++ behind) in
    let pends = c.in_ok-all.ensures.found counts (omega (arith, x.small, counts_long front entry part behind x)) x.zeros_are in
    let y = c.in_ok-plain.ensures.found counts pends (omega (arith, x.front_is, length-append front (entry ++ behind))) (omega (arith, x.small, counts_long front entry part behind x)) (omega (arith, x.small, x.front_is, counts_long front entry part behind x, length-append front (entry ++ behind))) in
    let taken = front_taken front entry part behind x in
    let plain : c.in_ok-plain.plain ≡ plain_at_end 0 front = y.1 ∙ ap (plain_at_end 0) taken in
    let first : c.copy.new.out.items ≡ c.args.out.now.items ++ zeros_of 0 front = y.0 ∙ ap (λ l. c.args.out.now.items ++ zeros_of 0 l) taken in
    let left = subst (λ l. Pends l c.in_ok-plain.left) (front_passed front entry part behind x) y.2 in
    let passed : c.saturating_sub-entry.result ≡ length entry = omega (arith, c.saturating_sub.ensures, c.saturating_sub-entry.ensures, x.key_is, x.front_is, x.behind_is) in
    let rest = subst (λ l. Pends l c.in_ok-rest.rest) (entry_passed front entry part behind x _ passed) (c.in_ok-rest.ensures.found (entry ++ behind) (omega (arith, x.small, x.key_is, length-append entry behind)) left (omega (arith, passed, length-append entry behind))) in
    let sum : c.in_ok-named.named ≡ c.in_ok-plain.plain + c.args.lengths.now.name = c.in_ok-named.ensures (omega (arith, plain, plain_bound 0 front, x.fit)) in
    let named : c.in_ok-named.named ≡ plain_at_end 0 front + c.args.lengths.now.name = omega (arith, sum, plain) in
    let part_pends = c.in_ok-part_all.ensures.found part (omega (arith, x.fit)) x.part_are in
    let z = c.in_ok-more.ensures.found part part_pends (omega (arith, x.part_is)) (omega (arith, x.fit)) (omega (arith, named, plain_bound 0 front, x.fit, x.part_is)) in
    let all = take_all c.args.lengths.now.part part x.part_is in
    let second : c.copy-2.new.out.items ≡ c.copy.new.out.items ++ zeros_of c.in_ok-named.named part = z.0 ∙ ap (λ l. c.copy.new.out.items ++ zeros_of c.in_ok-named.named l) all in
    let more : c.in_ok-more.more ≡ plain_at_end c.in_ok-named.named part = z.1 ∙ ap (plain_at_end c.in_ok-named.named) all in
    let w = c.in_ok-copy.ensures.found behind rest (omega (arith, x.behind_is)) (omega (arith, x.fit)) (omega (arith, x.behind_is, more, plain_bound c.in_ok-named.named part, named, plain_bound 0 front, x.fit)) in
    let third : c.copy-3.new.out.items ≡ c.copy-2.new.out.items ++ zeros_of c.in_ok-more.more behind = w.0 ∙ ap (λ l. c.copy-2.new.out.items ++ zeros_of c.in_ok-more.more l) (take_all c.args.lengths.now.behind behind x.behind_is) in
    let pieces = both c.args.out.now.items c.copy.new.out.items c.copy-2.new.out.items (zeros_of 0 front) (zeros_of c.in_ok-named.named part) first second in
    both c.args.out.now.items c.copy-2.new.out.items c.copy-3.new.out.items (zeros_of 0 front ++ zeros_of c.in_ok-named.named part) (zeros_of c.in_ok-more.more behind) pieces third
    ∙ ap (λ l. c.args.out.now.items ++ l) (append_assoc (zeros_of 0 front) (zeros_of c.in_ok-named.named part) (zeros_of c.in_ok-more.more behind) ∙ sym (three_parts front c.args.lengths.now.name part behind c.in_ok-named.named c.in_ok-more.more named more))
