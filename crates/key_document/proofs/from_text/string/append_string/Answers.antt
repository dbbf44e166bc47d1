use Rattle.std.proofs.Common.{take, refl, ◌∷◌, length, ap, ◌∙◌, arith, length-append}
use Rattle.key_document.proofs.Items.{kind_of, part_lacks, plain_long, plain_string, plain_written, split_is}
use Rattle.key_document.proofs.from_text.string.append_string.Goals as goal

pub returns-in_err-append_kind-clause-found : goal.returns-in_err-append_kind-clause-found
returns-in_err-append_kind-clause-found c = λ text more e.
    part_lacks _ c.from_residual.result c.args.out.now c.append_kind.new.out _ c.from_residual.ensures.1 (omega (arith, c.in_err-append_kind.ensures.full, plain_long c.args.bytes.now (take c.plain_len-size.result c.args.bytes.now) c.split_at.result.1.now c.in-Some.behind.now text more c.is_name.result c.is_name.ensures (split_is c.plain_len-size.result c.args.bytes.now (take c.plain_len-size.result c.args.bytes.now) c.split_at.result.1.now refl c.split_at.ensures.back) c.plain_len-size.ensures.plain (c.in-Some.ensures.cases.0 ∙ ap (λ b. b ∷ c.in-Some.behind.now) c.if-last-eq34.true) e))

pub returns-in_err-append_first-clause-found : goal.returns-in_err-append_first-clause-found
returns-in_err-append_first-clause-found c = λ text more e.
    part_lacks _ c.from_residual-in_err-append_first.result c.args.out.now c.append_first.new.out _ c.from_residual-in_err-append_first.ensures.1
    (omega (arith, c.in_err-append_first.ensures.full, c.in_ok-append_kind.ensures.capacity, ap length c.in_ok-append_kind.ensures.ok, length-append c.args.out.now.items (kind_of c.is_name.result), plain_long c.args.bytes.now (take c.plain_len-size.result c.args.bytes.now) c.split_at.result.1.now c.in-Some.behind.now text more c.is_name.result c.is_name.ensures (split_is c.plain_len-size.result c.args.bytes.now (take c.plain_len-size.result c.args.bytes.now) c.split_at.result.1.now refl c.split_at.ensures.back) c.plain_len-size.ensures.plain (c.in-Some.ensures.cases.0 ∙ ap (λ b. b ∷ c.in-Some.behind.now) c.if-last-eq34.true) e))

pub returns-in_err-extend_from_slice-clause-found : goal.returns-in_err-extend_from_slice-clause-found
returns-in_err-extend_from_slice-clause-found c = λ text more e.
    part_lacks _ c.from_residual-in_err-extend_from_slice.result c.args.out.now c.extend_from_slice.new.self _ c.from_residual-in_err-extend_from_slice.ensures.1
    (omega (arith, c.in_err-extend_from_slice.ensures.full, c.in_ok-append_first.ensures.capacity, c.in_ok-append_kind.ensures.capacity, ap length c.in_ok-append_first.ensures.ok, length-append c.append_kind.new.out.items (take c.plain_len-size.result c.args.bytes.now), ap length c.in_ok-append_kind.ensures.ok, length-append c.args.out.now.items (kind_of c.is_name.result), plain_long c.args.bytes.now (take c.plain_len-size.result c.args.bytes.now) c.split_at.result.1.now c.in-Some.behind.now text more c.is_name.result c.is_name.ensures (split_is c.plain_len-size.result c.args.bytes.now (take c.plain_len-size.result c.args.bytes.now) c.split_at.result.1.now refl c.split_at.ensures.back) c.plain_len-size.ensures.plain (c.in-Some.ensures.cases.0 ∙ ap (λ b. b ∷ c.in-Some.behind.now) c.if-last-eq34.true) e))

pub returns-then-last-eq34-clause-found : goal.returns-then-last-eq34-clause-found
returns-then-last-eq34-clause-found c = λ text more e. (
  (plain_string c.args.bytes.now (take c.plain_len-size.result c.args.bytes.now) c.split_at.result.1.now c.in-Some.behind.now text more (split_is c.plain_len-size.result c.args.bytes.now (take c.plain_len-size.result c.args.bytes.now) c.split_at.result.1.now refl c.split_at.ensures.back) c.plain_len-size.ensures.plain (c.in-Some.ensures.cases.0 ∙ ap (λ b. b ∷ c.in-Some.behind.now) c.if-last-eq34.true) e).0,
  plain_written c.args.bytes.now (take c.plain_len-size.result c.args.bytes.now) c.split_at.result.1.now c.in-Some.behind.now text more c.is_name.result c.args.out.now.items c.append_kind.new.out.items c.append_first.new.out.items c.extend_from_slice.new.self.items c.is_name.ensures (split_is c.plain_len-size.result c.args.bytes.now (take c.plain_len-size.result c.args.bytes.now) c.split_at.result.1.now refl c.split_at.ensures.back) c.plain_len-size.ensures.plain (c.in-Some.ensures.cases.0 ∙ ap (λ b. b ∷ c.in-Some.behind.now) c.if-last-eq34.true) e c.in_ok-append_kind.ensures.ok c.in_ok-append_first.ensures.ok c.in_ok-extend_from_slice.ensures.items,
)
