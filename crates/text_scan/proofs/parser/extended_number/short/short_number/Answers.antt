use Rattle.std.proofs.Common.{arith, ◌+◌}
use Rattle.std.proofs.lemmas.List.{take_rest}
use Rattle.text_scan.proofs.Numbers.Forms.{below_power}
use Rattle.text_scan.proofs.Numbers.Short.{front_read, short_whole, whole_within, behind_read, short_behind, behind_within}
use Rattle.text_scan.proofs.parser.extended_number.short.short_number.Goals as goal

pub short_decimal-requires : goal.short_decimal-requires
short_decimal-requires c = (omega (arith, c.if-all-gt-DECIMAL64_DIGITS.false), below_power c.in_ok-all.all.len 18 c.in_ok-all.all.value c.if-all-gt-DECIMAL64_DIGITS.false c.in_ok-all.ensures.small)

pub returns-then-next-eq46-clause-found : goal.returns-then-next-eq46-clause-found
returns-then-next-eq46-clause-found c =
    let f = front_read c.args.bytes.now _ c.sign_end-start.result c.in_ok-front.front.len c.in_ok-front.front.value c.sign_end-start.ensures.end (take_rest c.args.bytes.now c.sign_end-start.result) c.in_ok-front.ensures.len c.in_ok-front.ensures.value in
    let b = behind_read c.args.bytes.now _ c.sign_end-start.result c.in_ok-front.front.len c.in_ok-front.front.value c.in_ok-all.all.len c.in_ok-all.all.value c.byte_at-next.result f c.byte_at-next.ensures c.if-next-eq46.true (take_rest c.args.bytes.now (c.sign_end-start.result + c.in_ok-front.front.len + 1)) c.in_ok-all.ensures.len c.in_ok-all.ensures.value in
    short_behind c.args.bytes.now c.sign_end-start.result c.in_ok-front.front.len c.in_ok-front.front.value c.in_ok-all.all.len c.in_ok-all.all.value c.byte_at.result c.byte_at-negative.result _ b c.if-all-eq0.false c.if-all-gt-DECIMAL64_DIGITS.false c.byte_at.ensures c.if-continues_after_integer.ensures c.byte_at-negative.ensures c.short_decimal.ensures

pub returns-then-next-eq46-clause-within : goal.returns-then-next-eq46-clause-within
returns-then-next-eq46-clause-within c =
    let f = front_read c.args.bytes.now _ c.sign_end-start.result c.in_ok-front.front.len c.in_ok-front.front.value c.sign_end-start.ensures.end (take_rest c.args.bytes.now c.sign_end-start.result) c.in_ok-front.ensures.len c.in_ok-front.ensures.value in
    let b = behind_read c.args.bytes.now _ c.sign_end-start.result c.in_ok-front.front.len c.in_ok-front.front.value c.in_ok-all.all.len c.in_ok-all.all.value c.byte_at-next.result f c.byte_at-next.ensures c.if-next-eq46.true (take_rest c.args.bytes.now (c.sign_end-start.result + c.in_ok-front.front.len + 1)) c.in_ok-all.ensures.len c.in_ok-all.ensures.value in
    behind_within c.args.bytes.now c.sign_end-start.result c.in_ok-front.front.len c.in_ok-front.front.value c.in_ok-all.all.len c.in_ok-all.all.value b

pub returns-clause-found : goal.returns-clause-found
returns-clause-found c =
    let f = front_read c.args.bytes.now _ c.sign_end-start.result c.in_ok-front.front.len c.in_ok-front.front.value c.sign_end-start.ensures.end (take_rest c.args.bytes.now c.sign_end-start.result) c.in_ok-front.ensures.len c.in_ok-front.ensures.value in
    short_whole c.args.bytes.now c.sign_end-start.result c.in_ok-front.front.len c.in_ok-front.front.value c.byte_at-next.result c.byte_at-negative.result _ f c.if-front-eq0.false (omega (arith, c.in_ok-front.ensures.few)) c.byte_at-next.ensures c.if-next-eq46.false c.if-follows_digits.ensures c.byte_at-negative.ensures c.short_integer.ensures

pub returns-clause-within : goal.returns-clause-within
returns-clause-within c =
    let f = front_read c.args.bytes.now _ c.sign_end-start.result c.in_ok-front.front.len c.in_ok-front.front.value c.sign_end-start.ensures.end (take_rest c.args.bytes.now c.sign_end-start.result) c.in_ok-front.ensures.len c.in_ok-front.ensures.value in
    whole_within c.args.bytes.now c.sign_end-start.result c.in_ok-front.front.len c.in_ok-front.front.value f
