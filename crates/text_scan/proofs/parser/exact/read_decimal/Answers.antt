use Rattle.std.proofs.Common.{◌+◌}
use Rattle.std.proofs.lemmas.List.{take_rest}
use Rattle.text_scan.proofs.Numbers.ExactRead.{read_plain, read_pointed}
use Rattle.text_scan.proofs.Numbers.Short.{front_read, behind_read}
use Rattle.text_scan.proofs.parser.exact.read_decimal.Goals as goal

pub returns-then-next-eq46 : goal.returns-then-next-eq46
returns-then-next-eq46 c =
    let f = front_read c.args.bytes.now _ c.sign_end-start.result c.in_ok-front.front.len c.in_ok-front.front.value c.sign_end-start.ensures.end (take_rest c.args.bytes.now c.sign_end-start.result) c.in_ok-front.ensures.len c.in_ok-front.ensures.value in
    let b = behind_read c.args.bytes.now _ c.sign_end-start.result c.in_ok-front.front.len c.in_ok-front.front.value c.in_ok-all.all.len c.in_ok-all.all.value c.byte_at-next.result f c.byte_at-next.ensures c.if-next-eq46.true (take_rest c.args.bytes.now (c.sign_end-start.result + c.in_ok-front.front.len + 1)) c.in_ok-all.ensures.len c.in_ok-all.ensures.value in
    read_pointed c.args.bytes.now c.sign_end-start.result c.in_ok-front.front.len c.in_ok-front.front.value c.in_ok-all.all.len c.in_ok-all.all.value c.byte_at.result b c.if-front-eq0.false c.if-behind-eq0.false c.byte_at.ensures c.if-byte_at-eq46.false

pub returns : goal.returns
returns c =
    let f = front_read c.args.bytes.now _ c.sign_end-start.result c.in_ok-front.front.len c.in_ok-front.front.value c.sign_end-start.ensures.end (take_rest c.args.bytes.now c.sign_end-start.result) c.in_ok-front.ensures.len c.in_ok-front.ensures.value in
    read_plain c.args.bytes.now c.sign_end-start.result c.in_ok-front.front.len c.in_ok-front.front.value c.byte_at-next.result f c.if-front-eq0.false c.byte_at-next.ensures c.if-next-eq46.false c.if-next-eq120.false c.if-next-eq88.false
