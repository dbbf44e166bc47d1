use Rattle.std.proofs.Common.{◌+◌, ◌-◌, ◌*◌, ◌^◌, ◌≤◌, ◌++◌, refl, sym, ap, subst, ◌∙◌, arith}
use Rattle.std.proofs.Math.Nat.{mul-le-mul_right}
use Rattle.jsonb_spec.specs.Document.Zeros.{in_sevens}
use Rattle.key_zeros.specs.Turned.{turned}
use Rattle.key_zeros.proofs.Sevens.{ReadsSevens, SevensRead, reads_begun, last_read, too_many, seven_read, byte_there, read_begun, read_ends, read_on}
use Rattle.key_zeros.proofs.entry.read_sevens.Goals as goal

pub sevens-init : goal.sevens-init
sevens-init c =
    let bytes = turned c.args.from_end c.args.bytes.now in
    let more = turned c.args.from_end c.in_ok-first.more.now in
    let group : c.from-n.result ≤ 127 = omega arith in
    let one : 1 ≤ 2 ^ 49 = omega arith in
    record {
      reads = subst (λ d. ReadsSevens bytes d 128 more) {x = 0 + (c.in_ok-first.first.now - 128) * 1} {y = c.from-n.result} (omega (arith, c.from-n.ensures))
          (seven_read c.in_ok-first.first.now more bytes bytes 0 1 (reads_begun bytes) c.in_ok-first.ensures.split.0 c.if-first-lt128.false one);
      read = subst (λ d. SevensRead bytes d 128 more) {x = 0 + c.from-n.result * 1} {y = c.from-n.result} (omega arith)
          (read_on c.in_ok-first.first.now more bytes bytes 0 1 (read_begun bytes) c.in_ok-first.ensures.split.0 c.from-n.result (omega (arith, c.from-n.ensures, c.if-first-lt128.false)) (omega (arith, group)) one);
      within = omega (arith, c.in_ok-first.ensures.split.1);
      below = omega (arith, group);
      narrow = omega arith;
      several = omega arith;
    }

pub returns-in_err-first-clause-found : goal.returns-in_err-first-clause-found
returns-in_err-first-clause-found c = λ all small more e.
    let bytes = turned c.args.from_end c.args.bytes.now in
    absurd (byte_there bytes bytes 0 1 (reads_begun bytes) c.in_err-first.ensures.split all small more e)

pub returns-then-first-lt128-clause-found : goal.returns-then-first-lt128-clause-found
returns-then-first-lt128-clause-found c = λ all small more e.
    let bytes = turned c.args.from_end c.args.bytes.now in
    let x = last_read c.in_ok-first.first.now (turned c.args.from_end c.in_ok-first.more.now) bytes bytes 0 1 (reads_begun bytes) c.in_ok-first.ensures.split.0 c.if-first-lt128.true all small more e in
    (omega (arith, x.0, c.from.ensures), x.1)

pub returns-then-first-lt128-clause-first : goal.returns-then-first-lt128-clause-first
returns-then-first-lt128-clause-first c =
    let bytes = turned c.args.from_end c.args.bytes.now in
    let more = turned c.args.from_end c.in_ok-first.more.now in
    read_ends c.in_ok-first.first.now more bytes bytes 0 1 (read_begun bytes) c.in_ok-first.ensures.split.0 c.if-first-lt128.true (λ none. refl)
    ∙ ap (λ b. in_sevens 8 b ++ more) {x = 0 + c.in_ok-first.first.now * 1} {y = c.from.result} (omega (arith, c.from.ensures))

pub returns-then-byte-eq0-clause-found : goal.returns-then-byte-eq0-clause-found
returns-then-byte-eq0-clause-found c = λ all small more e.
    let x = last_read c.in-Some.byte.now (turned c.args.from_end c.in-Some.others.now) (turned c.args.from_end c.args.bytes.now) (turned c.args.from_end c.sevens.rest.now) c.sevens.n c.sevens.unit c.sevens.invariant.reads c.in-Some.ensures.split.0 (omega (arith, c.if-byte-eq0.true)) all small more e in
    omega (arith, (x.2 c.if-byte-eq0.true).1, c.sevens.invariant.several)

pub returns-then-byte-lt128-clause-found : goal.returns-then-byte-lt128-clause-found
returns-then-byte-lt128-clause-found c = λ all small more e.
    let x = last_read c.in-Some.byte.now (turned c.args.from_end c.in-Some.others.now) (turned c.args.from_end c.args.bytes.now) (turned c.args.from_end c.sevens.rest.now) c.sevens.n c.sevens.unit c.sevens.invariant.reads c.in-Some.ensures.split.0 c.if-byte-lt128.true all small more e in
    (omega (arith, x.0, ap (λ b. b * c.sevens.unit) c.from-then-byte-lt128.ensures), x.1)

pub returns-then-byte-lt128-clause-first : goal.returns-then-byte-lt128-clause-first
returns-then-byte-lt128-clause-first c =
    read_ends c.in-Some.byte.now (turned c.args.from_end c.in-Some.others.now) (turned c.args.from_end c.args.bytes.now) (turned c.args.from_end c.sevens.rest.now) c.sevens.n c.sevens.unit c.sevens.invariant.read c.in-Some.ensures.split.0 c.if-byte-lt128.true (λ none. absurd (c.if-byte-eq0.false none))
    ∙ ap (λ b. in_sevens 8 (c.sevens.n + b * c.sevens.unit) ++ turned c.args.from_end c.in-Some.others.now) (sym c.from-then-byte-lt128.ensures)

pub returns-then-unit-clause-found : goal.returns-then-unit-clause-found
returns-then-unit-clause-found c = λ all small more e.
    too_many c.in-Some.byte.now (turned c.args.from_end c.in-Some.others.now) (turned c.args.from_end c.args.bytes.now) (turned c.args.from_end c.sevens.rest.now) c.sevens.n c.sevens.unit c.sevens.invariant.reads c.in-Some.ensures.split.0 c.if-byte-lt128.false c.if-unit.true all small more e

pub sevens-preserved : goal.sevens-preserved
sevens-preserved c =
    let group : c.from-in-Some.result ≤ 127 = omega arith in
    record {
      reads = subst (λ d. ReadsSevens (turned c.args.from_end c.args.bytes.now) (c.sevens.n + d * c.sevens.unit) (c.sevens.unit * 128) (turned c.args.from_end c.in-Some.others.now)) (sym c.from-in-Some.ensures)
          (seven_read c.in-Some.byte.now (turned c.args.from_end c.in-Some.others.now) (turned c.args.from_end c.args.bytes.now) (turned c.args.from_end c.sevens.rest.now) c.sevens.n c.sevens.unit c.sevens.invariant.reads c.in-Some.ensures.split.0 c.if-byte-lt128.false c.if-unit.false);
      read = read_on c.in-Some.byte.now (turned c.args.from_end c.in-Some.others.now) (turned c.args.from_end c.args.bytes.now) (turned c.args.from_end c.sevens.rest.now) c.sevens.n c.sevens.unit c.sevens.invariant.read c.in-Some.ensures.split.0 c.from-in-Some.result (omega (arith, c.from-in-Some.ensures, c.if-byte-lt128.false)) (omega (arith, group)) c.if-unit.false;
      within = omega (arith, c.in-Some.ensures.split.1, c.sevens.invariant.within);
      below = omega (arith, c.sevens.invariant.below, mul-le-mul_right c.sevens.unit group);
      narrow = omega (arith, c.if-unit.false);
      several = omega (arith, c.sevens.invariant.several);
    }

pub returns-clause-found : goal.returns-clause-found
returns-clause-found c = λ all small more e.
    byte_there (turned c.args.from_end c.args.bytes.now) (turned c.args.from_end c.sevens.rest.now) c.sevens.n c.sevens.unit c.sevens.invariant.reads c.in_default.ensures.split all small more e
