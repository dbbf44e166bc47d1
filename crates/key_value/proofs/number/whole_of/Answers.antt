use Rattle.std.proofs.Common.{◌≡◌, ◌+◌, ◌-◌, ◌*◌, ◌/◌, ◌^◌, ap, ◌∙◌, arith}
use Rattle.std.proofs.lemmas.Nat.{pow-add}
use Rattle.key_value.proofs.number.whole_of.Goals as goal

pub returns-then-before-count-2 : goal.returns-then-before-count-2
returns-then-before-count-2 c =
    let zeros = c.args.before - c.args.count in
    let C = 10 ^ c.args.count in
    let sum : c.args.before ≡ zeros + c.args.count = omega (arith, c.if-before-count-2.true) in
    let powers : 10 ^ c.args.before ≡ 10 ^ zeros * C = ap (λ k. 10 ^ k) sum ∙ pow-add 10 zeros c.args.count in
    let whole : c.in_ok-whole.whole ≡ c.args.digits * 10 ^ zeros = c.in_ok-whole.ensures.1 ∙ ap (λ p. c.args.digits * p) c.in_ok-power.ensures.1 in
    omega (arith, ap (λ w. w * C) whole, ap (λ p. c.args.digits * p) powers)

pub returns : goal.returns
returns c =
    let B = 10 ^ c.args.before in
    let sum : c.args.count ≡ c.args.before + 1 = omega (arith, c.if-before-count.false, c.if-before-count-2.false, c.if-before-count-3.false) in
    let powers : 10 ^ c.args.count ≡ B * 10 = ap (λ k. 10 ^ k) sum ∙ pow-add 10 c.args.before 1 in
    let tenfold : c.args.digits / 10 * 10 ≡ c.args.digits = omega (arith, c.if-digits-ne0.false) in
    omega (arith, ap (λ p. c.args.digits / 10 * p) powers, ap (λ d. d * B) tenfold)
