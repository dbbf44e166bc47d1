use Rattle.std.proofs.Common.{◌≡◌, ℕ, ◌+◌, ◌-◌, ◌<◌, ◌≤◌, List, length, take, drop, get_or, ap, sym, subst, ◌∙◌, arith, drop-drop}
use Rattle.std.proofs.lemmas.List.{drop-take, get_or-take, get_or-drop, take-take}
use Rattle.std.proofs.lemmas.Str.{IsCharBoundary-after_ascii}
use Rattle.std.specs.Str.{IsCharBoundary, IsUtf8}
use Rattle.text_parse.specs.Parser.{rest_of}
use Rattle.text_parse.proofs.parser.Parser.cut.Goals as goal

pub range-body-requires-clause-start_boundary : goal.range-body-requires-clause-start_boundary
range-body-requires-clause-start_boundary c some =
    let p = c.args.self.now in
    let text : List ℕ = c.args.text.now in
    let before : ℕ = p.offset - 1 in
    let within : before < length text = omega (arith, c.requires.quote.opened.0, c.if-after-text.false) in
    let quote : get_or text before 0 ≡ c.args.quote =
    ap (λ (u : List ℕ). get_or u before 0) c.requires.same ∙ get_or-take (length text) p.buf.now before 0 within ∙ c.requires.quote.opened.1 in
    let next : before + 1 ≡ p.offset = omega (arith, some) in
    subst (IsCharBoundary text) next (IsCharBoundary-after_ascii text before c.utf8.text within (omega (arith, quote, c.requires.quote.is_ascii)))

pub range-body-requires-clause-end_boundary : goal.range-body-requires-clause-end_boundary
range-body-requires-clause-end_boundary c = (
  omega (arith, c.if-after-text.false),
  λ inside high.
      let p = c.args.self.now in
      let text : List ℕ = c.args.text.now in
      let len : ℕ = c.args.len in
      let close : ℕ = p.offset + len in
      let quote : get_or text close 0 ≡ c.args.quote =
      ap (λ (u : List ℕ). get_or u close 0) c.requires.same ∙ get_or-take (length text) p.buf.now close 0 inside ∙ sym (get_or-drop p.offset p.buf.now len 0) ∙ c.requires.closed in
      absurd (omega (arith, quote, high, c.requires.quote.is_ascii)),
)

pub returns-clause-cuts : goal.returns-clause-cuts
returns-clause-cuts c =
    let p = c.args.self.now in
    let len : ℕ = c.args.len in
    let count : p.offset + len - p.offset ≡ len = omega arith in
    let all : ℕ = length c.args.text.now in
    let left : ℕ = all - p.offset in
    let split : all ≡ p.offset + left = omega (arith, c.if-after-text.false) in
    let short : len ≤ left = omega (arith, c.if-after-text.false) in
    let cut : c.range-body.result.now ≡ take len (rest_of p) =
    c.range-body.ensures.value ∙ ap (λ (n : ℕ). take n (drop p.offset c.args.text.now)) count
    ∙ ap (λ (u : List ℕ). take len (drop p.offset u)) (c.requires.same ∙ ap (λ (n : ℕ). take n p.buf.now) split)
    ∙ ap (λ (u : List ℕ). take len u) (drop-take p.offset left p.buf.now) ∙ take-take len left (drop p.offset p.buf.now) short in
    let after : p.offset + (len + 1) ≡ p.offset + len + 1 = omega arith in record {
      is = cut;
      utf8 = subst IsUtf8 c.as_bytes-bytes.ensures.value c.as_bytes-bytes.ensures.utf8;
      offset = omega arith;
      rest = ap (λ (n : ℕ). drop n p.buf.now) (sym after) ∙ sym (drop-drop (len + 1) p.offset p.buf.now);
    }

pub returns-clause-some : goal.returns-clause-some
returns-clause-some c = omega (arith, c.requires.quote.opened.0, c.if-after-text.false)
