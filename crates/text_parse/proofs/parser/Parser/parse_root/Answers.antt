use Rattle.std.proofs.Common.{ap, inl, inr, refl, sym, ◌∙◌}
use Rattle.std.proofs.lemmas.Result.{err_from_is_err_and}
use Rattle.jsonb_spec.specs.Mode.{strictness}
use Rattle.jsonb_spec.specs.Parsing.Scalar.{scalar_at}
use Rattle.jsonb_spec.specs.Source.{null_source, source_alone}
use Rattle.text_scan.specs.Answer.{mode_of}
use Rattle.text_parse.proofs.Document.{document_comment, document_none, document_scalar, scalar_missed}
use Rattle.text_parse.proofs.Scalars.Built.{not_encoded, puts_on, scalar_still}
use Rattle.text_parse.proofs.Steps.Advancing.{goes_on}
use Rattle.text_parse.proofs.Steps.Failures.{ends_as, misses_same}
use Rattle.text_parse.proofs.Steps.Outcomes.{scalar_quoted}
use Rattle.text_parse.proofs.parser.Parser.parse_root.Goals as goal

-- ---- a text without a value

pub returns-in-Extended-clause-parses : goal.returns-in-Extended-clause-parses
returns-in-Extended-clause-parses g c =
    let p = c.args.self.now in (null_source, (refl, c.requires.null), document_none p c.if-self.true (sym p.agree ∙ ap (λ m. strictness (mode_of m)) c.in-Extended.is))

pub returns-then-opens_comment-clause-parses : goal.returns-then-opens_comment-clause-parses
returns-then-opens_comment-clause-parses g c =
    ends_as _ g.V.Handler.silent c.end_in_comment.new.self.reported c.end_in_comment.result null_source _ _ (document_comment c.args.self.now c.if-self.false (sym c.opens_comment.ensures.value ∙ c.if-opens_comment.true)) (refl, c.requires.null) (c.end_in_comment.ensures.parses null_source)

-- ---- a string

pub returns-in_err-put_later_quoted-clause-parses : goal.returns-in_err-put_later_quoted-clause-parses
returns-in_err-put_later_quoted-clause-parses g c =
    let p = c.args.self.now in
    let h = g.V.Handler in
    let residual = err_from_is_err_and c.from_residual.result c.from_residual.ensures.1 in
    rw (residual.1) (scalar_missed p c.if-self.false (sym c.opens_comment.ensures.value ∙ c.if-opens_comment.false) c.requires.other h.silent c.put_later_quoted.new.self.reported
    (misses_same h.silent c.put_later_quoted.new.self.reported _ _ (scalar_quoted p c.take_byte.new.self c.take_byte.ensures.advances c.if-take_byte.ensures.rest) c.in_err-put_later_quoted.ensures.parses))

pub returns-in_err-put_later_quoted-clause-memory : goal.returns-in_err-put_later_quoted-clause-memory
returns-in_err-put_later_quoted-clause-memory g c =
    let on = c.take_byte.ensures.advances in
    let puts = puts_on g.V.Handler on {other = scalar_at} (scalar_quoted c.args.self.now c.take_byte.new.self on c.if-take_byte.ensures.rest) c.in_err-put_later_quoted.ensures in
    let residual = err_from_is_err_and c.from_residual.result c.from_residual.ensures.1 in
    rw (residual.1) (λ is. elim (puts.memory is) [
      | inl there ↦ inr (inr there)
      | inr writes ↦ absurd cc
    ])

pub returns-then-take_byte-clause-parses : goal.returns-then-take_byte-clause-parses
returns-then-take_byte-clause-parses g c =
    let p = c.args.self.now in
    let on = c.take_byte.ensures.advances in
    let puts = puts_on g.V.Handler on {other = scalar_at} (scalar_quoted p c.take_byte.new.self on c.if-take_byte.ensures.rest) c.in_ok-put_later_quoted.ensures in
    let put = puts.parses in
    ends_as _ g.V.Handler.silent c.end_document.new.self.reported c.end_document.result (source_alone put.0) _ _
    (document_scalar p c.if-self.false (sym c.opens_comment.ensures.value ∙ c.if-opens_comment.false) c.requires.other c.put_later_quoted.new.self put.0 puts.advances.parser put.1) put.2 (c.end_document.ensures.parses (source_alone put.0))

-- ---- any other scalar

pub returns-in_err-value-clause-parses : goal.returns-in_err-value-clause-parses
returns-in_err-value-clause-parses g c =
    let p = c.args.self.now in
    let h = g.V.Handler in
    let residual = err_from_is_err_and c.from_residual-in_err-value.result c.from_residual-in_err-value.ensures.1 in
    rw (residual.1) (scalar_missed p c.if-self.false (sym c.opens_comment.ensures.value ∙ c.if-opens_comment.false) c.requires.other h.silent c.parse_root_scalar.new.self.reported
    (misses_same h.silent c.parse_root_scalar.new.self.reported _ _ (scalar_still p c.take_byte.new.self c.if-take_byte.ensures.rest) c.in_err-value.ensures.parses))

pub returns-clause-parses : goal.returns-clause-parses
returns-clause-parses g c =
    let p = c.args.self.now in
    let q = c.take_byte.new.self in
    let m = c.parse_root_scalar.new.self in
    let read = c.in_ok-value.ensures.parses in
    let s = source_alone read.0 in
    ends_as _ g.V.Handler.silent c.end_document-2.new.self.reported c.end_document-2.result s _ _
    (document_scalar p c.if-self.false (sym c.opens_comment.ensures.value ∙ c.if-opens_comment.false) c.requires.other m read.0 (goes_on p q m c.take_byte.ensures.advances c.in_ok-value.ensures.advances) (scalar_still p q c.if-take_byte.ensures.rest ∙ read.2))
    (refl, inl (read.1, not_encoded p.buf.now 0 s)) (c.end_document-2.ensures.parses s)
