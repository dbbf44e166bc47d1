use Rattle.std.proofs.Common.{inl, [], true, ap, sym, subst, ◌∙◌}
use Rattle.std.proofs.lemmas.Result.{err_from_is_err_and}
use Rattle.text_scan.specs.Answer.{grammar_of}
use Rattle.jsonb_spec.specs.Parsing.Memory.{MayAllocate}
use Rattle.jsonb_spec.specs.Parsing.{◌>>=◌}
use Rattle.text_parse.specs.Parser.{size_of}
use Rattle.text_parse.specs.Steps.{IsRoot}
use Rattle.text_parse.proofs.Containers.Frames.{each_error, opens_allocates}
use Rattle.text_parse.proofs.Document.{document_container, document_same, ended, ended_same}
use Rattle.text_parse.proofs.Steps.Failures.{misses_same, reports_always}
use Rattle.text_parse.proofs.parser.Parser.parse_document.Goals as goal

-- ---- a container

pub returns-in_err-value-clause-memory : goal.returns-in_err-value-clause-memory
returns-in_err-value-clause-memory g c =
    each_error c.from_residual.result (λ f is. inl (subst (λ b. MayAllocate b.now) c.skip_closed_whitespace.ensures.advances.buf (opens_allocates c.skip_closed_whitespace.new.self c.if-begins_container.ensures.opens)))

pub returns-in-Err-clause-parses : goal.returns-in-Err-clause-parses
returns-in-Err-clause-parses g c held =
    let p = c.args.self.now in
    let q = c.skip_closed_whitespace.new.self in
    let h = g.V.Handler in
    let t = c.end_document.new.self.reported in
    let read = c.in_ok-value.ensures.parses (subst (λ b. h.holds b.now c.args.sink.now true [] []) (sym c.skip_closed_whitespace.ensures.advances.buf) held) in
    misses_same h.silent t _ _
    (document_same p q c.skip_closed_whitespace.ensures ∙ document_container q c.if-begins_container.ensures.opens ∙ ap (λ r. r >>= ended (size_of q) (grammar_of q.grammar)) read.2 ∙ ended_same q c.parse_container.new.self read.0 c.in_ok-value.ensures.advances.parser)
    (reports_always h.silent t _ (c.in-Err.ensures.parses read.0))

-- ---- any other text

pub returns-in_err-parse_root-clause-parses : goal.returns-in_err-parse_root-clause-parses
returns-in_err-parse_root-clause-parses g c held =
    let residual = err_from_is_err_and c.from_residual-in_err-parse_root.result c.from_residual-in_err-parse_root.ensures.1 in
    rw (residual.1) (misses_same g.V.Handler.silent c.parse_root.new.self.reported _ _ (document_same c.args.self.now c.skip_closed_whitespace.new.self c.skip_closed_whitespace.ensures) c.in_err-parse_root.ensures.parses)

pub returns-in_err-parse_root-clause-memory : goal.returns-in_err-parse_root-clause-memory
returns-in_err-parse_root-clause-memory g c =
    each_error c.from_residual-in_err-parse_root.result (λ f is. inl (subst (λ b. MayAllocate b.now) c.skip_closed_whitespace.ensures.advances.buf (c.in_err-parse_root.ensures.memory is)))

pub returns-clause-parses : goal.returns-clause-parses
returns-clause-parses g c held =
    let p = c.args.self.now in
    let h = g.V.Handler in
    let skips = c.skip_closed_whitespace.ensures in
    let read = c.in_ok-parse_root.ensures.parses in (
      read.0,
      c.in-Ok.ensures.filled p.buf.now read.0 (subst (λ r. h.holds p.buf.now r true [] []) (sym read.1.0) held) (subst (λ b. IsRoot h c.parse_root.new.root b.now read.0) skips.advances.buf read.1.1),
      document_same p c.skip_closed_whitespace.new.self skips ∙ read.2,
    )
