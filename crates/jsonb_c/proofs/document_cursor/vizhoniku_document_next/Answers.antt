use Rattle.std.proofs.Common.{◌≡◌, ◌++◌, ap, arith, drop, inl, inr, length, refl, subst, ◌∙◌}
use Rattle.jsonb_spec.specs.Document.{document_of}
use Rattle.jsonb_c.specs.Document.{document_status_of}
use Rattle.jsonb_c.proofs.DocumentCursor.{ReportsPart, no_part_written, part_written}
use Rattle.jsonb_c.proofs.document_cursor.vizhoniku_document_next.Goals as goal

pub returns-then-put-ne-ACCEPTED-clause-next : goal.returns-then-put-ne-ACCEPTED-clause-next
returns-then-put-ne-ACCEPTED-clause-next c = λ t d left b.
    let x = subst (ReportsPart t left c.new-bytes.result.items c.append_next.new.out.items) c.in-Ok-Some.field-0-is (c.in-Ok-Some.ensures.next t d left b) in
    let bytes : c.deref.result.now ≡ document_of x.0 = c.deref.ensures.value ∙ x.3 ∙ ap (λ l. l ++ document_of x.0) c.new-bytes.ensures.items in
    let long : c.len.result ≡ length (document_of x.0) = omega (arith, c.len.ensures, c.append_next.new.out.ok.0, ap length (x.3 ∙ ap (λ l. l ++ document_of x.0) c.new-bytes.ensures.items)) in
    let short : c.put.result ≡ 4 = elim c.put.ensures.status [
      | inl e ↦ absurd (c.if-put-ne-ACCEPTED.true e)
      | inr e ↦ e
    ] in
    let s = c.put.ensures.short short in
    inr (record {
      written = part_written left x.0 4 c.len.result c.args.out.now c.put.new.out x.2 x.1 (long, inr (refl, omega (arith, s.0, ap length bytes, long)));
      ranges = λ e. absurd (omega (arith, e));
      behind = λ e. absurd (omega (arith, e));
    })

pub returns-in-Ok-Some-clause-next : goal.returns-in-Ok-Some-clause-next
returns-in-Ok-Some-clause-next c = λ t d left b.
    let x = subst (ReportsPart t left c.new-bytes.result.items c.append_next.new.out.items) c.in-Ok-Some.field-0-is (c.in-Ok-Some.ensures.next t d left b) in
    let bytes : c.deref.result.now ≡ document_of x.0 = c.deref.ensures.value ∙ x.3 ∙ ap (λ l. l ++ document_of x.0) c.new-bytes.ensures.items in
    let long : c.len.result ≡ length (document_of x.0) = omega (arith, c.len.ensures, c.append_next.new.out.ok.0, ap length (x.3 ∙ ap (λ l. l ++ document_of x.0) c.new-bytes.ensures.items)) in
    let put = c.put.ensures.written c.if-put-ne-ACCEPTED.false in
    inr (record {
      written = part_written left x.0 0 c.len.result c.args.out.now c.put.new.out x.2 x.1 (long, inl (refl, put ∙ ap (λ l. l ++ drop (length l) c.args.out.now) bytes));
      ranges = λ e. x.4;
      behind = λ e. x.5;
    })

pub returns-in-Ok-None-clause-next : goal.returns-in-Ok-None-clause-next
returns-in-Ok-None-clause-next c = λ t d left b.
    let none = subst (ReportsPart t left c.new-bytes.result.items c.append_next.new.out.items) c.in-Ok-None.field-0-is (c.in-Ok-None.ensures.next t d left b) in
    inr (record { written = no_part_written left 0 c.args.out.now c.args.out.now none; ranges = λ e. absurd (omega (arith, e)); behind = λ e. absurd (omega (arith, e)) })

pub returns-clause-next : goal.returns-clause-next
returns-clause-next c = λ t d left b. inl (c.document_status.ensures ∙ ap document_status_of (c.in-Err.ensures.errors t d left b))
