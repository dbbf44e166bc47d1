use Rattle.std.proofs.Common.{◌≡◌, [], inl, refl, sym, ap, ◌∙◌, subst, string_bytes, take, take_at, arith}
use Rattle.std.specs.Str.{IsUtf8}
use Rattle.std.proofs.lemmas.Str.{IsUtf8-string_bytes}
use Rattle.std.proofs.lemmas.Bool.{false≢true}
use Rattle.text_scan.specs.Answer.{mode_of}
use Rattle.jsonb_spec.specs.Parsing.Decoding.{DecodesUpTo}
use Rattle.text_scan.proofs.Strings.Decoding.{decodes_all, fault_no_text}
use Rattle.text_scan.proofs.util.decoder.unescape.Goals as goal

pub returns-in-Err-clause-err : goal.returns-in-Err-clause-err
returns-in-Err-clause-err c =
    let stop = c.in-Err.ensures.err in
    (stop.read, inl stop.cut, omega (arith, stop.count), refl)

pub returns-in-Ok-from_utf8-clause-ok : goal.returns-in-Ok-from_utf8-clause-ok
returns-in-Ok-from_utf8-clause-ok c =
    let mode = mode_of c.args.mode in
    let text = c.in-Ok-from_utf8.text in
    let all = c.in-Ok-decode.ensures.ok in
    let whole = take_at c.decode.new.text _ c.extend_from_slice.new.self.len (omega (arith, c.decode.ensures.size, c.deref_mut.ensures.len)) in
    let cut = ap (take c.in-Ok-decode.len) (sym whole) ∙ sym c.truncate.ensures.items in
    let same : c.truncate.new.self.items ≡ string_bytes text = sym c.give_back.ensures ∙ ap (λ v. v.items) (sym c.in-Ok-from_utf8.ensures.ok) in
    decodes_all mode c.args.bytes.now (string_bytes text) (subst (λ new. DecodesUpTo mode c.args.bytes.now [] new) (sym all.appended ∙ cut ∙ same) all.decodes) (IsUtf8-string_bytes text)

pub returns-clause-err : goal.returns-clause-err
returns-clause-err c =
    let mode = mode_of c.args.mode in
    let all = c.in-Ok-decode.ensures.ok in
    let whole = take_at c.decode.new.text _ c.extend_from_slice.new.self.len (omega (arith, c.decode.ensures.size, c.deref_mut.ensures.len)) in
    let cut = c.give_back.ensures ∙ c.truncate.ensures.items ∙ ap (take c.in-Ok-decode.len) whole in
    (_, fault_no_text mode c.args.bytes.now all.text all.decodes (λ utf8. false≢true (c.in-Err-from_utf8.ensures.succeeds (subst IsUtf8 (sym (cut ∙ all.appended)) utf8))), refl, refl)
