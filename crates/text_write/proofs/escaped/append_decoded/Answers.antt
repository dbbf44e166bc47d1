use Rattle.std.proofs.Common.{◌≡◌, ◌++◌, take, drop, List, ℕ, length, ap, ◌∙◌, take_at, append-nil, sym, [], arith}
use Rattle.std.proofs.Math.Seq.{take-append_seam}
use Rattle.text_scan.specs.Answer.{mode_of}
use Rattle.jsonb_spec.specs.Parsing.Contents.{decoded_text}
use Rattle.text_write.proofs.escaped.append_decoded.Goals as goal

-- what was there before a text was decoded behind it
front_is : (old body before : List ℕ) (len : ℕ) → before ≡ old ++ body → len ≡ length old → take len before ≡ old
front_is old body before len there is = ap (take len) there ∙ ap (λ n. take n (old ++ body)) is ∙ take-append_seam old body

pub returns-clause-bytes : goal.returns-clause-bytes
returns-clause-bytes c contents =
    let done = c.in-Some.ensures in
    let old : List ℕ = c.args.out.now.items in
    let new : List ℕ = c.decode_behind.new.text in
    let whole : take c.extend_from_slice.new.self.len (new ++ drop (length new) c.extend_from_slice.new.self.items) ≡ new = take_at new _ c.extend_from_slice.new.self.len (omega (arith, done.size, c.deref_mut.ensures.len)) in
    let front = front_is old c.args.body.now c.deref_mut.result.now c.len-len.result (c.deref_mut.ensures.value ∙ c.in_ok-extend_from_slice.ensures.items) (omega (arith, c.len-len.ensures, c.args.out.now.ok.0)) in
    c.truncate-2.ensures.items ∙ ap (take c.in-Some.end) whole ∙ done.some ∙ ap (λ (u : List ℕ). u ++ decoded_text (mode_of c.args.mode) c.args.body.now) front

pub returns-in_default-clause-retained : goal.returns-in_default-clause-retained
returns-in_default-clause-retained c =
    let done = c.in_default.ensures in
    let old : List ℕ = c.args.out.now.items in
    let new : List ℕ = c.decode_behind.new.text in
    let whole : take c.extend_from_slice.new.self.len (new ++ drop (length new) c.extend_from_slice.new.self.items) ≡ new = take_at new _ c.extend_from_slice.new.self.len (omega (arith, done.size, c.deref_mut.ensures.len)) in
    let front = front_is old c.args.body.now c.deref_mut.result.now c.len-len.result (c.deref_mut.ensures.value ∙ c.in_ok-extend_from_slice.ensures.items) (omega (arith, c.len-len.ensures, c.args.out.now.ok.0)) in
    record { more = []; extended = c.truncate.ensures.items ∙ ap (take c.len-len.result) whole ∙ done.retained ∙ front ∙ sym (append-nil old) }
