use Rattle.std.proofs.Common.{[], ◌∷◌, ◌++◌, drop, length, ap, arith, sym, ◌∙◌}
use Rattle.key_value.proofs.Texts.{byte_read, text_ended}
use Rattle.key_walk.proofs.Strings.{byte_put, one_longer}
use Rattle.key_walk.proofs.text.put_text.Goals as goal

pub bytes-preserved : goal.bytes-preserved
bytes-preserved c =
    let i = c.bytes.invariant in
    record {
      read = i.read ++ c.in-Some.byte ∷ [];
      long = one_longer i.read c.bytes.at c.in-Some.byte i.long;
      within = omega (arith, i.within, c.if-at-out.false, c.bytes.auto.out);
      reads = byte_read c.args.key.now i.read c.bytes.rest.now c.in-Some.others.now c.in-Some.byte i.reads c.in-Some.ensures.byte;
      put = byte_put i.read c.args.out.now c.bytes.out c.bytes.at c.in-Some.byte i.long (omega (arith, c.if-at-out.false, c.bytes.auto.out)) i.put;
    }

pub returns : goal.returns
returns c = record {
  put = λ text more e space.
      let i = c.bytes.invariant in
      let done = text_ended c.args.key.now i.read c.bytes.rest.now i.reads c.in_default.ensures.byte text more e in
      i.put ∙ ap (λ n. i.read ++ drop n c.args.out.now) (sym i.long) ∙ ap (λ t. t ++ drop (length t) c.args.out.now) (sym done.0);
}
