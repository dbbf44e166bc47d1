use Rattle.std.proofs.Common.{inl, inr, ap, sym, ◌∙◌, ◌++◌, replicate, arith}
use Rattle.std.proofs.lemmas.List.{drop-append-le}
use Rattle.key_text.proofs.Few.{pointed_taken, whole_read}
use Rattle.key_text.proofs.NumberTexts.{whole_scaled}
use Rattle.key_text.proofs.number.append_few.Goals.{else-front-pairs-2-via-then-front-pairs-2+else-row-front-ne48, else-front-pairs-2-via-else-front-pairs-2}
use Rattle.key_text.proofs.number.append_few.Goals as goal

pub returns-then-append_within-clause-found : goal.returns-then-append_within-clause-found
returns-then-append_within-clause-found c = λ tail some C M below positive most more e.
    let found = c.encode_few-pairs.ensures.found some C M below positive most tail more e in
    let w = whole_read C M c.encode_few-pairs.result c.args.front c.encode_few-pairs.new.row found.0 some (omega (arith, c.if-front-pairs.false)) (λ all. elim c.else-front-pairs-2.branch [
      | else-front-pairs-2-via-then-front-pairs-2+else-row-front-ne48 w ↦ w.if-row-front-ne48.false
      | else-front-pairs-2-via-else-front-pairs-2 w ↦ absurd (w.if-front-pairs-2.false all)
    ]) (omega (arith, c.requires.few.1)) c.encode_few-pairs.array_long in
    record {
      read = w.read;
      row = c.encode_few-pairs.new.row ++ replicate 32 48;
      encoded = w.encoded;
      left = drop-append-le c.encode_few-pairs.result c.args.bytes.now tail (omega (arith, c.encode_few-pairs.ensures.few)) ∙ found.1;
      appended = c.append_within.ensures.appended c.if-append_within.true ∙ ap (λ t. c.args.buf.now.items ++ t) (w.text ∙ sym (whole_scaled c.args.front w.read (c.encode_few-pairs.new.row ++ replicate 32 48) c.requires.few.0 w.whole));
    }

pub returns-then-front-pairs-clause-found : goal.returns-then-front-pairs-clause-found
returns-then-front-pairs-clause-found c = λ tail some C M below positive most more e.
    pointed_taken c.args.front c.encode_few-pairs.result c.append_pointed.result c.args.bytes.now tail c.encode_few-pairs.new.row c.args.buf.now.items c.append_pointed.new.buf.items C M more
    (c.encode_few-pairs.ensures.found (omega (arith, c.if-pairs-eq0.false)) C M below positive most tail more e) (c.append_pointed.ensures.found some) c.requires.few.0 (inl (omega (arith, c.if-front-pairs.true))) c.encode_few-pairs.ensures.few c.encode_few-pairs.array_long (omega arith)

pub returns-then-row-front-ne48-clause-found : goal.returns-then-row-front-ne48-clause-found
returns-then-row-front-ne48-clause-found c = λ tail some C M below positive most more e.
    pointed_taken c.args.front c.encode_few-pairs.result c.append_pointed-then-row-front-ne48.result c.args.bytes.now tail c.encode_few-pairs.new.row c.args.buf.now.items c.append_pointed-then-row-front-ne48.new.buf.items C M more
    (c.encode_few-pairs.ensures.found (omega (arith, c.if-pairs-eq0.false)) C M below positive most tail more e) (c.append_pointed-then-row-front-ne48.ensures.found some) c.requires.few.0 (inr (omega (arith, c.if-front-pairs-2.true), c.if-row-front-ne48.true)) c.encode_few-pairs.ensures.few c.encode_few-pairs.array_long (omega arith)
