use Rattle.std.proofs.Common.{rules, sym, ap, ◌∙◌, arith}
use Rattle.std.proofs.lemmas.List.{take_rest}
use Rattle.jsonb_spec.specs.SortKey.Reading.{byte_of}
use Rattle.key_text.proofs.Appending.{out_of_memory, preserves_on, retained_by}
use Rattle.key_text.proofs.Strings.{run_fits, run_written, end_fits, end_written, some_byte, byte_fits, byte_written}
use Rattle.key_text.proofs.string.append_long.Goals as goal

pub returns-in_err-append_first : goal.returns-in_err-append_first
returns-in_err-append_first c = record {
  writes = record {
    found = λ text more e.
        let space = run_fits c.args.colon c.args.bytes.now c.runs.rest.now c.args.buf.now.items c.runs.buf.items c.runs.invariant.writes c.runs.run c.runs.invariant.inside c.runs.invariant.plain text more e in
        out_of_memory (λ rest. rest.now) c.from_residual.result c.args.buf.now c.append_first.new.buf more _ c.from_residual.ensures.1 (omega (arith, space, c.runs.invariant.preserves.capacity, c.in_err-append_first.ensures.full));
    shorter = search rules;
    preserves = preserves_on c.args.buf.now c.runs.buf c.append_first.new.buf c.runs.invariant.preserves (retained_by c.runs.buf c.append_first.new.buf c.in_err-append_first.ensures);
  };
}

pub returns-in_err-append_closing_quote : goal.returns-in_err-append_closing_quote
returns-in_err-append_closing_quote c = record {
  writes = record {
    found = λ text more e.
        let written = run_written c.args.colon c.args.bytes.now c.runs.rest.now c.args.buf.now.items c.runs.buf.items c.runs.invariant.writes c.runs.run c.runs.invariant.inside c.runs.invariant.plain c.append_first.new.buf.items c.in_ok-append_first.ensures.ok in
        let space = end_fits c.args.colon c.args.bytes.now _ c.args.buf.now.items c.append_first.new.buf.items written c.in-Some.after.now (sym (take_rest c.runs.rest.now c.runs.run) ∙ c.in-Some.ensures.some) text more e in
        out_of_memory (λ rest. rest.now) c.from_residual-in_err-append_closing_quote.result c.args.buf.now c.append_closing_quote.new.buf more _ c.from_residual-in_err-append_closing_quote.ensures.1
        (omega (arith, space, c.runs.invariant.preserves.capacity, c.in_ok-append_first.ensures.capacity, c.in_err-append_closing_quote.ensures.full));
    shorter = search rules;
    preserves = preserves_on c.args.buf.now c.runs.buf c.append_closing_quote.new.buf c.runs.invariant.preserves (preserves_on c.runs.buf c.append_first.new.buf c.append_closing_quote.new.buf (retained_by c.runs.buf c.append_first.new.buf c.in_ok-append_first.ensures) (retained_by c.append_first.new.buf c.append_closing_quote.new.buf c.in_err-append_closing_quote.ensures));
  };
}

pub returns-in-Some : goal.returns-in-Some
returns-in-Some c = record {
  writes = record {
    found = λ text more e.
        let written = run_written c.args.colon c.args.bytes.now c.runs.rest.now c.args.buf.now.items c.runs.buf.items c.runs.invariant.writes c.runs.run c.runs.invariant.inside c.runs.invariant.plain c.append_first.new.buf.items c.in_ok-append_first.ensures.ok in
        end_written c.args.colon c.args.bytes.now _ c.args.buf.now.items c.append_first.new.buf.items written c.in-Some.after.now (sym (take_rest c.runs.rest.now c.runs.run) ∙ c.in-Some.ensures.some) text more e c.append_closing_quote.new.buf.items c.in_ok-append_closing_quote.ensures.ok;
    shorter = search rules;
    preserves = preserves_on c.args.buf.now c.runs.buf c.append_closing_quote.new.buf c.runs.invariant.preserves (preserves_on c.runs.buf c.append_first.new.buf c.append_closing_quote.new.buf (retained_by c.runs.buf c.append_first.new.buf c.in_ok-append_first.ensures) (retained_by c.append_first.new.buf c.append_closing_quote.new.buf c.in_ok-append_closing_quote.ensures));
  };
}

pub returns-in_default-read_byte : goal.returns-in_default-read_byte
returns-in_default-read_byte c = record {
  writes = record {
    found = λ text more e.
        let written = run_written c.args.colon c.args.bytes.now c.runs.rest.now c.args.buf.now.items c.runs.buf.items c.runs.invariant.writes c.runs.run c.runs.invariant.inside c.runs.invariant.plain c.append_first.new.buf.items c.in_ok-append_first.ensures.ok in
        let others = take_rest c.runs.rest.now c.runs.run in
        absurd (some_byte c.args.colon c.args.bytes.now _ c.args.buf.now.items c.append_first.new.buf.items written (λ tail is. c.in_default.ensures.found tail (others ∙ is)) (c.in_default-read_byte.ensures.byte ∙ ap byte_of others) text more e);
    shorter = search rules;
    preserves = preserves_on c.args.buf.now c.runs.buf c.append_first.new.buf c.runs.invariant.preserves (retained_by c.runs.buf c.append_first.new.buf c.in_ok-append_first.ensures);
  };
}

pub returns-in_err-append_byte : goal.returns-in_err-append_byte
returns-in_err-append_byte c = record {
  writes = record {
    found = λ text more e.
        let written = run_written c.args.colon c.args.bytes.now c.runs.rest.now c.args.buf.now.items c.runs.buf.items c.runs.invariant.writes c.runs.run c.runs.invariant.inside c.runs.invariant.plain c.append_first.new.buf.items c.in_ok-append_first.ensures.ok in
        let space = byte_fits c.args.colon c.args.bytes.now _ c.args.buf.now.items c.append_first.new.buf.items written c.in-Some-read_byte.byte c.in-Some-read_byte.more.now (c.in-Some-read_byte.ensures.byte ∙ ap byte_of (take_rest c.runs.rest.now c.runs.run)) text more e in
        out_of_memory (λ rest. rest.now) c.from_residual-in_err-append_byte.result c.args.buf.now c.append_byte.new.buf more _ c.from_residual-in_err-append_byte.ensures.1
        (omega (arith, space, c.runs.invariant.preserves.capacity, c.in_ok-append_first.ensures.capacity, c.in_err-append_byte.ensures.appends.full));
    shorter = search rules;
    preserves = preserves_on c.args.buf.now c.runs.buf c.append_byte.new.buf c.runs.invariant.preserves (preserves_on c.runs.buf c.append_first.new.buf c.append_byte.new.buf (retained_by c.runs.buf c.append_first.new.buf c.in_ok-append_first.ensures) (retained_by c.append_first.new.buf c.append_byte.new.buf c.in_err-append_byte.ensures.appends));
  };
}

pub runs-preserved : goal.runs-preserved
runs-preserved c =
    let written = run_written c.args.colon c.args.bytes.now c.runs.rest.now c.args.buf.now.items c.runs.buf.items c.runs.invariant.writes c.runs.run c.runs.invariant.inside c.runs.invariant.plain c.append_first.new.buf.items c.in_ok-append_first.ensures.ok in
    record {
      writes = byte_written c.args.colon c.args.bytes.now _ c.args.buf.now.items c.append_first.new.buf.items written c.in-Some-read_byte.byte c.in-Some-read_byte.more.now (c.in-Some-read_byte.ensures.byte ∙ ap byte_of (take_rest c.runs.rest.now c.runs.run)) c.append_byte.new.buf.items c.in_ok-append_byte.ensures.appends.ok;
      preserves = preserves_on c.args.buf.now c.runs.buf c.append_byte.new.buf c.runs.invariant.preserves (preserves_on c.runs.buf c.append_first.new.buf c.append_byte.new.buf (retained_by c.runs.buf c.append_first.new.buf c.in_ok-append_first.ensures) (retained_by c.append_first.new.buf c.append_byte.new.buf c.in_ok-append_byte.ensures.appends));
      within = omega (arith, c.in-Some-read_byte.ensures.shorter, c.runs.invariant.within);
      inside = c.plain_len-run.ensures.within;
      plain = c.plain_len-run.ensures.plain;
    }
