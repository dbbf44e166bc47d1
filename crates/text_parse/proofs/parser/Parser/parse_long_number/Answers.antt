use Rattle.std.proofs.Common.{sym, ap, ◌∙◌, Ok, rules}
use Rattle.jsonb_core.specs.Error.CodeView.{code_of}
use Rattle.text_scan.specs.ScannedNumber.{number_views}
use Rattle.text_scan.proofs.Numbers.Scanned.{scanned_number, scanned_missing, scanned_fault}
use Rattle.text_parse.proofs.parser.Parser.parse_long_number.Goals as goal

pub returns-in-Err : goal.returns-in-Err
returns-in-Err c =
    record {
      parses =
          scanned_fault c.args.self.now.offset c.in-Err.fault.offset (code_of c.in-Err.fault.code) c.args.self.now.buf.now c.args.bytes.now c.args.self.now.inside c.requires.bytes (sym c.in-Err.ensures.scan);
      takes_no_memory = search rules;
      advances = search rules;
    }

pub returns-in-Some : goal.returns-in-Some
returns-in-Some c =
    record {
      parses =
          scanned_number c.args.self.now.offset c.in-Ok.text.end c.args.self.now.buf.now c.args.bytes.now _ c.requires.bytes (sym c.in-Ok.ensures.scan ∙ ap (λ o. Ok (number_views o, c.in-Ok.text.end)) c.in-Some.is);
      takes_no_memory = search rules;
      advances = search rules;
    }

pub returns-in-None : goal.returns-in-None
returns-in-None c =
    record {
      parses =
          scanned_missing c.args.self.now.offset c.in-Ok.text.end c.args.self.now.buf.now c.args.bytes.now c.args.self.now.inside c.requires.bytes c.in-Ok.ensures.within (sym c.in-Ok.ensures.scan ∙ ap (λ o. Ok (number_views o, c.in-Ok.text.end)) c.in-None.is);
      takes_no_memory = search rules;
      advances = search rules;
    }
