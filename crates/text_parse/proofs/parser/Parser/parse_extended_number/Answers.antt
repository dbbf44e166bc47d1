use Rattle.std.proofs.Common.{rules}
use Rattle.text_scan.proofs.Numbers.Scanned.{scanned_number}
use Rattle.text_parse.proofs.parser.Parser.parse_extended_number.Goals as goal

pub returns-in-Some : goal.returns-in-Some
returns-in-Some c =
    record {
      parses =
          scanned_number c.args.self.now.offset c.in-Some.read.end c.args.self.now.buf.now c.rest-bytes.result.now _ c.rest-bytes.ensures c.in-Some.ensures.found;
      takes_no_memory = search rules;
      advances = search rules;
    }
