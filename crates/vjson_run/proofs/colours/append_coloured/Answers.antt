use Rattle.std.proofs.Common.{rules}
use Rattle.std.proofs.lemmas.List.{nil_from_length}
use Rattle.vjson_run.proofs.Coloured.{all_shown, shows_one}
use Rattle.vjson_run.proofs.colours.append_coloured.Goals as goal

pub pieces-preserved : goal.pieces-preserved
pieces-preserved c =
    shows_one c.args.bytes.now c.pieces.rest.now c.in-Some.field-0-1.now c.in_ok-rest.rest.now c.args.out.now.items c.pieces.out.items c.append_piece.new.out.items c.in-Some.first.now
    (search rules) (search rules) (search rules) c.pieces.invariant

pub returns : goal.returns
returns c = record { ok = all_shown c.args.bytes.now c.pieces.rest.now c.args.out.now.items c.pieces.out.items (nil_from_length c.pieces.rest.now c.in_default.ensures.cases) c.pieces.invariant }
