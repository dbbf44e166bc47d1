use Rattle.std.proofs.Common.{◌≤◌, length, subst, sym}
use Rattle.jsonb_spec.specs.Program.Colours.{piece_len}
use Rattle.vjson_run.proofs.Coloured.{piece_within}
use Rattle.vjson_run.proofs.colours.append_piece.Goals as goal

pub split_at-requires : goal.split_at-requires
split_at-requires c = subst (λ n. n ≤ length c.args.bytes.now) (sym c.piece_len.ensures) (subst (λ l. piece_len l ≤ length l) (sym c.requires.1) (piece_within c.args.first c.requires.0).1)
