use Rattle.text_members.proofs.Objects.Pieces.{front_verbatim}
use Rattle.text_write.proofs.escaped.escape_again.Goals as goal

pub returns-in_err-extend_from_slice-clause-retained :
    goal.returns-in_err-extend_from_slice-clause-retained
returns-in_err-extend_from_slice-clause-retained c = front_verbatim c.args.from c.args.out.now.items
