use Rattle.jsonb_spec.specs.Tree.{escaped}
use Rattle.text_scan.specs.Answer.{mode_of}
use Rattle.jsonb_spec.specs.Parsing.Contents.{decoded_text}
use Rattle.text_scan.proofs.Strings.Items.{parsed_contents}
use Rattle.text_write.proofs.contents.Contents.new.Goals as goal

pub invariant_of-result : goal.invariant_of-result
invariant_of-result c =
    let mode = mode_of c.args.mode in
    let body = c.args.body.now in
    record { checked = parsed_contents mode body escaped (decoded_text mode body) c.in_ok-check_contents.ensures }
