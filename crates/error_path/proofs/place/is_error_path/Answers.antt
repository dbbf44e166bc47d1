use Rattle.std.proofs.Common.{◌≡◌, ap₂, subst, sym, ◌∙◌, ◌++◌, arith, List, map, string_bytes, take-append-drop}
use Rattle.std.specs.List.{AllByRecursion}
use Rattle.text_scan.specs.Answer.{grammar_of}
use Rattle.jsonb_spec.specs.Path.ErrorPath.{IsClosing}
use Rattle.jsonb_spec.specs.Path.ErrorPath.IsErrorPath.{at_part}
use Rattle.error_path.specs.Placed.{AreLed}
use Rattle.text_parse.proofs.Steps.Failures.{stops_if}
use Rattle.error_path.proofs.Passing.{no_piece}
use Rattle.error_path.proofs.place.is_error_path.Goals as goal

pub returns-then-branch : goal.returns-then-branch
returns-then-branch c =
    let mode = grammar_of c.args.grammar in
    let place = c.args.place.now in
    let front = c.split_at.result.0.now in
    let closing = stops_if _ _ _ c.if-not-are_closing.false c.are_closing.ensures in
    let split = c.split_at.ensures in
    at_part (record {
      front = front;
      rest = c.split_at.result.1.now;
      whole = split.by_index.0;
      lacking = place.lacking;
      closers = place.closers.items;
      are_closing = subst (AllByRecursion IsClosing) c.deref.ensures.value closing;
      leads = subst (λ put. AreLed put mode front place.lacking place.closers.items (map string_bytes place.keys.items)) c.in-There.is c.in_ok-put_each.ensures;
      no_piece = no_piece mode c.split_at.result.1.now (omega (arith, c.piece_len.ensures.value, c.if-piece_len-gt0.false));
      is_wrong = stops_if _ _ _ c.if-branch.true c.in_ok-is_wrong-in-There.ensures;
    })
