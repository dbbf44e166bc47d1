use Rattle.std.proofs.Common.{◌≡◌, ℕ, ◌+◌, ◌-◌, ◌<◌, ◌≤◌, Option, Some, None, List, true, get_or, length, take, sym, ap, subst, ◌∙◌, arith}
use Rattle.std.specs.Option.{is_some, unwrap_or}
use Rattle.std.specs.Prelude.{IfSome, IfNone}
use Rattle.std.proofs.lemmas.List.{get_or-drop, take_rest}
use Rattle.jsonb_spec.specs.Parsing.Decoding.{SeesNoBackslash}
use Rattle.text_write.proofs.JsonStrings.{WritesSome, byte_put, fewer_same, front_of, run_put, some_all, some_clear, some_escape}
use Rattle.text_write.proofs.json_string.put_contents.Goals as goal

-- the bytes before the first backslash among 16, or all of them
run_clear : (near : Option ℕ) (rest : List ℕ) (run : ℕ) → run ≡ unwrap_or near 16 → IfSome near (λ i. i < 16) → IfSome near (SeesNoBackslash rest) → IfNone near (SeesNoBackslash rest 16) → (run ≤ 16) × SeesNoBackslash rest run
run_clear (Some i) rest run is few before none = (omega (arith, is, few), subst (SeesNoBackslash rest) (sym is) before)
run_clear None rest run is few before none = (omega (arith, is), subst (SeesNoBackslash rest) (sym is) none)

run_stops : (near : Option ℕ) (rest : List ℕ) (run : ℕ) → run ≡ unwrap_or near 16 → IfSome near (λ i. i < 16) → IfSome near (λ i. get_or rest i 0 ≡ 92) → true ≡ is_some near → (run < 16) × (get_or rest run 0 ≡ 92)
run_stops (Some i) rest run is few here some = (omega (arith, is, few), subst (λ n. get_or rest n 0 ≡ 92) (sym is) here)
run_stops None rest run is few here some = cc

pub returns-then-run-count-clause-put : goal.returns-then-run-count-clause-put
returns-then-run-count-clause-put c = λ text short.
    let bytes = c.args.bytes.now in
    let count = c.args.count in
    let at = c.items.at in
    let end = c.items.end in
    let row = c.items.row in
    let old = take c.args.start c.args.row.now in
    let run = c.unwrap_or-run.result in
    let put = c.write_sixteen.new.text in
    let inv = c.items.invariant in
    let near = c.near_backslash-near in
    let found = run_clear near.result _ run c.unwrap_or-run.ensures near.ensures.within near.ensures.before near.ensures.none in
    let space : end + 16 ≤ length row = omega (arith, inv.behind.1, inv.size, c.requires.space, c.items-test.true) in
    let clear = subst (λ xs. SeesNoBackslash xs run) (take_rest bytes at) found.1 in
    let left = count - at in
    let few : left ≤ 16 = omega (arith, c.if-run-count.true, found.0) in
    let wrote : WritesSome c.args.as_text bytes count old (take (end + left) put) (at + left) =
    some_clear c.args.as_text bytes count at run left old (take end row) (take (end + left) put) (omega (arith, c.items-test.true)) (omega (arith, c.requires.inside)) inv.writes clear c.if-run-count.true (omega arith)
    (run_put bytes row put at end left (omega (arith, c.requires.inside, c.items-test.true)) space c.write_sixteen.ensures.size c.write_sixteen.ensures.written few) in
    some_all c.args.as_text bytes count (at + left) old (take (end + left) put) text (omega (arith, c.requires.inside)) (omega (arith, c.items-test.true)) wrote short

pub returns-then-run-count-clause-front : goal.returns-then-run-count-clause-front
returns-then-run-count-clause-front c =
    let end = c.items.end in
    let row = c.items.row in
    let put = c.write_sixteen.new.text in
    let inv = c.items.invariant in
    let space : end + 16 ≤ length row = omega (arith, inv.behind.1, inv.size, c.requires.space, c.items-test.true) in
    front_of row put _ end (end + 16) c.args.start c.write_sixteen.ensures.written inv.behind.0 (omega arith) (omega (arith, space)) ∙ inv.front

pub put_escape-requires-clause-here : goal.put_escape-requires-clause-here
put_escape-requires-clause-here c =
    let bytes = c.args.bytes.now in
    let at = c.items.at in
    let end = c.items.end in
    let row = c.items.row in
    let run = c.unwrap_or-run.result in
    let inv = c.items.invariant in
    let near = c.near_backslash-near in
    let stops = run_stops near.result _ run c.unwrap_or-run.ensures near.ensures.within near.ensures.here c.if-is_some.ensures in
    let space : end + 16 ≤ length row = omega (arith, inv.behind.1, inv.size, c.requires.space, c.items-test.true) in
    byte_put bytes row c.write_sixteen.new.text at end run (omega (arith, c.requires.inside, c.items-test.true)) space c.write_sixteen.ensures.size c.write_sixteen.ensures.written stops.0
    ∙ sym (get_or-drop at bytes run 0) ∙ ap (λ xs. get_or xs run 0) (sym (take_rest bytes at)) ∙ stops.1

pub returns-in_err-end-clause-front : goal.returns-in_err-end-clause-front
returns-in_err-end-clause-front c =
    let end = c.items.end in
    let row = c.items.row in
    let put = c.write_sixteen.new.text in
    let inv = c.items.invariant in
    let space : end + 16 ≤ length row = omega (arith, inv.behind.1, inv.size, c.requires.space, c.items-test.true) in
    fewer_same c.args.start (end + c.unwrap_or-run.result) _ put (omega (arith, inv.behind.0)) c.put_escape.ensures.front
    ∙ front_of row put _ end (end + 16) c.args.start c.write_sixteen.ensures.written inv.behind.0 (omega arith) (omega (arith, space)) ∙ inv.front

pub items-preserved-then-is_some : goal.items-preserved-then-is_some
items-preserved-then-is_some c =
    let bytes = c.args.bytes.now in
    let count = c.args.count in
    let at = c.items.at in
    let end = c.items.end in
    let row = c.items.row in
    let old = take c.args.start c.args.row.now in
    let run = c.unwrap_or-run.result in
    let put = c.write_sixteen.new.text in
    let inv = c.items.invariant in
    let near = c.near_backslash-near in
    let found = run_clear near.result _ run c.unwrap_or-run.ensures near.ensures.within near.ensures.before near.ensures.none in
    let stops = run_stops near.result _ run c.unwrap_or-run.ensures near.ensures.within near.ensures.here c.if-is_some.ensures in
    let space : end + 16 ≤ length row = omega (arith, inv.behind.1, inv.size, c.requires.space, c.items-test.true) in
    let clear = subst (λ xs. SeesNoBackslash xs run) (take_rest bytes at) found.1 in
    let wrote : WritesSome c.args.as_text bytes count old (take (end + run) put) (at + run) =
    some_clear c.args.as_text bytes count at run run old (take end row) (take (end + run) put) (omega (arith, c.items-test.true)) (omega (arith, c.requires.inside)) inv.writes clear (omega arith) (omega (arith, c.if-run-count.false))
    (run_put bytes row put at end run (omega (arith, c.requires.inside, c.items-test.true)) space c.write_sixteen.ensures.size c.write_sixteen.ensures.written found.0) in
    let here : get_or bytes (at + run) 0 ≡ 92 = sym (get_or-drop at bytes run 0) ∙ ap (λ xs. get_or xs run 0) (sym (take_rest bytes at)) ∙ stops.1 in
    let is = c.in_ok-end.ensures.known in
    record {
      within = omega (arith, c.if-run-count.false);
      behind = (omega (arith, inv.behind.0, c.in_ok-end.ensures.within.0), omega (arith, inv.behind.1, c.in_ok-end.ensures.within.1));
      size = c.put_escape.ensures.size ∙ c.write_sixteen.ensures.size ∙ inv.size;
      writes = some_escape c.args.as_text bytes count (at + run) is.0 old (take (end + run) put) _ (omega (arith, c.if-run-count.false)) wrote here (omega (arith, c.requires.inside)) is.1 (c.in_ok-end.ensures.put is.0 is.1);
      front = fewer_same c.args.start (end + run) _ put (omega (arith, inv.behind.0)) c.put_escape.ensures.front
          ∙ front_of row put _ end (end + 16) c.args.start c.write_sixteen.ensures.written inv.behind.0 (omega arith) (omega (arith, space)) ∙ inv.front;
    }

pub items-preserved : goal.items-preserved
items-preserved c =
    let bytes = c.args.bytes.now in
    let count = c.args.count in
    let at = c.items.at in
    let end = c.items.end in
    let row = c.items.row in
    let old = take c.args.start c.args.row.now in
    let run = c.unwrap_or-run.result in
    let put = c.write_sixteen.new.text in
    let inv = c.items.invariant in
    let near = c.near_backslash-near in
    let found = run_clear near.result _ run c.unwrap_or-run.ensures near.ensures.within near.ensures.before near.ensures.none in
    let space : end + 16 ≤ length row = omega (arith, inv.behind.1, inv.size, c.requires.space, c.items-test.true) in
    let clear = subst (λ xs. SeesNoBackslash xs run) (take_rest bytes at) found.1 in
    record {
      within = omega (arith, c.if-run-count.false);
      behind = (omega (arith, inv.behind.0), omega (arith, inv.behind.1));
      size = c.write_sixteen.ensures.size ∙ inv.size;
      writes = some_clear c.args.as_text bytes count at run run old (take end row) (take (end + run) put) (omega (arith, c.items-test.true)) (omega (arith, c.requires.inside)) inv.writes clear (omega arith) (omega (arith, c.if-run-count.false))
          (run_put bytes row put at end run (omega (arith, c.requires.inside, c.items-test.true)) space c.write_sixteen.ensures.size c.write_sixteen.ensures.written found.0);
      front = front_of row put _ end (end + 16) c.args.start c.write_sixteen.ensures.written inv.behind.0 (omega arith) (omega (arith, space)) ∙ inv.front;
    }

pub returns-clause-put : goal.returns-clause-put
returns-clause-put c = λ text short.
    some_all c.args.as_text c.args.bytes.now c.args.count c.items.at (take c.args.start c.args.row.now) (take c.items.end c.items.row) text (omega (arith, c.requires.inside)) (omega (arith, c.items-test.false)) c.items.invariant.writes short
