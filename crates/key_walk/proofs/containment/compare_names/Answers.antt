use Rattle.std.proofs.Common.{sym, ◌∙◌}
use Rattle.key_walk.proofs.Naming.{head_compares, behind_name, short_compares, short_never}
use Rattle.key_walk.proofs.containment.compare_names.Goals as goal

pub returns-in-Some : goal.returns-in-Some
returns-in-Some c = record {
  compares = λ text more wanted e n.
      let order = c.cmp.ensures ∙ head_compares text wanted more c.args.bytes.now c.args.name.now c.in-Some.head.now c.in-Some.rest.now e n c.in-Some.ensures.cases in
      record {
        reported = order;
        behind = λ same. behind_name text wanted more c.args.bytes.now c.args.name.now c.in-Some.head.now c.in-Some.rest.now e n c.in-Some.ensures.cases (sym c.cmp.ensures ∙ same) (sym order ∙ same);
      };
}

pub returns-in-None : goal.returns-in-None
returns-in-None c = record {
  compares = λ text more wanted e n. record {
    reported = c.cmp-in-None.ensures ∙ short_compares text wanted more c.args.bytes.now c.args.name.now e n c.in-None.ensures.cases;
    behind = λ same. absurd (short_never c.args.bytes.now c.args.name.now c.in-None.ensures.cases (sym c.cmp-in-None.ensures ∙ same));
  };
}
