use Rattle.std.proofs.Common.{rules}
use Rattle.key_walk.specs.Frames.{ScalarFirst}
use Rattle.key_walk.proofs.Checks.{never, exactly, through}
use Rattle.key_walk.proofs.CheckedScalars.{no_scalar, text_scalar, word_scalar, number_scalar}
use Rattle.key_walk.proofs.check.checked_scalar.Goals as goal

pub returns-in_default : goal.returns-in_default
returns-in_default c = record {
  checks = record {
    found = never (ScalarFirst c.args.bytes.now) (λ more s. no_scalar c.args.bytes.now more c.in_default.ensures.cases s);
    shorter = search rules;
  };
}

pub returns-then-first : goal.returns-then-first
returns-then-first c = record {
  checks = record {
    found = λ more.
        through _ _ _ (c.checked_text.ensures.checks.found more) (text_scalar c.in-Some.first.now c.in-Some.rest.now c.args.bytes.now c.in-Some.ensures.cases.0 c.if-first.true more);
    shorter = search rules;
  };
}

pub returns-then-is_word : goal.returns-then-is_word
returns-then-is_word c = record {
  checks = record {
    found = exactly (ScalarFirst c.args.bytes.now) c.in-Some.rest.now (word_scalar c.in-Some.first.now c.in-Some.rest.now c.args.bytes.now c.in-Some.ensures.cases.0 (c.is_word.ensures.yes c.if-is_word.true));
    shorter = search rules;
  };
}

pub returns : goal.returns
returns c = record {
  checks = record {
    found = λ more.
        through _ _ _ (c.checked_number.ensures.checks.found more) (number_scalar c.in-Some.first.now c.in-Some.rest.now c.args.bytes.now c.in-Some.ensures.cases.0 c.if-first.false (c.is_word.ensures.no c.if-is_word.false) more);
    shorter = search rules;
  };
}
