use Rattle.std.proofs.Common.{rules, arith, unsigned_abs, ◌∙◌}
use Rattle.std.specs.Bool.{nat_lt}
use Rattle.key_value.proofs.Signs.{exponent_there, some_bytes}
use Rattle.key_value.proofs.Texts.{none_some, some_pair}
use Rattle.key_walk.specs.Frames.{NumberFirst}
use Rattle.key_walk.proofs.Checks.{never, exactly}
use Rattle.key_walk.proofs.NumberEnds.{few_digits, number_ends, number_read, number_there}
use Rattle.key_walk.proofs.digits.checked_number.Goals.{then-exponent-via-then-exponent, then-exponent-via-else-exponent+then-exponent-count}
use Rattle.key_walk.proofs.digits.checked_number.Goals as goal

pub returns-in_default : goal.returns-in_default
returns-in_default c = record {
  checks = record {
    found = never (NumberFirst c.args.bytes.now) (λ more n. some_bytes n.value n.proper c.args.bytes.now more n.occurs c.in_default.ensures.cases);
    shorter = search rules;
  };
}

pub returns-in_default-read_exponent : goal.returns-in_default-read_exponent
returns-in_default-read_exponent c = record {
  checks = record {
    found = never (NumberFirst c.args.bytes.now) (λ more n.
        let s = number_read c.in-Some.first.now c.in-Some.field-0-1.now c.args.bytes.now more c.in-Some.ensures.cases.0 c.requires.not_zero n in
        none_some _ (c.in_default-read_exponent.ensures.exponent ∙ exponent_there n.value (nat_lt c.in-Some.first.now 128) c.args.bytes.now more s));
    shorter = search rules;
  };
}

pub returns-in_default-checked_digits : goal.returns-in_default-checked_digits
returns-in_default-checked_digits c = record {
  checks = record {
    found = never (NumberFirst c.args.bytes.now) (λ more n.
        let sign = nat_lt c.in-Some.first.now 128 in
        let s = number_read c.in-Some.first.now c.in-Some.field-0-1.now c.args.bytes.now more c.in-Some.ensures.cases.0 c.requires.not_zero n in
        let at = some_pair c.in-Some-read_exponent.exponent s.exponent c.in-Some-read_exponent.digits.now _ (c.in-Some-read_exponent.ensures.exponent ∙ exponent_there n.value sign c.args.bytes.now more s) in
        c.in_default-checked_digits.ensures.all s.count (unsigned_abs n.value.whole) (few_digits n.value sign c.args.bytes.now more s n.in_range) s.below s.least more at.1);
    shorter = search rules;
  };
}

pub returns-then-exponent : goal.returns-then-exponent
returns-then-exponent c = record {
  checks = record {
    found = never (NumberFirst c.args.bytes.now) (λ more n.
        let sign = nat_lt c.in-Some.first.now 128 in
        let s = number_read c.in-Some.first.now c.in-Some.field-0-1.now c.args.bytes.now more c.in-Some.ensures.cases.0 c.requires.not_zero n in
        let few = few_digits n.value sign c.args.bytes.now more s n.in_range in
        let at = some_pair c.in-Some-read_exponent.exponent s.exponent c.in-Some-read_exponent.digits.now _ (c.in-Some-read_exponent.ensures.exponent ∙ exponent_there n.value sign c.args.bytes.now more s) in
        let reported = c.in-Some-checked_digits.ensures.all s.count (unsigned_abs n.value.whole) few s.below s.least more at.1 in
        elim c.then-exponent.branch [
          | then-exponent-via-then-exponent w ↦ omega (arith, w.if-exponent.true, at.0, s.is_exponent_key, few)
          | then-exponent-via-else-exponent+then-exponent-count w ↦ omega (arith, w.if-exponent-count.true, at.0, s.is_exponent_key, reported.0, few, n.in_range.0)
        ]);
    shorter = search rules;
  };
}

pub returns : goal.returns
returns c = record {
  checks = record {
    found = exactly (NumberFirst c.args.bytes.now) c.in-Some-checked_digits.rest.now
        (number_ends c.args.bytes.now c.in-Some-checked_digits.rest.now
        (number_there (nat_lt c.in-Some.first.now 128) c.in-Some-read_exponent.exponent c.in-Some-checked_digits.count c.args.bytes.now c.in-Some-read_exponent.digits.now c.in-Some-checked_digits.rest.now c.in-Some-read_exponent.ensures.read.occurs c.in-Some-checked_digits.ensures.found c.in-Some-checked_digits.ensures.few (omega (arith, c.if-exponent.false)) (omega (arith, c.if-exponent-count.false))));
    shorter = search rules;
  };
}
