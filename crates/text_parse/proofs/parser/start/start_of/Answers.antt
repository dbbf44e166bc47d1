use Rattle.std.proofs.Common.{◌≡◌, ◌≤◌, true, ap, ◌∙◌, arith}
use Rattle.std.proofs.lemmas.Bool.Decides.{nat_tests}
use Rattle.jsonb_spec.specs.Mode.{strictness}
use Rattle.jsonb_spec.specs.Parsing.Number.{is_number_start}
use Rattle.text_scan.specs.Answer.{mode_of}
use Rattle.text_parse.proofs.Scalars.Starts.{BeginsNone, BeginsNoMore, array_starts, double_quote_starts, extended_number_starts, false_starts, large_false_starts, large_null_starts, large_true_starts, lenient_none, null_starts, number_starts, object_starts, single_quote_starts, strict_none, true_starts}
use Rattle.text_parse.proofs.parser.start.start_of.Goals as goal

pub returns-in-91 : goal.returns-in-91
returns-in-91 c mode same rest = array_starts mode c.args.byte rest c.in-91.is

pub returns-in-123 : goal.returns-in-123
returns-in-123 c mode same rest = object_starts mode c.args.byte rest c.in-123.is

pub returns-in-34 : goal.returns-in-34
returns-in-34 c mode same rest = double_quote_starts mode c.args.byte rest c.in-34.is

pub returns-in-110 : goal.returns-in-110
returns-in-110 c mode same rest = null_starts mode c.args.byte rest c.in-110.is

pub returns-in-116 : goal.returns-in-116
returns-in-116 c mode same rest = true_starts mode c.args.byte rest c.in-116.is

pub returns-in-102 : goal.returns-in-102
returns-in-102 c mode same rest = false_starts mode c.args.byte rest c.in-102.is

pub returns-in-39 : goal.returns-in-39
returns-in-39 c mode same rest = single_quote_starts mode c.args.byte rest (same ∙ ap (λ m. strictness (mode_of m)) c.in-Extended.is) c.in-39.is

pub returns-in-78 : goal.returns-in-78
returns-in-78 c mode same rest = large_null_starts mode c.args.byte rest (same ∙ ap (λ m. strictness (mode_of m)) c.in-Extended.is) c.in-78.is

pub returns-in-84 : goal.returns-in-84
returns-in-84 c mode same rest = large_true_starts mode c.args.byte rest (same ∙ ap (λ m. strictness (mode_of m)) c.in-Extended.is) c.in-84.is

pub returns-in-70 : goal.returns-in-70
returns-in-70 c mode same rest = large_false_starts mode c.args.byte rest (same ∙ ap (λ m. strictness (mode_of m)) c.in-Extended.is) c.in-70.is

pub returns-in-43 : goal.returns-in-43
returns-in-43 c mode same rest = extended_number_starts mode c.args.byte rest (same ∙ ap (λ m. strictness (mode_of m)) c.in-Extended.is) c.in-43.is

pub returns-in-Standard : goal.returns-in-Standard
returns-in-Standard c mode same rest =
    let none : BeginsNone c.args.byte =
    record { no_quote = λ e. omega (arith, e); no_n = λ e. omega (arith, e); no_t = λ e. omega (arith, e); no_f = λ e. omega (arith, e); no_minus = λ e. omega (arith, e); no_digit = λ low. omega (arith, low) } in
    strict_none mode c.args.byte rest (same ∙ ap (λ m. strictness (mode_of m)) c.in-Standard.is) none

pub returns-in-45 : goal.returns-in-45
returns-in-45 c mode same rest = number_starts mode c.args.byte rest (ap is_number_start c.in-45.is)

pub returns-in-48-to-57 : goal.returns-in-48-to-57
returns-in-48-to-57 c mode same rest =
    let low : 48 ≤ c.args.byte = omega arith in
    let high : c.args.byte ≤ 57 = omega arith in
    let digit : is_number_start c.args.byte ≡ true = grind (arith, nat_tests, low, high) in
    number_starts mode c.args.byte rest digit

pub returns-in_default-byte : goal.returns-in_default-byte
returns-in_default-byte c mode same rest =
    let none : BeginsNone c.args.byte =
    record { no_quote = λ e. omega (arith, e); no_n = λ e. omega (arith, e); no_t = λ e. omega (arith, e); no_f = λ e. omega (arith, e); no_minus = λ e. omega (arith, e); no_digit = λ low. omega (arith, low) } in
    let no_more : BeginsNoMore c.args.byte =
    record { no_single = λ e. omega (arith, e); no_large_n = λ e. omega (arith, e); no_large_t = λ e. omega (arith, e); no_large_f = λ e. omega (arith, e); no_plus = λ e. grind (arith, e); no_point = λ e. grind (arith, e); no_i = λ e. grind (arith, e); no_large_i = λ e. grind (arith, e) } in
    lenient_none mode c.args.byte rest (same ∙ ap (λ m. strictness (mode_of m)) c.in-Extended.is) none no_more
