use Rattle.std.proofs.Common.{ℕ, List, ◌≡◌, ◌+◌, ◌<◌, ◌≤◌, ◌↔◌, Option, None, Some, IfNone, IfSome, ⊎_elim, get_or, length, bit_or, subst, sym, arith}
use Rattle.std.specs.Int.{bit_at}
use Rattle.std.proofs.lemmas.Bool.{cases_lt}
use Rattle.jsonb_spec.specs.Parsing.Contents.{IsClear, IsQuoteOrBackslash}
use Rattle.text_scan.specs.QuotedString.{ReportsMarks}
use Rattle.text_scan.proofs.Strings.NearMarks.{clear_all, clear_before, reports}
use Rattle.text_scan.proofs.parser.string.near_mark.Goals as goal

-- the bits of both speak of the first 16 bytes
near_reports : (quote a b : ℕ) (bytes : List ℕ) → 16 ≤ length bytes → ((k : ℕ) → (bit_at a k ≡ 1) ↔ ((k < 16) × (get_or bytes k 0 ≡ quote))) → ((k : ℕ) → (bit_at b k ≡ 1) ↔ ((k < 16) × (get_or bytes k 0 ≡ 92)))
    → ReportsMarks quote bytes 0 16 (bit_or a b)
near_reports quote a b bytes long quotes backslashes =
    let from_zero : (k : ℕ) → k ≡ 0 + k = λ k. omega arith in
    reports quote 16 0 a b bytes long
    (λ k. subst (λ n. (bit_at a k ≡ 1) ↔ ((k < 16) × (get_or bytes n 0 ≡ quote))) (from_zero k) (quotes k))
    (λ k. subst (λ n. (bit_at b k ≡ 1) ↔ ((k < 16) × (get_or bytes n 0 ≡ 92))) (from_zero k) (backslashes k))

-- what the search from an index on says of its answer, where that is of a byte
of_byte : (P : ℕ → Type 0) (r : Option ℕ) (at n : ℕ) → IfSome r (λ i. i ≡ at) → IfSome r (λ i. i < n) → (at < n → P at) → IfSome r P
of_byte P None at n same within h = tt
of_byte P (Some i) at n same within h = subst P (sym same) (h (omega (arith, same, within)))

-- and where it is the end
of_end : (P : ℕ → Type 0) (r : Option ℕ) (at n : ℕ) → IfNone r (at ≡ n) → P at → IfNone r (P n)
of_end P None at n same h = subst P same h
of_end P (Some i) at n same h = tt

pub returns-then-bytes-lt16-clause-before : goal.returns-then-bytes-lt16-clause-before
returns-then-bytes-lt16-clause-before c =
    of_byte (IsClear c.args.quote c.args.bytes.now 0) c.before_end.result c.short_mark.result (length c.args.bytes.now) c.before_end.ensures.same c.before_end.ensures.within (λ _. c.short_mark.ensures.before)

pub returns-then-bytes-lt16-clause-here : goal.returns-then-bytes-lt16-clause-here
returns-then-bytes-lt16-clause-here c =
    of_byte (λ at. IsQuoteOrBackslash c.args.quote (get_or c.args.bytes.now at 0)) c.before_end.result c.short_mark.result (length c.args.bytes.now) c.before_end.ensures.same c.before_end.ensures.within c.short_mark.ensures.here

pub returns-then-bytes-lt16-clause-none : goal.returns-then-bytes-lt16-clause-none
returns-then-bytes-lt16-clause-none c =
    of_end (IsClear c.args.quote c.args.bytes.now 0) c.before_end.result c.short_mark.result (length c.args.bytes.now) c.before_end.ensures.end c.short_mark.ensures.before

pub returns-then-marks-ne0-clause-within : goal.returns-then-marks-ne0-clause-within
returns-then-marks-ne0-clause-within c =
    let t = near_reports c.args.quote c.near_bits-quotes.result c.near_bits-backslashes.result c.args.bytes.now (omega arith) c.near_bits-quotes.ensures c.near_bits-backslashes.ensures in
    omega (arith, t.short c.lowest.result c.lowest.ensures.set)

pub returns-then-marks-ne0-clause-before : goal.returns-then-marks-ne0-clause-before
returns-then-marks-ne0-clause-before c k low high =
    let marks = bit_or c.near_bits-quotes.result c.near_bits-backslashes.result in
    let t = near_reports c.args.quote c.near_bits-quotes.result c.near_bits-backslashes.result c.args.bytes.now (omega arith) c.near_bits-quotes.ensures c.near_bits-backslashes.ensures in
    clear_before c.args.quote marks 0 16 c.lowest.result c.args.bytes.now t c.lowest.ensures.below (t.short c.lowest.result c.lowest.ensures.set) k low (omega (arith, high))

pub returns-then-marks-ne0-clause-here : goal.returns-then-marks-ne0-clause-here
returns-then-marks-ne0-clause-here c =
    let t = near_reports c.args.quote c.near_bits-quotes.result c.near_bits-backslashes.result c.args.bytes.now (omega arith) c.near_bits-quotes.ensures c.near_bits-backslashes.ensures in
    let same : 0 + c.lowest.result ≡ c.lowest.result = omega arith in
    subst (λ n. IsQuoteOrBackslash c.args.quote (get_or c.args.bytes.now n 0)) same (t.marked c.lowest.result c.lowest.ensures.set)

-- the search behind the first 16 bytes finds the first of all
clear_from_start : (quote marks end : ℕ) (bytes : List ℕ) → ReportsMarks quote bytes 0 16 marks → marks ≡ 0 → IsClear quote bytes 16 end → IsClear quote bytes 0 end
clear_from_start quote marks end bytes t none later k low high =
    let near = clear_all quote marks 0 16 bytes t none in
    ⊎_elim (λ below. near k low below) (λ far. later k far high) (cases_lt k 16)

pub returns-clause-before : goal.returns-clause-before
returns-clause-before c =
    let marks = bit_or c.near_bits-quotes.result c.near_bits-backslashes.result in
    let t = near_reports c.args.quote c.near_bits-quotes.result c.near_bits-backslashes.result c.args.bytes.now (omega arith) c.near_bits-quotes.ensures c.near_bits-backslashes.ensures in
    of_byte (IsClear c.args.quote c.args.bytes.now 0) c.before_end-2.result c.next_mark-at.result.0 (length c.args.bytes.now) c.before_end-2.ensures.same c.before_end-2.ensures.within
    (λ _. clear_from_start c.args.quote marks c.next_mark-at.result.0 c.args.bytes.now t (omega arith) c.next_mark-at.ensures.before)

pub returns-clause-here : goal.returns-clause-here
returns-clause-here c =
    of_byte (λ at. IsQuoteOrBackslash c.args.quote (get_or c.args.bytes.now at 0)) c.before_end-2.result c.next_mark-at.result.0 (length c.args.bytes.now) c.before_end-2.ensures.same c.before_end-2.ensures.within c.next_mark-at.ensures.here

pub returns-clause-none : goal.returns-clause-none
returns-clause-none c =
    let marks = bit_or c.near_bits-quotes.result c.near_bits-backslashes.result in
    let t = near_reports c.args.quote c.near_bits-quotes.result c.near_bits-backslashes.result c.args.bytes.now (omega arith) c.near_bits-quotes.ensures c.near_bits-backslashes.ensures in
    of_end (IsClear c.args.quote c.args.bytes.now 0) c.before_end-2.result c.next_mark-at.result.0 (length c.args.bytes.now) c.before_end-2.ensures.end
    (clear_from_start c.args.quote marks c.next_mark-at.result.0 c.args.bytes.now t (omega arith) c.next_mark-at.ensures.before)
