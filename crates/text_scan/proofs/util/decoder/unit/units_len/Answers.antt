use Rattle.std.proofs.Common.{◌≡◌, ◌+◌, ◌++◌, ◌∷◌, [], false, All, List, ℕ, length, take, drop, ap, ap₂, sym, refl, ◌∙◌, arith}
use Rattle.std.specs.List.{flat_map, AllByRecursion}
use Rattle.std.proofs.Math.Seq.{take-add}
use Rattle.std.proofs.lemmas.List.{append-nil, length-drop, length-take-le, take_rest}
use Rattle.std.proofs.lemmas.List.Concat.{flat_map-append}
use Rattle.jsonb_spec.specs.Grammar.StringBody.{Item, unit, encoding, IsHexDigit}
use Rattle.jsonb_spec.specs.Parsing.Decoding.{AreUnits, IsUnit}
use Rattle.text_scan.proofs.util.decoder.unit.units_len.Goals as goal

all_units : (xs ys : List Item) → AllByRecursion IsUnit xs → AllByRecursion IsUnit ys → AllByRecursion IsUnit (xs ++ ys)
all_units [] ys p q = q
all_units (x ∷ xs) ys p q = (p.0, all_units xs ys p.1 q)

one_more : (bytes digits : List ℕ) (len : ℕ) → AreUnits (take len bytes) → drop len bytes ≡ 92 ∷ 117 ∷ digits → length (take 4 digits) ≡ 4 → All IsHexDigit (take 4 digits) → AreUnits (take (len + 6) bytes)
one_more bytes digits len before is four each =
    let last = unit false (take 4 digits) ∷ [] in
    record {
      items = before.items ++ last;
      each = all_units before.items last before.each ((refl, four, each), tt);
      encoded = take-add len 6 bytes ∙ ap₂ (λ xs ys. xs ++ take 6 ys) before.encoded is ∙ ap (λ xs. flat_map encoding before.items ++ 92 ∷ 117 ∷ xs) (sym (append-nil (take 4 digits)))
          ∙ sym (flat_map-append encoding before.items last);
    }

pub units-preserved : goal.units-preserved
units-preserved c =
    let bytes = c.args.bytes.now in
    let digits : List ℕ = c.in-Some.digits.now in
    let is : drop c.units.len bytes ≡ 92 ∷ 117 ∷ digits = sym (take_rest bytes c.units.len) ∙ c.in-Some.ensures.some in
    let four : length (take 4 digits) ≡ 4 = length-take-le 4 digits (omega (arith, c.if-digits-lt4.false)) in
    record {
      within = omega (arith, ap length is, length-drop c.units.len bytes, c.if-digits-lt4.false, c.units.invariant.within);
      units = one_more bytes digits c.units.len c.units.invariant.units is four c.in-Some-value_of.ensures.each;
    }
