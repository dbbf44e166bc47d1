-- The first byte of a key, by the kind.
use Rattle.std.proofs.Common.{◌≡◌, ℕ, zero, suc, ◌-◌, ◌^◌, ◌<◌, true, false, List, [], ◌∷◌, map, ℤ, pos, negsuc, unsigned_abs, refl, ap, ◌∙◌, arith}
use Rattle.std.proofs.lemmas.Int.{ints}
use Rattle.jsonb_spec.specs.Proper.{FitsScale, FitsWhole, IsProperNumber, IsProper}
use Rattle.jsonb_spec.specs.SortKey.{number_key, key_of, invert_if}
use Rattle.jsonb_spec.specs.Tree.{Form, int64, uint64, decimal64, decimal128, Num, Tree, null, boolean, string, number, array, object, binary, date, timestamp, timestamp_tz, interval}
use Rattle.jsonb_core.proofs.SortKeys.Numbers.{IsSmall, positive, negative, nothing_there, head_of}

small_scale : (form : Form) (scale : ℕ) → FitsScale form scale → scale < 256
small_scale int64 scale h = omega arith
small_scale uint64 scale h = omega arith
small_scale decimal64 scale h = h
small_scale decimal128 scale h = h

small_whole : (form : Form) (whole : ℤ) → FitsWhole form whole → unsigned_abs whole < 10 ^ 39
small_whole int64 whole h = omega (arith, ints)
small_whole uint64 (pos n) h = omega arith
small_whole uint64 (negsuc n) h = absurd h
small_whole decimal64 whole h = omega (arith, ints)
small_whole decimal128 whole h = omega (arith, ints)

pub is_small : (n : Num) → IsProperNumber n → IsSmall n
is_small n h = record { scale = small_scale n.form n.scale h.0; whole = small_whole n.form n.whole h.1 }

-- the first byte of a number's key is between those of the kinds below and above
pub record NumberBegins (n : Num) : Type 0 where
  pub head : ℕ
  pub tail : List ℕ
  pub is : number_key n ≡ head ∷ tail
  pub low : 22 < head
  pub high : head < 208

begins_by : (n : Num) → IsSmall n → (a : ℤ) → n.whole ≡ a → NumberBegins n
begins_by n p (pos zero) e =
    record { head = 128; tail = []; is = nothing_there n e; low = omega arith; high = omega arith }
begins_by n p (pos (suc a)) e =
    let x = head_of n a (ap unsigned_abs e) p in
    record {
      head = x.head;
      tail = map (invert_if false) x.tail;
      is = positive n a e ∙ ap (map (invert_if false)) x.is;
      low = omega (arith, x.low);
      high = omega (arith, x.high);
    }
begins_by n p (negsuc a) e =
    let x = head_of n a (ap unsigned_abs e) p in
    record {
      head = 255 - x.head;
      tail = map (invert_if true) x.tail;
      is = negative n a e ∙ ap (map (invert_if true)) x.is;
      low = omega (arith, x.high);
      high = omega (arith, x.low);
    }

pub number_begins : (n : Num) → IsSmall n → NumberBegins n
number_begins n p = begins_by n p n.whole refl

-- no key begins with the byte that closes an array or an object
pub record Begins (t : Tree) : Type 0 where
  pub head : ℕ
  pub tail : List ℕ
  pub is : key_of t ≡ head ∷ tail
  pub above : 0 < head

pub begins : (t : Tree) → IsProper t → Begins t
begins null p = record { head = 211; tail = _; is = refl; above = omega arith }
begins (boolean true) p = record { head = 22; tail = _; is = refl; above = omega arith }
begins (boolean false) p = record { head = 21; tail = _; is = refl; above = omega arith }
begins (string k s) p = record { head = 208; tail = _; is = refl; above = omega arith }
begins (number n) p =
    let x = number_begins n (is_small n p) in
    record { head = x.head; tail = x.tail; is = x.is; above = omega (arith, x.low) }
begins (array ts) p = record { head = 210; tail = _; is = refl; above = omega arith }
begins (object ms) p = record { head = 209; tail = _; is = refl; above = omega arith }
begins (binary b) p = record { head = 16; tail = _; is = refl; above = omega arith }
begins (date d) p = record { head = 17; tail = _; is = refl; above = omega arith }
begins (timestamp t) p = record { head = 18; tail = _; is = refl; above = omega arith }
begins (timestamp_tz o t) p = record { head = 19; tail = _; is = refl; above = omega arith }
begins (interval m d t) p = record { head = 20; tail = _; is = refl; above = omega arith }
