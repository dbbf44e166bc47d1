-- What a value holds beside what its tree holds.
use Rattle.std.proofs.Common.{◌≡◌, ℕ, zero, suc, ◌<◌, ◌≤◌, List, [], ◌∷◌, length, get_or, map, ◌↔◌, IsTrue, is_some, Option, Some, None, option_map, option_copied, Bor, cond, Bool, true, false, bytes_eq, string_bytes, nat_cmp, String, Vec, BTreeMap, Global, arith, refl, sym, ap, ◌∙◌, rules}
use Rattle.std.proofs.lemmas.Map.Text.{is_eq-slice_cmp}
use Rattle.std.specs.BTreeMap.{is_at}
use Rattle.std.specs.Cmp.Lexicographic.{slice_cmp}
use Rattle.std.specs.Map.{keys_of, lookup}
use Rattle.std.specs.Slice.{IsItemAt}
use Rattle.jsonb_spec.specs.Accessors.{trees_len, find_member, item_at, key_trees}
use Rattle.std.specs.Cow.{cow_str_bytes}
use Rattle.std.specs.declared.borrow.CowStr.{CowStr}
use Rattle.jsonb_spec.specs.Tree.{null, boolean, string, number, binary, date, timestamp, timestamp_tz, interval, array, object, escaped, more_trees, trees_of}
use Rattle.jsonb_core.specs.View.{mark_view, number_view}
use Rattle.jsonb_value.specs.View.{view, trees_view, members_view}
use Rattle.jsonb_value.specs.declared.extension.Date.{Date}
use Rattle.jsonb_value.specs.declared.extension.Interval.{Interval}
use Rattle.jsonb_value.specs.declared.extension.Timestamp.{Timestamp}
use Rattle.jsonb_value.specs.declared.extension.TimestampTz.{TimestampTz}
use Rattle.jsonb_core.specs.declared.number.Number.{Number}
use Rattle.jsonb_value.specs.declared.value.Value.{Value, Null, Bool as Bool', String as String', Number as Number', Binary, Date as Date', Timestamp as Timestamp', TimestampTz as TimestampTz', Interval as Interval', Array, Object, the_lemmas}
use Rattle.jsonb_value.proofs.Values.Members.{Entry}

pub view-Null : view Null ≡ null
view-Null = search (rules, the_lemmas)

pub view-Bool : (b : Bool) → view (Bool' b) ≡ boolean b
view-Bool b = search (rules, the_lemmas)

pub view-String : (s : CowStr Global) → view (String' s) ≡ string (mark_view s) (cow_str_bytes s)
view-String s = search (rules, the_lemmas)

pub view-Number : (n : Number) → view (Number' n) ≡ number (number_view n)
view-Number n = search (rules, the_lemmas)

pub view-Binary : (b : Bor (List ℕ)) → view (Binary b) ≡ binary b.now
view-Binary b = search (rules, the_lemmas)

pub view-Date : (d : Date) → view (Date' d) ≡ date d.value
view-Date d = search (rules, the_lemmas)

pub view-Timestamp : (s : Timestamp) → view (Timestamp' s) ≡ timestamp s.value
view-Timestamp s = search (rules, the_lemmas)

pub view-TimestampTz : (s : TimestampTz) → view (TimestampTz' s) ≡ timestamp_tz s.offset s.value
view-TimestampTz s = search (rules, the_lemmas)

pub view-Interval : (i : Interval) → view (Interval' i) ≡ interval i.months i.days i.micros
view-Interval i = search (rules, the_lemmas)

pub view-Array : (v : Vec Value Global) → view (Array v) ≡ array (trees_view v.items)
view-Array v = search (rules, the_lemmas)

pub view-Object : (m : BTreeMap (String Global) Value) → view (Object m) ≡ object (members_view m.entries)
view-Object m = search (rules, the_lemmas)

pub trees_len-trees_view : (vs : List Value) → trees_len (trees_view vs) ≡ length vs
trees_len-trees_view [] = refl
trees_len-trees_view (v ∷ vs) = ap suc (trees_len-trees_view vs)

-- a value that is borrowed is seen as it is
pub seen : (r : Option (Bor Value)) → option_map (λ v. view v.now) r ≡ option_map view (option_copied r)
seen None = refl
seen (Some v) = refl

item_past : (vs : List Value) (i : ℕ) → length vs ≤ i → item_at (trees_view vs) i ≡ None
item_past [] i past = refl
item_past (v ∷ vs) zero past = absurd (omega (arith, past))
item_past (v ∷ vs) (suc i) past = item_past vs i (omega (arith, past))

item_within : (vs : List Value) (i : ℕ) (v : Value) → i < length vs → item_at (trees_view vs) i ≡ Some (view (get_or vs i v))
item_within [] i v within = absurd (omega (arith, within))
item_within (w ∷ vs) zero v within = refl
item_within (w ∷ vs) (suc i) v within = item_within vs i v (omega (arith, within))

-- what is lent of an array's slot is the item there
pub item_lent : (vs : List Value) (i : ℕ) (r : Option (Bor Value)) → IsItemAt vs i r → option_map (λ v. view v.now) r ≡ item_at (trees_view vs) i
item_lent vs i None h = sym (item_past vs i h.3)
item_lent vs i (Some v) h = ap (λ w. Some (view w)) h.1 ∙ sym (item_within vs i v.now h.3.0)

option_map-cond : (b : Bool) (v : Value) (o : Option Value) → option_map view (cond b (Some v) o) ≡ cond b (Some (view v)) (option_map view o)
option_map-cond true v o = refl
option_map-cond false v o = refl

-- a look-up in the map finds the member's tree
pub option_map-lookup : (name : List ℕ) (es : List Entry)
    → option_map view (lookup (is_at (λ k. slice_cmp nat_cmp name (string_bytes k))) es) ≡ find_member (bytes_eq name) (members_view es)
option_map-lookup name [] = refl
option_map-lookup name (e ∷ es) =
    option_map-cond (is_at (λ k. slice_cmp nat_cmp name (string_bytes k)) e.0) e.1 (lookup (is_at (λ k. slice_cmp nat_cmp name (string_bytes k))) es)
    ∙ (λ i. cond (is_eq-slice_cmp name (string_bytes e.0) i) (Some (view e.1)) (option_map-lookup name es i))

pub key_trees-members_view : (es : List Entry) → trees_of (map (λ k. string escaped (string_bytes k)) (keys_of es)) ≡ key_trees (members_view es)
key_trees-members_view [] = refl
key_trees-members_view (e ∷ es) = ap (more_trees (string escaped (string_bytes e.0))) (key_trees-members_view es)

-- a value is there exactly when some number has what it says
pub some_exactly : (o : Option ℕ) (P : ℕ → Type 0) → ((n : ℕ) → (o ≡ Some n) ↔ P n) → IsTrue (is_some o) ↔ ((n : ℕ) × P n)
some_exactly (Some n) P h = (λ t. (n, (h n).0 refl), λ p. search rules)
some_exactly None P h = (λ t. absurd (search rules), λ p. let missing : None ≡ Some p.0 = (h p.0).1 p.1 in cc)
