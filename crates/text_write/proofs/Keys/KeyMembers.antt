-- The sink for a sort key while an object is open: its members, their keys and their values.
use Rattle.std.proofs.Common.{◌≡◌, ℕ, ◌+◌, true, false, List, [], ◌∷◌, ◌++◌, map, length, take, Vec, Global, refl, sym, ap, ap₂, subst, ◌∙◌, arith, append_assoc, append-nil, length-append}
use Rattle.std.proofs.lemmas.List.{length-take-le}
use Rattle.std.specs.Str.{IsUtf8}
use Rattle.jsonb_spec.specs.SortKey.{text_key}
use Rattle.jsonb_spec.specs.Tree.{Mark}
use Rattle.jsonb_spec.specs.Source.Open.{Open, members_so_far}
use Rattle.jsonb_spec.specs.Source.{Found, Source, found_member}
use Rattle.text_write.specs.KeySink.{Begins, Held, HeldFits, IsSinkWith, KeyHolds, Writes, base_of, key_layout, members}
use Rattle.jsonb_spec.specs.SortKey.Joined.{member_key, source_key}
use Rattle.text_members.specs.Members.{others_joined}
use Rattle.text_members.specs.OpenMembers.{AreOf, next_start}
use Rattle.text_members.specs.OpenMembers.{Begins as Begun}
use Rattle.jsonb_spec.specs.Text.StringText.{ArePlain}
use Rattle.jsonb_spec.specs.SortKey.SoFar.{keys_joined, open_key}
use Rattle.text_write.specs.declared.key.KeySink.{KeySink}
use Rattle.text_write.proofs.Keys.KeySinks.{goes_on}
use Rattle.text_write.proofs.Keys.OpenKeys.{member_joined}
use Rattle.text_members.proofs.OpenMembers as opened
use Rattle.text_members.proofs.Objects.Closing.{all_joined}

-- ---- where members begin

behind_others : (start : ℕ) (fs : List Found) → next_start false member_key start fs ≡ start + length (others_joined false (map member_key fs))
behind_others start [] = omega arith
behind_others start (f ∷ fs) =
    omega (arith, behind_others (start + length (member_key f) + 0) fs, length-append (member_key f) (others_joined false (map member_key fs)))

-- behind the members before
pub next_start-is : (start : ℕ) (fs : List Found) → next_start false member_key start fs ≡ start + length (keys_joined (map member_key fs))
next_start-is start fs = behind_others start fs ∙ ap (λ keys. start + length keys) (sym (all_joined (map member_key fs)))

-- ---- bytes and members

pub begins : {key : List ℕ} {offset start : ℕ} {s t : KeySink} → t.out ≡ s.out → t.base ≡ s.base → Begun key offset start s.members t.members → Begins [] key offset start s t
begins {s = s} out base m =
    record {
      base = base;
      before = ap₂ (λ n (o : Vec ℕ Global). take n o.items) base out;
      written = ap (λ (o : Vec ℕ Global). o.items) out ∙ sym (append-nil s.out.items);
      members = m;
    }

pub begins_wrote : {a b key : List ℕ} {offset start : ℕ} {r s t : KeySink} → Begins a key offset start r s → Writes b s t → Begins (a ++ b) key offset start r t
begins_wrote {a = a} {b = b} {r = r} m w =
    record {
      base = w.base ∙ m.base;
      before = w.before ∙ m.before;
      written = w.written ∙ ap (λ xs. xs ++ b) m.written ∙ append_assoc r.out.items a b;
      members = opened.begins_same m.members w.members;
    }

-- a key in the text, without escapes
pub text_verbatim : {there key : List ℕ} {s t : KeySink} → there ≡ key → ArePlain key → (ArePlain there → Writes (text_key there) s t) → Writes (text_key key) s t
text_verbatim {s = s} {t = t} same plain wrote = subst (λ bytes. Writes (text_key bytes) s t) same (wrote (subst ArePlain (sym same) plain))

-- ---- steps

-- an object with no members
pub object_begun : {text : List ℕ} {r s : KeySink} {held : List Held} {cs : List Open} (key : Mark × List ℕ) (offset : ℕ) → KeyHolds text r true held cs → Writes (209 ∷ []) r s → KeyHolds text s false (members (length s.members.entries.items) ∷ held) (members_so_far [] key offset ∷ cs)
object_begun {r = r} {cs = cs} key offset sink w =
    goes_on sink w refl (opened.none_in (key_layout r.base) key offset cs)
    (ap length w.members.entries ∙ opened.counted sink.members, sink.fits)

-- a key behind the members before it
pub key_holds : {text : List ℕ} {r s : KeySink} {first : ℕ} {held : List Held} {fs : List Found} {before : Mark × List ℕ} {offset : ℕ} {cs : List Open} (mark : Mark) (key : List ℕ) (after start : ℕ)
    → KeyHolds text r false (members first ∷ held) (members_so_far fs before offset ∷ cs) → start ≡ length r.out.items → Begins (text_key key) key after start r s → IsUtf8 key
    → KeyHolds text s true (members first ∷ held) (members_so_far fs (mark, key) after ∷ cs)
key_holds {text = text} {r = r} {s = s} {first = first} {held = held} {fs = fs} {cs = cs} mark key after start sink at m utf8 =
    let from = r.base + length (open_key true cs) + 1 in
    let based : length (base_of r) ≡ r.base = length-take-le r.base r.out.items r.based in
    let keys = keys_joined (map member_key fs) in
    let starts : start ≡ next_start false member_key from fs =
    omega (
      arith,
      at,
      based,
      next_start-is from fs,
      ap length sink.bytes,
      length-append (base_of r) (open_key true cs ++ 209 ∷ keys),
      length-append (open_key true cs) (209 ∷ keys),
    ) in
    let begun = opened.key_begun mark key after start sink.members starts m.members utf8 in
    record {
      bytes =
          m.written ∙ ap (λ xs. xs ++ text_key key) sink.bytes ∙ append_assoc (base_of r) (open_key true cs ++ 209 ∷ keys) (text_key key)
          ∙ ap₂ (λ b n. b ++ n) (sym m.before) (append_assoc (open_key true cs) (209 ∷ keys) (text_key key));
      members = subst (λ b. AreOf (key_layout b) text s.members true (members_so_far fs (mark, key) after ∷ cs)) (sym m.base) begun;
      fits = subst (λ b. HeldFits (key_layout b) (members first ∷ held) (members_so_far fs (mark, key) after ∷ cs)) (sym m.base) sink.fits;
    }

-- a value behind its key
pub value_holds : {text bytes written : List ℕ} {r t : KeySink} {first : ℕ} {held : List Held} {fs : List Found} {key : Mark × List ℕ} {offset : ℕ} {cs : List Open} (s : Source) (next : Mark × List ℕ) (other : ℕ)
    → IsSinkWith text r written true (members first ∷ held) (members_so_far fs key offset ∷ cs) → Writes bytes r t → written ++ bytes ≡ open_key true (members_so_far fs key offset ∷ cs) ++ source_key s
    → KeyHolds text t false (members first ∷ held) (members_so_far (fs ++ found_member key s offset ∷ []) next other ∷ cs)
value_holds {r = r} {fs = fs} {key = key} {offset = offset} {cs = cs} s next other sink w is =
    goes_on sink w (is ∙ member_joined fs (found_member key s offset) (open_key true cs))
    (opened.filled_in (key_layout r.base) fs key next s offset other cs)
    sink.fits
