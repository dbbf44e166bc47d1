-- The sink while an object is open: its members, their keys and their values.
use Rattle.std.proofs.Common.{◌≡◌, ℕ, ◌+◌, ◌-◌, ◌<◌, ◌≤◌, true, false, List, [], ◌∷◌, ◌++◌, map, length, take, slice_range, refl, sym, ap, ap₂, subst, ◌∙◌, arith, append_assoc, append-nil, length-append}
use Rattle.std.proofs.lemmas.List.{length-take-le}
use Rattle.std.specs.List.{flat_map}
use Rattle.std.specs.Str.{IsUtf8}
use Rattle.jsonb_spec.specs.Text.{in_quotes, with_commas}
use Rattle.jsonb_spec.specs.Text.StringText.{ArePlain, quoted_text}
use Rattle.jsonb_spec.specs.Tree.{Mark}
use Rattle.jsonb_spec.specs.Source.Open.{Open, members_so_far}
use Rattle.jsonb_spec.specs.Source.{Found, Source, found_member}
use Rattle.text_members.specs.OpenMembers.{AreOf, all_starts, next_start, starts_in}
use Rattle.text_members.specs.OpenMembers.{Begins as Begun}
use Rattle.jsonb_spec.specs.Text.SoFar.{comma_after, comma_unless, key_text, member_text, open_text}
use Rattle.jsonb_spec.specs.Text.SourceText.{source_text}
use Rattle.text_write.specs.TextSink.{Begins, Held, HeldFits, IsSinkWith, TextHolds, Writes, base_of, members, text_layout}
use Rattle.text_write.specs.Written.{bytes_of}
use Rattle.text_write.specs.declared.text.TextSink.{TextSink}
use Rattle.text_members.proofs.OpenMembers as opened
use Rattle.text_write.proofs.OpenTexts.{led, part_joined}
use Rattle.text_write.proofs.Sinks.{goes_on}

-- ---- where members begin

commas_length : (fs : List Found) → length (flat_map (λ other. 44 ∷ other) (map member_text fs)) ≡ length (with_commas (map member_text fs)) + length (comma_after fs)
commas_length [] = refl
commas_length (f ∷ fs) =
    let rest = flat_map (λ other. 44 ∷ other) (map member_text fs) in
    omega (arith, length-append (member_text f) rest, length-append (44 ∷ member_text f) rest)

-- behind the members before and the comma after them
pub next_start-is : (start : ℕ) (fs : List Found) → next_start true member_text start fs ≡ start + length (with_commas (map member_text fs)) + length (comma_after fs)
next_start-is start [] = omega arith
next_start-is start (f ∷ fs) =
    let rest = flat_map (λ other. 44 ∷ other) (map member_text fs) in
    omega (arith, next_start-is (start + length (member_text f) + 1) fs, commas_length fs, length-append (member_text f) rest)

-- ---- bytes and members

pub wrote_begins : {a b key : List ℕ} {offset start : ℕ} {r s t : TextSink} → Writes a r s → Begins b key offset start s t → Begins (a ++ b) key offset start r t
wrote_begins {a = a} {b = b} {r = r} w m =
    record {
      text = m.text ∙ w.text;
      base = m.base ∙ w.base;
      before = m.before ∙ w.before;
      written = m.written ∙ ap (λ xs. xs ++ b) w.written ∙ append_assoc (bytes_of r.written) a b;
      members = opened.same_begins w.members m.members;
    }

pub begins : {key : List ℕ} {offset start : ℕ} {s t : TextSink} → t.written ≡ s.written → t.base ≡ s.base → Begun key offset start s.members t.members → Begins [] key offset start s t
begins {s = s} written base m =
    record {
      text = ap (λ w. w.text.now) written;
      base = base;
      before = ap₂ (λ n w. take n w.out.items) base written;
      written = ap bytes_of written ∙ sym (append-nil (bytes_of s.written));
      members = m;
    }

pub begins_wrote : {a b key : List ℕ} {offset start : ℕ} {r s t : TextSink} → Begins a key offset start r s → Writes b s t → Begins (a ++ b) key offset start r t
begins_wrote {a = a} {b = b} {r = r} m w =
    record {
      text = w.text ∙ m.text;
      base = w.base ∙ m.base;
      before = w.before ∙ m.before;
      written = w.written ∙ ap (λ xs. xs ++ b) m.written ∙ append_assoc (bytes_of r.written) a b;
      members = opened.begins_same m.members w.members;
    }

-- ---- steps

-- an object with no members
pub object_begun : {text : List ℕ} {r s : TextSink} {held : List Held} {cs : List Open} (key : Mark × List ℕ) (offset : ℕ) → TextHolds text r true held cs → Writes (123 ∷ []) r s → TextHolds text s false (members (length s.members.entries.items) ∷ held) (members_so_far [] key offset ∷ cs)
object_begun {r = r} {cs = cs} key offset sink w =
    goes_on sink w refl (opened.none_in (text_layout r.base) key offset cs)
    (ap length w.members.entries ∙ opened.counted sink.members, sink.fits)

-- as many members as are held behind the first one's index
pub counted : {text : List ℕ} {r : TextSink} {first : ℕ} {held : List Held} {fs : List Found} {key : Mark × List ℕ} {offset : ℕ} {cs : List Open} → TextHolds text r false (members first ∷ held) (members_so_far fs key offset ∷ cs)
    → length r.members.entries.items ≡ first + length fs
counted {r = r} {fs = fs} {cs = cs} sink =
    let layout = text_layout r.base in
    omega (
      arith,
      opened.counted sink.members,
      length-append (all_starts layout true cs) (starts_in layout cs fs),
      opened.length-starts true member_text (layout.begins cs) fs,
      sink.fits.0,
    )

-- the comma before a member
pub comma_led : {r s : TextSink} {first : ℕ} (fs : List Found) → length r.members.entries.items ≡ first + length fs → (first < length r.members.entries.items → Writes (comma_unless false) r s) → (length r.members.entries.items ≤ first → Writes (comma_unless true) r s) → Writes (comma_after fs) r s
comma_led [] count more none = none (omega arith)
comma_led (f ∷ fs) count more none = more (omega arith)

-- a key behind the members before it
pub key_holds : {text : List ℕ} {r s : TextSink} {first : ℕ} {held : List Held} {fs : List Found} {before : Mark × List ℕ} {offset : ℕ} {cs : List Open} (mark : Mark) (key : List ℕ) (after start : ℕ)
    → TextHolds text r false (members first ∷ held) (members_so_far fs before offset ∷ cs) → start ≡ length (bytes_of r.written) + length (comma_after fs) → Begins (comma_after fs ++ key_text key) key after start r s → IsUtf8 key
    → TextHolds text s true (members first ∷ held) (members_so_far fs (mark, key) after ∷ cs)
key_holds {text = text} {r = r} {s = s} {first = first} {held = held} {fs = fs} {cs = cs} mark key after start sink at m utf8 =
    let from = r.base + length (open_text true cs) + 1 in
    let based : length (base_of r) ≡ r.base = length-take-le r.base r.written.out.items r.based in
    let texts = with_commas (map member_text fs) in
    let starts : start ≡ next_start true member_text from fs =
    omega (
      arith,
      at,
      based,
      next_start-is from fs,
      ap length sink.bytes,
      length-append (base_of r) (open_text true cs ++ 123 ∷ texts),
      length-append (open_text true cs) (123 ∷ texts),
    ) in
    let begun = opened.key_begun mark key after start sink.members starts m.members utf8 in
    record {
      text_is = m.text ∙ sink.text_is;
      bytes =
          m.written ∙ ap (λ xs. xs ++ (comma_after fs ++ key_text key)) sink.bytes ∙ append_assoc (base_of r) (open_text true cs ++ 123 ∷ texts) (comma_after fs ++ key_text key)
          ∙ ap₂ (λ b n. b ++ n) (sym m.before) (led (members_so_far fs (mark, key) after) cs);
      members = subst (λ b. AreOf (text_layout b) text s.members true (members_so_far fs (mark, key) after ∷ cs)) (sym m.base) begun;
      fits = subst (λ b. HeldFits b true (members first ∷ held) (members_so_far fs (mark, key) after ∷ cs)) (sym m.base) sink.fits;
    }

regroup : (a w c k s : List ℕ) (x : ℕ) → (a ++ ((x ∷ w) ++ (c ++ k))) ++ s ≡ (a ++ ((x ∷ w) ++ c)) ++ (k ++ s)
regroup a w c k s x = simp append_assoc

member_joined : (fs : List Found) (key : List ℕ) (s : Source) (f : Found) (before : List ℕ) → member_text f ≡ key_text key ++ source_text s
    → (before ++ ((123 ∷ with_commas (map member_text fs)) ++ (comma_after fs ++ key_text key))) ++ source_text s ≡ before ++ 123 ∷ with_commas (map member_text (fs ++ f ∷ []))
member_joined fs key s f before is =
    let w = with_commas (map member_text fs) in
    regroup before w (comma_after fs) (key_text key) (source_text s) 123 ∙ ap (λ xs. (before ++ (123 ∷ w ++ comma_after fs)) ++ xs) (sym is) ∙ part_joined member_text 123 fs f before

-- a value behind its key
pub value_holds : {text bytes written : List ℕ} {r t : TextSink} {first : ℕ} {held : List Held} {fs : List Found} {key : Mark × List ℕ} {offset : ℕ} {cs : List Open} (s : Source) (next : Mark × List ℕ) (other : ℕ)
    → IsSinkWith text r written true (members first ∷ held) (members_so_far fs key offset ∷ cs) → Writes bytes r t → written ++ bytes ≡ open_text true (members_so_far fs key offset ∷ cs) ++ source_text s
    → TextHolds text t false (members first ∷ held) (members_so_far (fs ++ found_member key s offset ∷ []) next other ∷ cs)
value_holds {r = r} {fs = fs} {key = key} {offset = offset} {cs = cs} s next other sink w is =
    goes_on sink w (is ∙ member_joined fs key.1 s (found_member key s offset) (open_text true cs) refl)
    (opened.filled_in (text_layout r.base) fs key next s offset other cs)
    sink.fits

-- ---- keys in the text

-- a key between double quotes, without escapes, is written as it is
pub quoted_verbatim : {text : List ℕ} {s t : TextSink} (key : List ℕ) (from after : ℕ) → s.written.text.now ≡ text → slice_range text (from - 1) after ≡ in_quotes key → ArePlain key → Writes (slice_range s.written.text.now (from - 1) after) s t → Writes (quoted_text key) s t
quoted_verbatim {s = s} {t = t} key from after is there plain w = subst (λ bytes. Writes bytes s t) (ap (λ u. slice_range u (from - 1) after) is ∙ there ∙ ap in_quotes (sym plain)) w
