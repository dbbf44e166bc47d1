-- The members of open objects: after a key began, and where an object ends.
use Rattle.std.proofs.Common.{◌≡◌, ℕ, ◌+◌, ◌≤◌, Bool, true, false, List, [], ◌∷◌, ◌++◌, map, length, take, drop, Option, Some, None, refl, sym, ap, ap₂, subst, ◌∙◌, append_assoc, append-nil, length-append, arith, ◌-◌, ◌<◌, drop-drop, length-drop, slice_range}
use Rattle.std.proofs.Math.Seq.{take-append_seam}
use Rattle.std.proofs.lemmas.List.{length-take-le, take-append-drop}
use Rattle.std.specs.Str.{IsUtf8}
use Rattle.jsonb_spec.specs.Text.{in_quotes}
use Rattle.jsonb_spec.specs.Tree.{Mark}
use Rattle.jsonb_spec.specs.Source.Open.{Open, members_so_far}
use Rattle.jsonb_spec.specs.Source.{Found, Source, Spot, first_repeat, found_member, spot_of}
use Rattle.text_members.specs.MemberStarts.{AreEntries, MemberStart, IsVerbatim}
use Rattle.text_members.specs.Members.{AreInOrder, AreKeyed, AreWritten, Piece, SpotsAscend, HoldFrom, ReportsRepeat, bytes_of_pieces, pieces_of, spot_at, spot_in, spots_of_pieces}
use Rattle.jsonb_spec.specs.SortKey.Joined.{between, join_pieces}
use Rattle.text_members.specs.OpenMembers.{AreOf, AreSame, Begins, Closes, EndIn, FindsRepeat, KeysAscendFrom, Layout, PutsInOrder, ReportsRepeatOf, all_starts, next_in, next_start, repeat_among, spot_at_repeat, starts_from, starts_in}
use Rattle.text_members.specs.declared.members.Member.{Member}
use Rattle.text_members.specs.declared.open_members.OpenMembers.{OpenMembers}
use Rattle.text_members.proofs.MemberStarts.{verbatim_all, verbatim_apart, verbatim_count, entry_keys, entry_spots, one_more, utf8_at}
use Rattle.text_members.proofs.Objects.Closing.{bytes_in_order, piece_bytes, piece_spots}

-- ---- steps

pub same : (ms : OpenMembers) → AreSame ms ms
same ms = record { text = refl; entries = refl; decoded = refl }

pub same_begins : {key : List ℕ} {offset start : ℕ} {r s t : OpenMembers} → AreSame r s → Begins key offset start s t → Begins key offset start r t
same_begins {key = key} {offset = offset} {start = start} {t = t} a m = record {
  member = m.member;
  keys = m.keys;
  has = record {
    text = m.has.text ∙ a.text;
    entries = m.has.entries ∙ ap (λ (ms : List Member). ms ++ m.member ∷ []) a.entries;
    decoded = m.has.decoded ∙ ap (λ ks. ks ++ m.keys) a.decoded;
  };
  retained = subst (λ text. IsVerbatim text t.decoded.items m.member (record { spot = record { key = key; offset = offset }; start = start })) a.text m.retained;
}

pub begins_same : {key : List ℕ} {offset start : ℕ} {r s t : OpenMembers} → Begins key offset start r s → AreSame s t → Begins key offset start r t
begins_same {key = key} {offset = offset} {start = start} {r = r} m a = record {
  member = m.member;
  keys = m.keys;
  has = record { text = a.text ∙ m.has.text; entries = a.entries ∙ m.has.entries; decoded = a.decoded ∙ m.has.decoded };
  retained = subst (λ ks. IsVerbatim r.text.now ks m.member (record { spot = record { key = key; offset = offset }; start = start })) (sym a.decoded) m.retained;
}

-- ---- where members begin

pub starts_more : (commas : Bool) (bytes : Found → List ℕ) (start : ℕ) (fs : List Found) (f : Found) → starts_from commas bytes start fs ++ record { spot = spot_of f; start = next_start commas bytes start fs } ∷ [] ≡ starts_from commas bytes start (fs ++ f ∷ [])
starts_more commas bytes start [] f = refl
starts_more commas bytes start (g ∷ fs) f =
    ap (λ bs. record { spot = spot_of g; start = start } ∷ bs) (starts_more commas bytes (start + length (bytes g) + length (between commas)) fs f)

pub length-starts : (commas : Bool) (bytes : Found → List ℕ) (start : ℕ) (fs : List Found) → length (starts_from commas bytes start fs) ≡ length fs
length-starts commas bytes start [] = refl
length-starts commas bytes start (f ∷ fs) = omega (arith, length-starts commas bytes (start + length (bytes f) + length (between commas)) fs)

start_spots : (commas : Bool) (bytes : Found → List ℕ) (start : ℕ) (fs : List Found) → map (λ (b : MemberStart). b.spot) (starts_from commas bytes start fs) ≡ map spot_of fs
start_spots commas bytes start [] = refl
start_spots commas bytes start (f ∷ fs) = ap (λ spots. spot_of f ∷ spots) (start_spots commas bytes (start + length (bytes f) + length (between commas)) fs)

hold_from : (text decoded : List ℕ) (commas : Bool) (bytes : Found → List ℕ) (ms : List Member) (fs : List Found) (start : ℕ) → AreEntries text decoded ms (starts_from commas bytes start fs) → HoldFrom commas start ms (map bytes fs)
hold_from text decoded commas bytes [] [] start k = tt
hold_from text decoded commas bytes (m ∷ ms) (f ∷ fs) start k =
    (k.0.starts, hold_from text decoded commas bytes ms fs (start + length (bytes f) + length (between commas)) k.1.1)
hold_from text decoded commas bytes [] (f ∷ fs) start k = absurd k
hold_from text decoded commas bytes (m ∷ ms) [] start k = absurd k

-- ---- what is open

pub counted : {layout : Layout} {text : List ℕ} {r : OpenMembers} {due : Bool} {cs : List Open} → AreOf layout text r due cs → length r.entries.items ≡ length (all_starts layout due cs)
counted {layout = layout} {text = text} {r = r} {due = due} {cs = cs} of = verbatim_count text r.decoded.items r.entries.items (all_starts layout due cs) of.retained

-- the same members, in containers that have the same
pub stay : {layout : Layout} {text : List ℕ} {r s : OpenMembers} {due then : Bool} {cs ds : List Open} → AreOf layout text r due cs → AreSame r s → all_starts layout due cs ≡ all_starts layout then ds → AreOf layout text s then ds
stay {layout = layout} {text = text} {r = r} {s = s} {then = then} {ds = ds} of a starts = record {
  text_is = a.text ∙ of.text_is;
  retained =
      subst (λ d. AreEntries text d s.entries.items (all_starts layout then ds)) (sym a.decoded) (
      subst (λ (ms : List Member). AreEntries text r.decoded.items ms (all_starts layout then ds)) (sym a.entries) (
      subst (λ bs. AreEntries text r.decoded.items r.entries.items bs) starts of.retained
      )
      );
}

-- an object with no members has those around it
pub none_in : (layout : Layout) (key : Mark × List ℕ) (offset : ℕ) (cs : List Open) → all_starts layout true cs ≡ all_starts layout false (members_so_far [] key offset ∷ cs)
none_in layout key offset cs = sym (append-nil (all_starts layout true cs))

-- a member whose value ended has begun with its key
pub filled_in : (layout : Layout) (fs : List Found) (key next : Mark × List ℕ) (s : Source) (offset other : ℕ) (cs : List Open) → all_starts layout true (members_so_far fs key offset ∷ cs) ≡ all_starts layout false (members_so_far (fs ++ found_member key s offset ∷ []) next other ∷ cs)
filled_in layout fs key next s offset other cs = ap (λ bs. all_starts layout true cs ++ bs) (starts_more layout.commas layout.bytes (layout.begins cs) fs (found_member key s offset))

-- a key behind the members before it
pub key_begun : {layout : Layout} {text : List ℕ} {r s : OpenMembers} {fs : List Found} {before : Mark × List ℕ} {offset : ℕ} {cs : List Open} (mark : Mark) (key : List ℕ) (after start : ℕ) → AreOf layout text r false (members_so_far fs before offset ∷ cs) → start ≡ next_in layout cs fs
    → Begins key after start r s → IsUtf8 key → AreOf layout text s true (members_so_far fs (mark, key) after ∷ cs)
key_begun {layout = layout} {text = text} {r = r} {s = s} {fs = fs} {cs = cs} mark key after start of at m utf8 =
    let outer = all_starts layout true cs in
    let own = starts_in layout cs fs in
    let here : MemberStart = record { spot = record { key = key; offset = after }; start = next_in layout cs fs } in
    let more : AreEntries text s.decoded.items r.entries.items (outer ++ own) = subst (λ ks. AreEntries text ks r.entries.items (outer ++ own)) (sym m.has.decoded) (verbatim_all text r.decoded.items m.keys r.entries.items (outer ++ own) of.retained) in
    let last : IsVerbatim text s.decoded.items m.member here =
    subst (λ t. IsVerbatim t s.decoded.items m.member here) of.text_is (subst (λ n. IsVerbatim r.text.now s.decoded.items m.member (record { spot = record { key = key; offset = after }; start = n })) at m.retained) in
    let all : AreEntries text s.decoded.items (r.entries.items ++ m.member ∷ []) ((outer ++ own) ++ here ∷ []) = one_more text s.decoded.items r.entries.items (outer ++ own) m.member here more last utf8 in
    record {
      text_is = m.has.text ∙ of.text_is;
      retained =
          subst (λ (ms : List Member). AreEntries text s.decoded.items ms (outer ++ (own ++ here ∷ []))) (sym m.has.entries) (
          subst (λ bs. AreEntries text s.decoded.items (r.entries.items ++ m.member ∷ []) bs) (append_assoc outer own (here ∷ [])) all
          );
    }

-- ---- keys in the text

-- a key between double quotes
pub key_there : (text key : List ℕ) (from to : ℕ) → 0 < from → from < to → to ≤ length text → slice_range text (from - 1) to ≡ in_quotes key → slice_range text from (to - 1) ≡ key
key_there text key from to some before inside encoded =
    let here = drop (from - 1) text in
    let n = to - (from - 1) in
    let sink : n ≤ length here = omega (arith, length-drop (from - 1) text) in
    let long : n ≡ length key + 2 = omega (arith, length-take-le n here sink, ap length encoded, length-append key (34 ∷ [])) in
    let rest = drop n here in
    let split : here ≡ in_quotes key ++ rest = sym (take-append-drop n here) ∙ ap (λ xs. xs ++ rest) encoded in
    let next : from - 1 + 1 ≡ from = omega arith in
    let behind : drop from text ≡ key ++ (34 ∷ rest) =
    ap (λ m. drop m text) (sym next) ∙ sym (drop-drop 1 (from - 1) text) ∙ ap (drop 1) split ∙ append_assoc key (34 ∷ []) rest in
    let count : to - 1 - from ≡ length key = omega arith in
    ap₂ take count behind ∙ take-append_seam key (34 ∷ rest)

-- a member begun by it
pub begun_there : {text : List ℕ} {r s : OpenMembers} (key : List ℕ) (from after start : ℕ) → r.text.now ≡ text → 0 < from → from < after → after ≤ length text → slice_range text (from - 1) after ≡ in_quotes key
    → (from ≤ after - 1 → after - 1 ≤ length r.text.now → Begins (slice_range r.text.now from (after - 1)) after start r s) → Begins key after start r s
begun_there {text = text} {r = r} {s = s} key from after start is some before inside encoded begins =
    let here : slice_range r.text.now from (after - 1) ≡ key = ap (λ t. slice_range t from (after - 1)) is ∙ key_there text key from after some before inside encoded in
    subst (λ bytes. Begins bytes after start r s) here (begins (omega arith) (subst (λ t. after - 1 ≤ length t) (sym is) (omega (arith, inside))))

-- ---- the end of an object

pub ends_in : {layout : Layout} {text : List ℕ} {r : OpenMembers} {first : ℕ} {fs : List Found} {key : Mark × List ℕ} {offset : ℕ} {cs : List Open} → AreOf layout text r false (members_so_far fs key offset ∷ cs) → first ≡ length (all_starts layout true cs)
    → EndIn layout.commas layout.bytes r first (layout.begins cs) fs
ends_in {layout = layout} {text = text} {r = r} {first = first} {fs = fs} {cs = cs} of at =
    let apart = verbatim_apart text r.decoded.items r.entries.items (all_starts layout true cs) (starts_in layout cs fs) of.retained in
    subst (λ t. AreEntries t r.decoded.items (drop first r.entries.items) (starts_in layout cs fs)) (sym of.text_is) (subst (λ n. AreEntries text r.decoded.items (drop n r.entries.items) (starts_in layout cs fs)) (sym at) apart.1)

pub closed : {layout : Layout} {text : List ℕ} {r s t : OpenMembers} {first : ℕ} {fs : List Found} {key : Mark × List ℕ} {offset : ℕ} {cs : List Open} → AreOf layout text r false (members_so_far fs key offset ∷ cs) → first ≡ length (all_starts layout true cs) → AreSame r s → Closes first s t
    → AreOf layout text t true cs
closed {layout = layout} {text = text} {r = r} {t = t} {first = first} {fs = fs} {cs = cs} of at a closes =
    let apart = verbatim_apart text r.decoded.items r.entries.items (all_starts layout true cs) (starts_in layout cs fs) of.retained in
    let outer : AreEntries text r.decoded.items (take first r.entries.items) (all_starts layout true cs) = subst (λ n. AreEntries text r.decoded.items (take n r.entries.items) (all_starts layout true cs)) (sym at) apart.0 in
    record {
      text_is = closes.text ∙ a.text ∙ of.text_is;
      retained =
          subst (λ d. AreEntries text d t.entries.items (all_starts layout true cs)) (sym (closes.decoded ∙ a.decoded)) (
          subst (λ (ms : List Member). AreEntries text r.decoded.items ms (all_starts layout true cs)) (sym (closes.entries ∙ ap (take first) a.entries)) outer
          );
    }

pub ascending : (commas : Bool) (bytes : Found → List ℕ) (r : OpenMembers) (first start : ℕ) (fs : List Found) → EndIn commas bytes r first start fs → KeysAscendFrom r first → SpotsAscend (map spot_of fs)
ascending commas bytes r first start fs own up =
    let ms = drop first r.entries.items in
    let starts = starts_from commas bytes start fs in
    subst SpotsAscend (entry_spots r.text.now r.decoded.items ms starts own ∙ start_spots commas bytes start fs) (up (entry_keys r.text.now r.decoded.items ms starts own))

-- What is known of an object's members.
record ObjectVerbatim (commas : Bool) (bytes : Found → List ℕ) (text decoded : List ℕ) (ms : List Member) (start : ℕ) (fs : List Found) : Type 0 where
  keyed : AreKeyed text decoded ms
  spots : map (spot_in text decoded) ms ≡ map spot_of fs
  hold : HoldFrom commas start ms (map bytes fs)
  utf8 : (i : ℕ) → IsUtf8 (spot_at text decoded ms i).key

object_verbatim : (commas : Bool) (bytes : Found → List ℕ) (r : OpenMembers) (first start : ℕ) (fs : List Found) (decoded : List ℕ) (ms : List Member) → decoded ≡ r.decoded.items → ms ≡ drop first r.entries.items → EndIn commas bytes r first start fs → ObjectVerbatim commas bytes r.text.now decoded ms start fs
object_verbatim commas bytes r first start fs decoded ms p q own =
    let starts = starts_from commas bytes start fs in
    let here : AreEntries r.text.now decoded ms starts =
    subst (λ (l : List Member). AreEntries r.text.now decoded l starts) (sym q) (subst (λ d. AreEntries r.text.now d (drop first r.entries.items) starts) (sym p) own) in
    record {
      keyed = entry_keys r.text.now decoded ms starts here;
      spots = entry_spots r.text.now decoded ms starts here ∙ start_spots commas bytes start fs;
      hold = hold_from r.text.now decoded commas bytes ms fs start here;
      utf8 = λ i. utf8_at r.text.now decoded ms starts i here;
    }

reported : {commas : Bool} {bytes : Found → List ℕ} {start : ℕ} {fs : List Found} {decoded : List ℕ} {ms : List Member} (r s : OpenMembers) (first i : ℕ) → ObjectVerbatim commas bytes r.text.now decoded ms start fs → decoded ≡ r.decoded.items → ms ≡ drop first r.entries.items → AreSame r s
    → ReportsRepeat r.text.now decoded ms (Some i) → ReportsRepeatOf s fs (record { first = first; index = i })
reported {decoded = decoded} {ms = ms} r s first i k p q a repeat =
    let same : spot_at r.text.now decoded ms i ≡ spot_at_repeat s (record { first = first; index = i }) = λ j. spot_at (sym a.text j) ((p ∙ sym a.decoded) j) ((q ∙ ap (drop first) (sym a.entries)) j) i in
    record {
      repeat = ap first_repeat (sym k.spots) ∙ repeat ∙ ap Some same;
      utf8 = subst (λ (t : Spot). IsUtf8 t.key) same (k.utf8 i);
    }

-- by what was searched
pub found : (r s : OpenMembers) (first : ℕ) (decoded : List ℕ) (ms : List Member) (index : Option ℕ) → decoded ≡ r.decoded.items → ms ≡ drop first r.entries.items → AreSame r s → (AreKeyed r.text.now decoded ms → ReportsRepeat r.text.now decoded ms index)
    → (commas : Bool) → (bytes : Found → List ℕ) → (start : ℕ) → (fs : List Found) → EndIn commas bytes r first start fs → FindsRepeat s fs (repeat_among first index)
found r s first decoded ms None p q a repeat = λ commas bytes start fs own. let k = object_verbatim commas bytes r first start fs decoded ms p q own in ap first_repeat (sym k.spots) ∙ repeat k.keyed
found r s first decoded ms (Some i) p q a repeat = λ commas bytes start fs own. let k = object_verbatim commas bytes r first start fs decoded ms p q own in reported r s first i k p q a (repeat k.keyed)

-- members put in order
pub put : (commas : Bool) (floor : ℕ) (r s : OpenMembers) (first : ℕ) (old new : List ℕ) (decoded : List ℕ) (ms : List Member) (index : Option ℕ) → decoded ≡ r.decoded.items → ms ≡ drop first r.entries.items → AreSame r s
    → (AreKeyed r.text.now decoded ms → ReportsRepeat r.text.now decoded ms index)
    → (AreKeyed r.text.now decoded ms → (front : List ℕ) → (pieces : List Piece) → floor ≤ length front → spots_of_pieces pieces ≡ map (spot_in r.text.now decoded) ms → AreWritten commas ms front (bytes_of_pieces pieces) old → AreInOrder commas front pieces index new)
    → PutsInOrder commas floor r s first old new (repeat_among first index)
put commas floor r s first old new decoded ms None p q a repeat order = λ bytes front fs enough own whole.
    let k = object_verbatim commas bytes r first (length front) fs decoded ms p q own in
    let written : AreWritten commas ms front (bytes_of_pieces (pieces_of bytes fs)) old = subst (λ texts. AreWritten commas ms front texts old) (sym (piece_bytes bytes fs)) (record { whole = whole; starts = k.hold }) in
    record {
      written = order k.keyed front (pieces_of bytes fs) enough (piece_spots bytes fs ∙ sym k.spots) written ∙ ap (λ texts. front ++ join_pieces commas texts) (bytes_in_order bytes fs);
      new_keys = ap first_repeat (sym k.spots) ∙ repeat k.keyed;
    }
put commas floor r s first old new decoded ms (Some i) p q a repeat order = λ bytes front fs enough own whole.
    let k = object_verbatim commas bytes r first (length front) fs decoded ms p q own in reported r s first i k p q a (repeat k.keyed)
