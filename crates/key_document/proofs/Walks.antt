-- Where a walk over a document is, and what it meets there.
use Rattle.std.proofs.Common.{◌≡◌, ◌≢◌, ℕ, zero, suc, ◌+◌, ◌-◌, ◌<◌, ◌≤◌, ◌⊎◌, inl, inr, Bool, true, false, List, [], ◌∷◌, ◌++◌, if◌then◌else◌, true≢false, is_some, Bor, Option, Some, None, Ok, Err, length, drop, get_or, set, replicate, refl, sym, ap, ap₂, subst, ◌∙◌, arith, append_assoc, append-nil, length-append}
use Rattle.std.proofs.lemmas.List.{drop-drop, drop_at, get_or-set_other, get_or-set_same, length-replicate}
use Rattle.jsonb_spec.specs.SortKey.{items_key, key_of, members_key, text_key}
use Rattle.jsonb_spec.specs.Order.{bytes_cmp}
use Rattle.std.specs.Ordering.{is_gt}
use Rattle.key_walk.specs.Found.{Finds}
use Rattle.key_walk.specs.Passing.{members_from}
use Rattle.jsonb_spec.specs.Tree.{Tree, Members, null, boolean, string, number, array, object, binary, date, timestamp, timestamp_tz, interval, no_trees, more_trees, no_members, more_members}
use Rattle.jsonb_core.proofs.SortKeys.Kinds.{is_small, number_begins}
use Rattle.key_document.specs.Cursor.{IsLeftBehind}
use Rattle.jsonb_spec.specs.Document.Walk.{AreMarked, IsPlace, events_left, events_open, kind_mark, scalar_size, value_zeros}
use Rattle.key_document.specs.Walk.{IsWalkAt, IsNameMet, IsValueMet, MeetsFirst, MeetsNext, MovesToMember}
use Rattle.key_document.specs.declared.error.DocumentError.{DocumentError}
use Rattle.key_document.specs.declared.walk.Met.{Met}
use Rattle.key_document.specs.declared.walk.Walk.{Walk}
use Rattle.key_document.proofs.OpenCounts.{opened_bytes, over_bytes, part_bytes}
use Rattle.key_text.proofs.Counts.{one_each, opens_each}
use Rattle.jsonb_spec.specs.Document.Counts.{counts_at, counts_at_members, counts_open, opens_counts}
use Rattle.jsonb_spec.specs.SortKey.Readable.{IsAnyNumber, IsReadable, IsReadableAt}
use Rattle.key_value.proofs.Texts.{none_some}
use Rattle.jsonb_path.proofs.PartsReadBack.{deeper}
use Rattle.jsonb_spec.specs.SortKey.Events.{Event, begins, ends, events_of, events_of_items, events_of_members}
use Rattle.jsonb_spec.specs.SortKey.Found.{IsRange}
use Rattle.jsonb_spec.specs.SortKey.Steps.{BeginsWithEnd, IsOver, IsPart, opens_key, AreOpen}
use Rattle.jsonb_spec.specs.SortKey.Open.{Open, items, members, end_key, is_object, name_key, open_key, opening_byte, IsOpen, IsScalar}
use Rattle.key_walk.specs.Parts.{kind_of_tree}
use Rattle.jsonb_spec.specs.SortKey.Parts.{opened_tree}
use Rattle.key_walk.proofs.Occurrence.{regroup}

-- ---- marks

pub none_marked : (marks : List ℕ) (depth top : ℕ) → top + 1 ≡ depth → AreMarked [] marks depth → ⊥
none_marked marks zero top below m = omega (arith, below)
none_marked marks (suc d) top below m = m

pub none_open : (o : Open) (under : List Open) (marks : List ℕ) (depth : ℕ) → depth ≡ 0 → AreMarked (o ∷ under) marks depth → ⊥
none_open o under marks zero none m = m
none_open o under marks (suc d) none m = omega (arith, none)

pub top_marked : (o : Open) (under : List Open) (marks : List ℕ) (depth top : ℕ) → top + 1 ≡ depth → AreMarked (o ∷ under) marks depth → (get_or marks top 0 ≡ kind_mark (is_object o)) × AreMarked under marks top
top_marked o under marks zero top at m = absurd (omega (arith, at))
top_marked o under marks (suc d) top at m =
    let same : top ≡ d = omega (arith, at) in
    (ap (λ i. get_or marks i 0) same ∙ m.0, subst (λ i. AreMarked under marks i) (sym same) m.1)

marks_kept : (os : List Open) (marks : List ℕ) (e b d : ℕ) → d ≤ e → AreMarked os marks d → AreMarked os (set marks e b) d
marks_kept [] marks e b zero l m = tt
marks_kept [] marks e b (suc d) l m = absurd m
marks_kept (o ∷ os) marks e b zero l m = absurd m
marks_kept (o ∷ os) marks e b (suc d) l m =
    let other : d ≢ e = omega (arith, l) in
    (get_or-set_other marks e d b 0 other ∙ m.0, marks_kept os marks e b d (omega (arith, l)) m.1)

others_marked : (o others : Open) (under : List Open) (marks : List ℕ) (depth : ℕ) → is_object others ≡ is_object o → AreMarked (o ∷ under) marks depth → AreMarked (others ∷ under) marks depth
others_marked o others under marks zero same m = absurd m
others_marked o others under marks (suc d) same m = (m.0 ∙ ap kind_mark (sym same), m.1)

same_kind : (o : Open) (name : List ℕ) (value : Tree) (others : Open) → IsPart o name value others → is_object others ≡ is_object o
same_kind (items no_trees) name value others p = absurd p
same_kind (items (more_trees t ts)) name value others p = ap is_object p.2
same_kind (members no_members) name value others p = absurd p
same_kind (members (more_members k t ms)) name value others p = ap is_object p.2

-- ---- places

counts_behind : (counts first rest : List ℕ) (offset size : ℕ) → drop offset counts ≡ first ++ rest → length first ≡ size → drop (offset + size) counts ≡ rest
counts_behind counts first rest offset size e long = sym (drop-drop size offset counts) ∙ ap (drop size) e ∙ drop_at first rest size long

moved : (t : Tree) (opens others : List Open) (offset size : ℕ) (passed counts : List ℕ) → IsPlace t opens offset → opens_key opens ≡ passed ++ opens_key others → opens_counts opens ≡ counts ++ opens_counts others → length passed ≡ size → length counts ≡ size → IsPlace t others (offset + size)
moved t opens others offset size passed counts p key_is counts_are long many = record {
  before = p.before ++ passed;
  occurs = p.occurs ∙ ap (λ k. p.before ++ k) key_is ∙ sym (append_assoc p.before passed (opens_key others));
  offset_is = omega (arith, p.offset_is, long, length-append p.before passed);
  counts = counts_behind (counts_at t) counts (opens_counts others) offset size (p.counts ∙ counts_are) many;
}

-- the bytes behind those that are passed are of what is open
pub bytes_there : (t : Tree) (opens : List Open) (offset : ℕ) (key bytes : List ℕ) → IsPlace t opens offset → key ≡ key_of t → bytes ≡ drop offset key → bytes ≡ opens_key opens
bytes_there t opens offset key bytes p is e = e ∙ ap (drop offset) (is ∙ p.occurs) ∙ drop_at p.before (opens_key opens) offset (sym p.offset_is)

-- and of what follows the key
pub bytes_left : (t : Tree) (opens : List Open) (offset : ℕ) (behind document bytes : List ℕ) → IsPlace t opens offset → document ≡ key_of t ++ behind → bytes ≡ drop offset document → bytes ≡ opens_key opens ++ behind
bytes_left t opens offset behind document bytes p is e =
    e ∙ ap (drop offset) (is ∙ ap (λ k. k ++ behind) p.occurs ∙ append_assoc p.before (opens_key opens) behind) ∙ drop_at p.before (opens_key opens ++ behind) offset (sym p.offset_is)

pub within_key : (t : Tree) (opens : List Open) (offset : ℕ) → IsPlace t opens offset → offset ≤ length (key_of t)
within_key t opens offset p = omega (arith, p.offset_is, ap length p.occurs, length-append p.before (opens_key opens))

pub within_document : (t : Tree) (opens : List Open) (offset : ℕ) (behind document : List ℕ) → IsPlace t opens offset → document ≡ key_of t ++ behind → offset ≤ length document
within_document t opens offset behind document p is = omega (arith, within_key t opens offset p, ap length is, length-append (key_of t) behind)

-- ---- keys of what is open

pub over_key : (o : Open) (under : List Open) → IsOver o → opens_key (o ∷ under) ≡ end_key (is_object o) ++ opens_key under
over_key (items no_trees) under h = refl
over_key (items (more_trees t ts)) under h = absurd h
over_key (members no_members) under h = refl
over_key (members (more_members k t ms)) under h = absurd h

pub part_key : (o : Open) (name : List ℕ) (value : Tree) (others : Open) (under : List Open) → IsPart o name value others → name_key (is_object o) name ++ (key_of value ++ opens_key (others ∷ under)) ≡ opens_key (o ∷ under)
part_key (items no_trees) name value others under p = absurd p
part_key (items (more_trees t ts)) name value others under p =
    ap₂ (λ v x. key_of v ++ (open_key x ++ opens_key under)) p.1 p.2 ∙ sym (append_assoc (key_of t) (items_key ts) (opens_key under))
part_key (members no_members) name value others under p = absurd p
part_key (members (more_members k t ms)) name value others under p =
    ap₂ (λ v x. text_key name ++ (key_of v ++ (open_key x ++ opens_key under))) p.1 p.2
    ∙ ap (λ n. text_key n ++ (key_of t ++ (members_key ms ++ opens_key under))) p.0
    ∙ sym (regroup (text_key k) (key_of t) (members_key ms) (opens_key under))

-- ---- events

over_event : (o : Open) (under : List Open) → IsOver o → events_left (o ∷ under) ≡ ends ∷ events_left under
over_event (items no_trees) under h = refl
over_event (items (more_trees t ts)) under h = absurd h
over_event (members no_members) under h = refl
over_event (members (more_members k t ms)) under h = absurd h

-- the name of a member, and none of an item
abbrev pub name_of : Bool → List ℕ → Option (List ℕ)
name_of true name = Some name
name_of false name = None

part_events : (o : Open) (name : List ℕ) (value : Tree) (others : Open) (under : List Open) → IsPart o name value others → events_left (o ∷ under) ≡ events_of (name_of (is_object o) name) value ++ events_left (others ∷ under)
part_events (items no_trees) name value others under p = absurd p
part_events (items (more_trees t ts)) name value others under p =
    append_assoc (events_of None t) (events_of_items ts) (events_left under)
    ∙ ap (λ v. events_of None v ++ (events_of_items ts ++ events_left under)) (sym p.1) ∙ ap (λ x. events_of None value ++ events_left (x ∷ under)) (sym p.2)
part_events (members no_members) name value others under p = absurd p
part_events (members (more_members k t ms)) name value others under p =
    append_assoc (events_of (Some k) t) (events_of_members ms) (events_left under)
    ∙ ap (λ n. events_of (Some n) t ++ (events_of_members ms ++ events_left under)) (sym p.0)
    ∙ ap (λ v. events_of (Some name) v ++ (events_of_members ms ++ events_left under)) (sym p.1)
    ∙ ap (λ x. events_of (Some name) value ++ events_left (x ∷ under)) (sym p.2)

scalar_event : (name : Option (List ℕ)) (t : Tree) → IsScalar t → (events_of name t ≡ begins name t ∷ []) × (scalar_size t ≡ length (key_of t))
scalar_event name (array ts) s = absurd s
scalar_event name (object ms) s = absurd s
scalar_event name null s = (refl, refl)
scalar_event name (boolean b) s = (refl, refl)
scalar_event name (string mark text) s = (refl, refl)
scalar_event name (number n) s = (refl, refl)
scalar_event name (binary bytes) s = (refl, refl)
scalar_event name (date days) s = (refl, refl)
scalar_event name (timestamp micros) s = (refl, refl)
scalar_event name (timestamp_tz offset micros) s = (refl, refl)
scalar_event name (interval months days micros) s = (refl, refl)

opened_event : (name : Option (List ℕ)) (o : Open) → (events_of name (opened_tree o) ≡ begins name (opened_tree o) ∷ events_open o) × (scalar_size (opened_tree o) ≡ 0) × (value_zeros (opened_tree o) ≡ 0)
opened_event name (items ts) = (refl, refl, refl)
opened_event name (members ms) = (refl, refl, refl)

pub opened_key : (o : Open) → key_of (opened_tree o) ≡ opening_byte (is_object o) ∷ open_key o
opened_key (items ts) = refl
opened_key (members ms) = refl

-- ---- the whole value

some_byte : (depth : ℕ) (t : Tree) → IsReadableAt depth t → 1 ≤ length (key_of t)
some_byte depth null r = omega arith
some_byte depth (boolean true) r = omega arith
some_byte depth (boolean false) r = omega arith
some_byte depth (string mark text) r = omega arith
some_byte depth (number n) r = let b = number_begins n (is_small n r.proper) in omega (arith, ap length b.is)
some_byte depth (array ts) r = omega arith
some_byte depth (object ms) r = omega arith
some_byte depth t r = absurd r.within

-- an array or an object, or neither
pub opened_or_scalar : (t : Tree) → IsReadable t → ((o : Open) × (t ≡ opened_tree o) × IsOpen o 511) ⊎ IsScalar t
opened_or_scalar (array ts) r = inl (items ts, refl, (r.proper, r.within))
opened_or_scalar (object ms) r = inl (members ms, refl, (r.proper.1, r.within))
opened_or_scalar null r = inr tt
opened_or_scalar (boolean b) r = inr tt
opened_or_scalar (string mark text) r = inr tt
opened_or_scalar (number n) r = inr tt
opened_or_scalar t r = absurd r.within

whole_range : (t : Tree) → IsRange (key_of t) 0 (length (key_of t)) (key_of t)
whole_range t = record { before = []; behind = []; occurs = sym (append-nil (key_of t)); offset_is = refl; size_is = refl }

pub begun_open : (o : Open) → IsOpen o 511 → (met : Met) → met.kind ≡ kind_of_tree (opened_tree o) → met.name_size ≡ 0 → met.offset ≡ 0 → met.size ≡ 0 → met.zeros ≡ 0
    → (new : Walk) → new.offset ≡ 1 → new.depth ≡ 1 → get_or new.objects 0 0 ≡ kind_mark (is_object o) → IsLeftBehind (opened_tree o) new.left → new.left.passed ≡ 0 → MeetsFirst (opened_tree o) (events_of None (opened_tree o)) (Ok met) new
begun_open o fits met kind unnamed at size zeros new offset_is depth_is mark left passed =
    let t = opened_tree o in
    let event = opened_event None o in
    let byte = opening_byte (is_object o) in
    let place : IsPlace t (o ∷ []) 1 = record {
      before = byte ∷ [];
      occurs = opened_key o ∙ ap (λ k. byte ∷ k) (sym (append-nil (open_key o)));
      offset_is = refl;
      counts = ap (drop 1) (opened_bytes o) ∙ sym (append-nil (counts_open o));
    } in
    subst (λ events. MeetsFirst t events (Ok met) new) (sym event.0) (
      record { kind_is = kind; named = unnamed; occurs = subst (λ i. IsRange (key_of t) i (length (key_of t)) (key_of t)) (sym at) (whole_range t); size_is = size ∙ sym event.1; zeros_are = zeros ∙ sym event.2 },
      record {
        opens = o ∷ [];
        at = record {
          levels = 511;
          deep = omega (arith, depth_is);
          are_open = (fits, tt);
          marked = subst (λ d. AreMarked (o ∷ []) new.objects d) (sym depth_is) (mark, tt);
          place = subst (IsPlace t (o ∷ [])) (sym offset_is) place;
          zeros = left;
          passed = omega (arith, passed);
        };
        left = append-nil (events_open o);
      },
    )

pub begun_opened : (t : Tree) (o : Open) → t ≡ opened_tree o → IsOpen o 511 → (met : Met) → met.kind ≡ kind_of_tree t → met.name_size ≡ 0 → met.offset ≡ 0 → met.size ≡ 0 → met.zeros ≡ 0
    → (new : Walk) → new.offset ≡ 1 → new.depth ≡ 1 → get_or new.objects 0 0 ≡ kind_mark (is_object o) → IsLeftBehind t new.left → new.left.passed ≡ 0 → MeetsFirst t (events_of None t) (Ok met) new
begun_opened t o same fits met kind unnamed at size zeros new offset_is depth_is mark left passed =
    subst (λ u. MeetsFirst u (events_of None u) (Ok met) new) (sym same)
    (begun_open o fits met (kind ∙ ap (λ u. kind_of_tree u) same) unnamed at size zeros new offset_is depth_is mark (subst (λ u. IsLeftBehind u new.left) same left) passed)

pub begun_scalar : (t : Tree) → IsReadable t → IsScalar t → (met : Met) → met.kind ≡ kind_of_tree t → met.name_size ≡ 0 → met.offset ≡ 0 → met.size ≡ length (key_of t) → met.zeros ≡ value_zeros t
    → (new : Walk) → new.offset ≡ length (key_of t) → new.depth ≡ 0 → IsLeftBehind t new.left → new.left.passed ≤ 1 → MeetsFirst t (events_of None t) (Ok met) new
begun_scalar t r scalar met kind unnamed at size zeros new offset_is depth_is left passed =
    let event = scalar_event None t scalar in
    let counts : drop (length (key_of t)) (counts_at t) ≡ [] = ap (drop (length (key_of t))) (sym (append-nil (counts_at t))) ∙ drop_at (counts_at t) [] (length (key_of t)) (one_each t r.proper) in
    subst (λ events. MeetsFirst t events (Ok met) new) (sym event.0) (
      record { kind_is = kind; named = unnamed; occurs = subst (λ i. IsRange (key_of t) i (length (key_of t)) (key_of t)) (sym at) (whole_range t); size_is = size ∙ sym event.1; zeros_are = zeros },
      record {
        opens = [];
        at = record {
          levels = 512;
          deep = omega (arith, depth_is);
          are_open = tt;
          marked = subst (λ d. AreMarked [] new.objects d) (sym depth_is) tt;
          place = record { before = key_of t; occurs = sym (append-nil (key_of t)); offset_is = offset_is; counts = ap (λ n. drop n (counts_at t)) offset_is ∙ counts };
          zeros = left;
          passed = omega (arith, passed, offset_is, some_byte 512 t r);
        };
        left = refl;
      },
    )

pub whole_counts : (t : Tree) → drop 0 (counts_at t) ≡ counts_at t ++ []
whole_counts t = sym (append-nil (counts_at t))

pub some_key : (t : Tree) → IsReadable t → 0 < length (key_of t)
some_key t r = omega (arith, some_byte 512 t r)

-- ---- the end

pub left_behind : (t : Tree) (o : Open) (under : List Open) (walk new : Walk) (top : ℕ) (bytes after : List ℕ) → (w : IsWalkAt t (o ∷ under) walk) → top + 1 ≡ walk.depth
    → (more : List ℕ) → BeginsWithEnd o more bytes after → (size : ℕ) → size ≡ length bytes - length after
    → new.offset ≡ walk.offset + size → new.depth ≡ top → new.left ≡ walk.left → new.objects ≡ walk.objects
    → (met : Met) → met.kind ≡ None → MeetsFirst t (events_left (o ∷ under)) (Ok met) new
left_behind t o under walk new top bytes after w at more x size size_is offset_is depth_is left_is objects_are met none =
    let long : size ≡ length (end_key (is_object o)) = omega (arith, size_is, ap length x.passed, length-append (end_key (is_object o)) after) in
    let place = moved t (o ∷ under) under walk.offset size (end_key (is_object o)) (replicate (length (end_key (is_object o))) 0) w.place (over_key o under x.is_over) (over_bytes o under x.is_over) (sym long) (length-replicate {A = ℕ} (length (end_key (is_object o))) 0 ∙ sym long) in
    subst (λ events. MeetsFirst t events (Ok met) new) (sym (over_event o under x.is_over)) (
      none,
      record {
        opens = under;
        at = record {
          levels = suc w.levels;
          deep = omega (arith, w.deep, at, depth_is);
          are_open = w.are_open.1;
          marked = subst (λ d. AreMarked under new.objects d) (sym depth_is) (subst (λ marks. AreMarked under marks top) (sym objects_are) (top_marked o under walk.objects walk.depth top at w.marked).1);
          place = subst (IsPlace t under) (sym offset_is) place;
          zeros = subst (IsLeftBehind t) (sym left_is) w.zeros;
          passed = omega (arith, w.passed, ap (λ l. l.passed) left_is, offset_is);
        };
        left = refl;
      },
    )

-- ---- what is open

pub over_opens : (t : Tree) (opens : List Open) (walk : Walk) (top : ℕ) → top + 1 ≡ walk.depth → IsWalkAt t opens walk → (P : List Open → Type 0) → ((o : Open) (under : List Open) → IsWalkAt t (o ∷ under) walk → P (o ∷ under)) → P opens
over_opens t [] walk top at w P law = absurd (none_marked walk.objects walk.depth top at w.marked)
over_opens t (o ∷ under) walk top at w P law = law o under w

pub all_met : (t : Tree) (opens : List Open) (walk : Walk) → walk.depth ≡ 0 → IsWalkAt t opens walk → MeetsNext t (events_left opens) (Ok None) walk
all_met t [] walk none w = tt
all_met t (o ∷ under) walk none w = absurd (none_open o under walk.objects walk.depth none w.marked)

pub next_met : (t : Tree) (events : List Event) (met : Met) (walk : Walk) → MeetsFirst t events (Ok met) walk → MeetsNext t events (Ok (Some met)) walk
next_met t [] met walk x = absurd x
next_met t (e ∷ es) met walk x = x

pub no_error : (t : Tree) (events : List Event) (e : DocumentError) (walk : Walk) → MeetsFirst t events (Err e) walk → ⊥
no_error t [] e walk x = x
no_error t (f ∷ es) e walk x = x

one_deeper : (o : Open) (levels : ℕ) → IsOpen o levels → IsOpen o (suc levels)
one_deeper (items ts) levels h = (h.0, deeper IsAnyNumber (array ts) (suc levels) h.1)
one_deeper (members ms) levels h = (h.0, deeper IsAnyNumber (object ms) (suc levels) h.1)

-- the same with more levels
pub open_up : (o : Open) (more levels top : ℕ) → more + levels ≡ top → IsOpen o levels → IsOpen o top
open_up o zero levels top e h = let same : levels ≡ top = omega (arith, e) in subst (λ d. IsOpen o d) same h
open_up o (suc more) levels top e h = open_up o more (suc levels) top (omega (arith, e)) (one_deeper o levels h)

pub skipped : (t : Tree) (o : Open) (under : List Open) (walk new : Walk) (top : ℕ) (bytes after : List ℕ) → (w : IsWalkAt t (o ∷ under) walk) → top + 1 ≡ walk.depth → bytes ≡ opens_key (o ∷ under) → after ≡ opens_key under
    → new.offset ≡ walk.offset + (length bytes - length after) → new.depth ≡ top → new.left ≡ walk.left → new.objects ≡ walk.objects → IsWalkAt t under new
skipped t o under walk new top bytes after w at is behind offset_is depth_is left_is objects_are =
    let size = length (open_key o) in
    let long : size ≡ length bytes - length after = omega (arith, ap length is, ap length behind, length-append (open_key o) (opens_key under)) in
    let each : length (counts_open o) ≡ size = omega (arith, opens_each (o ∷ under) w.levels w.are_open, opens_each under (suc w.levels) w.are_open.1, length-append (counts_open o) (opens_counts under), length-append (open_key o) (opens_key under)) in
    let place = moved t (o ∷ under) under walk.offset size (open_key o) (counts_open o) w.place refl refl refl each in
    record {
      levels = suc w.levels;
      deep = omega (arith, w.deep, at, depth_is);
      are_open = w.are_open.1;
      marked = subst (λ d. AreMarked under new.objects d) (sym depth_is) (subst (λ marks. AreMarked under marks top) (sym objects_are) (top_marked o under walk.objects walk.depth top at w.marked).1);
      place = subst (IsPlace t under) (sym (offset_is ∙ ap (λ n. walk.offset + n) (sym long))) place;
      zeros = subst (IsLeftBehind t) (sym left_is) w.zeros;
      passed = omega (arith, w.passed, ap (λ l. l.passed) left_is, offset_is);
    }

-- ---- a member by its name

-- the keys and the counts of those that are passed
pub record MembersPassed (name : List ℕ) (ms : Members) : Type 0 where
  pub bytes : List ℕ
  pub counts : List ℕ
  pub key_is : members_key ms ≡ bytes ++ members_key (members_from name ms)
  pub counts_are : counts_at_members ms ≡ counts ++ counts_at_members (members_from name ms)

passed_one : (name k : List ℕ) (t : Tree) (ms : Members) (b : Bool) → is_gt (bytes_cmp name k) ≡ b → MembersPassed name ms → MembersPassed name (more_members k t ms)
passed_one name k t ms false is p = record {
  bytes = [];
  counts = [];
  key_is = ap (λ b. members_key (if b then members_from name ms else more_members k t ms)) (sym is);
  counts_are = ap (λ b. counts_at_members (if b then members_from name ms else more_members k t ms)) (sym is);
}
passed_one name k t ms true is p =
    let from : members_from name ms ≡ members_from name (more_members k t ms) = ap (λ b. if b then members_from name ms else more_members k t ms) (sym is) in
    let zeros : List ℕ = replicate (length (text_key k)) 0 in
    record {
      bytes = text_key k ++ (key_of t ++ p.bytes);
      counts = zeros ++ (counts_at t ++ p.counts);
      key_is = ap (λ r. text_key k ++ (key_of t ++ r)) p.key_is ∙ sym (regroup (text_key k) (key_of t) p.bytes (members_key (members_from name ms))) ∙ ap (λ m. (text_key k ++ (key_of t ++ p.bytes)) ++ members_key m) from;
      counts_are = ap (λ r. zeros ++ (counts_at t ++ r)) p.counts_are ∙ sym (regroup zeros (counts_at t) p.counts (counts_at_members (members_from name ms))) ∙ ap (λ m. (zeros ++ (counts_at t ++ p.counts)) ++ counts_at_members m) from;
    }

members_passed : (name : List ℕ) (ms : Members) → MembersPassed name ms
members_passed name no_members = record { bytes = []; counts = []; key_is = refl; counts_are = refl }
members_passed name (more_members k t ms) = passed_one name k t ms (is_gt (bytes_cmp name k)) refl (members_passed name ms)

kept_open : (name k : List ℕ) (t : Tree) (ms : Members) (levels : ℕ) (b : Bool) → is_gt (bytes_cmp name k) ≡ b → IsOpen (members (more_members k t ms)) levels → IsOpen (members (members_from name ms)) levels → IsOpen (members (members_from name (more_members k t ms))) levels
kept_open name k t ms levels false is h others = subst (λ b. IsOpen (members (if b then members_from name ms else more_members k t ms)) levels) (sym is) h
kept_open name k t ms levels true is h others = subst (λ b. IsOpen (members (if b then members_from name ms else more_members k t ms)) levels) (sym is) others

still_open : (name : List ℕ) (ms : Members) (levels : ℕ) → IsOpen (members ms) levels → IsOpen (members (members_from name ms)) levels
still_open name no_members levels h = h
still_open name (more_members k t ms) levels h = kept_open name k t ms levels (is_gt (bytes_cmp name k)) refl h (still_open name ms levels (h.0.2, h.1.1))

pub moved_to : (t : Tree) (ms : Members) (under : List Open) (walk new : Walk) (name bytes after more : List ℕ) → (w : IsWalkAt t (members ms ∷ under) walk) → bytes ≡ members_key ms ++ more → after ≡ members_key (members_from name ms) ++ more
    → new.offset ≡ walk.offset + (length bytes - length after) → new.depth ≡ walk.depth → new.left ≡ walk.left → new.objects ≡ walk.objects → IsWalkAt t (members (members_from name ms) ∷ under) new
moved_to t ms under walk new name bytes after more w is behind offset_is depth_is left_is objects_are =
    let left = members_from name ms in
    let p = members_passed name ms in
    let size = length p.bytes in
    let key_long : length (members_key ms) ≡ size + length (members_key left) = omega (arith, ap length p.key_is, length-append p.bytes (members_key left)) in
    let counts_long : length (counts_at_members ms) ≡ length p.counts + length (counts_at_members left) = omega (arith, ap length p.counts_are, length-append p.counts (counts_at_members left)) in
    let long : size ≡ length bytes - length after = omega (arith, ap length is, ap length behind, length-append (members_key ms) more, length-append (members_key left) more, key_long) in
    let fits = still_open name ms w.levels w.are_open.0 in
    let each : length p.counts ≡ size = omega (arith, opens_each (members ms ∷ under) w.levels w.are_open, opens_each (members left ∷ under) w.levels (fits, w.are_open.1), length-append (counts_at_members ms) (opens_counts under), length-append (members_key ms) (opens_key under), length-append (counts_at_members left) (opens_counts under), length-append (members_key left) (opens_key under), key_long, counts_long) in
    let place = moved t (members ms ∷ under) (members left ∷ under) walk.offset size p.bytes p.counts w.place
    (ap (λ k. k ++ opens_key under) p.key_is ∙ append_assoc p.bytes (members_key left) (opens_key under))
    (ap (λ c. c ++ opens_counts under) p.counts_are ∙ append_assoc p.counts (counts_at_members left) (opens_counts under)) refl each in
    record {
      levels = w.levels;
      deep = omega (arith, w.deep, depth_is);
      are_open = (fits, w.are_open.1);
      marked = subst (λ d. AreMarked (members left ∷ under) new.objects d) (sym depth_is) (subst (λ marks. AreMarked (members left ∷ under) marks walk.depth) (sym objects_are) (others_marked (members ms) (members left) under walk.objects walk.depth refl w.marked));
      place = subst (IsPlace t (members left ∷ under)) (sym (offset_is ∙ ap (λ n. walk.offset + n) (sym long))) place;
      zeros = subst (IsLeftBehind t) (sym left_is) w.zeros;
      passed = omega (arith, w.passed, ap (λ l. l.passed) left_is, offset_is);
    }

-- where nothing is open, or an array, the walk stays
pub stays_over : (t : Tree) (name : List ℕ) (opens : List Open) (walk : Walk) → walk.depth ≡ 0 → IsWalkAt t opens walk → MovesToMember t name opens (Ok false) walk walk
stays_over t name [] walk none w = (refl, refl)
stays_over t name (o ∷ under) walk none w = absurd (none_open o under walk.objects walk.depth none w.marked)

pub stays_in_array : (t : Tree) (name : List ℕ) (o : Open) (under : List Open) (walk : Walk) → is_object o ≡ false → MovesToMember t name (o ∷ under) (Ok false) walk walk
stays_in_array t name (items ts) under walk kind = (refl, refl)
stays_in_array t name (members ms) under walk kind = absurd (true≢false kind)

pub over_members : (o : Open) (P : Open → Type 0) → is_object o ≡ true → ((ms : Members) → P (members ms)) → P o
over_members (items ts) P kind law = absurd (true≢false (sym kind))
over_members (members ms) P kind law = law ms

-- whether a member was found
pub found_there : (bytes : List ℕ) (part : Option Tree) (found : Option (Bor (List ℕ))) → Finds bytes part (Ok found) → is_some found ≡ is_some part
found_there bytes None None x = refl
found_there bytes (Some t) (Some rest) x = refl
found_there bytes None (Some rest) x = absurd x
found_there bytes (Some t) None x = absurd x

-- ---- a part

name_at : (b : Bool) (key before name rest : List ℕ) (met : Met) → key ≡ before ++ (name_key b name ++ rest) → met.name_offset ≡ length before → met.name_size ≡ length (name_key b name) → IsNameMet key (name_of b name) met
name_at true key before name rest met e at long = record { before = before; behind = rest; occurs = e; offset_is = at; size_is = long }
name_at false key before name rest met e at long = long

module _ (t : Tree) (o : Open) (under : List Open) (walk : Walk) (w : IsWalkAt t (o ∷ under) walk) (name : List ℕ) (value : Tree) (others : Open) (part : IsPart o name value others) (bytes from : List ℕ) (is : bytes ≡ opens_key (o ∷ under)) (named : bytes ≡ name_key (is_object o) name ++ from) (rest : List ℕ) (there : from ≡ key_of value ++ rest) where
  abbrev before : List ℕ
  before = w.place.before

  abbrev pub name_size : ℕ
  name_size = length bytes - length from

  name_long : name_size ≡ length (name_key (is_object o) name)
  name_long = omega (arith, ap length named, length-append (name_key (is_object o) name) from)

  key_is : key_of t ≡ before ++ (name_key (is_object o) name ++ from)
  key_is = w.place.occurs ∙ ap (λ b. before ++ b) (sym is ∙ named)

  value_range : (offset : ℕ) → offset ≡ walk.offset + name_size → IsRange (key_of t) offset (length (key_of value)) (key_of value)
  value_range offset at = record {
    before = before ++ name_key (is_object o) name;
    behind = rest;
    occurs = key_is ∙ sym (append_assoc before (name_key (is_object o) name) from) ∙ ap (λ b. (before ++ name_key (is_object o) name) ++ b) there;
    offset_is = omega (arith, at, w.place.offset_is, name_long, length-append before (name_key (is_object o) name));
    size_is = refl;
  }

  pub value_within : (offset : ℕ) → offset ≡ walk.offset + name_size → offset + length (key_of value) ≤ length (key_of t)
  value_within offset at =
      let r = value_range offset at in
      omega (arith, ap length r.occurs, length-append r.before (key_of value ++ r.behind), length-append (key_of value) r.behind, r.offset_is)

  value_counts : drop (walk.offset + name_size) (counts_at t) ≡ counts_at value ++ opens_counts (others ∷ under)
  value_counts = counts_behind (counts_at t) (replicate (length (name_key (is_object o) name)) 0) (counts_at value ++ opens_counts (others ∷ under)) walk.offset name_size
      (w.place.counts ∙ part_bytes o name value others under part) (length-replicate {A = ℕ} (length (name_key (is_object o) name)) 0 ∙ sym name_long)

  pub counts_there : (offset : ℕ) → offset ≡ walk.offset + name_size → drop offset (counts_at t) ≡ counts_at value ++ opens_counts (others ∷ under)
  counts_there offset at = ap (λ i. drop i (counts_at t)) at ∙ value_counts

  value_met : (met : Met) → met.kind ≡ kind_of_tree value → met.name_offset ≡ walk.offset → met.name_size ≡ name_size → met.offset ≡ walk.offset + name_size → met.size ≡ scalar_size value → met.zeros ≡ value_zeros value
      → IsValueMet (key_of t) (name_of (is_object o) name) value met
  value_met met kind at long offset size zeros = record {
    kind_is = kind;
    named = name_at (is_object o) (key_of t) before name from met key_is (at ∙ w.place.offset_is) (long ∙ name_long);
    occurs = value_range met.offset offset;
    size_is = size;
    zeros_are = zeros;
  }

  -- inside an array or an object
  pub opening_met : (inside : Open) → value ≡ opened_tree inside → (inner : ℕ) → w.levels ≡ suc inner → IsOpen inside inner → IsOpen others w.levels → rest ≡ opens_key (others ∷ under)
      → (met : Met) → met.kind ≡ kind_of_tree value → met.name_offset ≡ walk.offset → met.name_size ≡ name_size → met.offset ≡ walk.offset + name_size → met.size ≡ 0 → met.zeros ≡ 0
      → (new : Walk) → new.offset ≡ met.offset + 1 → new.depth ≡ walk.depth + 1 → new.objects ≡ set walk.objects walk.depth (kind_mark (is_object inside)) → walk.depth < length walk.objects → new.left ≡ walk.left
      → MeetsFirst t (events_left (o ∷ under)) (Ok met) new
  opening_met inside whole inner deeper inside_fits fits behind met kind at long offset size zeros new offset_is depth_is objects_are space left_is =
      let name_bytes = name_key (is_object o) name in
      let none : List ℕ = replicate (length name_bytes) 0 in
      let event = opened_event (name_of (is_object o) name) inside in
      let byte = opening_byte (is_object inside) in
      let all = name_bytes ++ byte ∷ [] in
      let counts = none ++ 0 ∷ [] in
      let value_key : key_of value ≡ byte ∷ open_key inside = ap key_of whole ∙ opened_key inside in
      let key_passed : opens_key (o ∷ under) ≡ all ++ opens_key (inside ∷ others ∷ under) =
      sym is ∙ named ∙ ap (λ b. name_bytes ++ b) (there ∙ ap (λ k. k ++ rest) value_key ∙ ap (λ r. byte ∷ (open_key inside ++ r)) behind)
      ∙ sym (append_assoc name_bytes (byte ∷ []) (opens_key (inside ∷ others ∷ under))) in
      let counts_passed : opens_counts (o ∷ under) ≡ counts ++ opens_counts (inside ∷ others ∷ under) =
      part_bytes o name value others under part ∙ ap (λ c. none ++ (c ++ opens_counts (others ∷ under))) (ap counts_at whole ∙ opened_bytes inside)
      ∙ sym (append_assoc none (0 ∷ []) (opens_counts (inside ∷ others ∷ under))) in
      let all_long : length all ≡ name_size + 1 = omega (arith, length-append name_bytes (byte ∷ []), name_long) in
      let counts_long : length counts ≡ name_size + 1 = omega (arith, length-append none (0 ∷ []), length-replicate {A = ℕ} (length name_bytes) 0, name_long) in
      let place = moved t (o ∷ under) (inside ∷ others ∷ under) walk.offset (name_size + 1) all counts w.place key_passed counts_passed all_long counts_long in
      let here : new.offset ≡ walk.offset + (name_size + 1) = omega (arith, offset_is, offset) in
      let deep : new.depth ≡ suc walk.depth = omega (arith, depth_is) in
      let marks = set walk.objects walk.depth (kind_mark (is_object inside)) in
      let marked : AreMarked (inside ∷ others ∷ under) marks (suc walk.depth) = (
        get_or-set_same walk.objects walk.depth (kind_mark (is_object inside)) 0 space,
        marks_kept (others ∷ under) walk.objects walk.depth (kind_mark (is_object inside)) walk.depth (omega arith) (others_marked o others under walk.objects walk.depth (same_kind o name value others part) w.marked),
      ) in
      subst (λ events. MeetsFirst t events (Ok met) new) (sym (part_events o name value others under part ∙ ap (λ v. events_of (name_of (is_object o) name) v ++ events_left (others ∷ under)) whole ∙ ap (λ e. e ++ events_left (others ∷ under)) event.0)) (
        subst (λ v. IsValueMet (key_of t) (name_of (is_object o) name) v met) whole
            (value_met met kind at long offset (size ∙ sym (ap scalar_size whole ∙ event.1)) (zeros ∙ sym (ap value_zeros whole ∙ event.2))),
        record {
          opens = inside ∷ others ∷ under;
          at = record {
            levels = inner;
            deep = omega (arith, w.deep, deeper, depth_is);
            are_open = (inside_fits, subst (λ d. AreOpen (others ∷ under) d) deeper (fits, w.are_open.1));
            marked = subst (λ d. AreMarked (inside ∷ others ∷ under) new.objects d) (sym deep) (subst (λ ms. AreMarked (inside ∷ others ∷ under) ms (suc walk.depth)) (sym objects_are) marked);
            place = subst (IsPlace t (inside ∷ others ∷ under)) (sym here) place;
            zeros = subst (IsLeftBehind t) (sym left_is) w.zeros;
            passed = omega (arith, w.passed, ap (λ l. l.passed) left_is, here);
          };
          left = refl;
        },
      )

  -- behind a scalar
  pub scalar_met : length rest < length from → IsScalar value → IsReadableAt w.levels value → IsOpen others w.levels → rest ≡ opens_key (others ∷ under)
      → (met : Met) → met.kind ≡ kind_of_tree value → met.name_offset ≡ walk.offset → met.name_size ≡ name_size → met.offset ≡ walk.offset + name_size → met.size ≡ length from - length rest → met.zeros ≡ value_zeros value
      → (new : Walk) → new.offset ≡ met.offset + met.size → new.depth ≡ walk.depth → new.objects ≡ walk.objects → IsLeftBehind t new.left → new.left.passed ≤ met.offset + 1
      → MeetsFirst t (events_left (o ∷ under)) (Ok met) new
  scalar_met shorter scalar readable fits behind met kind at long offset size zeros new offset_is depth_is objects_are left passed =
      let event = scalar_event (name_of (is_object o) name) value scalar in
      let all = name_key (is_object o) name ++ key_of value in
      let counts = replicate (length (name_key (is_object o) name)) 0 ++ counts_at value in
      let value_long : met.size ≡ length (key_of value) = omega (arith, size, ap length there, length-append (key_of value) rest) in
      let key_passed : opens_key (o ∷ under) ≡ all ++ opens_key (others ∷ under) =
      sym is ∙ named ∙ ap (λ b. name_key (is_object o) name ++ b) (there ∙ ap (λ r. key_of value ++ r) behind) ∙ sym (append_assoc (name_key (is_object o) name) (key_of value) (opens_key (others ∷ under))) in
      let counts_passed : opens_counts (o ∷ under) ≡ counts ++ opens_counts (others ∷ under) =
      part_bytes o name value others under part ∙ sym (append_assoc (replicate (length (name_key (is_object o) name)) 0) (counts_at value) (opens_counts (others ∷ under))) in
      let all_long : length all ≡ name_size + met.size = omega (arith, length-append (name_key (is_object o) name) (key_of value), name_long, value_long) in
      let counts_long : length counts ≡ name_size + met.size =
      omega (arith, length-append (replicate (length (name_key (is_object o) name)) 0) (counts_at value), length-replicate {A = ℕ} (length (name_key (is_object o) name)) 0, one_each value readable.proper, name_long, value_long) in
      let place = moved t (o ∷ under) (others ∷ under) walk.offset (name_size + met.size) all counts w.place key_passed counts_passed all_long counts_long in
      let here : new.offset ≡ walk.offset + (name_size + met.size) = omega (arith, offset_is, offset) in
      subst (λ events. MeetsFirst t events (Ok met) new) (sym (part_events o name value others under part ∙ ap (λ e. e ++ events_left (others ∷ under)) event.0)) (
        value_met met kind at long offset (value_long ∙ sym event.1) zeros,
        record {
          opens = others ∷ under;
          at = record {
            levels = w.levels;
            deep = omega (arith, w.deep, depth_is);
            are_open = (fits, w.are_open.1);
            marked = subst (λ d. AreMarked (others ∷ under) new.objects d) (sym depth_is) (subst (λ marks. AreMarked (others ∷ under) marks walk.depth) (sym objects_are) (others_marked o others under walk.objects walk.depth (same_kind o name value others part) w.marked));
            place = subst (IsPlace t (others ∷ under)) (sym here) place;
            zeros = left;
            passed = omega (arith, passed, offset_is, size, shorter);
          };
          left = refl;
        },
      )
