-- Keys of a path that are left, and the parts of what is open to which they lead.
use Rattle.std.proofs.Common.{is_gt, ◌≡◌, ℕ, zero, suc, ◌+◌, ◌<◌, ◌≤◌, Bool, true, false, ◌==◌, List, [], ◌∷◌, ◌++◌, map, length, get_or, drop, drop-cons, add-one, Option, Some, None, MatchBool, string_bytes, refl, sym, ap, ap₂, subst, ◌∙◌, arith}
use Rattle.std.proofs.lemmas.Bool.{cond-false, cond-true, leb-true, leb-false}
use Rattle.std.proofs.lemmas.List.{drop-map, drop_all, length-map}
use Rattle.std.proofs.Math.Dec.{leb}
use Rattle.std.proofs.lemmas.Slice.Eq.{bytes_eq-Decides}
use Rattle.std.specs.Option.{option_and_then, option_map_or, option_or}
use Rattle.std.specs.Prelude.{if◌then◌else◌, String}
use Rattle.std.specs.Str.{bytes_eq}
use Rattle.std.specs.declared.alloc.Global.{Global}
use Rattle.jsonb_spec.specs.Accessors.{find_member, item_at}
use Rattle.jsonb_spec.specs.Grammar.{AreDistinct}
use Rattle.jsonb_spec.specs.Tree.{Mark, Tree}
use Rattle.jsonb_core.proofs.Trees.MembersInOrder.{distinct_keys, IsNew}
use Rattle.jsonb_spec.specs.Order.ByContent.{pairs_of}
use Rattle.jsonb_spec.specs.Source.Open.{Open, add_part, elements_so_far, members_so_far}
use Rattle.jsonb_spec.specs.Source.{Found, Source, array_source_of, first_repeat, insert_by, object_source_of, sort_by, sources_of, spot_cmp, spot_of, tree_of_source, trees_of_sources}
use Rattle.text_members.specs.Members.{SpotsAscend}
use Rattle.jsonb_spec.specs.PartAt.{index_named, part_at}
use Rattle.text_write.specs.PartSink.{first_key, other_keys, part_with_inside}
use Rattle.jsonb_spec.specs.PartAt.SoFar.{follow, in_items, in_members, path_behind, part_inside, part_of_ended, part_with_value, within}
use Rattle.text_members.proofs.Objects.Closing.{listed, listed_ascend, put_listed, sort_ascends}
use Rattle.text_common.proofs.Shuffles.{IsShuffle, distinct-shuffle, shuffle-map, same, preserve, exchange, follow as in_turn}

-- ---- keys

pub first_there : (path : List (String Global)) (l : ℕ) (key : String Global) → l < length path → key ≡ get_or path l key → Some (string_bytes key) ≡ first_key (drop l (map string_bytes path))
first_there path l key h e =
    ap (λ k. Some (string_bytes k)) e ∙ sym (ap first_key (drop-map string_bytes l path ∙ ap (map string_bytes) (drop-cons path l key h)))

pub others_there : (keys : List (List ℕ)) (l : ℕ) → l < length keys → Some (drop (l + 1) keys) ≡ other_keys (drop l keys)
others_there keys l h =
    sym (ap other_keys (drop-cons keys l [] h ∙ (λ j. get_or keys l [] ∷ drop (sym (add-one l) j) keys)))

no_rest : (k : List ℕ) (ks : List (List ℕ)) → Some (k ∷ ks) ≡ Some [] → ⊥
no_rest k ks e = cc

pub whole_path : (path : List (String Global)) (l : ℕ) → MatchBool (leb (length path) l) (Some (drop l (map string_bytes path)) ≡ Some []) (Some (drop l (map string_bytes path)) ≡ Some [] → ⊥)
whole_path path l = by (leb (length path) l) refl
  where
    keys : List (List ℕ)
    keys = map string_bytes path

    by : (b : Bool) → leb (length path) l ≡ b → MatchBool b (Some (drop l keys) ≡ Some []) (Some (drop l keys) ≡ Some [] → ⊥)
    by true e = ap Some (drop_all l keys (subst (λ n. n ≤ l) (sym (length-map path string_bytes)) (leb-true (length path) l e)))
    by false e = λ is. no_rest (get_or keys l []) (drop (suc l) keys) (ap Some (sym (drop-cons keys l [] (subst (λ n. l < n) (sym (length-map path string_bytes)) (leb-false (length path) l e)))) ∙ is)

-- ---- options

pub or_none : {T : Type 0} (o : Option T) → option_or o None ≡ o
or_none None = refl
or_none (Some x) = refl

pub or_assoc : {T : Type 0} (a b c : Option T) → option_or (option_or a b) c ≡ option_or a (option_or b c)
or_assoc None b c = refl
or_assoc (Some x) b c = refl

-- a test before what follows, or behind it
pub if_then : {S T : Type 0} (b : Bool) (f : S → Option T) (x : S) → (if b then f x else None) ≡ option_and_then f (if b then Some x else None)
if_then true f x = refl
if_then false f x = refl

-- ---- one part more

in_members-more : (key : List ℕ) (keys : List (List ℕ)) (fs : List Found) (f : Found) → in_members key keys (fs ++ f ∷ []) ≡ option_or (in_members key keys fs) (if bytes_eq key f.key then part_at keys (tree_of_source f.source) else None)
in_members-more key keys [] f = or_none (if bytes_eq key f.key then part_at keys (tree_of_source f.source) else None)
in_members-more key keys (g ∷ fs) f =
    let first = if bytes_eq key g.key then part_at keys (tree_of_source g.source) else None in
    let last = if bytes_eq key f.key then part_at keys (tree_of_source f.source) else None in
    ap (option_or first) (in_members-more key keys fs f) ∙ sym (or_assoc first (in_members key keys fs) last)

in_items-more : (index first : ℕ) (keys : List (List ℕ)) (ss : List Source) (s : Source) → in_items index first keys (ss ++ s ∷ []) ≡ option_or (in_items index first keys ss) (if index == first + length ss then part_at keys (tree_of_source s) else None)
in_items-more index first keys [] s =
    or_none (if index == first then part_at keys (tree_of_source s) else None) ∙ ap (λ n. if index == n then part_at keys (tree_of_source s) else None) (omega arith)
in_items-more index first keys (t ∷ ss) s =
    let head = if index == first then part_at keys (tree_of_source t) else None in
    let last : ℕ → Option Tree = λ n. if index == n then part_at keys (tree_of_source s) else None in
    let same : suc first + length ss ≡ first + suc (length ss) = omega arith in
    ap (option_or head) (in_items-more index (suc first) keys ss s ∙ ap (λ n. option_or (in_items index (suc first) keys ss) (last n)) same)
    ∙ sym (or_assoc head (in_items index (suc first) keys ss) (last (first + suc (length ss))))

within-items : (keys : List (List ℕ)) (ss : List Source) (s : Source) (o : Option ℕ) → option_and_then (λ i. in_items i 0 keys (ss ++ s ∷ [])) o
    ≡ option_or (option_and_then (λ i. in_items i 0 keys ss) o) (option_and_then (λ rest. part_at rest (tree_of_source s)) (if option_map_or (λ i. i == length ss) o false then Some keys else None))
within-items keys ss s None = refl
within-items keys ss s (Some i) =
    let from_first : 0 + length ss ≡ length ss = omega arith in
    in_items-more i 0 keys ss s ∙ ap (λ n. option_or (in_items i 0 keys ss) (if i == n then part_at keys (tree_of_source s) else None)) from_first
    ∙ ap (option_or (in_items i 0 keys ss)) (if_then (i == length ss) (λ rest. part_at rest (tree_of_source s)) keys)

pub within-more : (c : Open) (s : Source) (keys : List (List ℕ)) → within (add_part c s) keys ≡ option_or (within c keys) (option_and_then (λ rest. part_at rest (tree_of_source s)) (follow c keys))
within-more (elements_so_far ss) s [] = refl
within-more (members_so_far fs k offset) s [] = refl
within-more (elements_so_far ss) s (key ∷ keys) = within-items keys ss s (index_named key)
within-more (members_so_far fs k offset) s (key ∷ keys) =
    in_members-more key keys fs (record { mark = k.0; key = k.1; source = s; offset = offset })
    ∙ ap (option_or (in_members key keys fs)) (if_then (bytes_eq key k.1) (λ rest. part_at rest (tree_of_source s)) keys)

-- what ended, with a value where one was due
pub picked-more : (keys : List (List ℕ)) (c : Open) (s : Source) (cs : List Open) → part_with_value keys s (c ∷ cs) ≡ part_of_ended keys (add_part c s ∷ cs)
picked-more keys c s cs = by (path_behind keys cs)
  where
    by : (l : Option (List (List ℕ))) → option_or (option_or (part_of_ended keys cs) (option_and_then (within c) l)) (option_and_then (λ rest. part_at rest (tree_of_source s)) (option_and_then (follow c) l))
        ≡ option_or (part_of_ended keys cs) (option_and_then (within (add_part c s)) l)
    by None = or_none (option_or (part_of_ended keys cs) None)
    by (Some rest) =
        or_assoc (part_of_ended keys cs) (within c rest) (option_and_then (λ more. part_at more (tree_of_source s)) (follow c rest))
        ∙ ap (option_or (part_of_ended keys cs)) (sym (within-more c s rest))

-- ---- a container that ends

in_items-none : (index first : ℕ) (keys : List (List ℕ)) (ss : List Source) → index < first → in_items index first keys ss ≡ None
in_items-none index first keys [] h = refl
in_items-none index first keys (s ∷ ss) h =
    ap₂ option_or (cond-false (index == first) (part_at keys (tree_of_source s)) None (apart index first h)) (in_items-none index (suc first) keys ss (omega arith))
  where
    apart : (m n : ℕ) → m < n → (m == n) ≡ false
    apart m n h = grind arith

in_items-at : (n first : ℕ) (keys : List (List ℕ)) (ss : List Source) → in_items (first + n) first keys ss ≡ option_and_then (part_at keys) (item_at (trees_of_sources (sources_of ss)) n)
in_items-at n first keys [] = refl
in_items-at zero first keys (s ∷ ss) =
    ap₂ option_or (cond-true ((first + 0) == first) (part_at keys (tree_of_source s)) None (same_number first)) (in_items-none (first + 0) (suc first) keys ss (omega arith))
    ∙ or_none (part_at keys (tree_of_source s))
  where
    same_number : (n : ℕ) → ((n + 0) == n) ≡ true
    same_number n = grind arith
in_items-at (suc n) first keys (s ∷ ss) =
    let shifted : first + suc n ≡ suc first + n = omega arith in
    ap₂ option_or (cond-false ((first + suc n) == first) (part_at keys (tree_of_source s)) None (other_number first n)) (ap (λ i. in_items i (suc first) keys ss) shifted ∙ in_items-at n (suc first) keys ss)
  where
    other_number : (m n : ℕ) → ((m + suc n) == m) ≡ false
    other_number m n = grind arith

items-ended : (keys : List (List ℕ)) (ss : List Source) (o : Option ℕ) → option_and_then (λ i. in_items i 0 keys ss) o ≡ option_and_then (part_at keys) (option_and_then (item_at (trees_of_sources (sources_of ss))) o)
items-ended keys ss None = refl
items-ended keys ss (Some i) =
    let from_first : i ≡ 0 + i = omega arith in
    ap (λ n. in_items n 0 keys ss) from_first ∙ in_items-at i 0 keys ss

-- an array
pub array-ended : (ss : List Source) (keys : List (List ℕ)) → within (elements_so_far ss) keys ≡ part_inside (array_source_of ss) keys
array-ended ss [] = refl
array-ended ss (key ∷ keys) = items-ended keys ss (index_named key)

-- ---- an object that ends

abbrev key_names : List Found → List (List ℕ)
key_names fs = map (λ (f : Found). f.key) fs

same_key : (a b : List ℕ) → bytes_eq a b ≡ true → a ≡ b
same_key a b e = (bytes_eq-Decides a b).0 e

in_new : (key : List ℕ) (keys : List (List ℕ)) (fs : List Found) → IsNew key (key_names fs) → in_members key keys fs ≡ None
in_new key keys [] h = refl
in_new key keys (f ∷ fs) h = by (bytes_eq key f.key) refl (in_new key keys fs h.1)
  where
    by : (b : Bool) → bytes_eq key f.key ≡ b → in_members key keys fs ≡ None → option_or (if b then part_at keys (tree_of_source f.source) else None) (in_members key keys fs) ≡ None
    by true e others = absurd (h.0 (same_key key f.key e))
    by false e others = others

in_shuffle : (key : List ℕ) (keys : List (List ℕ)) {fs gs : List Found} (s : IsShuffle fs gs) → AreDistinct (key_names fs) → in_members key keys fs ≡ in_members key keys gs
in_shuffle key keys same d = refl
in_shuffle key keys (preserve {x = f} s) d = ap (option_or (if bytes_eq key f.key then part_at keys (tree_of_source f.source) else None)) (in_shuffle key keys s d.1)
in_shuffle key keys (exchange {x = f} {y = g} {xs = fs}) d = by (bytes_eq key f.key) (bytes_eq key g.key) refl refl
  where
    by : (a b : Bool) → bytes_eq key f.key ≡ a → bytes_eq key g.key ≡ b
        → option_or (if a then part_at keys (tree_of_source f.source) else None) (option_or (if b then part_at keys (tree_of_source g.source) else None) (in_members key keys fs))
        ≡ option_or (if b then part_at keys (tree_of_source g.source) else None) (option_or (if a then part_at keys (tree_of_source f.source) else None) (in_members key keys fs))
    by true true e h = absurd (d.0.0 (sym (same_key key f.key e) ∙ same_key key g.key h))
    by true false e h = refl
    by false true e h = refl
    by false false e h = refl
in_shuffle key keys (in_turn s t) d = in_shuffle key keys s d ∙ in_shuffle key keys t (distinct-shuffle (shuffle-map (λ (f : Found). f.key) s) d)

in_listed : (key : List ℕ) (keys : List (List ℕ)) (fs : List Found) → AreDistinct (key_names fs) → in_members key keys fs ≡ option_and_then (part_at keys) (find_member (bytes_eq key) (listed fs))
in_listed key keys [] d = refl
in_listed key keys (f ∷ fs) d = by (bytes_eq key f.key) refl (in_listed key keys fs d.1)
  where
    by : (b : Bool) → bytes_eq key f.key ≡ b → in_members key keys fs ≡ option_and_then (part_at keys) (find_member (bytes_eq key) (listed fs))
        → option_or (if b then part_at keys (tree_of_source f.source) else None) (in_members key keys fs)
        ≡ option_and_then (part_at keys) (if b then Some (tree_of_source f.source) else find_member (bytes_eq key) (listed fs))
    by true e others =
        ap (option_or (part_at keys (tree_of_source f.source))) (in_new key keys fs (subst (λ k. IsNew k (key_names fs)) (sym (same_key key f.key e)) d.0))
        ∙ or_none (part_at keys (tree_of_source f.source))
    by false e others = others

insert-shuffles : (f : Found) (fs : List Found) → IsShuffle (f ∷ fs) (insert_by spot_of f fs)
insert-shuffles f [] = same
insert-shuffles f (g ∷ fs) = by (is_gt (spot_cmp (spot_of f) (spot_of g))) (insert-shuffles f fs)
  where
    by : (b : Bool) → IsShuffle (f ∷ fs) (insert_by spot_of f fs) → IsShuffle (f ∷ g ∷ fs) (if b then g ∷ insert_by spot_of f fs else f ∷ g ∷ fs)
    by true further = in_turn exchange (preserve further)
    by false further = same

back : {fs gs : List Found} (s : IsShuffle fs gs) → IsShuffle gs fs
back same = same
back (preserve s) = preserve (back s)
back exchange = exchange
back (in_turn s t) = in_turn (back t) (back s)

sort-shuffles : (fs : List Found) → IsShuffle (sort_by spot_of fs) fs
sort-shuffles [] = same
sort-shuffles (f ∷ fs) = in_turn (back (insert-shuffles f (sort_by spot_of fs))) (preserve (sort-shuffles fs))

names_listed : (fs : List Found) → map (λ m. m.0) (pairs_of (listed fs)) ≡ key_names fs
names_listed [] = refl
names_listed (f ∷ fs) = ap (λ ks. f.key ∷ ks) (names_listed fs)

-- an object no key of which comes twice
pub object-ended : (fs : List Found) (k : Mark × List ℕ) (offset : ℕ) (keys : List (List ℕ)) → first_repeat (map spot_of fs) ≡ None → within (members_so_far fs k offset) keys ≡ part_inside (object_source_of fs) keys
object-ended fs k offset [] new = refl
object-ended fs k offset (key ∷ keys) new =
    let sorted = sort_by spot_of fs in
    let up : SpotsAscend (map spot_of sorted) = sort_ascends fs new in
    let distinct : AreDistinct (key_names sorted) = subst AreDistinct (names_listed sorted) (distinct_keys (listed sorted) (listed_ascend sorted up)) in
    sym (in_shuffle key keys (sort-shuffles fs) distinct) ∙ in_listed key keys sorted distinct
    ∙ ap (λ ms. option_and_then (part_at keys) (find_member (bytes_eq key) ms)) (sym (put_listed sorted up))

-- ---- what ended

-- with a container that ended where a value was due
pub picked-ended : (keys : List (List ℕ)) (c : Open) (s : Source) (cs : List Open) → ((rest : List (List ℕ)) → within c rest ≡ part_inside s rest) → part_of_ended keys (c ∷ cs) ≡ part_with_inside keys s cs
picked-ended keys c s cs ended = by (path_behind keys cs)
  where
    by : (l : Option (List (List ℕ))) → option_or (part_of_ended keys cs) (option_and_then (within c) l) ≡ option_or (part_of_ended keys cs) (option_and_then (part_inside s) l)
    by None = refl
    by (Some rest) = ap (option_or (part_of_ended keys cs)) (ended rest)

-- with a value of which nothing but itself can be the part
pub picked-alone : (keys : List (List ℕ)) (s : Source) (cs : List Open) → ((rest : List (List ℕ)) → part_inside s rest ≡ None) → part_of_ended keys cs ≡ part_with_inside keys s cs
picked-alone keys s cs alone = by (path_behind keys cs)
  where
    by : (l : Option (List (List ℕ))) → part_of_ended keys cs ≡ option_or (part_of_ended keys cs) (option_and_then (part_inside s) l)
    by None = sym (or_none (part_of_ended keys cs))
    by (Some rest) = sym (ap (option_or (part_of_ended keys cs)) (alone rest) ∙ or_none (part_of_ended keys cs))
