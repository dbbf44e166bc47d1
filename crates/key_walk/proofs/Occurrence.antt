-- Parts of keys where they are in the bytes: members by their names, items by their indices, and how many there are.
use Rattle.std.proofs.Common.{◌≡◌, ℕ, suc, ◌+◌, ◌-◌, ◌<◌, ℤ, pos, negsuc, unsigned_abs, ◌<ℤ◌, Bool, true, false, List, [], ◌∷◌, ◌++◌, Bor, Option, Some, None, Result, Ok, Err, Ordering, Less, Equal, Greater, inl, inr, ◌⊎◌, if◌then◌else◌, refl, sym, ap, subst, ◌∙◌, arith, append_assoc}
use Rattle.std.proofs.lemmas.Bool.{le-ltb, lt-ltb}
use Rattle.std.proofs.lemmas.Int.{ints}
use Rattle.std.proofs.lemmas.Map.Text.{is_eq-slice_cmp}
use Rattle.std.specs.Cmp.Lexicographic.{slice_cmp, nat_list_cmp_total}
use Rattle.std.specs.Option.{option_and_then}
use Rattle.std.specs.Ordering.{is_eq, is_gt, nat_cmp}
use Rattle.std.specs.Str.{bytes_eq}
use Rattle.jsonb_spec.specs.SortKey.Readable.{IsAnyNumber, IsReadable}
use Rattle.key_value.proofs.Texts.{none_some, some_same}
use Rattle.jsonb_spec.specs.PartAt.{child_at, part_at}
use Rattle.key_walk.specs.declared.find.NoKey.{NoKey}
use Rattle.key_walk.specs.declared.walk.Kind.TheVariants as kind
use Rattle.jsonb_spec.specs.SortKey.Found.{item_back, item_from, IsLeftOf, PartOccurs}
use Rattle.key_walk.specs.AtKeys.{AtMembers}
use Rattle.key_walk.specs.Found.{open_len, Finds, IsNext}
use Rattle.key_walk.specs.Passing.{PassesTo, first_named, members_from}
use Rattle.jsonb_spec.specs.SortKey.Open.{Open, items, members, is_object, open_key, IsOpen, end_key, name_key}
use Rattle.key_walk.specs.Parts.{kind_of_tree}
use Rattle.jsonb_spec.specs.SortKey.Parts.{opened_tree}
use Rattle.key_walk.proofs.Finds.{Parent, readable_inside}
use Rattle.key_walk.proofs.Opens.{no_end}
use Rattle.jsonb_spec.specs.Accessors.{find_member, item_at, trees_len}
use Rattle.jsonb_spec.specs.Keys.{IsBelowKeys, KeysAscend}
use Rattle.jsonb_spec.specs.Order.{bytes_cmp}
use Rattle.jsonb_spec.specs.Proper.{AreProper, HaveProperParts}
use Rattle.jsonb_spec.specs.SortKey.{key_of, items_key, members_key, text_key}
use Rattle.jsonb_spec.specs.Text.Range.{AreWithin, HaveWithin}
use Rattle.jsonb_spec.specs.Tree.{Tree, null, boolean, string, number, array, object, Trees, no_trees, more_trees, Members, no_members, more_members}

-- ---- what a key is of

pub has_kind : (t : Tree) → IsReadable t → None ≡ kind_of_tree t → ⊥
has_kind null r e = none_some kind.Null e
has_kind (boolean b) r e = none_some kind.Bool e
has_kind (string mark text) r e = none_some kind.String e
has_kind (number n) r e = none_some kind.Number e
has_kind (array ts) r e = none_some kind.Array e
has_kind (object ms) r e = none_some kind.Object e
has_kind t r e = absurd r.within

pub left_of : (t : Tree) (of_object : Bool) (rest more : List ℕ) → Parent t of_object rest more → IsLeftOf t of_object rest more
left_of t of_object rest more p = record { all = p.open_there; whole = p.whole; is = p.is; fits = p.fits; occurs = p.occurs }

-- ---- the parts that are left

-- the first part that is left, and the others
pub record FirstLeft (o : Open) : Type 0 where
  pub name : List ℕ
  pub value : Tree
  pub readable : IsReadable value
  pub others : Open
  pub same : is_object others ≡ is_object o
  pub fits : IsOpen others 511
  pub is : open_key o ≡ name_key (is_object o) name ++ (key_of value ++ open_key others)
  pub longer : open_len o ≡ suc (open_len others)

pub over_or_first : (o : Open) → IsOpen o 511 → ((open_key o ≡ end_key (is_object o)) × (open_len o ≡ 0)) ⊎ FirstLeft o
over_or_first (items no_trees) h = inl (refl, refl)
over_or_first (items (more_trees t ts)) h = inr (record { name = []; value = t; readable = readable_inside t (record { proper = h.0.0; within = h.1.0 }); others = items ts; same = refl; fits = (h.0.1, h.1.1); is = refl; longer = refl })
over_or_first (members no_members) h = inl (refl, refl)
over_or_first (members (more_members k t ms)) h = inr (record { name = k; value = t; readable = readable_inside t (record { proper = h.0.1; within = h.1.0 }); others = members ms; same = refl; fits = (h.0.2, h.1.1); is = refl; longer = refl })

pub regroup : (name value others more : List ℕ) → (name ++ (value ++ others)) ++ more ≡ name ++ (value ++ (others ++ more))
regroup name value others more = simp append_assoc

-- what is left behind so many parts
pub record PartsLeft (o : Open) (of_object : Bool) (count : ℕ) (rest more : List ℕ) : Type 0 where
  pub left : Open
  pub is : is_object left ≡ of_object
  pub fits : IsOpen left 511
  pub counted : open_len o ≡ count + open_len left
  pub occurs : rest ≡ open_key left ++ more

abbrev pub CountsParts : Bool → List ℕ → ℕ → List ℕ → Type 0
CountsParts of_object bytes count rest = (o : Open) → is_object o ≡ of_object → IsOpen o 511 → (more : List ℕ) → bytes ≡ open_key o ++ more → PartsLeft o of_object count rest more

-- the first of what is left
pub record PartHere (o : Open) (of_object : Bool) (count : ℕ) (rest more : List ℕ) : Type 0 where
  pub name : List ℕ
  pub value : Tree
  pub readable : IsReadable value
  pub others : Open
  pub is : is_object others ≡ of_object
  pub fits : IsOpen others 511
  pub counted : open_len o ≡ count + suc (open_len others)
  pub occurs : rest ≡ name_key of_object name ++ (key_of value ++ (open_key others ++ more))

over_or_here : (o : Open) (of_object : Bool) (count : ℕ) (rest more : List ℕ) → PartsLeft o of_object count rest more → ((rest ≡ end_key of_object ++ more) × (open_len o ≡ count)) ⊎ PartHere o of_object count rest more
over_or_here o of_object count rest more l = elim (over_or_first l.left l.fits) [
  | inl x ↦ inl (l.occurs ∙ ap (λ key. key ++ more) (x.0 ∙ ap end_key l.is), omega (arith, l.counted, x.1))
  | inr n ↦ inr (record {
    name = n.name;
    value = n.value;
    readable = n.readable;
    others = n.others;
    is = n.same ∙ l.is;
    fits = n.fits;
    counted = l.counted ∙ ap (λ len. count + len) n.longer;
    occurs = l.occurs ∙ ap (λ key. key ++ more) (n.is ∙ ap (λ b. name_key b n.name ++ (key_of n.value ++ open_key n.others)) l.is) ∙ regroup (name_key of_object n.name) (key_of n.value) (open_key n.others) more;
  })
]

pub all_counted : (o : Open) (of_object : Bool) (count : ℕ) (rest more tail : List ℕ) → PartsLeft o of_object count rest more → rest ≡ end_key of_object ++ tail → count ≡ open_len o
all_counted o of_object count rest more tail l over = elim (over_or_here o of_object count rest more l) [
  | inl x ↦ sym x.1
  | inr n ↦ absurd (no_end of_object n.name n.value 512 n.readable rest tail (open_key n.others ++ more) over n.occurs)
]

-- where an end was read, all parts are behind it
pub end_here : (o : Open) (of_object : Bool) (count : ℕ) (rest more others : List ℕ) → PartsLeft o of_object count rest more → rest ≡ end_key of_object ++ others → ((tail : List ℕ) → rest ≡ end_key of_object ++ tail → Some others ≡ Some tail) → others ≡ more
end_here o of_object count rest more others l read found = elim (over_or_here o of_object count rest more l) [
  | inl x ↦ some_same others more (found more x.0)
  | inr n ↦ absurd (no_end of_object n.name n.value 512 n.readable rest others (open_key n.others ++ more) read n.occurs)
]

pub part_here : (o : Open) (of_object : Bool) (count : ℕ) (rest more : List ℕ) → PartsLeft o of_object count rest more → ((tail : List ℕ) → rest ≡ end_key of_object ++ tail → ⊥) → PartHere o of_object count rest more
part_here o of_object count rest more l not_over = elim (over_or_here o of_object count rest more l) [
  | inl x ↦ absurd (not_over more x.0)
  | inr n ↦ n
]

pub part_counted : (o : Open) (of_object : Bool) (count next : ℕ) (rest more others : List ℕ) (n : PartHere o of_object count rest more) → next ≡ count + 1 → others ≡ open_key n.others ++ more → PartsLeft o of_object next others more
part_counted o of_object count next rest more others n one occurs = record { left = n.others; is = n.is; fits = n.fits; counted = omega (arith, n.counted, one); occurs = occurs }

-- ---- what is found

pub found_none : (bytes : List ℕ) (p : Option Tree) → p ≡ None → Finds bytes p (Ok None)
found_none bytes None e = tt
found_none bytes (Some t) e = absurd (none_some t (sym e))

pub found_some : (bytes rest : List ℕ) (x : Bor (List ℕ)) (p : Option Tree) (t : Tree) → p ≡ Some t → x.now ≡ rest → PartOccurs bytes rest t → Finds bytes p (Ok (Some x))
found_some bytes rest x None t e is s = absurd (none_some t e)
found_some bytes rest x (Some u) t e is s = subst (λ r. PartOccurs bytes r u) (sym is) (subst (λ v. PartOccurs bytes rest v) (sym (some_same u t e)) s)

pub record SaysSome (bytes rest : List ℕ) (p : Option Tree) : Type 0 where
  pub part : Tree
  pub is : p ≡ Some part
  pub there : PartOccurs bytes rest part

pub says_some : (bytes : List ℕ) (x : Bor (List ℕ)) (p : Option Tree) → Finds bytes p (Ok (Some x)) → SaysSome bytes x.now p
says_some bytes x None f = absurd f
says_some bytes x (Some t) f = record { part = t; is = refl; there = f }

-- the same behind the first byte
pub found_behind : (bytes rest : List ℕ) (first : ℕ) (p : Option Tree) (r : Result (Option (Bor (List ℕ))) NoKey) → bytes ≡ first ∷ rest → Finds rest p r → Finds bytes p r
found_behind bytes rest first None (Ok None) e f = tt
found_behind bytes rest first (Some t) (Ok (Some x)) e f = record { readable = f.readable; before = first ∷ f.before; inside = e ∙ ap (λ l. first ∷ l) f.inside; behind = f.behind; occurs = f.occurs }
found_behind bytes rest first None (Ok (Some x)) e f = absurd f
found_behind bytes rest first (Some t) (Ok None) e f = absurd f
found_behind bytes rest first None (Err x) e f = absurd f
found_behind bytes rest first (Some t) (Err x) e f = absurd f

-- ---- names

-- the rest of the name beside the rest of the one that is there
pub record NamesLeft (name text left rest more : List ℕ) : Type 0 where
  pub tail : List ℕ
  pub same : bytes_cmp name text ≡ bytes_cmp left tail
  pub occurs : rest ≡ text_key tail ++ more

abbrev pub ComparesNames : List ℕ → List ℕ → List ℕ → List ℕ → Type 0
ComparesNames name bytes left rest = (text more : List ℕ) → bytes ≡ text_key text ++ more → NamesLeft name text left rest more

pub equal_names : (name text : List ℕ) → bytes_eq name text ≡ is_eq (bytes_cmp name text)
equal_names name text = sym (is_eq-slice_cmp name text)

pub below_all : (k l : List ℕ) (ms : Members) → slice_cmp nat_cmp k l ≡ Less → IsBelowKeys l ms → find_member (bytes_eq k) ms ≡ None
below_all k l no_members h below = refl
below_all k l (more_members m u ms) h below =
    let less : bytes_cmp k m ≡ Less = nat_list_cmp_total.trans k l m h below.0 in
    ap (λ b. if b then Some u else find_member (bytes_eq k) ms) (equal_names k m ∙ ap is_eq less) ∙ below_all k l ms h below.1

-- ---- members

-- the members that are left, of which those up to the name are passed too
pub record MembersHere (ms : Members) (name bytes rest more : List ℕ) : Type 0 where
  pub left : Members
  pub proper : HaveProperParts left
  pub within : HaveWithin IsAnyNumber left 511
  pub same : members_from name ms ≡ members_from name left
  pub before : List ℕ
  pub inside : bytes ≡ before ++ rest
  pub occurs : rest ≡ members_key left ++ more

abbrev pub WalksMembers : List ℕ → List ℕ → List ℕ → Type 0
WalksMembers bytes name rest = AtMembers bytes (λ ms more. MembersHere ms name bytes rest more)

-- the first of them
pub record MemberHere (ms : Members) (name bytes rest more : List ℕ) : Type 0 where
  pub key : List ℕ
  pub value : Tree
  pub readable : IsReadable value
  pub others : Members
  pub proper : HaveProperParts others
  pub within : HaveWithin IsAnyNumber others 511
  pub same : members_from name ms ≡ members_from name (more_members key value others)
  pub before : List ℕ
  pub inside : bytes ≡ before ++ rest
  pub occurs : rest ≡ text_key key ++ (key_of value ++ (members_key others ++ more))

-- the end is first, or a member is
pub over_or_member : (ms : Members) (name bytes rest more : List ℕ) → MembersHere ms name bytes rest more → ((rest ≡ end_key true ++ more) × (members_from name ms ≡ no_members)) ⊎ MemberHere ms name bytes rest more
over_or_member ms name bytes rest more m = go m.left m.proper m.within m.same m.occurs
  where
    go : (left : Members) → HaveProperParts left → HaveWithin IsAnyNumber left 511 → members_from name ms ≡ members_from name left → rest ≡ members_key left ++ more → ((rest ≡ end_key true ++ more) × (members_from name ms ≡ no_members)) ⊎ MemberHere ms name bytes rest more
    go no_members p w same occurs = inl (occurs, same)
    go (more_members k t others) p w same occurs = inr record {
      key = k;
      value = t;
      readable = readable_inside t (record { proper = p.1; within = w.0 });
      others = others;
      proper = p.2;
      within = w.1;
      same = same;
      before = m.before;
      inside = m.inside;
      occurs = occurs ∙ regroup (text_key k) (key_of t) (members_key others) more;
    }

pub member_here : (ms : Members) (name bytes rest more : List ℕ) → MembersHere ms name bytes rest more → ((tail : List ℕ) → rest ≡ end_key true ++ tail → ⊥) → MemberHere ms name bytes rest more
member_here ms name bytes rest more m not_over = elim (over_or_member ms name bytes rest more m) [
  | inl p ↦ absurd (not_over more p.0)
  | inr n ↦ n
]

-- none has the name
stops_at : (ms left : Members) (name bytes more : List ℕ) (rest : Bor (List ℕ)) → members_from name ms ≡ left → first_named name left ≡ None → rest.now ≡ members_key left ++ more → PassesTo bytes name ms more (record { rest = rest; same = None })
stops_at ms left name bytes more rest same none is = record {
  rest_is = is ∙ ap (λ l. members_key l ++ more) (sym same);
  same = found_none bytes (first_named name (members_from name ms)) (ap (first_named name) same ∙ none);
}

-- no member is left
pub stops_over : (ms : Members) (name bytes more tail : List ℕ) (rest : Bor (List ℕ)) → MembersHere ms name bytes rest.now more → rest.now ≡ end_key true ++ tail → PassesTo bytes name ms more (record { rest = rest; same = None })
stops_over ms name bytes more tail rest m over = elim (over_or_member ms name bytes rest.now more m) [
  | inl p ↦ stops_at ms no_members name bytes more rest p.1 refl p.0
  | inr n ↦ absurd (no_end true n.key n.value 512 n.readable rest.now tail (members_key n.others ++ more) over n.occurs)
]

-- the first one that is left, where the name isn't above it
here : (o : Ordering) (ms : Members) (name bytes rest more : List ℕ) (n : MemberHere ms name bytes rest more) → bytes_cmp name n.key ≡ o → is_gt o ≡ false → members_from name ms ≡ more_members n.key n.value n.others
here o ms name bytes rest more n is below = n.same ∙ ap (λ b. if b then members_from name n.others else more_members n.key n.value n.others) (ap is_gt is ∙ below)

-- the name is below the first one that is left, if there is any
pub stops_below : (ms : Members) (name bytes more : List ℕ) (rest : Bor (List ℕ)) (o : Ordering) → MembersHere ms name bytes rest.now more → ((text others : List ℕ) → rest.now ≡ text_key text ++ others → o ≡ bytes_cmp name text) → o ≡ Less → PassesTo bytes name ms more (record { rest = rest; same = None })
stops_below ms name bytes more rest o m compares less = elim (over_or_member ms name bytes rest.now more m) [
  | inl p ↦ stops_at ms no_members name bytes more rest p.1 refl p.0
  | inr n ↦
      let is : bytes_cmp name n.key ≡ Less = sym (compares n.key _ n.occurs) ∙ less in
      stops_at ms (more_members n.key n.value n.others) name bytes more rest (here Less ms name bytes rest.now more n is refl)
      (ap (λ b. if b then Some n.value else None) (equal_names name n.key ∙ ap is_eq is))
      (n.occurs ∙ sym (regroup (text_key n.key) (key_of n.value) (members_key n.others) more))
]

-- the first one that is left has it
pub stops_here : (ms : Members) (name bytes more : List ℕ) (rest value : Bor (List ℕ)) (n : MemberHere ms name bytes rest.now more) → bytes_cmp name n.key ≡ Equal → value.now ≡ key_of n.value ++ (members_key n.others ++ more) → PassesTo bytes name ms more (record { rest = rest; same = Some value })
stops_here ms name bytes more rest value n is there =
    let left = more_members n.key n.value n.others in
    let same = here Equal ms name bytes rest.now more n is refl in
    record {
      rest_is = n.occurs ∙ sym (regroup (text_key n.key) (key_of n.value) (members_key n.others) more) ∙ ap (λ l. members_key l ++ more) (sym same);
      same = found_some bytes value.now value (first_named name (members_from name ms)) n.value
          (ap (first_named name) same ∙ ap (λ b. if b then Some n.value else None) (equal_names name n.key ∙ ap is_eq is)) refl (record {
            readable = n.readable;
            before = n.before ++ text_key n.key;
            inside = n.inside ∙ ap (λ l. n.before ++ l) (n.occurs ∙ ap (λ l. text_key n.key ++ l) (sym there)) ∙ sym (append_assoc n.before (text_key n.key) value.now);
            behind = members_key n.others ++ more;
            occurs = there;
          });
    }

pub member_passed : (ms : Members) (name bytes rest more others : List ℕ) (n : MemberHere ms name bytes rest more) → bytes_cmp name n.key ≡ Greater → others ≡ members_key n.others ++ more → MembersHere ms name bytes others more
member_passed ms name bytes rest more others n above occurs = record {
  left = n.others;
  proper = n.proper;
  within = n.within;
  same = n.same ∙ ap (λ b. if b then members_from name n.others else more_members n.key n.value n.others) (ap is_gt above);
  before = n.before ++ (text_key n.key ++ key_of n.value);
  inside = n.inside ∙ ap (λ l. n.before ++ l) (n.occurs ∙ ap (λ l. text_key n.key ++ (key_of n.value ++ l)) (sym occurs)) ∙ moved n.before (text_key n.key) (key_of n.value) others;
  occurs = occurs;
}
  where
    moved : (a b c d : List ℕ) → a ++ (b ++ (c ++ d)) ≡ (a ++ (b ++ c)) ++ d
    moved a b c d = simp append_assoc

-- where names ascend, the member of that name is found so
found_in : (k : List ℕ) (t : Tree) (ms : Members) (name : List ℕ) → IsBelowKeys k ms → first_named name (members_from name ms) ≡ find_member (bytes_eq name) ms → (o : Ordering) → bytes_cmp name k ≡ o
    → first_named name (members_from name (more_members k t ms)) ≡ find_member (bytes_eq name) (more_members k t ms)
found_in k t ms name below others o is = go o is
  where
    first : (o : Ordering) → bytes_cmp name k ≡ o → first_named name (members_from name (more_members k t ms)) ≡ first_named name (if is_gt o then members_from name ms else more_members k t ms)
    first o is = ap (λ p. first_named name (if is_gt p then members_from name ms else more_members k t ms)) is

    named : (o : Ordering) (found : Option Tree) → bytes_cmp name k ≡ o → (if bytes_eq name k then Some t else found) ≡ (if is_eq o then Some t else found)
    named o found is = ap (λ b. if b then Some t else found) (equal_names name k ∙ ap is_eq is)

    go : (o : Ordering) → bytes_cmp name k ≡ o → first_named name (members_from name (more_members k t ms)) ≡ find_member (bytes_eq name) (more_members k t ms)
    go Less is = first Less is ∙ named Less None is ∙ sym (named Less (find_member (bytes_eq name) ms) is ∙ below_all name k ms is below)
    go Equal is = first Equal is ∙ named Equal None is ∙ sym (named Equal (find_member (bytes_eq name) ms) is)
    go Greater is = first Greater is ∙ others ∙ sym (named Greater (find_member (bytes_eq name) ms) is)

pub found_by_name : (ms : Members) (name : List ℕ) → KeysAscend ms → first_named name (members_from name ms) ≡ find_member (bytes_eq name) ms
found_by_name no_members name a = refl
found_by_name (more_members k t ms) name a = found_in k t ms name a.0 (found_by_name ms name a.1) (bytes_cmp name k) refl

-- ---- items

pub record ItemsHere (ts : Trees) (index before : ℕ) (bytes rest more : List ℕ) : Type 0 where
  pub left : Trees
  pub proper : AreProper left
  pub within : AreWithin IsAnyNumber left 511
  pub same : item_at ts index ≡ item_at left before
  pub passed : List ℕ
  pub inside : bytes ≡ passed ++ rest
  pub occurs : rest ≡ items_key left ++ more

abbrev pub WalksItems : List ℕ → ℕ → ℕ → List ℕ → Type 0
WalksItems bytes index before rest = (ts : Trees) → AreProper ts → AreWithin IsAnyNumber ts 511 → (more : List ℕ) → bytes ≡ items_key ts ++ more → ItemsHere ts index before bytes rest more

pub record ItemHere (ts : Trees) (index before : ℕ) (bytes rest more : List ℕ) : Type 0 where
  pub item : Tree
  pub readable : IsReadable item
  pub others : Trees
  pub proper : AreProper others
  pub within : AreWithin IsAnyNumber others 511
  pub same : item_at ts index ≡ item_at (more_trees item others) before
  pub passed : List ℕ
  pub inside : bytes ≡ passed ++ rest
  pub occurs : rest ≡ key_of item ++ (items_key others ++ more)

pub no_item_here : (ts : Trees) (index before : ℕ) (bytes rest more tail : List ℕ) → ItemsHere ts index before bytes rest more → rest ≡ end_key false ++ tail → item_at ts index ≡ None
no_item_here ts index before bytes rest more tail m over = go m.left m.proper m.within m.same m.occurs
  where
    go : (left : Trees) → AreProper left → AreWithin IsAnyNumber left 511 → item_at ts index ≡ item_at left before → rest ≡ items_key left ++ more → item_at ts index ≡ None
    go no_trees p w same occurs = same
    go (more_trees t others) p w same occurs = absurd (no_end false [] t 511 (record { proper = p.0; within = w.0 }) rest tail (items_key others ++ more) over (occurs ∙ append_assoc (key_of t) (items_key others) more))

pub item_here : (ts : Trees) (index before : ℕ) (bytes rest more : List ℕ) → ItemsHere ts index before bytes rest more → ((tail : List ℕ) → rest ≡ end_key false ++ tail → ⊥) → ItemHere ts index before bytes rest more
item_here ts index before bytes rest more m not_over = go m.left m.proper m.within m.same m.occurs
  where
    go : (left : Trees) → AreProper left → AreWithin IsAnyNumber left 511 → item_at ts index ≡ item_at left before → rest ≡ items_key left ++ more → ItemHere ts index before bytes rest more
    go no_trees p w same occurs = absurd (not_over more occurs)
    go (more_trees t others) p w same occurs = record {
      item = t;
      readable = readable_inside t (record { proper = p.0; within = w.0 });
      others = others;
      proper = p.1;
      within = w.1;
      same = same;
      passed = m.passed;
      inside = m.inside;
      occurs = occurs ∙ append_assoc (key_of t) (items_key others) more;
    }

pub item_is : (ts : Trees) (index before : ℕ) (bytes rest more : List ℕ) (n : ItemHere ts index before bytes rest more) → before ≡ 0 → item_at ts index ≡ Some n.item
item_is ts index before bytes rest more n over = n.same ∙ ap (item_at (more_trees n.item n.others)) over

pub item_occurs : (ts : Trees) (index before : ℕ) (bytes rest more : List ℕ) (n : ItemHere ts index before bytes rest more) → PartOccurs bytes rest n.item
item_occurs ts index before bytes rest more n = record { readable = n.readable; before = n.passed; inside = n.inside; behind = items_key n.others ++ more; occurs = n.occurs }

pub item_passed : (ts : Trees) (index before less : ℕ) (bytes rest more others : List ℕ) (n : ItemHere ts index before bytes rest more) → less + 1 ≡ before → others ≡ items_key n.others ++ more → ItemsHere ts index less bytes others more
item_passed ts index before less bytes rest more others n one occurs =
    let is : before ≡ suc less = omega (arith, one) in
    record {
      left = n.others;
      proper = n.proper;
      within = n.within;
      same = n.same ∙ ap (item_at (more_trees n.item n.others)) is;
      passed = n.passed ++ key_of n.item;
      inside = n.inside ∙ ap (λ l. n.passed ++ l) (n.occurs ∙ ap (λ l. key_of n.item ++ l) (sym occurs)) ∙ sym (append_assoc n.passed (key_of n.item) others);
      occurs = occurs;
    }

-- ---- items from the end

pub some_back : (ts : Trees) (back index : ℕ) → index + back ≡ trees_len ts → item_back ts back ≡ item_at ts index
some_back ts back index e =
    let same : trees_len ts - back ≡ index = omega (arith, e) in
    ap (λ b. if b then None else item_at ts (trees_len ts - back)) (le-ltb (trees_len ts) back (omega (arith, e))) ∙ ap (item_at ts) same

pub none_back : (ts : Trees) (back : ℕ) → trees_len ts < back → item_back ts back ≡ None
none_back ts back h = ap (λ b. if b then None else item_at ts (trees_len ts - back)) (lt-ltb (trees_len ts) back h)

-- ---- paths

-- the part at the names so far, in which the part at the others is the one of all
pub record PathHere (t : Tree) (names left : List (List ℕ)) (key part : List ℕ) : Type 0 where
  pub inner : Tree
  pub there : PartOccurs key part inner
  pub same : part_at names t ≡ part_at left inner

abbrev pub WalksPath : List ℕ → List (List ℕ) → List (List ℕ) → List ℕ → Type 0
WalksPath key names left part = (t : Tree) → IsReadable t → (more : List ℕ) → key ≡ key_of t ++ more → PathHere t names left key part

pub path_begun : (key : List ℕ) (names : List (List ℕ)) → WalksPath key names names key
path_begun key names = λ t r more e. record { inner = t; there = record { readable = r; before = []; inside = refl; behind = more; occurs = e }; same = refl }

-- a part of a part
pub inside_of : (key part rest : List ℕ) (t u : Tree) → PartOccurs key part t → PartOccurs part rest u → PartOccurs key rest u
inside_of key part rest t u p q = record { readable = q.readable; before = p.before ++ q.before; inside = p.inside ∙ ap (λ l. p.before ++ l) q.inside ∙ sym (append_assoc p.before q.before rest); behind = q.behind; occurs = q.occurs }

pub path_walked : (t : Tree) (names left others : List (List ℕ)) (name key part rest : List ℕ) (p : PathHere t names left key part) → left ≡ name ∷ others → SaysSome part rest (child_at name p.inner) → PathHere t names others key rest
path_walked t names left others name key part rest p first f = record {
  inner = f.part;
  there = inside_of key part rest p.inner f.part p.there f.there;
  same = p.same ∙ ap (λ l. part_at l p.inner) first ∙ ap (option_and_then (part_at others)) f.is;
}

-- ---- one part after the other

pub next_over : (o : Open) (of_object : Bool) (left tail more : List ℕ) → is_object o ≡ of_object → IsOpen o 511 → left ≡ open_key o ++ more → left ≡ end_key of_object ++ tail → IsNext o more (Ok None)
next_over (items no_trees) of_object left tail more is h e over = tt
next_over (items (more_trees t ts)) of_object left tail more is h e over =
    absurd (no_end false [] t 511 (record { proper = h.0.0; within = h.1.0 }) left tail (items_key ts ++ more) (over ∙ ap (λ b. end_key b ++ tail) (sym is)) (e ∙ append_assoc (key_of t) (items_key ts) more))
next_over (members no_members) of_object left tail more is h e over = tt
next_over (members (more_members k t ms)) of_object left tail more is h e over =
    absurd (no_end true k t 511 (record { proper = h.0.1; within = h.1.0 }) left tail (members_key ms ++ more) (over ∙ ap (λ b. end_key b ++ tail) (sym is)) (e ∙ regroup (text_key k) (key_of t) (members_key ms) more))

-- the first part that is left, and what its exponent says of it
pub record NextOccurs (o : Open) (of_object : Bool) (left more : List ℕ) : Type 0 where
  pub name : List ℕ
  pub value : Tree
  pub readable : IsReadable value
  pub others : List ℕ
  pub occurs : left ≡ name_key of_object name ++ (key_of value ++ (others ++ more))
  pub reported : (v w : Bor (List ℕ)) → v.now ≡ key_of value ++ (others ++ more) → w.now ≡ others ++ more → IsNext o more (Ok (Some (v, w)))

pub next_occurs : (o : Open) (of_object : Bool) (left more : List ℕ) → is_object o ≡ of_object → IsOpen o 511 → left ≡ open_key o ++ more → ((tail : List ℕ) → left ≡ end_key of_object ++ tail → ⊥) → NextOccurs o of_object left more
next_occurs (items no_trees) of_object left more is h e not_over = absurd (not_over more (e ∙ ap (λ b. end_key b ++ more) is))
next_occurs (items (more_trees t ts)) of_object left more is h e not_over = record {
  name = [];
  value = t;
  readable = readable_inside t (record { proper = h.0.0; within = h.1.0 });
  others = items_key ts;
  occurs = e ∙ append_assoc (key_of t) (items_key ts) more ∙ ap (λ b. name_key b [] ++ (key_of t ++ (items_key ts ++ more))) is;
  reported = λ v w p q. (p, q);
}
next_occurs (members no_members) of_object left more is h e not_over = absurd (not_over more (e ∙ ap (λ b. end_key b ++ more) is))
next_occurs (members (more_members k t ms)) of_object left more is h e not_over = record {
  name = k;
  value = t;
  readable = readable_inside t (record { proper = h.0.1; within = h.1.0 });
  others = members_key ms;
  occurs = e ∙ regroup (text_key k) (key_of t) (members_key ms) more ∙ ap (λ b. name_key b k ++ (key_of t ++ (members_key ms ++ more))) is;
  reported = λ v w p q. (p, q);
}

-- ---- counts

pub no_count : (e : NoKey) (n : ℕ) → ◌≡◌ {A = Result ℕ NoKey} (Err e) (Ok n) → ⊥
no_count e n x = cc

pub same_count : (m n : ℕ) → ◌≡◌ {A = Result ℕ NoKey} (Ok m) (Ok n) → m ≡ n
same_count m n x = cc

-- ---- an array or an object, by what is reported of its first byte

pub true_false : true ≡ false → ⊥
true_false x = cc

pub record ArrayLeft (t : Tree) (rest more : List ℕ) : Type 0 where
  pub ts : Trees
  pub is : array ts ≡ t
  pub proper : AreProper ts
  pub within : AreWithin IsAnyNumber ts 511
  pub occurs : rest ≡ items_key ts ++ more

pub array_left : (t : Tree) (b : Bool) (rest more : List ℕ) → IsLeftOf t b rest more → b ≡ false → ArrayLeft t rest more
array_left t b rest more l no_object = go l.all l.whole l.is l.fits l.occurs
  where
    go : (o : Open) → opened_tree o ≡ t → is_object o ≡ b → IsOpen o 511 → rest ≡ open_key o ++ more → ArrayLeft t rest more
    go (items ts) whole is h e = record { ts = ts; is = whole; proper = h.0; within = h.1; occurs = e }
    go (members ms) whole is h e = absurd (true_false (is ∙ no_object))

pub record ObjectLeft (t : Tree) (rest more : List ℕ) : Type 0 where
  pub ms : Members
  pub is : object ms ≡ t
  pub ascend : KeysAscend ms
  pub proper : HaveProperParts ms
  pub within : HaveWithin IsAnyNumber ms 511
  pub occurs : rest ≡ members_key ms ++ more

pub object_left : (t : Tree) → IsReadable t → (b : Bool) (rest more : List ℕ) → IsLeftOf t b rest more → b ≡ true → ObjectLeft t rest more
object_left t r b rest more l an_object = go l.all l.whole l.is l.fits l.occurs
  where
    go : (o : Open) → opened_tree o ≡ t → is_object o ≡ b → IsOpen o 511 → rest ≡ open_key o ++ more → ObjectLeft t rest more
    go (items ts) whole is h e = absurd (true_false (sym an_object ∙ sym is))
    go (members ms) whole is h e = record { ms = ms; is = whole; ascend = (subst IsReadable (sym whole) r).proper.0; proper = h.0; within = h.1; occurs = e }

pub by_index : (z : ℤ) (n : ℕ) (ts : Trees) → n ≡ unsigned_abs z → (z <ℤ pos 0 → ⊥) → item_from z (array ts) ≡ item_at ts n
by_index (pos k) n ts e h = ap (item_at ts) (sym e)
by_index (negsuc k) n ts e h = absurd (h (omega (arith, ints)))

pub by_back : (z : ℤ) (n : ℕ) (ts : Trees) → n ≡ unsigned_abs z → z <ℤ pos 0 → item_from z (array ts) ≡ item_back ts n
by_back (pos k) n ts e h = absurd (omega (arith, ints, h))
by_back (negsuc k) n ts e h = ap (item_back ts) (sym e)
