-- Where a part is among the parts of an array or an object: the walk to it.
use Rattle.std.proofs.Common.{◌≡◌, ℕ, zero, suc, ◌-◌, nat_lt, Bool, true, false, List, [], ◌++◌, Bor, Option, Some, None, option_map, Ok, Err, Ordering, Less, Equal, Greater, if◌then◌else◌, refl, sym, ap, subst, ◌∙◌, append_assoc}
use Rattle.std.specs.Option.{option_and_then}
use Rattle.std.specs.Ordering.{match_ordering, MatchOrdering}
use Rattle.jsonb_spec.specs.SortKey.Readable.{IsAnyNumber, IsReadable}
use Rattle.key_walk.specs.AtKeys.{AtMembers}
use Rattle.key_walk.specs.Found.{IsNext}
use Rattle.jsonb_spec.specs.SortKey.Open.{Open, items, members, is_object, open_key, end_key, name_key, IsOpen}
use Rattle.key_walk.specs.declared.find.NoKey.{NoKey}
use Rattle.key_walk.proofs.Finds.{readable_inside}
use Rattle.key_walk.proofs.Occurrence.{NextOccurs, next_over}
use Rattle.jsonb_spec.specs.Accessors.{trees_len}
use Rattle.jsonb_spec.specs.Order.{bytes_cmp}
use Rattle.jsonb_spec.specs.Proper.{AreProper, HaveProperParts}
use Rattle.jsonb_spec.specs.SortKey.{key_of, items_key, members_key, text_key}
use Rattle.jsonb_spec.specs.Text.Range.{IsWithin, AreWithin, HaveWithin}
use Rattle.jsonb_spec.specs.Tree.{Tree, Trees, no_trees, more_trees, Members, no_members, more_members}
use Rattle.jsonb_spec.specs.Edit.{Outcome, stays, goes, becomes, changed_at_step, changed_item, changed_member, item_before, member_before, step_named}
use Rattle.jsonb_spec.specs.Edit.Spots.{Answers}
use Rattle.key_edit.specs.Spots.{OpenWithin, SpotIn, Occurs, OccursFirst, changed_open, index_in, items_from}
use Rattle.key_edit.specs.declared.spot.Spot.{Spot}
use Rattle.key_edit.proofs.Lifting.{Lifts, lifted, lifts_same}

-- what is left of an array or an object, and these bytes behind it
abbrev pub key_before : List ℕ → Open → List ℕ
key_before more o = open_key o ++ more

abbrev pub fits_in : ℕ → Open → Type 0
fits_in depth_left o = OpenWithin o depth_left

abbrev pub LeftLifts : List ℕ → ℕ → List ℕ → Option Open → Option Open → Type 0
LeftLifts more depth_left before x y = Lifts (key_before more) (fits_in depth_left) (key_before more) (fits_in depth_left) before x y

abbrev pub LeftSpot : List ℕ → ℕ → ((Option Tree → Outcome) → Option Open) → Bool → List ℕ → List ℕ → Spot → Type 0
LeftSpot more depth_left changed object name bytes spot = SpotIn (key_before more) (fits_in depth_left) changed object name bytes depth_left spot

regroup : (name value others more : List ℕ) → (name ++ (value ++ others)) ++ more ≡ name ++ (value ++ (others ++ more))
regroup name value others more = simp append_assoc

-- what is left of an array or an object has a first part, or none
pub no_first : (o : Open) (more : List ℕ) (e : NoKey) → OccursFirst o more (Err e) → ⊥
no_first (items no_trees) more e n = n
no_first (items (more_trees t ts)) more e n = n
no_first (members no_members) more e n = n
no_first (members (more_members k t ms)) more e n = n

pub first_over : (o : Open) (object : Bool) (left tail more : List ℕ) → is_object o ≡ object → IsOpen o 511 → left ≡ open_key o ++ more → left ≡ end_key object ++ tail → OccursFirst o more (Ok None)
first_over o object left tail more is h e over = go o (next_over o object left tail more is h e over)
  where
    go : (o : Open) → IsNext o more (Ok None) → OccursFirst o more (Ok None)
    go (items no_trees) n = n
    go (items (more_trees t ts)) n = n
    go (members no_members) n = n
    go (members (more_members k t ms)) n = n

pub first_occurs : (o : Open) (object : Bool) (left more : List ℕ) (v : Bor (List ℕ)) (n : NextOccurs o object left more) → v.now ≡ key_of n.value ++ (n.others ++ more) → OccursFirst o more (Ok (Some v))
first_occurs o object left more v n is = go o v rest (n.reported v rest is refl)
  where
    rest : Bor (List ℕ)
    rest = record { ref_ptr = v.ref_ptr; now = n.others ++ more }

    go : (o : Open) (v w : Bor (List ℕ)) → IsNext o more (Ok (Some (v, w))) → OccursFirst o more (Ok (Some v))
    go (items no_trees) v w n = n
    go (items (more_trees t ts)) v w n = n.0
    go (members no_members) v w n = n
    go (members (more_members k t ms)) v w n = n.0

-- ---- what becomes of the first part

first_member : (name behind more : List ℕ) (depth_left : ℕ) (ms : Members) → HaveWithin IsAnyNumber ms depth_left → behind ≡ members_key ms ++ more → (outcome : Outcome) → Answers (key_before more) (fits_in depth_left) true name [] behind depth_left outcome (option_map members (member_before name outcome ms))
first_member name behind more depth_left ms w e stays = tt
first_member name behind more depth_left ms w e goes = (sym e, w)
first_member name behind more depth_left ms w e (becomes t) = (regroup (text_key name) (key_of t) (members_key ms) more ∙ ap (λ key. text_key name ++ (key_of t ++ key)) (sym e), (λ h. h.0, λ h. (h, w)))

pub first_item : (name behind more : List ℕ) (depth_left : ℕ) (ts : Trees) → AreWithin IsAnyNumber ts depth_left → behind ≡ items_key ts ++ more → (outcome : Outcome) → Answers (key_before more) (fits_in depth_left) false name [] behind depth_left outcome (option_map items (item_before outcome ts))
first_item name behind more depth_left ts w e stays = tt
first_item name behind more depth_left ts w e goes = (sym e, w)
first_item name behind more depth_left ts w e (becomes t) = (append_assoc (key_of t) (items_key ts) more ∙ ap (λ key. key_of t ++ key) (sym e), (λ h. h.0, λ h. (h, w)))

-- ---- spots

-- a spot in what is left, as one in all
abbrev pub lifted_spot : {A B : Type 0} (key : A → List ℕ) (Fits : A → Type 0) (others : B → List ℕ) (AlsoFits : B → Type 0) (f : (Option Tree → Outcome) → Option A) (g : (Option Tree → Outcome) → Option B) (object : Bool) (name front bytes rest : List ℕ) (depth_left : ℕ) (spot : Spot)
    → bytes ≡ front ++ rest → ((change : Option Tree → Outcome) → Lifts key Fits others AlsoFits front (f change) (g change)) → SpotIn key Fits f object name rest depth_left spot → SpotIn others AlsoFits g object name bytes depth_left spot
lifted_spot key Fits others AlsoFits f g object name front bytes rest depth_left spot is l s = record {
  there = s.there;
  name = s.name;
  front = front ++ s.front;
  behind = s.behind;
  inside = is ∙ ap (λ key. front ++ key) s.inside ∙ sym (append_assoc front s.front spot.entry.now);
  occurs = s.occurs;
  named = s.named;
  readable = s.readable;
  fits = s.fits;
  answers = λ change. lifted key Fits others AlsoFits object s.name front s.front s.behind depth_left (change s.there) (f change) (g change) (l change) (s.answers change);
}

-- a spot of changes that are the same
pub spot_as : {A : Type 0} (key : A → List ℕ) (Fits : A → Type 0) (f g : (Option Tree → Outcome) → Option A) (object : Bool) (name bytes : List ℕ) (depth_left : ℕ) (spot : Spot) → ((change : Option Tree → Outcome) → f change ≡ g change) → SpotIn key Fits f object name bytes depth_left spot → SpotIn key Fits g object name bytes depth_left spot
spot_as key Fits f g object name bytes depth_left spot same = lifted_spot key Fits key Fits f g object name [] bytes bytes depth_left spot refl (λ change. subst (Lifts key Fits key Fits [] (f change)) (same change) (lifts_same key Fits (f change)))

-- no part is there, before these bytes
abbrev pub nothing_there : (more : List ℕ) (depth_left : ℕ) (f : Outcome → Option Open) (object : Bool) (name bytes : List ℕ) (spot : Spot) → (spot.found ≡ false) × (spot.entry.now ≡ bytes) → ((outcome : Outcome) → Answers (key_before more) (fits_in depth_left) object name [] bytes depth_left outcome (f outcome)) → LeftSpot more depth_left (λ change. f (change None)) object name bytes spot
nothing_there more depth_left f object name bytes spot s answers = record {
  there = None;
  name = name;
  front = [];
  behind = bytes;
  inside = sym s.1;
  occurs = s;
  named = λ e. refl;
  readable = tt;
  fits = tt;
  answers = λ change. answers (change None);
}

-- the part is there, and these bytes are behind it
something_there : (more : List ℕ) (depth_left : ℕ) (f : Outcome → Option Open) (object : Bool) (asked name bytes behind : List ℕ) (t : Tree) (spot : Spot) → Occurs object name spot behind (Some t) → bytes ≡ name_key object name ++ (key_of t ++ behind) → IsReadable t → IsWithin IsAnyNumber t depth_left
    → ((outcome : Outcome) → Answers (key_before more) (fits_in depth_left) object name [] behind depth_left outcome (f outcome)) → LeftSpot more depth_left (λ change. f (change (Some t))) object asked bytes spot
something_there more depth_left f object asked name bytes behind t spot o e r fits answers = record {
  there = Some t;
  name = name;
  front = [];
  behind = behind;
  inside = e ∙ ap (λ key. name_key object name ++ key) (sym o.2) ∙ sym o.1;
  occurs = o;
  named = λ none. absurd (some_none t none);
  readable = r;
  fits = fits;
  answers = λ change. answers (change (Some t));
}
  where
    some_none : (t : Tree) → Some t ≡ None → ⊥
    some_none t e = cc

-- ---- members

more_lifts : (k : List ℕ) (t : Tree) (more : List ℕ) (depth_left : ℕ) → IsWithin IsAnyNumber t depth_left → (x : Option Members) → LeftLifts more depth_left (text_key k ++ key_of t) (option_map members x) (option_map members (option_map (more_members k t) x))
more_lifts k t more depth_left w None = tt
more_lifts k t more depth_left w (Some ms) = (grouped (text_key k) (key_of t) (members_key ms) more, (λ h. h.1, λ h. (w, h)))
  where
    grouped : (a b c d : List ℕ) → (a ++ (b ++ c)) ++ d ≡ (a ++ b) ++ (c ++ d)
    grouped a b c d = simp append_assoc

-- the spot is at the member of that name, or where it would be
abbrev pub IsAtMember : List ℕ → Members → List ℕ → Spot → Type 0
IsAtMember name no_members more spot = Occurs true name spot (members_key no_members ++ more) None
IsAtMember name (more_members k t ms) more spot = MatchOrdering (bytes_cmp name k) (Occurs true name spot (members_key (more_members k t ms) ++ more) None) (Occurs true k spot (members_key ms ++ more) (Some t)) (IsAtMember name ms more spot)

-- by how the name compares with that of the first
abbrev pub IsAtFirst : List ℕ → List ℕ → Tree → Members → List ℕ → Spot → Ordering → Type 0
IsAtFirst name k t ms more spot o = MatchOrdering o (Occurs true name spot (members_key (more_members k t ms) ++ more) None) (Occurs true k spot (members_key ms ++ more) (Some t)) (IsAtMember name ms more spot)

pub member_there : (name : List ℕ) (ms : Members) (bytes more : List ℕ) (depth_left : ℕ) (spot : Spot) → HaveProperParts ms → HaveWithin IsAnyNumber ms 511 → HaveWithin IsAnyNumber ms depth_left → bytes ≡ members_key ms ++ more → IsAtMember name ms more spot → LeftSpot more depth_left (λ change. option_map members (changed_member change name ms)) true name bytes spot
member_there name no_members bytes more depth_left spot p w f e at =
    nothing_there more depth_left (λ outcome. option_map members (member_before name outcome no_members)) true name bytes spot (at.0, at.1 ∙ sym e) (first_member name bytes more depth_left no_members f e)
member_there name (more_members k t ms) bytes more depth_left spot p w f e at = by (bytes_cmp name k) at (member_there name ms (members_key ms ++ more) more depth_left spot p.2 w.1 f.1 refl)
  where
    by : (o : Ordering) → IsAtFirst name k t ms more spot o → (IsAtMember name ms more spot → LeftSpot more depth_left (λ change. option_map members (changed_member change name ms)) true name (members_key ms ++ more) spot) → LeftSpot more depth_left (λ change. option_map members (match_ordering o (member_before name (change None) (more_members k t ms)) (member_before k (change (Some t)) ms) (option_map (more_members k t) (changed_member change name ms)))) true name bytes spot
    by Less at behind = nothing_there more depth_left (λ outcome. option_map members (member_before name outcome (more_members k t ms))) true name bytes spot (at.0, at.1 ∙ sym e) (first_member name bytes more depth_left (more_members k t ms) f e)
    by Equal at behind = something_there more depth_left (λ outcome. option_map members (member_before k outcome ms)) true name k bytes (members_key ms ++ more) t spot at (e ∙ regroup (text_key k) (key_of t) (members_key ms) more) (readable_inside t (record { proper = p.1; within = w.0 })) f.0 (first_member k (members_key ms ++ more) more depth_left ms f.1 refl)
    by Greater at behind = lifted_spot (key_before more) (fits_in depth_left) (key_before more) (fits_in depth_left) (λ change. option_map members (changed_member change name ms)) (λ change. option_map members (option_map (more_members k t) (changed_member change name ms))) true name (text_key k ++ key_of t) bytes (members_key ms ++ more) depth_left spot
        (e ∙ regroup (text_key k) (key_of t) (members_key ms) more ∙ sym (append_assoc (text_key k) (key_of t) (members_key ms ++ more)))
        (λ change. more_lifts k t more depth_left f.0 (changed_member change name ms)) (behind at)

-- the members that are left, at which the spot is that of all
pub record MembersLeft (ms : Members) (name rest more : List ℕ) : Type 0 where
  pub left : Members
  pub readable : IsOpen (members left) 511
  pub occurs : rest ≡ members_key left ++ more
  pub whole : (spot : Spot) → IsAtMember name left more spot → IsAtMember name ms more spot

abbrev pub WalksMembers : List ℕ → List ℕ → List ℕ → Type 0
WalksMembers bytes name rest = AtMembers bytes (λ ms more. MembersLeft ms name rest more)

-- none is left
pub member_over : (left : Members) (name rest more : List ℕ) (spot : Spot) → OccursFirst (members left) more (Ok None) → rest ≡ members_key left ++ more → (spot.found ≡ false) × (spot.entry.now ≡ rest) → IsAtMember name left more spot
member_over no_members name rest more spot n e s = (s.0, s.1 ∙ e)
member_over (more_members k t ms) name rest more spot n e s = absurd n

-- the first of them
pub record MemberNext (left : Members) (rest more value : List ℕ) : Type 0 where
  pub key : List ℕ
  pub tree : Tree
  pub others : Members
  pub is : left ≡ more_members key tree others
  pub readable : IsReadable tree
  pub others_open : IsOpen (members others) 511
  pub occurs : rest ≡ members_key (more_members key tree others) ++ more
  pub entry : rest ≡ text_key key ++ value
  pub value_is : value ≡ key_of tree ++ (members_key others ++ more)

pub member_next : (left : Members) (rest more : List ℕ) (v : Bor (List ℕ)) → IsOpen (members left) 511 → rest ≡ members_key left ++ more → OccursFirst (members left) more (Ok (Some v)) → MemberNext left rest more v.now
member_next no_members rest more v h e n = absurd n
member_next (more_members k t others) rest more v h e n = record {
  key = k;
  tree = t;
  others = others;
  is = refl;
  readable = readable_inside t (record { proper = h.0.1; within = h.1.0 });
  others_open = (h.0.2, h.1.1);
  occurs = e;
  entry = e ∙ regroup (text_key k) (key_of t) (members_key others) more ∙ ap (λ key. text_key k ++ key) (sym n);
  value_is = n;
}

-- the spot is at the first, before it or behind it
pub at_first : (ms : Members) (name rest more value : List ℕ) (spot : Spot) (l : MembersLeft ms name rest more) (n : MemberNext l.left rest more value) (o : Ordering) → bytes_cmp name n.key ≡ o → IsAtFirst name n.key n.tree n.others more spot o → IsAtMember name ms more spot
at_first ms name rest more value spot l n o is at =
    l.whole spot (subst (λ left. IsAtMember name left more spot) (sym n.is) (subst (IsAtFirst name n.key n.tree n.others more spot) (sym is) at))

-- ---- items

pub more_items_lift : (t : Tree) (more : List ℕ) (depth_left : ℕ) → IsWithin IsAnyNumber t depth_left → (x : Option Trees) → LeftLifts more depth_left (key_of t) (option_map items x) (option_map items (option_map (more_trees t) x))
more_items_lift t more depth_left w None = tt
more_items_lift t more depth_left w (Some ts) = (append_assoc (key_of t) (items_key ts) more, (λ h. h.1, λ h. (w, h)))

-- the spot is at the first item, or at the end
abbrev pub IsAtItem : Trees → List ℕ → Spot → Type 0
IsAtItem no_trees more spot = Occurs false [] spot (items_key no_trees ++ more) None
IsAtItem (more_trees t ts) more spot = Occurs false [] spot (items_key ts ++ more) (Some t)

pub item_over : (ts : Trees) (rest more : List ℕ) (spot : Spot) → OccursFirst (items ts) more (Ok None) → rest ≡ items_key ts ++ more → (spot.found ≡ false) × (spot.entry.now ≡ rest) → IsAtItem ts more spot
item_over no_trees rest more spot n e s = (s.0, s.1 ∙ e)
item_over (more_trees t ts) rest more spot n e s = absurd n

pub item_first : (ts : Trees) (rest more : List ℕ) (v : Bor (List ℕ)) (spot : Spot) → OccursFirst (items ts) more (Ok (Some v)) → rest ≡ items_key ts ++ more → spot.found ≡ true → spot.entry.now ≡ rest → spot.value.now ≡ v.now → IsAtItem ts more spot
item_first no_trees rest more v spot n e found entry value = absurd n
item_first (more_trees t ts) rest more v spot n e found entry value = (found, entry ∙ e ∙ append_assoc (key_of t) (items_key ts) more ∙ sym (value ∙ n), value ∙ n)

item_there : (index : ℕ) (ts : Trees) (name bytes more : List ℕ) (depth_left : ℕ) (spot : Spot) → AreProper ts → AreWithin IsAnyNumber ts 511 → AreWithin IsAnyNumber ts depth_left → bytes ≡ items_key ts ++ more → IsAtItem (items_from index ts) more spot → LeftSpot more depth_left (λ change. option_map items (changed_item change index ts)) false name bytes spot
item_there zero no_trees name bytes more depth_left spot p w f e at = nothing_there more depth_left (λ outcome. option_map items (item_before outcome no_trees)) false name bytes spot (at.0, at.1 ∙ sym e) (first_item name bytes more depth_left no_trees f e)
item_there (suc index) no_trees name bytes more depth_left spot p w f e at = nothing_there more depth_left (λ outcome. option_map items (item_before outcome no_trees)) false name bytes spot (at.0, at.1 ∙ sym e) (first_item name bytes more depth_left no_trees f e)
item_there zero (more_trees t ts) name bytes more depth_left spot p w f e at =
    something_there more depth_left (λ outcome. option_map items (item_before outcome ts)) false name name bytes (items_key ts ++ more) t spot at (e ∙ append_assoc (key_of t) (items_key ts) more) (readable_inside t (record { proper = p.0; within = w.0 })) f.0 (first_item name (items_key ts ++ more) more depth_left ts f.1 refl)
item_there (suc index) (more_trees t ts) name bytes more depth_left spot p w f e at =
    lifted_spot (key_before more) (fits_in depth_left) (key_before more) (fits_in depth_left) (λ change. option_map items (changed_item change index ts)) (λ change. option_map items (option_map (more_trees t) (changed_item change index ts))) false name (key_of t) bytes (items_key ts ++ more) depth_left spot
    (e ∙ append_assoc (key_of t) (items_key ts) more) (λ change. more_items_lift t more depth_left f.0 (changed_item change index ts)) (item_there index ts name (items_key ts ++ more) more depth_left spot p.1 w.1 f.1 refl at)

-- the item of that index is changed; or what would be before the first
abbrev changed_in : (Option Tree → Outcome) → Trees → Option ℕ → Option Trees
changed_in change ts None = item_before (change None) ts
changed_in change ts (Some index) = changed_item change index ts

step_changes : (change : Option Tree → Outcome) (ts : Trees) (step : Bool × ℕ) → changed_in change ts (index_in (trees_len ts) step) ≡ changed_at_step change ts step
step_changes change ts (false, index) = refl
step_changes change ts (true, back) = by (nat_lt (trees_len ts) back)
  where
    by : (b : Bool) → changed_in change ts (if b then None else Some (trees_len ts - back)) ≡ (if b then item_before (change None) ts else changed_item change (trees_len ts - back) ts)
    by true = refl
    by false = refl

-- the spot of the item, where there is an index; or before all
abbrev pub IsAtIndex : Trees → List ℕ → List ℕ → Spot → Option ℕ → Type 0
IsAtIndex ts bytes more spot None = (spot.found ≡ false) × (spot.entry.now ≡ bytes)
IsAtIndex ts bytes more spot (Some index) = IsAtItem (items_from index ts) more spot

pub step_there : (ts : Trees) (step : Bool × ℕ) (index : Option ℕ) (name bytes more : List ℕ) (depth_left : ℕ) (spot : Spot) → index_in (trees_len ts) step ≡ index → AreProper ts → AreWithin IsAnyNumber ts 511 → AreWithin IsAnyNumber ts depth_left → bytes ≡ items_key ts ++ more → IsAtIndex ts bytes more spot index → LeftSpot more depth_left (λ change. option_map items (changed_at_step change ts step)) false name bytes spot
step_there ts step index name bytes more depth_left spot is p w f e at =
    spot_as (key_before more) (fits_in depth_left) (λ change. option_map items (changed_in change ts index)) (λ change. option_map items (changed_at_step change ts step)) false name bytes depth_left spot
    (λ change. ap (λ i. option_map items (changed_in change ts i)) (sym is) ∙ ap (option_map items) (step_changes change ts step)) (by index at)
  where
    by : (index : Option ℕ) → IsAtIndex ts bytes more spot index → LeftSpot more depth_left (λ change. option_map items (changed_in change ts index)) false name bytes spot
    by None at = nothing_there more depth_left (λ outcome. option_map items (item_before outcome ts)) false name bytes spot at (first_item name bytes more depth_left ts f e)
    by (Some index) at = item_there index ts name bytes more depth_left spot p w f e at

-- ---- an array or an object

false_true : false ≡ true → ⊥
false_true e = cc

pub of_object : (o : Open) (object : Bool) (name asked parts more : List ℕ) (depth_left : ℕ) (spot : Spot) → object ≡ true → asked ≡ name → is_object o ≡ object → IsOpen o 511 → parts ≡ open_key o ++ more → OpenWithin o depth_left
    → ((ms : Members) → HaveProperParts ms → HaveWithin IsAnyNumber ms 511 → (more : List ℕ) → parts ≡ members_key ms ++ more → (depth_left : ℕ) → HaveWithin IsAnyNumber ms depth_left → SpotIn (key_before more) (fits_in depth_left) (λ change. option_map members (changed_member change asked ms)) true asked parts depth_left spot)
    → SpotIn (key_before more) (fits_in depth_left) (λ change. changed_open change name o) object name parts depth_left spot
of_object (items ts) object name asked parts more depth_left spot there same is h e f s = absurd (false_true (is ∙ there))
of_object (members ms) object name asked parts more depth_left spot there same is h e f s =
    subst (λ b. SpotIn (key_before more) (fits_in depth_left) (λ change. changed_open change name (members ms)) b name parts depth_left spot) (sym there)
    (subst (λ n. SpotIn (key_before more) (fits_in depth_left) (λ change. changed_open change n (members ms)) true n parts depth_left spot) same (s ms h.0 h.1 more e depth_left f))

pub of_array : (o : Open) (object : Bool) (name parts more : List ℕ) (depth_left : ℕ) (spot : Spot) (step : Bool × ℕ) → object ≡ false → step_named name ≡ Some step → is_object o ≡ object → IsOpen o 511 → parts ≡ open_key o ++ more → OpenWithin o depth_left
    → ((ts : Trees) → AreProper ts → AreWithin IsAnyNumber ts 511 → (more : List ℕ) → parts ≡ items_key ts ++ more → (depth_left : ℕ) → AreWithin IsAnyNumber ts depth_left → (name : List ℕ) → SpotIn (key_before more) (fits_in depth_left) (λ change. option_map items (changed_at_step change ts step)) false name parts depth_left spot)
    → SpotIn (key_before more) (fits_in depth_left) (λ change. changed_open change name o) object name parts depth_left spot
of_array (members ms) object name parts more depth_left spot step there named is h e f s = absurd (false_true (sym there ∙ sym is))
of_array (items ts) object name parts more depth_left spot step there named is h e f s =
    subst (λ b. SpotIn (key_before more) (fits_in depth_left) (λ change. changed_open change name (items ts)) b name parts depth_left spot) (sym there)
    (spot_as (key_before more) (fits_in depth_left) (λ change. option_map items (changed_at_step change ts step)) (λ change. changed_open change name (items ts)) false name parts depth_left spot
    (λ change. ap (λ x. option_map items (option_and_then (changed_at_step change ts) x)) (sym named)) (s ts h.0 h.1 more e depth_left f name))
