-- Members passed one after the other, up to a name.
use Rattle.std.proofs.Common.{◌≡◌, ℕ, List, [], ◌++◌, Ordering, Less, Equal, Greater, Bor, Some, None, true, refl, sym, ap, ◌∙◌}
use Rattle.std.specs.Cmp.Lexicographic.{nat_list_cmp_total}
use Rattle.std.specs.Ordering.{ordering_reverse}
use Rattle.jsonb_spec.specs.Keys.{IsBelowKeys}
use Rattle.jsonb_spec.specs.Order.{bytes_cmp}
use Rattle.jsonb_spec.specs.SortKey.{key_of, members_key, text_key}
use Rattle.jsonb_spec.specs.Tree.{Tree, Members, no_members, more_members}
use Rattle.jsonb_spec.specs.SortKey.Readable.{IsReadable}
use Rattle.jsonb_spec.specs.SortKey.Checked.{HaveReadable}
use Rattle.jsonb_spec.specs.SortKey.Open.{end_key}
use Rattle.jsonb_spec.specs.SortKey.Passing.{AreBelow, joined_members}
use Rattle.key_walk.specs.Passing.{PassesBelow}
use Rattle.key_walk.proofs.Finds.{readable_inside}
use Rattle.key_walk.proofs.KeyFronts.{same_names}
use Rattle.key_walk.proofs.Opens.{no_end}

-- ---- members after members

pub joined_one : (ms ns : Members) (k : List ℕ) (t : Tree) → joined_members ms (more_members k t ns) ≡ joined_members (joined_members ms (more_members k t no_members)) ns
joined_one no_members ns k t = refl
joined_one (more_members l u ms) ns k t = ap (more_members l u) (joined_one ms ns k t)

below_one_more : (ms : Members) (k : List ℕ) (t : Tree) (name : List ℕ) → AreBelow ms name → bytes_cmp k name ≡ Less → AreBelow (joined_members ms (more_members k t no_members)) name
below_one_more no_members k t name h less = (less, tt)
below_one_more (more_members l u ms) k t name h less = (h.0, below_one_more ms k t name h.1 less)

pub below_others : (k l : List ℕ) (ns : Members) → bytes_cmp k l ≡ Less → IsBelowKeys l ns → IsBelowKeys k ns
below_others k l no_members h b = tt
below_others k l (more_members m u ns) h b = (nat_list_cmp_total.trans k l m h b.0, below_others k l ns h b.1)

-- ---- the walk

-- those that were passed, and those that are left
pub record PassedSoFar (ms : Members) (name rest : List ℕ) : Type 0 where
  pub below : Members
  pub others : Members
  pub is : ms ≡ joined_members below others
  pub are_below : AreBelow below name
  pub readable : HaveReadable others
  pub occurs : rest ≡ members_key others

abbrev pub PassesMembers : List ℕ → List ℕ → List ℕ → Type 0
PassesMembers members name rest = (ms : Members) → HaveReadable ms → (text : List ℕ) → members ≡ members_key ms → name ≡ text_key text → PassedSoFar ms text rest

pub pass_begun : (members name : List ℕ) → PassesMembers members name members
pass_begun members name = λ ms h text e n. record { below = no_members; others = ms; is = refl; are_below = tt; readable = h; occurs = e }

-- the first of those that are left
pub record FirstHere (ms : Members) (rest : List ℕ) : Type 0 where
  pub key : List ℕ
  pub value : Tree
  pub others : Members
  pub is : ms ≡ more_members key value others
  pub readable : IsReadable value
  pub below : IsBelowKeys key others
  pub others_readable : HaveReadable others
  pub occurs : rest ≡ text_key key ++ (key_of value ++ members_key others)

pub first_here : (ms : Members) (rest : List ℕ) → HaveReadable ms → rest ≡ members_key ms → ((tail : List ℕ) → rest ≡ end_key true ++ tail → ⊥) → FirstHere ms rest
first_here no_members rest h e not_over = absurd (not_over [] e)
first_here (more_members k t ms) rest h e not_over = record {
  key = k;
  value = t;
  others = ms;
  is = refl;
  readable = readable_inside t (record { proper = h.proper.1; within = h.within.0 });
  below = h.ascend.0;
  others_readable = record { ascend = h.ascend.1; proper = h.proper.2; within = h.within.1 };
  occurs = e;
}

pub ended : (ms : Members) (rest tail : List ℕ) → HaveReadable ms → rest ≡ members_key ms → rest ≡ end_key true ++ tail → ms ≡ no_members
ended no_members rest tail h e over = refl
ended (more_members k t ms) rest tail h e over = absurd (no_end true k t 511 (record { proper = h.proper.1; within = h.within.0 }) rest tail (members_key ms) over e)

-- the first one is passed too
pub passes_on : (ms : Members) (name rest others : List ℕ) (p : PassedSoFar ms name rest) (n : FirstHere p.others rest) → bytes_cmp name n.key ≡ Greater → others ≡ members_key n.others → PassedSoFar ms name others
passes_on ms name rest others p n greater e = record {
  below = joined_members p.below (more_members n.key n.value no_members);
  others = n.others;
  is = p.is ∙ ap (joined_members p.below) n.is ∙ joined_one p.below n.others n.key n.value;
  are_below = below_one_more p.below n.key n.value name p.are_below (nat_list_cmp_total.antisymm n.key name ∙ ap ordering_reverse greater);
  readable = n.others_readable;
  occurs = e;
}

-- the name is below the first one that is left, if there is any
pub below_left : (ms : Members) (name rest : List ℕ) (order : Ordering) → HaveReadable ms → rest ≡ members_key ms → ((text more : List ℕ) → rest ≡ text_key text ++ more → order ≡ bytes_cmp name text) → order ≡ Less → IsBelowKeys name ms
below_left no_members name rest order h e compares less = tt
below_left (more_members k t ms) name rest order h e compares less =
    let first : bytes_cmp name k ≡ Less = sym (compares k _ e) ∙ less in
    (first, below_others name k ms first h.ascend.0)

pub stops_above : (ms : Members) (name : List ℕ) (rest : Bor (List ℕ)) (p : PassedSoFar ms name rest.now) → IsBelowKeys name p.others → PassesBelow ms name (record { rest = rest; same = None })
stops_above ms name rest p h = record { below = p.below; others = p.others; is = p.is; are_below = p.are_below; readable = p.readable; rest_is = p.occurs; same = h }

pub stops_at : (ms : Members) (name : List ℕ) (rest value : Bor (List ℕ)) (p : PassedSoFar ms name rest.now) (n : FirstHere p.others rest.now) → bytes_cmp name n.key ≡ Equal → value.now ≡ key_of n.value ++ members_key n.others → PassesBelow ms name (record { rest = rest; same = Some value })
stops_at ms name rest value p n equal e = record {
  below = p.below;
  others = p.others;
  is = p.is;
  are_below = p.are_below;
  readable = p.readable;
  rest_is = p.occurs;
  same = (n.value, n.others, n.is ∙ ap (λ k. more_members k n.value n.others) (sym (same_names name n.key equal)), e);
}

-- the first one that is left has the name, whose key is these bytes
pub begins_with : (name rest : List ℕ) (key : List ℕ) (ms : Members) (n : FirstHere ms rest) → key ≡ text_key name → bytes_cmp name n.key ≡ Equal → rest ≡ key ++ (key_of n.value ++ members_key n.others)
begins_with name rest key ms n is equal =
    n.occurs ∙ ap (λ k. k ++ (key_of n.value ++ members_key n.others)) (sym (is ∙ ap text_key (same_names name n.key equal)))
