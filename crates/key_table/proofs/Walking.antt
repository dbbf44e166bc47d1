-- Tables by what is left of them while the members of a key are walked.
use Rattle.std.proofs.Common.{◌≡◌, ℕ, zero, suc, ◌+◌, ◌<◌, ◌≤◌, true, false, List, [], ◌∷◌, ◌++◌, Option, Some, None, Bor, Ok, Err, IfSome, take, drop, length, get_or, refl, sym, ap, subst, ◌∙◌, arith, append-nil, length-append}
use Rattle.std.proofs.lemmas.Nat.{be_bytes_2}
use Rattle.std.specs.Int.{w16, from_be_bytes}
use Rattle.std.specs.List.{flat_map}
use Rattle.jsonb_spec.specs.SortKey.Readable.{IsAnyNumber, IsReadable}
use Rattle.key_value.proofs.Texts.{none_some}
use Rattle.jsonb_spec.specs.Proper.{HaveProperParts}
use Rattle.jsonb_spec.specs.SortKey.{key_of, members_key, text_key}
use Rattle.jsonb_spec.specs.Text.Range.{HaveWithin}
use Rattle.jsonb_spec.specs.Tree.{Tree, object, no_trees, more_trees, Members, no_members, more_members}
use Rattle.jsonb_spec.specs.SortKey.AtKeys.{Leaves}
use Rattle.jsonb_spec.specs.SortKey.Found.{members_len}
use Rattle.key_walk.specs.Found.{IsNext}
use Rattle.jsonb_spec.specs.SortKey.Open.{Open, items, members}
use Rattle.key_walk.specs.declared.find.NoKey.{NoKey}
use Rattle.key_walk.proofs.Finds.{parent_of}
use Rattle.key_walk.proofs.Occurrence.{left_of, object_left}
use Rattle.key_table.specs.Entries.{LeavesMembers}
use Rattle.jsonb_spec.specs.Table.{has_table, in_two, member_offsets, table_mark, table_of_members}

-- ---- numbers in two bytes

pub two_first : (bytes first rest : List ℕ) (n : ℕ) → ((k : ℕ) → get_or bytes k 0 < 256) → 2 ≤ length bytes → first ≡ take 2 bytes → rest ≡ drop 2 bytes → n ≡ from_be_bytes w16 first → bytes ≡ in_two n ++ rest
two_first [] first rest n small long f r is = absurd (omega (arith, long))
two_first (a ∷ []) first rest n small long f r is = absurd (omega (arith, long))
two_first (a ∷ b ∷ bytes) first rest n small long f r is =
    let both : in_two n ≡ a ∷ b ∷ [] = be_bytes_2 (a ∷ b ∷ []) n refl fits (is ∙ ap (from_be_bytes w16) f) in
    ap (λ l. a ∷ b ∷ l) (sym r) ∙ ap (λ l. l ++ rest) (sym both)
  where
    fits : (i : ℕ) → get_or (a ∷ b ∷ []) i 0 < 256
    fits zero = small 0
    fits (suc zero) = small 1
    fits (suc (suc i)) = omega arith

-- ---- the members of a key

module _ (t : Tree) (r : IsReadable t) (key : List ℕ) (e : key ≡ key_of t) (least : 256 ≤ length key) (most : length key ≤ 65535) where
  no_members_there : (u : Tree) → u ≡ t → ((ms : Members) → (more : List ℕ) → key ≡ key_of (object ms) ++ more → Leaves None (members_key ms ++ more)) → has_table u ≡ false
  no_members_there (object ms) is found = absurd (none_some _ (found ms [] (e ∙ ap key_of (sym is) ∙ sym (append-nil (key_of (object ms))))))
  no_members_there u is found = refl

  pub leaves_members : (result : Option (Bor (List ℕ))) → ((ms : Members) → (more : List ℕ) → key ≡ key_of (object ms) ++ more → Leaves result (members_key ms ++ more)) → IfSome result (λ rest. key ≡ 209 ∷ rest.now) → LeavesMembers t result
  leaves_members None found first = no_members_there t refl found
  leaves_members (Some x) found first =
      let o = object_left t r true x.now [] (left_of t true x.now [] (parent_of t r 209 x.now key [] first (e ∙ sym (append-nil (key_of t))) true refl)) refl in
      record {
        ms = o.ms;
        is = sym o.is;
        occurs = o.occurs ∙ append-nil (members_key o.ms);
        least = subst (λ l. 256 ≤ length l) e least;
        most = subst (λ l. length l ≤ 65535) e most;
      }

-- ---- what is left of a table

abbrev pub table_left : ℕ → ℕ → Members → List ℕ
table_left offset count ms = flat_map in_two (member_offsets offset ms) ++ (in_two (count + members_len ms) ++ table_mark ∷ [])

-- what is left of the members and of their table, of which this is so
pub record Walked (Is : List ℕ → Type 0) (ms : Members) (bytes left : List ℕ) (count : ℕ) : Type 0 where
  pub rest : Members
  pub proper : HaveProperParts rest
  pub within : HaveWithin IsAnyNumber rest 511
  pub occurs : left ≡ members_key rest
  pub counted : members_len ms ≡ count + members_len rest
  pub offset : ℕ
  pub at : offset + length left ≡ 1 + length bytes
  pub is : Is (table_left offset count rest)

pub begun : (Is : List ℕ → Type 0) (ms : Members) (bytes : List ℕ) → HaveProperParts ms → HaveWithin IsAnyNumber ms 511 → bytes ≡ members_key ms → Is (table_of_members ms) → Walked Is ms bytes bytes 0
begun Is ms bytes p w e is = record {
  rest = ms;
  proper = p;
  within = w;
  occurs = e;
  counted = omega arith;
  offset = 1;
  at = refl;
  is = subst (λ n. Is (flat_map in_two (member_offsets 1 ms) ++ (in_two n ++ table_mark ∷ []))) (omega arith) is;
}

-- the first of them
pub record FirstWalked (Is : List ℕ → Type 0) (ms : Members) (bytes left : List ℕ) (count : ℕ) (others : List ℕ) : Type 0 where
  pub rest : Members
  pub proper : HaveProperParts rest
  pub within : HaveWithin IsAnyNumber rest 511
  pub occurs : others ≡ members_key rest
  pub counted : members_len ms ≡ count + 1 + members_len rest
  pub offset : ℕ
  pub at : offset + length left ≡ 1 + length bytes
  pub next : ℕ
  pub next_at : next + length others ≡ 1 + length bytes
  pub is : Is (in_two offset ++ table_left next (count + 1) rest)

split_left : (offset count : ℕ) (k : List ℕ) (t : Tree) (rest : Members) → table_left offset count (more_members k t rest) ≡ in_two offset ++ table_left (offset + (length (text_key k) + length (key_of t))) (count + 1) rest
split_left offset count k t rest =
    let next = offset + (length (text_key k) + length (key_of t)) in
    let all : count + suc (members_len rest) ≡ count + 1 + members_len rest = omega arith in
    ap (λ n. in_two offset ++ (flat_map in_two (member_offsets next rest) ++ (in_two n ++ table_mark ∷ []))) all

pub first_walked : (Is : List ℕ → Type 0) (ms : Members) (bytes left : List ℕ) (count : ℕ) (part others : Bor (List ℕ)) (w : Walked Is ms bytes left count) → IsNext (members w.rest) [] (Ok (Some (part, others))) → FirstWalked Is ms bytes left count others.now
first_walked Is ms bytes left count part others w next = go w.rest w.proper w.within w.occurs w.counted w.is next
  where
    go : (rest : Members) → HaveProperParts rest → HaveWithin IsAnyNumber rest 511 → left ≡ members_key rest → members_len ms ≡ count + members_len rest → Is (table_left w.offset count rest) → IsNext (members rest) [] (Ok (Some (part, others))) → FirstWalked Is ms bytes left count others.now
    go no_members p h e c is n = absurd n
    go (more_members k t rest) p h e c is n =
        let size = length (text_key k) + length (key_of t) in
        let there : others.now ≡ members_key rest = n.1 ∙ append-nil (members_key rest) in
        record {
          rest = rest;
          proper = p.2;
          within = h.1;
          occurs = there;
          counted = omega (arith, c);
          offset = w.offset;
          at = w.at;
          next = w.offset + size;
          next_at = omega (arith, w.at, ap length e, ap length there, length-append (text_key k) (key_of t ++ members_key rest), length-append (key_of t) (members_key rest));
          is = subst Is (split_left w.offset count k t rest) is;
        }

pub stepped : (Is Then : List ℕ → Type 0) (ms : Members) (bytes left : List ℕ) (count : ℕ) (others : List ℕ) (f : FirstWalked Is ms bytes left count others) → Then (table_left f.next (count + 1) f.rest) → Walked Then ms bytes others (count + 1)
stepped Is Then ms bytes left count others f then = record { rest = f.rest; proper = f.proper; within = f.within; occurs = f.occurs; counted = f.counted; offset = f.next; at = f.next_at; is = then }

pub all_walked : (Is : List ℕ → Type 0) (ms : Members) (bytes left : List ℕ) (count : ℕ) (w : Walked Is ms bytes left count) → IsNext (members w.rest) [] (Ok None) → (members_len ms ≡ count) × Is (in_two count ++ table_mark ∷ [])
all_walked Is ms bytes left count w next = go w.rest w.counted w.is next
  where
    go : (rest : Members) → members_len ms ≡ count + members_len rest → Is (table_left w.offset count rest) → IsNext (members rest) [] (Ok None) → (members_len ms ≡ count) × Is (in_two count ++ table_mark ∷ [])
    go no_members c is n = (omega (arith, c), subst (λ n. Is (in_two n ++ table_mark ∷ [])) {x = count + 0} {y = count} (omega arith) is)
    go (more_members k t rest) c is n = absurd n

pub no_fault : (o : Open) (e : NoKey) → IsNext o [] (Err e) → ⊥
no_fault (items no_trees) e n = n
no_fault (items (more_trees t ts)) e n = n
no_fault (members no_members) e n = n
no_fault (members (more_members k t ms)) e n = n

pub next_shorter : (most : ℕ) (answer : Option (Bor (List ℕ) × Bor (List ℕ))) (part others : Bor (List ℕ)) → answer ≡ Some (part, others) → IfSome answer (λ r. (length r.0.now ≤ most) × (length r.1.now < length r.0.now)) → length others.now < most
next_shorter most answer part others is within = shorter (subst (λ a. IfSome a (λ r. (length r.0.now ≤ most) × (length r.1.now < length r.0.now))) is within)
  where
    shorter : (length part.now ≤ most) × (length others.now < length part.now) → length others.now < most
    shorter w = omega (arith, w.0, w.1)
