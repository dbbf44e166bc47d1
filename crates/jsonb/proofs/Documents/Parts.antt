-- What is appended of a document's part.
use Rattle.std.proofs.Common.{◌⊎◌, inl, inr, ◌≡◌, ◌≢◌, ◌+◌, ◌<◌, ℕ, zero, suc, Bool, true, false, List, [], ◌∷◌, ◌++◌, length, Option, Some, None, Result, Err, IfErr, IfSome, refl, sym, ap, subst, ◌∙◌, append-nil, if◌then◌else◌}
use Rattle.std.proofs.lemmas.Bool.{and_parts}
use Rattle.std.specs.Option.{option_and_then, option_map, unwrap_or}
use Rattle.std.specs.Prelude.{IsErrOf}
use Rattle.std.specs.Str.{bytes_eq}
use Rattle.jsonb_core.specs.declared.error.Error.{Error}
use Rattle.jsonb_core.specs.declared.error.Error.TheVariants.{OutOfMemory, UnexpectedType}
use Rattle.jsonb_spec.specs.Accessors.{find_member, item_at}
use Rattle.jsonb_spec.specs.Grammar.{IsDocument}
use Rattle.jsonb_spec.specs.Mode.{Mode}
use Rattle.jsonb_spec.specs.Text.{has_text, items_have_texts, members_have_texts, text_of, tree_text}
use Rattle.jsonb_spec.specs.Tree.{Tree, array, object, Trees, no_trees, more_trees, Members, no_members, more_members}
use Rattle.jsonb_core.proofs.Trees.DocumentTexts.{text_of-has_text}
use Rattle.jsonb_spec.specs.PartAt.{child_at, index_named, part_at}
use Rattle.jsonb_spec.specs.Parsing.Appends.{AppendsPart, AppendsPartOf, IsParsed, LacksCapacityForPart}
use Rattle.jsonb.proofs.Documents.Straight.{text_there}

same_tree : (t u : Tree) → Some t ≡ Some u → t ≡ u
same_tree t u e = cc

no_tree : (t : Tree) → None ≡ Some t → ⊥
no_tree t e = cc

-- ---- a part has a text

item_has_text : (ts : Trees) (i : ℕ) (t : Tree) → item_at ts i ≡ Some t → items_have_texts ts ≡ true → has_text t ≡ true
item_has_text no_trees i t e h = absurd (no_tree t e)
item_has_text (more_trees u ts) zero t e h = subst (λ v. has_text v ≡ true) (same_tree u t e) (and_parts (has_text u) (items_have_texts ts) h).0
item_has_text (more_trees u ts) (suc i) t e h = item_has_text ts i t e (and_parts (has_text u) (items_have_texts ts) h).1

member_has_text : (key : List ℕ) (ms : Members) (t : Tree) → find_member (bytes_eq key) ms ≡ Some t → members_have_texts ms ≡ true → has_text t ≡ true
member_has_text key no_members t e h = absurd (no_tree t e)
member_has_text key (more_members l u ms) t e h =
    let parts = and_parts (has_text u) (members_have_texts ms) h in
    by (bytes_eq key l) e parts.0 (λ f. member_has_text key ms t f parts.1)
  where
    by : (b : Bool) → (if b then Some u else find_member (bytes_eq key) ms) ≡ Some t → has_text u ≡ true → (find_member (bytes_eq key) ms ≡ Some t → has_text t ≡ true) → has_text t ≡ true
    by true e here others = subst (λ v. has_text v ≡ true) (same_tree u t e) here
    by false e here others = others e

named_has_text : (ts : Trees) (o : Option ℕ) (t : Tree) → option_and_then (item_at ts) o ≡ Some t → items_have_texts ts ≡ true → has_text t ≡ true
named_has_text ts None t e h = absurd (no_tree t e)
named_has_text ts (Some i) t e h = item_has_text ts i t e h

child_has_text : (key : List ℕ) (t u : Tree) → child_at key t ≡ Some u → has_text t ≡ true → has_text u ≡ true
child_has_text key (object ms) u e h = member_has_text key ms u e h
child_has_text key (array ts) u e h = named_has_text ts (index_named key) u e h
child_has_text key t u e h = absurd (no_tree u e)

part_has_text : (keys : List (List ℕ)) (t part : Tree) → part_at keys t ≡ Some part → has_text t ≡ true → has_text part ≡ true
part_has_text [] t part e h = subst (λ v. has_text v ≡ true) (same_tree t part e) h
part_has_text (key ∷ keys) t part e h = by (child_at key t) refl e (λ u child at. part_has_text keys u part at (child_has_text key t u child h))
  where
    by : (o : Option Tree) → child_at key t ≡ o → option_and_then (part_at keys) o ≡ Some part → ((u : Tree) → child_at key t ≡ Some u → part_at keys u ≡ Some part → has_text part ≡ true) → has_text part ≡ true
    by None is e others = absurd (no_tree part e)
    by (Some u) is e others = others u is e

with_text : (t : Tree) → text_of t ≡ Some (tree_text t) → has_text t ≡ true
with_text t e = by (has_text t) e
  where
    by : (b : Bool) → (if b then Some (tree_text t) else None) ≡ Some (tree_text t) → b ≡ true
    by true e = refl
    by false e = absurd cc

-- ---- want of memory

-- memory ran out for the text of a part
pub part_lacks : (mode : Mode) (text : List ℕ) (t : Tree) (keys : List (List ℕ)) (part : Tree) (r : Result (Unit {0}) Error) (e : Error) (capacity len : ℕ) → IsDocument mode text t → part_at keys t ≡ Some part → r ≡ Err e → IfErr r (λ e. (e ≡ UnexpectedType) ⊎ (e ≡ OutOfMemory)) → IfErr r (λ e. e ≢ OutOfMemory → text_of part ≡ None)
    → (IsErrOf r OutOfMemory → IfSome (text_of part) (λ bytes. capacity < len + length bytes)) → LacksCapacityForPart mode text keys capacity len
part_lacks mode text t keys part r e capacity len document at is errors rejected full = by_error (subst (λ q. IfErr q (λ e. (e ≡ UnexpectedType) ⊎ (e ≡ OutOfMemory))) is errors)
  where
    whole : text_of part ≡ Some (tree_text part)
    whole = text_of-has_text part (part_has_text keys t part at (with_text t (text_there mode text t document)))

    by_error : (e ≡ UnexpectedType) ⊎ (e ≡ OutOfMemory) → LacksCapacityForPart mode text keys capacity len
    by_error (inl other) =
        let none : text_of part ≡ None = subst (λ q. IfErr q (λ e. e ≢ OutOfMemory → text_of part ≡ None)) is rejected (λ same. let f : UnexpectedType ≡ OutOfMemory = sym other ∙ same in cc) in
        let some : text_of part ≡ Some (tree_text part) = whole in
        absurd cc
    by_error (inr same) =
        let short : IfSome (text_of part) (λ bytes. capacity < len + length bytes) = full (is ∙ ap (λ e. Err e) same) in
        record {
          tree = t;
          document = document;
          part = part;
          there = at;
          too_short = subst (λ o. IfSome o (λ bytes. capacity < len + length bytes)) whole short;
        }

-- ---- what is appended

-- the part is there
part_appended : (mode : Mode) (text : List ℕ) (keys : List (List ℕ)) (t : Tree) (old new bytes : List ℕ) → IsParsed mode text t → text_of t ≡ Some (tree_text t) → Some bytes ≡ option_map tree_text (part_at keys t) → new ≡ old ++ bytes → AppendsPartOf mode text keys old new true
part_appended mode text keys t old new bytes parsed has is appended = record { tree = t; parsed = parsed; part = by (part_at keys t) refl is }
  where
    some_bytes : (xs ys : List ℕ) → Some xs ≡ Some ys → xs ≡ ys
    some_bytes xs ys e = cc

    by : (o : Option Tree) → part_at keys t ≡ o → Some bytes ≡ option_map tree_text o → AppendsPart t keys old new
    by None at is = absurd cc
    by (Some part) at is = record {
      part = part;
      there = at;
      appended = record {
        bytes = tree_text part;
        is_text = text_of-has_text part (part_has_text keys t part at (with_text t has));
        appended = appended ∙ ap (λ xs. old ++ xs) (some_bytes bytes (tree_text part) is);
      };
    }

-- there is no such part
part_missing : (mode : Mode) (text : List ℕ) (keys : List (List ℕ)) (t : Tree) (old : List ℕ) → IsParsed mode text t → None ≡ option_map tree_text (part_at keys t) → AppendsPartOf mode text keys old old false
part_missing mode text keys t old parsed is = record { tree = t; parsed = parsed; part = (by (part_at keys t) is, refl) }
  where
    by : (o : Option Tree) → None ≡ option_map tree_text o → o ≡ None
    by None e = refl
    by (Some part) e = absurd cc

-- what the parser found, and the buffer after it
pub part_ended : (mode : Mode) (text : List ℕ) (keys : List (List ℕ)) (t : Tree) (old new bytes : List ℕ) (found : Bool) → IsParsed mode text t → text_of t ≡ Some (tree_text t) → (if found then Some bytes else None) ≡ option_map tree_text (part_at keys t)
    → new ≡ old ++ unwrap_or (if found then Some bytes else None) [] → AppendsPartOf mode text keys old new found
part_ended mode text keys t old new bytes true parsed has is appended = part_appended mode text keys t old new bytes parsed has is appended
part_ended mode text keys t old new bytes false parsed has is appended = subst (λ n. AppendsPartOf mode text keys old n false) (sym (appended ∙ append-nil old)) (part_missing mode text keys t old parsed is)
