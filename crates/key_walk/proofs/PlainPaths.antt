-- Parts at paths that are read a name at a time.
use Rattle.std.proofs.Common.{◌≡◌, ℕ, List, [], ◌∷◌, ◌++◌, Bor, Option, Some, None, Result, Ok, Err, IsUtf8, eqb, false, length, true≢false, refl, sym, ap, subst, ◌∙◌}
use Rattle.std.specs.List.{AllByRecursion}
use Rattle.std.specs.Option.{option_and_then}
use Rattle.jsonb_spec.specs.SortKey.Readable.{IsReadable}
use Rattle.jsonb_path.proofs.KeyEncoding.{after_key, path_alone}
use Rattle.jsonb_spec.specs.Path.KeyEncoding.{BeginsPlain, Reads}
use Rattle.jsonb_spec.specs.Path.{IsPath, IsPlainKey, IsPlainPath, encoded_keys}
use Rattle.jsonb_spec.specs.PartAt.{child_at, part_at}
use Rattle.jsonb_spec.specs.SortKey.{key_of}
use Rattle.jsonb_spec.specs.Tree.{Tree}
use Rattle.key_walk.specs.declared.find.NoKey.{NoKey}
use Rattle.key_walk.specs.Found.{Finds}
use Rattle.jsonb_spec.specs.SortKey.Found.{PartOccurs}
use Rattle.key_walk.proofs.Occurrence.{inside_of}

-- what is found of a path of which so much is read
pub record PathSoFar (path rest key : List ℕ) (found : Result (Option (Bor (List ℕ))) NoKey) : Type 0 where
  pub names : List (List ℕ)
  pub reads : Reads path names rest
  pub texts : AllByRecursion IsUtf8 names
  pub finds : (t : Tree) → IsReadable t → (more : List ℕ) → key ≡ key_of t ++ more → Finds key (part_at names t) found

pub plain_path_begun : (path : List ℕ) (key : Bor (List ℕ)) → PathSoFar path path key.now (Ok (Some key))
plain_path_begun path key = record {
  names = [];
  reads = record { encoded = refl; only = λ others same. (others, refl, same) };
  texts = tt;
  finds = λ t r more e. record { readable = r; before = []; inside = refl; behind = more; occurs = e };
}

last_text : (names : List (List ℕ)) (name : List ℕ) → AllByRecursion IsUtf8 names → IsUtf8 name → AllByRecursion IsUtf8 (names ++ name ∷ [])
last_text [] name h text = (text, tt)
last_text (n ∷ names) name h text = (h.0, last_text names name h.1 text)

inside : (names : List (List ℕ)) (name : List ℕ) (child : Option Tree) → ((u : Tree) → part_at (names ++ name ∷ []) u ≡ option_and_then (child_at name) (part_at names u)) → option_and_then (part_at (names ++ name ∷ [])) child ≡ option_and_then (child_at name) (option_and_then (part_at names) child)
inside names name None deeper = refl
inside names name (Some u) deeper = deeper u

-- the child of the part at the names so far
last_name : (names : List (List ℕ)) (name : List ℕ) (t : Tree) → part_at (names ++ name ∷ []) t ≡ option_and_then (child_at name) (part_at names t)
last_name [] name t = alone (child_at name t)
  where
    alone : (child : Option Tree) → option_and_then (part_at []) child ≡ child
    alone None = refl
    alone (Some u) = refl
last_name (n ∷ names) name t = inside names name (child_at n t) (λ u. last_name names name u)

pub plain_name_read : (path rest others key text name : List ℕ) (found next : Result (Option (Bor (List ℕ))) NoKey) → PathSoFar path rest key found → rest ≡ 47 ∷ text → BeginsPlain text name others → IsUtf8 name → ((bytes : List ℕ) → (part : Option Tree) → Finds bytes part found → Finds bytes (option_and_then (child_at name) part) next) → PathSoFar path others key next
plain_name_read path rest others key text name found next p first plain is_text child = record {
  names = p.names ++ name ∷ [];
  reads = after_key path p.names text name others (subst (Reads path p.names) first p.reads) (plain.whole ∙ ap (λ l. l ++ others) (sym plain.encoded)) plain.ended;
  texts = last_text p.names name p.texts is_text;
  finds = λ t r more e. subst (λ part. Finds key part next) (sym (last_name p.names name t)) (child key (part_at p.names t) (p.finds t r more e));
}

pub plain_path_found : (path rest key : List ℕ) (found : Result (Option (Bor (List ℕ))) NoKey) → PathSoFar path rest key found → rest ≡ [] → (t : Tree) → IsReadable t → (more : List ℕ) → key ≡ key_of t ++ more → (names : List (List ℕ)) → IsPath path names → Finds key (part_at names t) found
plain_path_found path rest key found p over = λ t r more e names is_path.
    let same : names ≡ p.names = path_alone path p.names names (subst (Reads path p.names) over p.reads) is_path in
    subst (λ asked. Finds key (part_at asked t) found) (sym same) (p.finds t r more e)

behind : {A : Type 0} (P : A → Type 0) (front more : List A) → AllByRecursion P (front ++ more) → AllByRecursion P more
behind P [] more h = h
behind P (x ∷ front) more h = behind P front more h.1

-- where no name without escapes can be read, though some of the path is left, the path has an escape or is none
pub plain_path_stopped : (path rest key : List ℕ) (found : Result (Option (Bor (List ℕ))) NoKey) → PathSoFar path rest key found → eqb (length rest) 0 ≡ false → ((name : List ℕ) → (names : List (List ℕ)) → IsPath rest (name ∷ names) → IsPlainKey name → ⊥) → (names : List (List ℕ)) → IsPlainPath path names → ⊥
plain_path_stopped path rest key found p some unread = λ names plain.
    let left = p.reads.only names plain.is_path.encoded in
    stopped left.0 (subst (AllByRecursion IsUtf8) left.1 plain.is_path.texts) (subst (AllByRecursion IsPlainKey) left.1 plain.plain) left.2
  where
    stopped : (more : List (List ℕ)) → AllByRecursion IsUtf8 (p.names ++ more) → AllByRecursion IsPlainKey (p.names ++ more) → rest ≡ encoded_keys more → ⊥
    stopped [] texts plain same = true≢false (sym (ap (λ l. eqb (length l) 0) same) ∙ some)
    stopped (name ∷ more) texts plain same =
        unread name more (record { texts = behind IsUtf8 p.names (name ∷ more) texts; encoded = same }) (behind IsPlainKey p.names (name ∷ more) plain).0

-- what is found in a part that was found
pub found_inside : (bytes part : List ℕ) (t : Tree) (child : Option Tree) (found : Result (Option (Bor (List ℕ))) NoKey) → PartOccurs bytes part t → Finds part child found → Finds bytes child found
found_inside bytes part t (Some u) (Ok (Some rest)) s f = inside_of bytes part rest.now t u s f
found_inside bytes part t None (Ok None) s f = tt
found_inside bytes part t (Some u) (Ok None) s f = absurd f
found_inside bytes part t None (Ok (Some rest)) s f = absurd f
found_inside bytes part t (Some u) (Err e) s f = absurd f
found_inside bytes part t None (Err e) s f = absurd f
