-- Trees with one text are the same, and of integers the same trees have one text.
use Rattle.std.proofs.Common.{List, [], ◌∷◌, ◌≡◌, ◌≢◌, ℕ, zero, suc, ◌<◌, ◌^◌, ◌++◌, drop, true, false, refl, sym, ap, ◌∙◌, arith, append_assoc, Ordering, Equal}
use Rattle.std.specs.Prelude.{unsigned_abs}
use Rattle.std.specs.List.{flat_map}
use Rattle.std.specs.Cmp.{tied_itself}
use Rattle.std.specs.Cmp.Lexicographic.{nat_list_cmp_total}
use Rattle.std.specs.Ordering.{ordering_then}
use Rattle.jsonb_spec.specs.Mode.{standard}
use Rattle.jsonb_core.specs.Order.NumberLaws.{num_cmp_total}
use Rattle.jsonb_spec.specs.Order.{decimal_cmp, num_cmp, bytes_cmp, tree_cmp, trees_cmp, members_cmp}
use Rattle.jsonb_spec.specs.Text.Range.{IsWithin, AreWithin, HaveWithin}
use Rattle.jsonb_spec.specs.Grammar.StringBody.{Item, raw, escape, unit, after_u, encoding}
use Rattle.jsonb_spec.specs.Text.StringText.{byte_text, quoted_text}
use Rattle.jsonb_spec.specs.Text.{tree_text, with_commas, item_texts, member_texts}
use Rattle.jsonb_spec.specs.Tree.{Num, Tree, null, boolean, string, number, array, object, Trees, no_trees, more_trees, Members, no_members, more_members}
use Rattle.jsonb_core.proofs.Numbers.Texts.{IsNumberByte, Begins, number_first, same_number_before}
use Rattle.jsonb_core.proofs.Trees.Runs.{BeginsOther, heads, tails}
use Rattle.jsonb_core.proofs.Strings.Encoding.{same_first}
use Rattle.jsonb_core.proofs.Strings.Writing.{item_of, encoding-item_of, item-item_of, inside-item_of, one_byte}

-- ---- what is the same

pub same_numbers : (m n : Num) → m.scale ≡ n.scale → m.whole ≡ n.whole → num_cmp m n ≡ Equal
same_numbers m n scales wholes = (λ i. decimal_cmp (wholes i) (scales i) n.whole n.scale) ∙ tied_itself num_cmp_total n

pub same_bytes : (xs ys : List ℕ) → xs ≡ ys → bytes_cmp xs ys ≡ Equal
same_bytes xs ys e = ap (bytes_cmp xs) (sym e) ∙ tied_itself nat_list_cmp_total xs

pub both_equal : (r s : Ordering) → r ≡ Equal → s ≡ Equal → ordering_then r s ≡ Equal
both_equal r s p q = (λ i. ordering_then (p i) s) ∙ q

-- ---- strings

no_quote : (item : Item) (rest s : List ℕ) → item ≢ raw 34 → encoding item ++ rest ≢ 34 ∷ s
no_quote (raw byte) rest s inside e = inside (ap raw (heads byte 34 rest s e))
no_quote (escape letter byte) rest s inside e = absurd (omega (arith, heads 92 34 (letter ∷ rest) s e))
no_quote (unit braces digits) rest s inside e = absurd (omega (arith, heads 92 34 (117 ∷ (after_u braces digits ++ rest)) s e))

byte_is_no_quote : (byte : ℕ) (rest s : List ℕ) → byte_text byte ++ rest ≢ 34 ∷ s
byte_is_no_quote byte rest s e = no_quote (item_of byte) rest s (inside-item_of byte) (ap (λ text. text ++ rest) (encoding-item_of byte) ∙ e)

same_byte : (b c : ℕ) (r s : List ℕ) → byte_text b ++ r ≡ byte_text c ++ s → (b ≡ c) × (r ≡ s)
same_byte b c r s e =
    let parts = same_first standard (item_of b) (item_of c) r s (item-item_of standard b) (item-item_of standard c)
    (ap (λ text. text ++ r) (encoding-item_of b) ∙ e ∙ ap (λ text. text ++ s) (sym (encoding-item_of c))) in
    (one_byte b c parts.0, parts.1)

same_body : (xs ys r s : List ℕ) → flat_map byte_text xs ++ (34 ∷ r) ≡ flat_map byte_text ys ++ (34 ∷ s) → (xs ≡ ys) × (r ≡ s)
same_body [] [] r s e = (refl, tails 34 34 r s e)
same_body [] (y ∷ ys) r s e = absurd (byte_is_no_quote y (flat_map byte_text ys ++ (34 ∷ s)) r (sym (e ∙ append_assoc (byte_text y) (flat_map byte_text ys) (34 ∷ s))))
same_body (x ∷ xs) [] r s e = absurd (byte_is_no_quote x (flat_map byte_text xs ++ (34 ∷ r)) s (sym (append_assoc (byte_text x) (flat_map byte_text xs) (34 ∷ r)) ∙ e))
same_body (x ∷ xs) (y ∷ ys) r s e =
    let first = same_byte x y (flat_map byte_text xs ++ (34 ∷ r)) (flat_map byte_text ys ++ (34 ∷ s)) (sym (append_assoc (byte_text x) (flat_map byte_text xs) (34 ∷ r)) ∙ e ∙ append_assoc (byte_text y) (flat_map byte_text ys) (34 ∷ s)) in
    let more = same_body xs ys r s first.1 in
    ((λ i. first.0 i ∷ more.0 i), more.1)

-- bytes behind a text and its last byte
moved : (xs r : List ℕ) (close : ℕ) → (xs ++ close ∷ []) ++ r ≡ xs ++ (close ∷ r)
moved xs r close = append_assoc xs (close ∷ []) r

pub same_quoted : (xs ys r s : List ℕ) → quoted_text xs ++ r ≡ quoted_text ys ++ s → (xs ≡ ys) × (r ≡ s)
same_quoted xs ys r s e =
    let inner = tails 34 34 ((flat_map byte_text xs ++ 34 ∷ []) ++ r) ((flat_map byte_text ys ++ 34 ∷ []) ++ s) e in
    same_body xs ys r s (sym (moved (flat_map byte_text xs) r 34) ∙ inner ∙ moved (flat_map byte_text ys) s 34)

-- ---- parts with commas between

abbrev pub with_commas_before : List (List ℕ) → List ℕ
with_commas_before texts = flat_map (λ text. 44 ∷ text) texts

-- the first of the texts, if there is one, does not begin with the byte
abbrev FirstIsNot : ℕ → List (List ℕ) → Type 0
FirstIsNot close [] = Unit {0}
FirstIsNot close (text ∷ texts) = (rest tail : List ℕ) → text ++ rest ≢ close ∷ tail

-- commas before all parts, where both lists have parts or both have none
commas : (close : ℕ) (xs ys : List (List ℕ)) (r s : List ℕ) → FirstIsNot close xs → FirstIsNot close ys → with_commas xs ++ (close ∷ r) ≡ with_commas ys ++ (close ∷ s)
    → with_commas_before xs ++ (close ∷ r) ≡ with_commas_before ys ++ (close ∷ s)
commas close [] [] r s h k e = e
commas close [] (y ∷ ys) r s h k e = absurd (k (with_commas_before ys ++ (close ∷ s)) r (sym (e ∙ append_assoc y (with_commas_before ys) (close ∷ s))))
commas close (x ∷ xs) [] r s h k e = absurd (h (with_commas_before xs ++ (close ∷ r)) s (sym (append_assoc x (with_commas_before xs) (close ∷ r)) ∙ e))
commas close (x ∷ xs) (y ∷ ys) r s h k e = ap (λ zs. 44 ∷ zs) e

ends_parts : (close : ℕ) (texts : List (List ℕ)) (r : List ℕ) → (IsNumberByte close → ⊥) → BeginsOther IsNumberByte (with_commas_before texts ++ (close ∷ r))
ends_parts close [] r other = other
ends_parts close (text ∷ texts) r other = λ byte. absurd (omega (arith, byte))

-- one part less
next_part : (close : ℕ) (x y : List ℕ) (xs ys : List (List ℕ)) (r s : List ℕ) → with_commas_before (x ∷ xs) ++ (close ∷ r) ≡ with_commas_before (y ∷ ys) ++ (close ∷ s)
    → x ++ (with_commas_before xs ++ (close ∷ r)) ≡ y ++ (with_commas_before ys ++ (close ∷ s))
next_part close x y xs ys r s e =
    let inner = tails 44 44 ((x ++ with_commas_before xs) ++ (close ∷ r)) ((y ++ with_commas_before ys) ++ (close ∷ s)) e in
    sym (append_assoc x (with_commas_before xs) (close ∷ r)) ∙ inner ∙ append_assoc y (with_commas_before ys) (close ∷ s)

-- ---- trees

-- the byte that a tree's text begins with
abbrev IsFirstOf : Tree → ℕ → Type 0
IsFirstOf null b = b ≡ 110
IsFirstOf (boolean c) b = (101 < b) × (b < 117) × (b ≢ 110)
IsFirstOf (string mark bytes) b = b ≡ 34
IsFirstOf (number n) b = IsNumberByte b
IsFirstOf (array ts) b = b ≡ 91
IsFirstOf (object ms) b = b ≡ 123
IsFirstOf t b = b < 0

-- a number whose digits are few enough
abbrev pub IsShort : Num → Type 0
IsShort n = unsigned_abs n.whole < 10 ^ 38

first_of_tree : (t : Tree) (depth : ℕ) → IsWithin IsShort t depth → Begins (IsFirstOf t) (tree_text t)
first_of_tree null depth w = record { first = 110; rest = 117 ∷ 108 ∷ 108 ∷ []; joined = refl; is = refl }
first_of_tree (boolean true) depth w = record { first = 116; rest = 114 ∷ 117 ∷ 101 ∷ []; joined = refl; is = (omega arith, omega arith, omega arith) }
first_of_tree (boolean false) depth w = record { first = 102; rest = 97 ∷ 108 ∷ 115 ∷ 101 ∷ []; joined = refl; is = (omega arith, omega arith, omega arith) }
first_of_tree (string mark bytes) depth w = record { first = 34; rest = flat_map byte_text bytes ++ 34 ∷ []; joined = refl; is = refl }
first_of_tree (number n) depth w = number_first n w
first_of_tree (array ts) depth w = record { first = 91; rest = with_commas (item_texts ts) ++ 93 ∷ []; joined = refl; is = refl }
first_of_tree (object ms) depth w = record { first = 123; rest = with_commas (member_texts ms) ++ 125 ∷ []; joined = refl; is = refl }
first_of_tree t depth w = absurd w

-- no tree's text begins with a byte that closes a container, with a comma, with whitespace or with a backslash
abbrev pub IsTextByte : ℕ → Type 0
IsTextByte b = (32 < b) × (b ≢ 44) × (b ≢ 47) × (b ≢ 92) × (b ≢ 93) × (b ≢ 125)

text_byte : (t : Tree) (b : ℕ) → IsFirstOf t b → IsTextByte b
text_byte null b h = (omega (arith, h), omega (arith, h), omega (arith, h), omega (arith, h), omega (arith, h), omega (arith, h))
text_byte (boolean c) b h = (omega (arith, h), omega (arith, h), omega (arith, h), omega (arith, h), omega (arith, h), omega (arith, h))
text_byte (string mark bytes) b h = (omega (arith, h), omega (arith, h), omega (arith, h), omega (arith, h), omega (arith, h), omega (arith, h))
text_byte (number n) b h = (omega (arith, h), omega (arith, h), omega (arith, h), omega (arith, h), omega (arith, h), omega (arith, h))
text_byte (array ts) b h = (omega (arith, h), omega (arith, h), omega (arith, h), omega (arith, h), omega (arith, h), omega (arith, h))
text_byte (object ms) b h = (omega (arith, h), omega (arith, h), omega (arith, h), omega (arith, h), omega (arith, h), omega (arith, h))
text_byte t b h = absurd (omega (arith, h))

pub text_first : (t : Tree) (depth : ℕ) → IsWithin IsShort t depth → Begins IsTextByte (tree_text t)
text_first t depth w =
    let b = first_of_tree t depth w in
    record { first = b.first; rest = b.rest; joined = b.joined; is = text_byte t b.first b.is }

no_bracket : (ts : Trees) (depth : ℕ) → AreWithin IsShort ts depth → FirstIsNot 93 (item_texts ts)
no_bracket no_trees depth w = tt
no_bracket (more_trees t ts) depth w = λ rest tail e.
    let b = text_first t depth w.0 in
    let first = heads b.first 93 (b.rest ++ rest) tail (ap (λ text. text ++ rest) (sym b.joined) ∙ e) in
    absurd (omega (arith, first, b.is))

no_brace : (ms : Members) → FirstIsNot 125 (member_texts ms)
no_brace no_members = tt
no_brace (more_members key t ms) = λ rest tail e. absurd (omega (arith, heads 34 125 (((flat_map byte_text key ++ 34 ∷ []) ++ 58 ∷ tree_text t) ++ rest) tail e))

-- a key, the colon and what follows
keyed : (key value rest : List ℕ) → (quoted_text key ++ 58 ∷ value) ++ rest ≡ quoted_text key ++ (58 ∷ (value ++ rest))
keyed key value rest = append_assoc (quoted_text key) (58 ∷ value) rest

inner_items : (first close : ℕ) (body other r s : List ℕ) → (first ∷ (body ++ close ∷ [])) ++ r ≡ (first ∷ (other ++ close ∷ [])) ++ s → body ++ (close ∷ r) ≡ other ++ (close ∷ s)
inner_items first close body other r s e =
    let inner = tails first first ((body ++ close ∷ []) ++ r) ((other ++ close ∷ []) ++ s) e in
    sym (moved body r close) ∙ inner ∙ moved other s close

mutual
  pub one_tree : (t u : Tree) (d e : ℕ) (r s : List ℕ) → IsWithin IsShort t d → IsWithin IsShort u e → BeginsOther IsNumberByte r → BeginsOther IsNumberByte s → tree_text t ++ r ≡ tree_text u ++ s → (tree_cmp t u ≡ Equal) × (r ≡ s)
  one_tree null null d e r s w v h k same = (refl, ap (drop 4) same)
  one_tree (boolean true) (boolean true) d e r s w v h k same = (refl, ap (drop 4) same)
  one_tree (boolean false) (boolean false) d e r s w v h k same = (refl, ap (drop 5) same)
  one_tree (boolean true) (boolean false) d e r s w v h k same = absurd (omega (arith, heads 116 102 (114 ∷ 117 ∷ 101 ∷ r) (97 ∷ 108 ∷ 115 ∷ 101 ∷ s) same))
  one_tree (boolean false) (boolean true) d e r s w v h k same = absurd (omega (arith, heads 102 116 (97 ∷ 108 ∷ 115 ∷ 101 ∷ r) (114 ∷ 117 ∷ 101 ∷ s) same))
  one_tree (string mark xs) (string other ys) d e r s w v h k same = let parts = same_quoted xs ys r s same in (same_bytes xs ys parts.0, parts.1)
  one_tree (number m) (number n) d e r s w v h k same = let parts = same_number_before m n r s w v h k same in (same_numbers m n parts.0 parts.1, parts.2)
  one_tree (array ts) (array us) zero e r s w v h k same = absurd w
  one_tree (array ts) (array us) (suc d) zero r s w v h k same = absurd v
  one_tree (array ts) (array us) (suc d) (suc e) r s w v h k same =
      one_trees ts us d e r s w v (commas 93 (item_texts ts) (item_texts us) r s (no_bracket ts d w) (no_bracket us e v) (inner_items 91 93 (with_commas (item_texts ts)) (with_commas (item_texts us)) r s same))
  one_tree (object ms) (object ns) zero e r s w v h k same = absurd w
  one_tree (object ms) (object ns) (suc d) zero r s w v h k same = absurd v
  one_tree (object ms) (object ns) (suc d) (suc e) r s w v h k same =
      one_members ms ns d e r s w v (commas 125 (member_texts ms) (member_texts ns) r s (no_brace ms) (no_brace ns) (inner_items 123 125 (with_commas (member_texts ms)) (with_commas (member_texts ns)) r s same))
  one_tree t u d e r s w v h k same =
      let a = first_of_tree t d w in
      let b = first_of_tree u e v in
      let first = heads a.first b.first (a.rest ++ r) (b.rest ++ s) (ap (λ text. text ++ r) (sym a.joined) ∙ same ∙ ap (λ text. text ++ s) b.joined) in
      absurd (omega (arith, first, a.is, b.is))

  -- items, each with a comma before it
  one_trees : (ts us : Trees) (d e : ℕ) (r s : List ℕ) → AreWithin IsShort ts d → AreWithin IsShort us e → with_commas_before (item_texts ts) ++ (93 ∷ r) ≡ with_commas_before (item_texts us) ++ (93 ∷ s) → (trees_cmp ts us ≡ Equal) × (r ≡ s)
  one_trees no_trees no_trees d e r s w v same = (refl, tails 93 93 r s same)
  one_trees no_trees (more_trees u us) d e r s w v same = absurd (omega (arith, heads 93 44 r ((tree_text u ++ with_commas_before (item_texts us)) ++ (93 ∷ s)) same))
  one_trees (more_trees t ts) no_trees d e r s w v same = absurd (omega (arith, heads 44 93 ((tree_text t ++ with_commas_before (item_texts ts)) ++ (93 ∷ r)) s same))
  one_trees (more_trees t ts) (more_trees u us) d e r s w v same =
      let first = one_tree t u d e (with_commas_before (item_texts ts) ++ (93 ∷ r)) (with_commas_before (item_texts us) ++ (93 ∷ s)) w.0 v.0
      (ends_parts 93 (item_texts ts) r (λ byte. absurd (omega (arith, byte)))) (ends_parts 93 (item_texts us) s (λ byte. absurd (omega (arith, byte))))
      (next_part 93 (tree_text t) (tree_text u) (item_texts ts) (item_texts us) r s same) in
      let others = one_trees ts us d e r s w.1 v.1 first.1 in
      (both_equal (tree_cmp t u) (trees_cmp ts us) first.0 others.0, others.1)

  -- members, each with a comma before it
  one_members : (ms ns : Members) (d e : ℕ) (r s : List ℕ) → HaveWithin IsShort ms d → HaveWithin IsShort ns e → with_commas_before (member_texts ms) ++ (125 ∷ r) ≡ with_commas_before (member_texts ns) ++ (125 ∷ s) → (members_cmp ms ns ≡ Equal) × (r ≡ s)
  one_members no_members no_members d e r s w v same = (refl, tails 125 125 r s same)
  one_members no_members (more_members l u ns) d e r s w v same = absurd (omega (arith, heads 125 44 r (((quoted_text l ++ 58 ∷ tree_text u) ++ with_commas_before (member_texts ns)) ++ (125 ∷ s)) same))
  one_members (more_members k t ms) no_members d e r s w v same = absurd (omega (arith, heads 44 125 (((quoted_text k ++ 58 ∷ tree_text t) ++ with_commas_before (member_texts ms)) ++ (125 ∷ r)) s same))
  one_members (more_members k t ms) (more_members l u ns) d e r s w v same =
      let left : List ℕ = with_commas_before (member_texts ms) ++ (125 ∷ r) in
      let right : List ℕ = with_commas_before (member_texts ns) ++ (125 ∷ s) in
      let part = next_part 125 (quoted_text k ++ 58 ∷ tree_text t) (quoted_text l ++ 58 ∷ tree_text u) (member_texts ms) (member_texts ns) r s same in
      let keys = same_quoted k l (58 ∷ (tree_text t ++ left)) (58 ∷ (tree_text u ++ right)) (sym (keyed k (tree_text t) left) ∙ part ∙ keyed l (tree_text u) right) in
      let value = tails 58 58 (tree_text t ++ left) (tree_text u ++ right) keys.1 in
      let first = one_tree t u d e left right w.0 v.0 (ends_parts 125 (member_texts ms) r (λ byte. absurd (omega (arith, byte)))) (ends_parts 125 (member_texts ns) s (λ byte. absurd (omega (arith, byte)))) value in
      let others = one_members ms ns d e r s w.1 v.1 first.1 in
      (both_equal (bytes_cmp k l) (ordering_then (tree_cmp t u) (members_cmp ms ns)) (same_bytes k l keys.0) (both_equal (tree_cmp t u) (members_cmp ms ns) first.0 others.0), others.1)
