-- The slot of a part, where a path leads to one.
use Rattle.std.proofs.Common.{◌≡◌, ℕ, ◌+◌, ◌-◌, inl, inr, List, [], ◌∷◌, ◌++◌, Bor, Option, Some, None, Ok, Err, length, replicate, take, drop, refl, sym, ap, subst, ◌∙◌, arith, append_assoc, append-nil, length-append}
use Rattle.std.proofs.Math.Seq.{take-append_seam, drop-append_seam}
use Rattle.std.proofs.lemmas.List.{length-replicate}
use Rattle.jsonb_spec.specs.SortKey.Readable.{IsAnyNumber, IsReadable}
use Rattle.jsonb_spec.specs.Grammar.{max_depth}
use Rattle.jsonb_spec.specs.PartAt.{part_at}
use Rattle.jsonb_spec.specs.SortKey.{key_of}
use Rattle.jsonb_spec.specs.Text.Range.{IsWithin}
use Rattle.jsonb_spec.specs.Tree.{Tree}
use Rattle.key_walk.specs.Found.{Finds}
use Rattle.jsonb_spec.specs.SortKey.Open.{name_key}
use Rattle.key_walk.specs.declared.find.NoKey.{NoKey}
use Rattle.key_document.specs.Changes.{FindsRange}
use Rattle.jsonb_spec.specs.Document.PartAt.{IsPartBehind}
use Rattle.jsonb_spec.specs.Edit.Splices.{IsSplice, AreSplices, entry_counts, entry_key}
use Rattle.key_document.proofs.Agreeing.{agree, same_back, same_front}
use Rattle.key_document.proofs.Reaching.{ChangesPart, at_part, part_changes, same_some}
use Rattle.key_document.proofs.Splicing.{at_splice}
use Rattle.jsonb_spec.specs.Edit.{Outcome, stays, goes, becomes, changed_at, remove}
use Rattle.jsonb_spec.specs.Edit.Spots.{Answers}
use Rattle.key_edit.specs.Spots.{SlotIn, Occurs}
use Rattle.key_edit.specs.declared.slot.Slot.{Slot}
use Rattle.jsonb_spec.specs.Document.Counts.{counts_at}

goes_stays : goes ≡ stays → ⊥
goes_stays e = cc

abbrev renewed : Option Tree → Outcome
renewed None = stays
renewed (Some u) = becomes u

-- what is at the slot of the splice has the key of the part, and the counts of its bytes
pub record Same (part : Tree) (there : Option Tree) : Type 0 where
  pub tree : Tree
  pub is : there ≡ Some tree
  pub key : key_of tree ≡ key_of part
  pub counts : counts_at tree ≡ counts_at part

module _ (t part : Tree) (changed : (Option Tree → Outcome) → Option Tree) (x : AreSplices key_of counts_at t changed) (c : ChangesPart changed part) where
  pub same_there : Same part x.there
  same_there = go x.there refl (changed renewed) (x.answers renewed) (subst (IsSplice key_of counts_at x.cut (becomes part)) (sym (c.same renewed)) (x.answers (λ there. becomes part)))
    where
      go : (there : Option Tree) → x.there ≡ there → (o : Option Tree) → IsSplice key_of counts_at x.cut (renewed there) o → IsSplice key_of counts_at x.cut (becomes part) o → Same part x.there
      go None e None s q = absurd q
      go None e (Some a) s q = absurd s
      go (Some y) e None s q = absurd s
      go (Some y) e (Some a) s q = record {
        tree = y;
        is = e;
        key = same_front (key_of y) (key_of part) x.cut.behind (same_back x.cut.name _ _ (same_back x.cut.front _ _ (sym s.0 ∙ q.0)));
        counts = same_front (counts_at y) (counts_at part) x.cut.counts_behind (same_back (replicate (length x.cut.name) 0) _ _ (same_back x.cut.counts_front _ _ (sym s.1 ∙ q.1)));
      }

  regroup : (a b c d : List ℕ) → a ++ ((b ++ c) ++ d) ≡ (a ++ b) ++ (c ++ d)
  regroup a b c d = simp append_assoc

  pub part_behind : IsPartBehind t (x.cut.front ++ x.cut.name) part
  part_behind = record {
    counts_before = x.cut.counts_front ++ replicate (length x.cut.name) 0;
    one_each = omega (arith, x.one_each, length-append x.cut.counts_front (replicate (length x.cut.name) 0), length-append x.cut.front x.cut.name, length-replicate {A = ℕ} (length x.cut.name) 0);
    behind = x.cut.behind;
    counts_behind = x.cut.counts_behind;
    key_is = x.key_is ∙ ap (λ h. x.cut.front ++ (entry_key x.cut.name h ++ x.cut.behind)) same_there.is ∙ ap (λ k. x.cut.front ++ ((x.cut.name ++ k) ++ x.cut.behind)) same_there.key ∙ regroup x.cut.front x.cut.name (key_of part) x.cut.behind;
    counts_are = x.counts_are ∙ ap (λ h. x.cut.counts_front ++ (entry_counts x.cut.name h ++ x.cut.counts_behind)) same_there.is ∙ ap (λ k. x.cut.counts_front ++ ((replicate (length x.cut.name) 0 ++ k) ++ x.cut.counts_behind)) same_there.counts ∙ regroup x.cut.counts_front (replicate (length x.cut.name) 0) (counts_at part) x.cut.counts_behind;
  }

  module _ (key : List ℕ) (slot : Slot) (s : SlotIn changed key slot) (is_key : key ≡ key_of t) where
    -- a part is at the slot that is found
    found_there : (w : Tree) × (s.0.there ≡ Some w)
    found_there = go s.0.there refl (changed remove) refl (s.0.answers remove)
      where
        go : (there : Option Tree) → s.0.there ≡ there → (o : Option Tree) → changed remove ≡ o → Answers key_of (λ u. IsWithin IsAnyNumber u max_depth) slot.object s.0.name s.0.front s.0.behind slot.depth_left (remove there) o → (w : Tree) × (s.0.there ≡ Some w)
        go (Some w) e o is a = (w, e)
        go None e None is a = absurd (c.some remove goes_stays is)
        go None e (Some v) is a = absurd a

    occurs : Occurs slot.object s.0.name slot.spot s.0.behind (Some found_there.0)
    occurs = subst (Occurs slot.object s.0.name slot.spot s.0.behind) found_there.1 s.0.occurs

    -- where its key begins
    pub offset_is : length key - length slot.spot.value.now ≡ length (x.cut.front ++ x.cut.name)
    offset_is =
        let a = agree t changed key slot s x in
        omega (arith, ap length s.0.inside, length-append s.0.front slot.spot.entry.now, ap length occurs.1, length-append (name_key slot.object s.0.name) slot.spot.value.now, ap length a.front_is, ap length a.name_is, length-append x.cut.front x.cut.name)

    all_are : (a b c d e f g h : List ℕ) → a ≡ b → c ≡ d → e ≡ f → a ++ (c ++ (g ++ e)) ≡ b ++ ((d ++ h) ++ f) → g ≡ h
    all_are a b c d e f g h p q r is =
        same_front g h f (same_back d (g ++ f) (h ++ f) (same_back b (d ++ (g ++ f)) (d ++ (h ++ f))
        ((λ i. sym p i ++ (sym q i ++ (g ++ sym r i))) ∙ is ∙ ap (λ l. b ++ l) (append_assoc d h f))))

    -- and its key
    pub value_is : slot.spot.value.now ≡ key_of part ++ slot.behind.now
    value_is =
        let a = agree t changed key slot s x in
        let w = found_there.0 in
        let near : key ≡ s.0.front ++ (name_key slot.object s.0.name ++ (key_of w ++ slot.behind.now)) = s.0.inside ∙ ap (λ l. s.0.front ++ l) (occurs.1 ∙ ap (λ l. name_key slot.object s.0.name ++ l) (occurs.2 ∙ ap (λ l. key_of w ++ l) s.1)) in
        let far = x.key_is ∙ ap (λ h. x.cut.front ++ (entry_key x.cut.name h ++ x.cut.behind)) same_there.is in
        let same : key_of w ≡ key_of same_there.tree = all_are s.0.front x.cut.front (name_key slot.object s.0.name) x.cut.name slot.behind.now x.cut.behind (key_of w) (key_of same_there.tree) a.front_is a.name_is a.behind_is (sym near ∙ is_key ∙ far) in
        occurs.2 ∙ (λ i. same i ++ s.1 i) ∙ ap (λ k. k ++ slot.behind.now) same_there.key

-- ---- what is found

-- there is no part
pub none_found : (t : Tree) (bytes : List ℕ) (o : Option Tree) → Finds bytes o (Ok None) → FindsRange t o (Ok None)
none_found t bytes None f = tt
none_found t bytes (Some part) f = absurd f

pub no_error : (bytes : List ℕ) (o : Option Tree) (error : NoKey) → Finds bytes o (Err error) → ⊥
no_error bytes None error f = f
no_error bytes (Some part) error f = f

-- there is one
pub record PartThere (o : Option Tree) : Type 0 where
  pub part : Tree
  pub is : o ≡ Some part
  pub readable : IsReadable part

pub part_there : (bytes : List ℕ) (o : Option Tree) (rest : Bor (List ℕ)) → Finds bytes o (Ok (Some rest)) → PartThere o
part_there bytes None rest f = absurd f
part_there bytes (Some part) rest f = record { part = part; is = refl; readable = f.readable }

-- it is the value
pub whole_found : (t : Tree) (names : List (List ℕ)) (key : Bor (List ℕ)) → IsReadable t → key.now ≡ key_of t → length names ≡ 0 → FindsRange t (part_at names t) (Ok (Some (0, key)))
whole_found t (name ∷ names) key r e none = absurd (omega (arith, none))
whole_found t [] key r e none = (
  r,
  ([], refl, record { counts_before = []; one_each = refl; behind = []; counts_behind = []; key_is = sym (append-nil (key_of t)); counts_are = sym (append-nil (counts_at t)) }),
  e,
)

-- a part is in the key
pub part_inside : (t : Tree) (names : List (List ℕ)) (part : Tree) → IsReadable t → part_at names t ≡ Some part → (before : List ℕ) × IsPartBehind t before part
part_inside t [] part r e =
    subst (λ p. (before : List ℕ) × IsPartBehind t before p) (same_some e)
    ([], record { counts_before = []; one_each = refl; behind = []; counts_behind = []; key_is = sym (append-nil (key_of t)); counts_are = sym (append-nil (counts_at t)) })
part_inside t (name ∷ names) part r e =
    let c = at_part name names t part r.proper e in
    elim (at_splice (name ∷ names) t r.proper) [
      | inl none ↦ absurd (c.some (λ there. goes) goes_stays (none (λ there. goes)))
      | inr x ↦ (x.cut.front ++ x.cut.name, part_behind t part (λ change. changed_at change (name ∷ names) t) x c)
    ]

-- or it is at the slot that is found
pub slot_found : (t : Tree) (names : List (List ℕ)) (o : PartThere (part_at names t)) (key : List ℕ) (slot : Slot) (offset : ℕ) (bytes : Bor (List ℕ)) → (length names ≡ 0 → ⊥) → IsReadable t → key ≡ key_of t → SlotIn (λ change. changed_at change names t) key slot
    → offset ≡ length key - length slot.spot.value.now → ((before : List ℕ) → slot.spot.value.now ≡ before ++ slot.behind.now → bytes.now ≡ before) → FindsRange t (part_at names t) (Ok (Some (offset, bytes)))
slot_found t names o key slot offset bytes some r e s at is = elim (at_splice names t r.proper) [
  | inl none ↦ absurd ((part_changes names t o.part some r.proper o.is).some (λ there. goes) goes_stays (none (λ there. goes)))
  | inr x ↦
      let c = part_changes names t o.part some r.proper o.is in
      let changed : (Option Tree → Outcome) → Option Tree = λ change. changed_at change names t in
      subst (λ p. FindsRange t p (Ok (Some (offset, bytes)))) (sym o.is)
      (o.readable, (x.cut.front ++ x.cut.name, sym (at ∙ offset_is t o.part changed x c key slot s e), part_behind t o.part changed x c), is (key_of o.part) (value_is t o.part changed x c key slot s e))
]

pub no_slot : (t : Tree) (names : List (List ℕ)) (o : PartThere (part_at names t)) → (length names ≡ 0 → ⊥) → IsReadable t → ((change : Option Tree → Outcome) → changed_at change names t ≡ None) → ⊥
no_slot t names o some r none = (part_changes names t o.part some r.proper o.is).some (λ there. goes) goes_stays (none (λ there. goes))

-- a part's key, by its offset and its size
pub range_is : (key before part behind : List ℕ) (offset size : ℕ) → key ≡ before ++ (part ++ behind) → length before ≡ offset → size ≡ length part → take ((offset + size) - offset) (drop offset key) ≡ part
range_is key before part behind offset size is at long =
    let same : (offset + size) - offset ≡ length part = omega (arith, long) in
    ap (λ k. take ((offset + size) - offset) (drop offset k)) is ∙ ap (λ n. take ((offset + size) - offset) (drop n (before ++ (part ++ behind)))) (sym at)
    ∙ ap (take ((offset + size) - offset)) (drop-append_seam before (part ++ behind)) ∙ ap (λ n. take n (part ++ behind)) same ∙ take-append_seam part behind

-- ---- a part of a key

pub none_there : (bytes : List ℕ) (o : Option Tree) → Finds bytes o (Ok None) → o ≡ None
none_there bytes None f = refl
none_there bytes (Some part) f = absurd f

-- the part, where its key begins the rest of the bytes
pub record PartFound (o : Option Tree) (rest : List ℕ) : Type 0 where
  pub part : Tree
  pub is : o ≡ Some part
  pub readable : IsReadable part
  pub behind : List ℕ
  pub occurs : rest ≡ key_of part ++ behind

pub part_found : (bytes : List ℕ) (o : Option Tree) (rest : Bor (List ℕ)) → Finds bytes o (Ok (Some rest)) → PartFound o rest.now
part_found bytes None rest f = absurd f
part_found bytes (Some part) rest f = record { part = part; is = refl; readable = f.readable; behind = f.behind; occurs = f.occurs }
