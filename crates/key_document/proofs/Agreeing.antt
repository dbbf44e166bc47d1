-- The slot that is found in a key is that of the splice.
use Rattle.std.proofs.Common.{◌≡◌, ℕ, Bool, true, List, [], ◌∷◌, ◌++◌, Option, Some, None, length, refl, sym, ap, ◌∙◌, arith, append_assoc, length-append}
use Rattle.jsonb_spec.specs.SortKey.Readable.{IsAnyNumber}
use Rattle.jsonb_spec.specs.Grammar.{max_depth}
use Rattle.jsonb_spec.specs.SortKey.{key_of}
use Rattle.jsonb_spec.specs.Text.Range.{IsWithin}
use Rattle.jsonb_spec.specs.Tree.{Tree, null, boolean}
use Rattle.jsonb_spec.specs.SortKey.Open.{name_key}
use Rattle.jsonb_spec.specs.Edit.Splices.{Cut, IsSplice, AreSplices, Agrees}
use Rattle.jsonb_spec.specs.Edit.{Outcome, goes, becomes}
use Rattle.jsonb_spec.specs.Edit.Spots.{Answers}
use Rattle.key_edit.specs.Spots.{SlotIn}
use Rattle.key_edit.specs.declared.slot.Slot.{Slot}
use Rattle.jsonb_spec.specs.Document.Counts.{counts_at}

abbrev tail_of : List ℕ → List ℕ
tail_of [] = []
tail_of (x ∷ xs) = xs

abbrev head_of : List ℕ → ℕ
head_of [] = 0
head_of (x ∷ xs) = x

-- Bytes that go on alike with two different ones, and with the same behind them, are the same.
same_cut : (a b c d : List ℕ) → a ++ 211 ∷ b ≡ c ++ 211 ∷ d → a ++ 22 ∷ b ≡ c ++ 22 ∷ d → (a ≡ c) × (b ≡ d)
same_cut [] b [] d e f = (refl, ap tail_of e)
same_cut [] b (x ∷ c) d e f = absurd (let p : 211 ≡ x = ap head_of e in let q : 22 ≡ x = ap head_of f in omega (arith, p, q))
same_cut (x ∷ a) b [] d e f = absurd (let p : x ≡ 211 = ap head_of e in let q : x ≡ 22 = ap head_of f in omega (arith, p, q))
same_cut (x ∷ a) b (y ∷ c) d e f =
    let p : x ≡ y = ap head_of e in
    let rest = same_cut a b c d (ap tail_of e) (ap tail_of f) in
    ((λ i. p i ∷ rest.0 i), rest.1)

pub same_front : (a c b : List ℕ) → a ++ b ≡ c ++ b → a ≡ c
same_front [] [] b e = refl
same_front [] (x ∷ c) b e = absurd (omega (arith, ap length e, length-append (x ∷ c) b))
same_front (x ∷ a) [] b e = absurd (omega (arith, ap length e, length-append (x ∷ a) b))
same_front (x ∷ a) (y ∷ c) b e = let p : x ≡ y = ap head_of e in λ i. p i ∷ same_front a c b (ap tail_of e) i

pub same_back : (a b c : List ℕ) → a ++ b ≡ a ++ c → b ≡ c
same_back [] b c e = e
same_back (x ∷ a) b c e = same_back a b c (ap tail_of e)

both_become : (Fits : Tree → Type 0) (object : Bool) (name front behind : List ℕ) (depth_left : ℕ) (cut : Cut) (u : Tree) (o : Option Tree)
    → Answers key_of Fits object name front behind depth_left (becomes u) o → IsSplice key_of counts_at cut (becomes u) o
    → front ++ (name_key object name ++ (key_of u ++ behind)) ≡ cut.front ++ (cut.name ++ (key_of u ++ cut.behind))
both_become Fits object name front behind depth_left cut u None a s = absurd s
both_become Fits object name front behind depth_left cut u (Some v) a s = sym a.0 ∙ s.0

both_go : (Fits : Tree → Type 0) (object : Bool) (name front behind : List ℕ) (depth_left : ℕ) (cut : Cut) (o : Option Tree)
    → Answers key_of Fits object name front behind depth_left goes o → IsSplice key_of counts_at cut goes o → front ++ behind ≡ cut.front ++ cut.behind
both_go Fits object name front behind depth_left cut None a s = absurd s
both_go Fits object name front behind depth_left cut (Some v) a s = sym a.0 ∙ s.0

regroup : (a b c : List ℕ) → a ++ (b ++ c) ≡ (a ++ b) ++ c
regroup a b c = sym (append_assoc a b c)

pub agree : (t : Tree) (changed : (Option Tree → Outcome) → Option Tree) (bytes : List ℕ) (slot : Slot) (s : SlotIn changed bytes slot) (x : AreSplices key_of counts_at t changed) → Agrees s.0.front (name_key slot.object s.0.name) slot.behind.now x.cut
agree t changed bytes slot s x =
    let Fits : Tree → Type 0 = λ u. IsWithin IsAnyNumber u max_depth in
    let spot = s.0 in
    let n = name_key slot.object spot.name in
    let behind = spot.behind in
    let one = both_become Fits slot.object spot.name spot.front behind slot.depth_left x.cut null (changed (λ h. becomes null)) (spot.answers (λ h. becomes null)) (x.answers (λ h. becomes null)) in
    let other = both_become Fits slot.object spot.name spot.front behind slot.depth_left x.cut (boolean true) (changed (λ h. becomes (boolean true))) (spot.answers (λ h. becomes (boolean true))) (x.answers (λ h. becomes (boolean true))) in
    let none = both_go Fits slot.object spot.name spot.front behind slot.depth_left x.cut (changed (λ h. goes)) (spot.answers (λ h. goes)) (x.answers (λ h. goes)) in
    let both = same_cut (spot.front ++ n) behind (x.cut.front ++ x.cut.name) x.cut.behind
    (sym (regroup spot.front n (211 ∷ behind)) ∙ one ∙ regroup x.cut.front x.cut.name (211 ∷ x.cut.behind))
    (sym (regroup spot.front n (22 ∷ behind)) ∙ other ∙ regroup x.cut.front x.cut.name (22 ∷ x.cut.behind)) in
    let front : spot.front ≡ x.cut.front = same_front spot.front x.cut.front behind (none ∙ ap (λ b. x.cut.front ++ b) (sym both.1)) in
    record { front_is = front; name_is = same_back spot.front n x.cut.name (both.0 ∙ ap (λ f. f ++ x.cut.name) (sym front)); behind_is = sym s.1 ∙ both.1 }
