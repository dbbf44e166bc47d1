-- The name of the next member, checked beside the last one.
use Rattle.std.proofs.Common.{◌≡◌, ◌≢◌, ℕ, ◌+◌, ◌↔◌, Bool, true, false, true≢false, List, ◌++◌, Option, Some, None, drop, length, is_lt, refl, sym, ap, subst, ◌∙◌, arith, length-append}
use Rattle.std.proofs.Math.Seq.{drop-append_seam}
use Rattle.std.specs.Bool.{IsTrue}
use Rattle.std.specs.Ordering.{nat_cmp}
use Rattle.std.specs.Cmp.Lexicographic.{slice_cmp}
use Rattle.std.specs.declared.cmp.Ordering.{Ordering}
use Rattle.std.specs.declared.cmp.Ordering.TheVariants.{Less, Equal, Greater}
use Rattle.key_value.proofs.Texts.{none_some, some_same}
use Rattle.key_walk.specs.Frames.{TextFirst, Frame, in_array, in_object, IsAbove, NameFirst, IsFrame}
use Rattle.key_walk.proofs.Framed.{one_name, names_compare}
use Rattle.jsonb_spec.specs.SortKey.{text_key}

less : (r : Ordering) → (is_lt r ≡ true) ↔ (r ≡ Less)
less Less = (λ e. refl, λ e. refl)
less Equal = (λ e. absurd (true≢false (sym e)), λ e. cc e)
less Greater = (λ e. absurd (true≢false (sym e)), λ e. cc e)

-- the last name's key was compared with this one's
pub above_last : (bytes earlier rest key_before key : List ℕ) (last start : ℕ) (lt : Bool) → last ≢ 1 → start + last ≡ length bytes → earlier ≡ drop start bytes
    → ((text more : List ℕ) → earlier ≡ text_key text ++ more → Some rest ≡ Some more) → ((b : List ℕ) → earlier ≡ b ++ rest → key_before ≡ b) → lt ≡ is_lt (slice_cmp nat_cmp key_before key)
    → (before : Option (List ℕ)) → IsFrame bytes (in_object before) last → (name : List ℕ) → key ≡ text_key name → IsTrue lt ↔ IsAbove before name
above_last bytes earlier rest key_before key last start lt some size back found fronted is None h name named = absurd (some h)
above_last bytes earlier rest key_before key last start lt some size back found fronted is (Some l) h name named =
    let at : start ≡ length h.front = omega (arith, size, ap length h.occurs, length-append h.front (text_key l ++ h.behind), h.is_size) in
    let there : earlier ≡ text_key l ++ h.behind = back ∙ (λ i. drop (at i) (h.occurs i)) ∙ drop-append_seam h.front (text_key l ++ h.behind) in
    let behind : rest ≡ h.behind = some_same rest h.behind (found l h.behind there) in
    let first : key_before ≡ text_key l = fronted (text_key l) (there ∙ ap (λ r. text_key l ++ r) (sym behind)) in
    let order : slice_cmp nat_cmp key_before key ≡ slice_cmp nat_cmp l name = (λ i. slice_cmp nat_cmp (first i) (named i)) ∙ names_compare l name in
    let both = less (slice_cmp nat_cmp key_before key) in
    (λ yes. sym order ∙ both.0 (sym is ∙ yes), λ above. is ∙ both.1 (order ∙ above))

text_of_name : (before : Option (List ℕ)) (name rest more : List ℕ) → NameFirst (in_object before) name rest more → TextFirst rest more
text_of_name before name rest more n = record { text = name; utf8 = n.1; occurs = n.2 }

pub no_text : (bytes rest : List ℕ) (last : ℕ) → last ≢ 0 → ((more : List ℕ) → (None ≡ Some more) ↔ TextFirst rest more) → (f : Frame) → IsFrame bytes f last → (more : List ℕ) → (None ≡ Some more) ↔ ((name : List ℕ) × NameFirst f name rest more)
no_text bytes rest last object found in_array h more = absurd (object h)
no_text bytes rest last object found (in_object before) h more = (λ e. absurd (none_some more e), λ n. (found more).1 (text_of_name before n.0 rest more n.1))

pub not_above : (bytes rest value key : List ℕ) (last : ℕ) → last ≢ 0 → ((more : List ℕ) → (Some value ≡ Some more) ↔ TextFirst rest more) → ((b : List ℕ) → rest ≡ b ++ value → key ≡ b)
    → ((before : Option (List ℕ)) → IsFrame bytes (in_object before) last → (name : List ℕ) → key ≡ text_key name → IsTrue false ↔ IsAbove before name)
    → (f : Frame) → IsFrame bytes f last → (more : List ℕ) → (None ≡ Some more) ↔ ((name : List ℕ) × NameFirst f name rest more)
not_above bytes rest value key last object found fronted above in_array h more = absurd (object h)
not_above bytes rest value key last object found fronted above (in_object before) h more = (λ e. absurd (none_some more e), λ n. absurd (clash n.0 n.1))
  where
    clash : (name : List ℕ) → NameFirst (in_object before) name rest more → ⊥
    clash name n =
        let t = (found value).0 refl in
        let same : t.text ≡ name = one_name t.text name value more (sym t.occurs ∙ n.2) in
        true≢false (sym ((above before h t.text (fronted (text_key t.text) t.occurs)).1 (subst (IsAbove before) (sym same) n.0)))

pub name_above : (bytes rest value key : List ℕ) (last : ℕ) → last ≢ 0 → ((more : List ℕ) → (Some value ≡ Some more) ↔ TextFirst rest more) → ((b : List ℕ) → rest ≡ b ++ value → key ≡ b)
    → ((before : Option (List ℕ)) → IsFrame bytes (in_object before) last → (name : List ℕ) → key ≡ text_key name → IsTrue true ↔ IsAbove before name)
    → (f : Frame) → IsFrame bytes f last → (more : List ℕ) → (Some value ≡ Some more) ↔ ((name : List ℕ) × NameFirst f name rest more)
name_above bytes rest value key last object found fronted above in_array h more = absurd (object h)
name_above bytes rest value key last object found fronted above (in_object before) h more = (to, λ n. (found more).1 (text_of_name before n.0 rest more n.1))
  where
    to : Some value ≡ Some more → (name : List ℕ) × NameFirst (in_object before) name rest more
    to e =
        let t = (found value).0 refl in
        let same = some_same value more e in
        (t.text, ((above before h t.text (fronted (text_key t.text) t.occurs)).0 refl, t.utf8, t.occurs ∙ ap (λ v. text_key t.text ++ v) same))
