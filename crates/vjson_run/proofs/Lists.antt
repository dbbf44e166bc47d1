-- One element more; and what follows from two clauses of one result.
use Rattle.std.proofs.Common.{◌≡◌, Bool, true, false, MatchBool, List, suc, [], ◌∷◌, ◌++◌, Result, Ok, Err, OnOk, length, refl, subst, ◌∙◌, arith, length-append}
use Rattle.std.proofs.lemmas.List.{get_or_append_left, get_or_push, length_push}
use Rattle.std.specs.List.{AllZip, Any}

pub zipped_more : {A B : Type 0} (R : A → B → Type 0) (xs : List A) (ys : List B) (x : A) (y : B) → AllZip R xs ys → R x y → AllZip R (xs ++ x ∷ []) (ys ++ y ∷ [])
zipped_more R [] [] x y all one = (one, tt)
zipped_more R [] (b ∷ ys) x y all one = absurd all
zipped_more R (a ∷ xs) [] x y all one = absurd all
zipped_more R (a ∷ xs) (b ∷ ys) x y all one = (all.0, zipped_more R xs ys x y all.1 one)

pub any_before : {A : Type 0} (P : A → Type 0) (xs ys : List A) → Any P xs → Any P (xs ++ ys)
any_before P xs ys h = (h.0, h.1, omega (arith, h.2, length-append xs ys), get_or_append_left xs ys h.1 h.0 h.2 ∙ h.3, h.4)

pub any_behind : {A : Type 0} (P : A → Type 0) (xs ys : List A) → Any P ys → Any P (xs ++ ys)
any_behind P [] ys h = h
any_behind P (x ∷ xs) ys h =
    let k = any_behind P xs ys h in
    (suc k.0, k.1, omega (arith, k.2), k.3, k.4)

pub any_last : {A : Type 0} (P : A → Type 0) (xs : List A) (x : A) → P x → Any P (xs ++ x ∷ [])
any_last P xs x h = (length xs, x, omega (arith, length_push xs x), get_or_push xs x x (length xs) refl, h)

pub where_true : (P Q : Type 0) (b : Bool) → b ≡ true → MatchBool b P Q → P
where_true P Q b is h = subst (λ c. MatchBool c P Q) is h

pub where_false : (P Q : Type 0) (b : Bool) → b ≡ false → MatchBool b P Q → Q
where_false P Q b is h = subst (λ c. MatchBool c P Q) is h

pub on_ok_both : {T E P Q R : Type 0} (r : Result T E) → (P → Q → R) → OnOk r P → OnOk r Q → OnOk r R
on_ok_both (Ok x) both first second = both first second
on_ok_both (Err e) both first second = tt
