-- A session that is in trouble, and for what; and what memory is taken for.
use Rattle.std.proofs.Common.{◌≡◌, ◌⊎◌, inl, inr, ℕ, Bool, true, false, List, [], ◌∷◌, ◌++◌, Option, None, Some, IfSome, OnOk, Result, Ok, Err, refl, sym, ap, subst, cond, ◌∙◌, append-nil}
use Rattle.std.proofs.lemmas.List.Elements.{filter-append}
use Rattle.std.specs.List.{Any, filter}
use Rattle.jsonb_spec.specs.Tree.{Tree}
use Rattle.jsonb_spec.specs.Parsing.Memory.{MayAllocate}
use Rattle.vjson_text.specs.Texts.{IsNoTextOf}
use Rattle.vjson_text.specs.Memory.{LacksSpace}
use Rattle.text_scan.specs.declared.parser.Grammar.{Grammar}
use Rattle.vjson_run.proofs.Lists.{any_before, any_behind, any_last}
use Rattle.vjson_run.proofs.Taken.{Flushed, Rejected, rejected_taken, same_taken, flushed_taken, nothing_taken, over_taken, takes_then, trouble_taken}
use Rattle.vjson_run.specs.Answers.{IsOne, compares}
use Rattle.vjson_run.specs.Chosen.{Chooses, IsLeftOut}
use Rattle.vjson_run.specs.Keys.{IsKeyOf}
use Rattle.vjson_run.specs.Runs.{IsSame, Takes, TakesChosen, denied}
use Rattle.vjson_run.specs.Trouble.{Advances, MayRunOutBy, MayTakeMemory, MayTrouble, Troubles}
use Rattle.vjson_run.specs.declared.answers.Buffers.{Buffers}
use Rattle.vjson_run.specs.declared.options.Command.{Command}
use Rattle.vjson_run.specs.declared.options.Command.TheVariants.{Check, Format, Get, Sort, Equal, Diff, Keys}
use Rattle.vjson_run.specs.declared.options.Options.{Options}
use Rattle.vjson_run.specs.declared.session.Session.{Session}
use Rattle.vjson_run.specs.declared.session.Status.{Status}
use Rattle.vjson_run.specs.declared.session.Status.TheVariants.{Yes, No, Trouble}

-- ---- memory

pub space_taken : (g : Grammar) (made : Tree → List ℕ) (text : List ℕ) (capacity len : ℕ) → MayAllocate text ⊎ LacksSpace g made text capacity len → MayTakeMemory g text
space_taken g made text capacity len (inl may) = inl may
space_taken g made text capacity len (inr lacks) = inr (lacks.tree, lacks.is_text)

-- a text with a key is one of the grammar
pub keyed_one : (o : Options) (text key : List ℕ) → IsKeyOf o text key → IsOne o.grammar text
keyed_one o text key h = (h.tree, h.is_text)

-- what runs out by each command
pub by_command : (command own : Command) (g : Grammar) (text : List ℕ) → own ≡ command → (command ≡ Check → ⊥) → MayTakeMemory g text → MayRunOutBy own g text
by_command Check own g text is other may = absurd (other refl)
by_command Format own g text is other may = subst (λ c. MayRunOutBy c g text) (sym is) may
by_command Get own g text is other may = subst (λ c. MayRunOutBy c g text) (sym is) may
by_command Sort own g text is other may = subst (λ c. MayRunOutBy c g text) (sym is) may
by_command Equal own g text is other may = subst (λ c. MayRunOutBy c g text) (sym is) may
by_command Diff own g text is other may = subst (λ c. MayRunOutBy c g text) (sym is) may
by_command Keys own g text is other may = subst (λ c. MayRunOutBy c g text) (sym is) may

-- ---- trouble

denied_trouble : (status : Status) → denied status ≡ Trouble → status ≡ Trouble
denied_trouble Yes e = cc
denied_trouble No e = cc
denied_trouble Trouble e = refl

-- a text that isn't left out is chosen
is_chosen : (o : Options) (chosen : List ℕ → Bool) (text : List ℕ) → Chooses o chosen → (IsLeftOut o text → ⊥) → filter chosen (text ∷ []) ≡ text ∷ []
is_chosen o chosen text chooses other = by (chosen text) refl
  where
    by : (b : Bool) → chosen text ≡ b → cond b (text ∷ []) [] ≡ text ∷ []
    by true is = refl
    by false is = absurd (other ((chooses text).0 is))

module _ {W E : Type 0} where
  -- only the buffers differ
  pub with_buffers : (s : Session W E) (buffers : Buffers) → IsSame s (record s { buffers = buffers })
  with_buffers s buffers = record {
    retained = record { options = refl; writer = refl; error = refl; status = refl; over = refl; lines = refl; last = refl };
    bytes = refl;
  }

  pub as_before : (s t : Session W E) → t.options ≡ s.options → t.status ≡ s.status → Troubles s [] t
  as_before s t options status = record { options = options; only = λ e. inl (sym status ∙ e) }

  pub once_denied : (s t : Session W E) → t.options ≡ s.options → t.status ≡ denied s.status → Troubles s [] t
  once_denied s t options status = record { options = options; only = λ e. inl (denied_trouble s.status (sym status ∙ e)) }

  pub troubles_then : (s t u : Session W E) (xs ys : List (List ℕ)) → Troubles s xs t → Troubles t ys u → Troubles s (xs ++ ys) u
  troubles_then s t u xs ys h k = record { options = k.options ∙ h.options; only = λ e. by_last (k.only e) }
    where
      by_first : (s.status ≡ Trouble) ⊎ Any (MayTrouble s.options.now) xs → (s.status ≡ Trouble) ⊎ Any (MayTrouble s.options.now) (xs ++ ys)
      by_first (inl was) = inl was
      by_first (inr any) = inr (any_before (MayTrouble s.options.now) xs ys any)

      by_last : (t.status ≡ Trouble) ⊎ Any (MayTrouble t.options.now) ys → (s.status ≡ Trouble) ⊎ Any (MayTrouble s.options.now) (xs ++ ys)
      by_last (inl was) = by_first (h.only was)
      by_last (inr any) = inr (any_behind (MayTrouble s.options.now) xs ys (subst (λ o. Any (MayTrouble o.now) ys) h.options any))

  pub troubles_no_more : (s t u : Session W E) (xs : List (List ℕ)) → Troubles s xs t → Troubles t [] u → Troubles s xs u
  troubles_no_more s t u xs h k = subst (λ l. Troubles s l u) (append-nil xs) (troubles_then s t u xs [] h k)

  pub troubles_of_more : (s t : Session W E) (xs ys : List (List ℕ)) → Troubles s xs t → Troubles s (xs ++ ys) t
  troubles_of_more s t xs ys h = troubles_then s t t xs ys h (record { options = refl; only = λ e. inl e })

  -- memory ran out at a text
  pub out_of_memory : (s t u : Session W E) (text : List ℕ) → Troubles s [] t → u.options ≡ t.options → MayRunOutBy s.options.now.command s.options.now.grammar text → Troubles s (text ∷ []) u
  out_of_memory s t u text h options may = record { options = options ∙ h.options; only = λ e. inr (any_last (MayTrouble s.options.now) [] text (inl may)) }

  module _ (contents : W → Option (List ℕ)) where
    chooses_then : (s t : Session W E) (chosen : List ℕ → Bool) → t.options ≡ s.options → Chooses s.options.now chosen → Chooses t.options.now chosen
    chooses_then s t chosen options h = subst (λ o. Chooses o.now chosen) (sym options) h

    pub chosen_then : (s t u : Session W E) (xs ys : List (List ℕ)) → t.options ≡ s.options → TakesChosen contents s xs t → TakesChosen contents t ys u → TakesChosen contents s (xs ++ ys) u
    chosen_then s t u xs ys options h k chosen chooses =
        subst (λ l. Takes contents s l u) (sym (filter-append chosen xs ys))
        (takes_then contents s t u (filter chosen xs) (filter chosen ys) (h chosen chooses) (k chosen (chooses_then s t chosen options chooses)))

    -- nothing is done for a text that is left out
    pub left_taken : (s t : Session W E) (text : List ℕ) → IsSame s t → IsLeftOut s.options.now text → TakesChosen contents s (text ∷ []) t
    left_taken s t text same left chosen chooses =
        subst (λ b. Takes contents s (cond b (text ∷ []) []) t) (sym ((chooses text).1 left)) (same_taken contents s t same)

    -- another is taken
    pub chosen_taken : (s t : Session W E) (text : List ℕ) → (IsLeftOut s.options.now text → ⊥) → Takes contents s (text ∷ []) t → TakesChosen contents s (text ∷ []) t
    chosen_taken s t text other takes chosen chooses = subst (λ l. Takes contents s l t) (sym (is_chosen s.options.now chosen text chooses other)) takes

    pub answered_taken : (s m n t : Session W E) (text : List ℕ) → IsSame s m → (IsLeftOut s.options.now text → ⊥) → Takes contents m (text ∷ []) n → n.options ≡ s.options → TakesChosen contents n [] t
        → TakesChosen contents s (text ∷ []) t
    answered_taken s m n t text same other takes options settled =
        subst (λ l. TakesChosen contents s l t) (append-nil (text ∷ []))
        (chosen_then s n t (text ∷ []) [] options (chosen_taken s n text other (takes_then contents s m n [] (text ∷ []) (same_taken contents s m same) takes)) settled)

    pub advances_then : (s t u : Session W E) (xs ys : List (List ℕ)) → Advances contents s xs t → Advances contents t ys u → Advances contents s (xs ++ ys) u
    advances_then s t u xs ys h k = record { takes = chosen_then s t u xs ys h.troubles.options h.takes k.takes; troubles = troubles_then s t u xs ys h.troubles k.troubles }

    pub advances_no_more : (s t u : Session W E) (xs : List (List ℕ)) → TakesChosen contents s xs t → Troubles s [] t → Advances contents t [] u → Advances contents s xs u
    advances_no_more s t u xs takes calm k = record {
      takes = subst (λ l. TakesChosen contents s l u) (append-nil xs) (chosen_then s t u xs [] calm.options takes k.takes);
      troubles = troubles_of_more s u [] xs (troubles_no_more s t u [] calm k.troubles);
    }

    pub advances_nowhere : (s : Session W E) → Advances contents s [] s
    advances_nowhere s = record { takes = λ _ _. nothing_taken contents s; troubles = as_before s s refl refl }

    pub advances_flushed : (s t : Session W E) → Flushed contents s t → Advances contents s [] t
    advances_flushed s t h = record { takes = λ _ _. flushed_taken contents s t h; troubles = as_before s t h.options h.status }

    -- no more is read
    pub advances_over : (s t : Session W E) (xs ys : List (List ℕ)) → t.over ≡ true → Advances contents s xs t → Advances contents s (xs ++ ys) t
    advances_over s t xs ys over h = record {
      takes = λ chosen chooses.
          subst (λ l. Takes contents s l t) (sym (filter-append chosen xs ys)) (over_taken contents s t (filter chosen xs) (filter chosen ys) over (h.takes chosen chooses));
      troubles = troubles_of_more s t xs ys h.troubles;
    }

    -- memory ran out
    pub advances_out_of_memory : (s t u : Session W E) (text : List ℕ) → Troubles s [] t → u.status ≡ Trouble → u.options ≡ t.options → MayRunOutBy s.options.now.command s.options.now.grammar text
        → Advances contents s (text ∷ []) u
    advances_out_of_memory s t u text h is options may = record { takes = λ chosen _. trouble_taken contents s u (filter chosen (text ∷ [])) is; troubles = out_of_memory s t u text h options may }

    rejected_by : (command : Command) (s t : Session W E) (text : List ℕ) → s.options.now.command ≡ command → IsNoTextOf s.options.now.grammar text → Rejected contents s t → Troubles s (text ∷ []) t
    rejected_by Equal s t text is none h = record { options = h.options; only = λ e. inr (any_last (MayTrouble s.options.now) [] text (inr (ap compares is, none))) }
    rejected_by Diff s t text is none h = record { options = h.options; only = λ e. inr (any_last (MayTrouble s.options.now) [] text (inr (ap compares is, none))) }
    rejected_by Check s t text is none h = troubles_of_more s t [] (text ∷ []) (once_denied s t h.options (h.status (ap compares is)))
    rejected_by Format s t text is none h = troubles_of_more s t [] (text ∷ []) (once_denied s t h.options (h.status (ap compares is)))
    rejected_by Get s t text is none h = troubles_of_more s t [] (text ∷ []) (once_denied s t h.options (h.status (ap compares is)))
    rejected_by Sort s t text is none h = troubles_of_more s t [] (text ∷ []) (once_denied s t h.options (h.status (ap compares is)))
    rejected_by Keys s t text is none h = troubles_of_more s t [] (text ∷ []) (once_denied s t h.options (h.status (ap compares is)))

    -- a text is rejected
    pub advances_rejected : (s t : Session W E) (text : List ℕ) → IsNoTextOf s.options.now.grammar text → Rejected contents s t → Advances contents s (text ∷ []) t
    advances_rejected s t text none h = record { takes = chosen_taken s t text (λ left. none left.tree left.is_text) (rejected_taken contents s t text none h); troubles = rejected_by s.options.now.command s t text refl none h }

    -- and it is reported
    pub advances_error : (s t u : Session W E) (text : List ℕ) → IsNoTextOf s.options.now.grammar text × IsSame s t → (IsNoTextOf t.options.now.grammar text → Advances contents t (text ∷ []) u)
        → Advances contents s (text ∷ []) u
    advances_error s t u text h rejects = record {
      takes = chosen_then s t u [] (text ∷ []) h.1.retained.options (λ _ _. same_taken contents s t h.1)
          (rejects (subst (λ o. IsNoTextOf o.now.grammar text) (sym h.1.retained.options) h.0)).takes;
      troubles = troubles_then s t u [] (text ∷ []) (as_before s t h.1.retained.options h.1.retained.status)
          (rejects (subst (λ o. IsNoTextOf o.now.grammar text) (sym h.1.retained.options) h.0)).troubles;
    }

    -- of an input that was read the texts are taken, and the trouble is for them
    pub fed_takes : {X F : Type 0} (r : Result X F) (known : Option (List ℕ)) (s t : Session W E) (texts : List ℕ → List (List ℕ)) → OnOk r (IfSome known (λ bytes. Advances contents s (texts bytes) t))
        → OnOk r (IfSome known (λ bytes. TakesChosen contents s (texts bytes) t))
    fed_takes (Err e) known s t texts h = tt
    fed_takes (Ok x) None s t texts h = tt
    fed_takes (Ok x) (Some bytes) s t texts h = h.takes

    pub fed_troubles : {X F : Type 0} (r : Result X F) (known : Option (List ℕ)) (s t : Session W E) (texts : List ℕ → List (List ℕ)) → OnOk r (IfSome known (λ bytes. Advances contents s (texts bytes) t))
        → OnOk r (IfSome known (λ bytes. Troubles s (texts bytes) t))
    fed_troubles (Err e) known s t texts h = tt
    fed_troubles (Ok x) None s t texts h = tt
    fed_troubles (Ok x) (Some bytes) s t texts h = h.troubles
