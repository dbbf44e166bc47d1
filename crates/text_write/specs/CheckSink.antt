-- What is held of a text that is only checked, while arrays and objects are open.
use Rattle.std.specs.Prelude.{ℕ, Bool, true, false, List, []}
use Rattle.jsonb_spec.specs.Source.Open.{Open}
use Rattle.jsonb_spec.specs.Source.{Found}
use Rattle.text_write.specs.KeySink.{Held, HeldFits}
use Rattle.text_members.specs.OpenMembers.{AreOf, EndsObject, Layout}
use Rattle.text_write.specs.declared.check.CheckSink.{CheckSink}

-- nothing of members is written
abbrev pub unwritten : Layout
unwritten = record { commas = false; bytes = λ f. []; begins = λ cs. 0 }

-- The members are those of what is open: up to where a value is due, or up to the end of the innermost's last part.
pub record CheckHolds (text : List ℕ) (sink : CheckSink) (due : Bool) (held : List Held) (cs : List Open)
    : Type 0 where
  pub members : AreOf unwritten text sink.members due cs
  pub fits : HeldFits unwritten held cs

-- A value ended where one was due.
abbrev pub CheckFilled : List ℕ → CheckSink → List Held → List Open → Type 0
CheckFilled text sink held cs = CheckHolds text sink true held cs

-- No key comes twice, and the object ended.
abbrev pub CheckEnds : List ℕ → CheckSink → List Found → List Held → List Open → Type 0
CheckEnds text = EndsObject (λ sink s. CheckFilled text sink)
