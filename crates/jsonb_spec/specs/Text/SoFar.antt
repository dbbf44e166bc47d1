-- The text of arrays and objects that are open, as far as it is written.
use Rattle.std.specs.Prelude.{ℕ, Bool, true, false, List, [], ◌∷◌, ◌++◌, map}
use Rattle.jsonb_spec.specs.Ascii as ascii
use Rattle.jsonb_spec.specs.Text.{with_commas}
use Rattle.jsonb_spec.specs.Text.StringText.{quoted_text}
use Rattle.jsonb_spec.specs.Source.Open.{Open, elements_so_far, members_so_far}
use Rattle.jsonb_spec.specs.Source.{Found}
use Rattle.jsonb_spec.specs.Text.SourceText.{source_text}

-- a key and the colon after it
abbrev pub key_text : List ℕ → List ℕ
key_text key = quoted_text key ++ ascii.colon ∷ []

-- the text of a member
abbrev pub member_text : Found → List ℕ
member_text f = key_text f.key ++ source_text f.source

-- whether there are none
abbrev pub is_empty : {A : Type 0} → List A → Bool
is_empty [] = true
is_empty (part ∷ parts) = false

-- a comma, but before the first part
abbrev pub comma_unless : Bool → List ℕ
comma_unless true = []
comma_unless false = ascii.comma ∷ []

-- the comma after a part, if there is one
abbrev pub comma_after : {A : Type 0} → List A → List ℕ
comma_after [] = []
comma_after (part ∷ parts) = ascii.comma ∷ []

-- from the opening byte to the end of the last part, in the order of the source
abbrev pub parts_text : Open → List ℕ
parts_text (elements_so_far ss) = ascii.open_bracket ∷ with_commas (map source_text ss)
parts_text (members_so_far fs key offset) = ascii.open_brace ∷ with_commas (map member_text fs)

-- from there to where a value is due: the comma, and in an object the key that waits for its value
abbrev pub lead_text : Open → List ℕ
lead_text (elements_so_far ss) = comma_after ss
lead_text (members_so_far fs key offset) = comma_after fs ++ key_text key.1

-- All that are open, the innermost first: up to where a value is due, or up to the end of the innermost's last part.
abbrev pub open_text : Bool → List Open → List ℕ
open_text due [] = []
open_text true (c ∷ cs) = open_text true cs ++ (parts_text c ++ lead_text c)
open_text false (c ∷ cs) = open_text true cs ++ parts_text c
