-- Lines with the keys that they are sorted by, and which order of them is right.
use Rattle.std.specs.Prelude.{◌≡◌, ℕ, ◌+◌, decimal, Bool, true, false, if◌then◌else◌, List, [], ◌∷◌, ◌++◌, Some}
use Rattle.std.specs.List.{All, Any, Contains, find}
use Rattle.std.specs.List.Sorted.{IsPermutation, IsSorted, IsStable, IsStrictlySortedBy}
use Rattle.std.specs.Ordering.{flip_args, is_eq}
use Rattle.std.specs.declared.cmp.Ordering.{Ordering}
use Rattle.std.specs.declared.cmp.Ordering.TheVariants.{Equal}
use Rattle.jsonb_spec.specs.Ascii as ascii
use Rattle.jsonb_spec.specs.Order.{bytes_cmp}
use Rattle.jsonb_spec.specs.SortKey.{key_of}
use Rattle.jsonb_spec.specs.Tree.{Tree}
use Rattle.vjson_text.specs.Texts.{IsTextOf}
use Rattle.text_scan.specs.declared.parser.Grammar.{Grammar}
use Rattle.vjson_run.specs.declared.lines.Line.{Line}

-- the key of a line
abbrev pub line_key : Line → List ℕ
line_key line = line.key.items

-- the order of lines, by their keys
abbrev pub line_cmp : Line → Line → Ordering
line_cmp l m = bytes_cmp (line_key l) (line_key m)

-- whether two lines have one key
abbrev pub same_key : Line → Line → Bool
same_key l m = is_eq (line_cmp l m)

-- the line is a text of the grammar with this tree, and its key is the tree's sort key
abbrev pub IsLineOf : Grammar → Line → Tree → Type 0
IsLineOf grammar line t = IsTextOf grammar line.text.items t × (line.key.items ≡ key_of t)

-- the order in which lines are sorted: that of their keys, or the reverse
abbrev pub order_of : Bool → Line → Line → Ordering
order_of false = line_cmp
order_of true = flip_args line_cmp

-- The lines are those given, each as often, in order; lines of one key are in the order in which they were given.
pub record Arranges (cmp : Line → Line → Ordering) (given sorted : List Line) : Type 0 where
  pub moved : IsPermutation given sorted
  pub ascending : IsSorted cmp sorted
  pub stable : IsStable cmp given sorted

-- Of the lines given, the first of each key that there is, in order: each comes strictly before the next, each is the
-- first of those given that has its key, and each that was given has the key of one.
pub record IsFirstOfEach (cmp : Line → Line → Ordering) (given retained : List Line) : Type 0 where
  pub ascending : IsStrictlySortedBy cmp retained
  pub first : All (λ l. find (same_key l) given ≡ Some l) retained
  pub covers : (l : Line) → Contains given l → Any (λ m. line_cmp l m ≡ Equal) retained

-- The lines given in order, up or down: all of them, or the first of each key.
abbrev pub IsArranged : Bool → Bool → List Line → List Line → Type 0
IsArranged down false given sorted = Arranges (order_of down) given sorted
IsArranged down true given sorted = IsFirstOfEach (order_of down) given sorted

-- a line with a line feed
abbrev pub line_text : Line → List ℕ
line_text line = line.text.items ++ ascii.line_feed ∷ []

-- how often a key is there, and a line with it
abbrev pub count_line : ℕ → Line → List ℕ
count_line count line = decimal count ++ line_text line

-- of sorted lines, how often each key is there, and the first line with it: of the first there were so many already
abbrev pub counts_from : ℕ → Line → List Line → List ℕ
counts_from count line [] = count_line count line
counts_from count line (next ∷ more) =
    if same_key line next then counts_from (count + 1) line more else count_line count line ++ counts_from 1 next more

-- The same of all, where 0 is printed of none, unless it is counted by parts.
abbrev pub counts_of : Bool → List Line → List ℕ
counts_of by_parts [] = if by_parts then [] else ascii.digit_zero ∷ ascii.line_feed ∷ []
counts_of by_parts (line ∷ more) = counts_from 1 line more
