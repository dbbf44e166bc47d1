-- Which settings a tree gives, with the defaults, and what is rejected.
use Rattle.std.specs.Prelude.{◌≡◌, ◌≢◌, ◌⊎◌, ℕ, ◌<◌, ◌^◌, List, Bool, false, Option, Some, None, codes, string_bytes, pos}
use Rattle.std.specs.Str.{bytes_eq}
use Rattle.jsonb.specs.AstView.{Written, written_members}
use Rattle.jsonb_core.specs.Error.CodeView.{code_of}
use Rattle.jsonb_spec.specs.Grammar.{IsDocument, IsNoDocument}
use Rattle.jsonb_spec.specs.Mode.{extended}
use Rattle.text_scan.specs.Answer.{Fails}
use Rattle.jsonb_spec.specs.Parsing.Memory.{MayAllocate}
use Rattle.jsonb_spec.specs.Accessors.{as_boolean, as_object, as_string, find_member, IsWholeNumber}
use Rattle.jsonb_spec.specs.Line.{column_at, fault_index, line_at}
use Rattle.jsonb_spec.specs.Located.{IsLocated}
use Rattle.jsonb_spec.specs.Parsing.Document.{document_of}
use Rattle.jsonb_spec.specs.Source.{object_source, SourceMembers, no_source_members, more_source_members}
use Rattle.jsonb.specs.Source.{source_members_view}
use Rattle.jsonb_spec.specs.Tree.{Mark, Tree, Members}
use Rattle.jsonb_core.specs.declared.error.Error.{Error}
use Rattle.jsonb_core.specs.declared.error.Error.TheVariants as error
use Rattle.example_config.specs.declared.config.Config.{Config}
use Rattle.example_config.specs.declared.config.Setting.{Setting}
use Rattle.example_config.specs.declared.config.Setting.TheVariants.{Host, Port, Workers, Verbose}
use Rattle.example_config.specs.declared.config.ConfigError.{ConfigError}
use Rattle.example_config.specs.declared.config.ConfigError.TheVariants as config_error

-- the key of a setting
abbrev pub key_of : Setting → List ℕ
key_of Host = codes "host"
key_of Port = codes "port"
key_of Workers = codes "workers"
key_of Verbose = codes "verbose"

-- the tree at the setting's key
abbrev pub setting_of : Setting → Members → Option Tree
setting_of setting ms = find_member (bytes_eq (key_of setting)) ms

-- the bytes of the text, `localhost` where there is none
abbrev pub IsHost : Option Tree → List ℕ → Type 0
IsHost None host = host ≡ codes "localhost"
IsHost (Some t) host = (mark : Mark) × (as_string t ≡ Some (mark, host))

-- the whole number below 2^16, 8080 where there is none
abbrev pub IsPort : Option Tree → ℕ → Type 0
IsPort None port = port ≡ 8080
IsPort (Some t) port = IsWholeNumber t (pos port) × (port < 2 ^ 16)

-- the whole number below 2^64, 4 where there is none
abbrev pub IsWorkers : Option Tree → ℕ → Type 0
IsWorkers None workers = workers ≡ 4
IsWorkers (Some t) workers = IsWholeNumber t (pos workers) × (workers < 2 ^ 64)

-- the truth value, false where there is none
abbrev pub IsVerbose : Option Tree → Bool → Type 0
IsVerbose None verbose = verbose ≡ false
IsVerbose (Some t) verbose = as_boolean t ≡ Some verbose

-- the settings of an object with these members
pub record IsConfig (ms : Members) (c : Config) : Type 0 where
  pub host : IsHost (setting_of Host ms) (string_bytes c.host)
  pub port : IsPort (setting_of Port ms) c.port
  pub workers : IsWorkers (setting_of Workers ms) c.workers
  pub verbose : IsVerbose (setting_of Verbose ms) c.verbose

-- the tree is an object, and these are its settings
abbrev pub IsConfigOf : Tree → Config → Type 0
IsConfigOf t c = (ms : Members) × (as_object t ≡ Some ms) × IsConfig ms c

-- what is at the setting's key, or nothing, gives no such setting
abbrev pub IsWrong : Setting → Option Tree → Type 0
IsWrong Host t = (host : List ℕ) → IsHost t host → ⊥
IsWrong Port t = (port : ℕ) → IsPort t port → ⊥
IsWrong Workers t = (workers : ℕ) → IsWorkers t workers → ⊥
IsWrong Verbose t = (verbose : Bool) → IsVerbose t verbose → ⊥

-- the index of the byte to show of an error
abbrev pub shown_index : List ℕ → Error → ℕ
shown_index text (error.Syntax code position) = fault_index text (code_of code) position
shown_index text other = 0

-- one of the members has this key, whose encoding ends at the index
abbrev pub HasKeyEnd : SourceMembers → List ℕ → ℕ → Type 0
HasKeyEnd no_source_members key index = ⊥
HasKeyEnd (more_source_members mark k s i ms) key index = ((k ≡ key) × (i ≡ index)) ⊎ HasKeyEnd ms key index

-- The text means an object with the setting's key, whose encoding ends at this line and column.
pub record EndsKey (text : List ℕ) (setting : Setting) (line column : ℕ) : Type 0 where
  pub members : SourceMembers
  pub located : IsLocated extended text (object_source members)
  pub index : ℕ
  pub ends : HasKeyEnd members (key_of setting) index
  pub line_there : line ≡ line_at text index
  pub column_there : column ≡ column_at text index

-- the members give settings
abbrev pub GiveSettings : Members → Type 0
GiveSettings ms = (host : List ℕ) × IsHost (setting_of Host ms) host × (port : ℕ) × IsPort (setting_of Port ms) port
    × (workers : ℕ) × IsWorkers (setting_of Workers ms) workers
    × (verbose : Bool) × IsVerbose (setting_of Verbose ms) verbose

-- The error names a setting of the members that is wrong, and where its key ends, or there is no memory for the host,
-- and none is wrong.
abbrev pub IsSettingError : List ℕ → List Written → ConfigError → Type 0
IsSettingError text members (config_error.Wrong setting line column) =
    IsWrong setting (setting_of setting (written_members members))
    × (index : ℕ) × HasKeyEnd (source_members_view members) (key_of setting) index
    × (line ≡ line_at text index) × (column ≡ column_at text index)
IsSettingError text members config_error.NoMemory = GiveSettings (written_members members)
IsSettingError text members other = ⊥

-- The text is no document, or one of no object, or a setting of its object is wrong, or none is and there is no memory
-- for the host.
abbrev pub IsConfigError : List ℕ → ConfigError → Type 0
IsConfigError text (config_error.NoDocument e line column) =
    (e ≢ error.OutOfMemory → IsNoDocument extended text) × (e ≡ error.OutOfMemory → MayAllocate text)
    × Fails e (document_of extended text)
    × (line ≡ line_at text (shown_index text e)) × (column ≡ column_at text (shown_index text e))
IsConfigError text config_error.NoObject = (t : Tree) × IsDocument extended text t × (as_object t ≡ None)
IsConfigError text (config_error.Wrong setting line column) =
    (t : Tree) × IsDocument extended text t × (ms : Members) × (as_object t ≡ Some ms)
    × IsWrong setting (setting_of setting ms) × EndsKey text setting line column
IsConfigError text config_error.NoMemory =
    (t : Tree) × IsDocument extended text t × (ms : Members) × (as_object t ≡ Some ms) × GiveSettings ms
