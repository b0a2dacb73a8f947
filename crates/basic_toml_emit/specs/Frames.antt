-- What the stack of a serializer says is open.
use Rattle.std.specs.Prelude.{ℕ, Bool, false, cond, List, [], ◌∷◌, ◌++◌}
use Rattle.basic_toml_tokens.specs.Ascii as ascii
use Rattle.basic_toml_emit.specs.Open as o
use Rattle.basic_toml_emit.specs.Calls.{last_key}
use Rattle.basic_toml_layout.specs.Texts.{written_key}
use Rattle.basic_toml_open_keys.specs.OpenKeys.{keys_of, last_of, pending_of}
use Rattle.basic_toml_emit.specs.declared.frames.Header.{Header}
use Rattle.basic_toml_emit.specs.declared.frames.Header.TheVariants.{Settled, Due}
use Rattle.basic_toml_emit.specs.declared.frames.Stage.{Stage}
use Rattle.basic_toml_emit.specs.declared.frames.Stage.TheVariants.{NoKey, KeyPlace, KeySet}
use Rattle.basic_toml_emit.specs.declared.frames.ElementKind.{ElementKind}
use Rattle.basic_toml_emit.specs.declared.frames.ElementKind.TheVariants.{Unknown, Tables, Others}
use Rattle.basic_toml_emit.specs.declared.frames.TableFrame.{TableFrame}
use Rattle.basic_toml_emit.specs.declared.frames.Frame.{Frame}
use Rattle.basic_toml_emit.specs.declared.frames.Frame.TheVariants.{Table, Array}

abbrev pub header_of : Header → o.Header
header_of Settled = o.settled
header_of (Due later) = o.due later

-- with this key, where one is set
abbrev pub stage_of : Stage → List ℕ → o.Stage
stage_of NoKey k = o.no_key
stage_of KeyPlace k = o.key_place
stage_of KeySet k = o.key_set k

abbrev pub kind_of : ElementKind → o.ElementKind
kind_of Unknown = o.unknown
kind_of Tables = o.tables
kind_of Others = o.others

abbrev pub table_of : TableFrame → o.OpenTable
table_of f = record {
  header = header_of f.header;
  holds_section = f.holds_section;
  keys = keys_of f.keys.value;
  last = last_of f.keys.value;
}

abbrev pub frame_of : Frame → o.Frame
frame_of (Table f) = o.a_table (stage_of f.stage (pending_of f.keys.value)) (table_of f)
frame_of (Array kind later) = o.an_array (kind_of kind) later

abbrev pub frames_onto : List Frame → List o.Frame → List o.Frame
frames_onto [] below = below
frames_onto (f ∷ fs) below = frames_onto fs (frame_of f ∷ below)

-- the stack has the innermost frame last
abbrev pub frames_of : List Frame → List o.Frame
frames_of fs = frames_onto fs []

-- what a frame adds to the text of a path
abbrev pub path_part : Bool → o.Frame → List ℕ
path_part first (o.a_table _ t) = cond first [] (ascii.period ∷ []) ++ written_key (last_key t.last)
path_part first (o.an_array _ _) = []

abbrev pub first_after : Bool → o.Frame → Bool
first_after first (o.a_table _ _) = false
first_after first (o.an_array _ _) = first
