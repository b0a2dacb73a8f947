-- What an emitter is at, and what it does with one item.
use Rattle.std.specs.Prelude.{◌≡◌, Bool, true, false, ◌∷◌, ◌++◌, Result, Ok, Err, IfErr, MatchResult, String, length}
use Rattle.std.specs.Prelude.{nat_le, string_bytes}
use Rattle.std.specs.declared.alloc.Global.{Global}
use Rattle.basic_toml_emit.specs.Items.{Item}
use Rattle.basic_toml_value.specs.Nesting.{nesting_limit}
use Rattle.basic_toml_emit.specs.Open.{State, state, an_array, tables, others}
use Rattle.basic_toml_emit.specs.Rules.{call_order, holds_section, is_in_array, key_of, place_of, at_value}
use Rattle.basic_toml_emit.specs.Calls.{after, finished, path, array_start, array_end, with_row, with_sections}
use Rattle.basic_toml_emit.specs.Changes.{outer, with_entry, holds_key, has_entry, value_start}
use Rattle.basic_toml_emit.specs.Error.{Meets}
use Rattle.basic_toml_emit.specs.Growth.{grows}
use Rattle.basic_toml_emit.specs.Frames.{frames_of}
use Rattle.basic_toml_emit.specs.declared.error.EmitError.{EmitError}
use Rattle.basic_toml_emit.specs.declared.error.EmitError.TheVariants.{OutOfMemory}
use Rattle.basic_toml_emit.specs.declared.emitter.Emitter.{Emitter}

abbrev pub state_of : Emitter → State
state_of e = state (string_bytes e.text) (frames_of e.frames.items) e.is_done

-- An item is taken, or this is the error due.
abbrev pub Steps : Item → Emitter → Emitter → Result (Unit {0}) EmitError → Type 0
Steps i old new r = MatchResult r (λ _. after nesting_limit (state_of old) i ≡ Ok (state_of new))
    (λ e. Meets e (key_of (frames_of new.frames.items)) (after nesting_limit (state_of old) i))

-- want of memory comes only of an item that grows something where it stands
abbrev pub MemoryHasCause : {A : Type 0} → Item → Emitter → Result A EmitError → Type 0
MemoryHasCause i old r = IfErr r (λ e. e ≡ OutOfMemory → grows (frames_of old.frames.items) old.is_done i ≡ true)

-- the key that is set is counted among those of present entries
pub record Enters (old new : Emitter) : Type 0 where
  pub is_new : holds_key (frames_of old.frames.items) ≡ false
  pub text_is : string_bytes new.text ≡ string_bytes old.text
  pub frames_are : frames_of new.frames.items ≡ with_entry (frames_of old.frames.items)
  pub done_is : new.is_done ≡ old.is_done

-- the key of an array or a table is counted so, where there is room for one more, after another entry or as the first
pub record EntersPart (later : Bool) (old new : Emitter) : Type 0 where
  pub is_at_value : place_of (frames_of old.frames.items) old.is_done ≡ at_value
  pub later_is : later ≡ has_entry (frames_of old.frames.items)
  pub room : nat_le nesting_limit (length (frames_of old.frames.items)) ≡ false
  pub enters : Enters old new

-- what stands before the value of an entry is written
pub record StartsValue (old new : Emitter) : Type 0 where
  pub in_time : holds_section (frames_of old.frames.items) ≡ false
  pub text_is : string_bytes new.text ≡ string_bytes old.text ++ value_start (frames_of old.frames.items)
  pub frames_are : frames_of new.frames.items ≡ with_row (frames_of old.frames.items)
  pub done_is : new.is_done ≡ old.is_done

-- the text, where the items made a whole table; else this error
abbrev pub HandsOut : {E : Type 0} → E → Emitter → Result (String Global) E → Type 0
HandsOut error e r = MatchResult r (λ t. finished (state_of e) ≡ Ok (string_bytes t)) (λ x. (x ≡ error)
    × (finished (state_of e) ≡ Err call_order))

-- the frames below an array are made ready for its first element that is no table, or for its end
pub record StartsRow (old new : Emitter) : Type 0 where
  pub in_time : holds_section (frames_of old.frames.items) ≡ false
  pub text_is : string_bytes new.text ≡ string_bytes old.text ++ array_start (frames_of old.frames.items)
  pub frames_are : frames_of new.frames.items ≡ with_row (frames_of old.frames.items)
  pub done_is : new.is_done ≡ old.is_done

-- the innermost array is made ready for its first element that is no table, and for its first table
pub record StartsElements (later : Bool) (old new : Emitter) : Type 0 where
  pub in_time : holds_section (outer (frames_of old.frames.items)) ≡ false
  pub text_is : string_bytes new.text ≡ string_bytes old.text ++ array_start (outer (frames_of old.frames.items))
  pub frames_are : frames_of new.frames.items ≡ an_array others later ∷ with_row (outer (frames_of old.frames.items))
  pub done_is : new.is_done ≡ old.is_done

pub record StartsSections (later : Bool) (old new : Emitter) : Type 0 where
  pub in_table : is_in_array (outer (frames_of old.frames.items)) ≡ false
  pub text_is : string_bytes new.text ≡ string_bytes old.text
  pub frames_are : frames_of new.frames.items ≡ an_array tables later
      ∷ with_sections (outer (frames_of old.frames.items))
  pub path_is : path (frames_of new.frames.items) ≡ path (outer (frames_of old.frames.items))
  pub done_is : new.is_done ≡ old.is_done

-- an array that holds no table is closed
pub record EndsRow (old new : Emitter) : Type 0 where
  pub text_is : string_bytes new.text ≡ string_bytes old.text ++ array_end (frames_of old.frames.items)
  pub frames_are : frames_of new.frames.items ≡ frames_of old.frames.items
  pub done_is : new.is_done ≡ old.is_done
