-- What stops an item (own): an error of the emitter, which is met now, or the error that was met before.
use Rattle.std.specs.Prelude.{◌≡◌, Option, IsSome, None, Err, MatchOption}
use Rattle.basic_toml_emit.specs.Items.{Item}
use Rattle.basic_toml_emit.specs.Emitter.{Steps, MemoryHasCause}
use Rattle.basic_toml_emit.specs.declared.error.EmitError.{EmitError}
use Rattle.basic_toml_write.specs.Serializer.{error_of}
use Rattle.basic_toml_write.specs.declared.serializer.Serializer.{Serializer}

-- this error is met at the item
pub record IsMet (error : EmitError) (i : Item) (old new : Serializer) : Type 0 where
  pub none_before : error_of old ≡ None
  pub none_yet : error_of new ≡ None
  pub steps : Steps i old.emitter new.emitter (Err error)
  pub memory : MemoryHasCause {A = Unit {0}} i old.emitter (Err error)

-- nothing was done, since an error stands
pub record Stands (old new : Serializer) : Type 0 where
  pub unchanged : new ≡ old
  pub met_before : IsSome (error_of old)

abbrev pub Stops : Option EmitError → Item → Serializer → Serializer → Type 0
Stops stop i old new = MatchOption stop (Stands old new) (λ error. IsMet error i old new)
