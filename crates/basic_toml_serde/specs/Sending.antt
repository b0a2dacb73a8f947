-- What a sender has sent. (own)
use Rattle.std.specs.Prelude.{List}
use Rattle.basic_toml_emit.specs.Items.{Item}
use Rattle.serde.specs.Event.{Event}
use Rattle.basic_toml_serde.specs.declared.sender.Sender.{Sender}
use Rattle.basic_toml_serde.specs.Recorded.{Records}
use Rattle.basic_toml_serde.specs.Sent.{Place, start, SendsAll}

abbrev pub place_of : {S : Type 0} → Sender S → Place
place_of sender = record { maps = sender.maps.items; next = sender.next }

module _ {S : Type 0} (has_recorded : S → List Item → Type 0) where
  -- items were sent that are these, and that lead from where the sender was to where it is
  pub record SendsBy (leads : Place → List Item → Place → Type 0) (old new : Sender S) : Type 0 where
    pub sent : List Item
    pub goes : leads (place_of old) sent (place_of new)
    pub recorded : Records has_recorded sent old.sink new.sink

  -- these events, from the first on, were sent as their items
  pub record HasSent (events : List Event) (sender : Sender S) : Type 0 where
    pub sent : List Item
    pub goes : SendsAll start events sent (place_of sender)
    pub recorded : has_recorded sender.sink sent
