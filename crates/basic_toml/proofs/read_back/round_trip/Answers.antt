use Rattle.std.proofs.Common.{subst}
use Rattle.basic_toml.specs.Reading.{ReadsText}
use Rattle.basic_toml_typed.specs.TypeFaults.{table_faults}
use Rattle.basic_toml_typed.specs.TypeReads.{table_reads, table_takes}
use Rattle.basic_toml.proofs.TextIsReadBack.{read_back}
use Rattle.basic_toml.proofs.MemoryIsGrown.{text_has_grown}
use Rattle.basic_toml.proofs.read_back.round_trip.Goals as goal

pub returns-clause-round_trips : goal.returns-clause-round_trips
returns-clause-round_trips g c =
    read_back _ _ c.in_ok-text.text c.from_str.result c.in_ok-text.ensures.written c.in_ok-text.ensures.means
    (subst (λ bytes. ReadsText table_takes table_reads table_faults bytes c.from_str.result) c.as_str.ensures.value c.from_str.ensures.read)

pub returns-clause-memory : goal.returns-clause-memory
returns-clause-memory g c =
    λ _. text_has_grown _ _ c.in_ok-text.text c.from_str.result c.in_ok-text.ensures.written
