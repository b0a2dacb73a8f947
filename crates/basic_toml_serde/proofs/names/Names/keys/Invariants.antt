use Rattle.std.proofs.Common.{◌≡◌, take, map, string_bytes}
use Rattle.basic_toml_serde.proofs.names.Names.keys.Given as goal

-- the keys so far
abbrev pub invariant-loop-spelling : goal.invariant-loop-spelling
invariant-loop-spelling l =
    map (λ k. k.now) l.keys.items ≡ map (λ s. string_bytes s.key) (take l.spelling-index l.self.spellings.items)
