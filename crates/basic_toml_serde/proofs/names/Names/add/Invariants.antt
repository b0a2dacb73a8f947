use Rattle.std.proofs.Common.{◌≡◌, [], ◌∷◌, ◌++◌, take, map}
use Rattle.serde.specs.Spelling.{spelled}
use Rattle.basic_toml_serde.specs.Spellings.{kept_in}
use Rattle.basic_toml_serde.proofs.names.Names.add.Given as goal

-- the name and the aliases so far are kept behind those before
abbrev pub invariant-loop-alias : goal.invariant-loop-alias
invariant-loop-alias l =
    kept_in l.self ≡ (kept_in l.fn.self ++ (l.name.name.now, spelled l.name.case l.name.kind l.name.name.now) ∷ [])
    ++ map (λ a. ([], a.now)) (take l.alias-index l.name.aliases.now)
