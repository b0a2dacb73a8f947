use Rattle.std.proofs.Common.{◌≡◌, ◌+◌, suc, ap, ◌∙◌, rules, tests}
use Rattle.std.specs.Prelude.{◌==◌, option_map}
use Rattle.std.specs.List.{position}
use Rattle.std.proofs.lemmas.Iterator.{YieldsList-from_slice}
use Rattle.std.proofs.lemmas.Iterator.Search.{position_from_yields_List}
use Rattle.basic_toml_origin.proofs.KeysNumbered.{number_behind, numbered}
use Rattle.basic_toml_origin.proofs.query.key_number.Goals as goal

pub returns : goal.returns
returns c =
    let keys = c.args.keys.now in
    let before : c.position.result ≡ position (λ k. c.args.offset == k.offset) keys =
    position_from_yields_List (λ k. c.args.offset == k.offset) _ _ c.position.result c.position.ensures.ran
    (YieldsList-from_slice keys cc) (λ x b q k. search (rules, tests)) in
    let next : c.map.result ≡ option_map (λ n. n + 1) c.position.result = search rules in
    next ∙ number_behind c.position.result ∙ ap (option_map suc) before ∙ numbered c.args.offset keys
