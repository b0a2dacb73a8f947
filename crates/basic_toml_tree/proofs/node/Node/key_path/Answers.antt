use Rattle.std.proofs.Common.{arith, ◌≡◌, refl, map, string_bytes, ◌∷◌, []}
use Rattle.std.proofs.lemmas.Grind.{common_steps}
use Rattle.std.proofs.lemmas.List.{take-map, map-append}
use Rattle.basic_toml_tree.specs.Origin.{keys_of}
use Rattle.basic_toml_tree.proofs.Foretold.NodesForetold.{keys_foretold}
use Rattle.basic_toml_tree.proofs.node.Node.key_path.Goals as goal

pub returns-in_ok-path-in-Header : goal.returns-in_ok-path-in-Header
unfolding keys_of
returns-in_ok-path-in-Header c =
    let path = c.in_ok-path-in-Header.path.items in
    let taken = take-map string_bytes c.args.self.count path in
    let same : map string_bytes c.truncate.new.self.items ≡ keys_of c.args.self =
    rw (c.truncate.ensures.items, c.in-Header.is, ← taken, c.in_ok-path-in-Header.ensures, c.keys.ensures) refl in
    record { is = same; foretold = keys_foretold _ c.args.self same }

pub returns-in_ok-push-in-Row-clause-foretold : goal.returns-in_ok-push-in-Row-clause-foretold
unfolding keys_of
returns-in_ok-push-in-Row-clause-foretold c =
    let more = map-append string_bytes c.in_ok-path-in-Row.path.items (c.in_ok-from_str-in-Row.field-0 ∷ []) in
    let same : map string_bytes c.push.new.self.items ≡ keys_of c.args.self = grind (arith, common_steps, more) in
    keys_foretold _ c.args.self same
