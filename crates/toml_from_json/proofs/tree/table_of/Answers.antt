use Rattle.std.proofs.Common.{◌≡◌, rules, sym, subst, IfErr}
use Rattle.json.specs.Json as json
use Rattle.json.specs.Json.{Json}
use Rattle.json.specs.Value.{value_view, members_view}
use Rattle.toml_from_json.specs.Meaning.{IsRefused, members_in}
use Rattle.toml_from_json.proofs.PartsInTurn.{object_seen}
use Rattle.toml_from_json.proofs.tree.table_of.Goals as goal

pub returns-in-Object-clause-err : goal.returns-in-Object-clause-err
returns-in-Object-clause-err c =
    let seen : value_view c.args.json.now ≡ json.object (members_view c.as_slice.result.now) =
    search (rules, object_seen)
    in
    subst (λ (x : Json). IfErr c.members_of.result (IsRefused (members_in c.args.form x))) (sym seen) c.members_of.ensures.err
