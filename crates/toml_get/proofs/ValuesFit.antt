-- What stands at the end of a path is no deeper than what it stands in.
use Rattle.std.proofs.Common.{◌≡◌, ℕ, zero, suc, ◌≤◌, Bool, true, false, List, [], ◌∷◌, Option, Some, None, refl}
use Rattle.std.proofs.Common.{arith, subst, cond, max}
use Rattle.std.specs.Option.{option_and_then}
use Rattle.std.specs.Str.{bytes_eq}
use Rattle.basic_toml_value.specs.Data.{Data, integer, float, boolean, string, array, table, Items, no_items, item}
use Rattle.basic_toml_value.specs.Data.{Members, no_members, member}
use Rattle.basic_toml_grammar.specs.Depth.{depth, depth_of_items, depth_of_members}
use Rattle.toml_path.specs.Find.{at_key, at_number, after, data_at}
use Rattle.toml_path.specs.Path.{Step, key, element}

key_below : (name : List ℕ) (ms : Members) (x : Data) → at_key name ms ≡ Some x → depth x ≤ depth_of_members ms
key_below name no_members x e = cc
key_below name (member other d ms) x e = go (bytes_eq name other) e (key_below name ms x)
  where
    go : (b : Bool) → cond b (Some d) (at_key name ms) ≡ Some x
        → (at_key name ms ≡ Some x → depth x ≤ depth_of_members ms)
        → depth x ≤ max (depth d) (depth_of_members ms)
    go true e others =
        let same : d ≡ x = cc in
        subst (λ (y : Data). depth y ≤ max (depth d) (depth_of_members ms)) same (omega arith)
    go false e others = let below : depth x ≤ depth_of_members ms = others e in omega arith

number_below : (n : ℕ) (items : Items) (x : Data) → at_number n items ≡ Some x → depth x ≤ depth_of_items items
number_below n no_items x e = cc
number_below zero (item d items) x e =
    let same : d ≡ x = cc in
    subst (λ (y : Data). depth y ≤ max (depth d) (depth_of_items items)) same (omega arith)
number_below (suc n) (item d items) x e =
    let below : depth x ≤ depth_of_items items = number_below n items x e in omega arith

ahead_below : (d : Data) (step : Step) (x : Data) → after d step ≡ Some x → depth x ≤ depth d
ahead_below (table ms) (key name) x e = let below = key_below name ms x e in omega arith
ahead_below (table ms) (element n) x e = cc
ahead_below (array items) (key name) x e = cc
ahead_below (array items) (element n) x e = let below = number_below n items x e in omega arith
ahead_below (integer z) (key name) x e = cc
ahead_below (integer z) (element n) x e = cc
ahead_below (float text) (key name) x e = cc
ahead_below (float text) (element n) x e = cc
ahead_below (boolean b) (key name) x e = cc
ahead_below (boolean b) (element n) x e = cc
ahead_below (string text) (key name) x e = cc
ahead_below (string text) (element n) x e = cc

pub along_below : (d : Data) (steps : List Step) (x : Data) → data_at d steps ≡ Some x → depth x ≤ depth d
along_below d [] x e = let same : d ≡ x = cc in subst (λ (y : Data). depth y ≤ depth d) same (omega arith)
along_below d (step ∷ steps) x e = go (after d step) refl e (λ next. along_below next steps x)
  where
    go : (o : Option Data) → after d step ≡ o → option_and_then (λ next. data_at next steps) o ≡ Some x
        → ((next : Data) → data_at next steps ≡ Some x → depth x ≤ depth next) → depth x ≤ depth d
    go None is e others = cc
    go (Some next) is e others =
        let first : depth next ≤ depth d = ahead_below d step next is in
        let below : depth x ≤ depth next = others next e in
        omega arith
