-- A clash that names what is met first at a step names what the whole meets first; and which levels are obstacles.
use Rattle.std.proofs.Common.{◌≡◌, ℕ, ◌<◌, ◌≤◌, Option, Some, None, ap, arith}
use Rattle.std.specs.Option.{option_or}
use Rattle.std.proofs.lemmas.Bool.Decides.{nat_tests}
use Rattle.basic_toml_value.specs.Nesting.{nesting_limit}
use Rattle.basic_toml_grow.specs.declared.clash.Clash.{Clash}
use Rattle.basic_toml_grow.specs.declared.clash.Clash.TheVariants.{Memory, Deep}
use Rattle.basic_toml_grow.specs.Clash.{Obstacle, too_deep, in_the_way, NamesObstacle}
use Rattle.basic_toml_grow.specs.Obstacles.{above}

pub low : (l : ℕ) → l ≤ nesting_limit → above l ≡ None
low l within = grind (arith, nat_tests)

pub high : (l : ℕ) → nesting_limit < l → above l ≡ Some too_deep
high l over = grind (arith, nat_tests)

-- what is behind a level
pub behind_low : (l : ℕ) (o : Option Obstacle) → l ≤ nesting_limit → option_or (above l) o ≡ o
behind_low l o within = ap (λ (a : Option Obstacle). option_or a o) (low l within)

pub behind_high : (l : ℕ) (o : Option Obstacle) → nesting_limit < l → option_or (above l) o ≡ Some too_deep
behind_high l o over = ap (λ (a : Option Obstacle). option_or a o) (high l over)

pub passed_on : (clash : Clash) (o p : Option Obstacle) → ((x : Obstacle) → o ≡ Some x → p ≡ Some x)
    → NamesObstacle o clash → NamesObstacle p clash
passed_on Memory o p on is = tt
passed_on Deep o p on is = on too_deep is
passed_on _ o p on is = (is.0, (is.1.0, on (in_the_way is.0) is.1.1))
