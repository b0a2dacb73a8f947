-- Sixteen bytes that are looked at together.
use Rattle.std.specs.Prelude.{◌≡◌, ℕ, ◌==◌, not, List, if◌then◌else◌, take, drop, map}
use Rattle.std.specs.Int.{w64, trailing_zeros}
use lib.Lanes.{mask_l}
use Rattle.basic_toml_tokens.specs.declared.class.Class.{Class}
use Rattle.basic_toml_tokens.specs.declared.class.Class.TheVariants.{Keylike, Comment, Literal, Basic}
use Rattle.basic_toml_tokens.specs.declared.lanes.Wide.{Wide}
use Rattle.basic_toml_tokens.specs.declared.lanes.Wide.TheVariants as wide
use Rattle.basic_toml_tokens.specs.Class.{passes}

-- the bytes from an offset on
abbrev pub block : List ℕ → ℕ → List ℕ
block bytes at = take 16 (drop at bytes)

-- the place of the lowest bit that is set, or 16
abbrev pub first_set : ℕ → ℕ
first_set mask = if mask == 0 then 16 else trailing_zeros w64 mask

-- the class of runs that are looked at in blocks
abbrev pub class_of : Wide → Class
class_of wide.Keylike = Keylike
class_of wide.Comment = Comment
class_of wide.Literal = Literal
class_of wide.Basic = Basic

-- bit k is set where lane k is not of the class
abbrev pub AreStops : Class → List ℕ → ℕ → Type 0
AreStops class lanes mask = mask ≡ mask_l (map (λ b. not (passes class b)) lanes)
