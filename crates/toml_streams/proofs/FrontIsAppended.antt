-- A text that is written piece by piece.
use Rattle.std.proofs.Common.{◌≡◌, ℕ, ◌+◌, ◌-◌, List, Option, length, take, drop, subst, sym, arith}
use Rattle.std.proofs.lemmas.Grind.{common_steps}
use Rattle.std.proofs.Math.Seq.{take-add}
use Rattle.std.specs.Io.KnownBytes.{Appends}
use Rattle.std.proofs.KnownBytes.{Appends-trans}

pub front_more : (old mid new : Option (List ℕ)) (text rest : List ℕ) (i k : ℕ) → rest ≡ drop i text
    → Appends old mid (take i text) → Appends mid new (take k rest)
    → Appends old new (take (i + k) text)
front_more old mid new text rest i k is front piece =
    subst (λ (t : List ℕ). Appends old new t) (sym (take-add i k text))
    (Appends-trans old mid new (take i text) (take k (drop i text)) front
    (subst (λ (t : List ℕ). Appends mid new (take k t)) is piece))

pub rest_whole : (i : ℕ) (text : List ℕ) → take (length text - i) (drop i text) ≡ drop i text
rest_whole i text = grind (arith, common_steps)
