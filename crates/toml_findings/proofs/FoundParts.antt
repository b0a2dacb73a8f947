-- Parts of a text that were looked for: a line, and the front that is UTF-8.
use Rattle.std.proofs.Common.{◌≡◌, ℕ, List, ◌++◌, length, take, Option, Some, None, refl, sym, ◌∙◌, ap, option_map, unwrap_or}
use Rattle.std.proofs.lemmas.List.{take_at}
use Rattle.std.specs.Borrow.{Bor}

pub now_of_default : (o : Option (Bor (List ℕ))) (default : Bor (List ℕ))
    → (unwrap_or o default).now ≡ unwrap_or (option_map (λ x. x.now) o) default.now
now_of_default None default = refl
now_of_default (Some x) default = refl

-- a front of that length is what `take` gives
pub front_is_taken : (whole front rest : List ℕ) (n : ℕ) → whole ≡ front ++ rest → length front ≡ n
    → front ≡ take n whole
front_is_taken whole front rest n is long = sym (ap (λ z. take n z) is ∙ take_at front rest n long)
