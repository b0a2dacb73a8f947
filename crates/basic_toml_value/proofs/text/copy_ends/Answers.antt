use Rattle.std.proofs.Common.{◌≡◌, ◌≤◌, ◌-◌, ℕ, List, ◌++◌, length, take, drop, refl, sym, ap, ◌∙◌, arith}
use Rattle.std.proofs.Common.{append_assoc, take-append-drop}
use Rattle.std.proofs.lemmas.Grind.{common_steps}
use Rattle.std.proofs.lemmas.List.{take_at}
use Rattle.basic_toml_value.proofs.text.copy_ends.Goals as goal

-- The first bytes and then the last ones, where none is left between them, are all.
ends_are_all : (from others more : List ℕ) (n last : ℕ) → last ≤ n → n ≤ length from
    → take (length from) (take last (take n from ++ others) ++ (drop last from ++ more)) ≡ from
ends_are_all from others more n last low fits =
    let first : take last (take n from ++ others) ≡ take last from = grind (arith, common_steps, low, fits) in
    let all : take last (take n from ++ others) ++ (drop last from ++ more) ≡ from ++ more =
    ap (λ xs. xs ++ (drop last from ++ more)) first
    ∙ sym (append_assoc (take last from) (drop last from) more)
    ∙ ap (λ xs. xs ++ more) (take-append-drop last from) in
    ap (take (length from)) all ∙ take_at from more (length from) refl

pub returns : goal.returns
returns g c =
    let from = c.args.from.now in
    let last = length from - g.row.N in
    let front : c.copy_from_slice.new.self ≡ take g.row.N from = c.copy_from_slice.ensures.after in
    let rest : take (length from - last) (drop last from) ≡ drop last from = grind (arith, common_steps) in
    let back : c.copy_from_slice-2.new.self ≡ drop last from = c.copy_from_slice-2.ensures.after ∙ rest in
    rw (front, back)
    (ends_are_all from (drop g.row.N c.args.to.now) _ g.row.N last (omega (arith, c.requires.all)) c.requires.enough)
