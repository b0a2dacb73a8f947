-- How many steps are kept of a path: up to a key and the number behind it, or as far as so many keys.
use Rattle.std.proofs.Common.{◌≡◌, ℕ, zero, suc, ◌-◌, ◌≤◌, ◌==◌, ◌&&◌, Bool, true, false, List, [], ◌∷◌, drop}
use Rattle.std.proofs.Common.{length, take, refl, ap, sym, ◌∙◌, arith}
use Rattle.std.specs.Prelude.{if◌then◌else◌}
use Rattle.std.proofs.lemmas.List.{length-map, length-take-le, take_all, take_rest}
use Rattle.std.specs.List.{drop-map}
use Rattle.std.proofs.lemmas.Bool.{ne_eqb}
use Rattle.basic_toml_grammar.specs.Steps.{Step, key, number, Path, keys_of}
use Rattle.basic_toml_grammar.specs.Nodes.{is_number}
use Rattle.basic_toml_places.specs.Places.{as_far_as}
use Rattle.basic_toml_origin.specs.declared.step.Step as code
use Rattle.basic_toml_origin.specs.declared.step.Step.TheVariants.{Key, Element}
use Rattle.basic_toml_origin.specs.Anchor.{up_to_table}
use Rattle.basic_toml_origin.specs.KeyPath.{up_to_key}
use Rattle.basic_toml_origin.specs.Path.{path_of, step_of}

-- a step more before those that are taken
step_on : (s : Step) (p : Path) (b : Bool) (x y : ℕ)
    → take (if b then suc x else suc y) (s ∷ p) ≡ s ∷ take (if b then x else y) p
step_on s p true x y = refl
step_on s p false x y = refl

-- those up to the key, and one more where a number follows
table_length : (n : ℕ) (p : Path) → let len = length (up_to_key n p) in
    take (if is_number (drop len p) then suc len else len) p ≡ up_to_table n p
table_length zero [] = refl
table_length zero (key k ∷ p) = refl
table_length zero (number m ∷ p) = refl
table_length (suc n) [] = refl
table_length (suc n) (key k ∷ p) =
    let len : ℕ = length (up_to_key n p) in
    step_on (key k) p (is_number (drop len p)) (suc len) len ∙ ap (λ p. key k ∷ p) (table_length n p)
table_length (suc n) (number m ∷ p) =
    let len : ℕ = length (up_to_key (suc n) p) in
    step_on (number m) p (is_number (drop len p)) (suc len) len ∙ ap (λ p. number m ∷ p) (table_length (suc n) p)

-- all, where no key follows
far_length : (n : ℕ) (p : Path) → let len = length (up_to_key n p) in
    take (if length (keys_of (drop len p)) == 0 then length p else len) p ≡ as_far_as n p
far_length zero p = go (length (keys_of p) == 0)
  where
    go : (b : Bool) → take (if b then length p else 0) p ≡ (if b then p else [])
    go true = take_all (length p) p (omega arith)
    go false = refl
far_length (suc n) [] = refl
far_length (suc n) (key k ∷ p) =
    let len : ℕ = length (up_to_key n p) in
    step_on (key k) p (length (keys_of (drop len p)) == 0) (length p) len ∙ ap (λ p. key k ∷ p) (far_length n p)
far_length (suc n) (number m ∷ p) =
    let len : ℕ = length (up_to_key (suc n) p) in
    step_on (number m) p (length (keys_of (drop len p)) == 0) (length p) len
    ∙ ap (λ p. number m ∷ p) (far_length (suc n) p)

-- So of the code's steps. What follows so many of them is left of the path.
left_are : (steps : List code.Step) (len : ℕ)
    → path_of (take (length steps - len) (drop len steps)) ≡ drop len (path_of steps)
left_are steps len = ap (λ ss. path_of ss) (take_rest steps len) ∙ sym (drop-map step_of len steps)

length_is : (steps : List code.Step) (n len : ℕ) → take len (path_of steps) ≡ up_to_key n (path_of steps)
    → len ≤ length steps → len ≡ length (up_to_key n (path_of steps))
length_is steps n len e within =
    sym (length-take-le len (path_of steps) (omega (arith, within, length-map steps step_of))) ∙ ap length e

pub table_kept : (steps : List code.Step) (n len : ℕ) (b : Bool)
    → take len (path_of steps) ≡ up_to_key n (path_of steps) → len ≤ length steps
    → b ≡ is_number (path_of (take (length steps - len) (drop len steps)))
    → take (if b then suc len else len) (path_of steps) ≡ up_to_table n (path_of steps)
table_kept steps n len b e within test =
    ap (λ b. take (if b then suc len else len) p) (test ∙ ap is_number (left_are steps len))
    ∙ ap (λ len. take (if is_number (drop len p) then suc len else len) p) (length_is steps n len e within)
    ∙ table_length n p
  where
    p : Path
    p = path_of steps

pub far_kept : (steps : List code.Step) (n len : ℕ) (b : Bool)
    → take len (path_of steps) ≡ up_to_key n (path_of steps) → len ≤ length steps
    → b ≡ (length (keys_of (path_of (take (length steps - len) (drop len steps)))) == 0)
    → take (if b then length steps else len) (path_of steps) ≡ as_far_as n (path_of steps)
far_kept steps n len b e within test =
    ap (λ b. take (if b then length steps else len) p)
    (test ∙ ap (λ q. length (keys_of q) == 0) (left_are steps len))
    ∙ ap (λ whole. take (if length (keys_of (drop len p)) == 0 then whole else len) p) (sym (length-map steps step_of))
    ∙ ap (λ len. take (if length (keys_of (drop len p)) == 0 then length p else len) p)
    (length_is steps n len e within)
    ∙ far_length n p
  where
    p : Path
    p = path_of steps

-- a path without keys has numbers alone
abbrev pub is_element : code.Step → Bool
is_element (Key k) = false
is_element (Element n) = true

pub keyless_on : (s : code.Step) (steps : List code.Step)
    → (length (keys_of (path_of (s ∷ steps))) == 0) ≡ (is_element s && (length (keys_of (path_of steps)) == 0))
keyless_on (Key k) steps = ne_eqb (suc (length (keys_of (path_of steps)))) 0 (λ e. omega arith)
keyless_on (Element n) steps = refl
