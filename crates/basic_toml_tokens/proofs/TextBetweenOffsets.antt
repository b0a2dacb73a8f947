-- The bytes between two offsets.
use Rattle.std.proofs.Common.{◌≡◌, ℕ, ◌+◌, ◌-◌, ◌<◌, ◌≤◌, List, [], ◌∷◌, ◌++◌, length, drop, take, get_or, ap, sym}
use Rattle.std.proofs.Common.{◌∙◌, arith, length-drop, length-take}
use Rattle.std.proofs.lemmas.List.{drop-drop, drop_more, drop-take, get_or-take, get_or-drop}
use Rattle.std.proofs.Math.Seq.{take-add}
use Rattle.basic_toml_tokens.specs.Reading.{between}

pub between_self : (bytes : List ℕ) (i : ℕ) → between bytes i i ≡ []
between_self bytes i = let e : i - i ≡ 0 = omega arith in ap (λ (n : ℕ). take n (drop i bytes)) e

pub between_join : (bytes : List ℕ) (i j k : ℕ) → i ≤ j → j ≤ k → between bytes i j
    ++ between bytes j k ≡ between bytes i k
between_join bytes i j k h l =
    let whole : k - i ≡ (j - i) + (k - j) = omega arith in
    let there : i + (j - i) ≡ j = omega arith in
    sym (ap (λ (n : ℕ). take n (drop i bytes)) whole ∙ take-add (j - i) (k - j) (drop i bytes)
    ∙ ap (λ (t : List ℕ). take (j - i) (drop i bytes) ++ take (k - j) t) (drop-drop (j - i) i bytes ∙
    ap (λ (n : ℕ). drop n bytes) there))

pub between_one : (bytes : List ℕ) (i : ℕ) → i < length bytes → between bytes i (i + 1) ≡ get_or bytes i 0 ∷ []
between_one bytes i h =
    let one : i + 1 - i ≡ 1 = omega arith in
    ap (λ (n : ℕ). take n (drop i bytes)) one ∙ ap (take 1) (drop_more bytes i 0 h)

pub between_cons : (bytes : List ℕ) (i k : ℕ) → i < length bytes → i < k → between bytes i k ≡ get_or bytes i 0
    ∷ between bytes (i + 1) k
between_cons bytes i k h l = sym (between_join bytes i (i + 1) k (omega arith) (omega arith)) ∙
    ap (λ (t : List ℕ). t ++ between bytes (i + 1) k) (between_one bytes i h)

pub length-between : (bytes : List ℕ) (i k : ℕ) → i ≤ k → k ≤ length bytes → length (between bytes i k) ≡ k - i
length-between bytes i k h l = omega (arith, length-take (k - i) (drop i bytes), length-drop i bytes)

pub get_or-between : (bytes : List ℕ) (i k j : ℕ) → i + j < k → get_or (between bytes i k) j 0 ≡ get_or bytes (i + j) 0
get_or-between bytes i k j h = let l : j < k - i = omega arith in get_or-take (k - i) (drop i bytes) j 0 l ∙
    get_or-drop i bytes j 0

pub drop-between : (bytes : List ℕ) (i j k : ℕ) → i + j ≤ k → drop j (between bytes i k) ≡ between bytes (i + j) k
drop-between bytes i j k h =
    let whole : k - i ≡ j + (k - (i + j)) = omega arith in
    ap (λ (n : ℕ). drop j (take n (drop i bytes))) whole ∙ drop-take j (k - (i + j)) (drop i bytes) ∙
    ap (take (k - (i + j))) (drop-drop j i bytes)
