-- What stands at a step, and a change there: at the latest number of an array of tables, and at the next one.
use Rattle.std.proofs.Common.{◌≡◌, ℕ, suc, ◌+◌, List, [], ◌∷◌, ◌++◌, length, Option, Some, None, true, false, refl}
use Rattle.std.proofs.Common.{arith, nat_eq, option_map}
use Rattle.basic_toml_grammar.specs.Steps.{Step, number, step_eq}
use Rattle.basic_toml_grammar.specs.Trie.{Trie, Tries, by, nothing, among, find}
use Rattle.basic_toml_grow.specs.Item.{by_numbers}

pub mapped_twice : {A B C : Type 0} (f : B → C) (h : A → B) (x : Option A)
    → option_map f (option_map h x) ≡ option_map (λ a. f (h a)) x
mapped_twice f h None = refl
mapped_twice f h (Some a) = refl

-- at a step this trie stands, and this is what a change there makes of all
abbrev pub StandsAt : Step → Tries → Trie → (Trie → Tries) → Type 0
StandsAt s ts t changed =
    (find s ts ≡ t) × ((g : Trie → Option Trie) → among s g ts ≡ option_map changed (g t))

-- also behind another step
pub behind : (r s : Step) (u : Trie) (ts : Tries) (t : Trie) (changed : Trie → Tries) → step_eq r s ≡ false
    → StandsAt s ts t changed → StandsAt s (by r u ts) t (λ v. by r u (changed v))
behind r s u ts t changed other at = rw other (at.0, λ g. rw (at.1 g, mapped_twice) refl)

-- on into the latest of some tables
pub at_latest : (k n : ℕ) (before : List Trie) (t : Trie) → n ≡ k + length before
    → StandsAt (number n) (by_numbers k (before ++ t ∷ [])) t (λ u. by_numbers k (before ++ u ∷ []))
at_latest k n [] t e = let same : nat_eq k n ≡ true = grind arith in rw same (refl, λ g. refl)
at_latest k n (b ∷ before) t e =
    behind (number k) (number n) b _ t _ (grind arith) (at_latest (suc k) n before t (omega arith))

-- one more after some tables
pub at_next : (k n : ℕ) (before : List Trie) → n ≡ k + length before
    → StandsAt (number n) (by_numbers k before) nothing (λ u. by_numbers k (before ++ u ∷ []))
at_next k n [] e = let same : n ≡ k = omega arith in rw same (refl, λ g. refl)
at_next k n (b ∷ before) e =
    behind (number k) (number n) b _ nothing _ (grind arith) (at_next (suc k) n before (omega arith))
