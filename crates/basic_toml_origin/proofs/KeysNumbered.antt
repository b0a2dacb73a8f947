-- The number of a key by its offset: among the keys of the code, and where one more key stands behind others.
use Rattle.std.proofs.Common.{◌≡◌, ℕ, suc, ◌+◌, Bool, true, false, List, [], ◌∷◌, ◌++◌, Option, Some, None, refl, ap}
use Rattle.std.proofs.Common.{sym, ◌∙◌, add-one, arith, cond, length, map}
use Rattle.std.specs.Prelude.{◌==◌, option_map}
use Rattle.std.specs.Bool.{then_some}
use Rattle.std.specs.List.{position, position_from}
use Rattle.std.specs.Option.{option_or}
use Rattle.std.proofs.lemmas.Iterator.Adapters.{position_from-zero}
use Rattle.std.proofs.lemmas.List.{length-map}
use Rattle.basic_toml_grammar.specs.Sections.{Key}
use Rattle.basic_toml_places.specs.Places.{key_number}
use Rattle.basic_toml_read.specs.declared.section.Key as code
use Rattle.basic_toml_read.specs.declared.section.Row.{Row, out-Row}
use Rattle.basic_toml_read.specs.SectionView.{Lined, key_of, lined_of}
use Rattle.basic_toml_read.proofs.NextRow.{lined_is}

-- from the first that is so many keys on
numbered_from : (o i : ℕ) (keys : List code.Key)
    → option_map suc (position_from (λ (k : code.Key). o == k.offset) i keys)
    ≡ option_map (λ n. i + n) (key_number o (map key_of keys))
numbered_from o i [] = refl
numbered_from o i (k ∷ keys) = go (o == k.offset) (numbered_from o (i + 1) keys)
  where
    others : Option ℕ
    others = key_number o (map key_of keys)

    later : (n : Option ℕ) → option_map (λ n. i + 1 + n) n ≡ option_map (λ n. i + n) (option_map suc n)
    later None = refl
    later (Some n) = ap (λ n. Some n) (omega arith)

    go : (b : Bool) → option_map suc (position_from (λ (k : code.Key). o == k.offset) (i + 1) keys)
        ≡ option_map (λ n. i + 1 + n) others
        → option_map suc (cond b (Some i) (position_from (λ (k : code.Key). o == k.offset) (i + 1) keys))
        ≡ option_map (λ n. i + n) (cond b (Some 1) (option_map suc others))
    go true e = ap (λ n. Some n) (omega arith)
    go false e = e ∙ later others

pub numbered : (o : ℕ) (keys : List code.Key)
    → option_map suc (position (λ (k : code.Key). o == k.offset) keys) ≡ key_number o (map key_of keys)
numbered o keys =
    ap (option_map suc) (position_from-zero (λ (k : code.Key). o == k.offset) keys)
    ∙ numbered_from o 0 keys ∙ same (key_number o (map key_of keys))
  where
    same : (n : Option ℕ) → option_map (λ n. 0 + n) n ≡ n
    same None = refl
    same (Some n) = ap (λ n. Some n) (omega arith)

pub number_behind : (before : Option ℕ) → option_map (λ n. n + 1) before ≡ option_map suc before
number_behind None = refl
number_behind (Some n) = ap (λ n. Some n) (add-one n)

-- one more key
number_more : (o : ℕ) (keys : List Key) (k : Key)
    → option_or (key_number o keys) (then_some (o == k.offset) (suc (length keys))) ≡ key_number o (keys ++ k ∷ [])
number_more o [] k = alone (o == k.offset)
  where
    alone : (b : Bool) → then_some {T = ℕ} b 1 ≡ cond b (Some 1) None
    alone true = refl
    alone false = refl
number_more o (j ∷ keys) k = go (o == j.offset) (number_more o keys k)
  where
    later : (n : Option ℕ) (b : Bool)
        → option_or (option_map suc n) (then_some b (suc (suc (length keys))))
        ≡ option_map suc (option_or n (then_some b (suc (length keys))))
    later None true = refl
    later None false = refl
    later (Some n) b = refl

    go : (b : Bool)
        → option_or (key_number o keys) (then_some (o == k.offset) (suc (length keys))) ≡ key_number o (keys ++ k ∷ [])
        → option_or (cond b (Some 1) (option_map suc (key_number o keys)))
        (then_some (o == k.offset) (suc (suc (length keys))))
        ≡ cond b (Some 1) (option_map suc (key_number o (keys ++ k ∷ [])))
    go true e = refl
    go false e = later (key_number o keys) (o == k.offset) ∙ ap (option_map suc) e

-- the last key of a row, behind those before it
pub number_in_row : (o : ℕ) (parents : List code.Key) (r : Row)
    → option_or (key_number o (map key_of parents)) (then_some (o == (out-Row r).offset) (length parents + 1))
    ≡ key_number o (map key_of parents ++ (lined_of r).key ∷ [])
number_in_row o parents r =
    ap (λ n. option_or (key_number o (map key_of parents)) (then_some (o == (out-Row r).offset) n))
    (add-one (length parents) ∙ ap suc (sym (length-map parents key_of)))
    ∙ ap (λ (l : Lined). option_or (key_number o (map key_of parents))
    (then_some (o == l.key.offset) (suc (length (map key_of parents))))) (sym (lined_is r))
    ∙ number_more o (map key_of parents) (lined_of r).key
