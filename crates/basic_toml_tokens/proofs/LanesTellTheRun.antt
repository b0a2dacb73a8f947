-- From lanes that were computed from the bytes of a block to the mask of a class, and from it to the run in the block.
use Rattle.std.proofs.Common.{◌≡◌, ℕ, ◌+◌, ◌%◌, ◌^◌, ◌≤◌, Bool, true, false, not, List, [], ◌∷◌, map, length, get_or}
use Rattle.std.proofs.Common.{cond, Fits, w8, refl, ap, ◌∙◌, arith}
use Rattle.std.proofs.lemmas.Bool.{agree_below, agree_below_at}
use Rattle.std.proofs.lemmas.List.{length-map}
use Rattle.std.proofs.lemmas.Simd.{map-map, mask_l-mod, length-chunk, first_set_mask_l}
use Rattle.std.specs.List.{prefix_len}
use lib.Lanes.{chunk, mask_l, top, Each1}
use Rattle.basic_toml_tokens.specs.declared.class.Class.{Class}
use Rattle.basic_toml_tokens.specs.Class.{passes}
use Rattle.basic_toml_tokens.specs.Lanes.{block, first_set, AreStops}

-- two tests that agree at each byte
same_tests : (p q : ℕ → Bool) → agree_below p q 256 ≡ true → (v : List ℕ) → Each1 (Fits w8) v → map p v ≡ map q v
same_tests p q same [] fits = refl
same_tests p q same (x ∷ v) fits =
    let here : p x ≡ q x = agree_below_at p q 256 x same fits.0.fits in
    ap (λ b. b ∷ map p v) here ∙ ap (λ bs. q x ∷ bs) (same_tests p q same v fits.1)

-- two tests that agree at each byte, of which the second is turned round
same_runs : (p q : ℕ → Bool) → ((x : ℕ) → not (p x) ≡ q x) → (v : List ℕ)
    → prefix_len (λ x. not (p x)) v ≡ prefix_len q v
same_runs p q same [] = refl
same_runs p q same (x ∷ v) =
    ap (λ b. cond b (1 + prefix_len (λ y. not (p y)) v) 0) (same x) ∙
    ap (λ n. cond (q x) (1 + n) 0) (same_runs p q same v)

twice : (b : Bool) → not (not b) ≡ b
twice true = refl
twice false = refl

-- lanes that were computed one by one from those of v, whose highest bit is set where a byte is not of the class
pub stops_told : (class : Class) (v z : List ℕ) (mask : ℕ) → length v ≡ 16 → Each1 (Fits w8) v → (f : ℕ → ℕ)
    → z ≡ map f v → agree_below (λ x. top 7 (f x)) (λ x. not (passes class x)) 256 ≡ true
    → mask ≡ mask_l (map (top 7) z) % 2 ^ 64 → AreStops class v mask
stops_told class v z mask long fits f lanes same is =
    let stops : ℕ → Bool = λ x. not (passes class x) in
    is ∙ ap (λ l. mask_l (map (top 7) l) % 2 ^ 64) lanes ∙ ap (λ l. mask_l l % 2 ^ 64) (map-map (top 7) f v ∙
    same_tests (λ x. top 7 (f x)) stops same v fits)
    ∙ mask_l-mod (map stops v) 64 (omega (arith, length-map v stops, long))

-- the first stop in a block ends the run
pub run_told : (class : Class) (bytes : List ℕ) (at mask r : ℕ) → at + 16 ≤ length bytes
    → ((k : ℕ) → Fits w8 (get_or bytes k 0)) → AreStops class (chunk at 16 bytes) mask → r ≡ first_set mask
    → r ≡ prefix_len (passes class) (block bytes at)
run_told class bytes at mask r room fits stops found =
    let v = chunk at 16 bytes in
    found ∙ ap first_set stops ∙ first_set_mask_l (λ x. not (passes class x)) v 16 (length-chunk at 16 bytes room) (omega arith)
    ∙ same_runs (λ x. not (passes class x)) (passes class) (λ x. twice (passes class x)) v
