-- The stages of a trail, as it goes on.
use Rattle.std.proofs.Common.{◌≡◌, ℕ, List, [], ◌∷◌, ◌++◌, ap, sym, ◌∙◌, map, reverse, length, append_assoc}
use Rattle.std.proofs.Common.{String, Global, string_bytes}
use Rattle.std.specs.List.{flat_map}
use Rattle.std.proofs.lemmas.List.{map-append, reverse-append, reverse-reverse, append-nil}
use Rattle.std.proofs.lemmas.List.Folds.{flat_map-map}
use Rattle.basic_toml_serde.specs.KeysTo.{key_of, set_keys}
use Rattle.basic_toml_serde.specs.Stages.{stage_of, stages_of}
use Rattle.basic_toml_serde.specs.declared.trail.Stage.{Stage}

-- one more, the innermost
pub one_opened : (stage : Stage) (old new : List Stage) → new ≡ old ++ stage ∷ []
    → stages_of new ≡ stage_of stage ∷ stages_of old
one_opened stage old new pushed =
    ap stages_of pushed
    ∙ ap reverse (map-append stage_of old (stage ∷ []))
    ∙ reverse-append (map stage_of old) (stage_of stage ∷ [])

-- ---- the keys that are set

abbrev pub set_key_of : Stage → List (List ℕ)
set_key_of stage = key_of (stage_of stage)

pub one_taken : (keys more all : List (List ℕ)) (left rest : List Stage) (stage : Stage) → left ≡ stage ∷ rest
    → more ≡ keys ++ set_key_of stage → keys ++ flat_map set_key_of left ≡ all
    → more ++ flat_map set_key_of rest ≡ all
one_taken keys more all left rest stage next added so_far =
    ap (λ ks. ks ++ flat_map set_key_of rest) added
    ∙ append_assoc keys (set_key_of stage) (flat_map set_key_of rest)
    ∙ ap (λ ss. keys ++ flat_map set_key_of ss) (sym next)
    ∙ so_far

none_left : (keys : List (List ℕ)) (left : List Stage) → length left ≡ 0 → keys ≡ keys ++ flat_map set_key_of left
none_left keys [] none = sym (append-nil keys)
none_left keys (stage ∷ left) none = absurd (cc)

pub all_taken : (keys : List (List ℕ)) (left all : List Stage) → length left ≡ 0
    → keys ++ flat_map set_key_of left ≡ flat_map set_key_of all → keys ≡ set_keys (stages_of all)
all_taken keys left all none so_far =
    none_left keys left none
    ∙ so_far
    ∙ sym (flat_map-map key_of stage_of all)
    ∙ ap (flat_map key_of) (sym (reverse-reverse (map stage_of all)))

pub no_key_added : (keys : List (List ℕ)) → keys ≡ keys ++ []
no_key_added keys = sym (append-nil keys)

pub key_added : (key : String Global) (old new : List (String Global)) → new ≡ old ++ key ∷ []
    → map string_bytes new ≡ map string_bytes old ++ string_bytes key ∷ []
key_added key old new pushed = ap (map string_bytes) pushed ∙ map-append string_bytes old (key ∷ [])

pub ruleset keys_taken = (no_key_added, key_added)

pub ruleset stages_follow = (one_opened)
