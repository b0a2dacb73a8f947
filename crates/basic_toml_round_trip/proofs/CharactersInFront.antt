-- Characters in front of a text, each at offset 0. What a text means does not depend on offsets, so this is enough for a
-- layout. Where no offsets are, no string asks for a copy.
use Rattle.std.proofs.Common.{◌≡◌, ℕ, zero, suc, ◌+◌, ◌-◌, ◌==◌, Bool, true, false, cond, not, List, [], ◌∷◌, ◌++◌}
use Rattle.std.proofs.Common.{length, drop, take, refl, ap, ◌∙◌, arith}
use Rattle.std.specs.Prelude.{nat_lt}
use Rattle.std.specs.List.{list_all}
use Rattle.std.proofs.lemmas.Bool.{and_parts, and_from, or_from, le-ltb, not-true, cond-true, cond-false}
use Rattle.basic_toml_tokens.specs.Text.{Text, offset_in, run, after_run, is_blank, after_blanks}
use Rattle.basic_toml_tokens.specs.Strings.{after_feed}
use Rattle.basic_toml_grammar.specs.Copies.{up_to, width, any_shrinks, delimiter_of, needs_copy}
use Rattle.basic_toml_grammar.specs.Respelled.{characters}

abbrev pub onto : List ℕ → Text → Text
onto [] rest = rest
onto (c ∷ cs) rest = (0, c) ∷ onto cs rest

pub onto-append : (xs ys : List ℕ) (rest : Text) → onto (xs ++ ys) rest ≡ onto xs (onto ys rest)
onto-append [] ys rest = refl
onto-append (x ∷ xs) ys rest = ap (λ t. (0, x) ∷ t) (onto-append xs ys rest)

pub onto_three : (xs ys zs : List ℕ) (rest : Text) → onto ((xs ++ ys) ++ zs) rest ≡ onto xs (onto ys (onto zs rest))
onto_three xs ys zs rest = onto-append (xs ++ ys) zs rest ∙ onto-append xs ys (onto zs rest)

pub characters-onto : (cs : List ℕ) → characters (onto cs []) ≡ cs
characters-onto [] = refl
characters-onto (c ∷ cs) = ap (λ l. c ∷ l) (characters-onto cs)

-- no string of them asks for a copy
onto_length : (cs : List ℕ) (rest : Text) → length (onto cs rest) ≡ length cs + length rest
onto_length [] rest = omega arith
onto_length (c ∷ cs) rest = omega (arith, onto_length cs rest)

onto_first : (cs : List ℕ) (rest : Text) → up_to rest (onto cs rest) ≡ onto cs []
onto_first [] rest = let none : length rest - length rest ≡ 0 = omega arith in ap (λ (n : ℕ). take n rest) none
onto_first (c ∷ cs) rest =
    let more : length (onto (c ∷ cs) rest) - length rest ≡ suc (length (onto cs rest) - length rest) =
    omega (arith, onto_length cs rest) in
    ap (λ (n : ℕ). take n (onto (c ∷ cs) rest)) more ∙ ap (λ (t : Text). (0, c) ∷ t) (onto_first cs rest)

never_shrinks : (d : ℕ) (cs : List ℕ) → any_shrinks d (onto cs []) ≡ false
never_shrinks d [] = refl
never_shrinks d (c ∷ cs) =
    or_from (nat_lt (0 + width d c) (offset_in 0 (onto cs []))) (any_shrinks d (onto cs []))
    (ap (nat_lt (0 + width d c)) (first cs) ∙ le-ltb (0 + width d c) 0 (omega arith)) (never_shrinks d cs)
  where
    first : (cs : List ℕ) → offset_in 0 (onto cs []) ≡ 0
    first [] = refl
    first (c ∷ cs) = refl

onto_drop : (n : ℕ) (cs : List ℕ) → drop n (onto cs []) ≡ onto (drop n cs) []
onto_drop zero cs = refl
onto_drop (suc n) [] = refl
onto_drop (suc n) (c ∷ cs) = onto_drop n cs

onto_feed : (cs : List ℕ) → (ds : List ℕ) × (after_feed (onto cs []) ≡ onto ds [])
onto_feed [] = ([], refl)
onto_feed (c ∷ cs) = go (c == 10)
  where
    go : (b : Bool) → (ds : List ℕ) × (cond b (onto cs []) (onto (c ∷ cs) []) ≡ onto ds [])
    go true = (cs, refl)
    go false = (c ∷ cs, refl)

pub no_copy : (multiline : Bool) (cs : List ℕ) (rest : Text) → needs_copy multiline (up_to rest (onto cs rest)) ≡ false
no_copy multiline cs rest = ap (needs_copy multiline) (onto_first cs rest) ∙ go multiline
  where
    d : ℕ
    d = delimiter_of (onto cs [])

    go : (b : Bool) → needs_copy b (onto cs []) ≡ false
    go false = never_shrinks d cs
    go true =
        let (ds, e) = onto_feed (drop 3 cs) in
        ap (λ (t : Text). any_shrinks d (after_feed t)) (onto_drop 3 cs) ∙ ap (any_shrinks d) e ∙ never_shrinks d ds

-- characters that pass one test pass another
pub all_pass : (f g : ℕ → Bool) → ((c : ℕ) → f c ≡ true → g c ≡ true) → (cs : List ℕ) → list_all f cs ≡ true
    → list_all g cs ≡ true
all_pass f g each [] h = refl
all_pass f g each (c ∷ cs) h =
    let p : (f c ≡ true) × (list_all f cs ≡ true) = and_parts _ _ h in
    and_from _ _ (each c p.0) (all_pass f g each cs p.1)

-- the first character, if one stands there, does not pass
abbrev pub stops : (ℕ → Bool) → Text → Bool
stops f [] = true
stops f (x ∷ text) = not (f x.1)

run_stops : (f : ℕ → Bool) (rest : Text) → stops f rest ≡ true → run f rest ≡ []
run_stops f [] e = refl
run_stops f (x ∷ rest) e = cond-false (f x.1) (x.1 ∷ run f rest) [] (not-true (f x.1) e)

after_run_stops : (f : ℕ → Bool) (rest : Text) → stops f rest ≡ true → after_run f rest ≡ rest
after_run_stops f [] e = refl
after_run_stops f (x ∷ rest) e = cond-false (f x.1) (after_run f rest) (x ∷ rest) (not-true (f x.1) e)

pub no_blanks : (text : Text) → stops is_blank text ≡ true → after_blanks text ≡ text
no_blanks text e = after_run_stops is_blank text e

-- characters that pass, in front of a text whose first one does not
pub run_onto : (f : ℕ → Bool) (cs : List ℕ) (rest : Text) → list_all f cs ≡ true → stops f rest ≡ true
    → run f (onto cs rest) ≡ cs
run_onto f [] rest all e = run_stops f rest e
run_onto f (c ∷ cs) rest all e =
    let p : (f c ≡ true) × (list_all f cs ≡ true) = and_parts _ _ all in
    cond-true (f c) (c ∷ run f (onto cs rest)) [] p.0 ∙ ap (λ l. c ∷ l) (run_onto f cs rest p.1 e)

pub after_run_onto : (f : ℕ → Bool) (cs : List ℕ) (rest : Text) → list_all f cs ≡ true → stops f rest ≡ true
    → after_run f (onto cs rest) ≡ rest
after_run_onto f [] rest all e = after_run_stops f rest e
after_run_onto f (c ∷ cs) rest all e =
    let p : (f c ≡ true) × (list_all f cs ≡ true) = and_parts _ _ all in
    cond-true (f c) (after_run f (onto cs rest)) ((0, c) ∷ onto cs rest) p.0 ∙ after_run_onto f cs rest p.1 e
