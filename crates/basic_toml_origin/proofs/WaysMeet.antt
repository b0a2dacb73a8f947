-- How far the way of a section and a path go together tells what the definitions ask of the two.
use Rattle.std.proofs.Common.{◌≡◌, ℕ, zero, suc, ◌-◌, ◌≤◌, ◌<◌, Bool, true, false, List, [], ◌∷◌, ◌++◌, Option, Some, None, refl}
use Rattle.std.proofs.Common.{ap, sym, ◌∙◌, append_assoc, arith, length, drop, get_or}
use Rattle.std.specs.Prelude.{◌&&◌, if◌then◌else◌}
use Rattle.basic_toml_grammar.specs.Sections.{KeyTexts}
use Rattle.basic_toml_grammar.specs.Steps.{Step, key, number, Path, step_eq, begins, path_eq}
use Rattle.basic_toml_grammar.specs.IndexedPath.{latest}
use Rattle.basic_toml_grammar.specs.Placed.{step_into, target_from, element_from}
use Rattle.basic_toml_grammar.proofs.Clash.StepTestsDecide.{step_is}
use Rattle.basic_toml_origin.specs.declared.ways.Meeting.{Meeting}
use Rattle.basic_toml_origin.specs.declared.ways.Meeting.TheVariants.{Apart, Passes, Reaches}
use Rattle.basic_toml_origin.specs.Origin.{behind}
use Rattle.basic_toml_origin.specs.Ways.{compared, ends_array, entered, further, into, is_on_way, is_whole, left_in, meets}

-- the same test, the other way round
turned : (s t : Step) → step_eq s t ≡ step_eq t s
turned s t = go (step_eq s t) refl (step_eq t s) refl
  where
    go : (b : Bool) → step_eq s t ≡ b → (c : Bool) → step_eq t s ≡ c → step_eq s t ≡ step_eq t s
    go true e c f = let same : s ≡ t = step_is s t e in rw same refl
    go false e false f = e ∙ sym f
    go false e true f = let same : t ≡ s = step_is t s f in rw same refl

-- a way that ends there has so many steps left, and what it goes on by is compared with them
pub left_within : (q p : Path) (n : ℕ) → compared q p ≡ Reaches n → n ≤ length p
left_within [] p n e = let same : length p ≡ n = cc in omega (arith, same)
left_within (t ∷ q) [] n e = cc
left_within (t ∷ q) (s ∷ p) n e = go (left_within q p n) (step_eq t s) e
  where
    go : (compared q p ≡ Reaches n → n ≤ length p) → (b : Bool) → (if b then compared q p else Apart) ≡ Reaches n
        → n ≤ length (s ∷ p)
    go within true e = omega (arith, within e)
    go within false e = cc

-- a way of some steps leaves fewer
pub left_behind : (t : Step) (q p : Path) (n : ℕ) → compared (t ∷ q) p ≡ Reaches n → n < length p
left_behind t q [] n e = cc
left_behind t q (s ∷ p) n e = go (step_eq t s) e
  where
    go : (b : Bool) → (if b then compared q p else Apart) ≡ Reaches n → n < length (s ∷ p)
    go true e = omega (arith, left_within q p n e)
    go false e = cc

none_passed : (p : Path) → drop (length p - length p) p ≡ p
none_passed p = let none : length p - length p ≡ 0 = omega arith in rw none refl

one_passed : (s : Step) (p : Path) (n : ℕ) → n ≤ length p → drop (length (s ∷ p) - n) (s ∷ p) ≡ drop (length p - n) p
one_passed s p n within = let one : length (s ∷ p) - n ≡ suc (length p - n) = omega (arith, within) in rw one refl

pub goes_further : (q way p : Path) → compared (q ++ way) p ≡ further (compared q p) way p
goes_further [] way p = ap (compared way) (sym (none_passed p))
goes_further (t ∷ q) way [] = refl
goes_further (t ∷ q) way (s ∷ p) = go (goes_further q way p) (step_eq t s)
  where
    on : (m : Meeting) → compared q p ≡ m → further m way p ≡ further m way (s ∷ p)
    on Apart e = refl
    on Passes e = refl
    on (Reaches n) e = ap (compared way) (sym (one_passed s p n (left_within q p n e)))

    go : compared (q ++ way) p ≡ further (compared q p) way p → (b : Bool)
        → (if b then compared (q ++ way) p else Apart) ≡ further (if b then compared q p else Apart) way (s ∷ p)
    go same true = same ∙ on (compared q p) refl
    go same false = refl

pub behind_is : (q p : Path) → behind q p ≡ left_in p (compared q p)
behind_is [] p = ap (λ r. Some r) (sym (none_passed p))
behind_is (t ∷ q) [] = refl
behind_is (t ∷ q) (s ∷ p) = go (behind_is q p) (step_eq t s)
  where
    on : (m : Meeting) → compared q p ≡ m → left_in p m ≡ left_in (s ∷ p) m
    on Apart e = refl
    on Passes e = refl
    on (Reaches n) e = ap (λ r. Some r) (sym (one_passed s p n (left_within q p n e)))

    go : behind q p ≡ left_in p (compared q p) → (b : Bool)
        → (if b then behind q p else None) ≡ left_in (s ∷ p) (if b then compared q p else Apart)
    go same true = same ∙ on (compared q p) refl
    go same false = refl

pub begins_is : (q p : Path) → begins p q ≡ is_on_way (compared q p)
begins_is [] [] = refl
begins_is [] (s ∷ p) = refl
begins_is (t ∷ q) [] = refl
begins_is (t ∷ q) (s ∷ p) = ap (λ b. b && begins p q) (turned s t) ∙ go (begins_is q p) (step_eq t s)
  where
    go : begins p q ≡ is_on_way (compared q p) → (b : Bool)
        → (b && begins p q) ≡ is_on_way (if b then compared q p else Apart)
    go same true = same
    go same false = refl

pub same_is : (q p : Path) → path_eq q p ≡ is_whole (compared q p)
same_is [] [] = refl
same_is [] (s ∷ p) = refl
same_is (t ∷ q) [] = refl
same_is (t ∷ q) (s ∷ p) =
    ap (λ b. (step_eq t s && begins q p) && (b && begins p q)) (turned s t) ∙ go (same_is q p) (step_eq t s)
  where
    go : path_eq q p ≡ is_whole (compared q p) → (b : Bool)
        → ((b && begins q p) && (b && begins p q)) ≡ is_whole (if b then compared q p else Apart)
    go same true = same
    go same false = refl

-- The counts are those of a rule, behind what leads to this path.
abbrev pub Counted : (Path → ℕ) → List ℕ → Path → Path → Type 0
Counted count counts cut p = (s : Step) (q r : Path) → p ≡ s ∷ q ++ r → get_or counts (length r) 0 ≡ count (cut ++ s ∷ q)

latest_is : (c : ℕ) → latest c ≡ step_into (entered false c)
latest_is zero = refl
latest_is (suc c) = refl

goes_into : (o : Option ℕ) (on : Path → Meeting) (way p : Path)
    → ((q : Path) → p ≡ step_into o ++ q → on q ≡ compared way q) → into o on p ≡ compared (step_into o ++ way) p
goes_into None on way p same = same p refl
goes_into (Some n) on way [] same = refl
goes_into (Some n) on way (s ∷ p) same = go (step_eq (number n) s) refl
  where
    go : (b : Bool) → step_eq (number n) s ≡ b → (if b then on p else Apart) ≡ (if b then compared way p else Apart)
    go true e = same p (ap (λ t. t ∷ p) (sym (step_is (number n) s e)))
    go false e = refl

-- the code goes the way of the target
pub meets_target : (count : Path → ℕ) (counts : List ℕ) (a : Bool) (keys : KeyTexts) (cut p : Path)
    → Counted count counts cut p → meets counts a keys p ≡ compared (target_from count a cut keys) p
meets_target count counts a [] cut p counted = refl
meets_target count counts a (k ∷ []) cut [] counted = refl
meets_target count counts a (k ∷ l ∷ keys) cut [] counted = refl
meets_target count counts a (k ∷ []) cut (s ∷ p) counted = go (step_eq (key k) s) refl
  where
    here : s ≡ key k → get_or counts (length p) 0 ≡ count (cut ++ key k ∷ [])
    here e = counted s [] p refl ∙ ap (λ (t : Step). count (cut ++ t ∷ [])) e

    last : (a : Bool) (c : ℕ) → into (entered (ends_array a []) c) (λ q. Reaches (length q)) p
        ≡ compared (if a then [] else latest c) p
    last true c = refl
    last false zero = refl
    last false (suc c) = goes_into (Some c) (λ q. Reaches (length q)) [] p (λ q e. refl)

    go : (b : Bool) → step_eq (key k) s ≡ b
        → (if b then into (entered (ends_array a []) (get_or counts (length p) 0)) (λ q. Reaches (length q)) p else Apart)
        ≡ (if b then compared (if a then [] else latest (count (cut ++ key k ∷ []))) p else Apart)
    go true e = last a (get_or counts (length p) 0)
        ∙ ap (λ c. compared (if a then [] else latest c) p) (here (sym (step_is (key k) s e)))
    go false e = refl
meets_target count counts a (k ∷ l ∷ keys) cut (s ∷ p) counted =
    go (λ cut q c. meets_target count counts a (l ∷ keys) cut q c) (step_eq (key k) s) refl
  where
    c : ℕ
    c = get_or counts (length p) 0

    ends : (a : Bool) → ends_array a (l ∷ keys) ≡ false
    ends true = refl
    ends false = refl

    here : s ≡ key k → c ≡ count (cut ++ key k ∷ [])
    here e = counted s [] p refl ∙ ap (λ (t : Step). count (cut ++ t ∷ [])) e

    behind_steps : s ≡ key k → (steps q : Path) → p ≡ steps ++ q → Counted count counts (cut ++ key k ∷ steps) q
    behind_steps e steps q f t r u g =
        counted s (steps ++ t ∷ r) u
        (ap (λ p. s ∷ p) (f ∙ ap (λ q. steps ++ q) g ∙ sym (append_assoc steps (t ∷ r) u)))
        ∙ ap (λ (x : Step). count (cut ++ x ∷ (steps ++ t ∷ r))) e
        ∙ ap count (sym (append_assoc cut (key k ∷ steps) (t ∷ r)))

    rest : Path → Path
    rest steps = target_from count a (cut ++ key k ∷ steps) (l ∷ keys)

    go : ((cut q : Path) → Counted count counts cut q
        → meets counts a (l ∷ keys) q ≡ compared (target_from count a cut (l ∷ keys)) q)
        → (b : Bool) → step_eq (key k) s ≡ b
        → (if b then into (entered (ends_array a (l ∷ keys)) c) (λ q. meets counts a (l ∷ keys) q) p else Apart)
        ≡ (if b then compared (latest (count (cut ++ key k ∷ [])) ++ rest (latest (count (cut ++ key k ∷ [])))) p else Apart)
    go met true e =
        let same : s ≡ key k = sym (step_is (key k) s e) in
        ap (λ b. into (entered b c) (λ q. meets counts a (l ∷ keys) q) p) (ends a)
        ∙ goes_into (entered false c) (λ q. meets counts a (l ∷ keys) q) (rest (step_into (entered false c))) p
        (λ q f. met (cut ++ key k ∷ step_into (entered false c)) q
        (behind_steps same (step_into (entered false c)) q f))
        ∙ ap (λ steps. compared (steps ++ rest steps) p) (sym (latest_is c))
        ∙ ap (λ n. compared (latest n ++ rest (latest n)) p) (here same)
    go met false e = refl

-- an array section adds the element of as many as there are at its target
pub element_is : (count : Path → ℕ) (cut : Path) (k : List ℕ) (keys : KeyTexts)
    → element_from count true cut (k ∷ keys) ≡ Some (count (cut ++ target_from count true cut (k ∷ keys)))
element_is count cut k [] = refl
element_is count cut k (l ∷ keys) =
    element_is count (cut ++ steps) l keys
    ∙ ap (λ p. Some (count p)) (append_assoc cut steps (target_from count true (cut ++ steps) (l ∷ keys)))
  where
    steps : Path
    steps = key k ∷ latest (count (cut ++ key k ∷ []))
