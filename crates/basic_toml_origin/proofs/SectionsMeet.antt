-- The way of a section that the code goes is its indexed path, and the counts behind it are those of the sections so far.
use Rattle.std.proofs.Common.{◌≡◌, ℕ, suc, ◌≤◌, ◌<◌, Bool, true, false, List, [], ◌∷◌, ◌++◌, None, refl}
use Rattle.std.proofs.Common.{ap, sym, ◌∙◌, arith, length, get_or, set}
use Rattle.std.proofs.lemmas.List.{get_or-set_same, get_or-set_other}
use Rattle.std.specs.Prelude.{◌&&◌, if◌then◌else◌}
use Rattle.basic_toml_grammar.specs.Sections.{KeyTexts, texts, Section}
use Rattle.basic_toml_grammar.specs.Steps.{Step, key, number, Path, step_eq, path_eq}
use Rattle.basic_toml_grammar.specs.IndexedPath.{latest, located_after}
use Rattle.basic_toml_grammar.specs.Placed.{step_into, adds_element, target_from, element_from}
use Rattle.basic_toml_grammar.proofs.Clash.PathsAgree.{count_in, path_is, append_none}
use Rattle.basic_toml_grammar.proofs.Clash.StepTestsDecide.{step_is, step_same, paths_are, paths_same}
use Rattle.basic_toml_origin.specs.declared.ways.Meeting.{Meeting}
use Rattle.basic_toml_origin.specs.declared.ways.Meeting.TheVariants.{Apart, Passes, Reaches}
use Rattle.basic_toml_origin.specs.Ways.{compared, counts_behind, element_met, further, met, one_more}
use Rattle.basic_toml_origin.proofs.WaysMeet.{Counted, element_is, goes_further, left_behind, meets_target}

-- a way that a path begins with leaves the rest
pub left_self : (q r : Path) → compared q (q ++ r) ≡ Reaches (length r)
left_self [] r = refl
left_self (s ∷ q) r = rw step_same (left_self q r)

pub record Begun (q p : Path) (n : ℕ) : Type 0 where
  pub rest : Path
  pub split : p ≡ q ++ rest
  pub left : length rest ≡ n

pub reached : (q p : Path) (n : ℕ) → compared q p ≡ Reaches n → Begun q p n
reached [] p n e = record { rest = p; split = refl; left = cc }
reached (t ∷ q) [] n e = cc
reached (t ∷ q) (s ∷ p) n e = go (reached q p n) (step_eq t s) refl e
  where
    go : (compared q p ≡ Reaches n → Begun q p n) → (b : Bool) → step_eq t s ≡ b
        → (if b then compared q p else Apart) ≡ Reaches n → Begun (t ∷ q) (s ∷ p) n
    go on true f e =
        let r : Begun q p n = on e in
        record {
          rest = r.rest;
          split = ap (λ (x : Step). x ∷ p) (sym (step_is t s f)) ∙ ap (λ p. t ∷ p) r.split;
          left = r.left;
        }
    go on false f e = cc

-- of two beginnings of a path that leave as much, each is the other
lengths : (q p : Path) → length p ≤ length (q ++ p)
lengths [] p = omega arith
lengths (s ∷ q) p = omega (arith, lengths q p)

same_length : (q r p o : Path) → q ++ p ≡ r ++ o → length p ≡ length o → q ≡ r
same_length [] [] p o e l = refl
same_length [] (t ∷ r) p o e l =
    let more : length p ≡ suc (length (r ++ o)) = ap length e in absurd (omega (arith, more, l, lengths r o))
same_length (s ∷ q) [] p o e l =
    let more : suc (length (q ++ p)) ≡ length o = ap length e in absurd (omega (arith, more, l, lengths q p))
same_length (s ∷ q) (t ∷ r) p o e l =
    let heads : s ≡ t = cc in
    let rests : q ++ p ≡ r ++ o = cc in
    let same : q ≡ r = same_length q r p o rests l in
    cc

no_element : (count : Path → ℕ) (cut : Path) (keys : KeyTexts) → element_from count false cut keys ≡ None
no_element count cut [] = refl
no_element count cut (k ∷ []) = refl
no_element count cut (k ∷ l ∷ keys) = no_element count (cut ++ key k ∷ latest (count (cut ++ key k ∷ []))) (l ∷ keys)

-- the first step of a target is its first key
record Headed (k : List ℕ) (target : Path) : Type 0 where
  pub rest : Path
  pub is : target ≡ key k ∷ rest

headed : (count : Path → ℕ) (cut : Path) (k : List ℕ) (keys : KeyTexts) → Headed k (target_from count true cut (k ∷ keys))
headed count cut k [] = record { rest = []; is = refl }
headed count cut k (l ∷ keys) =
    record {
      rest =
          latest (count (cut ++ key k ∷ []))
          ++ target_from count true (cut ++ key k ∷ latest (count (cut ++ key k ∷ []))) (l ∷ keys);
      is = refl;
    }

module _ (count : Path → ℕ) (counts : List ℕ) (p : Path) (counted : Counted count counts [] p) where
  -- so many elements stand at a target that the path begins with
  at_target : (k : List ℕ) (target : Path) (left : ℕ) → Headed k target → compared target p ≡ Reaches left
      → get_or counts left 0 ≡ count target
  at_target k target left head e =
      let r : Begun target p left = reached target p left e in
      let split : p ≡ key k ∷ head.rest ++ r.rest = r.split ∙ ap (λ t. t ++ r.rest) head.is in
      ap (λ n. get_or counts n 0) (sym r.left) ∙ counted (key k) head.rest r.rest split ∙ ap count (sym head.is)

  -- the way of the code
  way_is : (a : Bool) (keys : KeyTexts)
      → met counts a keys p ≡ compared (target_from count a [] keys ++ step_into (element_from count a [] keys)) p
  way_is false keys =
      meets_target count counts false keys [] p counted
      ∙ ap (λ q. compared q p) (sym (append_none (target_from count false [] keys)))
      ∙ ap (λ o. compared (target_from count false [] keys ++ step_into o) p) (sym (no_element count [] keys))
  way_is true [] = refl
  way_is true (k ∷ keys) =
      ap (element_met counts p) (meets_target count counts true (k ∷ keys) [] p counted)
      ∙ go (compared target p) refl
      ∙ sym (goes_further target (number (count target) ∷ []) p)
      ∙ ap (λ o. compared (target ++ step_into o) p) (sym (element_is count [] k keys))
    where
      target : Path
      target = target_from count true [] (k ∷ keys)

      go : (m : Meeting) → compared target p ≡ m → element_met counts p m ≡ further m (number (count target) ∷ []) p
      go Apart e = refl
      go Passes e = refl
      go (Reaches left) e =
          ap (λ n. further (Reaches left) (number n ∷ []) p) (at_target k target left (headed count [] k keys) e)

  -- and the counts behind it
  counts_are : (a : Bool) (keys : KeyTexts) → length p ≤ length counts → (s : Step) (q r : Path) → p ≡ s ∷ q ++ r
      → get_or (counts_behind counts a keys p) (length r) 0
      ≡ (if adds_element (element_from count a [] keys) && path_eq (target_from count a [] keys) (s ∷ q)
      then suc (count (s ∷ q)) else count (s ∷ q))
  counts_are false keys room s q r e =
      counted s q r e
      ∙ ap (λ o. if adds_element o && path_eq (target_from count false [] keys) (s ∷ q) then suc (count (s ∷ q))
      else count (s ∷ q)) (sym (no_element count [] keys))
  counts_are true [] room s q r e = counted s q r e
  counts_are true (k ∷ keys) room s q r e =
      ap (λ m. get_or (one_more counts m) (length r) 0) (meets_target count counts true (k ∷ keys) [] p counted)
      ∙ go (compared target p) refl (path_eq target (s ∷ q)) refl
      ∙ ap (λ o. if adds_element o && path_eq target (s ∷ q) then suc (count (s ∷ q)) else count (s ∷ q))
      (sym (element_is count [] k keys))
    where
      target : Path
      target = target_from count true [] (k ∷ keys)

      self : path_eq target (s ∷ q) ≡ true → compared target p ≡ Reaches (length r)
      self f =
          ap (λ t. compared t p) (paths_are target (s ∷ q) f) ∙ ap (compared (s ∷ q)) e ∙ left_self (s ∷ q) r

      apart : (left : ℕ) → Begun target p left → path_eq target (s ∷ q) ≡ false → length r ≡ left → ⊥
      apart left b g h =
          let same : target ≡ s ∷ q = same_length target (s ∷ q) b.rest r (sym b.split ∙ e) (b.left ∙ sym h) in
          let is : path_eq target (s ∷ q) ≡ true = ap (λ t. path_eq t (s ∷ q)) same ∙ paths_same (s ∷ q) in
          cc

      go : (m : Meeting) → compared target p ≡ m → (b : Bool) → path_eq target (s ∷ q) ≡ b
          → get_or (one_more counts m) (length r) 0 ≡ (if b then suc (count (s ∷ q)) else count (s ∷ q))
      go Apart f true g = let h : compared target p ≡ Reaches (length r) = self g in cc
      go Passes f true g = let h : compared target p ≡ Reaches (length r) = self g in cc
      go Apart f false g = counted s q r e
      go Passes f false g = counted s q r e
      go (Reaches left) f true g =
          let h : compared target p ≡ Reaches (length r) = self g in
          let there : length r ≡ left = cc in
          let head : Headed k target = headed count [] k keys in
          let shifted : compared (key k ∷ head.rest) p ≡ Reaches left = ap (λ t. compared t p) (sym head.is) ∙ f in
          let within : left < length counts = omega (arith, room, left_behind (key k) head.rest p left shifted) in
          ap (λ n. get_or (set counts left (suc (get_or counts left 0))) n 0) there
          ∙ get_or-set_same counts left (suc (get_or counts left 0)) 0 within
          ∙ ap (λ n. suc (get_or counts n 0)) (sym there) ∙ ap suc (counted s q r e)
      go (Reaches left) f false g =
          get_or-set_other counts left (length r) (suc (get_or counts left 0)) 0 (apart left (reached target p left f) g)
          ∙ counted s q r e

-- of sections
pub section_met : (earlier : List Section) (s : Section) (counts : List ℕ) (p : Path)
    → Counted (count_in earlier) counts [] p
    → met counts s.is_array (texts s.header) p ≡ compared (located_after earlier s).path p
section_met earlier s counts p counted =
    way_is (count_in earlier) counts p counted s.is_array (texts s.header)
    ∙ ap (λ q. compared q p) (sym (path_is s earlier))

pub section_counted : (earlier : List Section) (s : Section) (counts : List ℕ) (p : Path)
    → Counted (count_in earlier) counts [] p → length p ≤ length counts
    → Counted (count_in (s ∷ earlier)) (counts_behind counts s.is_array (texts s.header) p) [] p
section_counted earlier s counts p counted room t q r e =
    counts_are (count_in earlier) counts p counted s.is_array (texts s.header) room t q r e
