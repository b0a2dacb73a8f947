-- What clashes by the rules clashed by the old ones.
use Rattle.std.proofs.Common.{◌≡◌, Bool, true, false, List, [], ◌∷◌, ◌++◌, refl, ap, sym, ◌∙◌, subst, inl, inr}
use Rattle.std.specs.Prelude.{◌||◌, ◌⊎◌}
use Rattle.std.specs.List.{list_any}
use Rattle.std.proofs.lemmas.Bool.{false≢true, or_cases, or_left, or_right, and_parts, and_from}
use Rattle.std.proofs.lemmas.List.{append-nil}
use Rattle.basic_toml_grammar.specs.Sections.{texts, Rows, no_rows, row, Section}
use Rattle.basic_toml_grammar.specs.Steps.{Step, key, number, Path, step_eq, begins, steps_of}
use Rattle.basic_toml_grammar.specs.IndexedPath.{Located, located_from, located}
use Rattle.basic_toml_grammar.specs.SectionClash.{without_last_number, target, same_path, array_on_cut, row_on_path}
use Rattle.basic_toml_grammar.specs.SectionClash.{row_crossed, any_row_clashes, clashes_one_way, clashes, any_pair}
use Rattle.basic_toml_grammar.specs.SectionClash.{sections_clash}
use Rattle.basic_toml_grammar.specs.Placed.{is_short, crosses}
use Rattle.basic_toml_grammar.specs.Entering.{rows_keyed, header_keyed, is_keyed, all_keyed}
use Rattle.basic_toml_grammar.specs.OldRules.{first_key_on_path, clashed_one_way, clashed, sections_clashed}
use Rattle.basic_toml_grammar.proofs.Clash.StepTestsDecide.{step_is, step_same}
use Rattle.basic_toml_grammar.proofs.Clash.ClashesAgree.{crossed_is}

first_begins : (p : Path) (k : Step) (ks q : Path) → begins (p ++ k ∷ ks) q ≡ true → begins (p ++ k ∷ []) q ≡ true
first_begins [] k ks [] e = absurd (false≢true e)
first_begins (s ∷ p) k ks [] e = absurd (false≢true e)
first_begins [] k ks (t ∷ q) e = let h : (step_eq k t ≡ true) × (begins ks q ≡ true) = and_parts _ _ e in
    and_from _ _ h.0 refl
first_begins (s ∷ p) k ks (t ∷ q) e =
    let h : (step_eq s t ≡ true) × (begins (p ++ k ∷ ks) q ≡ true) = and_parts _ _ e in
    and_from _ _ h.0 (first_begins p k ks q h.1)

turned_eq : (s t : Step) → step_eq s t ≡ true → step_eq t s ≡ true
turned_eq s t e = ap (λ x. step_eq t x) (step_is s t e) ∙ step_same t

-- a path that a header crosses begins, by its first key, the header's whole path
crossed_begins : (p : Path) (k : Step) (ks t o : Path) → crosses p (k ∷ ks) t ≡ true
    → begins (p ++ k ∷ []) (t ++ o) ≡ true
crossed_begins [] k ks [] o e = absurd (false≢true e)
crossed_begins [] k ks (t ∷ u) o e = let h : (step_eq t k ≡ true) × (is_short u ks ≡ true) = and_parts _ _ e in
    and_from _ _ (turned_eq t k h.0) refl
crossed_begins (s ∷ p) k ks [] o e = absurd (false≢true e)
crossed_begins (s ∷ p) k ks (t ∷ u) o e =
    let h : (step_eq s t ≡ true) × (crosses p (k ∷ ks) u ≡ true) = and_parts _ _ e in
    and_from _ _ h.0 (crossed_begins p k ks u o h.1)

-- a path is what is left without its last number, and the rest
last_number : (p : Path) → (o : Path) × (p ≡ without_last_number p ++ o)
last_number [] = ([], refl)
last_number (key k ∷ []) = ([], refl)
last_number (number n ∷ []) = (number n ∷ [], refl)
last_number (s ∷ t ∷ p) = let r : (o : Path) × (t ∷ p ≡ without_last_number (t ∷ p) ++ o) = last_number (t ∷ p) in
    (r.0, ap (λ q. s ∷ q) r.1)

target_begins : (j : Located) → (o : Path) × (j.path ≡ target j ++ o)
target_begins j = go j.section.is_array
  where
    go : (a : Bool) → (o : Path)
        × (j.path ≡ (Rattle.std.specs.Prelude.if◌then◌else◌ a (without_last_number j.path) j.path) ++ o)
    go true = last_number j.path
    go false = ([], sym (append-nil j.path))

rows_kept : (p : Path) (rows : Rows) (j : Located) → rows_keyed rows ≡ true → any_row_clashes p rows j ≡ true
    → first_key_on_path p rows j ≡ true
rows_kept p no_rows j k e = e
rows_kept p (row [] at v rows) j k e = absurd (false≢true k)
rows_kept p (row (l ∷ keys) at v rows) j k e = go (rows_kept p rows j k) (or_cases _ _ e)
  where
    steps : Path
    steps = steps_of (texts (l ∷ keys))

    one : (row_on_path p steps j ≡ true) ⊎ (row_crossed p steps j ≡ true) → begins (p ++ key l.text ∷ []) j.path ≡ true
    one (inl x) = first_begins p (key l.text) (steps_of (texts keys)) j.path x
    one (inr x) =
        let r : (o : Path) × (j.path ≡ target j ++ o) = target_begins j in
        subst (λ q. begins (p ++ key l.text ∷ []) q ≡ true) (sym r.1)
        (crossed_begins p (key l.text) (steps_of (texts keys)) (target j) r.0 (sym (crossed_is p steps (target j)) ∙ x))

    go : (any_row_clashes p rows j ≡ true → first_key_on_path p rows j ≡ true)
        → ((row_on_path p steps j || row_crossed p steps j) ≡ true) ⊎ (any_row_clashes p rows j ≡ true)
        → (begins (p ++ key l.text ∷ []) j.path || first_key_on_path p rows j) ≡ true
    go ih (inl x) = or_left _ _ (one (or_cases _ _ x))
    go ih (inr x) = or_right _ _ (ih x)

one_way_kept : (i j : Located) → rows_keyed i.section.rows ≡ true → clashes_one_way i j ≡ true
    → clashed_one_way i j ≡ true
one_way_kept i j k e = go (same_path i j) (array_on_cut i j) e
  where
    go : (a b : Bool) → (a || (b || any_row_clashes i.path i.section.rows j)) ≡ true
        → (a || (b || first_key_on_path i.path i.section.rows j)) ≡ true
    go true b x = refl
    go false true x = refl
    go false false x = rows_kept i.path i.section.rows j k x

clash_kept : (i j : Located) → rows_keyed i.section.rows ≡ true → rows_keyed j.section.rows ≡ true
    → clashes i j ≡ true → clashed i j ≡ true
clash_kept i j k l e = go (or_cases _ _ e)
  where
    go : (clashes_one_way i j ≡ true) ⊎ (clashes_one_way j i ≡ true) → clashed i j ≡ true
    go (inl x) = or_left _ _ (one_way_kept i j k x)
    go (inr x) = or_right _ _ (one_way_kept j i l x)

data Keyed : List Located → Type 0 where
  none : Keyed []
  more : {l : Located} {ls : List Located} → rows_keyed l.section.rows ≡ true → Keyed ls → Keyed (l ∷ ls)

any_kept : (l : Located) (ls : List Located) → rows_keyed l.section.rows ≡ true → Keyed ls
    → list_any (clashes l) ls ≡ true → list_any (clashed l) ls ≡ true
any_kept l [] k none e = e
any_kept l (x ∷ ls) k (more kx h) e = go (any_kept l ls k h) (or_cases _ _ e)
  where
    go : (list_any (clashes l) ls ≡ true → list_any (clashed l) ls ≡ true) → (clashes l x ≡ true)
        ⊎ (list_any (clashes l) ls ≡ true) → (clashed l x || list_any (clashed l) ls) ≡ true
    go ih (inl e) = or_left _ _ (clash_kept l x k kx e)
    go ih (inr e) = or_right _ _ (ih e)

pairs_kept : (ls : List Located) → Keyed ls → any_pair clashes ls ≡ true → any_pair clashed ls ≡ true
pairs_kept [] none e = e
pairs_kept (l ∷ ls) (more k h) e = go (pairs_kept ls h) (or_cases _ _ e)
  where
    go : (any_pair clashes ls ≡ true → any_pair clashed ls ≡ true) → (list_any (clashes l) ls ≡ true)
        ⊎ (any_pair clashes ls ≡ true) → (list_any (clashed l) ls || any_pair clashed ls) ≡ true
    go ih (inl e) = or_left _ _ (any_kept l ls k h e)
    go ih (inr e) = or_right _ _ (ih e)

keyed_from : (earlier sections : List Section) → all_keyed sections ≡ true → Keyed (located_from earlier sections)
keyed_from earlier [] e = none
keyed_from earlier (s ∷ sections) e =
    let h : (is_keyed s ≡ true) × (all_keyed sections ≡ true) = and_parts _ _ e in
    let k : (rows_keyed s.rows ≡ true) × (header_keyed s.is_array (texts s.header) ≡ true) = and_parts _ _ h.0 in
    more k.0 (keyed_from (s ∷ earlier) sections h.1)

-- a list without a clash by the old rule has none
pub clashes_kept : (sections : List Section) → all_keyed sections ≡ true → sections_clashed sections ≡ false
    → sections_clash sections ≡ false
clashes_kept sections k e = go (sections_clash sections) refl
  where
    go : (b : Bool) → sections_clash sections ≡ b → b ≡ false
    go false f = refl
    go true f = absurd (false≢true (sym e ∙ pairs_kept (located sections) (keyed_from [] sections k) f))
