-- Whether a list clashes does not depend on the order of its sections, where each keeps its path.
use Rattle.std.proofs.Common.{◌≡◌, ℕ, suc, Bool, true, false, List, [], ◌∷◌, map, refl, ap, sym, ◌∙◌, subst, None}
use Rattle.std.specs.Prelude.{◌&&◌, ◌||◌, if◌then◌else◌}
use Rattle.std.specs.List.{list_any}
use Rattle.std.proofs.lemmas.Bool.{or_parts}
use Rattle.basic_toml_grammar.specs.Sections.{KeyTexts, texts, Section}
use Rattle.basic_toml_grammar.specs.Steps.{Path, path_eq}
use Rattle.basic_toml_grammar.specs.RowClash.{rows_clash, has_row_clash}
use Rattle.basic_toml_grammar.specs.SectionClash.{any_pair, sections_clash}
use Rattle.basic_toml_grammar.specs.Placed.{Placed, adds_element, elements_at, element_from, placed_by, placed_after}
use Rattle.basic_toml_grammar.specs.Placed.{placed_from, placed, placed_clash}
use Rattle.basic_toml_grammar.specs.Entering.{is_keyed, all_keyed}
use Rattle.basic_toml_grammar.specs.Document.{has_clash}
use Rattle.basic_toml_grammar.specs.Statements.{Reordered, same, kept, turned, and_on}
use Rattle.basic_toml_grammar.proofs.Clash.ClashIsCollision.{clash_with}
use Rattle.basic_toml_grammar.proofs.Clash.ClashesAgree.{clashes_agree}
use Rattle.basic_toml_grammar.proofs.Clash.EnteringAccepts.{offset_same}

exchange : (a b c : Bool) → (a || (b || c)) ≡ (b || (a || c))
exchange true true c = refl
exchange true false c = refl
exchange false b c = refl

any_reordered : {A : Type 0} (p : A → Bool) {xs ys : List A} → Reordered A xs ys → list_any p xs ≡ list_any p ys
any_reordered p same = refl
any_reordered p (kept {x = x} r) = ap (λ b. p x || b) (any_reordered p r)
any_reordered p (turned {x = x} {y = y} {xs = xs}) = exchange (p x) (p y) (list_any p xs)
any_reordered p (and_on r q) = any_reordered p r ∙ any_reordered p q

pub pairs_reordered : {ls ks : List Placed} → Reordered Placed ls ks
    → any_pair placed_clash ls ≡ any_pair placed_clash ks
pairs_reordered same = refl
pairs_reordered (kept {x = l} {xs = ls} {ys = ks} r) =
    ap (λ b. b || any_pair placed_clash ls) (any_reordered (placed_clash l) r) ∙
    ap (λ b. list_any (placed_clash l) ks || b) (pairs_reordered r)
pairs_reordered (turned {x = l} {y = k} {xs = ls}) =
    ap (λ c. (c || list_any (placed_clash l) ls) || (list_any (placed_clash k) ls || any_pair placed_clash ls))
    (clash_with l.element l.rows l.target k.element k.rows k.target)
    ∙ five (placed_clash k l) (list_any (placed_clash l) ls) (list_any (placed_clash k) ls) (any_pair placed_clash ls)
  where
    five : (c a b d : Bool) → ((c || a) || (b || d)) ≡ ((c || b) || (a || d))
    five true a b d = refl
    five false true true d = refl
    five false true false d = refl
    five false false b d = refl
pairs_reordered (and_on r q) = pairs_reordered r ∙ pairs_reordered q

-- rows clash where they stand
rows_placed : (before : List Placed) (sections : List Section)
    → has_row_clash sections ≡ list_any (λ l. rows_clash l.rows) (placed_from before sections)
rows_placed before [] = refl
rows_placed before (s ∷ sections) =
    ap (λ b. rows_clash s.rows || b) (rows_placed (placed_after before s ∷ before) sections)

pub order_free : (sections others : List Section) → all_keyed sections ≡ true → all_keyed others ≡ true
    → Reordered Placed (placed sections) (placed others)
    → has_clash sections ≡ has_clash others
order_free sections others k l r =
    ap (λ b. b || sections_clash sections) (rows_placed [] sections ∙ any_reordered (λ l. rows_clash l.rows) r ∙
    sym (rows_placed [] others))
    ∙ ap (λ b. has_row_clash others || b) (clashes_agree sections k ∙ pairs_reordered r ∙ sym (clashes_agree others l))

-- without array sections a section stands where its header says
abbrev alone : Section → Placed
alone s = placed_by (λ p. 0) s

nothing_added : (count : Path → ℕ) (p : Path) (keys : KeyTexts) → element_from count false p keys ≡ None
nothing_added count p [] = refl
nothing_added count p (k ∷ []) = refl
nothing_added count p (k ∷ l ∷ keys) = nothing_added count _ (l ∷ keys)

none_more : (s : Section) (before : List Placed) → s.is_array ≡ false → ((p : Path) → elements_at p before ≡ 0)
    → (p : Path) → elements_at p (alone s ∷ before) ≡ 0
none_more s before e h p =
    ap (λ o. if adds_element o && path_eq (alone s).target p then suc (elements_at p before) else elements_at p before)
    (ap (λ a. element_from (λ p. 0) a [] (texts s.header)) e ∙ nothing_added (λ p. 0) [] (texts s.header))
    ∙ h p

all_alone : (before : List Placed) (sections : List Section) → list_any (λ s. s.is_array) sections ≡ false
    → ((p : Path) → elements_at p before ≡ 0)
    → placed_from before sections ≡ map alone sections
all_alone before [] e h = refl
all_alone before (s ∷ sections) e h =
    let r : (s.is_array ≡ false) × (list_any (λ s. s.is_array) sections ≡ false) =
    or_parts s.is_array (list_any (λ s. s.is_array) sections) e in
    let here : placed_after before s ≡ alone s = offset_same (λ p. elements_at p before) (λ p. 0) h s in
    ap (λ l. l ∷ placed_from (l ∷ before) sections) here
    ∙ ap (λ ls. alone s ∷ ls) (all_alone (alone s ∷ before) sections r.1 (none_more s before r.0 h))

pub map_reordered : {A B : Type 0} (f : A → B) {xs ys : List A} → Reordered A xs ys → Reordered B (map f xs) (map f ys)
map_reordered f same = same
map_reordered f (kept r) = kept (map_reordered f r)
map_reordered f turned = turned
map_reordered f (and_on r q) = and_on (map_reordered f r) (map_reordered f q)

swap : (a b c : Bool) → (a && (b && c)) ≡ (b && (a && c))
swap true true c = refl
swap true false c = refl
swap false true c = refl
swap false false c = refl

pub keyed_reordered : {xs ys : List Section} → Reordered Section xs ys → all_keyed xs ≡ all_keyed ys
keyed_reordered same = refl
keyed_reordered (kept {x = s} r) = ap (λ b. is_keyed s && b) (keyed_reordered r)
keyed_reordered (turned {x = s} {y = t} {xs = xs}) = swap (is_keyed s) (is_keyed t) (all_keyed xs)
keyed_reordered (and_on r q) = keyed_reordered r ∙ keyed_reordered q

-- and so keeps its path in each order
pub placed_reordered : (sections others : List Section) → list_any (λ s. s.is_array) sections ≡ false
    → Reordered Section sections others
    → Reordered Placed (placed sections) (placed others)
placed_reordered sections others e r =
    subst (λ ls. Reordered Placed ls (placed others)) (sym (all_alone [] sections e (λ p. refl)))
    (subst (λ ls. Reordered Placed (map alone sections) ls)
    (sym (all_alone [] others (sym (any_reordered (λ s. s.is_array) r) ∙ e) (λ p. refl)))
    (map_reordered alone r))

pub plain_order_free : (sections others : List Section) → all_keyed sections ≡ true
    → list_any (λ s. s.is_array) sections ≡ false → Reordered Section sections others
    → has_clash sections ≡ has_clash others
plain_order_free sections others k e r =
    order_free sections others k (sym (keyed_reordered r) ∙ k) (placed_reordered sections others e r)
