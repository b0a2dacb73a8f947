-- The parts of an array and of a table, moved one by one.
use Rattle.std.proofs.Common.{◌≡◌, List, [], ◌∷◌, ◌++◌, length, refl, sym, ap, subst, ◌∙◌, cond, true, false, arith}
use Rattle.std.proofs.Common.{IsTrue}
use Rattle.std.proofs.lemmas.Bool.{and_from}
use Rattle.basic_toml_value.specs.Data.{Items, no_items, item, Members, no_members, member}
use Rattle.basic_toml_value.specs.Entries.{seen}
use Rattle.basic_toml_value.specs.Text.{text_bytes}
use Rattle.basic_toml_value.specs.View.{view, entries, items_view}
use Rattle.basic_toml_value.specs.declared.pairs.Pair.{Pair}
use Rattle.basic_toml_value.specs.declared.value.Value.{Value}
use Rattle.basic_toml_layout.specs.Sections.{is_section}
use Rattle.basic_toml_order.specs.RowsFirst.{followed_by, rows_first, items_rows_first, rows_of, sections_of}
use Rattle.basic_toml_order.specs.Sound.{is_sound, are_sound, hold_sound}

pub nothing_left : {A : Type 0} (xs : List A) → length xs ≡ 0 → xs ≡ []
nothing_left [] none = refl
nothing_left (x ∷ xs) none = absurd (omega arith)

-- elements, and what follows them
abbrev pub items_then : List Value → Items → Items
items_then [] xs = xs
items_then (v ∷ vs) xs = item (view v) (items_then vs xs)

-- pairs, and what follows them
abbrev pub members_then : List (Pair Value) → Members → Members
members_then [] ms = ms
members_then (p ∷ ps) ms = member (text_bytes p.key) (view p.value) (members_then ps ms)

pub items_then-push : (vs : List Value) (v : Value) (xs : Items)
    → items_then (vs ++ v ∷ []) xs ≡ items_then vs (item (view v) xs)
items_then-push [] v xs = refl
items_then-push (w ∷ vs) v xs = ap (item (view w)) (items_then-push vs v xs)

pub items_then-end : (vs : List Value) → items_then vs no_items ≡ items_view vs
items_then-end [] = refl
items_then-end (v ∷ vs) = ap (item (view v)) (items_then-end vs)

pub members_then-push : (ps : List (Pair Value)) (p : Pair Value) (ms : Members)
    → members_then (ps ++ p ∷ []) ms ≡ members_then ps (member (text_bytes p.key) (view p.value) ms)
members_then-push [] p ms = refl
members_then-push (q ∷ ps) p ms = ap (member (text_bytes q.key) (view q.value)) (members_then-push ps p ms)

pub members_then-end : (ps : List (Pair Value)) → members_then ps no_members ≡ entries (seen ps)
members_then-end [] = refl
members_then-end (p ∷ ps) = ap (member (text_bytes p.key) (view p.value)) (members_then-end ps)

pub entries-followed : (ps qs : List (Pair Value))
    → entries (seen (ps ++ qs)) ≡ followed_by (entries (seen ps)) (entries (seen qs))
entries-followed [] qs = refl
entries-followed (p ∷ ps) qs = ap (member (text_bytes p.key) (view p.value)) (entries-followed ps qs)

-- an element more is moved
module _ (moved next left rest : List Value) (done value : Value) (split : left ≡ value ∷ rest) where
  pub element_moved : (whole : Items) → next ≡ moved ++ done ∷ [] → view done ≡ rows_first (view value)
      → items_then moved (items_rows_first (items_view left)) ≡ whole
      → items_then next (items_rows_first (items_view rest)) ≡ whole
  element_moved whole pushed same before =
      ap (λ vs. items_then vs (items_rows_first (items_view rest))) pushed
      ∙ items_then-push moved done (items_rows_first (items_view rest))
      ∙ ap (λ d. items_then moved (item d (items_rows_first (items_view rest)))) same
      ∙ ap (λ vs. items_then moved (items_rows_first (items_view vs))) (sym split) ∙ before

  pub element_sound : IsTrue (is_sound (view value)) → IsTrue (are_sound (items_view rest))
      → IsTrue (are_sound (items_view left))
  element_sound here more =
      subst (λ vs. IsTrue (are_sound (items_view vs))) (sym split) (and_from _ _ here more)

pub elements_moved : (moved left : List Value) (whole : Items) → length left ≡ 0
    → items_then moved (items_rows_first (items_view left)) ≡ whole → items_view moved ≡ whole
elements_moved moved left whole none before =
    sym (items_then-end moved)
    ∙ ap (λ vs. items_then moved (items_rows_first (items_view vs))) (sym (nothing_left left none)) ∙ before

-- a pair more is moved: it is a row or a section
module _ (moved next left rest : List (Pair Value)) (done pair : Pair Value) (split : left ≡ pair ∷ rest) where
  pub pair_sound : IsTrue (is_sound (view pair.value)) → IsTrue (hold_sound (entries (seen rest)))
      → IsTrue (hold_sound (entries (seen left)))
  pair_sound here more =
      subst (λ ps. IsTrue (hold_sound (entries (seen ps)))) (sym split) (and_from _ _ here more)

  pub row_moved : (whole : Members) → is_section (view pair.value) ≡ false → next ≡ moved ++ done ∷ []
      → text_bytes done.key ≡ text_bytes pair.key → view done.value ≡ rows_first (view pair.value)
      → members_then moved (rows_of (entries (seen left))) ≡ whole
      → members_then next (rows_of (entries (seen rest))) ≡ whole
  row_moved whole is pushed key same before =
      ap (λ ps. members_then ps (rows_of (entries (seen rest)))) pushed
      ∙ members_then-push moved done (rows_of (entries (seen rest)))
      ∙ ap (λ k. members_then moved (member k (view done.value) (rows_of (entries (seen rest))))) key
      ∙ ap (λ d. members_then moved (member (text_bytes pair.key) d (rows_of (entries (seen rest))))) same
      ∙ sym (ap (λ b. members_then moved (cond b (rows_of (entries (seen rest)))
      (member (text_bytes pair.key) (rows_first (view pair.value)) (rows_of (entries (seen rest)))))) is)
      ∙ ap (λ ps. members_then moved (rows_of (entries (seen ps)))) (sym split) ∙ before

  pub section_moved : (whole : Members) → is_section (view pair.value) ≡ true → next ≡ moved ++ done ∷ []
      → text_bytes done.key ≡ text_bytes pair.key → view done.value ≡ rows_first (view pair.value)
      → members_then moved (sections_of (entries (seen left))) ≡ whole
      → members_then next (sections_of (entries (seen rest))) ≡ whole
  section_moved whole is pushed key same before =
      ap (λ ps. members_then ps (sections_of (entries (seen rest)))) pushed
      ∙ members_then-push moved done (sections_of (entries (seen rest)))
      ∙ ap (λ k. members_then moved (member k (view done.value) (sections_of (entries (seen rest))))) key
      ∙ ap (λ d. members_then moved (member (text_bytes pair.key) d (sections_of (entries (seen rest))))) same
      ∙ sym (ap (λ b. members_then moved (cond b
      (member (text_bytes pair.key) (rows_first (view pair.value)) (sections_of (entries (seen rest))))
      (sections_of (entries (seen rest))))) is)
      ∙ ap (λ ps. members_then moved (sections_of (entries (seen ps)))) (sym split) ∙ before

-- what is passed over stays
pub row_passed : (moved left rest : List (Pair Value)) (pair : Pair Value) (whole : Members) → left ≡ pair ∷ rest
    → is_section (view pair.value) ≡ true → members_then moved (rows_of (entries (seen left))) ≡ whole
    → members_then moved (rows_of (entries (seen rest))) ≡ whole
row_passed moved left rest pair whole split is before =
    sym (ap (λ b. members_then moved (cond b (rows_of (entries (seen rest)))
    (member (text_bytes pair.key) (rows_first (view pair.value)) (rows_of (entries (seen rest)))))) is)
    ∙ ap (λ ps. members_then moved (rows_of (entries (seen ps)))) (sym split) ∙ before

pub section_passed : (moved left rest : List (Pair Value)) (pair : Pair Value) (whole : Members) → left ≡ pair ∷ rest
    → is_section (view pair.value) ≡ false → members_then moved (sections_of (entries (seen left))) ≡ whole
    → members_then moved (sections_of (entries (seen rest))) ≡ whole
section_passed moved left rest pair whole split is before =
    sym (ap (λ b. members_then moved (cond b
    (member (text_bytes pair.key) (rows_first (view pair.value)) (sections_of (entries (seen rest))))
    (sections_of (entries (seen rest))))) is)
    ∙ ap (λ ps. members_then moved (sections_of (entries (seen ps)))) (sym split) ∙ before

-- where no pair is left
pub rows_moved : (moved left : List (Pair Value)) (whole : Members) → length left ≡ 0
    → members_then moved (rows_of (entries (seen left))) ≡ whole → entries (seen moved) ≡ whole
rows_moved moved left whole none before =
    sym (members_then-end moved)
    ∙ ap (λ ps. members_then moved (rows_of (entries (seen ps)))) (sym (nothing_left left none)) ∙ before

pub sections_moved : (moved left : List (Pair Value)) (whole : Members) → length left ≡ 0
    → members_then moved (sections_of (entries (seen left))) ≡ whole → entries (seen moved) ≡ whole
sections_moved moved left whole none before =
    sym (members_then-end moved)
    ∙ ap (λ ps. members_then moved (sections_of (entries (seen ps)))) (sym (nothing_left left none)) ∙ before
