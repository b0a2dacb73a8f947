-- What a mark that a section makes tells of the place of the section, or of a row.
use Rattle.std.proofs.Common.{◌≡◌, ℕ, Bool, true, false, List, [], ◌∷◌, ◌++◌, Option, Some, None, refl, ap, sym, ◌∙◌}
use Rattle.std.specs.Prelude.{◌&&◌}
use Rattle.std.proofs.lemmas.Bool.{false≢true, and_parts}
use Rattle.basic_toml_value.specs.Data.{Data}
use Rattle.basic_toml_grammar.specs.Sections.{Key, KeyTexts, texts, Raw, Rows, row}
use Rattle.basic_toml_grammar.specs.Steps.{Step, key, number, Path, step_eq, begins, path_eq, steps_of}
use Rattle.basic_toml_grammar.specs.Mentions.{finished}
use Rattle.basic_toml_grammar.specs.Placed.{step_into, adds_element, is_cut, is_short, is_inner, crosses}
use Rattle.basic_toml_grammar.specs.Marks.{MarkKind, passed, by_latest, named, added, dotted, valued}
use Rattle.basic_toml_grammar.proofs.Clash.StepTestsDecide.{step_same, begins_same}
use Rattle.basic_toml_grammar.proofs.Clash.WhatSectionsSay.{KeysSay, value_here, dots_here, deeper, RowsSay, this_row}
use Rattle.basic_toml_grammar.proofs.Clash.WhatSectionsSay.{later_row, Says, names, rows_say, adds, into, passes}
use Rattle.basic_toml_grammar.proofs.Clash.WhatSectionsSay.{goes_by, on}
use Rattle.basic_toml_grammar.proofs.Naming.WhereHeadersStop.{is_header}

-- of a header's mark, by its kind
abbrev pub Role : Option ℕ → Path → Path → MarkKind → Type 0
Role e t q named = q ≡ t ++ step_into e
Role e t q added = (q ≡ t) × (adds_element e ≡ true)
Role e t q passed = (is_cut q (t ++ step_into e) ≡ true) × (path_eq (t ++ step_into e) q ≡ false)
Role e t q k = begins q (t ++ step_into e) ≡ true

pub keys_row : {v : Data} {ks : KeyTexts} {q : Path} {k : MarkKind} → KeysSay v ks q k → is_header k ≡ false
keys_row value_here = refl
keys_row dots_here = refl
keys_row (deeper y) = keys_row y

pub rows_row : {rs : Rows} {q : Path} {k : MarkKind} → RowsSay rs q k → is_header k ≡ false
rows_row (this_row y) = keys_row y
rows_row (later_row y) = rows_row y

on_role : (e : Option ℕ) (t q : Path) (s : Step) (k : MarkKind) → Role e t q k → Role e (s ∷ t) (s ∷ q) k
on_role e t q s named h = ap (λ p. s ∷ p) h
on_role e t q s added h = (ap (λ p. s ∷ p) h.0, h.1)
on_role e t q s passed h = (rw (step_same s) h.0, rw (step_same s) h.1)
on_role e t q s by_latest h = rw (step_same s) h
on_role e t q s dotted h = rw (step_same s) h
on_role e t q s (valued v) h = rw (step_same s) h

into_role : (n : ℕ) (q : Path) (k : MarkKind) → Role None [] q k → Role (Some n) [] (number n ∷ q) k
into_role n q named h = ap (λ p. number n ∷ p) h
into_role n q added h = absurd (false≢true h.1)
into_role n q passed h = (rw (step_same (number n)) h.0, rw (step_same (number n)) h.1)
into_role n q by_latest h = rw (step_same (number n)) h
into_role n q dotted h = rw (step_same (number n)) h
into_role n q (valued v) h = rw (step_same (number n)) h

pub role : {e : Option ℕ} {rs : Rows} {t q : Path} {k : MarkKind} → Says e rs t q k → is_header k ≡ true → Role e t q k
role names h = refl
role (rows_say y) h = absurd (false≢true (sym (rows_row y) ∙ h))
role adds h = (refl, refl)
role (into {n = n} {q = q} {m = m} y) h = into_role n q m (role y h)
role passes h = (refl, refl)
role goes_by h = refl
role (on {e = e} {s = s} {t = t} {q = q} {m = m} y) h = on_role e t q s m (role y h)

begins_both : (p q : Path) → begins p (p ++ q) ≡ true
begins_both [] q = refl
begins_both (s ∷ p) q = rw (step_same s) (begins_both p q)

cut_begins : (p q : Path) → is_cut p q ≡ true → begins p q ≡ true
cut_begins [] q h = refl
cut_begins (s ∷ p) [] h = absurd (false≢true h)
cut_begins (s ∷ p) (t ∷ q) h =
    let a : (step_eq s t ≡ true) × (is_cut p q ≡ true) = and_parts _ _ h in
    rw (a.0) (cut_begins p q a.1)

-- it lies on the way to the section
pub way : (e : Option ℕ) (t q : Path) (k : MarkKind) → Role e t q k → begins q (t ++ step_into e) ≡ true
way e t q named h = rw h (begins_same (t ++ step_into e))
way e t q added h = rw (h.0) (begins_both t (step_into e))
way e t q passed h = cut_begins q (t ++ step_into e) h.0
way e t q by_latest h = h
way e t q dotted h = h
way e t q (valued v) h = h

-- a row among others
pub data RowOf : Rows → List Key → Data → Type 0 where
  this_one : {keys : List Key} {at : ℕ} {v : Raw} {rs : Rows} → RowOf (row keys at v rs) keys (finished v)
  a_later : {ls : List Key} {at : ℕ} {w : Raw} {rs : Rows} {keys : List Key} {v : Data} → RowOf rs keys v
      → RowOf (row ls at w rs) keys v

pub record RowMark (rs : Rows) (q : Path) (k : MarkKind) : Type 0 where
  pub keys : List Key
  pub value : Data
  pub row : RowOf rs keys value
  pub says : KeysSay value (texts keys) q k

later_mark : {ls : List Key} {at : ℕ} {w : Raw} {rs : Rows} {q : Path} {k : MarkKind} → RowMark rs q k
    → RowMark (row ls at w rs) q k
later_mark h = record { keys = h.keys; value = h.value; row = a_later h.row; says = h.says }

row_mark : {rs : Rows} {q : Path} {k : MarkKind} → RowsSay rs q k → RowMark rs q k
row_mark (this_row {keys = keys} {v = v} y) = record { keys = keys; value = finished v; row = this_one; says = y }
row_mark (later_row y) = later_mark (row_mark y)

-- of a row's mark: the row, after the path of the section
pub record RowPart (e : Option ℕ) (rs : Rows) (t q : Path) (k : MarkKind) : Type 0 where
  pub path : Path
  pub is : q ≡ (t ++ step_into e) ++ path
  pub mark : RowMark rs path k

pub row_part : {e : Option ℕ} {rs : Rows} {t q : Path} {k : MarkKind} → Says e rs t q k → is_header k ≡ false
    → RowPart e rs t q k
row_part names h = absurd (false≢true (sym h))
row_part (rows_say {q = q} y) h = record { path = q; is = refl; mark = row_mark y }
row_part adds h = absurd (false≢true (sym h))
row_part (into {n = n} y) h = into_part (row_part y h)
  where
    into_part : {rs : Rows} {q : Path} {k : MarkKind} → RowPart None rs [] q k → RowPart (Some n) rs [] (number n ∷ q) k
    into_part r = record { path = r.path; is = ap (λ p. number n ∷ p) r.is; mark = r.mark }
row_part passes h = absurd (false≢true (sym h))
row_part goes_by h = absurd (false≢true (sym h))
row_part (on {s = s} y) h = on_part (row_part y h)
  where
    on_part : {e : Option ℕ} {rs : Rows} {t q : Path} {k : MarkKind} → RowPart e rs t q k
        → RowPart e rs (s ∷ t) (s ∷ q) k
    on_part r = record { path = r.path; is = ap (λ p. s ∷ p) r.is; mark = r.mark }

pub valued_at : {v w : Data} {ks : KeyTexts} {q : Path} → KeysSay v ks q (valued w) → q ≡ steps_of ks
valued_at value_here = refl
valued_at (deeper {k = k} y) = ap (λ p. key k ∷ p) (valued_at y)

pub inner_short : (q p : Path) → is_inner q p ≡ true → is_short q p ≡ true
inner_short [] p h = absurd (false≢true h)
inner_short (s ∷ q) p h = h

pub dotted_at : {v : Data} {ks : KeyTexts} {q : Path} → KeysSay v ks q dotted → is_inner q (steps_of ks) ≡ true
dotted_at (dots_here {k = k}) = rw (step_same (key k)) refl
dotted_at (deeper {k = k} {ks = ks} {q = q} y) = rw (step_same (key k)) (inner_short q (steps_of ks) (dotted_at y))

pub crosses_after : (p q steps : Path) → is_inner q steps ≡ true → crosses p steps (p ++ q) ≡ true
crosses_after [] q steps h = h
crosses_after (s ∷ p) q steps h = rw (step_same s) (crosses_after p q steps h)

and_off : (b c : Bool) → c ≡ false → (b && c) ≡ false
and_off false c h = refl
and_off true c h = h

short_number : (t : Path) (n : ℕ) (ks : KeyTexts) → is_short (t ++ number n ∷ []) (steps_of ks) ≡ false
short_number [] n [] = refl
short_number [] n (k ∷ ks) = refl
short_number (s ∷ t) n [] = refl
short_number (s ∷ t) n (k ∷ ks) = and_off (step_eq s (key k)) _ (short_number t n ks)

inner_number : (t : Path) (n : ℕ) (ks : KeyTexts) → is_inner (t ++ number n ∷ []) (steps_of ks) ≡ false
inner_number [] n ks = short_number [] n ks
inner_number (s ∷ t) n ks = short_number (s ∷ t) n ks

-- dots lead to no number
pub crosses_number : (p t : Path) (n : ℕ) (ks : KeyTexts) → crosses p (steps_of ks) (t ++ number n ∷ []) ≡ false
crosses_number [] t n ks = inner_number t n ks
crosses_number (s ∷ p) [] n ks = go (step_eq s (number n)) p
  where
    go : (b : Bool) (p : Path) → (b && crosses p (steps_of ks) []) ≡ false
    go false p = refl
    go true [] = refl
    go true (u ∷ p) = refl
crosses_number (s ∷ p) (u ∷ t) n ks = and_off (step_eq s u) _ (crosses_number p t n ks)

pub cut_same : (q : Path) → is_cut q q ≡ true
cut_same [] = refl
cut_same (s ∷ q) = rw (step_same s) (cut_same q)
