-- At the keys of a row no row of an earlier section stands, where the header of the row's section was gone by and its
-- dots go through no table with a name.
use Rattle.std.proofs.Common.{◌≡◌, ℕ, zero, suc, ◌<◌, Bool, true, false, List, [], ◌∷◌, ◌++◌, Option, Some, None}
use Rattle.std.proofs.Common.{refl, ap, sym, ◌∙◌, subst, inl, inr, arith, length, take}
use Rattle.std.specs.Prelude.{◌⊎◌, ◌-◌, ◌&&◌, not}
use Rattle.std.proofs.lemmas.Bool.{false≢true, and_from}
use Rattle.basic_toml_value.specs.Data.{Data}
use Rattle.basic_toml_grammar.specs.Sections.{Key, KeyTexts, texts, Rows, Section}
use Rattle.basic_toml_grammar.specs.Steps.{Step, key, Path, steps_of}
use Rattle.basic_toml_grammar.specs.Placed.{Placed, step_into, path_of}
use Rattle.basic_toml_grammar.specs.Marks.{MarkKind, named, dotted, collide, Mark, mark}
use Rattle.basic_toml_grammar.specs.Marks.{hits, refuses}
use Rattle.basic_toml_grammar.specs.Standing.{fits, standing_at}
use Rattle.basic_toml_grammar.specs.Entering.{rows_keyed, header_keyed, is_keyed}
use Rattle.basic_toml_grammar.proofs.AmongElements.{Among}
use Rattle.basic_toml_grammar.proofs.Clash.StepTestsDecide.{paths_same}
use Rattle.basic_toml_grammar.proofs.Clash.WhatSectionsSay.{KeysSay, dots_here, deeper, RowsSay, this_row}
use Rattle.basic_toml_grammar.proofs.Clash.WhatSectionsSay.{later_row, Says, names, rows_say, into, on}
use Rattle.basic_toml_grammar.proofs.Clash.MarksAreWhatIsSaid.{here_any, marked}
use Rattle.basic_toml_grammar.proofs.Clash.MarksFit.{Tells}
use Rattle.basic_toml_grammar.proofs.Clash.PathsAgree.{append_none}
use Rattle.basic_toml_grammar.proofs.Clash.SectionsLeaveMarks.{Made, Past}
use Rattle.basic_toml_grammar.proofs.Naming.WhereHeadersStop.{is_header}
use Rattle.basic_toml_grammar.proofs.Clash.MarksTellPlaces.{RowOf, this_one, a_later, RowPart}
use Rattle.basic_toml_grammar.proofs.Clash.MarksTellPlaces.{row_part}
use Rattle.basic_toml_grammar.proofs.Naming.HeaderStopsAreNamed.{there}
use Rattle.basic_toml_grammar.proofs.Naming.HeaderStopsAreNamed.{says_of}
use Rattle.basic_toml_grammar.proofs.Naming.WhereRowsStop.{steps_to_key}

-- what stands where a mark fits goes with it
against : (q : Path) (st : List Mark) (c k : MarkKind) → Tells st → fits k (standing_at st q) ≡ true
    → Among (mark q c) st → collide c k ≡ true → ⊥
against q st c k t f a h =
    let r : refuses st (mark q k) ≡ true =
    here_any (λ x. hits x (mark q k)) a (and_from _ _ (paths_same q) h) in
    false≢true (ap not (sym r) ∙ sym (t q k) ∙ f)

-- a section says its name, and its rows
says_name : (e : Option ℕ) (rs : Rows) (t : Path) → Says e rs t (t ++ step_into e) named
says_name None rs [] = names
says_name (Some n) rs [] = into names
says_name e rs (s ∷ t) = on (says_name e rs t)

says_row : (e : Option ℕ) (rs : Rows) (t : Path) {r : Path} {k : MarkKind} → RowsSay rs r k
    → Says e rs t ((t ++ step_into e) ++ r) k
says_row None rs [] y = rows_say y
says_row (Some n) rs [] y = into (rows_say y)
says_row e rs (s ∷ t) y = on (says_row e rs t y)

row_says : {rs : Rows} {keys : List Key} {v : Data} {r : Path} {k : MarkKind} → RowOf rs keys v
    → KeysSay v (texts keys) r k → RowsSay rs r k
row_says this_one y = this_row y
row_says (a_later h) y = later_row (row_says h y)

-- a row with keys
abbrev pub is_empty : {A : Type 0} → List A → Bool
is_empty [] = true
is_empty (x ∷ xs) = false

pub row_keyed : {rs : Rows} {keys : List Key} {v : Data} → RowOf rs keys v → rows_keyed rs ≡ true
    → is_empty keys ≡ false
row_keyed (this_one {keys = []}) e = absurd (false≢true e)
row_keyed (this_one {keys = k ∷ keys}) e = refl
row_keyed (a_later {ls = []} h) e = absurd (false≢true e)
row_keyed (a_later {ls = k ∷ ls} h) e = row_keyed h e

pub some_length : (keys : List Key) → is_empty keys ≡ false → length keys ≡ suc (length keys - 1)
some_length [] e = absurd (false≢true (sym e))
some_length (k ∷ keys) e = omega arith

says_nonempty : {v : Data} (keys : List Key) {k : MarkKind} {r : Path} → is_empty keys ≡ false
    → KeysSay v (texts keys) r k → is_empty r ≡ false
says_nonempty [] e y = absurd (false≢true (sym e))
says_nonempty (l ∷ []) e (deeper y) = refl
says_nonempty (l ∷ m ∷ keys) e dots_here = refl
says_nonempty (l ∷ m ∷ keys) e (deeper y) = refl

-- a row's dots lead to its marks
dots_before : {v : Data} {ks : KeyTexts} {k : MarkKind} (s : Step) (t q : Path) (u : Step)
    → KeysSay v ks (s ∷ (t ++ u ∷ q)) k → KeysSay v ks (s ∷ t) dotted
dots_before s [] q u (deeper (deeper y)) = dots_here
dots_before s [] q u (deeper dots_here) = dots_here
dots_before s (r ∷ t) q u (deeper y) = deeper (dots_before r t q u y)

-- two ways to split a path
record Shorter (p q p' r : Path) : Type 0 where
  more : Path
  is : p ≡ p' ++ more
  rest : r ≡ more ++ q

record Longer (p q p' r : Path) : Type 0 where
  step : Step
  more : Path
  is : p' ≡ p ++ step ∷ more
  rest : q ≡ step ∷ (more ++ r)

abbrev rest_of : Path → Path
rest_of [] = []
rest_of (s ∷ p) = p

abbrev first_of : Step → Path → Step
first_of u [] = u
first_of u (s ∷ p) = s

compare : (p q p' r : Path) → p ++ q ≡ p' ++ r → Shorter p q p' r ⊎ Longer p q p' r
compare [] q [] r e = inl (record { more = []; is = refl; rest = sym e })
compare [] q (s ∷ p') r e = inr (record { step = s; more = p'; is = refl; rest = e })
compare (u ∷ p) q [] r e = inl (record { more = u ∷ p; is = refl; rest = sym e })
compare (u ∷ p) q (s ∷ p') r e = go (compare p q p' r (ap rest_of e)) (ap (first_of u) e)
  where
    go : Shorter p q p' r ⊎ Longer p q p' r → u ≡ s → Shorter (u ∷ p) q (s ∷ p') r ⊎ Longer (u ∷ p) q (s ∷ p') r
    go (inl h) i = inl (record {
      more = h.more;
      is = ap (λ p. u ∷ p) h.is ∙ ap (λ u. u ∷ (p' ++ h.more)) i;
      rest = h.rest;
    })
    go (inr h) i = inr (record {
      step = h.step;
      more = h.more;
      is = ap (λ p. s ∷ p) h.is ∙ ap (λ u. u ∷ (p ++ h.step ∷ h.more)) (sym i);
      rest = h.rest;
    })

-- a beginning of the steps to a key leads to a key before it
record KeyBefore (m : ℕ) (keys : List Key) (q : Path) : Type 0 where
  at : ℕ
  before : at < m
  is : q ≡ steps_to_key at keys

key_before : (m : ℕ) (keys : List Key) (s : Step) (t : Path) (u : Step) (r : Path)
    → steps_to_key m keys ≡ s ∷ (t ++ u ∷ r) → KeyBefore m keys (s ∷ t)
key_before m [] s t u r e = cc
key_before zero (k ∷ keys) s [] u r e = cc
key_before zero (k ∷ keys) s (v ∷ t) u r e = cc
key_before (suc m) (k ∷ keys) s [] u r e = record {
  at = 0;
  before = omega arith;
  is = ap (λ s. s ∷ []) (sym (ap (first_of s) e));
}
key_before (suc m) (k ∷ keys) s (v ∷ t) u r e =
    more (key_before m keys v t u r (ap rest_of e)) (ap (first_of s) e)
  where
    more : KeyBefore m keys (v ∷ t) → key k.text ≡ s → KeyBefore (suc m) (k ∷ keys) (s ∷ v ∷ t)
    more h i = record {
      at = suc h.at;
      before = (let b : h.at < m = h.before in omega arith);
      is = ap (λ s. s ∷ v ∷ t) (sym i) ∙ ap (λ q. key k.text ∷ q) h.is;
    }

-- no row of an earlier section stands at a key of the row
pub keyed_rows : (s : Section) → is_keyed s ≡ true → rows_keyed s.rows ≡ true
keyed_rows s e = go (rows_keyed s.rows) (header_keyed s.is_array (texts s.header)) e
  where
    go : (a c : Bool) → (a && c) ≡ true → a ≡ true
    go true c e = refl
    go false c e = e

pub no_row : (b : List Section) (s : Section) (st : List Mark) (keys : List Key) (m : ℕ) (c : MarkKind) → Past b st
    → fits named (standing_at st (path_of (there b s))) ≡ true → is_empty keys ≡ false → is_header c ≡ false
    → ((l : ℕ) → l < m → Among (mark (path_of (there b s) ++ steps_to_key l keys) named) st → ⊥)
    → Made b (mark (path_of (there b s) ++ steps_to_key m keys) c) → ⊥
no_row b s st [] m c h f n i u made = false≢true (sym n)
no_row b s st (k ∷ keys) m c h f n i u made = go (compare p q (path_of l) r.path r.is)
  where
    p : Path
    p = path_of (there b s)

    q : Path
    q = steps_to_key m (k ∷ keys)

    l : Placed
    l = there made.earlier made.section

    r : RowPart l.element l.rows l.target (p ++ q) c
    r = row_part (says_of made) i

    filled : is_empty r.path ≡ false
    filled = says_nonempty r.mark.keys (row_keyed r.mark.row (keyed_rows made.section made.keyed)) r.mark.says

    its_name : Among (mark (path_of l) named) st
    its_name = h.kept made.stood (marked l.element l.rows l.target (says_name l.element l.rows l.target))

    its_dots : (t : Step) (more : Path) → KeysSay r.mark.value (texts r.mark.keys) (t ∷ more) dotted
        → Among (mark (path_of l ++ t ∷ more) dotted) st
    its_dots t more y = h.kept made.stood (marked l.element l.rows l.target
        (says_row l.element l.rows l.target (row_says r.mark.row y)))

    short : (more : Path) → p ≡ path_of l ++ more → r.path ≡ more ++ q → ⊥
    short [] e g = against p st named named h.tells f
        (subst (λ p. Among (mark p named) st) (sym (e ∙ append_none (path_of l))) its_name) refl
    short (t ∷ more) e g = against p st dotted named h.tells f
        (subst (λ p. Among (mark p dotted) st) (sym e)
        (its_dots t more (dots_before t more (steps_of (texts (take m keys))) (key k.text)
        (subst (λ r'. KeysSay r.mark.value (texts r.mark.keys) r' c) g r.mark.says)))) refl

    long : (t : Step) (more : Path) (rest : Path) → path_of l ≡ p ++ t ∷ more → q ≡ t ∷ (more ++ rest)
        → is_empty rest ≡ false → ⊥
    long t more [] e g n = false≢true (sym n)
    long t more (v ∷ rest) e g n =
        let x : KeyBefore m (k ∷ keys) (t ∷ more) = key_before m (k ∷ keys) t more v rest g in
        u x.at x.before (subst (λ p. Among (mark p named) st) (e ∙ ap (λ t. p ++ t) x.is) its_name)

    go : Shorter p q (path_of l) r.path ⊎ Longer p q (path_of l) r.path → ⊥
    go (inl x) = short x.more x.is x.rest
    go (inr x) = long x.step x.more r.path x.is x.rest filled
