-- The text of a table of data, by its parts in turn.
use Rattle.std.proofs.Common.{◌≡◌, ℕ, zero, suc, ◌+◌, ◌<◌, ◌==◌, Bool, true, false, ◌||◌, List, [], ◌∷◌, ◌++◌, length, drop, take}
use Rattle.std.proofs.Common.{get_or, refl, sym, ◌∙◌, ap, subst, arith, append_assoc, Result, Ok, Err}
use Rattle.std.proofs.Common.{length-append, append-nil}
use Rattle.std.specs.Prelude.{IfOk, is_ok, if◌then◌else◌, IsUtf8, ◌≤◌, cond, not, Vec}
use Rattle.std.specs.declared.alloc.Global.{Global}
use Rattle.std.specs.Str.{IsCharBoundary}
use Rattle.std.proofs.lemmas.Bool.{true≢false, or_parts, not-false}
use Rattle.std.proofs.lemmas.List.{take_at}
use Rattle.std.specs.Char.{encode_utf8}
use Rattle.std.proofs.lemmas.Str.{IsCharBoundary-from_take, encode_ascii}
use Rattle.basic_toml_value.proofs.Sizes.{data_size, members_size}
use Rattle.basic_toml_value.specs.Text.{text_bytes}
use Rattle.basic_toml_value.specs.Entries.{seen}
use Rattle.basic_toml_value.specs.Data.{Members, no_members, member, array, table}
use Rattle.basic_toml_value.specs.View.{view, entries, items_view}
use Rattle.basic_toml_value.specs.declared.pairs.Pair.{Pair}
use Rattle.basic_toml_value.specs.declared.value.Value.{Value}
use Rattle.basic_toml_value.specs.declared.value.Value.TheVariants.{Array, Table}
use Rattle.basic_toml_tokens.specs.Ascii as ascii
use Rattle.basic_toml_layout.specs.Layout.{element_header}
use Rattle.basic_toml_layout.specs.Document.{inline, inline_items, inline_members, are_tables, is_row, has_row}
use Rattle.basic_toml_layout.specs.Document.{is_header_due, Style, rows_text, sections_text, section_text}
use Rattle.basic_toml_layout.specs.Document.{element_text, table_text}
use Rattle.basic_toml_layout.specs.Parts.{Extends, has_section}
use Rattle.basic_toml_layout.proofs.ViewsOfValues.{view-Array, view-Table}

pub if_added : {A E : Type 0} {Q : Type 0} (r : Result A E) (text more less : List ℕ) → (text ≡ more → Q)
    → text ≡ (if is_ok r then more else less) → IfOk r (λ _. Q)
if_added (Ok x) text more less f p = f p
if_added (Err e) text more less f p = tt

pub if_ok : {A E : Type 0} {P Q : A → Type 0} (r : Result A E) → ((x : A) → P x → Q x) → IfOk r P → IfOk r Q
if_ok (Ok x) f p = f x p
if_ok (Err e) f p = p

drop_suc : {A : Type 0} (xs : List A) (i : ℕ) (x : A) → i < length xs → x ≡ get_or xs i x
    → drop i xs ≡ x ∷ drop (suc i) xs
drop_suc [] i x lt e = absurd (omega arith)
drop_suc (y ∷ xs) zero x lt e = ap (λ z. z ∷ xs) (sym e)
drop_suc (y ∷ xs) (suc i) x lt e = drop_suc xs i x (omega arith) e

pub drop_at : {A : Type 0} (xs : List A) (i : ℕ) (x : A) → i < length xs → x ≡ get_or xs i x
    → drop i xs ≡ x ∷ drop (i + 1) xs
drop_at xs i x lt e = let more : suc i ≡ i + 1 = omega arith in
    drop_suc xs i x lt e ∙ ap (λ n. x ∷ drop n xs) more

-- an entry that is a section was written, or none was; and what is left
entry_next : (r : Bool) (t part : List ℕ) (rest : Bool → List ℕ) (later : Bool)
    → (t ++ cond r [] part) ++ rest (cond r later true) ≡ t ++ cond r (rest later) (part ++ rest true)
entry_next true t part rest later = ap (λ z. z ++ rest later) (append-nil t)
entry_next false t part rest later = append_assoc t part (rest true)

pub entries_step : (style : Style) (pairs : List (Pair Value)) (i : ℕ) (pair : Pair Value) → i < length pairs
    → pair ≡ get_or pairs i pair → (keys : List (List ℕ)) (later after : Bool) (t t' whole : List ℕ)
    → t' ≡ t ++ cond (is_row (view pair.value)) [] (section_text style (text_bytes pair.key ∷ keys) later (view pair.value))
    → after ≡ cond (is_row (view pair.value)) later true
    → t ++ sections_text style keys later (entries (seen (drop i pairs))) ≡ whole
    → t' ++ sections_text style keys after (entries (seen (drop (i + 1) pairs))) ≡ whole
entries_step style pairs i pair lt read keys later after t t' whole is after_is left =
    let rest : Bool → List ℕ = λ b. sections_text style keys b (entries (seen (drop (i + 1) pairs))) in
    let part : List ℕ = section_text style (text_bytes pair.key ∷ keys) later (view pair.value) in
    (λ j. is j ++ rest (after_is j))
    ∙ (entry_next (is_row (view pair.value)) t part rest later
    ∙ (ap (λ ps. t ++ sections_text style keys later (entries (seen ps))) (sym (drop_at pairs i pair lt read)) ∙ left))

-- a table is larger than its entries
pub entries_smaller : (v : Value) (ps : List (List ℕ × Value)) (qs : List (Pair Value)) → v ≡ Table ps → seen qs ≡ ps
    → members_size (entries (seen qs)) < data_size (view v)
entries_smaller v ps qs is same =
    let larger : data_size (view v) ≡ suc (suc (members_size (entries ps))) =
    ap data_size (ap view is ∙ view-Table ps) in
    let size : members_size (entries (seen qs)) ≡ members_size (entries ps) =
    ap (λ z. members_size (entries z)) same in
    omega arith

pub extends_twice : (a b c x y : List ℕ) → b ≡ a ++ x → c ≡ b ++ y → Extends a c
extends_twice a b c x y p q = (x ++ y, q ∙ (ap (λ z. z ++ y) p ∙ append_assoc a x y))

-- a text that goes on from another can be cut where that one ends
pub cut_back : (front text : List ℕ) (len : ℕ) → len ≡ length front → IsUtf8 front → IsUtf8 text → Extends front text
    → IsCharBoundary text len
cut_back front text len is first whole more =
    let within : len ≤ length text = omega (arith, ap length more.1, length-append front more.0, is) in
    let front_is : take len text ≡ front = ap (λ z. take len z) more.1 ∙ take_at front more.0 len (sym is) in
    IsCharBoundary-from_take text len whole within (subst IsUtf8 (sym front_is) first)

-- an array and an inline table within a row
bracketed : (left right : ℕ) (part t t1 t2 t3 : List ℕ) → t1 ≡ t ++ (left ∷ []) → t2 ≡ t1 ++ part
    → t3 ≡ t2 ++ (right ∷ []) → t3 ≡ t ++ (left ∷ (part ++ (right ∷ [])))
bracketed left right part t t1 t2 t3 e f g =
    g ∙ ap (λ z. z ++ (right ∷ [])) (f ∙ ap (λ z. z ++ part) e ∙ append_assoc t (left ∷ []) part)
    ∙ append_assoc t (left ∷ part) (right ∷ [])

pub array_inline : (v : Value) (xs : Vec Value Global) (ys : List Value) → v ≡ Array xs → ys ≡ xs.items
    → (t t1 t2 t3 : List ℕ) → t1 ≡ t ++ encode_utf8 ascii.left_bracket → t2 ≡ t1 ++ inline_items (items_view ys)
    → t3 ≡ t2 ++ encode_utf8 ascii.right_bracket → t3 ≡ t ++ inline (view v)
array_inline v xs ys is same t t1 t2 t3 e f g =
    bracketed ascii.left_bracket ascii.right_bracket (inline_items (items_view ys)) t t1 t2 t3
    (e ∙ ap (λ z. t ++ z) (encode_ascii ascii.left_bracket (omega arith))) f
    (g ∙ ap (λ z. t2 ++ z) (encode_ascii ascii.right_bracket (omega arith)))
    ∙ ap (λ zs. t ++ inline (array (items_view zs))) same
    ∙ ap (λ z. t ++ inline z) (sym (ap view is ∙ view-Array xs))

pub table_inline : (v : Value) (ps : List (List ℕ × Value)) (qs : List (Pair Value)) → v ≡ Table ps → seen qs ≡ ps
    → (t t1 t2 t3 : List ℕ) → t1 ≡ t ++ encode_utf8 ascii.left_brace → t2 ≡ t1 ++ inline_members (entries (seen qs))
    → t3 ≡ t2 ++ encode_utf8 ascii.right_brace → t3 ≡ t ++ inline (view v)
table_inline v ps qs is same t t1 t2 t3 e f g =
    bracketed ascii.left_brace ascii.right_brace (inline_members (entries (seen qs))) t t1 t2 t3
    (e ∙ ap (λ z. t ++ z) (encode_ascii ascii.left_brace (omega arith))) f
    (g ∙ ap (λ z. t2 ++ z) (encode_ascii ascii.right_brace (omega arith)))
    ∙ ap (λ zs. t ++ inline (table (entries zs))) same
    ∙ ap (λ z. t ++ inline z) (sym (ap view is ∙ view-Table ps))

-- an array that has an element is a row where not all are tables
pub array_row : (v : Value) (xs : Vec Value Global) (ys : List Value) → v ≡ Array xs → ys ≡ xs.items
    → (length ys == 0) ≡ false → not (are_tables (items_view ys)) ≡ is_row (view v)
array_row v xs ys is same some =
    some_row ys some ∙ ap (λ zs. is_row (array (items_view zs))) same ∙ ap is_row (sym (ap view is ∙ view-Array xs))
  where
    some_row : (ys : List Value) → (length ys == 0) ≡ false
        → not (are_tables (items_view ys)) ≡ is_row (array (items_view ys))
    some_row [] some = absurd (true≢false some)
    some_row (y ∷ ys) some = refl

-- a table with an entry has its header where it has a row
pub some_due : (pairs : List (Pair Value)) → (length pairs == 0) ≡ false
    → has_row (entries (seen pairs)) ≡ is_header_due (entries (seen pairs))
some_due [] some = absurd (true≢false some)
some_due (p ∷ ps) some = refl

-- an element that is a table
pub element_is : (style : Style) (v : Value) (ps : List (List ℕ × Value)) (qs : List (Pair Value)) → v ≡ Table ps
    → seen qs ≡ ps → (keys : List (List ℕ)) (later spaced : Bool) (t t1 t2 : List ℕ) → spaced ≡ style.spaced
    → t1 ≡ t ++ element_header later keys → t2 ≡ t1 ++ table_text style keys spaced (entries (seen qs))
    → t2 ≡ t ++ element_text style keys later (view v)
element_is style v ps qs is same keys later spaced t t1 t2 s e f =
    f ∙ (λ i. e i ++ table_text style keys (s i) (entries (seen qs)))
    ∙ append_assoc t (element_header later keys) (table_text style keys style.spaced (entries (seen qs)))
    ∙ ap (λ z. t ++ element_text style keys later (table (entries z))) same
    ∙ ap (λ z. t ++ element_text style keys later z) (sym (ap view is ∙ view-Table ps))

-- a table without sections
no_section_text : (style : Style) (ms : Members) (keys : List (List ℕ)) (later : Bool) → has_section ms ≡ false
    → sections_text style keys later ms ≡ []
no_section_text style no_members keys later e = refl
no_section_text style (member k x ms) keys later e =
    let p = or_parts (not (is_row x)) (has_section ms) e in
    rw (not-false (is_row x) p.0) (no_section_text style ms keys later p.1)

pub rows_alone : (style : Style) (ms : Members) (keys : List (List ℕ)) (later has : Bool) (t t1 : List ℕ)
    → has ≡ has_section ms → has ≡ false → t1 ≡ t ++ rows_text style ms → t1 ≡ t ++ table_text style keys later ms
rows_alone style ms keys later has t t1 is none e =
    e ∙ ap (λ z. t ++ z) (sym (append-nil (rows_text style ms))
    ∙ ap (λ z. rows_text style ms ++ z) (sym (no_section_text style ms keys (later || has_row ms) (sym is ∙ none))))
