-- The value of a row for people, by its parts in turn.
use Rattle.std.proofs.Common.{◌≡◌, ℕ, zero, suc, ◌+◌, ◌-◌, ◌<◌, ◌≤◌, ◌==◌, Bool, true, false, List, [], ◌∷◌, ◌++◌, length}
use Rattle.std.proofs.Common.{◌&&◌, take, drop, get_or, refl, sym, ◌∙◌, ap, arith, append_assoc, append-nil}
use Rattle.std.specs.Prelude.{cond, not, Vec, codes}
use Rattle.std.specs.Str.{IsUtf8, IsCharBoundary}
use Rattle.std.specs.declared.alloc.Global.{Global}
use Rattle.std.proofs.Math.ListN.{drop_of_length-le}
use Rattle.std.proofs.lemmas.Bool.{le-leb, lt-leb, true≢false, and_parts, not-true, cond-true, cond-false}
use Rattle.std.proofs.lemmas.List.{drop-drop, drop-append-le, take_at, get_or-drop, length-drop, take_all}
use Rattle.basic_toml_tokens.specs.Ascii as ascii
use Rattle.basic_toml_value.specs.Data.{array, Items, no_items, item}
use Rattle.basic_toml_value.specs.View.{view, items_view}
use Rattle.basic_toml_value.specs.declared.value.Value.{Value}
use Rattle.basic_toml_value.specs.declared.value.Value.TheVariants.{Array}
use Rattle.basic_toml_layout.specs.Texts.{needs_escape, quoted_byte}
use Rattle.basic_toml_layout.specs.Document.{inline}
use Rattle.basic_toml_layout.specs.Pretty.{stands_in_lines, line_byte, line_bytes, is_first_byte, columns, fits_line}
use Rattle.basic_toml_layout.specs.Pretty.{element_lines, array_lines, pretty_value}
use Rattle.basic_toml_layout.specs.Parts.{needs_line_escape}
use Rattle.basic_toml_layout.proofs.QuotedUpToEscape.{quoted_byte_plain, boundary_after}
use Rattle.basic_toml_layout.proofs.DataIsLaidOut.{drop_at}
use Rattle.basic_toml_layout.proofs.ViewsOfValues.{view-Array}

-- a byte of a list, whatever is read past its end
at_default : (bs : List ℕ) (i d : ℕ) → i < length bs → get_or bs i 0 ≡ get_or bs i d
at_default [] i d lt = absurd (omega arith)
at_default (b ∷ bs) zero d lt = refl
at_default (b ∷ bs) (suc i) d lt = at_default bs i d (omega arith)

-- a string of several lines: a byte that stands for itself, and one that does not
itself : (b : ℕ) (bs : List ℕ) → needs_line_escape (b ∷ bs) ≡ false → line_byte b bs ≡ b ∷ []
itself b bs e = go (stands_in_lines b bs) (needs_escape b) refl e
  where
    go : (s n : Bool) → needs_escape b ≡ n → (n && not s) ≡ false → cond s (b ∷ []) (quoted_byte b) ≡ b ∷ []
    go true n is e = refl
    go false true is e = absurd (true≢false e)
    go false false is e = quoted_byte_plain b is

escaped : (b : ℕ) (bs : List ℕ) → needs_line_escape (b ∷ bs) ≡ true → line_byte b bs ≡ quoted_byte b
escaped b bs e =
    cond-false (stands_in_lines b bs) (b ∷ []) (quoted_byte b) (not-true _ (and_parts (needs_escape b) _ e).1)

-- bytes that stand for themselves, up to one that does not, and up to the end
line_run : (bs : List ℕ) (m : ℕ) → m < length bs → ((k : ℕ) → k < m → needs_line_escape (drop k bs) ≡ false)
    → needs_line_escape (drop m bs) ≡ true
    → line_bytes bs ≡ take m bs ++ (quoted_byte (get_or bs m 0) ++ line_bytes (drop (suc m) bs))
line_run [] m lt p e = absurd (omega arith)
line_run (b ∷ bs) zero lt p e = ap (λ z. z ++ line_bytes bs) (escaped b bs e)
line_run (b ∷ bs) (suc m) lt p e =
    (λ i. itself b bs (p 0 (omega arith)) i
    ++ line_run bs m (omega arith) (λ k below. p (suc k) (omega arith)) e i)

line_rest : (bs : List ℕ) → ((k : ℕ) → k < length bs → needs_line_escape (drop k bs) ≡ false) → line_bytes bs ≡ bs
line_rest [] p = refl
line_rest (b ∷ bs) p =
    (λ i. itself b bs (p 0 (omega arith)) i ++ line_rest bs (λ k below. p (suc k) (omega arith)) i)

-- after a byte that does not stand for itself
pub line_boundary : (bs : List ℕ) (i : ℕ) → IsUtf8 bs → i < length bs → needs_line_escape (drop i bs) ≡ true
    → IsCharBoundary bs (i + 1)
line_boundary bs i u lt e =
    let byte : needs_escape (get_or bs i 0) ≡ true =
    (and_parts _ _ (sym (ap needs_line_escape (drop_at bs i (get_or bs i 0) lt (at_default bs i (get_or bs i 0) lt)))
    ∙ e)).0 in
    boundary_after bs bs i refl u lt byte

-- they are written, after what was written
pub line_more : (t t1 t2 run bs : List ℕ) (n i : ℕ) (whole : List ℕ) → n ≤ i → i < length bs
    → ((k : ℕ) → n ≤ k → k < i → needs_line_escape (drop k bs) ≡ false) → needs_line_escape (drop i bs) ≡ true
    → t ++ line_bytes (drop n bs) ≡ whole → run ≡ take (i - n) (drop n bs) → t1 ≡ t ++ run
    → t2 ≡ t1 ++ quoted_byte (get_or bs i 0) → t2 ++ line_bytes (drop (i + 1) bs) ≡ whole
line_more t t1 t2 run bs n i whole le lt p e left r u v =
    let to : drop (i - n) (drop n bs) ≡ drop i bs =
    drop-drop (i - n) n bs ∙ ap (λ k. drop k bs) {x = n + (i - n)} {y = i} (omega arith) in
    let past : drop (suc (i - n)) (drop n bs) ≡ drop (i + 1) bs =
    drop-drop (suc (i - n)) n bs ∙ ap (λ k. drop k bs) {x = n + suc (i - n)} {y = i + 1} (omega arith) in
    let byte : get_or (drop n bs) (i - n) 0 ≡ get_or bs i 0 =
    get_or-drop n bs (i - n) 0 ∙ ap (λ k. get_or bs k 0) {x = n + (i - n)} {y = i} (omega arith) in
    let all : line_bytes (drop n bs)
    ≡ take (i - n) (drop n bs) ++ (quoted_byte (get_or (drop n bs) (i - n) 0) ++ line_bytes (drop (suc (i - n)) (drop n bs)))
    = line_run (drop n bs) (i - n) (omega (arith, length-drop n bs))
    (λ k below. ap needs_line_escape (drop-drop k n bs) ∙ p (n + k) (omega arith) (omega arith))
    (ap needs_line_escape to ∙ e) in
    let part : line_bytes (drop n bs) ≡ run ++ (quoted_byte (get_or bs i 0) ++ line_bytes (drop (i + 1) bs)) =
    all ∙ (λ j. sym r j ++ (quoted_byte (byte j) ++ line_bytes (past j))) in
    rw (v, u) (simp append_assoc) ∙ ap (λ z. t ++ z) (sym part) ∙ left

pub line_end : (t t1 run bs : List ℕ) (n i : ℕ) (whole : List ℕ) → length bs ≤ i
    → ((k : ℕ) → n ≤ k → k < i → needs_line_escape (drop k bs) ≡ false)
    → t ++ line_bytes (drop n bs) ≡ whole → run ≡ drop n bs → t1 ≡ t ++ run → t1 ≡ whole
line_end t t1 run bs n i whole le p left r u =
    let all : line_bytes (drop n bs) ≡ drop n bs =
    line_rest (drop n bs) (λ k below. ap needs_line_escape (drop-drop k n bs)
    ∙ p (n + k) (omega arith) (omega (arith, length-drop n bs))) in
    u ∙ ap (λ z. t ++ z) (r ∙ sym all) ∙ left

-- columns, a byte after another
pub columns_at : (bs : List ℕ) (i : ℕ) → i < length bs
    → columns (drop i bs) ≡ cond (is_first_byte (get_or bs i 0)) (suc (columns (drop (i + 1) bs)))
    (columns (drop (i + 1) bs))
columns_at bs i lt = ap columns (drop_at bs i (get_or bs i 0) lt (at_default bs i (get_or bs i 0) lt))

pub column_next : (bs : List ℕ) (i n n' : ℕ) → i < length bs → is_first_byte (get_or bs i 0) ≡ true → n' ≡ n + 1
    → n + columns (drop i bs) ≡ columns bs → n' + columns (drop (i + 1) bs) ≡ columns bs
column_next bs i n n' lt e more all = omega (arith, more, all, columns_at bs i lt ∙ cond-true _ _ _ e)

pub no_column : (bs : List ℕ) (i n n' : ℕ) → i < length bs → is_first_byte (get_or bs i 0) ≡ false → n' ≡ n
    → n + columns (drop i bs) ≡ columns bs → n' + columns (drop (i + 1) bs) ≡ columns bs
no_column bs i n n' lt e same all = omega (arith, same, all, columns_at bs i lt ∙ cond-false _ _ _ e)

-- a line that is too long, and one that is not
pub no_room : (bs : List ℕ) (i n : ℕ) → i < length bs → is_first_byte (get_or bs i 0) ≡ true → n ≡ 80
    → n + columns (drop i bs) ≡ columns bs → false ≡ fits_line bs
no_room bs i n lt e full all =
    let long : 80 < columns bs = omega (arith, full, all, columns_at bs i lt ∙ cond-true _ _ _ e) in
    sym (lt-leb (columns bs) 80 long)

pub in_room : (bs : List ℕ) (i n : ℕ) → length bs ≤ i → n ≤ 80 → n + columns (drop i bs) ≡ columns bs
    → true ≡ fits_line bs
in_room bs i n le within all =
    let none : columns (drop i bs) ≡ 0 = ap columns (drop_of_length-le bs le) in
    sym (le-leb (columns bs) 80 (omega (arith, none, all, within)))

-- an array that does not fit
abbrev is_no_items : Items → Bool
is_no_items no_items = true
is_no_items (item x xs) = false

wide_value : (xs : Items) (front : List ℕ) → is_no_items xs ≡ false
    → fits_line (front ++ inline (array xs)) ≡ false → pretty_value front (array xs) ≡ array_lines xs
wide_value no_items front some wide = absurd (true≢false some)
wide_value (item x xs) front some wide = cond-false _ _ _ wide

pub array_wide : (v : Value) (xs : Vec Value Global) (ys : List Value) → v ≡ Array xs → ys ≡ xs.items
    → (length ys == 0) ≡ false → (line : ℕ) (t t1 t2 t3 : List ℕ) → line ≤ length t → t1 ≡ t ++ inline (view v)
    → fits_line (drop line t1) ≡ false → t2 ≡ take (length t) t1 → t3 ≡ t2 ++ array_lines (items_view ys)
    → t3 ≡ t ++ pretty_value (drop line t) (view v)
array_wide v xs ys is same some line t t1 t2 t3 within e wide cut f =
    let whole : view v ≡ array (items_view xs.items) = ap view is ∙ view-Array xs in
    let front : drop line t1 ≡ drop line t ++ inline (view v) =
    ap (drop line) e ∙ drop-append-le line t (inline (view v)) within in
    let back : t2 ≡ t = cut ∙ ap (take (length t)) e ∙ take_at t (inline (view v)) (length t) refl in
    f ∙ (λ i. back i ++ array_lines (items_view (same i)))
    ∙ ap (λ z. t ++ z) (sym (wide_value (items_view xs.items) (drop line t) (ap (λ zs. is_no_items (items_view zs)) (sym same) ∙ some_items ys some)
    (ap (λ d. fits_line (drop line t ++ inline d)) (sym whole) ∙ ap fits_line (sym front) ∙ wide)))
    ∙ ap (λ d. t ++ pretty_value (drop line t) d) (sym whole)
  where
    some_items : (ys : List Value) → (length ys == 0) ≡ false → is_no_items (items_view ys) ≡ false
    some_items [] e = absurd (true≢false e)
    some_items (y ∷ ys) e = refl

-- the lines of an array, within its brackets
pub lines_end : (xs : List Value) (i : ℕ) → length xs ≤ i → (t t1 t2 t3 : List ℕ) → t1 ≡ t ++ codes "[\n"
    → t2 ++ element_lines (items_view (drop i xs)) ≡ t1 ++ element_lines (items_view xs)
    → t3 ≡ t2 ++ (ascii.right_bracket ∷ []) → t3 ≡ t ++ array_lines (items_view xs)
lines_end xs i le t t1 t2 t3 e left f =
    let none : drop i xs ≡ [] = drop_of_length-le xs le in
    let all : t2 ≡ t1 ++ element_lines (items_view xs) =
    sym (append-nil t2) ∙ ap (λ ys. t2 ++ element_lines (items_view ys)) (sym none) ∙ left in
    rw (f, all, e) (simp append_assoc)

-- a slice from an offset on
pub slice_from : (bs : List ℕ) (n : ℕ) → take (length bs - n) (drop n bs) ≡ drop n bs
slice_from bs n = take_all (length bs - n) (drop n bs) (omega (arith, length-drop n bs))
