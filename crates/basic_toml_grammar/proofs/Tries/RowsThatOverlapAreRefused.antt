-- Rows that are put one after another into a trie do not overlap, whatever stood there before.
use Rattle.std.proofs.Common.{◌≡◌, Bool, true, false, cond, List, [], ◌∷◌, refl, ap, sym, ◌∙◌, subst, Option, Some}
use Rattle.std.proofs.Common.{None, ℕ}
use Rattle.std.specs.Prelude.{◌&&◌, ◌||◌, is_some}
use Rattle.std.specs.Option.{option_map, option_or}
use Rattle.std.proofs.lemmas.Bool.{false≢true, or_parts, or_from}
use Rattle.basic_toml_value.specs.Data.{Data}
use Rattle.basic_toml_grammar.specs.Sections.{KeyTexts, texts, Rows, no_rows, row}
use Rattle.basic_toml_grammar.specs.Steps.{Step, key, Path, step_eq, begins, overlap, steps_of}
use Rattle.basic_toml_grammar.specs.RowClash.{any_overlaps, rows_clash, value_clashes}
use Rattle.basic_toml_grammar.specs.Mentions.{finished}
use Rattle.basic_toml_grammar.specs.Marks.{MarkKind, passed, by_latest, named, added, dotted, valued}
use Rattle.basic_toml_grammar.specs.Standing.{Standing, value, fits, taken, value_of}
use Rattle.basic_toml_grammar.specs.Entering.{and_then, rows_keyed}
use Rattle.basic_toml_grammar.specs.Trie.{Trie, trie, Tries, no_tries, by, nothing, standing, mark_here, among}
use Rattle.basic_toml_grammar.specs.Trie.{at_step, find, below, put_row, put_rows}
use Rattle.basic_toml_grammar.proofs.Clash.StepTestsDecide.{step_same, step_is}

-- the rows of some inline table in a value clash
abbrev pub values_clash : Rows → Bool
values_clash no_rows = false
values_clash (row keys at v rows) = value_clashes v || values_clash rows

-- what stands at a path
abbrev pub stands_at : Trie → Path → Option Standing
stands_at t [] = standing t
stands_at t (s ∷ p) = stands_at (below s t) p

-- what an answer that is given was made of
pub then_given : {A B : Type 0} (o : Option A) (f : A → Option B) {y : B} → and_then o f ≡ Some y
    → (x : A) × (o ≡ Some x) × (f x ≡ Some y)
then_given None f e = cc
then_given (Some x) f e = (x, refl, e)

pub map_given : {A B : Type 0} (f : A → B) (o : Option A) {y : B} → option_map f o ≡ Some y
    → (x : A) × (o ≡ Some x) × (f x ≡ y)
map_given f None e = cc
map_given f (Some x) e = (x, refl, cc)

pub if_given : {A : Type 0} (b : Bool) {x y : A} → cond b (Some x) None ≡ Some y → (b ≡ true) × (x ≡ y)
if_given true e = (refl, cc)
if_given false e = cc

-- a change at a step is a change of what is there alone
among_found : (s : Step) (f : Trie → Option Trie) (ts us : Tries) → among s f ts ≡ Some us
    → f (find s ts) ≡ Some (find s us)
among_found s f no_tries us e =
    let (t, given, is) = map_given (λ t. by s t no_tries) (f nothing) e in
    given ∙ ap Some (sym (ap (λ b. cond b t nothing) (step_same s)) ∙ ap (λ us. find s us) is)
among_found s f (by r t ts) us e = go (λ us h. among_found s f ts us h) (step_eq r s) refl e
  where
    go : ((us : Tries) → among s f ts ≡ Some us → f (find s ts) ≡ Some (find s us)) → (b : Bool) → step_eq r s ≡ b
        → cond b (option_map (λ t. by r t ts) (f t)) (option_map (λ ts. by r t ts) (among s f ts)) ≡ Some us
        → f (cond b t (find s ts)) ≡ Some (find s us)
    go ih true h e =
        let (u, given, is) = map_given (λ t. by r t ts) (f t) e in
        given ∙ ap Some (sym (ap (λ b. cond b u (find s ts)) h) ∙ ap (λ us. find s us) is)
    go ih false h e =
        let (vs, given, is) = map_given (λ ts. by r t ts) (among s f ts) e in
        ih vs given ∙ ap Some (sym (ap (λ b. cond b t (find s vs)) h) ∙ ap (λ us. find s us) is)

among_others : (s r : Step) (f : Trie → Option Trie) (ts us : Tries) → step_eq s r ≡ false → among s f ts ≡ Some us
    → find r us ≡ find r ts
among_others s r f no_tries us other e =
    let (t, given, is) = map_given (λ t. by s t no_tries) (f nothing) e in
    sym (ap (λ us. find r us) is) ∙ ap (λ b. cond b t nothing) other
among_others s r f (by q t ts) us other e = go (λ us h. among_others s r f ts us other h) (step_eq q s) refl e
  where
    go : ((us : Tries) → among s f ts ≡ Some us → find r us ≡ find r ts) → (b : Bool) → step_eq q s ≡ b
        → cond b (option_map (λ t. by q t ts) (f t)) (option_map (λ ts. by q t ts) (among s f ts)) ≡ Some us
        → find r us ≡ cond (step_eq q r) t (find r ts)
    go ih true h e =
        let (u, given, is) = map_given (λ t. by q t ts) (f t) e in
        let apart : step_eq q r ≡ false = ap (λ x. step_eq x r) (step_is q s h) ∙ other in
        sym (ap (λ us. find r us) is) ∙ ap (λ b. cond b u (find r ts)) apart
        ∙ sym (ap (λ b. cond b t (find r ts)) apart)
    go ih false h e =
        let (vs, given, is) = map_given (λ ts. by q t ts) (among s f ts) e in
        sym (ap (λ us. find r us) is)
        ∙ ap (λ x. cond (step_eq q r) t x) (ih vs given)

pub step_found : (s : Step) (f : Trie → Option Trie) (t u : Trie) → at_step s f t ≡ Some u
    → f (below s t) ≡ Some (below s u)
step_found s f (trie st v ts) u e =
    let (us, given, is) = map_given (λ ts. trie st v ts) (among s f ts) e in
    among_found s f ts us given ∙ ap (λ u. Some (below s u)) is

pub step_others : (s r : Step) (f : Trie → Option Trie) (t u : Trie) → step_eq s r ≡ false → at_step s f t ≡ Some u
    → below r u ≡ below r t
step_others s r f (trie st v ts) u other e =
    let (us, given, is) = map_given (λ ts. trie st v ts) (among s f ts) e in
    sym (ap (λ u. below r u) is) ∙ among_others s r f ts us other given

pub step_stands : (s : Step) (f : Trie → Option Trie) (t u : Trie) → at_step s f t ≡ Some u → standing u ≡ standing t
step_stands s f (trie st v ts) u e =
    let (us, given, is) = map_given (λ ts. trie st v ts) (among s f ts) e in
    sym (ap standing is)

-- where a value stands it goes on standing, and where something does something does
abbrev pub Keeps : Option Standing → Option Standing → Type 0
Keeps s r = (s ≡ Some value → r ≡ Some value) × (is_some s ≡ true → is_some r ≡ true)

abbrev pub Kept : Trie → Trie → Type 0
Kept t u = (p : Path) → Keeps (stands_at t p) (stands_at u p)

same_keeps : (s r : Option Standing) → r ≡ s → Keeps s r
same_keeps s r e = ((λ h. e ∙ h), (λ h. ap is_some e ∙ h))

value_fits_none : (k : MarkKind) → fits k (Some value) ≡ false
value_fits_none passed = refl
value_fits_none by_latest = refl
value_fits_none named = refl
value_fits_none added = refl
value_fits_none dotted = refl
value_fits_none (valued v) = refl

pub mark_keeps : (k : MarkKind) (t u : Trie) → mark_here k t ≡ Some u → Kept t u
mark_keeps k (trie st v ts) u e p =
    let (fit, is) = if_given (fits k st) e in
    subst (λ u. Keeps (stands_at (trie st v ts) p) (stands_at u p)) is (go fit p)
  where
    go : fits k st ≡ true → (p : Path)
        → Keeps (stands_at (trie st v ts) p)
        (stands_at (trie (Some (taken k st)) (option_or v (value_of k)) ts) p)
    go fit [] = ((λ h. absurd (false≢true (sym (value_fits_none k) ∙ ap (λ s. fits k s) (sym h) ∙ fit))), (λ h. refl))
    go fit (s ∷ p) = same_keeps _ _ refl

pub step_keeps : (s : Step) (f : Trie → Option Trie) (t u : Trie) → at_step s f t ≡ Some u
    → ((x : Trie) → f (below s t) ≡ Some x → Kept (below s t) x) → Kept t u
step_keeps s f t u e h [] = same_keeps _ _ (step_stands s f t u e)
step_keeps s f t u e h (r ∷ p) = go (step_eq s r) refl
  where
    go : (b : Bool) → step_eq s r ≡ b → Keeps (stands_at (below r t) p) (stands_at (below r u) p)
    go true g =
        subst (λ r. Keeps (stands_at (below r t) p) (stands_at (below r u) p)) (step_is s r g)
        (h (below s u) (step_found s f t u e) p)
    go false g = same_keeps _ _ (ap (λ t. stands_at t p) (step_others s r f t u g e))

kept_on : (t u x : Trie) → Kept t u → Kept u x → Kept t x
kept_on t u x a b p = ((λ h. (b p).0 ((a p).0 h)), (λ h. (b p).1 ((a p).1 h)))

pub row_keeps : (ks : KeyTexts) (v : Data) (t u : Trie) → put_row ks v t ≡ Some u → Kept t u
row_keeps [] v t u e = mark_keeps (valued v) t u e
row_keeps (k ∷ []) v t u e = step_keeps (key k) (λ t. mark_here (valued v) t) t u e (λ x h. mark_keeps (valued v) _ x h)
row_keeps (k ∷ l ∷ ks) v t u e =
    step_keeps (key k) (λ t. and_then (mark_here dotted t) (λ t. put_row (l ∷ ks) v t)) t u e
    (λ x h. let (y, marked, put) = then_given (mark_here dotted (below (key k) t)) (λ t. put_row (l ∷ ks) v t) h in
    kept_on _ y x (mark_keeps dotted _ y marked) (row_keeps (l ∷ ks) v y x put))

-- a row is here: its value stands at its end, and something at each key before
abbrev pub RowIsHere : KeyTexts → Trie → Type 0
RowIsHere [] t = standing t ≡ Some value
RowIsHere (k ∷ ks) t = RowIsHere ks (below (key k) t) × (is_some (standing (below (key k) t)) ≡ true)

row_stays : (ks : KeyTexts) (t u : Trie) → Kept t u → RowIsHere ks t → RowIsHere ks u
row_stays [] t u h r = (h []).0 r
row_stays (k ∷ ks) t u h r =
    (row_stays ks (below (key k) t) (below (key k) u) (λ p. h (key k ∷ p)) r.0, (h (key k ∷ [])).1 r.1)

marked_stands : (k : MarkKind) (t u : Trie) → mark_here k t ≡ Some u → standing u ≡ Some (taken k (standing t))
marked_stands k (trie st v ts) u e = let (fit, is) = if_given (fits k st) e in sym (ap standing is)

mark_fits : (k : MarkKind) (t u : Trie) → mark_here k t ≡ Some u → fits k (standing t) ≡ true
mark_fits k (trie st v ts) u e = let (fit, is) = if_given (fits k st) e in fit

pub row_put : (k : List ℕ) (ks : KeyTexts) (v : Data) (t u : Trie) → put_row (k ∷ ks) v t ≡ Some u
    → RowIsHere (k ∷ ks) u
row_put k [] v t u e =
    let there : standing (below (key k) u) ≡ Some value =
    marked_stands (valued v) _ _ (step_found (key k) (λ t. mark_here (valued v) t) t u e) in
    (there, ap is_some there)
row_put k (l ∷ ks) v t u e =
    let (y, marked, put) = then_given (mark_here dotted (below (key k) t)) (λ t. put_row (l ∷ ks) v t)
    (step_found (key k) (λ t. and_then (mark_here dotted t) (λ t. put_row (l ∷ ks) v t)) t u e) in (
      row_put l ks v y (below (key k) u) put,
      (row_keeps (l ∷ ks) v y (below (key k) u) put []).1 (ap is_some (marked_stands dotted _ y marked)),
    )

-- and none that overlaps it is put
something_fits_no_value : (v : Data) (s : Option Standing) → is_some s ≡ true → fits (valued v) s ≡ false
something_fits_no_value v None e = absurd (false≢true e)
something_fits_no_value v (Some s) e = refl

is_false : (b : Bool) → (b ≡ true → ⊥) → b ≡ false
is_false false h = refl
is_false true h = absurd (h refl)

overlap_on : (s t : Step) (p q : Path) → overlap (s ∷ p) (t ∷ q) ≡ true → (s ≡ t) × (overlap p q ≡ true)
overlap_on s t p q e = go (step_eq s t) refl (step_eq t s) refl (begins p q) (begins q p) e
  where
    go : (a : Bool) → step_eq s t ≡ a → (b : Bool) → step_eq t s ≡ b → (c d : Bool)
        → ((a && c) || (b && d)) ≡ true → (s ≡ t) × ((c || d) ≡ true)
    go true f b g true d e = (step_is s t f, refl)
    go true f true g false d e = (step_is s t f, e)
    go false f true g true d e = (sym (step_is t s g), refl)
    go false f true g false d e = (sym (step_is t s g), e)
    go true f false g false d e = absurd (false≢true e)
    go false f false g c d e = absurd (false≢true e)

pub overlap_refused : (j : List ℕ) (js : KeyTexts) (k : List ℕ) (ks : KeyTexts) (v : Data) (t u : Trie)
    → RowIsHere (j ∷ js) t → overlap (steps_of (j ∷ js)) (steps_of (k ∷ ks)) ≡ true → put_row (k ∷ ks) v t ≡ Some u → ⊥
overlap_refused j js k [] v t u r o e =
    let (same, more) = overlap_on (key j) (key k) (steps_of js) [] o in
    let there : is_some (standing (below (key k) t)) ≡ true =
    subst (λ s. is_some (standing (below s t)) ≡ true) same r.1 in
    false≢true (sym (something_fits_no_value v _ there) ∙
    mark_fits (valued v) _ _ (step_found (key k) (λ t. mark_here (valued v) t) t u e))
overlap_refused j [] k (l ∷ ks) v t u r o e =
    let (same, more) = overlap_on (key j) (key k) [] (steps_of (l ∷ ks)) o in
    let there : standing (below (key k) t) ≡ Some value =
    subst (λ s. standing (below s t) ≡ Some value) same r.0 in
    let (y, marked, put) = then_given (mark_here dotted (below (key k) t)) (λ t. put_row (l ∷ ks) v t)
    (step_found (key k) (λ t. and_then (mark_here dotted t) (λ t. put_row (l ∷ ks) v t)) t u e) in
    false≢true (ap (λ s. fits dotted s) (sym there) ∙ mark_fits dotted _ y marked)
overlap_refused j (i ∷ js) k (l ∷ ks) v t u r o e =
    let (same, more) = overlap_on (key j) (key k) (steps_of (i ∷ js)) (steps_of (l ∷ ks)) o in
    let there : RowIsHere (i ∷ js) (below (key k) t) = subst (λ s. RowIsHere (i ∷ js) (below s t)) same r.0 in
    let (y, marked, put) = then_given (mark_here dotted (below (key k) t)) (λ t. put_row (l ∷ ks) v t)
    (step_found (key k) (λ t. and_then (mark_here dotted t) (λ t. put_row (l ∷ ks) v t)) t u e) in
    let still : RowIsHere (i ∷ js) y = row_stays (i ∷ js) _ y (mark_keeps dotted _ y marked) there in
    overlap_refused i js l ks v y (below (key k) u) still more put

none_overlaps : (j : List ℕ) (js : KeyTexts) (rows : Rows) (before after : Trie) → rows_keyed rows ≡ true
    → RowIsHere (j ∷ js) before → put_rows rows before ≡ Some after → any_overlaps (steps_of (j ∷ js)) rows ≡ false
none_overlaps j js no_rows before after k r e = refl
none_overlaps j js (row [] at v rows) before after k r e = absurd (false≢true k)
none_overlaps j js (row (l ∷ keys) at v rows) before after k r e =
    let ks : KeyTexts = texts keys in
    let (t, put, rest) = then_given (put_row (l.text ∷ ks) (finished v) before) (λ t. put_rows rows t) e in
    let kept : Kept before t = row_keeps (l.text ∷ ks) (finished v) before t put in
    let still : RowIsHere (j ∷ js) t = row_stays (j ∷ js) before t kept r in
    or_from _ _ (is_false _ (λ o. overlap_refused j js l.text ks (finished v) before t r o put))
    (none_overlaps j js rows t after k still rest)

-- so rows that are put do not clash
pub put_apart : (rows : Rows) (before after : Trie) → rows_keyed rows ≡ true → values_clash rows ≡ false
    → put_rows rows before ≡ Some after → rows_clash rows ≡ false
put_apart no_rows before after k c e = refl
put_apart (row [] at v rows) before after k c e = absurd (false≢true k)
put_apart (row (l ∷ keys) at v rows) before after k c e =
    let ks : KeyTexts = texts keys in
    let (t, put, rest) = then_given (put_row (l.text ∷ ks) (finished v) before) (λ t. put_rows rows t) e in
    let (here, others) = or_parts _ _ c in
    or_from _ _
    (or_from _ _ (none_overlaps l.text ks rows t after k (row_put l.text ks (finished v) before t put) rest) here)
    (put_apart rows t after k others rest)
