-- What an array and an object mean, by their parts in turn.
use Rattle.std.proofs.Common.{◌≡◌, ℕ, zero, suc, ◌+◌, ◌<◌, ◌≤◌, false, List, [], ◌∷◌, ◌++◌, length, drop}
use Rattle.std.proofs.Common.{get_or, refl, sym, ap, if◌then◌else◌, None, ◌∙◌, arith, Ok, Err, Vec}
use Rattle.std.proofs.lemmas.List.{drop_more}
use Rattle.std.specs.Borrow.{Bor}
use Rattle.std.specs.declared.alloc.Global.{Global}
use Rattle.basic_toml_value.specs.Data.{Data, Items, no_items, item, Members, no_members, member}
use Rattle.basic_toml_index.specs.Keys.{is_among}
use Rattle.basic_toml_value.specs.Pairs.{keys_of}
use Rattle.basic_toml_value.specs.View.{view, entries, items_view}
use Rattle.basic_toml_value.specs.declared.value.Value.{Value}
use Rattle.json.specs.Json as json
use Rattle.json.specs.Value as j
use Rattle.json.specs.Value.{value_view}
use Rattle.json.specs.declared.value.Value as code
use Rattle.json.proofs.Trees.{view-Object}
use Rattle.toml_json_text.specs.declared.form.Form.{Form}
use Rattle.toml_from_json.specs.declared.refusal.Fault.TheVariants as fault
use Rattle.toml_from_json.specs.Meaning.{Meaning, mapped, and_then, at_key, data_of, items_of, members_of, tag_of}

-- values, and elements after them
abbrev pub items_before : List Value → Items → Items
items_before [] rest = rest
items_before (v ∷ vs) rest = item (view v) (items_before vs rest)

abbrev pub members_before : List (List ℕ × Value) → Members → Members
members_before [] rest = rest
members_before (p ∷ ps) rest = member p.0 (view p.1) (members_before ps rest)

pub items_before_none : (vs : List Value) → items_before vs no_items ≡ items_view vs
items_before_none [] = refl
items_before_none (v ∷ vs) = ap (item (view v)) (items_before_none vs)

pub members_before_none : (ps : List (List ℕ × Value)) → members_before ps no_members ≡ entries ps
members_before_none [] = refl
members_before_none (p ∷ ps) = ap (member p.0 (view p.1)) (members_before_none ps)

pub items_before_last : (vs : List Value) (v : Value) (rest : Items)
    → items_before (vs ++ (v ∷ [])) rest ≡ items_before vs (item (view v) rest)
items_before_last [] v rest = refl
items_before_last (w ∷ vs) v rest = ap (item (view w)) (items_before_last vs v rest)

pub members_before_last : (ps : List (List ℕ × Value)) (p : List ℕ × Value) (rest : Members)
    → members_before (ps ++ (p ∷ [])) rest ≡ members_before ps (member p.0 (view p.1) rest)
members_before_last [] p rest = refl
members_before_last (q ∷ ps) p rest = ap (member q.0 (view q.1)) (members_before_last ps p rest)

-- of the kit's JSON
abbrev pub Json : Type 0
Json = code.Value Global

abbrev pub Named : Type 0
Named = Bor (List ℕ) × Json

pub object_seen : (v : Vec Named Global) → value_view (code.Object v) ≡ json.object (j.members_view v.items)
object_seen v = view-Object v

items_moved : (es : List Value) (e : Value) (rest : Meaning Items)
    → mapped (items_before (es ++ (e ∷ []))) rest ≡ mapped (items_before es) (mapped (item (view e)) rest)
items_moved es e (Ok r) = ap Ok (items_before_last es e r)
items_moved es e (Err w) = refl

members_moved : (ps : List (List ℕ × Value)) (p : List ℕ × Value) (rest : Meaning Members)
    → mapped (members_before (ps ++ (p ∷ []))) rest ≡ mapped (members_before ps) (mapped (member p.0 (view p.1)) rest)
members_moved ps p (Ok r) = ap Ok (members_before_last ps p r)
members_moved ps p (Err w) = refl

drop_at : {A : Type 0} (xs : List A) (i : ℕ) (x : A) → i < length xs → x ≡ get_or xs i x
    → drop i xs ≡ x ∷ drop (i + 1) xs
drop_at xs i x lt e = drop_more xs i x lt ∙ ap (λ y. y ∷ drop (i + 1) xs) (sym e)

pub elements_step : (form : Form) (values : List Json) (i : ℕ) (x : Json) → i < length values → x ≡ get_or values i x
    → (es es' : List Value) (e : Value) (whole : Meaning Items) → data_of form (value_view x) ≡ Ok (view e)
    → es' ≡ es ++ (e ∷ []) → mapped (items_before es) (items_of form (j.items_view (drop i values))) ≡ whole
    → mapped (items_before es') (items_of form (j.items_view (drop (i + 1) values))) ≡ whole
elements_step form values i x lt read es es' e whole meant pushed left =
    let rest : Meaning Items = items_of form (j.items_view (drop (i + 1) values)) in
    ap (λ (l : List Value). mapped (items_before l) rest) pushed
    ∙ (items_moved es e rest
    ∙ (ap (λ (due : Meaning Data). mapped (items_before es) (and_then due (λ d. mapped (item d) rest))) (sym meant)
    ∙ (ap (λ (vs : List Json). mapped (items_before es) (items_of form (j.items_view vs)))
    (sym (drop_at values i x lt read)) ∙ left)))

drop_all : {A : Type 0} (xs : List A) (i : ℕ) → length xs ≤ i → drop i xs ≡ []
drop_all [] zero past = refl
drop_all [] (suc i) past = refl
drop_all (x ∷ xs) zero past = absurd (omega arith)
drop_all (x ∷ xs) (suc i) past = drop_all xs i (omega arith)

pub elements_end : (form : Form) (values : List Json) (i : ℕ) (es : List Value) (whole : Meaning Items)
    → length values ≤ i → mapped (items_before es) (items_of form (j.items_view (drop i values))) ≡ whole
    → whole ≡ Ok (items_view es)
elements_end form values i es whole past left =
    sym left
    ∙ (ap (λ (vs : List Json). mapped (items_before es) (items_of form (j.items_view vs))) (drop_all values i past)
    ∙ ap Ok (items_before_none es))

keys_last : (ps : List (List ℕ × Value)) (p : List ℕ × Value) → keys_of (ps ++ (p ∷ [])) ≡ keys_of ps ++ (p.0 ∷ [])
keys_last [] p = refl
keys_last (q ∷ ps) p = ap (λ (ks : List (List ℕ)). q.0 ∷ ks) (keys_last ps p)

-- what a member means, once its value is known to mean data and its key to be new
entered : (form : Form) (keys : List (List ℕ)) (k : List ℕ) (d : Data) (rest : json.Members) → is_among keys k ≡ false
    → (due : Meaning Data) → due ≡ Ok d
    → and_then due (λ e. if is_among keys k then Err (fault.RepeatedKey, k)
    else mapped (member k e) (members_of form (keys ++ (k ∷ [])) rest))
    ≡ mapped (member k d) (members_of form (keys ++ (k ∷ [])) rest)
entered form keys k d rest new due meant = rw (meant, new) refl

pub members_step : (form : Form) (members : List Named) (i : ℕ) (m : Named) → i < length members
    → m ≡ get_or members i m → (ps ps' : List (List ℕ × Value)) (e : Value) (whole : Meaning Members)
    → at_key m.0.now (data_of form (value_view m.1)) ≡ Ok (view e) → is_among (keys_of ps) m.0.now ≡ false
    → ps' ≡ ps ++ ((m.0.now, e) ∷ [])
    → mapped (members_before ps) (members_of form (keys_of ps) (j.members_view (drop i members))) ≡ whole
    → mapped (members_before ps') (members_of form (keys_of ps') (j.members_view (drop (i + 1) members))) ≡ whole
members_step form members i m lt read ps ps' e whole meant new pushed left =
    let later : json.Members = j.members_view (drop (i + 1) members) in
    let k : List ℕ = m.0.now in
    ap (λ (l : List (List ℕ × Value)). mapped (members_before l) (members_of form (keys_of l) later)) pushed
    ∙ (members_moved ps (k, e) (members_of form (keys_of (ps ++ ((k, e) ∷ []))) later)
    ∙ (ap (λ (ks : List (List ℕ)). mapped (members_before ps) (mapped (member k (view e)) (members_of form ks later)))
    (keys_last ps (k, e))
    ∙ (ap (mapped (members_before ps)) (sym (entered form (keys_of ps) k (view e) later new _ meant))
    ∙ (ap (λ (ns : List Named). mapped (members_before ps) (members_of form (keys_of ps) (j.members_view ns)))
    (sym (drop_at members i m lt read)) ∙ left))))

pub members_end : (form : Form) (members : List Named) (i : ℕ) (ps : List (List ℕ × Value)) (whole : Meaning Members)
    → length members ≤ i
    → mapped (members_before ps) (members_of form (keys_of ps) (j.members_view (drop i members))) ≡ whole
    → whole ≡ Ok (entries ps)
members_end form members i ps whole past left =
    sym left
    ∙ (ap (λ (ns : List Named). mapped (members_before ps) (members_of form (keys_of ps) (j.members_view ns)))
    (drop_all members i past) ∙ ap Ok (members_before_none ps))

-- no scalar with its type has fewer members than two, or more
pub fewer_no_tag : (members : List Named) → length members < 2 → None ≡ tag_of (j.members_view members)
fewer_no_tag [] few = refl
fewer_no_tag (m ∷ []) few = refl
fewer_no_tag (m ∷ n ∷ ms) few = absurd (omega arith)

pub more_no_tag : (members : List Named) → 2 < length members → None ≡ tag_of (j.members_view members)
more_no_tag [] more = absurd (omega arith)
more_no_tag (m ∷ []) more = absurd (omega arith)
more_no_tag (m ∷ n ∷ []) more = absurd (omega arith)
more_no_tag (m ∷ n ∷ o ∷ ms) more = refl

pub ruleset no_tag = (fewer_no_tag, more_no_tag)
