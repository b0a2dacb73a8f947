-- Where a text stands among names: by texts and by numbers.
use Rattle.std.proofs.Common.{◌≡◌, ℕ, suc, ◌+◌, Bool, true, false, cond, ◌&&◌, ◌||◌, List, [], ◌∷◌, map, refl, sym, ◌∙◌, ap}
use Rattle.std.proofs.Common.{Option, Some, None, option_map, is_some, arith, Bor}
use Rattle.std.specs.List.{position, position_from}
use Rattle.std.specs.Str.{bytes_eq}
use Rattle.std.proofs.lemmas.Bool.Decides.{same_from_decides, Decides-like}
use Rattle.std.proofs.lemmas.Iterator.Adapters.{position_from-zero}
use Rattle.std.proofs.lemmas.Slice.Eq.{bytes_eq-Decides}
use Rattle.basic_toml_index.specs.Keys.{is_among}
use Rattle.basic_toml_value.specs.Data.{Data, Members, no_members, member}
use Rattle.basic_toml_tree.specs.Nodes.{is_table, paired, entries_in}
use Rattle.basic_toml_typed.specs.FieldKeys.{text_number, position_among, are_listed}
use Rattle.basic_toml_typed.specs.FieldFaults.{first_other}
use Rattle.basic_toml_typed.specs.TypeReads.{HasOnly}
use Rattle.basic_toml_typed.proofs.TextNumbers.{number_test}

abbrev pub texts_of : List (Bor (List ℕ)) → List (List ℕ)
texts_of names = map (λ name. name.now) names

abbrev pub numbers_of : List (Bor (List ℕ)) → List ℕ
numbers_of names = map (λ name. text_number name.now) names

shift_case : (b : Bool) (i : ℕ) (r s : Option ℕ) → s ≡ option_map (λ n. suc n) r
    → cond b (Some (i + 1)) s ≡ option_map (λ n. suc n) (cond b (Some i) r)
shift_case true i r s e = ap Some (omega arith)
shift_case false i r s e = e

position_shifted : {X : Type 0} (test : X → Bool) (i : ℕ) (xs : List X)
    → position_from test (i + 1) xs ≡ option_map (λ n. suc n) (position_from test i xs)
position_shifted test i [] = refl
position_shifted test i (x ∷ xs) = shift_case (test x) i (position_from test (i + 1) xs)
    (position_from test (i + 1 + 1) xs) (position_shifted test (i + 1) xs)

from_numbers : (names : List (Bor (List ℕ))) (text : List ℕ)
    → position_from (λ name. bytes_eq name.now text) 0 names ≡ position_among (numbers_of names) text
from_numbers [] text = refl
from_numbers (name ∷ names) text =
    rw (number_test name.now text, ← from_numbers names text)
    (ap (cond (bytes_eq name.now text) (Some 0)) (position_shifted (λ n. bytes_eq n.now text) 0 names))

pub position_is_by_numbers : (names : List (Bor (List ℕ))) (text : List ℕ)
    → position (λ name. bytes_eq name.now text) names ≡ position_among (numbers_of names) text
position_is_by_numbers names text = position_from-zero (λ name. bytes_eq name.now text) names ∙ from_numbers names text

turned : (s t : List ℕ) → bytes_eq s t ≡ bytes_eq t s
turned s t = same_from_decides (bytes_eq s t) (bytes_eq t s) (bytes_eq-Decides s t)
    (Decides-like (bytes_eq t s) sym sym (bytes_eq-Decides t s))

some_case : (b : Bool) (r : Option ℕ) (c : Bool) → is_some r ≡ c
    → is_some (cond b (Some 0) (option_map (λ n. suc n) r)) ≡ (b || c)
some_case true r c e = refl
some_case false None c e = e
some_case false (Some n) c e = e

pub among_by_numbers : (names : List (Bor (List ℕ))) (text : List ℕ)
    → is_some (position_among (numbers_of names) text) ≡ is_among (texts_of names) text
among_by_numbers [] text = refl
among_by_numbers (name ∷ names) text =
    rw (number_test name.now text, turned name.now text)
    (some_case (bytes_eq text name.now) (position_among (numbers_of names) text) (is_among (texts_of names) text)
    (among_by_numbers names text))

pub position_is_among : (names : List (Bor (List ℕ))) (text : List ℕ)
    → is_some (position (λ name. bytes_eq name.now text) names) ≡ is_among (texts_of names) text
position_is_among names text = ap is_some (position_is_by_numbers names text) ∙ among_by_numbers names text

listed_case : (a b : Bool) (k : List ℕ) (r : Option (List ℕ)) (rest : Bool) → a ≡ b
    → (r ≡ None → rest ≡ true) × ((key : List ℕ) → r ≡ Some key → rest ≡ false)
    → (cond b r (Some k) ≡ None → (a && rest) ≡ true) × ((key : List ℕ) → cond b r (Some k) ≡ Some key → (a && rest) ≡ false)
listed_case true true k r rest e both = both
listed_case false true k r rest e both = absurd (cc)
listed_case true false k r rest e both = absurd (cc)
listed_case false false k r rest e both = (λ e. absurd (cc), λ key e. refl)

members_listed : (names : List (Bor (List ℕ))) (members : Members)
    → (first_other (texts_of names) (paired members) ≡ None → are_listed (numbers_of names) members ≡ true)
    × ((key : List ℕ) → first_other (texts_of names) (paired members) ≡ Some key
    → are_listed (numbers_of names) members ≡ false)
members_listed names no_members = (λ e. refl, λ key e. absurd (cc))
members_listed names (member k d members) =
    listed_case (is_some (position_among (numbers_of names) k)) (is_among (texts_of names) k) k
    (first_other (texts_of names) (paired members)) (are_listed (numbers_of names) members)
    (among_by_numbers names k) (members_listed names members)

pub all_listed : (names : List (Bor (List ℕ))) (d : Data) → is_table d ≡ true
    → first_other (texts_of names) (entries_in d) ≡ None → HasOnly (numbers_of names) d
unfolding HasOnly
all_listed names (Data.table members) is none = (members_listed names members).0 none
all_listed names (Data.integer _) is none = absurd (cc)
all_listed names (Data.float _) is none = absurd (cc)
all_listed names (Data.boolean _) is none = absurd (cc)
all_listed names (Data.string _) is none = absurd (cc)
all_listed names (Data.array _) is none = absurd (cc)

pub other_unlisted : (names : List (Bor (List ℕ))) (d : Data) (key : List ℕ)
    → first_other (texts_of names) (entries_in d) ≡ Some key → HasOnly (numbers_of names) d → ⊥
unfolding HasOnly
other_unlisted names (Data.table members) key some only =
    let other = (members_listed names members).1 key some in absurd (cc)
other_unlisted names (Data.integer _) key some only = only
other_unlisted names (Data.float _) key some only = only
other_unlisted names (Data.boolean _) key some only = only
other_unlisted names (Data.string _) key some only = only
other_unlisted names (Data.array _) key some only = only

pub table_unlisted : (names : List ℕ) (d : Data) → is_table d ≡ false → HasOnly names d → ⊥
unfolding HasOnly
table_unlisted names (Data.table _) e only = absurd (cc)
table_unlisted names (Data.integer _) e only = only
table_unlisted names (Data.float _) e only = only
table_unlisted names (Data.boolean _) e only = only
table_unlisted names (Data.string _) e only = only
table_unlisted names (Data.array _) e only = only

pub passes_listed : (names : List (Bor (List ℕ))) (left rest : List (List ℕ × Data)) (p : List ℕ × Data)
    (found : Option ℕ) → left ≡ p ∷ rest → found ≡ position (λ name. bytes_eq name.now p.0) names
    → is_some found ≡ true → first_other (texts_of names) rest ≡ first_other (texts_of names) left
passes_listed names left rest p found e at some =
    let listed : is_among (texts_of names) p.0 ≡ true = sym (position_is_among names p.0) ∙ ap is_some (sym at) ∙ some in
    rw (e, listed) refl

pub stops_at_other : (names : List (Bor (List ℕ))) (left rest : List (List ℕ × Data)) (p : List ℕ × Data)
    (found : Option ℕ) → left ≡ p ∷ rest → found ≡ position (λ name. bytes_eq name.now p.0) names
    → is_some found ≡ false → Some p.0 ≡ first_other (texts_of names) left
stops_at_other names left rest p found e at none =
    let other : is_among (texts_of names) p.0 ≡ false = sym (position_is_among names p.0) ∙ ap is_some (sym at) ∙ none in
    rw (e, other) refl
