-- An anchor of what is at a path leads to this path.
use Rattle.std.proofs.Common.{◌≡◌, ℕ, zero, suc, ◌&&◌, Bool, true, false, List, [], ◌∷◌, ◌++◌, drop, length, Option}
use Rattle.std.proofs.Common.{Some, None, IsSomeAnd, inl, inr, refl, ap, sym, ◌∙◌, subst}
use Rattle.std.specs.Prelude.{option_map, slice_get}
use Rattle.std.proofs.lemmas.Bool.{and_parts, or_cases, or_parts}
use Rattle.basic_toml_grammar.specs.Sections.{Section}
use Rattle.basic_toml_grammar.specs.Steps.{key, number, Path, begins, keys_of}
use Rattle.basic_toml_grammar.specs.IndexedPath.{Located, located, located_after, located_from}
use Rattle.basic_toml_grammar.specs.Nodes.{Node, is_array, is_number, node_at}
use Rattle.basic_toml_places.specs.Places.{as_far_as, path_at}
use Rattle.basic_toml_places.proofs.PathsLead.{begins_on}
use Rattle.basic_toml_places.proofs.LawsHold.{found_by_start}
use Rattle.basic_toml_origin.specs.declared.anchor.Anchor.TheVariants.{Root, Table, Array, Value}
use Rattle.basic_toml_origin.specs.Anchor.{IsAnchorOf, LeadsTo, of_section, path_of_anchor, up_to_table}
use Rattle.basic_toml_origin.specs.KeyPath.{up_to_key}
use Rattle.basic_toml_origin.specs.Statements.{AnchorsLeadToPaths, MadeAnchorsLeadToPaths}
use Rattle.basic_toml_origin.proofs.NumbersFollowKeys.{NumbersFollow, path_follows, path_follows_at}

-- a path that goes on from another one, up to the other's last key: the other, where no number follows it
table_there : (b : Bool) (p rest : Path) → NumbersFollow b (p ++ rest) → is_number rest ≡ false
    → up_to_table (length (keys_of p)) (p ++ rest) ≡ p
table_there b [] [] f e = refl
table_there b [] (key k ∷ rest) f e = refl
table_there b [] (number n ∷ rest) f e = cc
table_there b (key k ∷ p) rest f e = ap (λ p. key k ∷ p) (table_there true p rest f e)
table_there b (number m ∷ []) rest f e = refl
table_there b (number m ∷ key k ∷ p) rest f e = ap (λ p. number m ∷ key k ∷ p) (table_there true p rest f.1 e)
table_there b (number m ∷ number n ∷ p) rest f e = cc

-- and the same of an array, since somewhere a number follows it, which is behind a key
array_there : (b : Bool) (p rest : Path) (n : ℕ) (q : Path) → NumbersFollow b (p ++ number n ∷ q)
    → up_to_key (length (keys_of p)) (p ++ rest) ≡ p
array_there b [] rest n q f = refl
array_there b (key k ∷ p) rest n q f = ap (λ p. key k ∷ p) (array_there true p rest n q f)
array_there b (number m ∷ []) rest n q f = cc
array_there b (number m ∷ key k ∷ p) rest n q f = ap (λ p. number m ∷ key k ∷ p) (array_there true p rest n q f.1)
array_there b (number m ∷ number i ∷ p) rest n q f = cc

-- what no number follows in any section has none in this one
none_follows : (ls : List Located) (n : ℕ) (l : Located) (p : Path) → slice_get ls n ≡ Some l → is_array ls p ≡ false
    → begins p l.path ≡ true → is_number (drop (length p) l.path) ≡ false
none_follows [] n l p e a b = cc
none_follows (x ∷ ls) zero l p e a b =
    let same : x ≡ l = cc in
    let here : (begins p l.path && is_number (drop (length p) l.path)) ≡ false =
    ap (λ (l : Located). begins p l.path && is_number (drop (length p) l.path)) (sym same) ∙ (or_parts _ _ a).0 in
    rw b at here
none_follows (x ∷ ls) (suc n) l p e a b = none_follows ls n l p e (or_parts _ _ a).1 b

-- what a number follows in some section
numbered : (p q : Path) → NumbersFollow false (p ++ q) → is_number q ≡ true
    → (n : ℕ) × (r : Path) × NumbersFollow false (p ++ number n ∷ r)
numbered p [] f e = cc
numbered p (key k ∷ q) f e = cc
numbered p (number n ∷ q) f e = (n, q, f)

some_follows : (earlier sections : List Section) (p : Path) → is_array (located_from earlier sections) p ≡ true
    → (n : ℕ) × (r : Path) × NumbersFollow false (p ++ number n ∷ r)
some_follows earlier [] p e = cc
some_follows earlier (s ∷ sections) p e =
    elim (or_cases (begins p q && is_number (drop (length p) q)) _ e) [
      | inl here ↦
          let h : (begins p q ≡ true) × (is_number (drop (length p) q) ≡ true) = and_parts _ _ here in
          numbered p (drop (length p) q)
          (subst (λ (q : Path). NumbersFollow false q) (begins_on p q h.0) (path_follows earlier s)) h.1
      | inr later ↦ some_follows (s ∷ earlier) sections p later
    ]
  where
    q : Path
    q = (located_after earlier s).path

-- by the section of a number, that leads to a path
by_section : (sections : List Section) (n : ℕ) (p : Path) (f : Path → Path)
    → ((l : Located) → slice_get (located sections) n ≡ Some l → begins p l.path ≡ true → f l.path ≡ p)
    → LeadsTo (located sections) n p → of_section f sections n ≡ Some p
by_section sections n p f there leads = go (slice_get (located sections) n) refl leads
  where
    go : (found : Option Located) → slice_get (located sections) n ≡ found
        → IsSomeAnd found (λ l. begins p l.path ≡ true) → option_map (λ l. f l.path) found ≡ Some p
    go None e leads = absurd leads
    go (Some l) e leads = ap (λ p. Some p) (there l e leads)

by_table : (sections : List Section) (p : Path) (n keys : ℕ) → IsAnchorOf sections p (Table n keys)
    → path_of_anchor sections (Table n keys) ≡ Some p
by_table sections p n keys is =
    by_section sections n p (up_to_table keys)
    (λ l e b. ap (λ keys. up_to_table keys l.path) is.2
    ∙ ap (up_to_table (length (keys_of p))) (begins_on p l.path b)
    ∙ table_there false p (drop (length p) l.path)
    (subst (λ (q : Path). NumbersFollow false q) (begins_on p l.path b) (path_follows_at [] sections n l e))
    (none_follows (located sections) n l p e is.1 b))
    is.0

by_array : (sections : List Section) (p : Path) (n keys : ℕ) → IsAnchorOf sections p (Array n keys)
    → path_of_anchor sections (Array n keys) ≡ Some p
by_array sections p n keys is =
    let some = some_follows [] sections p is.1 in
    by_section sections n p (up_to_key keys)
    (λ l e b. ap (λ keys. up_to_key keys l.path) is.2
    ∙ ap (up_to_key (length (keys_of p))) (begins_on p l.path b)
    ∙ array_there false p (drop (length p) l.path) some.0 some.1 some.2)
    is.0

pub made_lead : MadeAnchorsLeadToPaths
made_lead sections p Root made is = ap (λ p. Some p) (sym is)
made_lead sections p (Table n keys) made is = by_table sections p n keys is
made_lead sections p (Array n keys) made is = by_array sections p n keys is
made_lead sections p (Value at keys) made is = cc

-- by the value that begins where a node does
by_value : (found : Option Path) (p : Path) (keys : ℕ) → keys ≡ length (keys_of p)
    → IsSomeAnd found (λ q. as_far_as (length (keys_of p)) q ≡ p) → option_map (as_far_as keys) found ≡ Some p
by_value None p keys e far = absurd far
by_value (Some q) p keys e far = ap (λ p. Some p) (ap (λ n. as_far_as n q) e ∙ far)

pub lead : AnchorsLeadToPaths
lead text sections listed p Root is = ap (λ p. Some p) (sym is)
lead text sections listed p (Table n keys) is = by_table sections p n keys is
lead text sections listed p (Array n keys) is = by_array sections p n keys is
lead text sections listed p (Value at keys) is = go (node_at sections p) refl is.1
  where
    go : (found : Option Node) → node_at sections p ≡ found → IsSomeAnd found (λ node. node.start ≡ Some at)
        → option_map (as_far_as keys) (path_at sections at) ≡ Some p
    go None e starts = absurd starts
    go (Some node) e starts =
        by_value (path_at sections at) p keys is.2
        (rw starts at (found_by_start text sections listed p node e is.0))
