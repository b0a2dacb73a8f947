-- In the indexed path of a section a number stands only behind a key: none stands first, and none behind a number.
use Rattle.std.proofs.Common.{◌≡◌, ℕ, zero, suc, Bool, true, false, List, [], ◌∷◌, ◌++◌, Some, refl, sym, subst, arith}
use Rattle.std.proofs.Common.{length}
use Rattle.std.specs.Prelude.{slice_get}
use Rattle.basic_toml_grammar.specs.Sections.{KeyTexts, texts, Section}
use Rattle.basic_toml_grammar.specs.Steps.{key, number, Path}
use Rattle.basic_toml_grammar.specs.IndexedPath.{Located, latest, located_after, located_from}
use Rattle.basic_toml_grammar.proofs.Clash.PathsAgree.{count_in, counted, counts_are, cut_from, cuts_are}

-- so of the steps that are left of a path, where the one before them is a key or not
abbrev pub NumbersFollow : Bool → Path → Type 0
NumbersFollow behind_key [] = Unit {0}
NumbersFollow behind_key (key k ∷ p) = NumbersFollow true p
NumbersFollow behind_key (number n ∷ p) = (behind_key ≡ true) × NumbersFollow false p

-- a key more, and the latest of the elements there
key_more : (b : Bool) (p : Path) (k : List ℕ) (c : ℕ) → NumbersFollow b p → NumbersFollow b (p ++ key k ∷ latest c)
key_more b [] k zero f = tt
key_more b [] k (suc c) f = (refl, tt)
key_more b (key j ∷ p) k c f = key_more true p k c f
key_more b (number n ∷ p) k c f = (f.0, key_more false p k c f.1)

cut_follows : (count : Path → ℕ) (a : Bool) (p : Path) (keys : KeyTexts) (l : ℕ) → NumbersFollow false p
    → NumbersFollow false (cut_from count a p keys l)
cut_follows count a p keys zero f = f
cut_follows count a p [] (suc l) f = f
cut_follows count a p (k ∷ keys) (suc l) f =
    let c : ℕ = counted a keys (count (p ++ key k ∷ [])) in
    cut_follows count a (p ++ key k ∷ latest c) keys l (key_more false p k c f)

pub path_follows : (earlier : List Section) (s : Section) → NumbersFollow false (located_after earlier s).path
path_follows earlier s =
    let header : KeyTexts = texts s.header in
    subst (λ (p : Path). NumbersFollow false p)
    (sym (cuts_are s earlier (counts_are earlier) (length header) (omega arith)))
    (cut_follows (count_in earlier) s.is_array [] header (length header) tt)

-- so of the section of a number
pub path_follows_at : (earlier sections : List Section) (n : ℕ) (l : Located)
    → slice_get (located_from earlier sections) n ≡ Some l → NumbersFollow false l.path
path_follows_at earlier [] n l e = cc
path_follows_at earlier (s ∷ sections) zero l e =
    let same : located_after earlier s ≡ l = cc in
    subst (λ (l : Located). NumbersFollow false l.path) same (path_follows earlier s)
path_follows_at earlier (s ∷ sections) (suc n) l e = path_follows_at (s ∷ earlier) sections n l e
