-- A run of marks is taken exactly where no two of them, and none with an earlier one, may not stand together.
use Rattle.std.proofs.Common.{◌≡◌, zero, suc, Bool, true, false, cond, List, [], ◌∷◌, Option, Some, None, refl, ap}
use Rattle.std.proofs.Common.{sym, ◌∙◌, subst}
use Rattle.std.specs.Prelude.{◌&&◌, ◌||◌, not, is_some}
use Rattle.std.specs.List.{list_any}
use Rattle.std.proofs.lemmas.Bool.{false≢true}
use Rattle.basic_toml_grammar.specs.Steps.{Path, path_eq}
use Rattle.basic_toml_grammar.specs.SectionClash.{any_pair}
use Rattle.basic_toml_grammar.specs.Marks.{MarkKind, passed, by_latest, named, added, dotted, valued, collide, Mark}
use Rattle.basic_toml_grammar.specs.Marks.{mark, hits, refuses, is_refused}
use Rattle.basic_toml_grammar.specs.Standing.{Standing, table, array, value, fits, taken, standing_at, take_all}
use Rattle.basic_toml_grammar.proofs.Clash.StepTestsDecide.{paths_are}

law : (l : MarkKind) (m : Option Standing) → fits l m ≡ true → (k : MarkKind)
    → fits k (Some (taken l m)) ≡ (fits k m && not (collide l k))
law passed (Some value) e = absurd (false≢true e)
law by_latest (Some value) e = absurd (false≢true e)
law named (Some value) e = absurd (false≢true e)
law added (Some value) e = absurd (false≢true e)
law dotted (Some value) e = absurd (false≢true e)
law (valued w) (Some s) e = absurd (false≢true e)
law added (Some (table p n d)) e = absurd (false≢true e)
law named (Some (table p true d)) e = absurd (false≢true e)
law named (Some (table p false true)) e = absurd (false≢true e)
law dotted (Some (table p true d)) e = absurd (false≢true e)
law passed (Some (array (suc n))) e = absurd (false≢true e)
law named (Some (array (suc n))) e = absurd (false≢true e)
law dotted (Some (array (suc n))) e = absurd (false≢true e)
law passed None e = elim [
  | passed ↦ refl
  | by_latest ↦ refl
  | named ↦ refl
  | added ↦ refl
  | dotted ↦ refl
  | valued v ↦
      refl
]
law passed (Some (array zero)) e =
    elim [ passed ↦ refl | by_latest ↦ refl | named ↦ refl | added ↦ refl | dotted ↦ refl | valued v ↦ refl ]
law passed (Some (table p false false)) e =
    elim [ passed ↦ refl | by_latest ↦ refl | named ↦ refl | added ↦ refl | dotted ↦ refl | valued v ↦ refl ]
law passed (Some (table p false true)) e =
    elim [ passed ↦ refl | by_latest ↦ refl | named ↦ refl | added ↦ refl | dotted ↦ refl | valued v ↦ refl ]
law passed (Some (table p true false)) e =
    elim [ passed ↦ refl | by_latest ↦ refl | named ↦ refl | added ↦ refl | dotted ↦ refl | valued v ↦ refl ]
law passed (Some (table p true true)) e =
    elim [ passed ↦ refl | by_latest ↦ refl | named ↦ refl | added ↦ refl | dotted ↦ refl | valued v ↦ refl ]
law by_latest None e = elim [
  | passed ↦ refl
  | by_latest ↦ refl
  | named ↦ refl
  | added ↦ refl
  | dotted ↦ refl
  | valued v ↦ refl
]
law by_latest (Some (array zero)) e =
    elim [ passed ↦ refl | by_latest ↦ refl | named ↦ refl | added ↦ refl | dotted ↦ refl | valued v ↦ refl ]
law by_latest (Some (array (suc n))) e =
    elim [ passed ↦ refl | by_latest ↦ refl | named ↦ refl | added ↦ refl | dotted ↦ refl | valued v ↦ refl ]
law by_latest (Some (table p false false)) e =
    elim [ passed ↦ refl | by_latest ↦ refl | named ↦ refl | added ↦ refl | dotted ↦ refl | valued v ↦ refl ]
law by_latest (Some (table p false true)) e =
    elim [ passed ↦ refl | by_latest ↦ refl | named ↦ refl | added ↦ refl | dotted ↦ refl | valued v ↦ refl ]
law by_latest (Some (table p true false)) e =
    elim [ passed ↦ refl | by_latest ↦ refl | named ↦ refl | added ↦ refl | dotted ↦ refl | valued v ↦ refl ]
law by_latest (Some (table p true true)) e =
    elim [ passed ↦ refl | by_latest ↦ refl | named ↦ refl | added ↦ refl | dotted ↦ refl | valued v ↦ refl ]
law named None e = elim [
  | passed ↦ refl
  | by_latest ↦ refl
  | named ↦ refl
  | added ↦ refl
  | dotted ↦ refl
  | valued v ↦
      refl
]
law named (Some (array zero)) e =
    elim [ passed ↦ refl | by_latest ↦ refl | named ↦ refl | added ↦ refl | dotted ↦ refl | valued v ↦ refl ]
law named (Some (table p false false)) e =
    elim [ passed ↦ refl | by_latest ↦ refl | named ↦ refl | added ↦ refl | dotted ↦ refl | valued v ↦ refl ]
law added None e = elim [
  | passed ↦ refl
  | by_latest ↦ refl
  | named ↦ refl
  | added ↦ refl
  | dotted ↦ refl
  | valued v ↦
      refl
]
law added (Some (array zero)) e =
    elim [ passed ↦ refl | by_latest ↦ refl | named ↦ refl | added ↦ refl | dotted ↦ refl | valued v ↦ refl ]
law added (Some (array (suc n))) e =
    elim [ passed ↦ refl | by_latest ↦ refl | named ↦ refl | added ↦ refl | dotted ↦ refl | valued v ↦ refl ]
law dotted None e = elim [
  | passed ↦ refl
  | by_latest ↦ refl
  | named ↦ refl
  | added ↦ refl
  | dotted ↦ refl
  | valued v ↦
      refl
]
law dotted (Some (array zero)) e =
    elim [ passed ↦ refl | by_latest ↦ refl | named ↦ refl | added ↦ refl | dotted ↦ refl | valued v ↦ refl ]
law dotted (Some (table p false false)) e =
    elim [ passed ↦ refl | by_latest ↦ refl | named ↦ refl | added ↦ refl | dotted ↦ refl | valued v ↦ refl ]
law dotted (Some (table p false true)) e =
    elim [ passed ↦ refl | by_latest ↦ refl | named ↦ refl | added ↦ refl | dotted ↦ refl | valued v ↦ refl ]
law (valued w) None e = elim [
  | passed ↦ refl
  | by_latest ↦ refl
  | named ↦ refl
  | added ↦ refl
  | dotted ↦ refl
  | valued v ↦ refl
]

-- what stands tells what is refused
abbrev pub Tells : List Mark → Type 0
Tells st = (p : Path) (k : MarkKind) → fits k (standing_at st p) ≡ not (refuses st (mark p k))

pub tells_none : Tells []
tells_none p passed = refl
tells_none p k = elim k as (λ k. fits k None ≡ true) [
  | passed ↦ refl
  | by_latest ↦ refl
  | named ↦ refl
  | added ↦ refl
  | dotted ↦ refl
  | valued v ↦ refl
]

swap_not : (a b : Bool) → (not a && not b) ≡ not (b || a)
swap_not true true = refl
swap_not true false = refl
swap_not false true = refl
swap_not false false = refl

pub tells_more : (m : Mark) (st : List Mark) → Tells st → fits m.kind (standing_at st m.path) ≡ true → Tells (m ∷ st)
tells_more m st h f p k = go (path_eq m.path p) refl
  where
    go : (b : Bool) → path_eq m.path p ≡ b
        → fits k (cond b (Some (taken m.kind (standing_at st p))) (standing_at st p))
        ≡ not ((b && collide m.kind k) || refuses st (mark p k))
    go false e = h p k
    go true e = law m.kind (standing_at st p)
        (subst (λ p. fits m.kind (standing_at st p) ≡ true) (paths_are m.path p e) f) k
        ∙ ap (λ x. x && not (collide m.kind k)) (h p k) ∙ swap_not (refuses st (mark p k)) (collide m.kind k)

pub refused_more : (m : Mark) (st ms : List Mark) → is_refused (m ∷ st) ms ≡ (list_any (hits m) ms || is_refused st ms)
refused_more m st [] = refl
refused_more m st (n ∷ ms) = ap (λ x. (hits m n || refuses st n) || x) (refused_more m st ms) ∙
    four (hits m n) (refuses st n) (list_any (hits m) ms) (is_refused st ms)
  where
    four : (a b c d : Bool) → ((a || b) || (c || d)) ≡ ((a || c) || (b || d))
    four true b c d = refl
    four false true true d = refl
    four false true false d = refl
    four false false c d = refl

pub takes_where : (st ms : List Mark) → Tells st → is_some (take_all st ms) ≡ not (is_refused st ms || any_pair hits ms)
takes_where st [] h = refl
takes_where st (m ∷ ms) h =
    go (takes_where (m ∷ st) ms) (fits m.kind (standing_at st m.path)) refl (refuses st m) (h m.path m.kind)
  where
    five : (c d x : Bool) → not ((x || d) || c) ≡ not (d || (x || c))
    five true true true = refl
    five true true false = refl
    five true false true = refl
    five true false false = refl
    five false true true = refl
    five false true false = refl
    five false false true = refl
    five false false false = refl

    go : (Tells (m ∷ st) → is_some (take_all (m ∷ st) ms) ≡ not (is_refused (m ∷ st) ms || any_pair hits ms))
        → (f : Bool) → fits m.kind (standing_at st m.path) ≡ f → (r : Bool)
        → fits m.kind (standing_at st m.path) ≡ not r
        → is_some (cond f (take_all (m ∷ st) ms) None)
        ≡ not ((r || is_refused st ms) || (list_any (hits m) ms || any_pair hits ms))
    go ih true e true g = absurd (false≢true (sym g ∙ e))
    go ih false e false g = absurd (false≢true (sym e ∙ g))
    go ih false e true g = refl
    go ih true e false g = ih (tells_more m st h e) ∙ ap (λ x. not (x || any_pair hits ms)) (refused_more m st ms)
        ∙ five (any_pair hits ms) (is_refused st ms) (list_any (hits m) ms)

-- where nothing stands, nothing is refused
none_refused : (ms : List Mark) → is_refused [] ms ≡ false
none_refused [] = refl
none_refused (m ∷ ms) = none_refused ms

pub marks_fit : (ms : List Mark) → is_some (take_all [] ms) ≡ not (any_pair hits ms)
marks_fit ms = takes_where [] ms tells_none ∙ ap (λ b. not (b || any_pair hits ms)) (none_refused ms)
