-- What stands after some sections were entered: the marks of each at its place, and no others.
use Rattle.std.proofs.Common.{◌≡◌, suc, Bool, true, false, cond, List, [], ◌∷◌, Option, Some, None, refl}
use Rattle.std.proofs.Common.{ap, sym, ◌∙◌, inl, inr}
use Rattle.std.specs.Prelude.{◌&&◌, ◌⊎◌, if◌then◌else◌}
use Rattle.std.proofs.lemmas.Bool.{and_parts}
use Rattle.basic_toml_grammar.specs.Sections.{Section}
use Rattle.basic_toml_grammar.specs.Steps.{Path, path_eq}
use Rattle.basic_toml_grammar.specs.RowClash.{rows_clash}
use Rattle.basic_toml_grammar.specs.Placed.{Placed, adds_element, placed_after, elements_at}
use Rattle.basic_toml_grammar.specs.Marks.{Mark, marks}
use Rattle.basic_toml_grammar.specs.Standing.{fits, standing_at, take_all}
use Rattle.basic_toml_grammar.specs.Entering.{and_then, enter, enter_all, is_keyed, all_keyed}
use Rattle.basic_toml_grammar.proofs.AmongElements.{Among, first, next}
use Rattle.basic_toml_grammar.proofs.Clash.MarksFit.{Tells, tells_none, tells_more}
use Rattle.basic_toml_grammar.proofs.Clash.WalkTakesMarks.{added_at, Sized, sized_more, enter_grows}
use Rattle.basic_toml_grammar.proofs.Clash.EnteringAccepts.{offset_same, added_onto, onto_marks}
use Rattle.basic_toml_grammar.proofs.Clash.PathsAgree.{offsets, count_in}

-- of sections that stand the latest first, one and those before it
pub data Stood (i : Section) (e : List Section) : List Section → Type 0 where
  here : Stood i e (i ∷ e)
  before : {s : Section} {b : List Section} → Stood i e b → Stood i e (s ∷ b)

-- sections put before others, the latest first
abbrev pub onto : List Section → List Section → List Section
onto [] b = b
onto (s ∷ ss) b = onto ss (s ∷ b)

-- the section that a mark is of
pub record Made (b : List Section) (m : Mark) : Type 0 where
  pub section : Section
  pub earlier : List Section
  pub stood : Stood section earlier b
  pub keyed : is_keyed section ≡ true
  pub marked : Among m (marks (placed_after (offsets earlier) section))

pub record Past (b : List Section) (st : List Mark) : Type 0 where
  pub sized : Sized st
  pub tells : Tells st
  pub counted : (q : Path) → added_at st q ≡ count_in b q
  pub made : {m : Mark} → Among m st → Made b m
  pub kept : {i : Section} {e : List Section} {m : Mark} → Stood i e b → Among m (marks (placed_after (offsets e) i))
      → Among m st

record Ran (st ms after : List Mark) : Type 0 where
  sized : Sized after
  tells : Tells after
  added : (q : Path) → added_at after q ≡ added_onto q ms (added_at st q)
  made : {m : Mark} → Among m after → Among m st ⊎ Among m ms
  stays : {m : Mark} → Among m st → Among m after
  joins : {m : Mark} → Among m ms → Among m after

ran : (st ms after : List Mark) → Sized st → Tells st → take_all st ms ≡ Some after → Ran st ms after
ran st [] after h t e = let same : st ≡ after = cc in
    rw (← same) (record { sized = h; tells = t; added = λ q. refl; made = λ a. inl a; stays = λ a. a; joins = λ a. elim a [ ] })
ran st (m ∷ ms) after h t e =
    go (fits m.kind (standing_at st m.path)) refl
    (λ f. ran (m ∷ st) ms after (sized_more m.path m.kind st h f) (tells_more m st t f)) e
  where
    more : Ran (m ∷ st) ms after → Ran st (m ∷ ms) after
    more r = record {
      sized = r.sized;
      tells = r.tells;
      added = r.added;
      made = λ a. from (r.made a);
      stays = λ a. r.stays (next a);
      joins = λ a. join a;
    }
      where
        join : {x : Mark} → Among x (m ∷ ms) → Among x after
        join first = r.stays first
        join (next a) = r.joins a

        from : {x : Mark} → Among x (m ∷ st) ⊎ Among x ms → Among x st ⊎ Among x (m ∷ ms)
        from (inl first) = inr first
        from (inl (next a)) = inl a
        from (inr a) = inr (next a)

    go : (b : Bool) → fits m.kind (standing_at st m.path) ≡ b
        → (fits m.kind (standing_at st m.path) ≡ true → take_all (m ∷ st) ms ≡ Some after → Ran (m ∷ st) ms after)
        → cond b (take_all (m ∷ st) ms) None ≡ Some after → Ran st (m ∷ ms) after
    go true f ih e = more (ih f e)
    go false f ih e = cc

then_some : {A B : Type 0} (o : Option A) (f : A → Option B) (y : B) → and_then o f ≡ Some y
    → (x : A) × (o ≡ Some x) × (f x ≡ Some y)
then_some None f y e = cc
then_some (Some x) f y e = (x, refl, e)

later_made : {s : Section} {b : List Section} {m : Mark} → Made b m → Made (s ∷ b) m
later_made h = record {
  section = h.section;
  earlier = h.earlier;
  stood = before h.stood;
  keyed = h.keyed;
  marked = h.marked;
}

kept_one : {i : Section} {e : List Section} {s : Section} {b : List Section} (m : Mark) (st after : List Mark)
    → Stood i e (s ∷ b) → (Stood i e b → Among m (marks (placed_after (offsets e) i)) → Among m st)
    → (Among m st → Among m after) → (Among m (marks (placed_after (offsets b) s)) → Among m after)
    → Among m (marks (placed_after (offsets e) i)) → Among m after
kept_one m st after here f g h a = h a
kept_one m st after (before x) f g h a = g (f x a)

past_one : (s : Section) (b : List Section) (st after : List Mark) → Past b st → is_keyed s ≡ true
    → enter s st ≡ Some after → Past (s ∷ b) after
past_one s b st after h k e = go (rows_clash s.rows) (sym grown ∙ e)
  where
    l : Placed
    l = placed_after (offsets b) s

    grown : enter s st ≡ (if rows_clash s.rows then None else take_all st (marks l))
    grown = enter_grows s st h.sized ∙ ap (λ l. if rows_clash s.rows then None else take_all st (marks l))
        (offset_same (λ p. added_at st p) (λ p. elements_at p (offsets b)) h.counted s)

    here_made : {m : Mark} → Among m (marks l) → Made (s ∷ b) m
    here_made a = record { section = s; earlier = b; stood = here; keyed = k; marked = a }

    from : {m : Mark} → Among m st ⊎ Among m (marks l) → Made (s ∷ b) m
    from (inl a) = later_made (h.made a)
    from (inr a) = here_made a

    past : Ran st (marks l) after → Past (s ∷ b) after
    past r = record {
      sized = r.sized;
      tells = r.tells;
      counted = λ q. r.added q ∙ onto_marks l.element l.rows l.target q (added_at st q) ∙
          ap (λ n. if adds_element l.element && path_eq l.target q then suc n else n) (h.counted q);
      made = λ a. from (r.made a);
      kept = λ x a. kept_one _ st after x (λ y c. h.kept y c) (λ c. r.stays c) (λ c. r.joins c) a;
    }

    go : (c : Bool) → (if c then None else take_all st (marks l)) ≡ Some after → Past (s ∷ b) after
    go true f = cc
    go false f = past (ran st (marks l) after h.sized h.tells f)

past_from : (ss b : List Section) (st after : List Mark) → Past b st → all_keyed ss ≡ true
    → enter_all ss st ≡ Some after → Past (onto ss b) after
past_from [] b st after h k e = let same : st ≡ after = cc in rw (← same) h
past_from (s ∷ ss) b st after h k e =
    let x : (x : List Mark) × (enter s st ≡ Some x) × (enter_all ss x ≡ Some after) =
    then_some (enter s st) (λ st. enter_all ss st) after e in
    let a : (is_keyed s ≡ true) × (all_keyed ss ≡ true) = and_parts _ _ k in
    past_from ss (s ∷ b) x.0 after (past_one s b st x.0 h a.0 x.1) a.1 x.2

none_past : Past [] []
none_past = record {
  sized = λ p. refl;
  tells = tells_none;
  counted = λ q. refl;
  made = λ a. elim a [ ];
  kept = λ x a. elim x [ ];
}

-- after a list that was entered
pub entered : (ss : List Section) (st : List Mark) → all_keyed ss ≡ true → enter_all ss [] ≡ Some st
    → Past (onto ss []) st
entered ss st k e = past_from ss [] [] st none_past k e
