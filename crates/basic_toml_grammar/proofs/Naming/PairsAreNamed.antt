-- The faults of a section and an earlier one stand in the list of named clashes.
use Rattle.std.proofs.Common.{◌≡◌, suc, Bool, true, false, List, [], ◌∷◌, ◌++◌, refl, ap, sym, subst}
use Rattle.std.proofs.Common.{inl, inr, arith, length}
use Rattle.std.specs.Prelude.{◌⊎◌, ◌-◌, if◌then◌else◌, Contains}
use Rattle.std.specs.List.{flat_map}
use Rattle.std.proofs.lemmas.Bool.{false≢true}
use Rattle.basic_toml_value.specs.Data.{Data}
use Rattle.basic_toml_grammar.specs.Sections.{Key, texts, Rows, Section}
use Rattle.basic_toml_grammar.specs.Steps.{path_eq, steps_of}
use Rattle.basic_toml_grammar.specs.IndexedPath.{Located, located, located_after, located_from}
use Rattle.basic_toml_grammar.specs.SectionClash.{target, same_path, array_on_cut, row_on_path, row_crossed}
use Rattle.basic_toml_grammar.specs.Faults.{Fault}
use Rattle.basic_toml_grammar.specs.NamedClash.{table_fault, array_fault, path_faults, cut_faults, crossing_fault}
use Rattle.basic_toml_grammar.specs.NamedClash.{row_faults, pair_faults, section_faults, first_of_two, clash_faults}
use Rattle.basic_toml_grammar.specs.NamedClash.{dotted_faults, repeated_faults_of, NamesClash}
use Rattle.basic_toml_grammar.proofs.AmongElements.{Among, first, next, among_left, among_right}
use Rattle.basic_toml_grammar.proofs.Clash.MarksTellPlaces.{RowOf, this_one, a_later}
use Rattle.basic_toml_grammar.proofs.Clash.SectionsLeaveMarks.{Stood, here, before, onto}

pub when : {A : Type 0} (b : Bool) (f : A) → b ≡ true → Among f (if b then f ∷ [] else [])
when true f e = first
when false f e = absurd (false≢true e)

-- of two sections in order
pub same_path_fault : (i j : Located) → same_path i j ≡ true → Among (table_fault j.section) (pair_faults i j)
same_path_fault i j e =
    among_left (row_faults i i.section.rows j true ++ row_faults j j.section.rows i false)
    (among_left (cut_faults i j j.section ++ cut_faults j i j.section) (when (same_path i j) _ e))

cut_fault : (i j : Located) (later : Section) (b : Bool) → array_on_cut i j ≡ true → path_eq i.path (target j) ≡ b
    → Among (if b then table_fault later else array_fault later) (cut_faults i j later)
cut_fault i j later b e f =
    subst (λ b. Among (if b then table_fault later else array_fault later) (cut_faults i j later)) f
    (when (array_on_cut i j) _ e)

pub array_later_fault : (i j : Located) (b : Bool) → array_on_cut i j ≡ true → path_eq i.path (target j) ≡ b
    → Among (if b then table_fault j.section else array_fault j.section) (pair_faults i j)
array_later_fault i j b e f =
    among_left (row_faults i i.section.rows j true ++ row_faults j j.section.rows i false)
    (among_right (path_faults i j) (among_left (cut_faults j i j.section) (cut_fault i j j.section b e f)))

pub array_before_fault : (i j : Located) (b : Bool) → array_on_cut j i ≡ true → path_eq j.path (target i) ≡ b
    → Among (if b then table_fault j.section else array_fault j.section) (pair_faults i j)
array_before_fault i j b e f =
    among_left (row_faults i i.section.rows j true ++ row_faults j j.section.rows i false)
    (among_right (path_faults i j) (among_right (cut_faults i j j.section) (cut_fault j i j.section b e f)))

-- of a row and a header
pub on_path_fault : {rs : Rows} {keys : List Key} {v : Data} (i j : Located) (b : Bool) → RowOf rs keys v
    → row_on_path i.path (steps_of (texts keys)) j ≡ true
    → Among (crossing_fault (length i.section.header) (length keys) keys j.section.header b) (row_faults i rs j b)
on_path_fault {rs = rs} i j b this_one e =
    among_left _ (among_left _ (when (row_on_path i.path _ j) _ e))
on_path_fault i j b (a_later h) e = among_right _ (on_path_fault i j b h e)

pub crossed_fault : {rs : Rows} {keys : List Key} {v : Data} (i j : Located) (b : Bool) → RowOf rs keys v
    → row_crossed i.path (steps_of (texts keys)) j ≡ true
    → Among (crossing_fault (length i.section.header) (length j.section.header - length i.section.header) keys
    j.section.header b) (row_faults i rs j b)
crossed_fault i j b this_one e = among_left _ (among_right _ (when (row_crossed i.path _ j) _ e))
crossed_fault i j b (a_later h) e = among_right _ (crossed_fault i j b h e)

pub row_before_fault : {f : Fault} (i j : Located) → Among f (row_faults i i.section.rows j true)
    → Among f (pair_faults i j)
row_before_fault i j a =
    among_right (path_faults i j ++ (cut_faults i j j.section ++ cut_faults j i j.section))
    (among_left (row_faults j j.section.rows i false) a)

pub row_later_fault : {f : Fault} (i j : Located) → Among f (row_faults j j.section.rows i false)
    → Among f (pair_faults i j)
row_later_fault i j a =
    among_right (path_faults i j ++ (cut_faults i j j.section ++ cut_faults j i j.section))
    (among_right (row_faults i i.section.rows j true) a)

-- a fault of a section and one of those before it
pub record PairFault (b : List Section) (s : Section) (f : Fault) : Type 0 where
  pub section : Section
  pub earlier : List Section
  pub stood : Stood section earlier b
  pub among : Among f (pair_faults (located_after earlier section) (located_after b s))

located_or : {i : Section} {e : List Section} {s : Section} {b : List Section} (ss : List Section)
    → Stood i e (s ∷ b) → Among (located_after e i) (located_from b (s ∷ ss)) ⊎ Stood i e b
located_or ss here = inl first
located_or ss (before h) = inr h

among_located : {i : Section} {e : List Section} (ss b : List Section) → Stood i e (onto ss b)
    → Among (located_after e i) (located_from b ss) ⊎ Stood i e b
among_located [] b h = inr h
among_located {i = i} {e = e} (s ∷ ss) b h = go (among_located ss (s ∷ b) h)
  where
    go : Among (located_after e i) (located_from (s ∷ b) ss) ⊎ Stood i e (s ∷ b)
        → Among (located_after e i) (located_from b (s ∷ ss)) ⊎ Stood i e b
    go (inl a) = inl (next a)
    go (inr h) = located_or ss h

none_stood : {i : Section} {e : List Section} {ls : List Located}
    → Among (located_after e i) ls ⊎ Stood i e [] → Among (located_after e i) ls
none_stood (inl a) = a
none_stood (inr h) = elim h [ ]

located_split : (ss b : List Section) (s : Section) (later : List Section)
    → located_from b (ss ++ s ∷ later) ≡ located_from b ss
    ++ located_after (onto ss b) s ∷ located_from (s ∷ onto ss b) later
located_split [] b s later = refl
located_split (x ∷ ss) b s later = ap (λ ls. located_after b x ∷ ls) (located_split ss (x ∷ b) s later)

flat_among : {A B : Type 0} {f : B} {x : A} (g : A → List B) (xs : List A) → Among x xs → Among f (g x)
    → Among f (flat_map g xs)
flat_among g [] h a = elim h [ ]
flat_among g (x ∷ xs) first a = among_left (flat_map g xs) a
flat_among g (x ∷ xs) (next h) a = among_right (g x) (flat_among g xs h a)

pairs_among : {f : Fault} {i : Located} (ls : List Located) (j : Located) (ms : List Located) → Among i ls
    → Among f (pair_faults i j) → Among f (section_faults (ls ++ j ∷ ms))
pairs_among [] j ms h a = elim h [ ]
pairs_among (i ∷ ls) j ms first a =
    among_left (section_faults (ls ++ j ∷ ms)) (flat_among (pair_faults i) (ls ++ j ∷ ms) (among_right ls first) a)
pairs_among (i ∷ ls) j ms (next h) a =
    among_right (flat_map (pair_faults i) (ls ++ j ∷ ms)) (pairs_among ls j ms h a)

contains : {f : Fault} (fs : List Fault) → Among f fs → Contains fs f
contains [] h = elim h [ ]
contains (f ∷ fs) first = (0, omega arith, refl)
contains (g ∷ fs) (next h) = more (contains fs h)
  where
    more : {f : Fault} → Contains fs f → Contains (g ∷ fs) f
    more c = (suc c.0, (let l = c.1 in omega arith), c.2)

-- no dotted fault stands in the list
abbrev pub NoneDotted : List Section → Type 0
NoneDotted sections = flat_map (λ s. dotted_faults s.rows) sections ≡ []

after_dotted : {f : Fault} (sections : List Section) → NoneDotted sections
    → Among f (flat_map repeated_faults_of sections ++ section_faults (located sections)) → NamesClash sections f
after_dotted {f = f} sections e a = contains (clash_faults sections)
    (subst (λ ds. Among f (first_of_two ds (flat_map repeated_faults_of sections ++ section_faults (located sections))))
    (sym e) a)

pub pair_named : {f : Fault} (ss : List Section) (s : Section) (later : List Section)
    → NoneDotted (ss ++ s ∷ later) → PairFault (onto ss []) s f → NamesClash (ss ++ s ∷ later) f
pair_named {f = f} ss s later e h =
    after_dotted (ss ++ s ∷ later) e
    (among_right (flat_map repeated_faults_of (ss ++ s ∷ later))
    (subst (λ ls. Among f (section_faults ls)) (sym (located_split ss [] s later))
    (pairs_among (located_from [] ss) (located_after (onto ss []) s) (located_from (s ∷ onto ss []) later)
    (none_stood (among_located ss [] h.stood)) h.among)))

pub repeat_named : {f : Fault} (ss : List Section) (s : Section) (later : List Section)
    → NoneDotted (ss ++ s ∷ later) → Among f (repeated_faults_of s) → NamesClash (ss ++ s ∷ later) f
repeat_named ss s later e a =
    after_dotted (ss ++ s ∷ later) e
    (among_left (section_faults (located (ss ++ s ∷ later)))
    (flat_among repeated_faults_of (ss ++ s ∷ later) (among_right ss first) a))
