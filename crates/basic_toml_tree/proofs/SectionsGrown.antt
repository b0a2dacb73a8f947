-- The sections of a list entered one after another: what is known of the tree then, and of one that is not entered, and
-- of a list whose sections give their rows and their headers away.
use Rattle.std.proofs.Common.{◌≡◌, inl, inr, suc, ◌+◌, ◌<◌, ◌≤◌, true, false, List, [], ◌∷◌, ◌++◌, Some, None, is_some}
use Rattle.std.proofs.Common.{refl, ap, sym, ◌∙◌, arith, reverse, ◌⊎◌, ℕ, map, length, Option, ◌==◌, append_assoc}
use Rattle.std.proofs.Common.{append-nil, length-append, drop, get_or, Result, Ok, Err, IsErrAnd, Vec, Global}
use Rattle.std.proofs.lemmas.Bool.{not-true, false≢true, eqb-false}
use Rattle.basic_toml_value.specs.Nesting.{nesting_limit}
use Rattle.basic_toml_grammar.specs.Sections.{Section, texts, Key}
use Rattle.basic_toml_grammar.specs.IndexedPath.{located, located_after, located_from}
use Rattle.basic_toml_grammar.specs.Document.{has_clash}
use Rattle.basic_toml_grammar.specs.Entering.{all_keyed, all_keyed_within}
use Rattle.basic_toml_grammar.specs.Trie.{Trie, nothing, walk, steps_to}
use Rattle.basic_toml_grow.specs.Headers.{IsIn}
use Rattle.basic_toml_tree.specs.FirstStop.{Entered, section}
use Rattle.basic_toml_grow.proofs.HeadersInATrie.{Course, fresh}
use Rattle.basic_toml_grammar.proofs.Tries.SectionsInATrie.{sections_put, sections_data}
use Rattle.basic_toml_grammar.proofs.Tries.StepsArePaths.{at_section, put_append, deep_append}
use Rattle.basic_toml_grammar.proofs.Nesting.DepthIsTheHighestLevel.{fits_where_shallow}
use Rattle.std.proofs.lemmas.List.{map-append, length-map, drop_more, drop_all}
use Rattle.basic_toml_grammar.specs.Faults.{Fault}
use Rattle.basic_toml_grammar.specs.NamedClash.{dotted_fault}
use Rattle.basic_toml_grammar.proofs.Naming.EveryClashIsNamed.{named_clashes}
use Rattle.basic_toml_grammar.specs.Stops.{stop_fault}
use Rattle.basic_toml_explain.specs.Error.{want_of_memory}
use Rattle.basic_toml_read.specs.declared.section.Section as code
use Rattle.basic_toml_read.specs.SectionView.{section_of}
use Rattle.basic_toml_grow.specs.declared.clash.Clash.{Clash}
use Rattle.basic_toml_grow.specs.declared.clash.Clash.TheVariants.{Memory, Deep}
use Rattle.basic_toml_grow.specs.Clash.{Obstacle, too_deep, in_the_way, obstacle_fault, NamesObstacle, NamesClash}
use Rattle.basic_toml_grow.specs.Crossed.{first_crossed}
use Rattle.basic_toml_grow.specs.Obstacles.{first_obstacle}
use Rattle.basic_toml_grow.specs.Item.{table_trie}
use Rattle.basic_toml_grow.specs.declared.item.Table.{Table}
use Rattle.basic_toml_grow.specs.Origins.{table_within, rows_origins}
use Rattle.basic_toml_grow.specs.Ways.{way, GrowsAlong, MarksTable}
use Rattle.basic_toml_grow.proofs.Origins.OriginsSeen.{fresh_within}
use Rattle.basic_toml_tree.specs.declared.tree.Tree.{Tree}
use Rattle.basic_toml_tree.specs.Resolve.{IsResolved, IsUnresolved, memory, refused, head, Resolves}
use Rattle.basic_toml_tree.proofs.Origins.SectionsPlaceOrigins.{way_is, ComeFrom, more_come}
use Rattle.basic_toml_tree.proofs.Nodes.RowNodesTold.{not_led}
use Rattle.basic_toml_tree.proofs.SectionsStopped.{crossed_named, keyed_parts, level_there, as_put}
use Rattle.basic_toml_tree.proofs.TrieData.{table_trie_data}
use Rattle.std.specs.Vec.{vec_len}
use Rattle.basic_toml_read.proofs.RowsHaveKeys.{sections_have_keys}

-- what is entered does not clash
pub no_clash : {sections : List Section} {t : Trie} → Entered sections t → all_keyed sections ≡ true
    → has_clash sections ≡ false
no_clash {sections} entered keyed =
    not-true (has_clash sections) (sym (sections_put sections keyed) ∙ ap is_some (as_put entered.stands).1)

-- These sections are entered in a table, their headers are kept, and what rows and headers made comes from them.
pub record HaveEntered (list : List Section) (headers : List (ℕ × List Key)) (root : Table) : Type 0 where
  pub entered : Entered list (table_trie root)
  pub heads : headers ≡ map head list
  pub origins : all_keyed list ≡ true → ComeFrom (located list) (table_within root).below

pub none_entered : (headers : List (ℕ × List Key)) (root : Table) → headers ≡ [] → table_trie root ≡ fresh
    → HaveEntered [] headers root
none_entered headers root none is = record {
  entered = record { stands = inr (refl, is); shallow = refl };
  heads = none;
  origins = λ keyed. record {
    rows = λ p not. ap (λ w. w.below p) (fresh_within root is);
    headers = λ s p made. absurd (false≢true made);
  };
}

pub entered_resolved : (list : List Section) (tree : Tree) → HaveEntered list tree.headers tree.root
    → all_keyed list ≡ true → all_keyed_within list ≡ true → IsResolved list tree
entered_resolved list tree have keyed within =
    let origins = have.origins keyed in
    let clash = no_clash have.entered keyed in
    let put = as_put have.entered.stands in record {
      clash = clash;
      fits = fits_where_shallow nesting_limit list keyed within clash have.entered.shallow (omega arith);
      grown = sym (table_trie_data tree.root) ∙ put.2 ∙ sections_data list put.0 put.1;
      stands = have.entered.stands;
      heads = have.heads;
      within = within;
      origins = λ p not. origins.rows p (not_led (located list) p not);
      marks = origins.headers;
    }

-- where nothing is there, it is none
pub none_there : (o : Option ℕ) → ((at : ℕ) → o ≡ Some at → ⊥) → o ≡ None
none_there o other = grind arith

-- memory apart, a clash is what is met, and its fault is that of it
clash_is : (o : Option Obstacle) (c : Clash) (fault : Fault) (s : code.Section) → NamesObstacle o c
    → NamesClash s c fault
    → (fault ≡ want_of_memory) ⊎ ((x : Obstacle) × (o ≡ Some x) × (fault ≡ obstacle_fault (section_of s) x))
clash_is o c fault s met (inl is) = inl is
clash_is o Memory fault s met (inr is) = inl is
clash_is o Deep fault s met (inr is) = inr (too_deep, met, is)
clash_is o c fault s met (inr is) = inr (in_the_way met.0, met.1.1, is ∙ ap (stop_fault (section_of s)) (sym met.1.0))

-- what a section does to a table that takes it
pub record GoesIn (s : Section) (n : ℕ) (root after : Table) : Type 0 where
  pub is_in : IsIn (walk s.is_array s.rows (texts s.header) (table_trie root)) s.rows
      (1 + steps_to s.is_array (texts s.header) (table_trie root)) (table_trie after)
  pub grows : GrowsAlong (way s.is_array (texts s.header) (table_trie root)) (rows_origins n s.rows)
      (table_within root).below (table_within after).below
  pub marks : MarksTable n (way s.is_array (texts s.header) (table_trie root)) (table_within after)

-- after these sections are entered
module _ {list : List Section} {headers : List (ℕ × List Key)} {root : Table}
    (have : HaveEntered list headers root) where
  -- no row of them goes on from a value
  pub none_crossed : all_keyed list ≡ true → first_crossed list ≡ None
  none_crossed keyed = none_there (first_crossed list) (λ at is. false≢true (sym (no_clash have.entered keyed)
      ∙ named_clashes list (dotted_fault at) (crossed_named list at is)))

  -- the next section of a list
  pub more_entered : (s : Section) (n : ℕ) (after : Table) (more : List (ℕ × List Key)) → n ≡ length headers
      → GoesIn s n root after → more ≡ headers ++ head s ∷ [] → HaveEntered (list ++ s ∷ []) more after
  more_entered s n after more counted goes pushed = record {
    entered = record {
      stands =
          let was = as_put have.entered.stands in
          let same = ap (λ (c : Course). c.entered) (was.3 s) in
          inl (rw (put_append list (s ∷ []) nothing, was.1, goes.is_in.apart, ← same, goes.is_in.gives) refl);
      shallow =
          let steps = steps_to s.is_array (texts s.header) (table_trie root) in
          let is : 1 + steps ≡ suc steps = omega arith in
          rw (at_section list s [], deep_append, have.entered.shallow)
          (grind (arith, level_there list s (table_trie root) have.entered.stands, rw is at goes.is_in.fits));
    };
    heads = rw (pushed, have.heads, map-append) refl;
    origins = λ keyed.
        let before = (keyed_parts list (s ∷ []) keyed).0 in
        let path = way_is list s (table_trie root) before have.entered.stands in
        let number = counted ∙ ap length have.heads ∙ length-map list head ∙ sym (located_count [] list) in
        rw (at_section list s [])
        (more_come (located list) (located_after (reverse list) s) (table_within root).below (table_within after)
        (have.origins before) (rw (path, number) at goes.grows) (rw (path, number) at goes.marks));
  }
    where
      located_count : (before ss : List Section) → length (located_from before ss) ≡ length ss
      located_count before [] = refl
      located_count before (s ∷ ss) = ap suc (located_count (s ∷ before) ss)

  -- it is not entered, and others come after it
  pub kept_out : (s : code.Section) (later : List Section) → first_crossed (list ++ section_of s ∷ later) ≡ None
      → (c : Clash) (fault : Fault) → NamesObstacle (first_obstacle (section_of s) (table_trie root)) c
      → (now : code.Section) → now.at ≡ s.at → now.header ≡ s.header → NamesClash now c fault
      → IsUnresolved (list ++ section_of s ∷ later) fault
  kept_out s later none c fault met now same header names =
      elim (clash_is (first_obstacle (section_of s) (table_trie root)) c fault now met names) [
        | inl is ↦ rw is (memory (λ none. omega (arith, simp length-append at (ap length none))))
        | inr x ↦ refused (section none (record {
          before = list;
          here = section_of s;
          later = later;
          parts = refl;
          so_far = table_trie root;
          entered = have.entered;
          stopped = (x.0, (x.1, grind (arith, header, same, x.2)));
        }))
      ]

-- What is known after so many sections: those before are entered, and those that are left are as they were.
pub record Goes (old now : List code.Section) (n : ℕ) (headers : List (ℕ × List Key)) (root : Table) : Type 0 where
  pub list : List Section
  pub have : HaveEntered list headers root
  pub number : n ≡ length headers
  pub count : length now ≡ length old
  pub parts : map section_of old ≡ list ++ map section_of (drop n now)

pub begins : (old : List code.Section) (headers : List (ℕ × List Key)) (root : Table) → headers ≡ []
    → table_trie root ≡ fresh → Goes old old 0 headers root
begins old headers root none is = record {
  list = [];
  have = none_entered headers root none is;
  number = rw none refl;
  count = refl;
  parts = refl;
}

-- the list, split at the next section
module _ {old now : List code.Section} {n : ℕ} {headers : List (ℕ × List Key)} {root : Table}
    (goes : Goes old now n headers root) (s : code.Section) (within : n < length now) (is : s ≡ get_or now n s) where
  split : map section_of old ≡ goes.list ++ section_of s ∷ map section_of (drop (n + 1) now)
  split = goes.parts ∙ rw (drop_more now n s within, ← is) refl

  pub goes_on : (next : List code.Section) (more : List (ℕ × List Key)) (after : Table)
      → GoesIn (section_of s) n root after → length next ≡ length now → drop (n + 1) next ≡ drop (n + 1) now
      → more ≡ headers ++ head (section_of s) ∷ [] → Goes old next (n + 1) more after
  goes_on next more after goes_in count same heads = record {
    list = goes.list ++ section_of s ∷ [];
    have = more_entered goes.have (section_of s) n after more goes.number goes_in heads;
    number = omega (arith, goes.number, simp length-append at (ap length heads));
    count = count ∙ goes.count;
    parts = split ∙ rw (same, append_assoc) refl;
  }

  -- a section that is not entered, and its fault
  pub stays_out : first_crossed (map section_of old) ≡ None → (c : Clash) (fault : Fault)
      → NamesObstacle (first_obstacle (section_of s) (table_trie root)) c → (after : code.Section) → after.at ≡ s.at
      → after.header ≡ s.header → NamesClash after c fault → IsUnresolved (map section_of old) fault
  stays_out none =
      rw split (kept_out goes.have s (map section_of (drop (n + 1) now)) (rw split at none))

-- what is answered where memory is refused, where a row goes on from a value, and at the end
pub want_of : (ss : Vec code.Section Global) (r : Result Tree Fault) → (vec_len ss == 0) ≡ false
    → IsErrAnd r (λ f. f ≡ want_of_memory) → Resolves ss.items r
want_of ss (Ok tree) some is = absurd is
want_of ss (Err fault) some is = λ keyed. rw is (memory (λ none.
    eqb-false (vec_len ss) 0 some (omega (arith, ss.ok.0, simp length-map at (ap length none)))))

pub resolved : {old now : List code.Section} {n : ℕ} (tree : Tree) → Goes old now n tree.headers tree.root
    → length old ≤ n → all_keyed (map section_of old) ≡ true → IsResolved (map section_of old) tree
resolved {old} {now} {n} tree goes past keyed =
    let none : drop n now ≡ [] = drop_all n now (omega (arith, goes.count)) in
    let all : map section_of old ≡ goes.list = goes.parts ∙ rw (none, append-nil) refl in
    entered_resolved (map section_of old) tree (rw all goes.have) keyed (sections_have_keys old)
