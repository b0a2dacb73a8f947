-- Data in the order of its text has the same maps, and the same text.
use Rattle.std.proofs.Common.{◌≡◌, ℕ, Bool, true, false, cond, not, ◌&&◌, ◌||◌, List, [], ◌∷◌, ◌++◌, refl, ap, sym, ◌∙◌}
use Rattle.std.proofs.Common.{append_assoc, append-nil}
use Rattle.basic_toml_value.specs.Data.{Data, integer, float, boolean, string, array, table, Items, no_items, item}
use Rattle.basic_toml_value.specs.Data.{Members, no_members, member}
use Rattle.basic_toml_value.specs.SameMaps.{Takes, here, later, SameMaps, same_integer, same_float, same_boolean}
use Rattle.basic_toml_value.specs.SameMaps.{same_string, same_array, same_table, SameItems, no_more, one_more}
use Rattle.basic_toml_value.specs.SameMaps.{SameMembers, none_left, taken, same_maps-refl}
use Rattle.basic_toml_layout.specs.Layout.{table_header, element_header}
use Rattle.basic_toml_layout.specs.Document.{are_tables, is_row, has_row, is_header_due, Style, row_text, rows_text}
use Rattle.basic_toml_layout.specs.Document.{sections_text, section_text, elements_text, element_text, table_text}
use Rattle.basic_toml_layout.specs.Document.{document_text}
use Rattle.basic_toml_layout.specs.TextOrder.{followed_by, rows_of, sections_of, in_order, all_in_order, text_order}
use Rattle.basic_toml_layout.proofs.OrderedText.{or_false}

-- the same maps
takes_after : (ms ns : Members) (k : List ℕ) (d : Data) → Takes (followed_by ms (member k d ns)) k d (followed_by ms ns)
takes_after no_members ns k d = here k d ns
takes_after (member l e ms) ns k d =
    later l e (followed_by ms (member k d ns)) k d (followed_by ms ns) (takes_after ms ns k d)

member_same : (b : Bool) (k : List ℕ) (x : Data) (ms : Members) → SameMaps x (in_order x)
    → SameMembers ms (text_order ms)
    → SameMembers (member k x ms) (followed_by (cond b (member k x (rows_of ms)) (rows_of ms))
    (cond b (sections_of ms) (member k (in_order x) (sections_of ms))))
member_same true k x ms same others =
    taken k x x ms (member k x (text_order ms)) (text_order ms) (here k x (text_order ms)) (same_maps-refl x) others
member_same false k x ms same others =
    taken k x (in_order x) ms (followed_by (rows_of ms) (member k (in_order x) (sections_of ms))) (text_order ms)
    (takes_after (rows_of ms) (sections_of ms) k (in_order x)) same others

mutual
  section_maps : (d : Data) → SameMaps d (in_order d)
  section_maps (integer z) = same_integer z
  section_maps (float t) = same_float t
  section_maps (boolean b) = same_boolean b
  section_maps (string t) = same_string t
  section_maps (array xs) = same_array xs (all_in_order xs) (all_maps xs)
  section_maps (table ms) = same_table ms (text_order ms) (members_maps ms)

  all_maps : (xs : Items) → SameItems xs (all_in_order xs)
  all_maps no_items = no_more
  all_maps (item d xs) = one_more d (in_order d) xs (all_in_order xs) (section_maps d) (all_maps xs)

  members_maps : (ms : Members) → SameMembers ms (text_order ms)
  members_maps no_members = none_left
  members_maps (member k x ms) = member_same (is_row x) k x ms (section_maps x) (members_maps ms)

pub same_maps : (ms : Members) → SameMaps (table ms) (table (text_order ms))
same_maps ms = section_maps (table ms)

-- a section stays one
tables_stay : (xs : Items) → are_tables (all_in_order xs) ≡ are_tables xs
tables_stay no_items = refl
tables_stay (item (table ms) xs) = tables_stay xs
tables_stay (item x xs) = refl

pub row_stays : (x : Data) → is_row (in_order x) ≡ is_row x
row_stays (array no_items) = refl
row_stays (array (item x xs)) = ap not (tables_stay (item x xs))
row_stays (table ms) = refl
row_stays x = refl

has_after : (ms ss : Members) → has_row (followed_by (rows_of ms) ss) ≡ has_row ms || has_row ss
has_after no_members ss = refl
has_after (member k x ms) ss = go (is_row x) refl (has_after ms ss)
  where
    go : (b : Bool) → is_row x ≡ b → has_row (followed_by (rows_of ms) ss) ≡ has_row ms || has_row ss
        → has_row (followed_by (cond b (member k x (rows_of ms)) (rows_of ms)) ss)
        ≡ (b || has_row ms) || has_row ss
    go true e rest = rw e refl
    go false e rest = rest

no_row_there : (ms : Members) → has_row (sections_of ms) ≡ false
no_row_there no_members = refl
no_row_there (member k x ms) = go (is_row x) refl (no_row_there ms)
  where
    go : (b : Bool) → is_row x ≡ b → has_row (sections_of ms) ≡ false
        → has_row (cond b (sections_of ms) (member k (in_order x) (sections_of ms))) ≡ false
    go true e rest = rest
    go false e rest = rw (row_stays x ∙ e) rest

has_same : (ms : Members) → has_row (text_order ms) ≡ has_row ms
has_same ms = has_after ms (sections_of ms) ∙ ap (λ b. has_row ms || b) (no_row_there ms) ∙ or_false (has_row ms)

-- the header
abbrev is_empty : Members → Bool
is_empty no_members = true
is_empty (member k x ms) = false

due_by : (ms : Members) → is_header_due ms ≡ is_empty ms || has_row ms
due_by no_members = refl
due_by (member k x ms) = refl

some_after : (ms : Members) (k : List ℕ) (x : Data) (ns : Members)
    → is_empty (followed_by ms (member k x ns)) ≡ false
some_after no_members k x ns = refl
some_after (member l y ms) k x ns = refl

empty_same : (ms : Members) → is_empty (text_order ms) ≡ is_empty ms
empty_same no_members = refl
empty_same (member k x ms) = go (is_row x)
  where
    go : (b : Bool) → is_empty (followed_by (cond b (member k x (rows_of ms)) (rows_of ms))
        (cond b (sections_of ms) (member k (in_order x) (sections_of ms)))) ≡ false
    go true = refl
    go false = some_after (rows_of ms) k (in_order x) (sections_of ms)

due_same : (ms : Members) → is_header_due (text_order ms) ≡ is_header_due ms
due_same ms = due_by (text_order ms) ∙ (λ i. empty_same ms i || has_same ms i) ∙ sym (due_by ms)

module _ (style : Style) where
  -- the rows
  rows_after : (ms ss : Members) → rows_text style (followed_by (rows_of ms) ss) ≡ rows_text style ms ++ rows_text style ss
  rows_after no_members ss = refl
  rows_after (member k x ms) ss = go (is_row x) refl (rows_after ms ss)
    where
      go : (b : Bool) → is_row x ≡ b → rows_text style (followed_by (rows_of ms) ss) ≡ rows_text style ms ++ rows_text style ss
          → rows_text style (followed_by (cond b (member k x (rows_of ms)) (rows_of ms)) ss)
          ≡ (cond b (row_text style k x) [] ++ rows_text style ms) ++ rows_text style ss
      go true e rest =
          rw e (ap (λ t. row_text style k x ++ t) rest ∙ sym (append_assoc (row_text style k x) (rows_text style ms) (rows_text style ss)))
      go false e rest = rest

  no_row_text : (ms : Members) → rows_text style (sections_of ms) ≡ []
  no_row_text no_members = refl
  no_row_text (member k x ms) = go (is_row x) refl (no_row_text ms)
    where
      go : (b : Bool) → is_row x ≡ b → rows_text style (sections_of ms) ≡ []
          → rows_text style (cond b (sections_of ms) (member k (in_order x) (sections_of ms))) ≡ []
      go true e rest = rest
      go false e rest = rw (row_stays x ∙ e) rest

  rows_same : (ms : Members) → rows_text style (text_order ms) ≡ rows_text style ms
  rows_same ms =
      rows_after ms (sections_of ms) ∙ ap (λ t. rows_text style ms ++ t) (no_row_text ms) ∙ append-nil (rows_text style ms)

  -- the sections
  sections_after : (ms ss : Members) (path : List (List ℕ)) (is_later : Bool)
      → sections_text style path is_later (followed_by (rows_of ms) ss) ≡ sections_text style path is_later ss
  sections_after no_members ss path is_later = refl
  sections_after (member k x ms) ss path is_later = go (is_row x) refl (sections_after ms ss path is_later)
    where
      go : (b : Bool) → is_row x ≡ b
          → sections_text style path is_later (followed_by (rows_of ms) ss) ≡ sections_text style path is_later ss
          → sections_text style path is_later (followed_by (cond b (member k x (rows_of ms)) (rows_of ms)) ss)
          ≡ sections_text style path is_later ss
      go true e rest = rw e rest
      go false e rest = rest

  section_next : (b : Bool) (k : List ℕ) (x : Data) (ms : Members) (path : List (List ℕ)) (is_later : Bool)
      → is_row x ≡ b → section_text style (k ∷ path) is_later (in_order x) ≡ section_text style (k ∷ path) is_later x
      → ((is_later : Bool) → sections_text style path is_later (sections_of ms) ≡ sections_text style path is_later ms)
      → sections_text style path is_later (cond b (sections_of ms) (member k (in_order x) (sections_of ms)))
      ≡ cond b (sections_text style path is_later ms) (section_text style (k ∷ path) is_later x ++ sections_text style path true ms)
  section_next true k x ms path is_later e own others = others is_later
  section_next false k x ms path is_later e own others =
      rw (row_stays x ∙ e) (λ i. own i ++ others true i)

  -- what stands below the header of a table
  table_same : (ms : Members) (path : List (List ℕ)) (is_later : Bool)
      → ((is_later : Bool) → sections_text style path is_later (sections_of ms) ≡ sections_text style path is_later ms)
      → table_text style path is_later (text_order ms) ≡ table_text style path is_later ms
  table_same ms path is_later own =
      (λ i. rows_same ms i ++ sections_text style path (is_later || has_same ms i) (text_order ms))
      ∙ ap (λ t. rows_text style ms ++ t)
      (sections_after ms (sections_of ms) path (is_later || has_row ms) ∙ own (is_later || has_row ms))

  mutual
    sections_same : (ms : Members) (path : List (List ℕ)) (is_later : Bool)
        → sections_text style path is_later (sections_of ms) ≡ sections_text style path is_later ms
    sections_same no_members path is_later = refl
    sections_same (member k x ms) path is_later =
        section_next (is_row x) k x ms path is_later refl (section_same x (k ∷ path) is_later)
        (λ l. sections_same ms path l)

    section_same : (x : Data) (path : List (List ℕ)) (is_later : Bool)
        → section_text style path is_later (in_order x) ≡ section_text style path is_later x
    section_same (integer z) path is_later = refl
    section_same (float t) path is_later = refl
    section_same (boolean b) path is_later = refl
    section_same (string t) path is_later = refl
    section_same (array xs) path is_later = elements_same xs path is_later
    section_same (table ms) path is_later =
        (λ i. cond (due_same ms i) (table_header is_later path) [] ++ table_same ms path (style.spaced && is_later) (λ l. sections_same ms path l) i)

    elements_same : (xs : Items) (path : List (List ℕ)) (is_later : Bool)
        → elements_text style path is_later (all_in_order xs) ≡ elements_text style path is_later xs
    elements_same no_items path is_later = refl
    elements_same (item x xs) path is_later =
        (λ i. element_same x path is_later i ++ elements_same xs path true i)

    element_same : (x : Data) (path : List (List ℕ)) (is_later : Bool)
        → element_text style path is_later (in_order x) ≡ element_text style path is_later x
    element_same (integer z) path is_later = refl
    element_same (float t) path is_later = refl
    element_same (boolean b) path is_later = refl
    element_same (string t) path is_later = refl
    element_same (array xs) path is_later = refl
    element_same (table ms) path is_later =
        (λ i. element_header is_later path ++ table_same ms path style.spaced (λ l. sections_same ms path l) i)

  -- the whole text
  pub same_document : (ms : Members) → document_text style (text_order ms) ≡ document_text style ms
  same_document ms = table_same ms [] false (λ l. sections_same ms [] l)
