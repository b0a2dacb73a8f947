-- With its rows first data is in order; and data that is in order stays as it is.
use Rattle.std.proofs.Common.{◌≡◌, ℕ, Bool, true, false, cond, List, refl, ap, ◌∙◌}
use Rattle.std.proofs.lemmas.Bool.{and_parts, and_from}
use Rattle.basic_toml_value.specs.Data.{Data, integer, float, boolean, string, array, table, Items, no_items, item}
use Rattle.basic_toml_value.specs.Data.{Members, no_members, member}
use Rattle.basic_toml_layout.specs.Sections.{is_section}
use Rattle.basic_toml_order.specs.RowsFirst.{followed_by, rows_first, items_rows_first, rows_of, sections_of}
use Rattle.basic_toml_order.specs.RowsFirst.{members_rows_first, are_sections, are_in_order, is_in_order}
use Rattle.basic_toml_order.specs.RowsFirst.{hold_in_order, lead_in_order}

pub ap2 : {A B C : Type 0} (f : A → B → C) {a a' : A} {b b' : B} → a ≡ a' → b ≡ b' → f a b ≡ f a' b'
ap2 f p q = λ i. f (p i) (q i)

pub is_section-rows_first : (d : Data) → is_section (rows_first d) ≡ is_section d
is_section-rows_first (integer z) = refl
is_section-rows_first (float t) = refl
is_section-rows_first (boolean b) = refl
is_section-rows_first (string t) = refl
is_section-rows_first (array no_items) = refl
is_section-rows_first (array (item (integer z) xs)) = refl
is_section-rows_first (array (item (float t) xs)) = refl
is_section-rows_first (array (item (boolean b) xs)) = refl
is_section-rows_first (array (item (string t) xs)) = refl
is_section-rows_first (array (item (array ys) xs)) = refl
is_section-rows_first (array (item (table ms) xs)) = refl
is_section-rows_first (table ms) = refl

sections_in_order : (ms : Members) → are_sections ms ≡ true → are_in_order ms ≡ true
sections_in_order no_members are = refl
sections_in_order (member k d ms) are = let parts = and_parts _ _ are in
    ap (λ b. cond b (are_sections ms) (are_in_order ms)) parts.0 ∙ parts.1

-- a member more, which is a section or not
module _ (k : List ℕ) (d : Data) (ms : Members) where
  section_more : (b : Bool) → is_section d ≡ b → are_sections (sections_of ms) ≡ true
      → are_sections (cond b (member k (rows_first d) (sections_of ms)) (sections_of ms)) ≡ true
  section_more true is more = and_from _ _ (is_section-rows_first d ∙ is) more
  section_more false is more = more

  row_more : (ns : Members) (b : Bool) → is_section d ≡ b → are_in_order (followed_by (rows_of ms) ns) ≡ true
      → are_in_order (followed_by (cond b (rows_of ms) (member k (rows_first d) (rows_of ms))) ns) ≡ true
  row_more ns true is more = more
  row_more ns false is more =
      ap (λ b. cond b (are_sections (followed_by (rows_of ms) ns)) (are_in_order (followed_by (rows_of ms) ns)))
      (is_section-rows_first d ∙ is) ∙ more

  row_leads : (b : Bool) → is_in_order (rows_first d) ≡ true → lead_in_order (rows_of ms) ≡ true
      → lead_in_order (cond b (rows_of ms) (member k (rows_first d) (rows_of ms))) ≡ true
  row_leads true here more = more
  row_leads false here more = and_from _ _ here more

  section_leads : (b : Bool) → is_in_order (rows_first d) ≡ true → lead_in_order (sections_of ms) ≡ true
      → lead_in_order (cond b (member k (rows_first d) (sections_of ms)) (sections_of ms)) ≡ true
  section_leads true here more = and_from _ _ here more
  section_leads false here more = more

sections_are : (ms : Members) → are_sections (sections_of ms) ≡ true
sections_are no_members = refl
sections_are (member k d ms) = section_more k d ms (is_section d) refl (sections_are ms)

rows_then : (ms ns : Members) → are_in_order ns ≡ true → are_in_order (followed_by (rows_of ms) ns) ≡ true
rows_then no_members ns ordered = ordered
rows_then (member k d ms) ns ordered = row_more k d ms ns (is_section d) refl (rows_then ms ns ordered)

pub members_ordered : (ms : Members) → are_in_order (members_rows_first ms) ≡ true
members_ordered ms = rows_then ms (sections_of ms) (sections_in_order (sections_of ms) (sections_are ms))

lead-followed : (ms ns : Members) → lead_in_order ms ≡ true → lead_in_order ns ≡ true
    → lead_in_order (followed_by ms ns) ≡ true
lead-followed no_members ns here there = there
lead-followed (member k d ms) ns here there = let parts = and_parts _ _ here in
    and_from _ _ parts.0 (lead-followed ms ns parts.1 there)

mutual
  pub ordered : (d : Data) → is_in_order (rows_first d) ≡ true
  ordered (integer z) = refl
  ordered (float t) = refl
  ordered (boolean b) = refl
  ordered (string t) = refl
  ordered (array xs) = items_ordered xs
  ordered (table ms) =
      and_from _ _ (members_ordered ms) (lead-followed (rows_of ms) (sections_of ms) (rows_lead ms) (sections_lead ms))

  items_ordered : (xs : Items) → hold_in_order (items_rows_first xs) ≡ true
  items_ordered no_items = refl
  items_ordered (item d xs) = and_from _ _ (ordered d) (items_ordered xs)

  rows_lead : (ms : Members) → lead_in_order (rows_of ms) ≡ true
  rows_lead no_members = refl
  rows_lead (member k d ms) = row_leads k d ms (is_section d) (ordered d) (rows_lead ms)

  sections_lead : (ms : Members) → lead_in_order (sections_of ms) ≡ true
  sections_lead no_members = refl
  sections_lead (member k d ms) = section_leads k d ms (is_section d) (ordered d) (sections_lead ms)

no_rows : (ms : Members) → are_sections ms ≡ true → rows_of ms ≡ no_members
no_rows no_members are = refl
no_rows (member k d ms) are = let parts = and_parts _ _ are in
    ap (λ b. cond b (rows_of ms) (member k (rows_first d) (rows_of ms))) parts.0 ∙ no_rows ms parts.1

-- a member more stays where it is
member_stays : (k : List ℕ) (d : Data) (ms : Members) (b : Bool)
    → cond b (are_sections ms) (are_in_order ms) ≡ true → rows_first d ≡ d
    → (are_in_order ms ≡ true → members_rows_first ms ≡ ms) → (are_sections ms ≡ true → sections_of ms ≡ ms)
    → followed_by (cond b (rows_of ms) (member k (rows_first d) (rows_of ms)))
    (cond b (member k (rows_first d) (sections_of ms)) (sections_of ms)) ≡ member k d ms
member_stays k d ms true are same rows sections =
    ap (λ rs. followed_by rs (member k (rows_first d) (sections_of ms))) (no_rows ms are)
    ∙ ap2 (member k) same (sections are)
member_stays k d ms false are same rows sections = ap2 (member k) same (rows are)

mutual
  pub stays : (d : Data) → is_in_order d ≡ true → rows_first d ≡ d
  stays (integer z) are = refl
  stays (float t) are = refl
  stays (boolean b) are = refl
  stays (string t) are = refl
  stays (array xs) are = ap array (items_stay xs are)
  stays (table ms) are = let parts = and_parts _ _ are in ap table (members_stay ms parts.0 parts.1)

  pub items_stay : (xs : Items) → hold_in_order xs ≡ true → items_rows_first xs ≡ xs
  items_stay no_items are = refl
  items_stay (item d xs) are = let parts = and_parts _ _ are in
      ap2 item (stays d parts.0) (items_stay xs parts.1)

  pub members_stay : (ms : Members) → are_in_order ms ≡ true → lead_in_order ms ≡ true → members_rows_first ms ≡ ms
  members_stay no_members are lead = refl
  members_stay (member k d ms) are lead = let parts = and_parts _ _ lead in
      member_stays k d ms (is_section d) are (stays d parts.0) (λ rest. members_stay ms rest parts.1)
      (λ rest. sections_stay ms rest parts.1)

  sections_stay : (ms : Members) → are_sections ms ≡ true → lead_in_order ms ≡ true → sections_of ms ≡ ms
  sections_stay no_members are lead = refl
  sections_stay (member k d ms) are lead =
      let parts = and_parts _ _ lead in
      let are' = and_parts _ _ are in
      ap (λ b. cond b (member k (rows_first d) (sections_of ms)) (sections_of ms)) are'.0
      ∙ ap2 (member k) (stays d parts.0) (sections_stay ms are'.1 parts.1)
