-- After a gap of an array no line feed stands; only a value or what follows an element has to come there.
use Rattle.std.proofs.Common.{◌≡◌, ◌⊎◌, inl, inr, ◌==◌, ◌||◌, Bool, true, false, cond, [], ◌∷◌, refl, ap}
use Rattle.std.specs.Prelude.{not}
use Rattle.std.proofs.lemmas.Bool.{or_parts, false≢true}
use Rattle.basic_toml_tokens.specs.Text.{Text, is_blank, is_comment}
use Rattle.basic_toml_grammar.specs.Grammar.{after_gap_from}
use Rattle.basic_toml_grammar.specs.Holes as holes
use Rattle.basic_toml_grammar.specs.Holes.{Hole, HoleInValue, HoleInElements, HoleInFields, HoleInFieldsOn, HoleInRow}
use Rattle.basic_toml_grammar.specs.Holes.{HoleInKeys, HoleInRows, HoleInHeader, HoleInSections, HoleInText}
use Rattle.basic_toml_grammar.proofs.Grammar.EndChangesNothing.{stops}
use Rattle.basic_toml_grammar.proofs.Completion.Fillers.{value_gap, elements_gap, fields_gap, fields_on_gap, row_gap}
use Rattle.basic_toml_grammar.proofs.Completion.Fillers.{rows_gap, sections_gap, text_gap}
use Rattle.basic_toml_grammar.proofs.Completion.HeadersFollow.{rows_open, header_opens, sections_open, text_opens}

-- no line feed stands there
abbrev pub NoFeed : Text → Type 0
NoFeed text = stops (λ c. c == 10) text ≡ true

gap_stops : (inside : Bool) (text : Text) → NoFeed (after_gap_from is_comment inside text)
gap_stops inside [] = refl
gap_stops true (x ∷ text) = go (x.1 == 10) refl (is_comment x.1) (gap_stops false text) (gap_stops true text)
  where
    go : (a : Bool) → (x.1 == 10) ≡ a → (b : Bool) → NoFeed (after_gap_from is_comment false text)
        → NoFeed (after_gap_from is_comment true text)
        → NoFeed (cond a (after_gap_from is_comment false text) (cond b (after_gap_from is_comment true text) (x ∷ text)))
    go true e b out within = out
    go false e true out within = within
    go false e false out within = ap not e
gap_stops false (x ∷ text) =
    go (is_blank x.1 || x.1 == 10) refl (x.1 == 35) (gap_stops false text) (gap_stops true text)
  where
    go : (a : Bool) → (is_blank x.1 || x.1 == 10) ≡ a → (b : Bool) → NoFeed (after_gap_from is_comment false text)
        → NoFeed (after_gap_from is_comment true text)
        → NoFeed (cond a (after_gap_from is_comment false text) (cond b (after_gap_from is_comment true text) (x ∷ text)))
    go true e b out within = out
    go false e true out within = within
    go false e false out within = ap not (or_parts (is_blank x.1) (x.1 == 10) e).1

-- what stands after such a gap, and what has to come
pub record AfterGap (h : Hole) (at : Text) : Type 0 where
  pub no_feed : NoFeed at
  pub hole : (h ≡ Hole.value) ⊎ (h ≡ Hole.after_element)

mutual
  value_after : {h : Hole} {text at : Text} (d : HoleInValue text h at) → value_gap d ≡ true → AfterGap h at
  value_after holes.this_value e = absurd (false≢true e)
  value_after (holes.array {next = next} s d) e = elements_after d (gap_stops false next) e
  value_after (holes.inline s d) e = fields_after d e

  elements_after : {h : Hole} {text at : Text} (d : HoleInElements text h at) → NoFeed text → elements_gap d ≡ true
      → AfterGap h at
  elements_after (holes.in_element m holes.this_value) n e = record { no_feed = n; hole = inl refl }
  elements_after (holes.in_element m (holes.array {next = next} s d)) n e = elements_after d (gap_stops false next) e
  elements_after (holes.in_element m (holes.inline s d)) n e = fields_after d e
  elements_after (holes.after_this {mid = mid} v) n e = record { no_feed = gap_stops false mid; hole = inr refl }
  elements_after (holes.later_element {next = next} v s d) n e = elements_after d (gap_stops false next) e

  fields_after : {h : Hole} {text at : Text} (d : HoleInFields text h at) → fields_gap d ≡ true → AfterGap h at
  fields_after (holes.fields m d) e = fields_on_after d e

  fields_on_after : {h : Hole} {text at : Text} (d : HoleInFieldsOn text h at) → fields_on_gap d ≡ true
      → AfterGap h at
  fields_on_after (holes.in_row d) e = row_after d e
  fields_on_after (holes.after_row w) e = absurd (false≢true e)
  fields_on_after (holes.later_row w s d) e = fields_on_after d e

  row_after : {h : Hole} {text at : Text} (d : HoleInRow text h at) → row_gap d ≡ true → AfterGap h at
  row_after (holes.in_keys d) e = absurd (false≢true e)
  row_after (holes.after_keys ks) e = absurd (false≢true e)
  row_after (holes.in_value ks s d) e = value_after d e

rows_after : {h : Hole} {text at : Text} (d : HoleInRows text h at) → rows_gap d ≡ true → AfterGap h at
rows_after (holes.this_row b c m d) e = row_after d e
rows_after (holes.after_comment s) e = absurd (false≢true e)
rows_after (holes.after_row w) e = absurd (false≢true e)
rows_after (holes.after_empty x d) e = rows_after d e
rows_after (holes.later_row w x d) e = rows_after d e

sections_after : {h : Hole} {text at : Text} (d : HoleInSections text h at) → sections_gap d ≡ true → AfterGap h at
sections_after (holes.in_header d) e = absurd (false≢true e)
sections_after (holes.after_header w) e = absurd (false≢true e)
sections_after (holes.in_rows w x d) e = rows_after d e
sections_after (holes.later_section w x rs d) e = sections_after d e

pub after_gap_is : {h : Hole} {start at : Text} (d : HoleInText start h at) → text_gap d ≡ true → AfterGap h at
after_gap_is (holes.root d) e = rows_after d e
after_gap_is (holes.headed rs d) e = sections_after d e

-- so it is no other hole
pub loose : {h : Hole} {start at : Text} (d : HoleInText start h at) → (h ≡ Hole.value → ⊥)
    → (h ≡ Hole.after_element → ⊥) → text_gap d ≡ false
loose {h = h} d value element = go (text_gap d) refl
  where
    neither : (h ≡ Hole.value) ⊎ (h ≡ Hole.after_element) → ⊥
    neither (inl e) = value e
    neither (inr e) = element e

    go : (b : Bool) → text_gap d ≡ b → text_gap d ≡ false
    go false e = e
    go true e = absurd (neither (after_gap_is d e).hole)

-- after an element a gap stands
keys_no_element : {text at : Text} → HoleInKeys text Hole.after_element at → ⊥
keys_no_element (holes.later_key k s d) = keys_no_element d

mutual
  value_spaced : {text at : Text} (d : HoleInValue text Hole.after_element at) → value_gap d ≡ true
  value_spaced (holes.array s d) = elements_spaced d
  value_spaced (holes.inline s d) = fields_spaced d

  elements_spaced : {text at : Text} (d : HoleInElements text Hole.after_element at) → elements_gap d ≡ true
  elements_spaced (holes.in_element m (holes.array s d)) = elements_spaced d
  elements_spaced (holes.in_element m (holes.inline s d)) = fields_spaced d
  elements_spaced (holes.after_this v) = refl
  elements_spaced (holes.later_element v s d) = elements_spaced d

  fields_spaced : {text at : Text} (d : HoleInFields text Hole.after_element at) → fields_gap d ≡ true
  fields_spaced (holes.fields m d) = fields_on_spaced d

  fields_on_spaced : {text at : Text} (d : HoleInFieldsOn text Hole.after_element at) → fields_on_gap d ≡ true
  fields_on_spaced (holes.in_row d) = row_spaced d
  fields_on_spaced (holes.later_row w s d) = fields_on_spaced d

  row_spaced : {text at : Text} (d : HoleInRow text Hole.after_element at) → row_gap d ≡ true
  row_spaced (holes.in_keys d) = absurd (keys_no_element d)
  row_spaced (holes.in_value ks s d) = value_spaced d

rows_spaced : {text at : Text} (d : HoleInRows text Hole.after_element at) → rows_gap d ≡ true
rows_spaced (holes.this_row b c m d) = row_spaced d
rows_spaced (holes.after_empty x d) = rows_spaced d
rows_spaced (holes.later_row w x d) = rows_spaced d

header_no_element : {text at : Text} → HoleInHeader text Hole.after_element at → ⊥
header_no_element (holes.table_keys s m d) = keys_no_element d
header_no_element (holes.array_keys s t d) = keys_no_element d

sections_spaced : {text at : Text} (d : HoleInSections text Hole.after_element at) → sections_gap d ≡ true
sections_spaced (holes.in_header d) = absurd (header_no_element d)
sections_spaced (holes.in_rows w x d) = rows_spaced d
sections_spaced (holes.later_section w x rs d) = sections_spaced d

pub spaced : {start at : Text} (d : HoleInText start Hole.after_element at) → text_gap d ≡ true
spaced (holes.root d) = rows_spaced d
spaced (holes.headed rs d) = sections_spaced d

-- no header may stand where a line ends
rows_closed : {text at : Text} (d : HoleInRows text Hole.after_line at) → rows_open d ≡ false
rows_closed (holes.this_row b c m (holes.in_keys d)) = absurd (keys_no_line d)
  where
    keys_no_line : {text at : Text} → HoleInKeys text Hole.after_line at → ⊥
    keys_no_line (holes.later_key k s d) = keys_no_line d
rows_closed (holes.this_row b c m (holes.in_value ks s d)) = refl
rows_closed (holes.after_comment s) = refl
rows_closed (holes.after_row w) = refl
rows_closed (holes.after_empty x d) = rows_closed d
rows_closed (holes.later_row w x d) = rows_closed d

header_closed : {text at : Text} (d : HoleInHeader text Hole.after_line at) → header_opens d ≡ false
header_closed (holes.table_keys s m (holes.later_key k t d)) = refl
header_closed (holes.array_keys s t d) = refl

sections_closed : {text at : Text} (d : HoleInSections text Hole.after_line at) → sections_open d ≡ false
sections_closed (holes.in_header d) = header_closed d
sections_closed (holes.after_header w) = refl
sections_closed (holes.in_rows w x d) = rows_closed d
sections_closed (holes.later_section w x rs d) = sections_closed d

pub closed : {start at : Text} (d : HoleInText start Hole.after_line at) → text_opens d ≡ false
closed (holes.root d) = rows_closed d
closed (holes.headed rs d) = sections_closed d
