-- Where a text is nested too deeply, own: p is the offset of a key or a bracket above the limit, in what stands at the
-- front of a text, and all before it is of the grammar and within the limit. What stands after it is free. A text has one
-- such offset at most (law `deep_stops_are_one`), it is too deep by `IsTooDeepAt` (law `deep_stops_are_too_deep`), and no
-- fault of the grammar is due before it (law `deep_stops_come_first`).
use Rattle.std.specs.Prelude.{◌≤◌, ◌<◌, ℕ, ◌+◌, ◌-◌, Bool, List, ◌∷◌, length}
use Rattle.basic_toml_tokens.specs.Ascii as ascii
use Rattle.basic_toml_tokens.specs.Text.{Text, StartsWith, is_comment, after_blanks}
use Rattle.basic_toml_grammar.specs.Sections.{Key, Raw, Rows, no_rows, row}
use Rattle.basic_toml_grammar.specs.Grammar.{IsKey, IsKeys, after_gap, IsValue, IsRow, EndsLine, IsRows, IsHeader}
use Rattle.basic_toml_grammar.specs.Levels.{value_level, rows_level, section_level}

module _ (limit : ℕ) where
  -- in keys of which the first has this level
  pub data DeepKeys : ℕ → Text → ℕ → Type 0 where
    this_key : {l : ℕ} {k : Key} {text mid : Text} → limit < l → IsKey text k mid → DeepKeys l text k.offset
    later_key : {l p q : ℕ} {k : Key} {text mid next : Text} → l ≤ limit → IsKey text k mid
        → StartsWith ascii.period (after_blanks mid) q next
        → DeepKeys (l + 1) (after_blanks next) p → DeepKeys l text p

  mutual
    -- in a value that something of a level holds
    pub data DeepValue : ℕ → Text → ℕ → Type 0 where
      array : {l p q : ℕ} {text next : Text} → StartsWith ascii.left_bracket text q next → DeepArray (l + 1) q next p
          → DeepValue l text p
      inline : {l p q : ℕ} {text next : Text} → StartsWith ascii.left_brace text q next → DeepInline (l + 1) q next p
          → DeepValue l text p

    -- in an array or an inline table of a level, from after its bracket at an offset
    pub data DeepArray : ℕ → ℕ → Text → ℕ → Type 0 where
      this_bracket : {l q : ℕ} {text : Text} → limit < l → DeepArray l q text q
      elements : {l p q : ℕ} {text : Text} → l ≤ limit → DeepElements l (after_gap is_comment text) p
          → DeepArray l q text p

    pub data DeepInline : ℕ → ℕ → Text → ℕ → Type 0 where
      this_brace : {l q : ℕ} {text : Text} → limit < l → DeepInline l q text q
      fields : {l p q : ℕ} {text : Text} → l ≤ limit → DeepFields l (after_blanks text) p → DeepInline l q text p

    pub data DeepElements : ℕ → Text → ℕ → Type 0 where
      this_element : {l p : ℕ} {text : Text} → DeepValue l text p → DeepElements l text p
      later_element : {l p q r : ℕ} {v : Raw} {text mid next : Text} → IsValue is_comment text q v mid
          → value_level l v ≤ limit
          → StartsWith ascii.comma (after_gap is_comment mid) r next → DeepElements l (after_gap is_comment next) p
          → DeepElements l text p

    pub data DeepFields : ℕ → Text → ℕ → Type 0 where
      this_field : {l p : ℕ} {text : Text} → DeepRow l text p → DeepFields l text p
      later_field : {l p q r : ℕ} {keys : List Key} {v : Raw} {text mid next : Text}
          → IsRow is_comment text keys q v mid
          → rows_level l (row keys q v no_rows) ≤ limit → StartsWith ascii.comma (after_blanks mid) r next
          → DeepFields l (after_blanks next) p → DeepFields l text p

    -- in a row of which the first key has this level
    pub data DeepRow : ℕ → Text → ℕ → Type 0 where
      keys : {l p : ℕ} {text : Text} → DeepKeys l text p → DeepRow l text p
      value : {l p q : ℕ} {keys : List Key} {text mid next : Text} → IsKeys text keys mid
          → l + length keys - 1 ≤ limit
          → StartsWith ascii.equals (after_blanks mid) q next
          → DeepValue (l + length keys - 1) (after_blanks next) p → DeepRow l text p

  -- in lines with rows
  pub data DeepRows : ℕ → Text → ℕ → Type 0 where
    this_row : {l p : ℕ} {text : Text} → DeepRow l (after_blanks text) p → DeepRows l text p
    after_empty : {l p : ℕ} {c : ℕ × ℕ} {text next : Text} → EndsLine is_comment (c ∷ text) next → DeepRows l next p
        → DeepRows l (c ∷ text) p
    later_row : {l p q : ℕ} {keys : List Key} {v : Raw} {text mid next : Text}
        → IsRow is_comment (after_blanks text) keys q v mid
        → rows_level l (row keys q v no_rows) ≤ limit → EndsLine is_comment mid next → DeepRows l next p
        → DeepRows l text p

  -- in a header
  pub data DeepHeader : Text → ℕ → Type 0 where
    table : {p q : ℕ} {text next : Text} → StartsWith ascii.left_bracket text q next
        → DeepKeys 2 (after_blanks next) p → DeepHeader text p
    array_of_tables : {p q r : ℕ} {text next inner : Text} → StartsWith ascii.left_bracket text q next
        → StartsWith ascii.left_bracket next r inner → DeepKeys 2 (after_blanks inner) p → DeepHeader text p

  -- in a section, from its header on
  pub data DeepSection : Text → ℕ → Type 0 where
    header : {p : ℕ} {text : Text} → DeepHeader text p → DeepSection text p
    rows : {p q : ℕ} {keys : List Key} {is_array : Bool} {text mid next : Text} → IsHeader text q keys is_array mid
        → length keys + 1 ≤ limit → EndsLine is_comment mid next → DeepRows (length keys + 1) next p
        → DeepSection text p

  pub data DeepSections : Text → ℕ → Type 0 where
    this_section : {p : ℕ} {text : Text} → DeepSection (after_blanks text) p → DeepSections text p
    later_section : {p q : ℕ} {keys : List Key} {is_array : Bool} {rows : Rows} {text mid next rest : Text}
        → IsHeader (after_blanks text) q keys is_array mid → EndsLine is_comment mid next
        → IsRows is_comment next rows rest
        → section_level (record { at = q; header = keys; is_array = is_array; rows = rows }) ≤ limit
        → DeepSections rest p → DeepSections text p

  -- in a text
  pub data DeepStop : Text → ℕ → Type 0 where
    root : {p : ℕ} {text : Text} → DeepRows 1 text p → DeepStop text p
    headed : {p : ℕ} {rows : Rows} {text rest : Text} → IsRows is_comment text rows rest → rows_level 1 rows ≤ limit
        → DeepSections rest p → DeepStop text p

-- nothing in a text is too deep
abbrev pub IsWithin : ℕ → Text → Type 0
IsWithin limit text = (p : ℕ) → DeepStop limit text p → ⊥
