-- Tokens lead over what the grammar has, and up to a hole; and which token is the last.
use Rattle.std.proofs.Common.{◌≡◌, ℕ, Bool, true, false, List, []}
use Rattle.std.proofs.Common.{refl}
use Rattle.basic_toml_tokens.specs.Text.{Text, is_comment}
use Rattle.basic_toml_tokens.specs.TokenAt as token
use Rattle.basic_toml_tokens.specs.TokenAt.{Lexeme, equals, period, comma}
use Rattle.basic_toml_tokens.specs.TokenAt.{newline, left_brace, right_brace, left_bracket, right_bracket}
use Rattle.basic_toml_grammar.specs.Sections.{Key, Raw, Elements, Rows}
use Rattle.basic_toml_grammar.specs.Grammar.{IsKey, bare, quoted, IsKeys, one, more}
use Rattle.basic_toml_grammar.specs.Grammar.{IsValue, IsElements, close, last, and_more}
use Rattle.basic_toml_grammar.specs.Grammar.{IsFields, none, some, IsFieldsOn, last_row, more_rows, IsRow, assigned}
use Rattle.basic_toml_grammar.specs.Grammar.{EndsLine, at_feed, at_end, IsRows, over, header_next, empty_line, row_line}
use Rattle.basic_toml_grammar.specs.Grammar.{IsHeader, table, array_of_tables}
use Rattle.basic_toml_grammar.specs.Grammar.{word as word_here, string as string_here}
use Rattle.basic_toml_grammar.specs.Grammar.{array as array_here, inline as inline_here}
use Rattle.basic_toml_grammar.specs.Holes as holes
use Rattle.basic_toml_grammar.specs.Holes.{Hole, HoleInKeys, HoleInValue, HoleInElements, HoleInFields, HoleInFieldsOn}
use Rattle.basic_toml_grammar.specs.Holes.{HoleInRow, HoleInRows, HoleInHeader, HoleInSections, HoleInText}
use Rattle.basic_toml_grammar.proofs.Grammar.GrammarCarried.{rows_some}
use Rattle.basic_toml_grammar.proofs.Completion.Fillers.{value_gap, elements_gap, fields_gap, fields_on_gap, row_gap}
use Rattle.basic_toml_grammar.proofs.Completion.Fillers.{rows_gap, sections_gap, text_gap}
use Rattle.basic_toml_grammar.proofs.Completion.TextsCompleted.{rows_on, sections_on}
use Rattle.basic_toml_grammar.proofs.Grammar.GrammarIsUnambiguous.{value_heads, fields_heads}
use Rattle.basic_toml_grammar.proofs.Viable.NumbersOnTheWay.{string_sound}
use Rattle.basic_toml_grammar.proofs.Viable.NumbersOnTheWay.{key_sound, word_sound}
use Rattle.basic_toml_grammar.proofs.Viable.RowsHead.{sign_missed, row_begins, bracket_missed}
use Rattle.basic_toml_grammar.proofs.Completion.TokensPass.{Led, LedBy, by_none, by, led, any, no_comment}
use Rattle.basic_toml_grammar.proofs.Completion.TokensPass.{loose, freely, over_sign, over_blanks, over_line, over_gap}
use Rattle.basic_toml_grammar.proofs.Completion.TokensPass.{over_word}

-- a hole of a part is one of the whole
abbrev Into : Text → (Hole → Text → Type 0) → Type 0
Into start HoleIn = (h : Hole) (at : Text) → HoleIn h at → HoleInText start h at

over_key : {start text rest : Text} {end : ℕ} {k : Key} → Led start end text → HoleInText start Hole.key text
    → IsKey text k rest → LedBy start end no_comment rest
over_key {end = end} r d (bare s w) = by r (token.word s w) (key_sound end d (bare s w)) refl
over_key {end = end} r d (quoted s) = by r (token.quoted s) (string_sound end s) refl

over_keys : {start text rest : Text} {end : ℕ} {ks : List Key} → Led start end text → Into start (HoleInKeys text)
    → IsKeys text ks rest → LedBy start end no_comment rest
over_keys r into (one k) = over_key r (into _ _ holes.this_key) k
over_keys r into (more {mid = mid} {next = next} k s ks) =
    over_keys (led (over_blanks {kind = any} next (λ b. refl)
    (over_sign 46 period (led (over_blanks mid (λ b. refl) (over_key r (into _ _ holes.this_key) k))) s refl refl refl)))
    (λ h at d. into h at (holes.later_key k s d)) ks

mutual
  over_value : {start text rest : Text} {end p : ℕ} {v : Raw} → Led start end text → Into start (HoleInValue text)
      → IsValue is_comment text p v rest → LedBy start end no_comment rest
  over_value {text = text} {end = end} r into (word_here s w e) =
      over_word text r (λ left q. word_sound end (into _ _ holes.this_value) s w e q) s w
  over_value {end = end} r into (string_here s) = by r (token.quoted s) (string_sound end s) refl
  over_value r into (array_here {next = next} s es) =
      over_elements (over_gap next (led (over_sign {kind = any} 91 left_bracket r s refl refl refl)))
      (λ h at d. into h at (holes.array s d)) es
  over_value r into (inline_here {next = next} s rs) =
      over_fields (led (over_blanks {kind = any} next (λ b. refl) (over_sign 123 left_brace r s refl refl refl)))
      (λ h at d. into h at (holes.inline s d)) rs

  over_elements : {start text rest : Text} {end : ℕ} {es : Elements} → Led start end text
      → Into start (HoleInElements text) → IsElements is_comment text es rest → LedBy start end no_comment rest
  over_elements r into (close s) = over_sign 93 right_bracket r s refl refl refl
  over_elements r into (last {mid = mid} v s) =
      let m = sign_missed 93 (value_heads is_comment v) refl in
      over_sign 93 right_bracket (over_gap mid (led (over_value r (λ h at d. into h at (holes.in_element m d)) v))) s
      refl refl refl
  over_elements r into (and_more {mid = mid} {next = next} v s es) =
      let m = sign_missed 93 (value_heads is_comment v) refl in
      over_elements (over_gap next (led (over_sign {kind = any} 44 comma
      (over_gap mid (led (over_value r (λ h at d. into h at (holes.in_element m d)) v))) s refl refl refl)))
      (λ h at d. into h at (holes.later_element v s d)) es

  over_fields : {start text rest : Text} {end : ℕ} {rs : Rows} → Led start end text → Into start (HoleInFields text)
      → IsFields is_comment text rs rest → LedBy start end no_comment rest
  over_fields r into (none s) = over_sign 125 right_brace r s refl refl refl
  over_fields r into (some rs) =
      let m = sign_missed 125 (fields_heads is_comment rs) refl in
      over_fields_on r (λ h at d. into h at (holes.fields m d)) rs

  over_fields_on : {start text rest : Text} {end : ℕ} {rs : Rows} → Led start end text
      → Into start (HoleInFieldsOn text) → IsFieldsOn is_comment text rs rest → LedBy start end no_comment rest
  over_fields_on r into (last_row {mid = mid} row s) =
      over_sign 125 right_brace (led (over_blanks mid (λ b. refl)
      (over_row r (λ h at d. into h at (holes.in_row d)) row))) s refl refl refl
  over_fields_on r into (more_rows {mid = mid} {next = next} row s rs) =
      over_fields_on (led (over_blanks {kind = any} next (λ b. refl)
      (over_sign 44 comma (led (over_blanks mid (λ b. refl)
      (over_row r (λ h at d. into h at (holes.in_row d)) row))) s refl refl refl)))
      (λ h at d. into h at (holes.later_row row s d)) rs

  over_row : {start text rest : Text} {end : ℕ} {ks : List Key} {p : ℕ} {v : Raw} → Led start end text
      → Into start (HoleInRow text) → IsRow is_comment text ks p v rest → LedBy start end no_comment rest
  over_row r into (assigned {mid = mid} {next = next} ks s v) =
      over_value (led (over_blanks {kind = any} next (λ b. refl)
      (over_sign 61 equals (led (over_blanks mid (λ b. refl)
      (over_keys r (λ h at d. into h at (holes.in_keys d)) ks))) s refl refl refl)))
      (λ h at d. into h at (holes.in_value ks s d)) v

-- over the end of a line that is not the last
over_end : {start text next : Text} {end : ℕ} → Led start end text → EndsLine is_comment text next → (next ≡ [] → ⊥)
    → LedBy start end loose next
over_end {text = text} r (at_feed s) more_on = over_sign 10 newline (over_line text r) s refl refl refl
over_end r (at_end e) more_on = absurd (more_on refl)

over_rows : {start text rest : Text} {end : ℕ} {rs : Rows} → LedBy start end loose text → Into start (HoleInRows text)
    → IsRows is_comment text rs rest → (rest ≡ [] → ⊥) → LedBy start end loose rest
over_rows r into over more_on = r
over_rows r into (header_next s) more_on = r
over_rows r into (empty_line e xs) more_on =
    over_rows (over_end (led r) e (rows_some xs more_on)) (λ h at d. into h at (holes.after_empty e d)) xs more_on
over_rows r into (row_line {text = text} x e xs) more_on =
    let b = row_begins {text = text} x in
    over_rows (over_end (led (over_row (led (over_blanks text (λ b. refl) r))
    (λ h at d. into h at (holes.this_row b.bracket b.hash b.line_on d)) x)) e (rows_some xs more_on))
    (λ h at d. into h at (holes.later_row x e d)) xs more_on

over_header : {start text rest : Text} {end p : ℕ} {keys : List Key} {a : Bool} → Led start end text
    → Into start (HoleInHeader text) → IsHeader text p keys a rest → Led start end rest
over_header r into (table {next = next} {mid = mid} s ks e) =
    led (over_sign {kind = any} 93 right_bracket (led (over_blanks mid (λ b. refl)
    (over_keys (led (over_blanks {kind = any} next (λ b. refl) (over_sign 91 left_bracket r s refl refl refl)))
    (λ h at d. into h at (holes.table_keys s (bracket_missed next ks) d)) ks))) e refl refl refl)
over_header r into (array_of_tables {inner = inner} {mid = mid} s t ks e f) =
    led (over_sign {kind = any} 93 right_bracket (led (over_sign {kind = any} 93 right_bracket
    (led (over_blanks mid (λ b. refl) (over_keys (led (over_blanks {kind = any} inner (λ b. refl)
    (over_sign 91 left_bracket (led (over_sign {kind = any} 91 left_bracket r s refl refl refl)) t refl refl refl)))
    (λ h at d. into h at (holes.array_keys s t d)) ks))) e refl refl refl)) f refl refl refl)

-- the tokens that may stand last before a hole: after a gap or a line each, before a key one that it does not join
abbrev pub allowed : Hole → Bool → Lexeme → Bool
allowed Hole.key gap l = loose l
allowed Hole.after_line gap l = true
allowed h true l = true
allowed h false l = no_comment l

lead_keys : {start text at : Text} {end : ℕ} {h : Hole} → LedBy start end loose text → Into start (HoleInKeys text)
    → HoleInKeys text h at → LedBy start end (allowed h false) at
lead_keys r into holes.this_key = r
lead_keys r into (holes.later_key {mid = mid} {next = next} k s d) =
    lead_keys (over_blanks next (λ b. refl)
    (over_sign 46 period (led (over_blanks mid (λ b. refl) (over_key (led r) (into _ _ holes.this_key) k))) s refl refl
    refl)) (λ h at d. into h at (holes.later_key k s d)) d

mutual
  lead_value : {start text at : Text} {end : ℕ} {h : Hole} → LedBy start end no_comment text
      → Into start (HoleInValue text) → (d : HoleInValue text h at) → LedBy start end (allowed h (value_gap d)) at
  lead_value r into holes.this_value = r
  lead_value r into (holes.array {next = next} s d) =
      lead_elements (over_gap next (led (over_sign {kind = any} 91 left_bracket (led r) s refl refl refl)))
      (λ h at d. into h at (holes.array s d)) d
  lead_value r into (holes.inline {next = next} s d) =
      lead_fields (over_blanks next (λ b. refl) (over_sign 123 left_brace (led r) s refl refl refl))
      (λ h at d. into h at (holes.inline s d)) d

  lead_elements : {start text at : Text} {end : ℕ} {h : Hole} → Led start end text → Into start (HoleInElements text)
      → (d : HoleInElements text h at) → LedBy start end (allowed h (elements_gap d)) at
  lead_elements r into (holes.in_element m holes.this_value) = freely r
  lead_elements r into (holes.in_element m (holes.array {next = next} s d)) =
      lead_elements (over_gap next (led (over_sign {kind = any} 91 left_bracket r s refl refl refl)))
      (λ h at d. into h at (holes.in_element m (holes.array s d))) d
  lead_elements r into (holes.in_element m (holes.inline {next = next} s d)) =
      lead_fields (over_blanks next (λ b. refl) (over_sign 123 left_brace r s refl refl refl))
      (λ h at d. into h at (holes.in_element m (holes.inline s d))) d
  lead_elements r into (holes.after_this {mid = mid} v) =
      let m = sign_missed 93 (value_heads is_comment v) refl in
      freely (over_gap mid (led (over_value r (λ h at d. into h at (holes.in_element m d)) v)))
  lead_elements r into (holes.later_element {mid = mid} {next = next} v s d) =
      let m = sign_missed 93 (value_heads is_comment v) refl in
      lead_elements (over_gap next (led (over_sign {kind = any} 44 comma
      (over_gap mid (led (over_value r (λ h at d. into h at (holes.in_element m d)) v))) s refl refl refl)))
      (λ h at d. into h at (holes.later_element v s d)) d

  lead_fields : {start text at : Text} {end : ℕ} {h : Hole} → LedBy start end loose text
      → Into start (HoleInFields text) → (d : HoleInFields text h at) → LedBy start end (allowed h (fields_gap d)) at
  lead_fields r into (holes.fields m d) = lead_fields_on r (λ h at d. into h at (holes.fields m d)) d

  lead_fields_on : {start text at : Text} {end : ℕ} {h : Hole} → LedBy start end loose text
      → Into start (HoleInFieldsOn text) → (d : HoleInFieldsOn text h at)
      → LedBy start end (allowed h (fields_on_gap d)) at
  lead_fields_on r into (holes.in_row d) = lead_row r (λ h at d. into h at (holes.in_row d)) d
  lead_fields_on r into (holes.after_row {mid = mid} w) =
      over_blanks mid (λ b. refl) (over_row (led r) (λ h at d. into h at (holes.in_row d)) w)
  lead_fields_on r into (holes.later_row {mid = mid} {next = next} w s d) =
      lead_fields_on (over_blanks next (λ b. refl)
      (over_sign 44 comma (led (over_blanks mid (λ b. refl)
      (over_row (led r) (λ h at d. into h at (holes.in_row d)) w))) s refl refl refl))
      (λ h at d. into h at (holes.later_row w s d)) d

  lead_row : {start text at : Text} {end : ℕ} {h : Hole} → LedBy start end loose text → Into start (HoleInRow text)
      → (d : HoleInRow text h at) → LedBy start end (allowed h (row_gap d)) at
  lead_row r into (holes.in_keys d) = lead_keys r (λ h at d. into h at (holes.in_keys d)) d
  lead_row r into (holes.after_keys {mid = mid} ks) =
      over_blanks mid (λ b. refl) (over_keys (led r) (λ h at d. into h at (holes.in_keys d)) ks)
  lead_row r into (holes.in_value {mid = mid} {next = next} ks s d) =
      lead_value (over_blanks next (λ b. refl)
      (over_sign 61 equals (led (over_blanks mid (λ b. refl)
      (over_keys (led r) (λ h at d. into h at (holes.in_keys d)) ks))) s refl refl refl))
      (λ h at d. into h at (holes.in_value ks s d)) d

lead_rows : {start text at : Text} {end : ℕ} {h : Hole} → LedBy start end loose text → Into start (HoleInRows text)
    → (d : HoleInRows text h at) → LedBy start end (allowed h (rows_gap d)) at
lead_rows r into (holes.this_row {text = text} b c m d) =
    lead_row (over_blanks text (λ b. refl) r) (λ h at d. into h at (holes.this_row b c m d)) d
lead_rows r into (holes.after_comment {text = text} s) = freely (over_line text (led r))
lead_rows r into (holes.after_row {text = text} {mid = mid} w) =
    let b = row_begins {text = text} w in
    freely (over_line mid (led (over_row (led (over_blanks text (λ b. refl) r))
    (λ h at d. into h at (holes.this_row b.bracket b.hash b.line_on d)) w)))
lead_rows r into (holes.after_empty e d) =
    lead_rows (over_end (led r) e (rows_on d)) (λ h at d. into h at (holes.after_empty e d)) d
lead_rows r into (holes.later_row {text = text} w e d) =
    let b = row_begins {text = text} w in
    lead_rows (over_end (led (over_row (led (over_blanks text (λ b. refl) r))
    (λ h at d. into h at (holes.this_row b.bracket b.hash b.line_on d)) w)) e (rows_on d))
    (λ h at d. into h at (holes.later_row w e d)) d

lead_header : {start text at : Text} {end : ℕ} {h : Hole} → Led start end text → Into start (HoleInHeader text)
    → (d : HoleInHeader text h at) → LedBy start end (allowed h false) at
lead_header r into (holes.table_keys {next = next} s m d) =
    lead_keys (over_blanks next (λ b. refl) (over_sign 91 left_bracket r s refl refl refl))
    (λ h at d. into h at (holes.table_keys s m d)) d
lead_header r into (holes.table_end {next = next} {mid = mid} s ks) =
    over_blanks mid (λ b. refl) (over_keys (led (over_blanks {kind = any} next (λ b. refl)
    (over_sign 91 left_bracket r s refl refl refl)))
    (λ h at d. into h at (holes.table_keys s (bracket_missed next ks) d)) ks)
lead_header r into (holes.array_keys {inner = inner} s t d) =
    lead_keys (over_blanks inner (λ b. refl)
    (over_sign 91 left_bracket (led (over_sign {kind = any} 91 left_bracket r s refl refl refl)) t refl refl refl))
    (λ h at d. into h at (holes.array_keys s t d)) d
lead_header r into (holes.array_end {inner = inner} {mid = mid} s t ks) =
    over_blanks mid (λ b. refl) (over_keys (led (over_blanks {kind = any} inner (λ b. refl)
    (over_sign 91 left_bracket (led (over_sign {kind = any} 91 left_bracket r s refl refl refl)) t refl refl refl)))
    (λ h at d. into h at (holes.array_keys s t d)) ks)
lead_header r into (holes.array_last {inner = inner} {mid = mid} s t ks e) =
    over_sign 93 right_bracket (led (over_blanks mid (λ b. refl) (over_keys
    (led (over_blanks {kind = any} inner (λ b. refl)
    (over_sign 91 left_bracket (led (over_sign {kind = any} 91 left_bracket r s refl refl refl)) t refl refl refl)))
    (λ h at d. into h at (holes.array_keys s t d)) ks))) e refl refl refl

lead_sections : {start text at : Text} {end : ℕ} {h : Hole} → LedBy start end loose text
    → Into start (HoleInSections text) → (d : HoleInSections text h at)
    → LedBy start end (allowed h (sections_gap d)) at
lead_sections r into (holes.in_header {text = text} d) =
    lead_header (led (over_blanks text (λ b. refl) r)) (λ h at d. into h at (holes.in_header d)) d
lead_sections r into (holes.after_header {text = text} {mid = mid} w) =
    freely (over_line mid (over_header (led (over_blanks text (λ b. refl) r)) (λ h at d. into h at (holes.in_header d))
    w))
lead_sections r into (holes.in_rows {text = text} w e d) =
    lead_rows (over_end (over_header (led (over_blanks text (λ b. refl) r)) (λ h at d. into h at (holes.in_header d)) w)
    e (rows_on d)) (λ h at d. into h at (holes.in_rows w e d)) d
lead_sections r into (holes.later_section {text = text} w e rs d) =
    lead_sections (over_rows (over_end (over_header (led (over_blanks text (λ b. refl) r))
    (λ h at d. into h at (holes.in_header d)) w) e (rows_some rs (sections_on d)))
    (λ h at d. into h at (holes.in_rows w e d)) rs (sections_on d))
    (λ h at d. into h at (holes.later_section w e rs d)) d

-- up to a hole in a text
pub lead_text : {start at : Text} (end : ℕ) {h : Hole} (d : HoleInText start h at)
    → LedBy start end (allowed h (text_gap d)) at
lead_text end (holes.root d) = lead_rows by_none (λ h at d. holes.root d) d
lead_text end (holes.headed rs d) =
    lead_sections (over_rows by_none (λ h at d. holes.root d) rs (sections_on d)) (λ h at d. holes.headed rs d) d
