-- A text without U+007F that had a document by the old rules has the same document.
use Rattle.std.proofs.Common.{◌≡◌, ℕ, ◌==◌, Bool, true, false, not, cond, List, [], ◌∷◌, refl, ap, sym, ◌∙◌, subst}
use Rattle.std.proofs.Common.{Some, None}
use Rattle.std.specs.Prelude.{◌&&◌, ◌||◌, nat_le, if◌then◌else◌}
use Rattle.std.proofs.lemmas.Bool.{and_parts, and_from}
use Rattle.basic_toml_tokens.specs.Text.{Text, StartsWith, after_run, is_blank, is_comment, after_blanks}
use Rattle.basic_toml_value.specs.Data.{Data}
use Rattle.basic_toml_grammar.specs.Sections.{Key, texts, Raw, Elements, Rows, no_rows, row, Section}
use Rattle.basic_toml_grammar.specs.RowClash.{has_row_clash}
use Rattle.basic_toml_grammar.specs.SectionClash.{sections_clash}
use Rattle.basic_toml_grammar.specs.Entering.{rows_keyed, header_keyed, all_keyed}
use Rattle.basic_toml_value.specs.Nesting.{nesting_limit}
use Rattle.basic_toml_grammar.specs.Depth.{depth}
use Rattle.basic_toml_grammar.specs.Grammar.{IsKeys, more, is_wordlike, after_comment_by, after_gap_from, after_gap}
use Rattle.basic_toml_grammar.specs.Grammar.{IsValue, word, string, array, inline, IsElements, close, last, and_more}
use Rattle.basic_toml_grammar.specs.Grammar.{IsFields, some, IsFieldsOn, last_row, more_rows, IsRow, assigned}
use Rattle.basic_toml_grammar.specs.Grammar.{EndsLine, at_feed, at_end, IsRows, over, header_next, empty_line}
use Rattle.basic_toml_grammar.specs.Grammar.{row_line, IsHeader, table, array_of_tables, IsSections, no_more}
use Rattle.basic_toml_grammar.specs.Grammar.{section, with_root, IsSectionListBy}
use Rattle.basic_toml_grammar.specs.Document.{tree_of_sections, document_of, IsDocument}
use Rattle.basic_toml_grammar.specs.OldRules.{was_comment, has_no_delete, sections_clashed, old_document_of}
use Rattle.basic_toml_grammar.specs.OldRules.{WasDocument}
use Rattle.basic_toml_grammar.proofs.Grammar.RestsAreEnds.{IsEnd, all, further, run_ends, gap_ends, comment_ends}
use Rattle.basic_toml_grammar.proofs.Grammar.RestsAreEnds.{string_ends, keys_end, header_ends}
use Rattle.basic_toml_grammar.proofs.SameMeaning.ClashesAreOldClashes.{clashes_kept}

abbrev Free : Text → Type 0
Free text = has_no_delete text ≡ true

tail_free : (x : ℕ × ℕ) (text : Text) → Free (x ∷ text) → Free text
tail_free x text h = (and_parts (not (x.1 == 127)) (has_no_delete text) h).1

sign_free : {c p : ℕ} {text rest : Text} → StartsWith c text p rest → Free text → Free rest
sign_free {c = c} {p = p} {rest = rest} s h = tail_free (p, c) rest (sym (ap has_no_delete s) ∙ h)

end_free : {text rest : Text} → IsEnd text rest → Free text → Free rest
end_free all h = h
end_free (further {x = x} {text = text} e) h = end_free e (tail_free x text h)

run_free : (f : ℕ → Bool) (text : Text) → Free text → Free (after_run f text)
run_free f text h = end_free (run_ends f text) h

-- a character other than U+007F may stand in a comment as it might
comment_kept : (c : ℕ) → not (c == 127) ≡ true → was_comment c ≡ is_comment c
comment_kept c h = ap (λ b. c == 9 || b) (go (nat_le 32 c) (not (c == 127)) h)
  where
    go : (a b : Bool) → b ≡ true → a ≡ (a && b)
    go true b e = sym e
    go false b e = refl

run_kept : (text : Text) → Free text → after_run was_comment text ≡ after_run is_comment text
run_kept [] h = refl
run_kept (x ∷ text) h =
    let p : (not (x.1 == 127) ≡ true) × Free text = and_parts _ _ h in
    ap (λ b. cond b (after_run was_comment text) (x ∷ text)) (comment_kept x.1 p.0) ∙
    ap (λ t. cond (is_comment x.1) t (x ∷ text)) (run_kept text p.1)

after_comment_kept : (text : Text) → Free text → after_comment_by was_comment text ≡ after_comment_by is_comment text
after_comment_kept [] h = refl
after_comment_kept (x ∷ text) h = ap (λ t. cond (x.1 == 35) t (x ∷ text)) (run_kept text (tail_free x text h))

gap_kept : (inside : Bool) (text : Text) → Free text
    → after_gap_from was_comment inside text ≡ after_gap_from is_comment inside text
gap_kept inside [] h = refl
gap_kept true (x ∷ text) h =
    let p : (not (x.1 == 127) ≡ true) × Free text = and_parts _ _ h in
    ap (λ b. cond (x.1 == 10) (after_gap_from was_comment false text)
    (cond b (after_gap_from was_comment true text) (x ∷ text))) (comment_kept x.1 p.0)
    ∙ ap (λ t. cond (x.1 == 10) t (cond (is_comment x.1) (after_gap_from was_comment true text) (x ∷ text)))
    (gap_kept false text p.1)
    ∙ ap (λ t. cond (x.1 == 10) (after_gap_from is_comment false text) (cond (is_comment x.1) t (x ∷ text)))
    (gap_kept true text p.1)
gap_kept false (x ∷ text) h =
    let p : (not (x.1 == 127) ≡ true) × Free text = and_parts _ _ h in
    ap (λ t. cond (is_blank x.1 || x.1 == 10) t (cond (x.1 == 35) (after_gap_from was_comment true text) (x ∷ text)))
    (gap_kept false text p.1)
    ∙ ap (λ t. cond (is_blank x.1 || x.1 == 10) (after_gap_from is_comment false text)
    (cond (x.1 == 35) t (x ∷ text))) (gap_kept true text p.1)

gap_free : (inside : Bool) (text : Text) → Free text → Free (after_gap_from is_comment inside text)
gap_free inside text h = end_free (gap_ends is_comment inside text) h

old_gap_free : (text : Text) → Free text → Free (after_gap was_comment text)
old_gap_free text h = ap has_no_delete (gap_kept false text h) ∙ gap_free false text h

-- a sign after a gap, by the old rule and by the new one
sign_kept : {c p : ℕ} {rest : Text} (text : Text) → Free text → StartsWith c (after_gap was_comment text) p rest
    → StartsWith c (after_gap is_comment text) p rest × Free rest
sign_kept text h s = let t = sym (gap_kept false text h) ∙ s in (t, sign_free t (gap_free false text h))

mutual
  value_kept : {text rest : Text} {p : ℕ} {v : Raw} → IsValue was_comment text p v rest → Free text
      → IsValue is_comment text p v rest × Free rest
  value_kept {text = text} (word s w e) h = (word s w e, run_free is_wordlike text h)
  value_kept (string s) h = (string s, end_free (string_ends s) h)
  value_kept {rest = rest} (array {elements = es} {next = next} s xs) h =
      let free : Free next = sign_free s h in
      let r = elements_kept xs (old_gap_free next free) in
      (array s (subst (λ t. IsElements is_comment t es rest) (gap_kept false next free) r.0), r.1)
  value_kept (inline {next = next} s rs) h = let r = fields_kept rs (run_free is_blank next (sign_free s h)) in
      (inline s r.0, r.1)

  elements_kept : {text rest : Text} {es : Elements} → IsElements was_comment text es rest → Free text
      → IsElements is_comment text es rest × Free rest
  elements_kept (close s) h = (close s, sign_free s h)
  elements_kept (last {mid = mid} v s) h =
      let r = value_kept v h in
      let t = sign_kept mid r.1 s in
      (last r.0 t.0, t.1)
  elements_kept {rest = rest} (and_more {elements = es} {mid = mid} {next = next} v s xs) h =
      let r = value_kept v h in
      let t = sign_kept mid r.1 s in
      let q = elements_kept xs (old_gap_free next t.1) in
      (and_more r.0 t.0 (subst (λ t. IsElements is_comment t es rest) (gap_kept false next t.1) q.0), q.1)

  fields_kept : {text rest : Text} {rs : Rows} → IsFields was_comment text rs rest → Free text
      → IsFields is_comment text rs rest × Free rest
  fields_kept (IsFields.none s) h = (IsFields.none s, sign_free s h)
  fields_kept (some rs) h = let r = fields_on_kept rs h in (some r.0, r.1)

  fields_on_kept : {text rest : Text} {rs : Rows} → IsFieldsOn was_comment text rs rest → Free text
      → IsFieldsOn is_comment text rs rest × Free rest
  fields_on_kept (last_row {mid = mid} r s) h = let x = row_kept r h in
      (last_row x.0 s, sign_free s (run_free is_blank mid x.1))
  fields_on_kept (more_rows {mid = mid} {next = next} r s rs) h =
      let x = row_kept r h in
      let y = fields_on_kept rs (run_free is_blank next (sign_free s (run_free is_blank mid x.1))) in
      (more_rows x.0 s y.0, y.1)

  row_kept : {text rest : Text} {ks : List Key} {p : ℕ} {v : Raw} → IsRow was_comment text ks p v rest → Free text
      → IsRow is_comment text ks p v rest × Free rest
  row_kept (assigned {mid = mid} {next = next} ks s v) h =
      let x = value_kept v (run_free is_blank next (sign_free s (run_free is_blank mid (end_free (keys_end ks) h)))) in
      (assigned ks s x.0, x.1)

ends_kept : {text next : Text} → EndsLine was_comment text next → Free text → EndsLine is_comment text next × Free next
ends_kept {text = text} (at_feed s) h =
    let free : Free (after_blanks text) = run_free is_blank text h in
    let t = sym (after_comment_kept (after_blanks text) free) ∙ s in
    (at_feed t, sign_free t (end_free (comment_ends is_comment (after_blanks text)) free))
ends_kept {text = text} (at_end s) h =
    (at_end (sym (after_comment_kept (after_blanks text) (run_free is_blank text h)) ∙ s), refl)

rows_kept : {text rest : Text} {rs : Rows} → IsRows was_comment text rs rest → Free text
    → IsRows is_comment text rs rest × Free rest
rows_kept over h = (over, h)
rows_kept (header_next s) h = (header_next s, h)
rows_kept (empty_line e rs) h =
    let x = ends_kept e h in
    let y = rows_kept rs x.1 in
    (empty_line x.0 y.0, y.1)
rows_kept (row_line {text = text} r e rs) h =
    let x = row_kept r (run_free is_blank text h) in
    let y = ends_kept e x.1 in
    let z = rows_kept rs y.1 in
    (row_line x.0 y.0 z.0, z.1)

sections_kept : {text : Text} {ss : List Section} → IsSections was_comment text ss → Free text
    → IsSections is_comment text ss
sections_kept no_more h = no_more
sections_kept (section {text = text} i e rs ss) h =
    let x = ends_kept e (end_free (header_ends i) (run_free is_blank text h)) in
    let y = rows_kept rs x.1 in
    section i x.0 y.0 (sections_kept ss y.1)

-- the section list of a text without U+007F
list_kept : {text : Text} {ss : List Section} → IsSectionListBy was_comment text ss → Free text
    → IsSectionListBy is_comment text ss
list_kept g h =
    let x = rows_kept g.root h in
    record {
      rows = g.rows;
      headed = g.headed;
      rest = g.rest;
      root = x.0;
      others = sections_kept g.others x.1;
      all =
          g.all;
    }

-- the grammar gives each row a key, and each header
pub some_keys : {text rest : Text} {ks : List Key} → IsKeys text ks rest → (k : Key) × (on : List Key) × (ks ≡ k ∷ on)
some_keys (IsKeys.one {k = k} x) = (k, [], refl)
some_keys (more {k = k} {keys = ks} x s xs) = (k, ks, refl)

row_keyed : (ks : List Key) (p : ℕ) (v : Raw) (rs : Rows) → (k : Key) × (on : List Key) × (ks ≡ k ∷ on)
    → rows_keyed rs ≡ true → rows_keyed (row ks p v rs) ≡ true
row_keyed ks p v rs r h = ap (λ ks. rows_keyed (row ks p v rs)) r.2 ∙ h

keys_there : {comment : ℕ → Bool} {text rest : Text} {ks : List Key} {p : ℕ} {v : Raw}
    → IsRow comment text ks p v rest → (k : Key) × (on : List Key) × (ks ≡ k ∷ on)
keys_there (assigned ks s v) = some_keys ks

grammar_rows_keyed : {comment : ℕ → Bool} {text rest : Text} {rs : Rows} → IsRows comment text rs rest
    → rows_keyed rs ≡ true
grammar_rows_keyed over = refl
grammar_rows_keyed (header_next s) = refl
grammar_rows_keyed (empty_line e rs) = grammar_rows_keyed rs
grammar_rows_keyed (row_line {keys = ks} {p = p} {v = v} {rows = rs} r e xs) =
    row_keyed ks p v rs (keys_there r) (grammar_rows_keyed xs)

grammar_header_keyed : {text rest : Text} {p : ℕ} {ks : List Key} {a : Bool} → IsHeader text p ks a rest
    → header_keyed a (texts ks) ≡ true
grammar_header_keyed (table s ks e) = refl
grammar_header_keyed (array_of_tables s t ks e f) = let r = some_keys ks in ap (λ ks. header_keyed true (texts ks)) r.2

sections_keyed : {comment : ℕ → Bool} {text : Text} {ss : List Section} → IsSections comment text ss
    → all_keyed ss ≡ true
sections_keyed no_more = refl
sections_keyed (section h e rs ss) =
    and_from _ _ (and_from _ _ (grammar_rows_keyed rs) (grammar_header_keyed h)) (sections_keyed ss)

root_keyed : (rs : Rows) (ss : List Section) → rows_keyed rs ≡ true → all_keyed ss ≡ true
    → all_keyed (with_root rs ss) ≡ true
root_keyed no_rows ss h k = k
root_keyed (row ks p v rs) ss h k = and_from _ _ (and_from _ _ h refl) k

pub list_keyed : {comment : ℕ → Bool} {text : Text} {ss : List Section} → IsSectionListBy comment text ss
    → all_keyed ss ≡ true
list_keyed g = ap all_keyed g.all ∙ root_keyed g.rows g.headed (grammar_rows_keyed g.root) (sections_keyed g.others)

-- the document stays
document_kept : (ss : List Section) (t : Data) → all_keyed ss ≡ true → old_document_of ss ≡ Some t
    → document_of ss ≡ Some t
document_kept ss t k e =
    go (has_row_clash ss) (sections_clashed ss) refl (not (nat_le (depth (tree_of_sections ss)) nesting_limit)) e
  where
    go : (a b : Bool) → sections_clashed ss ≡ b → (d : Bool)
        → (if (a || b) || d then None else Some (tree_of_sections ss)) ≡ Some t
        → (if (a || sections_clash ss) || d then None else Some (tree_of_sections ss)) ≡ Some t
    go true b f d e = cc
    go false true f d e = cc
    go false false f true e = cc
    go false false f false e =
        ap (λ c. if c || false then None else Some (tree_of_sections ss)) (clashes_kept ss k f) ∙ e

pub old_documents : (text : Text) (t : Data) → has_no_delete text ≡ true → WasDocument text t → IsDocument text t
old_documents text t h d =
    record {
      sections = d.sections;
      grammar = list_kept d.grammar h;
      means =
          document_kept d.sections t (list_keyed d.grammar) d.means;
    }
