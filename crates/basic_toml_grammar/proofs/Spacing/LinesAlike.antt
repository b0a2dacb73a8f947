-- Lines, headers and sections of two texts that are alike.
use Rattle.std.proofs.Common.{◌≡◌, ◌⊎◌, inl, inr, ℕ, ◌==◌, Bool, true, false, cond, List, [], ◌∷◌, refl, ap, sym}
use Rattle.std.proofs.Common.{◌∙◌, subst}
use Rattle.std.specs.Prelude.{◌&&◌}
use Rattle.std.proofs.lemmas.Bool.{false≢true, eqb-true}
use Rattle.basic_toml_tokens.specs.Text.{Text, StartsWith, is_comment, after_blanks}
use Rattle.basic_toml_grammar.specs.Sections.{Key, texts, Rows, no_rows, row, Section}
use Rattle.basic_toml_grammar.specs.Grammar.{EndsLine, at_feed, at_end, IsRows, over}
use Rattle.basic_toml_grammar.specs.Grammar.{header_next, empty_line, row_line, IsHeader, table, array_of_tables}
use Rattle.basic_toml_grammar.specs.Grammar.{IsSections, no_more, section, with_root, IsSectionList}
use Rattle.basic_toml_grammar.specs.Respaced.{after_spaces, at_token, is_sign, begins_with_bracket}
use Rattle.basic_toml_grammar.proofs.Grammar.GrammarCarried.{line_before}
use Rattle.basic_toml_grammar.proofs.Grammar.GrammarIsUnambiguous.{sign_same, no_sign, Heads, heads_not, string_heads}
use Rattle.basic_toml_grammar.proofs.Grammar.GrammarIsUnambiguous.{keys_heads, row_heads, no_header}
use Rattle.basic_toml_grammar.proofs.SameMeaning.SameSections.{SameRows, no_more_rows, one_row}
use Rattle.basic_toml_grammar.proofs.SameMeaning.SameSections.{SameSections, no_more_sections, one_section, root_same}
use Rattle.basic_toml_grammar.proofs.Spacing.GapsSkipped.{past_feeds, gap_past, stands, spaces_still}
use Rattle.basic_toml_grammar.proofs.Spacing.GapsSkipped.{past_still, gap_stops}
use Rattle.basic_toml_grammar.proofs.Spacing.GapsSkipped.{spaces_are_blanks, blanks_are_spaces, ends_gap, Lead, lead}
use Rattle.basic_toml_grammar.proofs.Spacing.FrontsAlike.{Alike, both_over, both_feed, both_sign, both_string, After}
use Rattle.basic_toml_grammar.proofs.Spacing.FrontsAlike.{LinesAlike, goes_on, Sign, sign_there, is_seen, seen_parts}
use Rattle.basic_toml_grammar.proofs.Spacing.FrontsAlike.{seen_hash, still, seen_there, blanks_alike}
use Rattle.basic_toml_grammar.proofs.Spacing.FrontsAlike.{sign_after_blanks, key_is_seen, seen_heads, not_over}
use Rattle.basic_toml_grammar.proofs.Spacing.ValuesAlike.{keys_there, row_there}

-- ends of lines
pub record LineThere (rest other : Text) : Type 0 where
  pub next : Text
  pub ends : EndsLine is_comment other next
  pub alike : LinesAlike rest next

-- both over
over_lines : (text other : Text) → at_token text ≡ [] → at_token other ≡ [] → LinesAlike text other
over_lines text other e f = both_over (ap past_feeds e) (ap past_feeds f)

-- the end of a text is near
record Over (other : Text) : Type 0 where
  next : Text
  ends : EndsLine is_comment other next
  nothing_left : at_token next ≡ []

over_there : (other : Text) → past_feeds (after_spaces other) ≡ [] → Over other
over_there other e = go (after_spaces other) refl e
  where
    go : (t : Text) → after_spaces other ≡ t → past_feeds t ≡ [] → Over other
    go [] f h = record { next = []; ends = at_end f; nothing_left = refl }
    go (x ∷ t) f h = by (x.1 == 10) refl h
      where
        by : (b : Bool) → (x.1 == 10) ≡ b → past_feeds (x ∷ t) ≡ [] → Over other
        by false g h = absurd (not_over {next = t} {p = x.0} {c = x.1} h refl g)
        by true g h =
            let feed : x.1 ≡ 10 = eqb-true x.1 10 g in
            record {
              next = t;
              ends = at_feed {p = x.0} (f ∙ ap (λ (n : ℕ). (x.0, n) ∷ t) feed);
              nothing_left = sym (ap (λ b. cond b (at_token t) (x ∷ t)) g) ∙ h;
            }

feed_ends : {b : Bool} {p : ℕ} {t rest : Text} (other : Text) → Alike b t (after_spaces other)
    → StartsWith 10 t p rest → LineThere rest other
feed_ends {rest = rest} other a s = go a refl s
  where
    go : {b : Bool} {t o : Text} {p : ℕ} → Alike b t o → o ≡ after_spaces other → StartsWith 10 t p rest
        → LineThere rest other
    go (both_over h k) e s =
        let x = over_there other (ap past_feeds (sym e) ∙ k) in
        record {
          next = x.next;
          ends = x.ends;
          alike = over_lines rest x.next (sym (ap past_feeds s) ∙ h) x.nothing_left;
        }
    go (both_feed {q = q} {text = text} {other = o} a) e s = record {
      next = o;
      ends = at_feed {p = q} (sym e);
      alike = subst (λ t. LinesAlike t o) (sign_same refl s).2 a;
    }
    go (both_sign {c = c} f g a) e s = absurd (false≢true (ap is_sign (sym (sign_same refl s).1) ∙ f))
    go (both_string x y a) e s = absurd (heads_not (string_heads x) s refl)

pub line_there : {b : Bool} {text rest : Text} (other : Text) → EndsLine is_comment text rest → After b text other
    → LineThere rest other
line_there other (at_feed s) a = feed_ends other a s
line_there {b = b} other (at_end {text = text} e) a =
    go (subst (λ t. Alike b t (after_spaces other)) e a) refl refl
  where
    nothing : {p c : ℕ} {next : Text} → (p, c) ∷ next ≡ [] → ⊥
    nothing {p = p} {c = c} {next = next} h = let g : (p, c) ∷ next ≡ [] = h in cc

    go : {t o : Text} → Alike b t o → t ≡ [] → o ≡ after_spaces other → LineThere [] other
    go (both_over h k) f e =
        let x = over_there other (ap past_feeds (sym e) ∙ k) in
        record { next = x.next; ends = x.ends; alike = over_lines [] x.next refl x.nothing_left }
    go (both_feed a) f e = absurd (nothing f)
    go (both_sign g h a) f e = absurd (nothing f)
    go (both_string x y a) f e = absurd (no_sign f (string_heads x).sign)

-- what rows end before: the end, or a header
pub data Stop (rest other : Text) : Type 0 where
  at_both_ends : rest ≡ [] → other ≡ [] → Stop rest other
  at_header : {p : ℕ} {next : Text} → StartsWith 91 (after_blanks rest) p next
      → Alike true (after_blanks rest) (after_blanks other) → Stop rest other

pub record LinesThere (rs : Rows) (rest other : Text) : Type 0 where
  pub rows : Rows
  pub left : Text
  pub holds : IsRows is_comment other rows left
  pub same : SameRows rs rows
  pub stop : Stop rest left

-- where one is over, so is the other
over_too : {b : Bool} {t o : Text} → Alike b t o → t ≡ [] → past_feeds o ≡ []
over_too (both_over h k) e = k
over_too (both_feed {p = p} {text = text} a) e = let h : (p, 10) ∷ text ≡ [] = e in cc
over_too (both_sign {c = c} {p = p} {text = text} f g a) e = let h : (p, c) ∷ text ≡ [] = e in cc
over_too (both_string x y a) e = absurd (no_sign e (string_heads x).sign)

-- the first line with a token of the other
record First (b : Bool) (text other : Text) : Type 0 where
  line : Text
  holds : (rest : Text) (rs : Rows) → IsRows is_comment line rs rest → IsRows is_comment other rs rest
  alike : Alike b text (after_blanks line)

first_line : {b : Bool} {text : Text} (other : Text) → Alike b text (at_token other) → Heads is_seen text
    → First b text other
first_line {b = b} {text = text} other a h = go l.front
  where
    l : Lead other (at_token other)
    l = lead other

    x : Heads is_seen (at_token other)
    x = seen_there a h

    go : ((l.line ≡ []) × (at_token other ≡ [])) ⊎ (after_spaces l.line ≡ at_token other) → First b text other
    go (inl e) = absurd (no_sign e.1 x.sign)
    go (inr e) = record {
      line = l.line;
      holds = l.holds;
      alike = subst (λ t. Alike b text t)
          (sym (blanks_are_spaces l.line (e ∙ x.sign) (seen_parts x.char x.kind).0 ∙ e)) a;
    }

-- at a seen character the first token of a line stands after blanks
token_is : (text : Text) (h : Heads is_seen (after_blanks text)) → at_token text ≡ after_blanks text
token_is text h =
    let e : after_spaces text ≡ after_blanks text = spaces_are_blanks text h.sign (seen_hash h.char h.kind) in
    gap_past text ∙ ap past_feeds e ∙ past_still (after_blanks text) (still h.sign h.kind)

pub lines_there : {text rest : Text} {rs : Rows} (other : Text) → IsRows is_comment text rs rest → LinesAlike text other
    → LinesThere rs rest other
lines_there other over a = go l.front
  where
    l : Lead other (at_token other)
    l = lead other

    gone : at_token other ≡ []
    gone = sym (past_still (at_token other) (gap_stops false other)) ∙ over_too a refl

    end : IsRows is_comment l.line no_rows [] → LinesThere no_rows [] other
    end x = record {
      rows = no_rows;
      left = [];
      holds = l.holds [] no_rows x;
      same = no_more_rows;
      stop = at_both_ends refl refl;
    }

    go : ((l.line ≡ []) × (at_token other ≡ [])) ⊎ (after_spaces l.line ≡ at_token other) → LinesThere no_rows [] other
    go (inl e) = end (subst (λ t. IsRows is_comment t no_rows []) (sym e.0) over)
    go (inr e) = end (line_before l.line (at_end (e ∙ gone)) over)
lines_there other (header_next {p = p} {text = text} {next = next} s) a =
    let h : Heads is_seen (after_blanks text) =
    record { offset = p; char = 91; next = next; sign = s; kind = refl } in
    let e : at_token text ≡ after_blanks text = token_is text h in
    let b : begins_with_bracket (at_token text) ≡ true = ap begins_with_bracket (e ∙ s) in
    let x : Alike true (after_blanks text) (at_token other) =
    subst (λ t. Alike true t (at_token other)) e (subst (λ b. Alike b (at_token text) (at_token other)) b a) in
    let f = first_line other x h in
    let z = sign_there f.alike s refl in
    record {
      rows = no_rows;
      left = f.line;
      holds = f.holds f.line no_rows (header_next z.sign);
      same = no_more_rows;
      stop = at_header s f.alike;
    }
lines_there other (empty_line {c = c} {text = text} {next = next} e xs) a =
    let g : at_token (c ∷ text) ≡ at_token next = ends_gap e in
    lines_there other xs (subst (λ t. Alike (begins_with_bracket t) t (at_token other)) g a)
lines_there other (row_line {text = text} {mid = mid} {next = next} r e xs) a =
    let h : Heads is_seen (after_blanks text) = seen_heads key_is_seen (row_heads is_comment r) in
    let g : at_token text ≡ after_blanks text = token_is text h in
    let f = first_line other
    (subst (λ t. Alike (begins_with_bracket t) t (at_token other)) g a) h in
    let x = row_there r f.alike in
    let i = line_there x.left e x.after in
    let y = lines_there i.next xs i.alike in
    record {
      rows = row x.keys x.offset x.value y.rows;
      left = y.left;
      holds = f.holds y.left (row x.keys x.offset x.value y.rows) (row_line x.holds i.ends y.holds);
      same = one_row x.keys_same x.same y.same;
      stop = y.stop;
    }

pub record HeaderThere (ks : List Key) (is_array : Bool) (rest other : Text) : Type 0 where
  pub offset : ℕ
  pub keys : List Key
  pub left : Text
  pub holds : IsHeader other offset keys is_array left
  pub same : texts ks ≡ texts keys
  pub after : After true rest left

-- a bracket directly after one of its kind, in a line of brackets
next_bracket : {c p : ℕ} {text other next : Text} → StartsWith c text p next
    → goes_on true c text ≡ goes_on true c other
    → goes_on true c ((p, c) ∷ next) ≡ true → is_seen c ≡ true → is_sign c ≡ true
    → ((d : ℕ) → goes_on true c ((0, d) ∷ []) ≡ true → d ≡ c)
    → After true text other → Sign true c next other
next_bracket {c = c} {other = []} s g j e f u a = absurd (false≢true (sym g ∙ ap (goes_on true c) s ∙ j))
next_bracket {c = c} {p = p} {text = text} {other = y ∷ other} {next = next} s g j e f u a =
    let same : y.1 ≡ c = u y.1 (sym g ∙ ap (goes_on true c) s ∙ j) in
    let seen : is_seen y.1 ≡ true = ap is_seen same ∙ e in
    let here : stands text ≡ false = still s e in
    let there : stands (y ∷ other) ≡ false = still {next = other} {p = y.0} {c = y.1} refl seen in
    sign_there (subst (λ t. Alike true t (y ∷ other))
    (spaces_still text here)
    (subst (λ t. Alike true (after_spaces text) t)
    (spaces_still (y ∷ other) there) a)) s f

opens_again : (d : ℕ) → goes_on true 91 ((0, d) ∷ []) ≡ true → d ≡ 91
opens_again d e = go (d == 91) refl e
  where
    go : (b : Bool) → (d == 91) ≡ b → (b && true) ≡ true → d ≡ 91
    go true h e = eqb-true d 91 h
    go false h e = absurd (false≢true e)

closes_again : (d : ℕ) → goes_on true 93 ((0, d) ∷ []) ≡ true → d ≡ 93
closes_again d e = go (d == 93) refl e
  where
    go : (b : Bool) → (d == 93) ≡ b → (b && true) ≡ true → d ≡ 93
    go true h e = eqb-true d 93 h
    go false h e = absurd (false≢true e)

pub header_there : {text rest other : Text} {p : ℕ} {ks : List Key} {is_array : Bool} → IsHeader text p ks is_array rest
    → Alike true text other → HeaderThere ks is_array rest other
header_there (table {next = next} {mid = mid} s ks e) a =
    let z = sign_there a s refl in
    let k = keys_there ks (blanks_alike next z.rest z.after (seen_heads key_is_seen (keys_heads ks))) in
    let y = sign_after_blanks mid k.left k.after e refl refl in
    record {
      offset = z.offset;
      keys = k.keys;
      left = y.rest;
      holds = table z.sign k.holds y.sign;
      same = k.same;
      after = y.after;
    }
header_there (array_of_tables {inner = inner} {mid = mid} s t ks e f) a =
    let z = sign_there a s refl in
    let w = next_bracket t z.joined refl refl refl opens_again z.after in
    let k = keys_there ks (blanks_alike inner w.rest w.after (seen_heads key_is_seen (keys_heads ks))) in
    let y = sign_after_blanks mid k.left k.after e refl refl in
    let x = next_bracket f y.joined refl refl refl closes_again y.after in
    record {
      offset = z.offset;
      keys = k.keys;
      left = x.rest;
      holds = array_of_tables z.sign w.sign k.holds y.sign x.sign;
      same = k.same;
      after = x.after;
    }

pub record SectionsThere (ss : List Section) (other : Text) : Type 0 where
  pub sections : List Section
  pub holds : IsSections is_comment other sections
  pub same : SameSections ss sections

pub sections_there : {text : Text} {ss : List Section} (other : Text) → IsSections is_comment text ss
    → Stop text other → SectionsThere ss other
sections_there other no_more (at_both_ends e f) = record {
  sections = [];
  holds = subst (λ t. IsSections is_comment t []) (sym f) no_more;
  same = no_more_sections;
}
sections_there other no_more (at_header s a) = absurd (no_sign refl s)
sections_there other (section {p = p} {keys = ks} {is_array = i} {mid = mid} h l rs ss) (at_both_ends e f) =
    absurd (no_header (subst (λ t. IsHeader (after_blanks t) p ks i mid) e h))
sections_there other (section {is_array = i} h l rs ss) (at_header s a) =
    let x = header_there h a in
    let e = line_there x.left l x.after in
    let y = lines_there e.next rs e.alike in
    let z = sections_there y.left ss y.stop in
    record {
      sections = record { at = x.offset; header = x.keys; is_array = i; rows = y.rows } ∷ z.sections;
      holds = section x.holds e.ends y.holds z.holds;
      same = one_section (record { header = x.same; is_array = refl; rows = y.same }) z.same;
    }

pub record ListThere (ss : List Section) (other : Text) : Type 0 where
  pub sections : List Section
  pub grammar : IsSectionList other sections
  pub same : SameSections ss sections

pub list_there : {text : Text} {ss : List Section} (other : Text) → IsSectionList text ss → LinesAlike text other
    → ListThere ss other
list_there {ss = ss} other g a =
    let y = lines_there other g.root a in
    let z = sections_there y.left g.others y.stop in
    record {
      sections = with_root y.rows z.sections;
      grammar = record {
        rows = y.rows;
        headed = z.sections;
        rest = y.left;
        root = y.holds;
        others = z.holds;
        all = refl;
      };
      same = subst (λ ss. SameSections ss (with_root y.rows z.sections)) (sym g.all) (root_same y.same z.same);
    }
