-- A reading that stands at a hole stands at it in each text that is the same up to the hole and goes on there with the
-- same character; or with one that joins nothing before it, where that may be read on to.
use Rattle.std.proofs.Common.{◌≡◌, ℕ, ◌<◌, ◌==◌, Bool, true, false, cond, Some, None, length, refl, ap, sym, ◌∙◌}
use Rattle.std.proofs.Common.{subst, arith}
use Rattle.basic_toml_tokens.specs.Text.{Text, is_comment}
use Rattle.basic_toml_grammar.specs.Grammar.{after_comment_by, after_gap_from}
use Rattle.basic_toml_grammar.specs.Reader.{char_at, end_of}
use Rattle.basic_toml_grammar.specs.Holes as holes
use Rattle.basic_toml_grammar.specs.Holes.{Hole, HoleInKeys, HoleInValue, HoleInElements, HoleInFields, HoleInFieldsOn}
use Rattle.basic_toml_grammar.specs.Holes.{HoleInRow, behind_value, behind_in_elements, behind_in_fields, behind_in_fields_on}
use Rattle.basic_toml_grammar.specs.Holes.{behind_in_row}
use Rattle.basic_toml_grammar.proofs.Grammar.EndChangesNothing.{Parts, at_end, past, Meets, same, same_ends, Ends}
use Rattle.basic_toml_grammar.proofs.Grammar.EndChangesNothing.{Carried, carried, Clear, same_clear, clear_past, stops}
use Rattle.basic_toml_grammar.proofs.Grammar.EndChangesNothing.{begins_gap, in_gap, outside_over, inside_over, gap_on}
use Rattle.basic_toml_grammar.proofs.Grammar.EndChangesNothing.{sign_carried, blanks_carried, gap_carried}
use Rattle.basic_toml_grammar.proofs.Grammar.StringsCarried.{Alike}
use Rattle.basic_toml_grammar.proofs.Grammar.GrammarCarried.{key_carried, keys_carried, sign_among_blanks}
use Rattle.basic_toml_grammar.proofs.Grammar.GrammarCarried.{sign_among_gaps, value_carried, row_carried}
use Rattle.basic_toml_grammar.proofs.Grammar.ReaderIsComplete.{value_shorter, row_shorter, gap_length, blanks_length}
use Rattle.basic_toml_grammar.proofs.Grammar.ReaderIsComplete.{shorter_after_blanks, shorter_after_gap}
use Rattle.basic_toml_grammar.proofs.Grammar.StringsAreRead.{sign_length}
use Rattle.basic_toml_grammar.proofs.Completion.Fillers.{value_gap, elements_gap, fields_gap, fields_on_gap, row_gap}
use Rattle.basic_toml_grammar.proofs.Viable.HolesAreWithin.{keys_past, row_past}
use Rattle.basic_toml_grammar.proofs.Viable.HolesAreWithin.{elements_within, fields_within, fields_on_within}

-- a sign that is missed in the one is missed in the other
abbrev pub Misses : ℕ → Text → Text → Type 0
Misses c here there = char_at c here ≡ None → char_at c there ≡ None

-- The first text goes on with `here` at a hole, the second with `there`. The hole stands at `end` in the second: behind
-- `there` only after an element, where a gap goes on.
pub record Turn (h : Hole) (here there end : Text) : Type 0 where
  pub meets : Meets here there
  pub lands : (h ≡ Hole.after_element → ⊥) → there ≡ end
  pub line : h ≡ Hole.after_line → Ends (λ c. c == 35) here there × Ends is_comment here there
  pub value : h ≡ Hole.value → Misses 93 here there
  pub key : h ≡ Hole.key → Misses 125 here there

-- and where a line or a header may begin
pub record Opening (here there : Text) : Type 0 where
  pub bracket : Misses 91 here there
  pub hash : Misses 35 here there
  pub line_end : char_at 35 here ≡ None → end_of (after_comment_by is_comment here) ≡ None
      → end_of (after_comment_by is_comment there) ≡ None

pub taken : {A : Type 0} (b : Bool) (x y : A) → cond b (Some x) None ≡ None → cond b (Some y) None ≡ None
taken true x y e = cc
taken false x y e = refl

-- of texts that are the same up to there
pub misses : {here there text other : Text} (c : ℕ) → char_at c text ≡ None → Parts here there text other
    → Misses c here there → char_at c other ≡ None
misses c m (at_end t o) f = ap (char_at c) o ∙ f (sym (ap (char_at c) t) ∙ m)
misses c m (past {x = x} {text = text} {other = other} k) f = taken (x.1 == c) (x.0, text) (x.0, other) m

pub misses_past : {here there text other : Text} (c : ℕ) → char_at c text ≡ None → Parts here there text other
    → length here < length text → char_at c other ≡ None
misses_past c m (at_end t o) l = absurd (omega (arith, ap length t))
misses_past c m (past {x = x} {text = text} {other = other} k) l = taken (x.1 == c) (x.0, text) (x.0, other) m

clear_behind : {here there text other : Text} → Parts here there text other → length here < length text
    → Clear is_comment text other
clear_behind (at_end t o) l = absurd (omega (arith, ap length t))
clear_behind (past k) l = same_clear refl refl

-- what is the same character goes on so everywhere
pub alike_turn : {here there : Text} (h : Hole) → Alike here there → Turn h here there there
alike_turn {here = here} {there = there} h a = record {
  meets = same a.here a.there;
  lands = λ e. refl;
  line = λ e. (same_ends (λ c. c == 35) a.here a.there, same_ends is_comment a.here a.there);
  value = λ e m. missed 93 m;
  key = λ e m. missed 125 m;
}
  where
    missed : (c : ℕ) → Misses c here there
    missed c m = ap (char_at c) a.there
        ∙ taken (a.first.1 == c) (a.first.0, a.next) (a.first.0, a.next') (sym (ap (char_at c) a.here) ∙ m)

-- a gap that ends before `here` goes on up to `end`
pub record Passes (here there end : Text) : Type 0 where
  pub outside : stops begins_gap here ≡ true → after_gap_from is_comment false there ≡ end
  pub inside : stops (in_gap is_comment) here ≡ true → after_gap_from is_comment true there ≡ end
  pub clear : there ≡ end → Clear is_comment here there

-- or ends there
pub passes : {here there : Text} → Clear is_comment here there → Passes here there there
passes {there = there} c = record {
  outside = λ s. outside_over is_comment there (c.outside s);
  inside = λ s. inside_over is_comment there (c.inside s);
  clear = λ e. c;
}

-- where the hole stands after a gap
abbrev pub Gapped : Bool → Text → Text → Text → Type 0
Gapped gap here there end = gap ≡ true → Passes here there end

pub keys_hole : {h : Hole} {text at at' end : Text} → HoleInKeys text h at → Turn h at at' end
    → Carried at at' text (λ t. HoleInKeys t h end)
keys_hole {at' = at'} holes.this_key turn = record {
  other = at';
  cut = record { parts = at_end refl refl; meets = turn.meets };
  holds = subst (λ (t : Text). HoleInKeys at' Hole.key t) (turn.lands (λ e. cc)) holes.this_key;
}
keys_hole {h = h} {end = end} (holes.later_key {mid = mid} {next = next} key s d) turn =
    let x = keys_hole d turn in
    let m = sign_among_blanks mid next s x.cut in
    let r = key_carried key m.cut in
    record {
      other = r.other;
      cut = r.cut;
      holds = holes.later_key r.holds m.holds.sign
          (subst (λ (t : Text). HoleInKeys t h end) (sym m.holds.on) x.holds);
    }

-- the same has to come behind its value
abbrev pub ValueTo : Hole → Text → Text → (Hole → Hole) → Type 0
ValueTo h text at f = (d : HoleInValue text h at) × ((b : Hole) → behind_value b d ≡ f b)

abbrev pub ElementsTo : Hole → Text → Text → Hole → Type 0
ElementsTo h text at b = (d : HoleInElements text h at) × (behind_in_elements d ≡ b)

abbrev pub FieldsTo : Hole → Text → Text → Hole → Type 0
FieldsTo h text at b = (d : HoleInFields text h at) × (behind_in_fields d ≡ b)

abbrev pub FieldsOnTo : Hole → Text → Text → Hole → Type 0
FieldsOnTo h text at b = (d : HoleInFieldsOn text h at) × (behind_in_fields_on d ≡ b)

abbrev pub RowTo : Hole → Text → Text → (Hole → Hole) → Type 0
RowTo h text at f = (d : HoleInRow text h at) × ((b : Hole) → behind_in_row b d ≡ f b)

mutual
  value_hole : {h : Hole} {text at at' end : Text} (d : HoleInValue text h at) → Turn h at at' end
      → Gapped (value_gap d) at at' end → Carried at at' text (λ t. ValueTo h t end (λ b. behind_value b d))
  value_hole {at' = at'} holes.this_value turn gap = record {
    other = at';
    cut = record { parts = at_end refl refl; meets = turn.meets };
    holds = subst (λ (t : Text). ValueTo Hole.value at' t (λ b. b)) (turn.lands (λ e. cc)) (holes.this_value, λ b. refl);
  }
  value_hole {h = h} {end = end} (holes.array {next = next} s d) turn gap =
      let x = elements_hole d turn gap in
      let g = gap_carried is_comment next x.cut (elements_clear d turn gap x.cut.parts) in
      let r = sign_carried s g.cut.parts in
      let y = subst (λ (t : Text). ElementsTo h t end (behind_in_elements d)) (sym g.holds) x.holds in
      record { other = r.other; cut = r.cut; holds = (holes.array r.holds y.0, λ b. y.1) }
  value_hole {h = h} {end = end} (holes.inline {next = next} s d) turn gap =
      let x = fields_hole d turn gap in
      let g = blanks_carried next x.cut in
      let r = sign_carried s g.cut.parts in
      let y = subst (λ (t : Text). FieldsTo h t end (behind_in_fields d)) (sym g.holds) x.holds in
      record { other = r.other; cut = r.cut; holds = (holes.inline r.holds y.0, λ b. y.1) }

  elements_clear : {h : Hole} {text other at at' end : Text} (d : HoleInElements text h at) → Turn h at at' end
      → Gapped (elements_gap d) at at' end → Parts at at' text other → Clear is_comment text other
  elements_clear (holes.in_element m holes.this_value) turn gap k =
      clear_past ((gap refl).clear (turn.lands (λ e. cc))) k
  elements_clear (holes.in_element m (holes.array {next = next} s d)) turn gap k =
      clear_behind k (omega (arith, sign_length s, gap_length next, elements_within d))
  elements_clear (holes.in_element m (holes.inline {next = next} s d)) turn gap k =
      clear_behind k (omega (arith, sign_length s, blanks_length next, fields_within d))
  elements_clear (holes.after_this {mid = mid} v) turn gap k =
      clear_behind k (omega (arith, value_shorter v, gap_length mid))
  elements_clear (holes.later_element {mid = mid} {next = next} v s d) turn gap k =
      clear_behind k (omega (arith, value_shorter v, shorter_after_gap mid s, gap_length next, elements_within d))

  elements_hole : {h : Hole} {text at at' end : Text} (d : HoleInElements text h at) → Turn h at at' end
      → Gapped (elements_gap d) at at' end → Carried at at' text (λ t. ElementsTo h t end (behind_in_elements d))
  elements_hole {at' = at'} (holes.in_element m holes.this_value) turn gap = record {
    other = at';
    cut = record { parts = at_end refl refl; meets = turn.meets };
    holds = subst (λ (t : Text). ElementsTo Hole.value at' t Hole.after_element) (turn.lands (λ e. cc))
        (holes.in_element (turn.value refl m) holes.this_value, refl);
  }
  elements_hole (holes.in_element m (holes.array {next = next} s d)) turn gap =
      let x = value_hole (holes.array s d) turn gap in
      record {
        other = x.other;
        cut = x.cut;
        holds = (
          holes.in_element (misses_past 93 m x.cut.parts
              (omega (arith, sign_length s, gap_length next, elements_within d))) x.holds.0,
          x.holds.1 Hole.after_element,
        );
      }
  elements_hole (holes.in_element m (holes.inline {next = next} s d)) turn gap =
      let x = value_hole (holes.inline s d) turn gap in
      record {
        other = x.other;
        cut = x.cut;
        holds = (
          holes.in_element (misses_past 93 m x.cut.parts
              (omega (arith, sign_length s, blanks_length next, fields_within d))) x.holds.0,
          x.holds.1 Hole.after_element,
        );
      }
  elements_hole (holes.after_this {mid = mid} v) turn gap =
      let p = gap refl in
      let g = carried (gap_on is_comment false mid refl p.outside p.inside)
      (record { parts = at_end refl refl; meets = turn.meets }) in
      let r = value_carried v g.cut in
      record {
        other = r.other;
        cut = r.cut;
        holds = subst (λ (t : Text). ElementsTo Hole.after_element r.other t Hole.after_element) g.holds
            (holes.after_this r.holds, refl);
      }
  elements_hole {h = h} {end = end} (holes.later_element {mid = mid} {next = next} v s d) turn gap =
      let x = elements_hole d turn gap in
      let m = sign_among_gaps mid next s x.cut.parts (elements_clear d turn gap x.cut.parts) in
      let r = value_carried v m.cut in
      let y = subst (λ (t : Text). ElementsTo h t end (behind_in_elements d)) (sym m.holds.on) x.holds in
      record { other = r.other; cut = r.cut; holds = (holes.later_element r.holds m.holds.sign y.0, y.1) }

  fields_hole : {h : Hole} {text at at' end : Text} (d : HoleInFields text h at) → Turn h at at' end
      → Gapped (fields_gap d) at at' end → Carried at at' text (λ t. FieldsTo h t end (behind_in_fields d))
  fields_hole (holes.fields m d) turn gap =
      let x = fields_on_hole d turn gap in
      record {
        other = x.other;
        cut = x.cut;
        holds = (holes.fields (no_brace d turn m x.cut.parts) x.holds.0, x.holds.1);
      }

  no_brace : {h : Hole} {text other at at' end : Text} (d : HoleInFieldsOn text h at) → Turn h at at' end
      → char_at 125 text ≡ None → Parts at at' text other → char_at 125 other ≡ None
  no_brace (holes.in_row (holes.in_keys holes.this_key)) turn m k = misses 125 m k (turn.key refl)
  no_brace (holes.in_row (holes.in_keys (holes.later_key key s d))) turn m k =
      misses_past 125 m k (keys_past (holes.later_key key s d) refl)
  no_brace (holes.in_row (holes.after_keys ks)) turn m k = misses_past 125 m k (row_past (holes.after_keys ks) refl)
  no_brace (holes.in_row (holes.in_value ks s d)) turn m k =
      misses_past 125 m k (row_past (holes.in_value ks s d) refl)
  no_brace (holes.after_row {mid = mid} w) turn m k =
      misses_past 125 m k (omega (arith, row_shorter w, blanks_length mid))
  no_brace (holes.later_row {mid = mid} {next = next} w s d) turn m k =
      misses_past 125 m k (omega (
        arith,
        row_shorter w,
        shorter_after_blanks mid s,
        blanks_length next,
        fields_on_within d,
      ))

  fields_on_hole : {h : Hole} {text at at' end : Text} (d : HoleInFieldsOn text h at) → Turn h at at' end
      → Gapped (fields_on_gap d) at at' end → Carried at at' text (λ t. FieldsOnTo h t end (behind_in_fields_on d))
  fields_on_hole (holes.in_row d) turn gap =
      let x = row_hole d turn gap in
      record { other = x.other; cut = x.cut; holds = (holes.in_row x.holds.0, x.holds.1 Hole.after_field) }
  fields_on_hole (holes.after_row {mid = mid} x) turn gap =
      let g = blanks_carried mid (record { parts = at_end refl refl; meets = turn.meets }) in
      let r = row_carried x g.cut in
      record {
        other = r.other;
        cut = r.cut;
        holds = subst (λ (t : Text). FieldsOnTo Hole.after_field r.other t Hole.after_field)
            (g.holds ∙ turn.lands (λ e. cc)) (holes.after_row r.holds, refl);
      }
  fields_on_hole {h = h} {end = end} (holes.later_row {mid = mid} {next = next} x s d) turn gap =
      let y = fields_on_hole d turn gap in
      let m = sign_among_blanks mid next s y.cut in
      let r = row_carried x m.cut in
      let z = subst (λ (t : Text). FieldsOnTo h t end (behind_in_fields_on d)) (sym m.holds.on) y.holds in
      record { other = r.other; cut = r.cut; holds = (holes.later_row r.holds m.holds.sign z.0, z.1) }

  pub row_hole : {h : Hole} {text at at' end : Text} (d : HoleInRow text h at) → Turn h at at' end
      → Gapped (row_gap d) at at' end → Carried at at' text (λ t. RowTo h t end (λ b. behind_in_row b d))
  row_hole (holes.in_keys d) turn gap =
      let x = keys_hole d turn in
      record { other = x.other; cut = x.cut; holds = (holes.in_keys x.holds, λ b. refl) }
  row_hole (holes.after_keys {mid = mid} ks) turn gap =
      let g = blanks_carried mid (record { parts = at_end refl refl; meets = turn.meets }) in
      let r = keys_carried ks g.cut in
      record {
        other = r.other;
        cut = r.cut;
        holds = subst (λ (t : Text). RowTo Hole.after_keys r.other t (λ b. b)) (g.holds ∙ turn.lands (λ e. cc))
            (holes.after_keys r.holds, λ b. refl);
      }
  row_hole {h = h} {end = end} (holes.in_value {mid = mid} {next = next} ks s d) turn gap =
      let y = value_hole d turn gap in
      let m = sign_among_blanks mid next s y.cut in
      let r = keys_carried ks m.cut in
      let z = subst (λ (t : Text). ValueTo h t end (λ b. behind_value b d)) (sym m.holds.on) y.holds in
      record { other = r.other; cut = r.cut; holds = (holes.in_value r.holds m.holds.sign z.0, z.1) }
