-- A row up to a hole goes on to one of the grammar: with what fills the hole, and then what closes around it.
use Rattle.std.proofs.Common.{◌≡◌, ℕ, suc, ◌<◌, ◌==◌, ◌||◌, ◌&&◌, Bool, true, false, cond, List, [], ◌∷◌}
use Rattle.std.proofs.Common.{refl, ap, sym, ◌∙◌, subst, arith, Option, Some, None}
use Rattle.std.specs.Prelude.{not}
use Rattle.std.proofs.lemmas.Bool.{ne_eqb, false≢true, or_from, or_left, or_cases}
use Rattle.std.proofs.lemmas.Bool.Decides.{nat_tests}
use Rattle.basic_toml_tokens.specs.Text.{Text, run, after_run, is_blank, is_keylike, is_comment, after_blanks}
use Rattle.basic_toml_tokens.specs.Strings.{is_quote, count_of, one_line, one, none}
use Rattle.basic_toml_grammar.specs.Sections.{Key, Raw, no_elements, element, no_rows, row}
use Rattle.basic_toml_grammar.specs.Grammar.{IsKey, bare, quoted, IsKeys, more, IsValue, array, inline, after_gap}
use Rattle.basic_toml_grammar.specs.Grammar.{after_gap_from, IsElements, close, last, and_more, IsFields, IsFieldsOn}
use Rattle.basic_toml_grammar.specs.Grammar.{last_row, more_rows, IsRow, assigned}
use Rattle.basic_toml_grammar.specs.Holes as holes
use Rattle.basic_toml_grammar.specs.Holes.{Hole, HoleInKeys, HoleInValue, HoleInElements, HoleInFields, HoleInFieldsOn}
use Rattle.basic_toml_grammar.specs.Holes.{HoleInRow, begins_key, begins_value}
use Rattle.basic_toml_grammar.proofs.Grammar.EndChangesNothing.{Parts, at_end, stops, joins, apart}
use Rattle.basic_toml_grammar.proofs.Grammar.EndChangesNothing.{meets_past, Kept, kept, run_to, gap_on}
use Rattle.basic_toml_grammar.proofs.Grammar.EndChangesNothing.{gap_to, begins_gap, same_clear, outside_over, sign_kept}
use Rattle.basic_toml_grammar.proofs.Grammar.EndChangesNothing.{sign_carried, gap_carried, blanks_carried}
use Rattle.basic_toml_grammar.proofs.Grammar.GrammarCarried.{Seen, seen_clear, begins_element, heads_clear, key_carried}
use Rattle.basic_toml_grammar.proofs.Grammar.GrammarCarried.{sign_spaced, keys_carried, value_carried, row_carried}
use Rattle.basic_toml_grammar.proofs.Grammar.GrammarIsUnambiguous.{Heads, keys_heads, value_heads, row_heads}
use Rattle.basic_toml_grammar.proofs.Grammar.StringsCarried.{one_more, no_delimiter}
use Rattle.basic_toml_grammar.proofs.Completion.Fillers.{Filler, empty_array, empty_table, array_end, table_end, another}
use Rattle.basic_toml_grammar.proofs.Completion.Fillers.{key_filled, after_filled, fill_keys, fill_value, fill_elements}
use Rattle.basic_toml_grammar.proofs.Completion.Fillers.{fill_fields, fill_fields_on, fill_row_keys, fill_row_value}
use Rattle.basic_toml_grammar.proofs.Completion.Fillers.{value_gap, elements_gap, fields_gap, fields_on_gap, row_gap}
use Rattle.basic_toml_grammar.proofs.Completion.Fillers as fillers

-- characters from an offset on
abbrev pub placed : ℕ → List ℕ → Text
placed p [] = []
placed p (c ∷ cs) = (p, c) ∷ placed (suc p) cs

-- characters of ASCII that can be seen
abbrev pub AreVisible : List ℕ → Type 0
AreVisible [] = Unit {0}
AreVisible (c ∷ cs) = (32 < c) × (c < 128) × AreVisible cs

-- They begin with this one.
abbrev pub Leads : Option ℕ → List ℕ → Type 0
Leads None cs = cs ≡ []
Leads (Some c) cs = (rest : List ℕ) × (cs ≡ c ∷ rest)

key_visible : (c : ℕ) → is_keylike c ≡ true → (32 < c) × (c < 128)
key_visible c h = (grind (arith, nat_tests, or_cases), grind (arith, nat_tests, or_cases))

quote_visible : (c : ℕ) → is_quote c ≡ true → (32 < c) × (c < 128)
quote_visible c h = (grind (arith, nat_tests, or_cases), grind (arith, nat_tests, or_cases))

key_apart : (c : ℕ) → begins_key c ≡ true → 32 < c
key_apart c h = grind (arith, nat_tests, or_cases)

value_apart : (c : ℕ) → begins_value c ≡ true → 32 < c
value_apart c h = grind (arith, nat_tests, or_cases)

-- what such a character begins is no blank
unblank : {f : ℕ → Bool} {text : Text} → ((c : ℕ) → f c ≡ true → 32 < c) → Heads f text → stops is_blank text ≡ true
unblank g h =
    let far : 32 < h.char = g h.char h.kind in
    ap (stops is_blank) h.sign ∙ ap not (or_from (h.char == 32) (h.char == 9) (ne_eqb h.char 32 (λ e. omega (arith, far, e)))
    (ne_eqb h.char 9 (λ e. omega (arith, far, e))))

pub keys_unblank : {text rest : Text} {ks : List Key} → IsKeys text ks rest → stops is_blank text ≡ true
keys_unblank ks = unblank key_apart (keys_heads ks)

value_unblank : {text rest : Text} {p : ℕ} {v : Raw} → IsValue is_comment text p v rest → stops is_blank text ≡ true
value_unblank v = unblank value_apart (value_heads is_comment v)

value_head : {text rest : Text} {p : ℕ} {v : Raw} → IsValue is_comment text p v rest → Heads begins_element text
value_head v = let h = value_heads is_comment v in
    record { offset = h.offset; char = h.char; next = h.next; sign = h.sign; kind = or_left _ _ h.kind }

pub row_unblank : {text rest : Text} {keys : List Key} {p : ℕ} {v : Raw} → IsRow is_comment text keys p v rest
    → stops is_blank text ≡ true
row_unblank r = unblank key_apart (row_heads is_comment r)

-- p is the offset of the hole. The filler stands there, or behind a line feed, which ends a comment.
module _ (p : ℕ) where
  abbrev pub spot : Bool → ℕ
  spot false = p
  spot true = suc (suc p)

  abbrev pub there : Bool → List ℕ → Text
  there false cs = placed p cs
  there true cs = (p, 10) ∷ placed (suc (suc p)) cs

  -- a text that goes on so at `at`
  pub record Goes (fed : Bool) (s : Option ℕ) (at text : Text) (Holds : Text → Type 0) : Type 0 where
    pub total : List ℕ
    pub visible : AreVisible total
    pub leads : Leads s total
    pub other : Text
    pub parts : Parts at (there fed total) text other
    pub holds : Holds other

module _ (p : ℕ) (feed : Bool) where
  -- without a line feed no comment may end there
  abbrev pub Ready : Text → Type 0
  Ready at = feed ≡ false → Seen at

  gap_before : (text : Text) {at : Text} (cs : List ℕ) → ((o : ℕ) → stops begins_gap (placed o cs) ≡ true)
      → after_gap is_comment text ≡ at → Ready at
      → Kept at (there p feed cs) text (λ t. after_gap is_comment t ≡ placed (spot p feed) cs)
  gap_before text {at = at} cs begins e ready = go feed refl
    where
      go : (b : Bool) → feed ≡ b → Kept at (there p b cs) text (λ t. after_gap is_comment t ≡ placed (spot p b) cs)
      go false f = gap_to is_comment false text (sym e) (seen_clear at (placed p cs) (ready f) (begins p))
      go true f =
          let on : after_gap_from is_comment false (placed (suc (suc p)) cs) ≡ placed (suc (suc p)) cs =
          outside_over is_comment (placed (suc (suc p)) cs) (begins (suc (suc p))) in
          gap_on {there = (p, 10) ∷ placed (suc (suc p)) cs} is_comment false text (sym e) (λ s. on) (λ s. on)

  bracket_apart : (b : Bool) (cs : List ℕ) → stops joins (there p b (93 ∷ cs)) ≡ true
  bracket_apart false cs = refl
  bracket_apart true cs = refl

  pub keys_done : {h : Hole} {s : Option ℕ} {text at : Text} (d : HoleInKeys text h at) (x : Filler h s) (c : ℕ)
      (cs : List ℕ) → is_keylike c ≡ false → is_quote c ≡ false → AreVisible (c ∷ cs)
      → Goes p false s at text (λ t. IsKeys t (fill_keys d (key_filled p x)) (placed (after_filled p x) (c ∷ cs)))
  keys_done {text = text} holes.this_key (fillers.key {c = k} e) c cs stop unquoted seen = go (is_keylike k) refl e
    where
      go : (b : Bool) → is_keylike k ≡ b → (b || is_quote k) ≡ true
          → Goes p false (Some k) text text (λ t. IsKeys t (record { offset = p; text = cond b (k ∷ []) [] } ∷ [])
          (placed (cond b (suc p) (suc (suc p))) (c ∷ cs)))
      go true w e =
          let here : Text = (p, k) ∷ placed (suc p) (c ∷ cs) in
          let ends : after_run is_keylike here ≡ placed (suc p) (c ∷ cs) =
          ap (λ b. cond b (after_run is_keylike (placed (suc p) (c ∷ cs))) here) w ∙
          ap (λ b. cond b (after_run is_keylike (placed (suc (suc p)) cs)) (placed (suc p) (c ∷ cs))) stop in
          let word : run is_keylike here ≡ k ∷ [] =
          ap (λ b. cond b (k ∷ run is_keylike (placed (suc p) (c ∷ cs))) []) w ∙
          ap (λ b. k ∷ cond b (c ∷ run is_keylike (placed (suc (suc p)) cs)) []) stop in
          let key : Key = record { offset = p; text = k ∷ [] } in
          record {
            total = k ∷ c ∷ cs;
            visible = ((key_visible k w).0, (key_visible k w).1, seen);
            leads = (c ∷ cs, refl);
            other = here;
            parts = at_end refl refl;
            holds = IsKeys.one (subst (λ (t : Text). IsKey here key t) ends
                (subst (λ (cs : List ℕ). IsKey here (record { offset = p; text = cs }) (after_run is_keylike here)) word
                (bare refl w)));
          }
      go false w q =
          let rest : Text = placed (suc (suc p)) (c ∷ cs) in
          let here : Text = (p, k) ∷ (suc p, k) ∷ rest in
          let counted : count_of k here ≡ 2 =
          one_more k p ((suc p, k) ∷ rest) ∙ ap (λ (n : ℕ). suc n) (one_more k (suc p) rest ∙
          ap (λ (n : ℕ). suc n) (no_delimiter k (suc (suc p), c) (placed (suc (suc (suc p))) cs) differs)) in
          record {
            total = k ∷ k ∷ c ∷ cs;
            visible = (
              (quote_visible k q).0,
              (quote_visible k q).1,
              ((quote_visible k q).0, (quote_visible k q).1, seen),
            );
            leads = (k ∷ c ∷ cs, refl);
            other = here;
            parts = at_end refl refl;
            holds = IsKeys.one (quoted {value = []} (record {
              kind = record { delimiter = k; multiline = false };
              body = (suc p, k) ∷ rest;
              opens = one_line refl q (omega (arith, counted));
              lines = refl;
              inside = [];
              closer = (suc p, k) ∷ rest;
              pieces = none;
              tail = [];
              closes = one refl refl;
              stands_for = refl;
            }));
          }
        where
          differs : (c == k) ≡ false
          differs = ne_eqb c k (λ e. false≢true (sym unquoted ∙ ap is_quote e ∙ q))
  keys_done (holes.later_key {mid = mid} {next = next} k s d) x c cs stop unquoted seen =
      let on = keys_done d x c cs stop unquoted seen in
      let m = sign_spaced mid next s on.parts (λ e. keys_unblank on.holds) in
      let r = key_carried k m.cut in
      record {
        total = on.total;
        visible = on.visible;
        leads = on.leads;
        other = r.other;
        parts = r.cut.parts;
        holds = more r.holds m.holds.sign (subst (λ (t : Text). IsKeys t (fill_keys d (key_filled p x))
            (placed (after_filled p x) (c ∷ cs))) (sym m.holds.on) on.holds);
      }

  mutual
    value_done : {h : Hole} {s : Option ℕ} {text at : Text} (d : HoleInValue text h at) (x : Filler h s) (cs : List ℕ)
        → AreVisible cs → Ready at
        → Goes p (value_gap d && feed) s at text (λ t. (after : ℕ) × IsValue is_comment t
        (fill_value (spot p (value_gap d && feed)) d x).0 (fill_value (spot p (value_gap d && feed)) d x).1
        (placed after cs))
    value_done holes.this_value empty_array cs seen ready = record {
      total = 91 ∷ 93 ∷ cs;
      visible = (omega arith, omega arith, (omega arith, omega arith, seen));
      leads = (93 ∷ cs, refl);
      other = placed p (91 ∷ 93 ∷ cs);
      parts = at_end refl refl;
      holds = (suc (suc p), array refl (close refl));
    }
    value_done holes.this_value empty_table cs seen ready = record {
      total = 123 ∷ 125 ∷ cs;
      visible = (omega arith, omega arith, (omega arith, omega arith, seen));
      leads = (125 ∷ cs, refl);
      other = placed p (123 ∷ 125 ∷ cs);
      parts = at_end refl refl;
      holds = (suc (suc p), inline refl (IsFields.none refl));
    }
    value_done (holes.array {next = next} s d) x cs seen ready =
        let on = elements_done next refl d x cs seen ready in
        let g = sign_kept s on.parts in
        record {
          total = on.total;
          visible = on.visible;
          leads = on.leads;
          other = g.other;
          parts = g.parts;
          holds = (on.holds.0, array g.holds on.holds.1);
        }
    value_done (holes.inline {next = next} s d) x cs seen ready =
        let on = fields_done next refl d x cs seen ready in
        let g = sign_kept s on.parts in
        record {
          total = on.total;
          visible = on.visible;
          leads = on.leads;
          other = g.other;
          parts = g.parts;
          holds = (on.holds.0, inline g.holds on.holds.1);
        }

    elements_done : {h : Hole} {s : Option ℕ} {text at : Text} (before : Text) → after_gap is_comment before ≡ text
        → (d : HoleInElements text h at) (x : Filler h s) (cs : List ℕ) → AreVisible cs → Ready at
        → Goes p (elements_gap d && feed) s at before (λ t. (after : ℕ) × IsElements is_comment
        (after_gap is_comment t) (fill_elements (spot p (elements_gap d && feed)) d x) (placed after cs))
    elements_done before e (holes.in_element m holes.this_value) empty_array cs seen ready =
        let g = gap_before before (91 ∷ 93 ∷ 93 ∷ cs) (λ o. refl) e ready in
        let o = spot p feed in
        record {
          total = 91 ∷ 93 ∷ 93 ∷ cs;
          visible = (omega arith, omega arith, (omega arith, omega arith, (omega arith, omega arith, seen)));
          leads = (93 ∷ 93 ∷ cs, refl);
          other = g.other;
          parts = g.parts;
          holds = (
            suc (suc (suc o)),
            subst (λ (t : Text). IsElements is_comment t (element o (Raw.array no_elements) no_elements)
                (placed (suc (suc (suc o))) cs)) (sym g.holds) (last (array refl (close refl)) refl),
          );
        }
    elements_done before e (holes.in_element m holes.this_value) empty_table cs seen ready =
        let g = gap_before before (123 ∷ 125 ∷ 93 ∷ cs) (λ o. refl) e ready in
        let o = spot p feed in
        record {
          total = 123 ∷ 125 ∷ 93 ∷ cs;
          visible = (omega arith, omega arith, (omega arith, omega arith, (omega arith, omega arith, seen)));
          leads = (125 ∷ 93 ∷ cs, refl);
          other = g.other;
          parts = g.parts;
          holds = (
            suc (suc (suc o)),
            subst (λ (t : Text). IsElements is_comment t (element o (Raw.inline no_rows) no_elements)
                (placed (suc (suc (suc o))) cs)) (sym g.holds) (last (inline refl (IsFields.none refl)) refl),
          );
        }
    elements_done before e (holes.in_element m (holes.array {q = q} {next = next} s d)) x cs seen ready =
        let on = value_done (holes.array s d) x (93 ∷ cs) (omega arith, omega arith, seen) ready in
        let v = on.holds.1 in
        let g = kept (gap_to is_comment false before (sym e)
        (heads_clear (record { offset = q; char = 91; next = next; sign = s; kind = refl }) (value_head v))) on.parts in
        record {
          total = on.total;
          visible = on.visible;
          leads = on.leads;
          other = g.other;
          parts = g.parts;
          holds = (
            suc on.holds.0,
            subst (λ (t : Text). IsElements is_comment t
                (fill_elements (spot p (elements_gap d && feed)) (holes.in_element m (holes.array s d)) x)
                (placed (suc on.holds.0) cs)) (sym g.holds) (last v refl),
          );
        }
    elements_done before e (holes.in_element m (holes.inline {q = q} {next = next} s d)) x cs seen ready =
        let on = value_done (holes.inline s d) x (93 ∷ cs) (omega arith, omega arith, seen) ready in
        let v = on.holds.1 in
        let g = kept (gap_to is_comment false before (sym e)
        (heads_clear (record { offset = q; char = 123; next = next; sign = s; kind = refl }) (value_head v))) on.parts
        in
        record {
          total = on.total;
          visible = on.visible;
          leads = on.leads;
          other = g.other;
          parts = g.parts;
          holds = (
            suc on.holds.0,
            subst (λ (t : Text). IsElements is_comment t
                (fill_elements (spot p (fields_gap d && feed)) (holes.in_element m (holes.inline s d)) x)
                (placed (suc on.holds.0) cs)) (sym g.holds) (last v refl),
          );
        }
    elements_done before e (holes.after_this {q = q} {v = v} {mid = mid} w) array_end cs seen ready =
        let b = gap_before mid (93 ∷ cs) (λ o. refl) refl ready in
        let r = value_carried w (record { parts = b.parts; meets = meets_past (apart (bracket_apart feed cs)) b.parts })
        in
        let g = kept (gap_to is_comment false before (sym e) (heads_clear (value_head w) (value_head r.holds)))
        r.cut.parts in
        record {
          total = 93 ∷ cs;
          visible = (omega arith, omega arith, seen);
          leads = (cs, refl);
          other = g.other;
          parts = g.parts;
          holds = (
            suc (spot p feed),
            subst (λ (t : Text). IsElements is_comment t (element q v no_elements)
                (placed (suc (spot p feed)) cs)) (sym g.holds) (last r.holds b.holds),
          );
        }
    elements_done before e (holes.later_element {q = q} {v = v} {mid = mid} {next = next} w s d) x cs seen ready =
        let on = elements_done next refl d x cs seen ready in
        let c = sign_carried s on.parts in
        let b = gap_carried is_comment mid c.cut (same_clear s c.holds) in
        let r = value_carried w b.cut in
        let g = kept (gap_to is_comment false before (sym e) (heads_clear (value_head w) (value_head r.holds)))
        r.cut.parts in
        record {
          total = on.total;
          visible = on.visible;
          leads = on.leads;
          other = g.other;
          parts = g.parts;
          holds = (
            on.holds.0,
            subst (λ (t : Text). IsElements is_comment t
                (element q v (fill_elements (spot p (elements_gap d && feed)) d x)) (placed on.holds.0 cs)) (sym g.holds)
                (and_more r.holds (b.holds ∙ c.holds) on.holds.1),
          );
        }

    fields_done : {h : Hole} {s : Option ℕ} {text at : Text} (before : Text) → after_blanks before ≡ text
        → (d : HoleInFields text h at) (x : Filler h s) (cs : List ℕ) → AreVisible cs → Ready at
        → Goes p (fields_gap d && feed) s at before (λ t. (after : ℕ) × IsFields is_comment (after_blanks t)
        (fill_fields (spot p (fields_gap d && feed)) d x) (placed after cs))
    fields_done before e (holes.fields m d) x cs seen ready =
        let on = fields_on_done before e d x cs seen ready in
        record {
          total = on.total;
          visible = on.visible;
          leads = on.leads;
          other = on.other;
          parts = on.parts;
          holds = (on.holds.0, IsFields.some on.holds.1);
        }

    fields_on_done : {h : Hole} {s : Option ℕ} {text at : Text} (before : Text) → after_blanks before ≡ text
        → (d : HoleInFieldsOn text h at) (x : Filler h s) (cs : List ℕ) → AreVisible cs → Ready at
        → Goes p (fields_on_gap d && feed) s at before (λ t. (after : ℕ) × IsFieldsOn is_comment (after_blanks t)
        (fill_fields_on (spot p (fields_on_gap d && feed)) d x) (placed after cs))
    fields_on_done before e (holes.in_row d) x cs seen ready =
        let on = row_done d x (125 ∷ cs) (omega arith, omega arith, seen) ready in
        let g = kept (run_to is_blank before (sym e) (λ s. row_unblank on.holds.1)) on.parts in
        record {
          total = on.total;
          visible = on.visible;
          leads = on.leads;
          other = g.other;
          parts = g.parts;
          holds = (
            suc on.holds.0,
            subst (λ (t : Text). IsFieldsOn is_comment t
                (fill_fields_on (spot p (row_gap d && feed)) (holes.in_row d) x) (placed (suc on.holds.0) cs))
                (sym g.holds.0) (last_row on.holds.1 refl),
          );
        }
    fields_on_done before e (holes.after_row {keys = keys} {q = q} {v = v} {mid = mid} w) table_end cs seen ready =
        let b = run_to {there = placed p (125 ∷ cs)} is_blank mid refl (λ s. refl) in
        let r = row_carried w (record { parts = b.parts; meets = meets_past (apart refl) b.parts }) in
        let g = kept (run_to is_blank before (sym e) (λ s. row_unblank r.holds)) r.cut.parts in
        record {
          total = 125 ∷ cs;
          visible = (omega arith, omega arith, seen);
          leads = (cs, refl);
          other = g.other;
          parts = g.parts;
          holds = (
            suc p,
            subst (λ (t : Text). IsFieldsOn is_comment t (row keys q v no_rows) (placed (suc p) cs))
                (sym g.holds.0) (last_row r.holds b.holds.0),
          );
        }
    fields_on_done before e (holes.after_row {keys = keys} {q = q} {v = v} {mid = mid} w) another cs seen ready =
        let total : List ℕ = 44 ∷ 107 ∷ 61 ∷ 91 ∷ 93 ∷ 125 ∷ cs in
        let b = run_to {there = placed p total} is_blank mid refl (λ s. refl) in
        let r = row_carried w (record { parts = b.parts; meets = meets_past (apart refl) b.parts }) in
        let g = kept (run_to is_blank before (sym e) (λ s. row_unblank r.holds)) r.cut.parts in
        let k : Key = record { offset = suc p; text = 107 ∷ [] } in
        let end : ℕ = suc (suc (suc (suc (suc (suc p))))) in
        record {
          total = total;
          visible = (
            omega arith,
            omega arith,
            (
              omega arith,
              omega arith,
              (omega arith, omega arith, (omega arith, omega arith, (omega arith, omega arith, (omega arith, omega arith, seen)))),
            ),
          );
          leads = (107 ∷ 61 ∷ 91 ∷ 93 ∷ 125 ∷ cs, refl);
          other = g.other;
          parts = g.parts;
          holds = (
            end,
            subst (λ (t : Text). IsFieldsOn is_comment t (row keys q v
                (row (k ∷ []) (suc (suc (suc p))) (Raw.array no_elements) no_rows)) (placed end cs)) (sym g.holds.0)
                (more_rows r.holds b.holds.0 (last_row (assigned (IsKeys.one (bare refl refl)) refl
                (array refl (close refl))) refl)),
          );
        }
    fields_on_done before e (holes.later_row {keys = keys} {q = q} {v = v} {mid = mid} {next = next} w s d) x cs seen
        ready =
        let on = fields_on_done next refl d x cs seen ready in
        let c = sign_carried s on.parts in
        let b = blanks_carried mid c.cut in
        let r = row_carried w b.cut in
        let g = kept (run_to is_blank before (sym e) (λ s. row_unblank r.holds)) r.cut.parts in
        record {
          total = on.total;
          visible = on.visible;
          leads = on.leads;
          other = g.other;
          parts = g.parts;
          holds = (
            on.holds.0,
            subst (λ (t : Text). IsFieldsOn is_comment t
                (row keys q v (fill_fields_on (spot p (fields_on_gap d && feed)) d x)) (placed on.holds.0 cs))
                (sym g.holds.0) (more_rows r.holds (b.holds ∙ c.holds) on.holds.1),
          );
        }

    pub row_done : {h : Hole} {s : Option ℕ} {text at : Text} (d : HoleInRow text h at) (x : Filler h s) (cs : List ℕ)
        → AreVisible cs → Ready at
        → Goes p (row_gap d && feed) s at text (λ t. (after : ℕ) × IsRow is_comment t
        (fill_row_keys (spot p (row_gap d && feed)) d x) (fill_row_value (spot p (row_gap d && feed)) d x).0
        (fill_row_value (spot p (row_gap d && feed)) d x).1 (placed after cs))
    row_done (holes.in_keys d) x cs seen ready =
        let on = keys_done d x 61 (91 ∷ 93 ∷ cs) refl refl
        (omega arith, omega arith, (omega arith, omega arith, (omega arith, omega arith, seen))) in
        record {
          total = on.total;
          visible = on.visible;
          leads = on.leads;
          other = on.other;
          parts = on.parts;
          holds = (suc (suc (suc (after_filled p x))), assigned on.holds refl (array refl (close refl)));
        }
    row_done (holes.after_keys {mid = mid} ks) fillers.equals cs seen ready =
        let b = run_to {there = placed p (61 ∷ 91 ∷ 93 ∷ cs)} is_blank mid refl (λ s. refl) in
        let r = keys_carried ks (record { parts = b.parts; meets = meets_past (apart refl) b.parts }) in
        record {
          total = 61 ∷ 91 ∷ 93 ∷ cs;
          visible = (omega arith, omega arith, (omega arith, omega arith, (omega arith, omega arith, seen)));
          leads = (91 ∷ 93 ∷ cs, refl);
          other = r.other;
          parts = r.cut.parts;
          holds = (suc (suc (suc p)), assigned r.holds b.holds.0 (array refl (close refl)));
        }
    row_done (holes.in_value {keys = keys} {mid = mid} {next = next} ks s d) x cs seen ready =
        let on = value_done d x cs seen ready in
        let m = sign_spaced mid next s on.parts (λ e. value_unblank on.holds.1) in
        let r = keys_carried ks m.cut in
        let v = fill_value (spot p (value_gap d && feed)) d x in
        record {
          total = on.total;
          visible = on.visible;
          leads = on.leads;
          other = r.other;
          parts = r.cut.parts;
          holds = (
            on.holds.0,
            assigned r.holds m.holds.sign (subst (λ (t : Text). IsValue is_comment t v.0 v.1
                (placed on.holds.0 cs)) (sym m.holds.on) on.holds.1),
          );
        }
