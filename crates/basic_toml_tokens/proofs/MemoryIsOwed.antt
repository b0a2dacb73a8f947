-- Where memory is needed: the laws of `Statements`.
use Rattle.std.proofs.Common.{inl, inr, ◌≡◌, ℕ, ◌+◌, ◌≤◌, ◌==◌, ◌||◌, min, Bool, true, false, cond, List, [], ◌∷◌}
use Rattle.std.proofs.Common.{drop, refl, ap, sym, ◌∙◌, subst, arith, encode_utf8_all, Option, Some, None, Ok, Err}
use Rattle.std.specs.Str.{IsUtf8, IsCharBoundary}
use Rattle.std.specs.List.{list_any}
use Rattle.std.proofs.lemmas.List.Folds.{list_any-append}
use Rattle.std.proofs.lemmas.Bool.{or_left}
use Rattle.basic_toml_tokens.specs.declared.error.Error.{Error}
use Rattle.basic_toml_tokens.specs.declared.error.Error.TheVariants.{OutOfMemory}
use Rattle.basic_toml_tokens.specs.declared.quote.Quote.{Quote}
use Rattle.basic_toml_tokens.specs.Text.{Text, text_at}
use Rattle.basic_toml_tokens.specs.Strings.{Quotes, is_quote, count_of, Pieces, Closes, one, several, Opens}
use Rattle.basic_toml_tokens.specs.Strings.{one_line, multiline, IsString}
use Rattle.basic_toml_tokens.specs.TokenAt.{Lexeme, newline, equals, period, comma, colon, plus, left_brace}
use Rattle.basic_toml_tokens.specs.TokenAt.{right_brace, left_bracket, right_bracket, string, punctuation_of}
use Rattle.basic_toml_tokens.specs.TokenAt.{IsToken, punctuation, blanks, word, remark, quoted}
use Rattle.basic_toml_tokens.specs.Faults.{Breaks, over, feed, control, over_in_escape, escape, blank}
use Rattle.basic_toml_tokens.specs.Faults.{over_in_blanks, hex, over_in_hex, value, BreaksString, IsFault}
use Rattle.basic_toml_tokens.specs.Faults.{unexpected, broken}
use Rattle.basic_toml_tokens.specs.Reading.{between}
use Rattle.basic_toml_tokens.specs.Copies.{is_special, is_copied, needs_copy, NeedsMemory}
use Rattle.basic_toml_tokens.specs.Quote.{kind_of}
use Rattle.basic_toml_tokens.specs.String.{IsOpen}
use Rattle.basic_toml_tokens.specs.Statements.{WantOfMemoryIsOwed, OnlyStringsTakeMemory, OnlyCopiesTakeMemory}
use Rattle.basic_toml_tokens.specs.Statements.{OnlyCopiesBeforeABreak, EndTakesNoMemory}
use Rattle.basic_toml_tokens.proofs.TextBetweenOffsets.{between_join, between_one}
use Rattle.basic_toml_tokens.proofs.DelimitersAreCounted.{quote_bounds}
use Rattle.basic_toml_tokens.proofs.StepIsTheFold.{byte_step}
use Rattle.basic_toml_tokens.proofs.BodyFrontStands.{closes_front, breaks_front, IsMore}
use Rattle.basic_toml_tokens.proofs.RestsArePartsOfText.{IsPart, leads_on, pieces_part, closes_part, part_trans}
use Rattle.basic_toml_tokens.proofs.RestsArePartsOfText.{part_later}
use Rattle.basic_toml_tokens.proofs.FoundIsAllThatStands.{offsets_same}
use Rattle.basic_toml_tokens.proofs.BytesTellThePiece.{no_special}
use Rattle.basic_toml_tokens.proofs.OffsetsTellTheText.{part_stands, first_at, delimiters_at, opens_at}
use Rattle.basic_toml_tokens.proofs.TokenIsUnique.{Class, First, classes_same, Chosen, chosen, opens_first}
use Rattle.basic_toml_tokens.proofs.TokenIsUnique.{opens_quote, Opening, opens_is}

-- no fault is called want of memory
break_is_other : {k : Quotes} {start : ℕ} {text rest : Text} {fault : Error} → Breaks k start text fault rest
    → fault ≡ OutOfMemory → ⊥
break_is_other over e = cc
break_is_other (feed m at) e = cc
break_is_other (control at h) e = cc
break_is_other (over_in_escape d at) e = cc
break_is_other (escape d at then h) e = cc
break_is_other (blank d m at then h stop ne) e = cc
break_is_other (over_in_blanks d m at then h stop) e = cc
break_is_other (hex d at then h l stop) e = cc
break_is_other (over_in_hex d at then h l stop) e = cc
break_is_other (value d at then h l s) e = cc

fault_is_other : {text rest : Text} {fault : Error} → IsFault text fault rest → fault ≡ OutOfMemory → ⊥
fault_is_other (unexpected at h) e = cc
fault_is_other (broken b) e = break_is_other b.breaks e

pub owed : WantOfMemoryIsOwed
owed old new (inl (next, f, moved)) = absurd (fault_is_other f.fault_is refl)
owed old new (inr (e, same, needs)) = (same, needs)

opens_punctuation : {text body : Text} {p : ℕ} {k : Quotes} → Opens text p k body → (d : ℕ) × (rest : Text)
    × (text ≡ (p, d) ∷ rest) × (is_quote d ≡ true)
opens_punctuation (one_line at q l) = (_, _, at, q)
opens_punctuation (multiline at q l) = (_, _, at, q)

pub only_strings : OnlyStringsTakeMemory
only_strings bytes at n = opens_punctuation n.opens

-- at the end nothing stands
nothing_first : {text : Text} {class : Class} → First text class → text ≡ [] → ⊥
nothing_first f e = let z : (f.offset, f.character) ∷ f.rest ≡ [] = sym f.is ∙ e in cc

fault_stands : {text rest : Text} {fault : Error} → IsFault text fault rest → text ≡ [] → ⊥
fault_stands (unexpected {p} {c} {text} {rest} at h) e = let z : (p, c) ∷ rest ≡ [] = sym at ∙ e in cc
fault_stands (broken b) e = nothing_first (opens_first b.opens) e

pub at_the_end : EndTakesNoMemory
at_the_end old new (Ok (Some pair)) e a = let (class, f, x) = chosen a.taken.stands.token in absurd (nothing_first f e)
at_the_end old new (Ok None) e a = (refl, a.1)
at_the_end old new (Err error) e (inl (next, f, moved)) = absurd (fault_stands f.fault_is e)
at_the_end old new (Err error) e (inr (is, same, needs)) = absurd (nothing_first (opens_first needs.opens) e)

abbrev opening : ℕ → Quotes → Text → Opening
opening p kind body = record { offset = p; kind = kind; body = body }

-- an opening, its body by the offset where it begins
record Opened (bytes : List ℕ) (at p : ℕ) (kind : Quotes) (body : Text) : Type 0 where
  pub quote : Quote
  pub begin : ℕ
  pub open_is : IsOpen bytes at quote begin
  pub same : opening p kind body ≡ opening at (kind_of quote) (text_at bytes begin)

-- pieces from the body up to an offset, with something that asks for a copy
record Asked (bytes : List ℕ) (at : ℕ) : Type 0 where
  pub quote : Quote
  pub begin : ℕ
  pub upto : ℕ
  pub open_is : IsOpen bytes at quote begin
  pub inside : List ℕ
  pub pieces : Pieces (kind_of quote) (text_at bytes begin) inside (text_at bytes upto)
  pub boundary : IsCharBoundary bytes upto
  pub later : begin ≤ upto
  pub special : list_any (is_special quote.delimiter) (between bytes begin upto) ≡ true

module _ (bytes : List ℕ) (at : ℕ) (whole : IsUtf8 bytes) (here : IsCharBoundary bytes at) where
  opened : {p : ℕ} {kind : Quotes} {body : Text} → Opens (text_at bytes at) p kind body → Opened bytes at p kind body
  opened opens = let (quote, begin, open_is) = opens_at bytes at whole here opens in
      record { quote = quote; begin = begin; open_is = open_is; same = sym (opens_is opens) ∙ opens_is open_is.opens }

  asked : NeedsMemory bytes at → Asked bytes at
  asked n =
      let o = opened n.opens in
      let pieces = subst (λ (w : Opening). Pieces w.kind w.body n.inside (text_at bytes n.upto)) o.same n.pieces in
      let later : o.begin ≤ n.upto =
      part_later bytes o.begin n.upto whole o.open_is.boundary.0 n.boundary (pieces_part pieces) in
      let lines : n.kind.multiline ≡ o.quote.multiline = ap (λ (w : Opening). w.kind.multiline) o.same in
      record {
        quote = o.quote;
        begin = o.begin;
        upto = n.upto;
        open_is = o.open_is;
        inside = n.inside;
        pieces = pieces;
        boundary = n.boundary;
        later = later;
        special = sym (o.open_is.copies n.upto later n.boundary.0) ∙
            ap (λ (m : Bool). is_copied m (between bytes at n.upto)) (sym lines) ∙ n.copied;
      }

  -- it asks for a copy up to every later offset, too
  grows : (a : Asked bytes at) (stop : ℕ) → IsCharBoundary bytes stop → a.upto ≤ stop
      → is_copied a.quote.multiline (between bytes at stop) ≡ true
  grows a stop there h =
      a.open_is.copies stop (omega (arith, a.later, h)) there.0 ∙
      ap (list_any (is_special a.quote.delimiter)) (sym (between_join bytes a.begin a.upto stop a.later h))
      ∙ list_any-append (is_special a.quote.delimiter) (between bytes a.begin a.upto) (between bytes a.upto stop)
      ∙ or_left (list_any (is_special a.quote.delimiter) (between bytes a.begin a.upto))
      (list_any (is_special a.quote.delimiter) (between bytes a.upto stop)) a.special

  -- and the string goes on after these pieces
  string_copied : (a : Asked bytes at) {p : ℕ} {m : Bool} {v : List ℕ} (end : ℕ) → IsCharBoundary bytes end
      → IsString (text_at bytes at) p m v (text_at bytes end) → is_copied m (between bytes at end) ≡ true
  string_copied a {p} {m} {v} end there s =
      let k = kind_of a.quote in
      let same : opening p s.kind s.body ≡ opening at k (text_at bytes a.begin) = sym (opens_is s.opens) ∙
      opens_is a.open_is.opens in
      let pieces = subst (λ (w : Opening). Pieces w.kind w.body s.inside s.closer) same s.pieces in
      let closes = subst (λ (w : Opening). Closes w.kind s.closer s.tail (text_at bytes end)) same s.closes in
      let on = leads_on k 0 a.open_is.quoted a.pieces pieces
      (λ m. subst IsMore (closes_front k 0 a.open_is.quoted closes) m) in
      let lines : m ≡ a.quote.multiline = sym s.lines ∙ ap (λ (w : Opening). w.kind.multiline) same in
      ap (λ (m : Bool). is_copied m (between bytes at end)) lines
      ∙ grows a end there (part_later bytes a.upto end whole a.boundary.0 there
      (part_trans _ _ _ (closes_part closes) (pieces_part on.pieces)))

  break_copied : (a : Asked bytes at) {fault : Error} {rest : Text} (stop : ℕ) → IsCharBoundary bytes stop
      → (b : BreaksString (text_at bytes at) fault rest) → text_at bytes stop ≡ b.stop
      → is_copied b.kind.multiline (between bytes at stop) ≡ true
  break_copied a {fault} {rest} stop there b e =
      let k = kind_of a.quote in
      let same : opening b.start b.kind b.body ≡ opening at k (text_at bytes a.begin) = sym (opens_is b.opens) ∙
      opens_is a.open_is.opens in
      let pieces = subst (λ (w : Opening). Pieces w.kind w.body b.inside b.stop) same b.pieces in
      let breaks = subst (λ (w : Opening). Breaks w.kind w.offset b.stop fault rest) same b.breaks in
      let on = leads_on k at a.open_is.quoted a.pieces pieces
      (λ m. subst IsMore (breaks_front k at a.open_is.quoted breaks) m) in
      let lines : b.kind.multiline ≡ a.quote.multiline = ap (λ (w : Opening). w.kind.multiline) same in
      ap (λ (m : Bool). is_copied m (between bytes at stop)) lines
      ∙ grows a stop there (part_later bytes a.upto stop whole a.boundary.0 there
      (subst (λ (t : Text). IsPart t (text_at bytes a.upto)) (sym e) (pieces_part on.pieces)))

  -- where a string closes, nothing asks for a copy
  closes_bare : {k : Quotes} {text rest : Text} {tail : List ℕ} (u end : ℕ) → is_quote k.delimiter ≡ true
      → IsCharBoundary bytes u → IsCharBoundary bytes end → Closes k text tail rest
      → text_at bytes u ≡ text → text_at bytes end ≡ rest
      → list_any (is_special k.delimiter) (between bytes u end) ≡ false
  closes_bare {k} u end q there stop (one {p} {text} {rest} m e) f g =
      let (small, no_return, no_feed) = quote_bounds k.delimiter q in
      let (within, first) = first_at bytes u whole there k.delimiter p rest (f ∙ e) q in
      let s = byte_step bytes u whole there within k.delimiter first small no_return in
      let both : (u, k.delimiter) ∷ text_at bytes (u + 1) ≡ (p, k.delimiter) ∷ rest = sym s.text ∙ f ∙ e in
      let after : text_at bytes (u + 1) ≡ rest = cc in
      let ends : end ≡ u + 1 = offsets_same bytes at whole end (u + 1) stop s.boundary (g ∙ sym after) in
      ap (λ (n : ℕ). list_any (is_special k.delimiter) (between bytes u n)) ends ∙
      ap (list_any (is_special k.delimiter)) (between_one bytes u within ∙ ap (λ (b : ℕ). b ∷ []) first) ∙
      no_special k.delimiter 1 q
  closes_bare {k} u end q there stop (several {n} {text} m e l) f g =
      let (j, ds) = delimiters_at bytes u whole there k.delimiter q in
      let counted : min n 5 ≡ j = ap (λ (x : ℕ). min x 5) (sym e ∙ ap (count_of k.delimiter) (sym f)) ∙
      sym ds.counted in
      let after : text_at bytes (u + j) ≡ text_at bytes end = ds.rest j (omega arith) ∙
      ap (λ (x : ℕ). drop x (text_at bytes u)) (sym counted) ∙ ap (drop (min n 5)) f ∙ sym g in
      let ends : end ≡ u + j = offsets_same bytes at whole end (u + j) stop (ds.boundary j (omega arith)) (sym after) in
      ap (λ (n : ℕ). list_any (is_special k.delimiter) (between bytes u n)) ends ∙
      ap (list_any (is_special k.delimiter)) ds.spelled ∙ no_special k.delimiter j q

  string_needs : {p : ℕ} {m : Bool} {v : List ℕ} (end : ℕ) → IsCharBoundary bytes end
      → IsString (text_at bytes at) p m v (text_at bytes end) → is_copied m (between bytes at end) ≡ true
      → NeedsMemory bytes at
  string_needs {p} {m} {v} end there s h =
      let o = opened s.opens in
      let (n, part) = pieces_part s.pieces in
      let d = o.quote.delimiter in
      let r = part_stands n bytes o.begin whole o.open_is.boundary in
      let stop_is : text_at bytes r.offset ≡ s.closer = r.is ∙ ap (λ (w : Opening). drop n w.body) (sym o.same) ∙
      sym part in
      let later : o.begin ≤ r.offset =
      part_later bytes o.begin r.offset whole o.open_is.boundary.0 r.boundary (n, r.is) in
      let ends : r.offset ≤ end =
      part_later bytes r.offset end whole r.boundary.0 there
      (subst (λ (t : Text). IsPart (text_at bytes end) t) (sym stop_is) (closes_part s.closes)) in
      let none : list_any (is_special d) (between bytes r.offset end) ≡ false =
      ap (λ (w : Opening). list_any (is_special w.kind.delimiter) (between bytes r.offset end)) (sym o.same) ∙
      closes_bare r.offset end (opens_quote s.opens) r.boundary there s.closes stop_is refl in
      let lines : s.kind.multiline ≡ o.quote.multiline = ap (λ (w : Opening). w.kind.multiline) o.same in
      let whole_special : list_any (is_special d) (between bytes o.begin end) ≡ true =
      sym (o.open_is.copies end (omega arith) there.0) ∙
      ap (λ (b : Bool). is_copied b (between bytes at end)) (sym lines ∙ s.lines) ∙ h in
      let special : list_any (is_special d) (between bytes o.begin r.offset) ≡ true =
      sym (or_false (list_any (is_special d) (between bytes o.begin r.offset))) ∙
      ap (λ (b : Bool). list_any (is_special d) (between bytes o.begin r.offset) || b) (sym none)
      ∙ sym (list_any-append (is_special d) (between bytes o.begin r.offset) (between bytes r.offset end)) ∙
      ap (list_any (is_special d)) (between_join bytes o.begin r.offset end later ends) ∙ whole_special in
      record {
        kind = s.kind;
        body = s.body;
        opens = subst (λ (i : ℕ). Opens (text_at bytes at) i s.kind s.body) (ap (λ (w : Opening). w.offset) o.same)
            s.opens;
        inside = s.inside;
        upto = r.offset;
        pieces = subst (λ (t : Text). Pieces s.kind s.body s.inside t) (sym stop_is) s.pieces;
        boundary = r.boundary;
        copied = ap (λ (b : Bool). is_copied b (between bytes at r.offset)) lines ∙
            o.open_is.copies r.offset later r.boundary.0 ∙ special;
      }
    where
      or_false : (b : Bool) → (b || false) ≡ b
      or_false true = refl
      or_false false = refl

  break_needs : {fault : Error} {rest : Text} (stop : ℕ) → IsCharBoundary bytes stop
      → (b : BreaksString (text_at bytes at) fault rest) → text_at bytes stop ≡ b.stop
      → is_copied b.kind.multiline (between bytes at stop) ≡ true → NeedsMemory bytes at
  break_needs stop there b e h = record {
    kind = b.kind;
    body = b.body;
    opens = subst (λ (i : ℕ). Opens (text_at bytes at) i b.kind b.body)
        (ap (λ (w : Opening). w.offset) (opened b.opens).same) b.opens;
    inside = b.inside;
    upto = stop;
    pieces = subst (λ (t : Text). Pieces b.kind b.body b.inside t) (sym e) b.pieces;
    boundary = there;
    copied = h;
  }

abbrev copies_of : Option Lexeme → Bool
copies_of None = false
copies_of (Some l) = needs_copy l

-- no punctuation asks for a copy
either : (b : Bool) (l : Lexeme) (others : Option Lexeme) → needs_copy l ≡ false → copies_of others ≡ false
    → copies_of (cond b (Some l) others) ≡ false
either true l others h k = h
either false l others h k = k

punctuation_bare : (c : ℕ) → copies_of (punctuation_of c) ≡ false
punctuation_bare c =
    either (c == 10) newline _ refl
    (either (c == 61) equals _ refl
    (either (c == 46) period _ refl (either (c == 44) comma _ refl (either (c == 58) colon _ refl
    (either (c == 43) plus _ refl
    (either (c == 123) left_brace _ refl
    (either (c == 125) right_brace _ refl
    (either (c == 91) left_bracket _ refl (either (c == 93) right_bracket None refl refl)))))))))

-- a token that asks for a copy is a string
record Copied (source : List ℕ) (text : Text) (l : Lexeme) (rest : Text) : Type 0 where
  pub start : ℕ
  pub multiline : Bool
  pub value : List ℕ
  pub string_is : IsString text start multiline value rest
  pub is : l ≡ string source (encode_utf8_all value) multiline

copied_token : {source : List ℕ} {text rest : Text} {l : Lexeme} → IsToken source text l rest → needs_copy l ≡ true
    → Copied source text l rest
copied_token (punctuation {p} {c} {l} at e) h = let z : false ≡ true = sym (punctuation_bare c) ∙ ap copies_of e ∙
    h in cc
copied_token (blanks at k) h = let z : false ≡ true = h in cc
copied_token (word at k) h = let z : false ≡ true = h in cc
copied_token (remark at) h = let z : false ≡ true = h in cc
copied_token (quoted {p} {m} {value} s) h = record { start = p; multiline = m; value = value; string_is = s; is = refl }

-- where a string opens, no other token stands
opened_token : {source : List ℕ} {text rest body : Text} {l : Lexeme} {p : ℕ} {k : Quotes} → Opens text p k body
    → IsToken source text l rest → Copied source text l rest
opened_token {source} {text} {rest} {body} {l} opens t =
    let (class, f, x) = chosen t in
    let (start, m, v, s, e) =
    subst (λ (c : Class). Chosen source c text l rest) (classes_same f (opens_first opens)) x in
    record { start = start; multiline = m; value = v; string_is = s; is = e }

pub only_copies : OnlyCopiesTakeMemory
only_copies bytes at lexeme end whole here t = (
  needed,
  λ h. let c = copied_token t.token h in
      string_needs bytes at whole here end t.boundary c.string_is (sym (ap needs_copy c.is) ∙ h),
)
  where
    needed : NeedsMemory bytes at → needs_copy lexeme ≡ true
    needed n = let c = opened_token n.opens t.token in ap needs_copy c.is ∙
        string_copied bytes at whole here (asked bytes at whole here n) end t.boundary c.string_is

pub before_a_break : OnlyCopiesBeforeABreak
before_a_break bytes at fault rest stop whole here there b e = (
  λ n. break_copied bytes at whole here (asked bytes at whole here n) stop there b e,
  λ h. break_needs bytes at whole here stop there b e h,
)
