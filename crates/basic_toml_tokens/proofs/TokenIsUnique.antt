-- At most one token stands at the front of a text, and none where a fault does.
use Rattle.std.proofs.Common.{◌⊎◌, inl, inr, ◌≡◌, ℕ, ◌==◌, ◌||◌, Bool, true, false, not, cond, List, [], ◌∷◌, ◌++◌}
use Rattle.std.proofs.Common.{drop, refl, ap, sym, ◌∙◌, subst, Option, Some, None, is_none, nat_lt, encode_utf8_all}
use Rattle.std.proofs.lemmas.Bool.{or_cases, or_parts, ne_eqb, eqb-true, both_ways, lt-ltb, le-ltb}
use Rattle.basic_toml_tokens.specs.declared.error.Error.{Error}
use Rattle.basic_toml_tokens.specs.declared.error.Error.TheVariants.{Unexpected}
use Rattle.basic_toml_tokens.specs.Text.{Text, run, after_run, is_blank, is_keylike, is_comment}
use Rattle.basic_toml_tokens.specs.Strings.{Quotes, is_quote, count_of, after_feed, Pieces, Closes, Opens, one_line}
use Rattle.basic_toml_tokens.specs.Strings.{multiline, IsString}
use Rattle.basic_toml_tokens.specs.TokenAt.{Lexeme, whitespace, comment, keylike, string, punctuation_of, IsToken}
use Rattle.basic_toml_tokens.specs.TokenAt.{punctuation, blanks, word, remark, quoted}
use Rattle.basic_toml_tokens.specs.Faults.{begins_token, BreaksString, Breaks, IsFault, unexpected}
use Rattle.basic_toml_tokens.specs.Faults.{broken as broken_string}
use Rattle.basic_toml_tokens.specs.BodyFront.{Front, closed, broken, front_of}
use Rattle.basic_toml_tokens.proofs.BodyFrontStands.{closes_front, breaks_front, pieces_same, IsMore}

-- what a first character begins
pub data Class : Type 0 where
  one : Lexeme → Class
  blank : Class
  letter : Class
  hash : Class
  quote : Class
  other : Class

abbrev pub class_without : ℕ → Option Lexeme → Class
class_without c (Some l) = one l
class_without c None = cond (is_blank c) blank
    (cond (is_keylike c) letter (cond (c == 35) hash (cond (is_quote c) quote other)))

abbrev pub class_of : ℕ → Class
class_of c = class_without c (punctuation_of c)

blank_class : (c : ℕ) → is_blank c ≡ true → class_of c ≡ blank
blank_class c h = go (or_cases (c == 32) (c == 9) h)
  where
    go : ((c == 32) ≡ true) ⊎ ((c == 9) ≡ true) → class_of c ≡ blank
    go (inl e) = rw (eqb-true c 32 e) refl
    go (inr e) = rw (eqb-true c 9 e) refl

pub quote_class : (c : ℕ) → is_quote c ≡ true → class_of c ≡ quote
quote_class c h = go (or_cases (c == 34) (c == 39) h)
  where
    go : ((c == 34) ≡ true) ⊎ ((c == 39) ≡ true) → class_of c ≡ quote
    go (inl e) = rw (eqb-true c 34 e) refl
    go (inr e) = rw (eqb-true c 39 e) refl

no_letter : (c n : ℕ) → is_keylike c ≡ true → is_keylike n ≡ false → (c == n) ≡ false
no_letter c n h k = ne_eqb c n (λ e. both_ways (is_keylike n) k (rw e at h))

letter_class : (c : ℕ) → is_keylike c ≡ true → class_of c ≡ letter
letter_class c h =
    let no_punctuation : punctuation_of c ≡ None =
    rw (
      no_letter c 10 h refl,
      no_letter c 61 h refl,
      no_letter c 46 h refl,
      no_letter c 44 h refl,
      no_letter c 58 h refl,
      no_letter c 43 h refl,
      no_letter c 123 h refl,
      no_letter c 125 h refl,
      no_letter c 91 h refl,
      no_letter c 93 h refl,
    ) refl in
    ap (class_without c) no_punctuation ∙
    rw (no_letter c 32 h refl, no_letter c 9 h refl)
    (ap (λ (b : Bool). cond b letter (cond (c == 35) hash (cond (is_quote c) quote other))) h)

other_class : (c : ℕ) → begins_token c ≡ false → class_of c ≡ other
other_class c h =
    let (a, b) = or_parts (not (is_none (punctuation_of c)) || is_blank c) (is_keylike c || (c == 35 || is_quote c)) h
    in
    let (no_punctuation, no_blank) = or_parts (not (is_none (punctuation_of c))) (is_blank c) a in
    let (no_keylike, d) = or_parts (is_keylike c) (c == 35 || is_quote c) b in
    let (no_hash, no_quote) = or_parts (c == 35) (is_quote c) d in
    go (punctuation_of c) no_punctuation ∙ rw (no_blank, no_keylike, no_hash, no_quote) refl
  where
    go : (o : Option Lexeme) → not (is_none o) ≡ false → class_without c o ≡ class_without c None
    go (Some l) e = let z : true ≡ false = e in cc
    go None e = refl

-- the first character, and what it begins
pub record First (text : Text) (class : Class) : Type 0 where
  pub offset : ℕ
  pub character : ℕ
  pub rest : Text
  pub is : text ≡ (offset, character) ∷ rest
  pub begins : class_of character ≡ class

abbrev head_character : Text → ℕ
head_character [] = 0
head_character (x ∷ text) = x.1

pub classes_same : {text : Text} {a b : Class} → First text a → First text b → a ≡ b
classes_same f g = sym f.begins ∙ ap class_of (ap head_character (sym f.is ∙ g.is)) ∙ g.begins

pub opens_first : {text body : Text} {p : ℕ} {k : Quotes} → Opens text p k body → First text quote
opens_first (one_line {p} {d} {text} {next} at q l) =
    record { offset = p; character = d; rest = next; is = at; begins = quote_class d q }
opens_first (multiline {p} {d} {text} {next} at q l) =
    record { offset = p; character = d; rest = next; is = at; begins = quote_class d q }

pub opens_quote : {text body : Text} {p : ℕ} {k : Quotes} → Opens text p k body → is_quote k.delimiter ≡ true
opens_quote (one_line at q l) = q
opens_quote (multiline at q l) = q

-- a string opens in one way
pub record Opening : Type 0 where
  pub offset : ℕ
  pub kind : Quotes
  pub body : Text

abbrev pub opening_of : Text → Opening
opening_of [] = record { offset = 0; kind = record { delimiter = 0; multiline = false }; body = [] }
opening_of (x ∷ text) =
    cond (nat_lt (count_of x.1 (x ∷ text)) 3)
    (record { offset = x.0; kind = record { delimiter = x.1; multiline = false }; body = text })
    (record { offset = x.0; kind = record { delimiter = x.1; multiline = true }; body = after_feed (drop 2 text) })

pub opens_is : {text body : Text} {p : ℕ} {k : Quotes} → Opens text p k body
    → opening_of text ≡ record { offset = p; kind = k; body = body }
opens_is (one_line {p} {d} {text} {next} at q l) = rw at (rw (lt-ltb (count_of d ((p, d) ∷ next)) 3 (rw at at l)) refl)
opens_is (multiline {p} {d} {text} {next} at q l) = rw at (rw (le-ltb (count_of d ((p, d) ∷ next)) 3 (rw at at l)) refl)

-- where the body closes or breaks, no piece stands
stops : (k : Quotes) (start : ℕ) (text : Text) (f : Front) → front_of k start text ≡ f → (IsMore f → ⊥)
    → IsMore (front_of k start text) → ⊥
stops k start text f e h m = h (subst IsMore e m)

module _ (k : Quotes) (q : is_quote k.delimiter ≡ true) where
  closed_same : {body stop stop' r r' : Text} {v v' tail tail' : List ℕ} → Pieces k body v stop
      → Pieces k body v' stop' → Closes k stop tail r → Closes k stop' tail' r' → (v ++ tail ≡ v' ++ tail') × (r ≡ r')
  closed_same {body} {stop} {stop'} {r} {r'} {v} {v'} {tail} {tail'} ps ps' c c' =
      let (same_value, same_stop) =
      pieces_same k 0 q ps ps' (stops k 0 stop _ (closes_front k 0 q c) (λ m. m))
      (stops k 0 stop' _ (closes_front k 0 q c') (λ m. m)) in
      let e : closed tail r ≡ closed tail' r' = sym (closes_front k 0 q c) ∙ ap (front_of k 0) same_stop ∙
      closes_front k 0 q c' in
      let same_tail : tail ≡ tail' = cc in
      (cc, cc)

  closed_or_broken : {body stop stop' r r' : Text} {v v' tail : List ℕ} {start : ℕ} {fault : Error}
      → Pieces k body v stop → Pieces k body v' stop' → Closes k stop tail r → Breaks k start stop' fault r' → ⊥
  closed_or_broken {body} {stop} {stop'} {r} {r'} {v} {v'} {tail} {start} {fault} ps ps' c b =
      let (same_value, same_stop) =
      pieces_same k start q ps ps' (stops k start stop _ (closes_front k start q c) (λ m. m))
      (stops k start stop' _ (breaks_front k start q b) (λ m. m)) in
      let e : closed tail r ≡ broken fault r' = sym (closes_front k start q c) ∙ ap (front_of k start) same_stop ∙
      breaks_front k start q b in
      cc

  broken_same : {body stop stop' r r' : Text} {v v' : List ℕ} {start : ℕ} {fault fault' : Error}
      → Pieces k body v stop → Pieces k body v' stop' → Breaks k start stop fault r → Breaks k start stop' fault' r'
      → (fault ≡ fault') × (r ≡ r')
  broken_same {body} {stop} {stop'} {r} {r'} {v} {v'} {start} {fault} {fault'} ps ps' b b' =
      let (same_value, same_stop) =
      pieces_same k start q ps ps' (stops k start stop _ (breaks_front k start q b) (λ m. m))
      (stops k start stop' _ (breaks_front k start q b') (λ m. m)) in
      let e : broken fault r ≡ broken fault' r' = sym (breaks_front k start q b) ∙ ap (front_of k start) same_stop ∙
      breaks_front k start q b' in
      (cc, cc)

pub string_same : {text r r' : Text} {p p' : ℕ} {m m' : Bool} {v v' : List ℕ} → IsString text p m v r
    → IsString text p' m' v' r' → (v ≡ v') × (m ≡ m') × (r ≡ r')
string_same {text} {r} {r'} {p} {p'} {m} {m'} {v} {v'} s t =
    let one : Opening = record { offset = p; kind = s.kind; body = s.body } in
    let two : Opening = record { offset = p'; kind = t.kind; body = t.body } in
    let same : one ≡ two = sym (opens_is s.opens) ∙ opens_is t.opens in
    let (a, b) = closed_same s.kind (opens_quote s.opens) s.pieces
    (subst (λ (o : Opening). Pieces o.kind o.body t.inside t.closer) (sym same) t.pieces) s.closes
    (subst (λ (o : Opening). Closes o.kind t.closer t.tail r') (sym same) t.closes) in
    (s.stands_for ∙ a ∙ sym t.stands_for, sym s.lines ∙ ap (λ (o : Opening). o.kind.multiline) same ∙ t.lines, b)

pub no_break : {text r r' : Text} {p : ℕ} {m : Bool} {v : List ℕ} {fault : Error} → IsString text p m v r
    → BreaksString text fault r' → ⊥
no_break {text} {r} {r'} {p} {m} {v} {fault} s b =
    let one : Opening = record { offset = p; kind = s.kind; body = s.body } in
    let two : Opening = record { offset = b.start; kind = b.kind; body = b.body } in
    let same : one ≡ two = sym (opens_is s.opens) ∙ opens_is b.opens in
    closed_or_broken s.kind (opens_quote s.opens) s.pieces
    (subst (λ (o : Opening). Pieces o.kind o.body b.inside b.stop) (sym same) b.pieces) s.closes
    (subst (λ (o : Opening). Breaks o.kind b.start b.stop fault r') (sym same) b.breaks)

break_same : {text r r' : Text} {fault fault' : Error} → BreaksString text fault r → BreaksString text fault' r'
    → (fault ≡ fault') × (r ≡ r')
break_same {text} {r} {r'} {fault} {fault'} a b =
    let one : Opening = record { offset = a.start; kind = a.kind; body = a.body } in
    let two : Opening = record { offset = b.start; kind = b.kind; body = b.body } in
    let same : one ≡ two = sym (opens_is a.opens) ∙ opens_is b.opens in
    broken_same a.kind (opens_quote a.opens) a.pieces
    (subst (λ (o : Opening). Pieces o.kind o.body b.inside b.stop) (sym same) b.pieces) a.breaks
    (subst (λ (o : Opening). Breaks o.kind o.offset b.stop fault' r') (sym same) b.breaks)

abbrev pub tail_of : Text → Text
tail_of [] = []
tail_of (x ∷ text) = text

-- the token at the front, by what its first character begins
abbrev pub Chosen : List ℕ → Class → Text → Lexeme → Text → Type 0
Chosen source (one s) text l rest = (l ≡ s) × (rest ≡ tail_of text)
Chosen source blank text l rest = (l ≡ whitespace (run is_blank text)) × (rest ≡ after_run is_blank text)
Chosen source letter text l rest = (l ≡ keylike (run is_keylike text)) × (rest ≡ after_run is_keylike text)
Chosen source hash text l rest = (l ≡ comment (encode_utf8_all (35 ∷ run is_comment (tail_of text))))
    × (rest ≡ after_run is_comment (tail_of text))
Chosen source quote text l rest = (p : ℕ) × (m : Bool) × (v : List ℕ) × IsString text p m v rest
    × (l ≡ string source (encode_utf8_all v) m)
Chosen source other text l rest = ⊥

pub chosen : {source : List ℕ} {text rest : Text} {l : Lexeme} → IsToken source text l rest → (class : Class)
    × First text class × Chosen source class text l rest
chosen (punctuation {p} {c} {l} {text} {rest} at e) = (
  one l,
  record { offset = p; character = c; rest = rest; is = at; begins = ap (class_without c) e },
  (refl, sym (ap tail_of at)),
)
chosen (blanks {p} {c} {text} {next} at h) =
    (blank, record { offset = p; character = c; rest = next; is = at; begins = blank_class c h }, (refl, refl))
chosen (word {p} {c} {text} {next} at h) =
    (letter, record { offset = p; character = c; rest = next; is = at; begins = letter_class c h }, (refl, refl))
chosen (remark {p} {text} {next} at) = (
  hash,
  record { offset = p; character = 35; rest = next; is = at; begins = refl },
  (
    ap (λ (t : Text). comment (encode_utf8_all (35 ∷ run is_comment t))) (sym (ap tail_of at)),
    ap (after_run is_comment) (sym (ap tail_of at)),
  ),
)
chosen (quoted {p} {m} {value} {text} {rest} s) = (quote, opens_first s.opens, (p, m, value, s, refl))

chosen_same : (source : List ℕ) (class : Class) (text r r' : Text) (l l' : Lexeme) → Chosen source class text l r
    → Chosen source class text l' r' → (l ≡ l') × (r ≡ r')
chosen_same source (one s) text r r' l l' a b = (a.0 ∙ sym b.0, a.1 ∙ sym b.1)
chosen_same source blank text r r' l l' a b = (a.0 ∙ sym b.0, a.1 ∙ sym b.1)
chosen_same source letter text r r' l l' a b = (a.0 ∙ sym b.0, a.1 ∙ sym b.1)
chosen_same source hash text r r' l l' a b = (a.0 ∙ sym b.0, a.1 ∙ sym b.1)
chosen_same source quote text r r' l l' a b =
    let (same_value, same_lines, same_rest) = string_same a.3 b.3 in (
      a.4 ∙ ap (λ (v : List ℕ). string source (encode_utf8_all v) a.1) same_value ∙
          ap (string source (encode_utf8_all b.2)) same_lines ∙ sym b.4,
      same_rest,
    )
chosen_same source other text r r' l l' a b = absurd a

-- at most one token stands at the front of a text
pub token_same : {source : List ℕ} {text r r' : Text} {l l' : Lexeme} → IsToken source text l r
    → IsToken source text l' r' → (l ≡ l') × (r ≡ r')
token_same {source} {text} {r} {r'} {l} {l'} a b =
    let (c, f, x) = chosen a in
    let (d, g, y) = chosen b in
    chosen_same source c text r r' l l' x (subst (λ (e : Class). Chosen source e text l' r') (classes_same g f) y)

abbrev unexpected_at : Text → Error
unexpected_at [] = Unexpected 0 0
unexpected_at (x ∷ t) = Unexpected x.0 x.1

-- the fault at the front, by what its first character begins
abbrev Refused : Class → Text → Error → Text → Type 0
Refused quote text fault rest = BreaksString text fault rest
Refused other text fault rest = (p : ℕ) × (c : ℕ) × (text ≡ (p, c) ∷ rest) × (fault ≡ Unexpected p c)
Refused _ text fault rest = ⊥

refused : {text rest : Text} {fault : Error} → IsFault text fault rest → (class : Class) × First text class
    × Refused class text fault rest
refused (unexpected {p} {c} {text} {rest} at h) =
    (other, record { offset = p; character = c; rest = rest; is = at; begins = other_class c h }, (p, c, at, refl))
refused (broken_string b) = (quote, opens_first b.opens, b)

chosen_or_refused : (source : List ℕ) (class : Class) (text r r' : Text) (l : Lexeme) (fault : Error)
    → Chosen source class text l r → Refused class text fault r' → ⊥
chosen_or_refused source (one s) text r r' l fault a b = b
chosen_or_refused source blank text r r' l fault a b = b
chosen_or_refused source letter text r r' l fault a b = b
chosen_or_refused source hash text r r' l fault a b = b
chosen_or_refused source quote text r r' l fault a b = no_break a.3 b
chosen_or_refused source other text r r' l fault a b = a

-- a fault comes only where no token stands
pub token_or_fault : {source : List ℕ} {text r r' : Text} {l : Lexeme} {fault : Error} → IsToken source text l r
    → IsFault text fault r' → ⊥
token_or_fault {source} {text} {r} {r'} {l} {fault} a b =
    let (c, f, x) = chosen a in
    let (d, g, y) = refused b in
    chosen_or_refused source c text r r' l fault x (subst (λ (e : Class). Refused e text fault r') (classes_same g f) y)

refused_same : (class : Class) (text r r' : Text) (fault fault' : Error) → Refused class text fault r
    → Refused class text fault' r' → (fault ≡ fault') × (r ≡ r')
refused_same (one s) text r r' fault fault' a b = absurd a
refused_same blank text r r' fault fault' a b = absurd a
refused_same letter text r r' fault fault' a b = absurd a
refused_same hash text r r' fault fault' a b = absurd a
refused_same quote text r r' fault fault' a b = break_same a b
refused_same other text r r' fault fault' a b =
    let e : (a.0, a.1) ∷ r ≡ (b.0, b.1) ∷ r' = sym a.2 ∙ b.2 in
    (a.3 ∙ ap unexpected_at e ∙ sym b.3, ap tail_of e)

-- and it is one fault
pub fault_same : {text r r' : Text} {fault fault' : Error} → IsFault text fault r → IsFault text fault' r'
    → (fault ≡ fault') × (r ≡ r')
fault_same {text} {r} {r'} {fault} {fault'} a b =
    let (c, f, x) = refused a in
    let (d, g, y) = refused b in
    refused_same c text r r' fault fault' x (subst (λ (e : Class). Refused e text fault' r') (classes_same g f) y)
