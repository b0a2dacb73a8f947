-- The fault that a text is due is one. Tokens lead from the start in one way, so they stop at one offset; and there each
-- case of `IsDueAt` excludes the others.
use Rattle.std.proofs.Common.{◌≡◌, ◌⊎◌, inl, inr, ℕ, ◌==◌, ◌++◌, Bool, true, false, cond, List, [], ◌∷◌, Option, Some}
use Rattle.std.proofs.Common.{None, refl, ap, sym, ◌∙◌, subst, eqb-true}
use Rattle.std.proofs.lemmas.List.{append_assoc}
use Rattle.std.specs.Str.{chars}
use Rattle.basic_toml_tokens.specs.Text.{Text, run, after_run, is_keylike, offset_in}
use Rattle.basic_toml_tokens.specs.TokenAt as token
use Rattle.basic_toml_tokens.specs.TokenAt.{Lexeme, keylike, string, IsToken, punctuation_of}
use Rattle.basic_toml_tokens.specs.Descriptions.{description_of}
use Rattle.basic_toml_tokens.specs.declared.error.Error.{Error}
use Rattle.basic_toml_tokens.specs.Faults.{IsFault, unexpected, broken}
use Rattle.basic_toml_tokens.proofs.TokenIsUnique.{token_same, token_or_fault, fault_same, opens_first}
use Rattle.basic_toml_grammar.specs.Sections.{no_rows}
use Rattle.basic_toml_grammar.specs.Faults.{Fault, FaultKind, number_invalid}
use Rattle.basic_toml_grammar.specs.Grammar.{over, no_more}
use Rattle.basic_toml_grammar.specs.NumberFaults.{number_fault, plus_fault, word_fault, begins_number}
use Rattle.basic_toml_grammar.specs.GrammarFaults as faults
use Rattle.basic_toml_grammar.specs.GrammarFaults.{Stands, fault_at, IsTokenFault}
use Rattle.basic_toml_grammar.specs.Statements.{GrammarFaultsAreOne, GrammarTextsHaveNone, PassedTextIsViable}
use Rattle.basic_toml_grammar.specs.Viable as viable
use Rattle.basic_toml_grammar.specs.Viable.{GoesOn, RefusesToken, FirstRefusal, Want, mismatch_kind, wants, NumberFails}
use Rattle.basic_toml_grammar.specs.Viable.{MayStand, Viable, at_start, after, StopsAt, IsWanted, IsDueAt, IsDue}
use Rattle.basic_toml_grammar.proofs.Grammar.GrammarIsUnambiguous.{no_sign, string_heads}

-- lexemes that differ in the bytes of a string alone
data Alike : Lexeme → Lexeme → Type 0 where
  same : {l : Lexeme} → Alike l l
  strings : {source other value : List ℕ} {m : Bool} → Alike (string source value m) (string other value m)

-- what a token is, where its source is another
record Resourced (source : List ℕ) (text : Text) (l : Lexeme) (rest : Text) : Type 0 where
  lexeme : Lexeme
  is : IsToken source text lexeme rest
  alike : Alike lexeme l

resourced : {other : List ℕ} {text rest : Text} {l : Lexeme} (source : List ℕ) → IsToken other text l rest
    → Resourced source text l rest
resourced source (token.punctuation {l = l} s e) =
    record { lexeme = l; is = token.punctuation s e; alike = same }
resourced source (token.blanks s w) = record { lexeme = _; is = token.blanks s w; alike = same }
resourced source (token.word s w) = record { lexeme = _; is = token.word s w; alike = same }
resourced source (token.remark s) = record { lexeme = _; is = token.remark s; alike = same }
resourced source (token.quoted s) = record { lexeme = _; is = token.quoted s; alike = strings }

rest_same : {source other : List ℕ} {text r r' : Text} {l l' : Lexeme} → IsToken source text l r
    → IsToken other text l' r' → r ≡ r'
rest_same {source = source} x y = (token_same x (resourced source y).is).1

-- tokens that may stand lead from one offset to another
pub data Leads (start : Text) (end : ℕ) : Text → Text → Type 0 where
  here : {text : Text} → Leads start end text text
  on : {text rest last : Text} → MayStand start end text rest → Leads start end rest last → Leads start end text last

module _ {start : Text} {end : ℕ} where
  further : {text rest last : Text} → Leads start end text rest → MayStand start end rest last
      → Leads start end text last
  further here m = on m here
  further (on n p) m = on n (further p m)

  leads_from_start : {text last : Text} → Viable start end text → Leads start end text last
      → Leads start end start last
  leads_from_start at_start p = p
  leads_from_start (after v m) p = leads_from_start v (on m p)

  next_same : {text r r' : Text} → MayStand start end text r → MayStand start end text r' → r ≡ r'
  next_same m n = rest_same m.follows.next.here n.follows.next.here

  -- of two such offsets tokens lead from one to the other
  pub either_leads : {text other : Text} → Viable start end text → Viable start end other
      → Leads start end text other ⊎ Leads start end other text
  either_leads at_start w = inl (leads_from_start w here)
  either_leads (after v m) w = then m (either_leads v w)
    where
      then : {text rest other : Text} → MayStand start end text rest
          → Leads start end text other ⊎ Leads start end other text
          → Leads start end rest other ⊎ Leads start end other rest
      then m (inl here) = inr (on m here)
      then {other = other} m (inl (on n p)) =
          inl (subst (λ (t : Text). Leads start end t other) (next_same n m) p)
      then m (inr p) = inr (further p m)

  pub stays : {text other : Text} → StopsAt start end text → Leads start end text other → text ≡ other
  stays s here = refl
  stays s (on {rest = rest} m p) = absurd (s.stuck rest m)

  stop_same : {text other : Text} → StopsAt start end text → StopsAt start end other → text ≡ other
  stop_same {text = text} {other = other} s t = go (either_leads s.viable t.viable)
    where
      go : Leads start end text other ⊎ Leads start end other text → text ≡ other
      go (inl p) = stays s p
      go (inr p) = sym (stays t p)

-- the fault of a token is one
named_same : {error : Error} {fault other : Fault} → IsTokenFault error fault → IsTokenFault error other → fault ≡ other
named_same faults.char faults.char = refl
named_same faults.escape faults.escape = refl
named_same faults.hex_escape faults.hex_escape = refl
named_same faults.escape_value faults.escape_value = refl
named_same faults.feed faults.feed = refl
named_same faults.other_char faults.other_char = refl
named_same faults.open_string faults.open_string = refl

refusal_same : {text : Text} {fault other : Fault} → RefusesToken text fault → RefusesToken text other → fault ≡ other
refusal_same {fault = fault} x y =
    named_same (subst (λ (e : Error). IsTokenFault e fault) (fault_same x.is_fault y.is_fault).0 x.names) y.names

first_refusal_same : {texts : List Text} {fault other : Fault} → FirstRefusal texts fault → FirstRefusal texts other
    → fault ≡ other
first_refusal_same (viable.this x) (viable.this y) = refusal_same x y
first_refusal_same {fault = fault} (viable.this x) (viable.later n y) = absurd (n fault x)
first_refusal_same {other = other} (viable.later n x) (viable.this y) = absurd (n other y)
first_refusal_same (viable.later n x) (viable.later m y) = first_refusal_same x y

-- what is wanted is one
wanted_same : {start at : Text} {end : ℕ} {choices : List (Option ℕ × Want)} {want other : Want}
    → IsWanted start end at choices want → IsWanted start end at choices other → want ≡ other
wanted_same (viable.this m) (viable.this n) = refl
wanted_same (viable.this m) (viable.later n y) = absurd (n m)
wanted_same (viable.later m x) (viable.this n) = absurd (m n)
wanted_same (viable.later m x) (viable.later n y) = wanted_same x y
wanted_same viable.otherwise viable.otherwise = refl

-- and so is what is said of what is found
string_kind : (want : Want) (m : Bool) (source other value : List ℕ)
    → mismatch_kind want (Some (string source value m)) (description_of (string source value m))
    ≡ mismatch_kind want (Some (string other value m)) (description_of (string other value m))
string_kind Want.value true source other value = refl
string_kind Want.value false source other value = refl
string_kind Want.equals true source other value = refl
string_kind Want.equals false source other value = refl
string_kind Want.right_bracket true source other value = refl
string_kind Want.right_bracket false source other value = refl
string_kind Want.comma true source other value = refl
string_kind Want.comma false source other value = refl
string_kind Want.table_key true source other value = refl
string_kind Want.table_key false source other value = refl
string_kind Want.newline true source other value = refl
string_kind Want.newline false source other value = refl

alike_kind : {l l' : Lexeme} (want : Want) → Alike l l'
    → mismatch_kind want (Some l) (description_of l) ≡ mismatch_kind want (Some l') (description_of l')
alike_kind want same = refl
alike_kind want (strings {source = s} {other = t} {value = v} {m = m}) = string_kind want m s t v

pub no_token_at_end : {source : List ℕ} {rest : Text} {l : Lexeme} → IsToken source [] l rest → ⊥
no_token_at_end (token.punctuation s e) = no_sign refl s
no_token_at_end (token.blanks s w) = no_sign refl s
no_token_at_end (token.word s w) = no_sign refl s
no_token_at_end (token.remark s) = no_sign refl s
no_token_at_end (token.quoted s) = no_sign refl (string_heads s).sign

found_same : {at : Text} {found other : Option Lexeme} {word spelling : List ℕ} (want : Want) → Stands at found word
    → Stands at other spelling → mismatch_kind want found word ≡ mismatch_kind want other spelling
found_same want (faults.token {source = source} x) (faults.token y) =
    let r = resourced source y in
    ap (λ (l : Lexeme). mismatch_kind want (Some l) (description_of l)) (token_same x r.is).0
    ∙ alike_kind want r.alike
found_same want (faults.token x) faults.end = absurd (no_token_at_end x)
found_same want faults.end (faults.token y) = absurd (no_token_at_end y)
found_same want faults.end faults.end = refl

-- where a number is at fault, a token stands
record HasToken (text : Text) : Type 0 where
  lexeme : Lexeme
  rest : Text
  is : IsToken [] text lexeme rest

no_word : {o : ℕ} (b : Bool) (cs : List ℕ) (fault : Option ℕ) → b ≡ false
    → cond (begins_number (cond b cs [])) fault None ≡ Some o → ⊥
no_word true cs fault e f = cc
no_word false cs fault e f = cc

number_token : {o : ℕ} (end : ℕ) (text : Text) → number_fault end text ≡ Some o → HasToken text
number_token end [] e = cc
number_token {o = o} end (x ∷ text) e = go (x.1 == 43) refl e
  where
    word : (b : Bool) → is_keylike x.1 ≡ b
        → cond (begins_number (run is_keylike (x ∷ text))) (word_fault end x.0 (run is_keylike (x ∷ text))
        (after_run is_keylike (x ∷ text))) None ≡ Some o
        → HasToken (x ∷ text)
    word true k e = record {
      lexeme = keylike (run is_keylike (x ∷ text));
      rest = after_run is_keylike (x ∷ text);
      is = token.word refl k;
    }
    word false k e =
        absurd (no_word (is_keylike x.1) (x.1 ∷ run is_keylike text)
        (word_fault end x.0 (run is_keylike (x ∷ text)) (after_run is_keylike (x ∷ text))) k e)

    go : (b : Bool) → (x.1 == 43) ≡ b
        → cond b (plus_fault end (run is_keylike text) text) (cond (begins_number (run is_keylike (x ∷ text)))
        (word_fault end x.0 (run is_keylike (x ∷ text)) (after_run is_keylike (x ∷ text))) None) ≡ Some o
        → HasToken (x ∷ text)
    go true h e = record {
      lexeme = token.plus;
      rest = text;
      is = token.punctuation refl (ap punctuation_of (eqb-true x.1 43 h));
    }
    go false h e = word (is_keylike x.1) refl e

refused_number : {start at : Text} {end o : ℕ} {fault : Fault} → NumberFails start end at o → RefusesToken at fault → ⊥
refused_number {at = at} {end = end} n r = token_or_fault (number_token end at n.fault).is r.is_fault

stands_or_refuses : {at : Text} {found : Option Lexeme} {word : List ℕ} {fault : Fault} → Stands at found word
    → RefusesToken at fault → ⊥
stands_or_refuses (faults.token x) r = token_or_fault x r.is_fault
stands_or_refuses faults.end r = no_fault r.is_fault
  where
    no_fault : {error : Error} {rest : Text} → IsFault [] error rest → ⊥
    no_fault (unexpected s e) = no_sign refl s
    no_fault (broken b) = let f = opens_first b.opens in no_sign refl f.is

due_same : {start at : Text} {end : ℕ} {fault other : Fault} → IsDueAt start end at fault → IsDueAt start end at other → fault ≡ other
due_same (viable.no_token r) (viable.no_token s) = refusal_same r s
due_same (viable.no_token r) (viable.number n f) = absurd (refused_number n r)
due_same (viable.no_token r) (viable.token_of_number n f) = absurd (refused_number n r)
due_same (viable.no_token r) (viable.mismatch n s w) = absurd (stands_or_refuses s r)
due_same (viable.number n f) (viable.no_token s) = absurd (refused_number n s)
due_same (viable.number {offset = o} n f) (viable.number {offset = q} m g) =
    let found : Some o ≡ Some q = sym n.fault ∙ m.fault in
    let one : o ≡ q = cc in
    ap (λ (o : ℕ). fault_at number_invalid o) one
due_same {other = other} (viable.number n f) (viable.token_of_number m g) = absurd (f other g)
due_same (viable.number {offset = o} n f) (viable.mismatch m s w) = absurd (m o n)
due_same (viable.token_of_number n f) (viable.no_token s) = absurd (refused_number n s)
due_same {fault = fault} (viable.token_of_number n f) (viable.number m g) = absurd (g fault f)
due_same (viable.token_of_number n f) (viable.token_of_number m g) = first_refusal_same f g
due_same (viable.token_of_number {offset = o} n f) (viable.mismatch m s w) = absurd (m o n)
due_same (viable.mismatch n s w) (viable.no_token t) = absurd (stands_or_refuses s t)
due_same (viable.mismatch n s w) (viable.number {offset = o} m g) = absurd (n o m)
due_same (viable.mismatch n s w) (viable.token_of_number {offset = o} m g) = absurd (n o m)
due_same {at = at} {end = end} (viable.mismatch {found = found} {word = word} n s w) (viable.mismatch {want = other} m t v) =
    ap (λ (w : Want). fault_at (mismatch_kind w found word) (offset_in end at)) (wanted_same w v)
    ∙ ap (λ (k : FaultKind). fault_at k (offset_in end at)) (found_same other s t)

pub grammar_faults_are_one : GrammarFaultsAreOne
grammar_faults_are_one start end fault other d e =
    due_same (subst (λ (t : Text). IsDueAt start end t fault) (stop_same d.stops e.stops) d.due) e.due

pub grammar_texts_have_none : GrammarTextsHaveNone
grammar_texts_have_none start end sections fault g d = d.outside sections g

-- all that is passed begins a text of the grammar
pub passed_text_is_viable : PassedTextIsViable
unfolding chars
passed_text_is_viable start end at at_start = record {
  front = [];
  before = refl;
  bytes = [];
  utf8 = ([], (refl, refl));
  sections = [];
  grammar = record { rows = no_rows; headed = []; rest = []; root = over; others = no_more; all = refl };
  rest = [];
  same = refl;
  next = tt;
}
passed_text_is_viable start end at (after v m) =
    let g = m.follows in
    let t = g.next in
    record {
      front = g.front ++ t.chars;
      before = g.before ∙ ap (λ (u : Text). g.front ++ u) t.split ∙ sym (append_assoc g.front t.chars at);
      bytes = g.bytes;
      utf8 = g.utf8;
      sections = g.sections;
      grammar = g.grammar;
      rest = t.more;
      same = g.same ∙ ap (λ (u : Text). g.front ++ u) t.other_split ∙ sym (append_assoc g.front t.chars t.more);
      next = tt;
    }
