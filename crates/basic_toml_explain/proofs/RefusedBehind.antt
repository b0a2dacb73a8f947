-- What no token is refused at, and where one is first.
use Rattle.std.proofs.Common.{inl, inr, ◌≡◌, ℕ, List, [], ◌∷◌, refl, sym, ◌∙◌}
use Rattle.basic_toml_tokens.specs.declared.error.Error.{Error}
use Rattle.basic_toml_tokens.specs.Text.{Text}
use Rattle.basic_toml_tokens.specs.Strings.{Quotes, Opens, one_line, multiline}
use Rattle.basic_toml_tokens.specs.TokenAt.{Lexeme, IsToken, punctuation, blanks, word, remark, quoted}
use Rattle.basic_toml_tokens.specs.Faults as faults
use Rattle.basic_toml_tokens.specs.Faults.{IsFault, Breaks}
use Rattle.basic_toml_tokens.proofs.TokenIsUnique.{token_or_fault}
use Rattle.basic_toml_grammar.specs.Faults.{Fault}
use Rattle.basic_toml_grammar.specs.GrammarFaults as grammar
use Rattle.basic_toml_grammar.specs.GrammarFaults.{IsTokenFault}
use Rattle.basic_toml_grammar.specs.Viable.{FirstRefusal}
use Rattle.basic_toml_explain.specs.Error.{token_fault}
use Rattle.basic_toml_explain.specs.Cursor.{IsStopped, Accepts}
use Rattle.basic_toml_explain.specs.NumberFault.{IsStoppedBehind, NoneRefused}

-- a fault of a token keeps its kind and its offset
breaks_told : {k : Quotes} {start : ℕ} {text rest : Text} {error : Error} → Breaks k start text error rest
    → IsTokenFault error (token_fault error)
breaks_told faults.over = grammar.open_string
breaks_told (faults.feed m at) = grammar.feed
breaks_told (faults.control at c) = grammar.char
breaks_told (faults.over_in_escape d at) = grammar.open_string
breaks_told (faults.escape d at then e) = grammar.escape
breaks_told (faults.blank d m at then b after ne) = grammar.escape
breaks_told (faults.over_in_blanks d m at then b e) = grammar.open_string
breaks_told (faults.hex d at then n l after) = grammar.hex_escape
breaks_told (faults.over_in_hex d at then n l e) = grammar.open_string
breaks_told (faults.value d at then n l s) = grammar.escape_value

pub fault_told : {text rest : Text} {error : Error} → IsFault text error rest → IsTokenFault error (token_fault error)
fault_told (faults.unexpected at h) = grammar.other_char
fault_told (faults.broken b) = breaks_told b.breaks

-- where a token stands the text is not over
opens_some : {text rest : Text} {p : ℕ} {k : Quotes} → Opens text p k rest → text ≡ [] → ⊥
opens_some (one_line {p} {d} {text} {next} at q n) h = let z : (p, d) ∷ next ≡ [] = sym at ∙ h in cc
opens_some (multiline {p} {d} {text} {next} at q n) h = let z : (p, d) ∷ next ≡ [] = sym at ∙ h in cc

pub token_some : {source : List ℕ} {text rest : Text} {l : Lexeme} → IsToken source text l rest → text ≡ [] → ⊥
token_some (punctuation {p} {c} {l} {text} {rest} at e) h = let z : (p, c) ∷ rest ≡ [] = sym at ∙ h in cc
token_some (blanks {p} {c} {text} {next} at e) h = let z : (p, c) ∷ next ≡ [] = sym at ∙ h in cc
token_some (word {p} {c} {text} {next} at e) h = let z : (p, c) ∷ next ≡ [] = sym at ∙ h in cc
token_some (remark {p} {text} {next} at) h = let z : (p, 35) ∷ next ≡ [] = sym at ∙ h in cc
token_some (quoted s) h = opens_some s.opens h

fault_some : {text rest : Text} {error : Error} → IsFault text error rest → text ≡ [] → ⊥
fault_some (faults.unexpected {p} {c} {text} {rest} at e) h = let z : (p, c) ∷ rest ≡ [] = sym at ∙ h in cc
fault_some (faults.broken b) h = opens_some b.opens h

-- a text that is over, or at which a token stands
pub accepts_end : {text : Text} → text ≡ [] → Accepts text
accepts_end e fault r = fault_some r.is_fault e

pub accepts_token : {source : List ℕ} {text rest : Text} {l : Lexeme} → IsToken source text l rest → Accepts text
accepts_token t fault r = token_or_fault t r.is_fault

-- one by one
nothing_refused : {texts : List Text} {fault : Fault} → FirstRefusal texts fault → texts ≡ [] → ⊥
nothing_refused (FirstRefusal.this {text} {texts} r) e = cc
nothing_refused (FirstRefusal.later {text} {texts} m f) e = cc

pub none_refused : NoneRefused []
none_refused fault f = nothing_refused f refl

pub none_and : {text : Text} {texts : List Text} → Accepts text → NoneRefused texts → NoneRefused (text ∷ texts)
none_and a n fault (FirstRefusal.this r) = a fault r
none_and a n fault (FirstRefusal.later m f) = n fault f

pub stopped_at : {text : Text} {texts : List Text} (fault : Fault) → IsStopped text fault
    → IsStoppedBehind (text ∷ texts) fault
stopped_at fault (inl e) = inl e
stopped_at fault (inr r) = inr (FirstRefusal.this r)

pub stopped_later : {text : Text} {texts : List Text} (fault : Fault) → Accepts text → IsStoppedBehind texts fault
    → IsStoppedBehind (text ∷ texts) fault
stopped_later fault a (inl e) = inl e
stopped_later fault a (inr f) = inr (FirstRefusal.later a f)
