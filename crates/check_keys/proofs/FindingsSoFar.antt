-- What was found before an offset, and what the tokens from there on will add.
use Rattle.std.proofs.Common.{◌≡◌, ◌==◌, if◌then◌else◌, Bool, true, false, not, map, ◌||◌, ℕ, ◌+◌, ◌≤◌}
use Rattle.std.proofs.Common.{List, [], ◌∷◌, ◌++◌, Option, Some, None, Ok, Err, Result, is_err, inl, inr}
use Rattle.std.proofs.Common.{String, Vec, Global}
use Rattle.std.proofs.Common.{refl, sym, ap, subst, ◌∙◌, arith}
use Rattle.std.specs.List.{list_any}
use Rattle.std.specs.Result.{OnOk, IsErrAnd}
use Rattle.std.proofs.lemmas.Bool.{true≢false}
use Rattle.std.specs.String.{string_bytes}
use Rattle.std.proofs.lemmas.List.{append_assoc, append-nil}
use Rattle.basic_toml.specs.tokens.Text.{text_at, start_of}
use Rattle.basic_toml.specs.tokens.Token.{TokenAt, FaultAt, lexeme_of}
use Rattle.basic_toml.specs.tokens.Tokenizer.{Takes, Stops}
use Rattle.basic_toml.specs.tokens.Reading.{Reading, text_of}
use Rattle.basic_toml.specs.tokens.TokenAt.{Lexeme, whitespace, newline, comment, equals, period, comma, colon, plus}
use Rattle.basic_toml.specs.tokens.TokenAt.{left_brace, right_brace, left_bracket, right_bracket, keylike, string}
use Rattle.basic_toml_tokens.specs.declared.error.Error.{Error}
use Rattle.basic_toml_tokens.specs.declared.span.Span.{Span}
use Rattle.basic_toml_tokens.specs.declared.token.Token.{Token}
use Rattle.check_keys.specs.declared.keys.Finding.{Finding}
use Rattle.check_keys.specs.declared.keys.Trouble.TheVariants.{Duplicate, TooLong}
use Rattle.check_keys.specs.Rows.{Item, key, Stand, start, in_key, behind, stand_after, item_at, items_from, also}
use Rattle.check_keys.specs.Rows.{depth_of}
use Rattle.check_keys.specs.Rows.{AreTokens, none, next}
use Rattle.check_keys.specs.Findings.{Parts, findings, findings_at, findings_by, found, is_among}
use Rattle.check_keys.specs.Findings.{is_long, seen_after, seen_by, AnswersFindings}

-- After the tokens up to `at`: a line stands so, these keys of its section were seen, and these findings came. Whatever
-- tokens are left, the findings of all tokens are those and what they add.
pub record SoFar (text : List ℕ) (stand : Stand) (seen : List Parts) (came : List Finding) (at : ℕ) : Type 0 where
  pub within : depth_of stand ≤ at
  pub told : (rest : List (ℕ × Lexeme)) (end : ℕ) → AreTokens text at rest end → (tokens : List (ℕ × Lexeme))
      × AreTokens text (start_of text) tokens end
      × (findings text [] (items_from start tokens) ≡ came ++ findings text seen (items_from stand rest))

pub begins : (text : List ℕ) → SoFar text start [] [] (start_of text)
begins text = record { within = omega arith; told = λ rest end are. (rest, are, refl) }

-- one bracket more at most
newline_no_deeper : (b : Bool) (depth : ℕ) → depth_of (if b then start else behind depth) ≤ depth + 1
newline_no_deeper true depth = omega arith
newline_no_deeper false depth = omega arith

one_deeper : (stand : Stand) (at : ℕ) (l : Lexeme) → depth_of (stand_after stand at l) ≤ depth_of stand + 1
one_deeper start at l = elim l as (λ k. depth_of (stand_after start at k) ≤ depth_of start + 1) [
  | whitespace _ ↦ omega arith
  | newline ↦ omega arith
  | comment _ ↦ omega arith
  | equals ↦ omega arith
  | period ↦ omega arith
  | comma ↦ omega arith
  | colon ↦ omega arith
  | plus ↦ omega arith
  | left_brace ↦ omega arith
  | right_brace ↦ omega arith
  | left_bracket ↦ omega arith
  | right_bracket ↦ omega arith
  | keylike _ ↦ omega arith
  | string _ _ _ ↦ omega arith
]
one_deeper (in_key offset parts) at l =
    elim l as (λ k. depth_of (stand_after (in_key offset parts) at k) ≤ depth_of (in_key offset parts) + 1) [
      | whitespace _ ↦ omega arith
      | newline ↦ omega arith
      | comment _ ↦ omega arith
      | equals ↦ omega arith
      | period ↦ omega arith
      | comma ↦ omega arith
      | colon ↦ omega arith
      | plus ↦ omega arith
      | left_brace ↦ omega arith
      | right_brace ↦ omega arith
      | left_bracket ↦ omega arith
      | right_bracket ↦ omega arith
      | keylike _ ↦ omega arith
      | string _ _ _ ↦ omega arith
    ]
one_deeper (behind depth) at l =
    elim l as (λ k. depth_of (stand_after (behind depth) at k) ≤ depth_of (behind depth) + 1) [
      | whitespace _ ↦ omega arith
      | newline ↦ newline_no_deeper (depth == 0) depth
      | comment _ ↦ omega arith
      | equals ↦ omega arith
      | period ↦ omega arith
      | comma ↦ omega arith
      | colon ↦ omega arith
      | plus ↦ omega arith
      | left_brace ↦ omega arith
      | right_brace ↦ omega arith
      | left_bracket ↦ omega arith
      | right_bracket ↦ omega arith
      | keylike _ ↦ omega arith
      | string _ _ _ ↦ omega arith
    ]

-- what an item adds
by_item : (text : List ℕ) (seen : List Parts) (came : List Finding) (more : List Item) (item : Option Item)
    → came ++ findings text seen (also item more)
    ≡ (came ++ findings_by text seen item) ++ findings text (seen_by seen item) more
by_item text seen came more None = ap (λ z. z ++ findings text seen more) (sym (append-nil came))
by_item text seen came more (Some item) =
    sym (append_assoc came (findings_at text seen item) (findings text (seen_after seen item) more))

one_step : (text : List ℕ) (stand after : Stand) (seen now : List Parts) (came new : List Finding) (at to : ℕ)
    → (l : Lexeme) (item : Option Item)
    → SoFar text stand seen came at → TokenAt text at l to → after ≡ stand_after stand at l → item ≡ item_at stand l
    → now ≡ seen_by seen item → new ≡ came ++ findings_by text seen item → SoFar text after now new to
one_step text stand after seen now came new at to l item sofar token moved item-is now-is new-is = record {
  within = subst (λ s. depth_of s ≤ to) (sym moved)
      (omega (arith, one_deeper stand at l, sofar.within, token.forward));
  told = λ rest end are.
      let all = sofar.told ((at, l) ∷ rest) end (next token are) in (
        all.0,
        all.1,
        all.2
            ∙ ap (λ i. came ++ findings text seen (also i (items_from (stand_after stand at l) rest))) (sym item-is)
            ∙ ap (λ s. came ++ findings text seen (also item (items_from s rest))) (sym moved)
            ∙ by_item text seen came (items_from after rest) item
            ∙ ap (λ z. z ++ findings text (seen_by seen item) (items_from after rest)) (sym new-is)
            ∙ ap (λ s. new ++ findings text s (items_from after rest)) (sym now-is),
      );
}

-- ---- what a call of the tokenizer answers

pub begun : (text : List ℕ) (came : List Finding) (at : ℕ) → came ≡ [] → at ≡ start_of text
    → SoFar text start [] came at
begun text came at empty at-is =
    subst (λ n. SoFar text start [] came n) (sym at-is)
    (subst (λ z. SoFar text start [] z (start_of text)) (sym empty) (begins text))

pub went_on : (text : List ℕ) (stand after : Stand) (seen now : List Parts) (came new : List Finding)
    → (old later : Reading) (span : Span) (token : Token) (item : Option Item)
    → SoFar text stand seen came old.offset → old.text ≡ text → Takes old later span token
    → after ≡ stand_after stand span.start (lexeme_of token) → item ≡ item_at stand (lexeme_of token)
    → now ≡ seen_by seen item → new ≡ came ++ findings_by text seen item
    → SoFar text after now new later.offset × (later.text ≡ text)
went_on text stand after seen now came new old later span token item sofar same takes moved item-is now-is new-is = (
  subst (λ n. SoFar text after now new n) (sym (ap (λ r. r.offset) takes.after))
      (one_step text stand after seen now came new old.offset span.end (lexeme_of token) item sofar
      (subst (λ t. TokenAt t old.offset (lexeme_of token) span.end) same takes.taken.stands)
      (moved ∙ ap (λ n. stand_after stand n (lexeme_of token)) takes.start) item-is now-is new-is),
  ap (λ r. r.text) takes.after ∙ same,
)

pub ended : (text : List ℕ) (stand : Stand) (seen : List Parts) (came : Vec Finding Global) (old : Reading)
    → SoFar text stand seen came.items old.offset → old.text ≡ text → text_of old ≡ []
    → AnswersFindings text (Ok came)
ended text stand seen came old sofar same over =
    let all = sofar.told [] old.offset none in
    (all.0, old.offset, all.1, subst (λ t. text_at t old.offset ≡ []) same over, sym (all.2 ∙ append-nil came.items))

pub stopped_at : (text : List ℕ) (stand : Stand) (seen : List Parts) (came : List Finding) (old new : Reading)
    → (error : Error) → SoFar text stand seen came old.offset → old.text ≡ text → Stops old new error
    → AnswersFindings text (Err error)
stopped_at text stand seen came old new error sofar same (inl stop) =
    let all = sofar.told [] old.offset none in
    inr (all.0, old.offset, stop.0, all.1, subst (λ t. FaultAt t old.offset error stop.0) same stop.1)
stopped_at text stand seen came old new error sofar same (inr memory) = inl memory.0

pub stopped : {A : Type 0} (P : Result A Error → Type 0) (result : Result A Error) (error : Error)
    → IsErrAnd result (λ e. e ≡ error) → P (Err error) → P result
stopped P (Ok x) error e p = absurd e
stopped P (Err s) error e p = subst (λ s. P (Err s)) (sym e) p

-- ---- one key

pub on_ok : {E : Type 0} (r : Result (Unit {0}) E) (P Q : Type 0) → OnOk r P → (P → Q) → OnOk r Q
on_ok (Ok _) P Q held follows = follows held
on_ok (Err _) P Q held follows = held

any_long : (parts : List (String Global))
    → list_any (λ part. is_long (string_bytes part)) parts ≡ list_any is_long (map string_bytes parts)
any_long [] = refl
any_long (part ∷ parts) = ap (λ b. is_long (string_bytes part) || b) (any_long parts)

two_added : (long among : Bool) (a : List Finding) (x y : Finding)
    → (a ++ (if long then x ∷ [] else [])) ++ (if not (not among) then y ∷ [] else [])
    ≡ a ++ ((if long then x ∷ [] else []) ++ (if among then y ∷ [] else []))
two_added true true a x y = append_assoc a (x ∷ []) (y ∷ [])
two_added true false a x y = append_assoc a (x ∷ []) []
two_added false true a x y = append_assoc a [] (y ∷ [])
two_added false false a x y = append_assoc a [] []

-- what two tests of a key add to what came before
pub noted : (text : List ℕ) (offset : ℕ) (parts : List (String Global)) (before : List Parts) (long is_new : Bool)
    → (x y : Finding) (a b c : List Finding)
    → long ≡ list_any (λ part. is_long (string_bytes part)) parts
    → is_new ≡ not (is_among (map string_bytes parts) before)
    → x ≡ found text offset TooLong → y ≡ found text offset Duplicate
    → b ≡ a ++ (if long then x ∷ [] else []) → c ≡ b ++ (if not is_new then y ∷ [] else [])
    → c ≡ a ++ findings_at text before (key offset (map string_bytes parts))
noted text offset parts before long is_new x y a b c long-is new-is x-is y-is b-is c-is =
    c-is ∙ ap (λ z. z ++ (if not is_new then y ∷ [] else [])) b-is
    ∙ ap (λ z. (a ++ (if z then x ∷ [] else [])) ++ (if not is_new then y ∷ [] else [])) (long-is ∙ any_long parts)
    ∙ ap (λ z. (a ++ (if list_any is_long (map string_bytes parts) then x ∷ [] else []))
    ++ (if not z then y ∷ [] else [])) new-is
    ∙ two_added (list_any is_long (map string_bytes parts)) (is_among (map string_bytes parts) before) a x y
    ∙ ap (λ z. a ++ ((if list_any is_long (map string_bytes parts) then z ∷ [] else [])
    ++ (if is_among (map string_bytes parts) before then y ∷ [] else []))) x-is
    ∙ ap (λ z. a ++ ((if list_any is_long (map string_bytes parts) then found text offset TooLong ∷ [] else [])
    ++ (if is_among (map string_bytes parts) before then z ∷ [] else []))) y-is

pub not_err : {A E : Type 0} (r : Result A E) (P : Type 0) → is_err r ≡ false → OnOk r P → P
not_err (Ok _) P passed held = held
not_err (Err _) P passed held = absurd (true≢false passed)
