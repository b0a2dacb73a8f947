-- What stands at an offset of a path, from the tokens there, both ways.
use Rattle.std.proofs.Common.{◌≡◌, ℕ, List, [], ◌∷◌, ◌++◌, Option, Some, None, refl, sym, ap, subst, ◌∙◌, option_map}
use Rattle.basic_toml_tokens.specs.Reading.{Reading}
use Rattle.basic_toml_tokens.specs.Token.{TokenAt}
use Rattle.basic_toml_tokens.specs.Tokenizer.{key_of}
use Rattle.basic_toml_tokens.specs.TokenAt.{Lexeme, whitespace, newline, comment, equals, period, comma, colon, plus}
use Rattle.basic_toml_tokens.specs.TokenAt.{left_brace, right_brace, left_bracket, right_bracket, keylike, string}
use Rattle.toml_path.specs.declared.path.Sign.{Sign}
use Rattle.toml_path.specs.declared.path.Sign.TheVariants.{Period, Open, Close}
use Rattle.toml_path.specs.Path.{Step, key, element, IsAt, IsElementAt, IsStepAt, by_key, by_number, Answers, sign_of}
use Rattle.toml_path.specs.Path.{number_of, AreSteps, over, more, IsPath, empty, begun}
use Rattle.std.proofs.Common.{length, ◌<◌, ◌≤◌, arith}
use Rattle.std.proofs.lemmas.List.{append_assoc, append-nil, map-append}
use Rattle.std.proofs.Common.{true, false, ◌==◌, map, Global}
use Rattle.std.proofs.lemmas.Bool.{true≢false, eqb-true}
use Rattle.std.specs.Cow.{cow_str_bytes}
use Rattle.std.specs.declared.borrow.CowStr.{CowStr}
use Rattle.toml_path.specs.Path.{step_of}
use Rattle.toml_path.specs.declared.path.Step as code
use Rattle.toml_path.specs.declared.path.Step.TheVariants.{Key}

-- what is made of the only token
pub made : {A : Type 0} (f : Lexeme → Option A) (text : List ℕ) (at : ℕ) (new : Reading) (l : Lexeme) (o : Option A)
    → Answers TokenAt text at new (Some l) → f l ≡ o → Answers (IsAt f) text at new o
made f text at new l (Some x) (same, stands, only) is = (
  same,
  (l, stands, is),
  λ other end (l', there, is').
      let (l-same, end-same) = only l' end there in
      (some_same (sym is' ∙ ap f l-same ∙ is), end-same),
)
  where
    some_same : {A : Type 0} {x y : A} → Some x ≡ Some y → x ≡ y
    some_same e = cc e
made f text at new l None (same, stands, only) is =
    λ other end (l', there, is').
    let (l-same, end-same) = only l' end there in
    absurd (none_some (sym is ∙ ap f (sym l-same) ∙ is'))
  where
    none_some : {A : Type 0} {x : A} → None ≡ Some x → ⊥
    none_some e = cc e

pub none_made : {A : Type 0} (f : Lexeme → Option A) (text : List ℕ) (at : ℕ) (new : Reading)
    → Answers TokenAt text at new None → Answers (IsAt f) text at new None
none_made f text at new none = λ other end (l, there, is). none l end there

-- ---- signs

abbrev token_of : Sign → Lexeme
token_of Period = period
token_of Open = left_bracket
token_of Close = right_bracket

of_token : (s : Sign) → sign_of (token_of s) ≡ Some s
of_token Period = refl
of_token Open = refl
of_token Close = refl

is_token : (l : Lexeme) (s : Sign) → sign_of l ≡ Some s → l ≡ token_of s
is_token (whitespace _) s e = absurd (cc e)
is_token newline s e = absurd (cc e)
is_token (comment _) s e = absurd (cc e)
is_token equals s e = absurd (cc e)
is_token period s e = ap token_of (let is : Period ≡ s = cc e in is)
is_token comma s e = absurd (cc e)
is_token colon s e = absurd (cc e)
is_token plus s e = absurd (cc e)
is_token left_brace s e = absurd (cc e)
is_token right_brace s e = absurd (cc e)
is_token left_bracket s e = ap token_of (let is : Open ≡ s = cc e in is)
is_token right_bracket s e = ap token_of (let is : Close ≡ s = cc e in is)
is_token (keylike _) s e = absurd (cc e)
is_token (string _ _ _) s e = absurd (cc e)

-- the sign that was found stands there, and another does not
stands : (text : List ℕ) (at : ℕ) (new : Reading) (s : Sign) → Answers (IsAt sign_of) text at new (Some s)
    → TokenAt text at (token_of s) new.offset
stands text at new s (same, (l, there, is), only) =
    subst (λ (l : Lexeme). TokenAt text at l new.offset) (is_token l s is) there

only_sign : (text : List ℕ) (at : ℕ) (new : Reading) (s : Sign) → Answers (IsAt sign_of) text at new (Some s)
    → (t : Sign) (end : ℕ) → TokenAt text at (token_of t) end → (t ≡ s) × (end ≡ new.offset)
only_sign text at new s (same, there, only) t end other = only t end (token_of t, other, of_token t)

no_sign : (text : List ℕ) (at : ℕ) (new : Reading) → Answers (IsAt sign_of) text at new None
    → (t : Sign) (end : ℕ) → TokenAt text at (token_of t) end → ⊥
no_sign text at new none t end other = none t end (token_of t, other, of_token t)

-- ---- elements

pub element_found : (text : List ℕ) (at : ℕ) (mid new : Reading) (n : ℕ) (o : Option ℕ) (s : Option Sign)
    → Answers (IsAt number_of) text at mid o → o ≡ Some n
    → Answers (IsAt sign_of) mid.text mid.offset new s → s ≡ Some Close → Answers IsElementAt text at new (Some n)
element_found text at mid new n o s number o-is sign s-is =
    let (same, there, only) = subst (Answers (IsAt number_of) text at mid) o-is number in
    let closed = subst (λ (t : List ℕ). Answers (IsAt sign_of) t mid.offset new (Some Close)) same
    (subst (Answers (IsAt sign_of) mid.text mid.offset new) s-is sign) in (
      closed.0,
      (mid.offset, there, stands text mid.offset new Close closed),
      λ other end (to, other-number, close).
          let (n-same, to-same) = only other to other-number in
          let (_, end-same) = only_sign text mid.offset new Close closed Close end
          (subst (λ (x : ℕ). TokenAt text x right_bracket end) to-same close) in
          (n-same, end-same),
    )

pub element_open : (text : List ℕ) (at : ℕ) (mid new : Reading) (n : ℕ) (o : Option ℕ) (s : Option Sign)
    → Answers (IsAt number_of) text at mid o → o ≡ Some n
    → Answers (IsAt sign_of) mid.text mid.offset new s → (s ≡ Some Close → ⊥) → Answers IsElementAt text at new None
element_open text at mid new n o s number o-is sign not =
    let (same, there, only) = subst (Answers (IsAt number_of) text at mid) o-is number in
    λ other end (to, other-number, close).
    let (_, to-same) = only other to other-number in
    closes_not text mid.offset new s (subst (λ (t : List ℕ). Answers (IsAt sign_of) t mid.offset new s) same sign) not
    end (subst (λ (x : ℕ). TokenAt text x right_bracket end) to-same close)
  where
    closes_not : (text : List ℕ) (at : ℕ) (new : Reading) (s : Option Sign) → Answers (IsAt sign_of) text at new s
        → (s ≡ Some Close → ⊥) → (end : ℕ) → TokenAt text at right_bracket end → ⊥
    closes_not text at new None none not end there = no_sign text at new none Close end there
    closes_not text at new (Some s) one not end there =
        not (ap Some (sym (only_sign text at new s one Close end there).0))

pub element_none : (text : List ℕ) (at : ℕ) (mid new : Reading) (o : Option ℕ) → Answers (IsAt number_of) text at mid o
    → o ≡ None → Answers IsElementAt text at new None
element_none text at mid new o number o-is =
    let none = subst (Answers (IsAt number_of) text at mid) o-is number in
    λ other end (to, other-number, close). none other to other-number

-- ---- steps

pub step_by_key : (text : List ℕ) (at : ℕ) (mid new : Reading) (s : Option Sign) (o : Option (List ℕ))
    → Answers (IsAt sign_of) text at mid s → s ≡ Some Period → Answers (IsAt key_of) mid.text mid.offset new o
    → Answers IsStepAt text at new (option_map key o)
step_by_key text at mid new s o sign s-is found =
    let one = subst (Answers (IsAt sign_of) text at mid) s-is sign in
    go o (subst (λ (t : List ℕ). Answers (IsAt key_of) t mid.offset new o) one.0 found) one
  where
    go : (o : Option (List ℕ)) → Answers (IsAt key_of) text mid.offset new o
        → Answers (IsAt sign_of) text at mid (Some Period) → Answers IsStepAt text at new (option_map key o)
    go (Some name) (same, there, only) one = (
      same,
      by_key (stands text at mid Period one) there,
      λ other end step. alone step,
    )
      where
        alone : {other : Step} {end : ℕ} → IsStepAt text at other end → (other ≡ key name) × (end ≡ new.offset)
        alone (by_key {from = from} {end = end} {name = other-name} token k) =
            let (_, from-same) = only_sign text at mid Period one Period from token in
            let (name-same, end-same) = only other-name end
            (subst (λ (x : ℕ). IsAt key_of text x other-name end) from-same k) in
            (ap key name-same, end-same)
        alone (by_number {from = from} token e) =
            let (wrong, _) = only_sign text at mid Period one Open from token in absurd (cc wrong)
    go None none one = λ other end step. never step
      where
        never : {other : Step} {end : ℕ} → IsStepAt text at other end → ⊥
        never (by_key {from = from} {end = end} {name = other-name} token k) =
            let (_, from-same) = only_sign text at mid Period one Period from token in
            none other-name end (subst (λ (x : ℕ). IsAt key_of text x other-name end) from-same k)
        never (by_number {from = from} token e) =
            let (wrong, _) = only_sign text at mid Period one Open from token in absurd (cc wrong)

pub step_by_number : (text : List ℕ) (at : ℕ) (mid new : Reading) (s : Option Sign) (o : Option ℕ)
    → Answers (IsAt sign_of) text at mid s → s ≡ Some Open → Answers IsElementAt mid.text mid.offset new o
    → Answers IsStepAt text at new (option_map element o)
step_by_number text at mid new s o sign s-is found =
    let one = subst (Answers (IsAt sign_of) text at mid) s-is sign in
    go o (subst (λ (t : List ℕ). Answers IsElementAt t mid.offset new o) one.0 found) one
  where
    go : (o : Option ℕ) → Answers IsElementAt text mid.offset new o
        → Answers (IsAt sign_of) text at mid (Some Open) → Answers IsStepAt text at new (option_map element o)
    go (Some n) (same, there, only) one = (
      same,
      by_number (stands text at mid Open one) there,
      λ other end step. alone step,
    )
      where
        alone : {other : Step} {end : ℕ} → IsStepAt text at other end → (other ≡ element n) × (end ≡ new.offset)
        alone (by_number {from = from} {end = end} {n = m} token e) =
            let (_, from-same) = only_sign text at mid Open one Open from token in
            let (n-same, end-same) = only m end
            (subst (λ (x : ℕ). IsElementAt text x m end) from-same e) in
            (ap element n-same, end-same)
        alone (by_key {from = from} {end = end} {name = other-name} token k) =
            let (wrong, _) = only_sign text at mid Open one Period from token in absurd (cc wrong)
    go None none one = λ other end step. never step
      where
        never : {other : Step} {end : ℕ} → IsStepAt text at other end → ⊥
        never (by_number {from = from} {end = end} {n = m} token e) =
            let (_, from-same) = only_sign text at mid Open one Open from token in
            none m end (subst (λ (x : ℕ). IsElementAt text x m end) from-same e)
        never (by_key {from = from} {end = end} {name = other-name} token k) =
            let (wrong, _) = only_sign text at mid Open one Period from token in absurd (cc wrong)

pub no_step : (text : List ℕ) (at : ℕ) (mid new : Reading) (s : Option Sign) → Answers (IsAt sign_of) text at mid s
    → (s ≡ Some Period → ⊥) → (s ≡ Some Open → ⊥) → Answers IsStepAt text at new None
no_step text at mid new s sign no-period no-open = λ other end step. never s sign no-period no-open step
  where
    never : (s : Option Sign) → Answers (IsAt sign_of) text at mid s → (s ≡ Some Period → ⊥) → (s ≡ Some Open → ⊥)
        → {other : Step} {end : ℕ} → IsStepAt text at other end → ⊥
    never None none p o (by_key {from = from} token k) = no_sign text at mid none Period from token
    never None none p o (by_number {from = from} token e) = no_sign text at mid none Open from token
    never (Some s) one p o (by_key {from = from} token k) =
        p (ap Some (sym (only_sign text at mid s one Period from token).0))
    never (Some s) one p o (by_number {from = from} token e) =
        o (ap Some (sym (only_sign text at mid s one Open from token).0))

-- ---- steps so far

-- After the steps that came, up to `at`: with the steps from there on they are those of the path, and all of its steps
-- are so.
pub record SoFar (text : List ℕ) (came : List Step) (at : ℕ) : Type 0 where
  pub on : (rest : List Step) → AreSteps text at rest → IsPath text (came ++ rest)
  pub all : (steps : List Step) → IsPath text steps → (rest : List Step) × AreSteps text at rest
      × (steps ≡ came ++ rest)
  pub within : at ≤ length text

-- where no token stands any more
not_empty : (text : List ℕ) (at end : ℕ) (l : Lexeme) → TokenAt text at l end → text ≡ [] → ⊥
not_empty text at end l token is =
    let bound = token.boundary.0 in
    let short = subst (λ (t : List ℕ). end ≤ length t) is bound in
    omega (arith, token.forward, short)

-- after the first key
pub begun_by : (text : List ℕ) (new : Reading) (name : List ℕ) → Answers (IsAt key_of) text 0 new (Some name)
    → SoFar text (key name ∷ []) new.offset
begun_by text new name (same, (l, token, is), only) = record {
  on = λ rest steps. begun (l, token, is) steps;
  all = λ steps path. all path;
  within = token.boundary.0;
}
  where
    all : {steps : List Step} → IsPath text steps → (rest : List Step) × AreSteps text new.offset rest
        × (steps ≡ key name ∷ rest)
    all (empty is-empty) = absurd (not_empty text 0 new.offset l token is-empty)
    all (begun {end = end} {name = other-name} {steps = rest} there steps) =
        let (name-same, end-same) = only other-name end there in
        (rest, subst (λ (x : ℕ). AreSteps text x rest) end-same steps, ap (λ (n : List ℕ). key n ∷ rest) name-same)

pub not_begun : (text : List ℕ) (new : Reading) → (text ≡ [] → ⊥) → Answers (IsAt key_of) text 0 new None
    → (steps : List Step) → IsPath text steps → ⊥
not_begun text new not none steps path = go path
  where
    go : {steps : List Step} → IsPath text steps → ⊥
    go (empty is) = not is
    go (begun {end = end} {name = other-name} there steps) = none other-name end there

-- a step goes on
end_of : {text : List ℕ} {at : ℕ} {step : Step} {end : ℕ} → IsStepAt text at step end → (at < end) × (end ≤ length text)
end_of {text} (by_key {from = from} {end = end} token (l, name, is)) = (
  omega (arith, token.forward, name.forward),
  name.boundary.0,
)
end_of {text} (by_number {from = from} {end = end} token (to, (l, number, is), close)) = (
  omega (arith, token.forward, number.forward, close.forward),
  close.boundary.0,
)

pub goes_on : (text : List ℕ) (at : ℕ) (new : Reading) (step : Step) → Answers IsStepAt text at new (Some step)
    → (at < new.offset) × (new.offset ≤ length text)
goes_on text at new step (same, there, only) = end_of there

pub gone_on : (text : List ℕ) (came : List Step) (at : ℕ) (new : Reading) (step : Step) → SoFar text came at
    → Answers IsStepAt text at new (Some step) → SoFar text (came ++ step ∷ []) new.offset
gone_on text came at new step sofar (same, there, only) = record {
  on = λ rest steps.
      subst (IsPath text) (sym (append_assoc came (step ∷ []) rest)) (sofar.on (step ∷ rest) (more there steps));
  all = λ steps path. let (rest, are, is) = sofar.all steps path in after rest are steps is;
  within = (end_of there).1;
}
  where
    after : (rest : List Step) → AreSteps text at rest → (steps : List Step) → steps ≡ came ++ rest
        → (left : List Step) × AreSteps text new.offset left × (steps ≡ (came ++ step ∷ []) ++ left)
    after _ (over is) steps same =
        absurd (let (further, within) = end_of there in omega (arith, further, within, is))
    after _ (more {next = next} {step = other} {steps = left} first left-steps) steps same =
        let (step-same, end-same) = only other next first in (
          left,
          subst (λ (x : ℕ). AreSteps text x left) end-same left-steps,
          same ∙ ap (λ (s : Step). came ++ s ∷ left) step-same ∙ sym (append_assoc came (step ∷ []) left),
        )

pub stopped : (text : List ℕ) (came : List Step) (at : ℕ) (new : Reading) → SoFar text came at
    → (at ≡ length text → ⊥) → Answers IsStepAt text at new None → (steps : List Step) → IsPath text steps → ⊥
stopped text came at new sofar not none steps path =
    let (rest, are, is) = sofar.all steps path in never are
  where
    never : {rest : List Step} → AreSteps text at rest → ⊥
    never (over is) = not is
    never (more {next = next} {step = other} first left) = none other next first

pub ended : (text : List ℕ) (came : List Step) (at : ℕ) → SoFar text came at → at ≡ length text
    → IsPath text came × ((others : List Step) → IsPath text others → others ≡ came)
ended text came at sofar is = (
  subst (IsPath text) (append-nil came) (sofar.on [] (over is)),
  λ others path. let (rest, are, same) = sofar.all others path in none rest are others same,
)
  where
    none : (rest : List Step) → AreSteps text at rest → (others : List Step) → others ≡ came ++ rest → others ≡ came
    none _ (over at-end) others same = same ∙ append-nil came
    none _ (more first left) others same =
        absurd (let (further, within) = end_of first in omega (arith, further, within, is))

-- the empty path
pub empty_path : (text : List ℕ) → text ≡ []
    → IsPath text [] × ((others : List Step) → IsPath text others → others ≡ [])
empty_path text is = (empty is, λ others path. only path)
  where
    only : {others : List Step} → IsPath text others → others ≡ []
    only (empty _) = refl
    only (begun {end = end} (l, token, _) steps) = absurd (not_empty text 0 end l token is)

-- ---- of the calls of the loop

pub nil_of : (xs : List ℕ) → (length xs == 0) ≡ true → xs ≡ []
nil_of [] is = refl
nil_of (x ∷ xs) is = absurd (let none = eqb-true (length (x ∷ xs)) 0 is in omega (arith, none))

pub not_nil : (xs : List ℕ) → (length xs == 0) ≡ false → xs ≡ [] → ⊥
not_nil [] filled is = true≢false filled
not_nil (x ∷ xs) filled is = absurd (cc is)

pub first_at : (text t : List ℕ) (at : ℕ) (new : Reading) (o o' : Option (CowStr Global)) → t ≡ text → at ≡ 0 → o ≡ o'
    → Answers (IsAt key_of) t at new (option_map cow_str_bytes o)
    → Answers (IsAt key_of) text 0 new (option_map cow_str_bytes o')
first_at text t at new o o' text-is at-is o-is answers =
    subst (λ (p : Option (CowStr Global)). Answers (IsAt key_of) text 0 new (option_map cow_str_bytes p)) o-is
    (subst (λ (n : ℕ). Answers (IsAt key_of) text n new (option_map cow_str_bytes o)) at-is
    (subst (λ (s : List ℕ). Answers (IsAt key_of) s at new (option_map cow_str_bytes o)) text-is answers))

pub step_at : (text : List ℕ) (old mid new : Reading) (o o' : Option code.Step) → mid ≡ old → old.text ≡ text → o ≡ o'
    → Answers IsStepAt mid.text mid.offset new (option_map step_of o)
    → Answers IsStepAt text old.offset new (option_map step_of o')
step_at text old mid new o o' mid-is text-is o-is answers =
    subst (λ (p : Option code.Step). Answers IsStepAt text old.offset new (option_map step_of p)) o-is
    (subst (λ (s : List ℕ). Answers IsStepAt s old.offset new (option_map step_of o)) text-is
    (subst (λ (r : Reading). Answers IsStepAt r.text r.offset new (option_map step_of o)) mid-is answers))

pub begun_with : (text : List ℕ) (new : Reading) (old all : List code.Step) (first : CowStr Global) → old ≡ []
    → all ≡ old ++ Key first ∷ [] → Answers (IsAt key_of) text 0 new (Some (cow_str_bytes first))
    → SoFar text (map step_of all) new.offset × (new.text ≡ text)
begun_with text new old all first nil is answers = (
  subst (λ (steps : List code.Step). SoFar text (map step_of steps) new.offset)
      (sym (is ∙ ap (λ (s : List code.Step). s ++ Key first ∷ []) nil))
      (begun_by text new (cow_str_bytes first) answers),
  answers.0,
)

pub gone_with : (text : List ℕ) (at : ℕ) (new : Reading) (old all : List code.Step) (step : code.Step)
    → SoFar text (map step_of old) at → all ≡ old ++ step ∷ [] → Answers IsStepAt text at new (Some (step_of step))
    → SoFar text (map step_of all) new.offset × (new.text ≡ text)
gone_with text at new old all step sofar is answers = (
  subst (λ (steps : List Step). SoFar text steps new.offset)
      (sym (ap (map step_of) is ∙ map-append step_of old (step ∷ [])))
      (gone_on text (map step_of old) at new (step_of step) sofar answers),
  answers.0,
)
