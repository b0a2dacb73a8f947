-- Worked texts: the faults that are due.
use Rattle.std.proofs.Common.{◌≡◌, ℕ, false, List, [], ◌∷◌, ◌++◌, Some, None, refl, sym, ap, ◌∙◌, codes, subst, arith, take, drop}
use Rattle.std.proofs.lemmas.List.{take-append-drop, append_cancel_right}
use Rattle.std.specs.Str.{chars, IsUtf8}
use Rattle.basic_toml_tokens.specs.Text.{Text, folded, is_comment}
use Rattle.basic_toml_tokens.specs.TokenAt as token
use Rattle.basic_toml_tokens.specs.TokenAt.{Lexeme, IsToken}
use Rattle.basic_toml_tokens.specs.Faults as faults
use Rattle.basic_toml_grammar.specs.Sections.{Section}
use Rattle.basic_toml_grammar.specs.Faults.{Fault, FaultKind, unexpected, number_invalid, wanted}
use Rattle.basic_toml_grammar.specs.Grammar as value
use Rattle.basic_toml_grammar.specs.Grammar.{after_gap, one, bare, IsSectionList}
use Rattle.basic_toml_grammar.specs.Holes as holes
use Rattle.basic_toml_grammar.specs.Holes.{Hole, HoleInText, fits}
use Rattle.basic_toml_grammar.specs.NumberFaults.{number_fault}
use Rattle.basic_toml_grammar.specs.Reader.{section_list_of}
use Rattle.basic_toml_grammar.specs.GrammarFaults as stands
use Rattle.basic_toml_grammar.specs.GrammarFaults.{fault_at, other_char}
use Rattle.basic_toml_grammar.specs.Viable as viable
use Rattle.basic_toml_grammar.specs.Viable.{GoesOn, Begins, MayStand, Viable, at_start, after, IsDueAt, IsDue}
use Rattle.basic_toml_grammar.specs.Viable.{RefusesToken}
use Rattle.basic_toml_grammar.proofs.Grammar.ReaderIsComplete.{list_found}
use Rattle.basic_toml_grammar.proofs.Grammar.ReaderIsSound.{list_read}
use Rattle.basic_toml_grammar.proofs.Viable.FaultsAreOne.{grammar_faults_are_one}
use Rattle.basic_toml_grammar.proofs.Viable.TextsHold.{not_at_end, text_holds}
use Rattle.basic_toml_grammar.proofs.Viable.TokensAtHoles.{no_fit, misfit_may_not_stand}
use Rattle.basic_toml_tokens.proofs.TokenIsUnique.{token_or_fault}

-- a text of the grammar, as bytes
record Good (bytes : List ℕ) : Type 0 where
  sections : List Section
  utf8 : IsUtf8 bytes
  is : section_list_of (folded bytes) ≡ Some sections

-- its first k characters are those of the text, and this stands after them
goes_on : {text : Text} {bytes : List ℕ} {Next : Text → Type 0} → Good bytes → (k : ℕ)
    → take k (folded bytes) ≡ take k text → Next (drop k (folded bytes)) → GoesOn text (drop k text) Next
goes_on {text = text} {bytes = bytes} g k e n = record {
  front = take k text;
  before = sym (take-append-drop k text);
  bytes = bytes;
  utf8 = g.utf8;
  sections = g.sections;
  grammar = list_read (folded bytes) g.sections g.is;
  rest = drop k (folded bytes);
  same = sym (take-append-drop k (folded bytes)) ∙ ap (λ (t : Text). t ++ drop k (folded bytes)) e;
  next = n;
}

-- its first k characters are those of the text, and so are the n after them; they are a token in both
may_stand : {text : Text} {end : ℕ} {bytes : List ℕ} {l : Lexeme} → Good bytes → (k n : ℕ)
    → take k (folded bytes) ≡ take k text → take n (drop k (folded bytes)) ≡ take n (drop k text)
    → IsToken [] (drop k text) l (drop n (drop k text))
    → IsToken [] (drop k (folded bytes)) l (drop n (drop k (folded bytes)))
    → number_fault end (drop k text) ≡ None
    → MayStand text end (drop k text) (drop n (drop k text))
may_stand {text = text} {bytes = bytes} {l = l} g k n e f here there fine = record {
  follows = goes_on g k e (record {
    source = [];
    lexeme = l;
    chars = take n (drop k text);
    more = drop n (drop k (folded bytes));
    here = here;
    there = there;
    split = sym (take-append-drop n (drop k text));
    other_split = sym (take-append-drop n (drop k (folded bytes)))
        ∙ ap (λ (t : Text). t ++ drop n (drop k (folded bytes))) f;
  });
  number = λ o x. (let no : None ≡ Some o = sym fine ∙ x.fault in cc);
}

-- no token that is refused may stand
stuck : {text at : Text} {end : ℕ} {fault : Fault} → RefusesToken at fault → (rest : Text)
    → MayStand text end at rest → ⊥
stuck r rest m = token_or_fault m.follows.next.here r.is_fault

pub outside : (text : Text) → section_list_of text ≡ None → (sections : List Section) → IsSectionList text sections → ⊥
outside text e sections g = let no : None ≡ Some sections = sym e ∙ list_found text sections g in cc

-- one fault has one offset
one_offset : {p q : ℕ} {kind other : FaultKind} → fault_at kind p ≡ fault_at other q → p ≡ q
one_offset {p = p} {q = q} e =
    let found : Some p ≡ Some q = ap (λ (f : Fault). f.offset) e in
    cc

abbrev last_row : List ℕ
last_row = codes "n = 7\n# ok\nlast = !\n"

last_row_good : Good (codes "n = 7\n# ok\nlast = 1\n")
unfolding chars lib.Utf8.encode
last_row_good = record { sections = _; utf8 = (codes "n = 7\n# ok\nlast = 1\n", (refl, refl)); is = refl }

last_row_refused : RefusesToken (drop 18 (folded last_row)) (fault_at (unexpected 33) 18)
unfolding chars
last_row_refused = record { error = _; rest = _; is_fault = faults.unexpected refl refl; names = other_char }

last_row_viable : Viable (folded last_row) 20 (drop 18 (folded last_row))
unfolding chars
last_row_viable =
    let g = last_row_good in
    after (after (after (after (after (after (after (after (after (after (after (after at_start
    (may_stand g 0 1 refl refl (token.word refl refl) (token.word refl refl) refl))
    (may_stand g 1 1 refl refl (token.blanks refl refl) (token.blanks refl refl) refl))
    (may_stand g 2 1 refl refl (token.punctuation refl refl) (token.punctuation refl refl) refl))
    (may_stand g 3 1 refl refl (token.blanks refl refl) (token.blanks refl refl) refl))
    (may_stand g 4 1 refl refl (token.word refl refl) (token.word refl refl) refl))
    (may_stand g 5 1 refl refl (token.punctuation refl refl) (token.punctuation refl refl) refl))
    (may_stand g 6 4 refl refl (token.remark refl) (token.remark refl) refl))
    (may_stand g 10 1 refl refl (token.punctuation refl refl) (token.punctuation refl refl) refl))
    (may_stand g 11 4 refl refl (token.word refl refl) (token.word refl refl) refl))
    (may_stand g 15 1 refl refl (token.blanks refl refl) (token.blanks refl refl) refl))
    (may_stand g 16 1 refl refl (token.punctuation refl refl) (token.punctuation refl refl) refl))
    (may_stand g 17 1 refl refl (token.blanks refl refl) (token.blanks refl refl) refl)

-- a character that begins no token, at the offset 18
last_row_due : IsDue (folded last_row) 20 (fault_at (unexpected 33) 18)
unfolding chars
last_row_due = record {
  outside = outside (folded last_row) refl;
  at = drop 18 (folded last_row);
  stops = record { viable = last_row_viable; stuck = stuck last_row_refused };
  due = viable.no_token last_row_refused;
}

-- and so no comma at the offset 1
no_comma_due : IsDue (folded last_row) 20 (fault_at (wanted (codes "a comma") (codes "whitespace")) 1) → ⊥
no_comma_due d =
    let same = one_offset (grammar_faults_are_one (folded last_row) 20 _ _ d last_row_due) in
    omega (arith, same)

-- a token that is refused directly behind a number at fault comes in place of the number
abbrev zero_one : List ℕ
zero_one = codes "a = 01!"

zero_one_good : Good (codes "a = {}")
unfolding chars lib.Utf8.encode
zero_one_good = record { sections = _; utf8 = (codes "a = {}", (refl, refl)); is = refl }

zero_one_fails : viable.NumberFails (folded zero_one) 7 (drop 4 (folded zero_one)) 5
unfolding chars
zero_one_fails = record {
  value = goes_on zero_one_good 4 refl (record { offset = 4; rest = _; starts = refl });
  fault = refl;
}

zero_one_due : IsDue (folded zero_one) 7 (fault_at (unexpected 33) 6)
unfolding chars
zero_one_due = record {
  outside = outside (folded zero_one) refl;
  at = drop 4 (folded zero_one);
  stops = record {
    viable =
        let g = zero_one_good in
        after (after (after (after at_start
        (may_stand g 0 1 refl refl (token.word refl refl) (token.word refl refl) refl))
        (may_stand g 1 1 refl refl (token.blanks refl refl) (token.blanks refl refl) refl))
        (may_stand g 2 1 refl refl (token.punctuation refl refl) (token.punctuation refl refl) refl))
        (may_stand g 3 1 refl refl (token.blanks refl refl) (token.blanks refl refl) refl);
    stuck = λ rest m. m.number 5 zero_one_fails;
  };
  due = viable.token_of_number zero_one_fails (viable.this (record {
    error = _;
    rest = _;
    is_fault = faults.unexpected refl refl;
    names = other_char;
  }));
}

-- so it is no invalid number
no_number_due : IsDue (folded zero_one) 7 (fault_at number_invalid 5) → ⊥
no_number_due d =
    let same = one_offset (grammar_faults_are_one (folded zero_one) 7 _ _ d zero_one_due) in
    omega (arith, same)

-- a sign may not stand at a hole that it does not fit
sign_misfits : {text : Text} {h : Hole} (k c : ℕ)
    → ((p : ℕ) (rest : Text) → HoleInText (take k text ++ ((p, c) ∷ rest)) h ((p, c) ∷ rest))
    → fits h c ≡ false → GoesOn text (drop k text) (Begins c) → ⊥
sign_misfits {text = text} {h = h} k c hole misfit g =
    no_fit (not_at_end (text_holds (hole sign.offset sign.rest) there) refl) refl misfit
  where
    sign : Begins c g.rest
    sign = g.next

    front : take k text ≡ g.front
    front = append_cancel_right (take k text) g.front (drop k text) (take-append-drop k text ∙ g.before)

    there : IsSectionList (take k text ++ ((sign.offset, c) ∷ sign.rest)) g.sections
    there = subst (λ (t : Text). IsSectionList t g.sections)
        (g.same ∙ ap (λ (t : Text). t ++ g.rest) (sym front) ∙ ap (λ (t : Text). take k text ++ t) sign.starts)
        g.grammar

-- after an element a right bracket is named, not a comma
abbrev two_elements : List ℕ
two_elements = codes "a=[1 2]"

after_one : (c p : ℕ) (rest : Text) → after_gap is_comment ((4, 32) ∷ (p, c) ∷ rest) ≡ (p, c) ∷ rest
    → HoleInText (take 5 (folded two_elements) ++ ((p, c) ∷ rest)) Hole.after_element ((p, c) ∷ rest)
unfolding chars
after_one c p rest e =
    subst (λ (t : Text). HoleInText (take 5 (folded two_elements) ++ ((p, c) ∷ rest)) Hole.after_element t) e
    (holes.root (holes.this_row refl refl refl
    (holes.in_value (one (bare refl refl)) refl (holes.array refl (holes.after_this (value.word refl refl refl))))))

one_element_good : Good (codes "a=[1 ]")
unfolding chars lib.Utf8.encode
one_element_good = record { sections = _; utf8 = (codes "a=[1 ]", (refl, refl)); is = refl }

two_elements_due : IsDue (folded two_elements) 7 (fault_at (wanted (codes "a right bracket") (codes "an identifier")) 5)
unfolding chars
two_elements_due = record {
  outside = outside (folded two_elements) refl;
  at = drop 5 (folded two_elements);
  stops = record {
    viable =
        let g = one_element_good in
        after (after (after (after (after at_start
        (may_stand g 0 1 refl refl (token.word refl refl) (token.word refl refl) refl))
        (may_stand g 1 1 refl refl (token.punctuation refl refl) (token.punctuation refl refl) refl))
        (may_stand g 2 1 refl refl (token.punctuation refl refl) (token.punctuation refl refl) refl))
        (may_stand g 3 1 refl refl (token.word refl refl) (token.word refl refl) refl))
        (may_stand g 4 1 refl refl (token.blanks refl refl) (token.blanks refl refl) refl);
    stuck = misfit_may_not_stand (after_one 50 5 ((6, 93) ∷ []) refl) refl refl;
  };
  due = viable.mismatch (λ o x. let no : None ≡ Some o = x.fault in cc) (stands.token {source = []} (token.word refl refl))
      (viable.later (λ g. sign_misfits 5 123 (λ p rest. after_one 123 p rest refl) refl g)
      (viable.later (λ g. sign_misfits 5 61 (λ p rest. after_one 61 p rest refl) refl g)
      (viable.this (goes_on one_element_good 5 refl (record { offset = 5; rest = []; starts = refl })))));
}
