-- What a reading answers of a stop, and what is known of it in a reading that this one stands in: what is too deep in
-- the one is so in the other, and the holes of the one are holes of the other.
use Rattle.basic_toml_read.proofs.Common.{◌≡◌, ℕ, List, ap, Result, Ok, Err, refl, Option, None, ◌∙◌, subst, IfErr, inl}
use Rattle.basic_toml_read.proofs.Common.{inr, ◌==◌, sym, eqb-true, Text, text_at, Hole, HoleInKeys, char_at}
use Rattle.basic_toml_read.proofs.Common.{StopsInside, Stop, Why, Memory, Deep, IfDeep, InHole, AtDeep, LeadsTo}
use Rattle.basic_toml_read.proofs.Common.{StopsAtKey, Misses}
use Rattle.basic_toml_explain.specs.declared.stop.Why.TheVariants as why
use Rattle.std.proofs.Common.{◌||◌}
use Rattle.basic_toml_grammar.specs.Holes.{Fits, fits}
use Rattle.basic_toml_read.specs.StopsReached.{Holes}
use Rattle.std.specs.Result.{IsErrAnd}
use Rattle.std.proofs.lemmas.Bool.{or_cases}
use Rattle.basic_toml_explain.specs.StopHoles.{StopsFor}
use Rattle.basic_toml_grammar.proofs.Nesting.WithinTheLimit.{no_such}

abbrev pub Answered : {A : Type 0} → List ℕ → (Result A Stop → Type 0) → (ℕ → Type 0) → Holes → Result A Stop → Type 0
Answered bytes Reads IsDeep holes result = record {
  read : Reads result;
  inside : IfErr result (λ stop. StopsInside bytes stop);
  deep : IfDeep IsDeep result;
  hole : InHole holes bytes result;
}

-- what is read, and no stop
pub without_stop : {Read : Type 0} → Read
    → record { read : Read; inside : Unit {0}; deep : Unit {0}; hole : Unit {0} }
without_stop read = record { read = read; inside = tt; deep = tt; hole = tt }

-- what `?` answers at a stop
pub is_err : {A : Type 0} {result : Result A Stop} {stop : Stop} → IsErrAnd result (λ s. s ≡ stop)
    → result ≡ Err stop
is_err {result = Ok x} e = absurd e
is_err {result = Err s} e = ap (λ s. Err s) e

-- the same is too deep in both
pub record SameDeep (Inner Outer : ℕ → Type 0) : Type 0 where
  pub leads : (p : ℕ) → Inner p → Outer p
  pub backs : (p : ℕ) → Outer p → Inner p

pub same_deep : {Deep : ℕ → Type 0} → SameDeep Deep Deep
same_deep = record { leads = λ p d. d; backs = λ p d. d }

pub then_deep : {First Second Third : ℕ → Type 0} → ((p : ℕ) → First p → Second p) → ((p : ℕ) → Second p → First p)
    → SameDeep Second Third → SameDeep First Third
then_deep f b g = record { leads = λ p d. g.leads p (f p d); backs = λ p d. b p (g.backs p d) }

-- a stop in a part is one in the whole, which goes on as the part does where nothing is found there
pub at_deep : {A : Type 0} {Inner Outer : ℕ → Type 0} {o : Option A} (w : Why) (at : ℕ) (High : A → Type 0)
    → Misses w o High → ((p : ℕ) → Inner p → Outer p) → (o ≡ None → (p : ℕ) → Outer p → Inner p) → AtDeep Inner w at
    → AtDeep Outer w at
at_deep Memory at High m f g d = tt
at_deep Deep at High m f g d = f at d
at_deep _ at High m f g d = λ p e. d p (g m p e)

-- holes
pub stays_in : {holes : Holes} → LeadsTo holes holes
stays_in = record { on = λ h at d. d; same = λ at d. refl }

pub then_in : {first second third : Holes} (on : (h : Hole) (at : Text) → first.HoleIn h at → second.HoleIn h at)
    → ((at : Text) (d : first.HoleIn Hole.value at) → second.behind at (on Hole.value at d) ≡ first.behind at d)
    → LeadsTo second third → LeadsTo first third
then_in f same g = record {
  on = λ h at d. g.on h at (f h at d);
  same = λ at d. g.same at (f Hole.value at d) ∙ same at d;
}

-- at a text that is the same
pub moved_in : {text other : Text} (holes : Text → Holes) → text ≡ other → LeadsTo (holes text) (holes other)
moved_in {text = text} holes e = subst (λ (t : Text). LeadsTo (holes text) (holes t)) e stays_in

-- a stop further on
pub stops_on : {inner outer : Holes} → LeadsTo inner outer → (w : Why) (at : Text)
    → StopsFor inner.HoleIn inner.behind w at → StopsFor outer.HoleIn outer.behind w at
stops_on l why.Memory at s = tt
stops_on l why.Deep at s = tt
stops_on l why.Key at s = (l.on Hole.key at s.0, s.1)
stops_on l why.Equals at s = record { hole = l.on Hole.after_keys at s.hole; missing = s.missing }
stops_on l why.Bracket at s = record {
  wanted = s.wanted;
  takes = s.takes;
  misses = record { hole = l.on s.wanted at s.misses.hole; missing = s.misses.missing };
}
stops_on l why.Comma at s = record { hole = l.on Hole.after_field at s.hole; missing = s.missing }
stops_on l why.Newline at s = (l.on Hole.after_line at s.0, s.1)
stops_on l why.Value at s = (l.on Hole.value at s.0, s.1)
stops_on l (why.Word end) at s = record {
  hole = l.on Hole.value at s.hole;
  behind_it = l.same at s.hole ∙ s.behind_it;
  none = s.none;
  some = s.some;
}

-- what is known of a stop, and what follows of it in a whole
abbrev pub StopIn : {A : Type 0} → List ℕ → Option A → (A → Type 0) → (ℕ → Type 0) → Holes → Stop → Type 0
StopIn bytes o High IsDeep holes stop = record {
  read : Misses stop.why o High;
  inside : StopsInside bytes stop;
  deep : AtDeep IsDeep stop.why stop.at;
  hole : StopsFor holes.HoleIn holes.behind stop.why (text_at bytes stop.at);
}

pub stop_in_whole : {A B : Type 0} {Inner Outer : ℕ → Type 0} {inner outer : Holes} {o : Option A} (bytes : List ℕ)
    (whole : Option B) (High : A → Type 0) (Higher : B → Type 0) (stop : Stop) → StopIn bytes o High Inner inner stop
    → Misses stop.why whole Higher → ((p : ℕ) → Inner p → Outer p) → (o ≡ None → (p : ℕ) → Outer p → Inner p)
    → LeadsTo inner outer → StopIn bytes whole Higher Outer outer stop
stop_in_whole bytes whole High Higher stop e missed leads backs on = record {
  read = missed;
  inside = e.inside;
  deep = at_deep stop.why stop.at High e.read leads backs e.deep;
  hole = stops_on on stop.why (text_at bytes stop.at) e.hole;
}

-- a stop in keys
pub key_stops_on : (text : Text) (outer : Holes)
    → ((at : Text) → HoleInKeys text Hole.key at → outer.HoleIn Hole.key at) → (w : Why) (at : Text)
    → StopsAtKey text w at → StopsFor outer.HoleIn outer.behind w at
key_stops_on text outer f why.Memory at s = tt
key_stops_on text outer f why.Deep at s = tt
key_stops_on text outer f why.Key at s = (f at s.0, s.1)
key_stops_on text outer f _ at s = absurd s

-- where two signs are missing, nothing fits in a hole that takes no other
pub nothing_fits : (h : Hole) (a b : ℕ) (text : Text) → char_at a text ≡ None → char_at b text ≡ None
    → ((c : ℕ) → fits h c ≡ (c == a || c == b)) → Fits h text → ⊥
nothing_fits h a b text none none' fits_is f =
    elim (or_cases (f.char == a) (f.char == b) (sym (fits_is f.char) ∙ f.fit)) [
      | inl e ↦ no_such none (rw (eqb-true f.char a e) at f.starts)
      | inr e ↦ no_such none' (rw (eqb-true f.char b e) at f.starts)
    ]
