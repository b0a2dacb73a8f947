-- What stands at a path was put there by some mark.
use Rattle.std.proofs.Common.{◌≡◌, zero, suc, Bool, true, false, cond, List, [], ◌∷◌, Option, Some, None, refl}
use Rattle.std.proofs.Common.{subst, sym}
use Rattle.std.proofs.lemmas.Bool.{false≢true}
use Rattle.basic_toml_value.specs.Data.{Data}
use Rattle.basic_toml_grammar.specs.Steps.{Path, path_eq}
use Rattle.basic_toml_grammar.specs.Marks.{MarkKind, passed, by_latest, named, added, dotted, valued, Mark, mark}
use Rattle.basic_toml_grammar.specs.Standing.{Standing, table, array, value, taken, standing_at}
use Rattle.basic_toml_grammar.proofs.AmongElements.{Among, first, next}
use Rattle.basic_toml_grammar.proofs.Clash.StepTestsDecide.{paths_are}

-- of a table: what was said of it
pub record Said (st : List Mark) (q : Path) (p n d : Bool) : Type 0 where
  pub passes : p ≡ true → Among (mark q passed) st
  pub names : n ≡ true → Among (mark q named) st
  pub dots : d ≡ true → Among (mark q dotted) st
  pub some : n ≡ false → d ≡ false → p ≡ true

abbrev pub Shown : List Mark → Path → Option Standing → Type 0
Shown st q None = Unit {0}
Shown st q (Some value) = (v : Data) × Among (mark q (valued v)) st
Shown st q (Some (array zero)) = Among (mark q by_latest) st
Shown st q (Some (array (suc n))) = Among (mark q added) st
Shown st q (Some (table p n d)) = Said st q p n d

later_said : {st : List Mark} {q : Path} {p n d : Bool} (m : Mark) → Said st q p n d → Said (m ∷ st) q p n d
later_said m h = record {
  passes = λ e. next (h.passes e);
  names = λ e. next (h.names e);
  dots = λ e. next (h.dots e);
  some = h.some;
}

later_shown : (st : List Mark) (q : Path) (m : Mark) (s : Option Standing) → Shown st q s → Shown (m ∷ st) q s
later_shown st q m None h = tt
later_shown st q m (Some value) h = (h.0, next h.1)
later_shown st q m (Some (array zero)) h = next h
later_shown st q m (Some (array (suc n))) h = next h
later_shown st q m (Some (table p n d)) h = later_said m h

only_passed : (st : List Mark) (q : Path) → Said (mark q passed ∷ st) q true false false
only_passed st q = record {
  passes = λ e. first;
  names = λ e. absurd (false≢true e);
  dots = λ e. absurd (false≢true e);
  some = λ e f. refl;
}

only_named : (st : List Mark) (q : Path) → Said (mark q named ∷ st) q false true false
only_named st q = record {
  passes = λ e. absurd (false≢true e);
  names = λ e. first;
  dots = λ e. absurd (false≢true e);
  some = λ e f. cc;
}

only_dotted : (st : List Mark) (q : Path) → Said (mark q dotted ∷ st) q false false true
only_dotted st q = record {
  passes = λ e. absurd (false≢true e);
  names = λ e. absurd (false≢true e);
  dots = λ e. first;
  some = λ e f. cc;
}

taken_shown : (st : List Mark) (q : Path) (k : MarkKind) (s : Option Standing) → Shown st q s
    → Shown (mark q k ∷ st) q (Some (taken k s))
taken_shown st q passed (Some (table p n d)) h = record {
  passes = λ e. first;
  names = λ e. next (h.names e);
  dots = λ e. next (h.dots e);
  some = λ e f. refl;
}
taken_shown st q passed None h = only_passed st q
taken_shown st q passed (Some (array n)) h = only_passed st q
taken_shown st q passed (Some value) h = only_passed st q
taken_shown st q named (Some (table p n d)) h = record {
  passes = λ e. next (h.passes e);
  names = λ e. first;
  dots = λ e. next (h.dots e);
  some = λ e f. cc;
}
taken_shown st q named None h = only_named st q
taken_shown st q named (Some (array n)) h = only_named st q
taken_shown st q named (Some value) h = only_named st q
taken_shown st q dotted (Some (table p n d)) h = record {
  passes = λ e. next (h.passes e);
  names = λ e. next (h.names e);
  dots = λ e. first;
  some = λ e f. cc;
}
taken_shown st q dotted None h = only_dotted st q
taken_shown st q dotted (Some (array n)) h = only_dotted st q
taken_shown st q dotted (Some value) h = only_dotted st q
taken_shown st q added None h = first
taken_shown st q added (Some (table p n d)) h = first
taken_shown st q added (Some (array n)) h = first
taken_shown st q added (Some value) h = first
taken_shown st q by_latest None h = first
taken_shown st q by_latest (Some s) h = later_shown st q (mark q by_latest) (Some s) h
taken_shown st q (valued v) s h = (v, first)

pub shown : (st : List Mark) (q : Path) → Shown st q (standing_at st q)
shown [] q = tt
shown (m ∷ st) q = go (path_eq m.path q) refl (shown st q)
  where
    go : (b : Bool) → path_eq m.path q ≡ b → Shown st q (standing_at st q)
        → Shown (m ∷ st) q (cond b (Some (taken m.kind (standing_at st q))) (standing_at st q))
    go false e h = later_shown st q m (standing_at st q) h
    go true e h = subst (λ p. Shown (mark p m.kind ∷ st) q (Some (taken m.kind (standing_at st q))))
        (sym (paths_are m.path q e)) (taken_shown st q m.kind (standing_at st q) h)
