-- A list that has no tree has one fault.
use Rattle.std.proofs.Common.{◌≡◌, inl, inr, true, List, [], ◌∷◌, ◌++◌, None, refl, ap, sym, ◌∙◌, arith}
use Rattle.std.specs.List.{Contains}
use Rattle.std.proofs.lemmas.Bool.{false≢true}
use Rattle.basic_toml_grammar.specs.Sections.{Section}
use Rattle.basic_toml_grammar.specs.Entering.{all_keyed}
use Rattle.basic_toml_grammar.specs.Faults.{Fault}
use Rattle.basic_toml_grammar.proofs.Naming.EveryClashIsNamed.{named_clashes}
use Rattle.basic_toml_grow.proofs.HeadersInATrie.{Course}
use Rattle.basic_toml_grow.specs.Crossed.{first_crossed}
use Rattle.basic_toml_grow.proofs.ValuesOnTheWay.{none_left}
use Rattle.basic_toml_tree.specs.FirstStop.{Entered, FirstStop, value, section, SectionsFaultIsOne}
use Rattle.basic_toml_tree.proofs.SectionsGrown.{no_clash}
use Rattle.basic_toml_tree.proofs.SectionsStopped.{as_put, stop_is_named, keyed_parts, crossed_joined}

-- two splits of one list: at the same place, or the one before the other
splits : {R : Type 0} (a b : List Section) (x y : Section) (c d : List Section) → a ++ x ∷ c ≡ b ++ y ∷ d
    → (a ≡ b → x ≡ y → R) → ((more : List Section) → b ≡ a ++ x ∷ more → R)
    → ((more : List Section) → a ≡ b ++ y ∷ more → R) → R
splits [] [] x y c d e same earlier later = same refl (cc)
splits [] (z ∷ b) x y c d e same earlier later = earlier b (cc)
splits (z ∷ a) [] x y c d e same earlier later = later a (cc)
splits (z ∷ a) (w ∷ b) x y c d e same earlier later =
    splits a b x y c d (cc) (λ p. same (cc)) (λ more p. earlier more (cc)) (λ more p. later more (cc))

-- the sections before the one stop do not hold the other: a tree takes them
passed : (sections : List Section) → all_keyed sections ≡ true → first_crossed sections ≡ None → {fault other : Fault}
    (a : FirstStop sections fault) (b : FirstStop sections other) (more : List Section)
    → b.before ≡ a.before ++ a.here ∷ more → ⊥
passed sections keyed none a b more e =
    let taken : List Section = a.before ++ a.here ∷ more in
    let whole : sections ≡ taken ++ b.here ∷ b.later = rw e at b.parts in
    let keys = (keyed_parts taken (b.here ∷ b.later) (rw whole at keyed)).0 in
    let free = none_left _ _ (sym (crossed_joined taken (b.here ∷ b.later)) ∙ rw whole at none) in
    let entered : Entered taken b.so_far = rw e at b.entered in
    elim (stop_is_named a.before a.here more a.so_far _ keys free a.entered a.stopped) [
      | inl names ↦ false≢true (sym (no_clash entered keys) ∙ named_clashes taken _ names)
      | inr deep ↦ let nowhere : Contains [] deep.0 = rw entered.shallow at deep.2 in absurd (omega (arith, nowhere.1))
    ]

pub sections_fault_is_one : SectionsFaultIsOne
sections_fault_is_one sections _ _ keyed (section none a) (section none' b) =
    splits a.before b.before a.here b.here a.later b.later (sym a.parts ∙ b.parts) (λ e f.
    let x = as_put a.entered.stands in
    let y = as_put b.entered.stands in
    cc (x.1, y.1, ap (λ (c : Course). c.met) (x.3 a.here), ap (λ (c : Course). c.met) (y.3 b.here)))
    (λ more e. absurd (passed sections keyed none a b more e))
    (λ more e. absurd (passed sections keyed none b a more e))
sections_fault_is_one sections _ _ keyed (value e) (value f) = cc
sections_fault_is_one sections _ _ keyed (value e) (section none b) = cc
sections_fault_is_one sections _ _ keyed (section none a) (value f) = cc
