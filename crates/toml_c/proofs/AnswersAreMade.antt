-- The answers of the calls, from what is due.
use Rattle.std.proofs.Common.{◌≡◌, ℕ, List, length, Option, None, refl, sym, ap, subst, ◌∙◌}
use Rattle.basic_toml.specs.Data.{Data}
use Rattle.basic_toml.specs.Fault.{Fault}
use Rattle.basic_toml.specs.FaultText.{fault_text, message}
use Rattle.basic_toml.specs.ReadErrorText.{joined}
use Rattle.toml_json_text.specs.Json.{json}
use Rattle.toml_json_text.specs.declared.form.Form.{Form}
use Rattle.toml_c.specs.Answers.{with_front, answered, Holds, IsRefusal}
use Rattle.toml_c.specs.Checks.{ArePlaces, Checks, found, no_places, is_toml, is_not, no_memory}
use Rattle.toml_c.specs.Jsons as j
use Rattle.toml_c.specs.Jsons.{IsJsonDue, Jsons}
use Rattle.toml_c.specs.declared.answer.TomlAnswer.{TomlAnswer}
use Rattle.toml_c.specs.declared.check.Places.{Places}
use Rattle.toml_c.specs.declared.check.TomlFinding.{TomlFinding}

pub json_written : (form : Form) (input : List ℕ) (tree : Data) (text : List ℕ) → Holds input tree
    → text ≡ json form tree → IsJsonDue form input 0 text None
json_written form input tree text held is =
    subst (λ (t : List ℕ). IsJsonDue form input 0 t None) (sym is) (j.written held)

pub json_refused : (form : Form) (input : List ℕ) (fault : Fault) (text : List ℕ) (place : Option (ℕ × ℕ))
    → IsRefusal input fault → text ≡ fault_text fault → place ≡ fault.line_column → IsJsonDue form input 1 text place
json_refused form input fault text place why text-is place-is =
    subst (λ (t : List ℕ). IsJsonDue form input 1 t place) (sym text-is)
    (subst (IsJsonDue form input 1 (fault_text fault)) (sym place-is) (j.refused why))

pub json_due : (asked form : Form) (input old new text bytes : List ℕ) (status : ℕ) (place : Option (ℕ × ℕ))
    (answer : TomlAnswer) → form ≡ asked → IsJsonDue form input status text place → bytes ≡ text
    → new ≡ with_front old bytes → answer ≡ answered status (length bytes) place → Jsons asked input old new answer
json_due asked form input old new text bytes status place answer form-is due same put is =
    subst (λ (f : Form). Jsons f input old new answer) form-is
    (subst (Jsons form input old new) (sym (is ∙ ap (λ (b : List ℕ). answered status (length b) place) same))
    (j.due due (put ∙ ap (with_front old) same)))

pub json_none : (form : Form) (input old : List ℕ) (answer : TomlAnswer) → answer ≡ answered 3 0 None
    → Jsons form input old old answer
json_none form input old answer is = subst (Jsons form input old old) (sym is) (j.no_memory refl)

pub check_toml : (input old old_keys : List ℕ) (tree : Data) (value : TomlFinding) → Holds input tree
    → value ≡ found 0 no_places 0 0 → Checks input old old old_keys old_keys value
check_toml input old old_keys tree value held is =
    subst (Checks input old old old_keys old_keys) (sym is) (is_toml held refl refl)

pub check_none : (input old old_keys : List ℕ) (value : TomlFinding) → value ≡ found 3 no_places 0 0
    → Checks input old old old_keys old_keys value
check_none input old old_keys value is =
    subst (Checks input old old old_keys old_keys) (sym is) (no_memory refl refl)

pub check_refused : (input old new old_keys new_keys words keys : List ℕ) (fault : Fault) (places : Places)
    (value : TomlFinding) → IsRefusal input fault → ArePlaces input fault places → words ≡ message fault.kind
    → keys ≡ joined fault.key_path → new ≡ with_front old words → new_keys ≡ with_front old_keys keys
    → value ≡ found 1 places (length words) (length keys) → Checks input old new old_keys new_keys value
check_refused input old new old_keys new_keys words keys fault places value why are words-are keys-are put put-keys is =
    subst (Checks input old new old_keys new_keys)
    (sym (is ∙ ap (λ (w : List ℕ). found 1 places (length w) (length keys)) words-are
    ∙ ap (λ (k : List ℕ). found 1 places (length (message fault.kind)) (length k)) keys-are))
    (is_not why are (put ∙ ap (with_front old) words-are) (put-keys ∙ ap (with_front old_keys) keys-are))
