-- What is said of bytes, from what the check of them answered.
use Rattle.std.proofs.Common.{◌≡◌, ◌⊎◌, inl, inr, ℕ, Bool, List, [], Option, Some, None, sym, ap, ◌∙◌, subst}
use Rattle.std.proofs.Common.{Result, Ok, Err, IfOk, string_bytes}
use Rattle.toml_findings.specs.declared.finding.Finding as code
use Rattle.toml_findings.specs.Findings.{Finds, finding_of}
use Rattle.toml_check.specs.declared.run.Verdict.{Verdict}
use Rattle.toml_streams.specs.Streams.{display_name, failure_line}
use Rattle.toml_check.specs.Run.{IsUnread, IsVerdict, toml, refused, refusal_text}

pub toml_said : (quiet : Bool) (name bytes text : List ℕ) (status : ℕ) → Finds bytes None → status ≡ 0 → text ≡ []
    → IsUnread name status text ⊎ IsVerdict quiet name bytes status text
toml_said quiet name bytes text status (utf8, (tree, document)) is says =
    inr (subst (λ (n : ℕ). IsVerdict quiet name bytes n text) (sym is)
    (subst (λ (t : List ℕ). IsVerdict quiet name bytes 0 t) (sym says) (toml utf8 document)))

pub refused_said : (quiet : Bool) (name bytes text : List ℕ) (finding : code.Finding) (status : ℕ)
    → Finds bytes (Some finding) → status ≡ 1 → text ≡ refusal_text quiet name (finding_of finding)
    → IsUnread name status text ⊎ IsVerdict quiet name bytes status text
refused_said quiet name bytes text finding status wrong is says =
    inr (subst (λ (n : ℕ). IsVerdict quiet name bytes n text) (sym is)
    (subst (λ (t : List ℕ). IsVerdict quiet name bytes 1 t) (sym says) (refused wrong)))

-- the line of a file that could not be read, by the name that messages have
pub unread_line : (name label text : List ℕ) (status : ℕ) → label ≡ display_name name → status ≡ 3
    → (why : List ℕ) × (text ≡ failure_line label why) → IsUnread name status text
unread_line name label text status named is (why, says) = (is, (why, says ∙ ap (λ l. failure_line l why) named))

pub unread_said : {E : Type 0} (quiet : Bool) (name bytes : List ℕ) (result : Result Verdict E)
    → IfOk result (λ v. IsUnread name v.status (string_bytes v.text))
    → IfOk result (λ v. IsUnread name v.status (string_bytes v.text)
    ⊎ IsVerdict quiet name bytes v.status (string_bytes v.text))
unread_said quiet name bytes (Ok v) is = inl is
unread_said quiet name bytes (Err e) is = tt

pub ruleset said_of_bytes = (toml_said, refused_said)
