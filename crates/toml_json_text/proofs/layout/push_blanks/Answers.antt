use Rattle.std.proofs.Common.{◌≡◌, ℕ, suc, ◌+◌, ◌-◌, ◌<◌, List, ◌++◌, codes, arith, sym, ap, ◌∙◌, append_assoc, string_bytes}
use Rattle.toml_json_text.specs.Json.{blanks}
use Rattle.toml_json_text.proofs.layout.push_blanks.Goals as goal

blanks_left : (level i : ℕ) → i < level → blanks (level - i) ≡ codes "  " ++ blanks (level - (i + 1))
blanks_left level i lt =
    let same : level - i ≡ suc (level - (i + 1)) = omega arith in
    ap blanks same

blanks_step : (t t' whole : List ℕ) (level i : ℕ) → i < level → t' ≡ t ++ codes "  "
    → t ++ blanks (level - i) ≡ whole → t' ++ blanks (level - (i + 1)) ≡ whole
blanks_step t t' whole level i lt put left =
    ap (λ z. z ++ blanks (level - (i + 1))) put
    ∙ (append_assoc t (codes "  ") (blanks (level - (i + 1)))
    ∙ (ap (λ z. t ++ z) (sym (blanks_left level i lt)) ∙ left))

pub loop-i-preserved : goal.loop-i-preserved
loop-i-preserved c =
    blanks_step (string_bytes c.loop-i.text) _ _ c.args.level c.loop-i._i c.loop-i-test.true
    c.in_ok-push_str.ensures.bytes c.loop-i.invariant
