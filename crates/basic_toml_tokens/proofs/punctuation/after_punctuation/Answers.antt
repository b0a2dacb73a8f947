use Rattle.std.proofs.Common.{◌<◌, List, ℕ, length, get_or, ap, sym, ◌∙◌, arith}
use Rattle.basic_toml_tokens.proofs.PunctuationIsFound.{punctuation_there, no_punctuation}
use Rattle.basic_toml_tokens.proofs.punctuation.after_punctuation.Goals as goal

pub returns-then-at-bytes : goal.returns-then-at-bytes
returns-then-at-bytes c =
    no_punctuation c.args.text.now c.args.at c.utf8.text c.requires.boundary c.args.punctuation c.requires.lone
    (λ h. absurd (omega (arith, ap length c.as_bytes-bytes.ensures.value, c.if-at-bytes.true)))

pub returns-then-bytes-at : goal.returns-then-bytes-at
returns-then-bytes-at c =
    let same = c.as_bytes-bytes.ensures.value in
    let within : c.args.at < length c.args.text.now =
    omega (arith, ap length same, c.requires.boundary.0, c.if-at-bytes.false) in
    punctuation_there c.args.text.now c.args.at c.utf8.text c.requires.boundary c.args.punctuation c.requires.lone
    within (ap (λ (t : List ℕ). get_or t c.args.at 0) (sym same) ∙ c.if-bytes-at.true)

pub returns-else-bytes-at : goal.returns-else-bytes-at
returns-else-bytes-at c =
    no_punctuation c.args.text.now c.args.at c.utf8.text c.requires.boundary c.args.punctuation c.requires.lone
    (λ h e. c.if-bytes-at.false (ap (λ (t : List ℕ). get_or t c.args.at 0) c.as_bytes-bytes.ensures.value ∙ e))
