use Rattle.std.proofs.Common.{◌+◌, length, get_or, inr, ap, sym, ◌∙◌, arith}
use Rattle.basic_toml_tokens.proofs.DelimitersAreCounted.{one_more, no_other, finish}
use Rattle.basic_toml_tokens.proofs.quote.delimiters.Goals as goal

pub loop-n-preserved : goal.loop-n-preserved
loop-n-preserved c =
    let same = c.as_bytes-bytes.ensures.value in (
      omega arith,
      one_more c.args.delimiter c.args.text.now c.args.at c.requires.quote c.utf8.text c.loop-n.n c.loop-n.invariant.1
          (omega (arith, ap length same, c.requires.boundary.0))
          (ap (λ bs. get_or bs (c.args.at + c.loop-n.n) 0) (sym same) ∙ c.if-bytes-at.true),
    )

pub returns-else-bytes-at : goal.returns-else-bytes-at
returns-else-bytes-at c =
    let same = c.as_bytes-bytes.ensures.value in
    finish c.args.delimiter c.args.text.now c.args.at c.requires.quote c.utf8.text c.loop-n.n c.loop-n.invariant.0
    c.loop-n.invariant.1
    (inr (no_other c.args.delimiter c.args.text.now c.args.at c.requires.quote c.utf8.text c.loop-n.n
    c.loop-n.invariant.1 (omega (arith, ap length same, c.requires.boundary.0))
    (λ _ e. c.if-bytes-at.false (ap (λ bs. get_or bs (c.args.at + c.loop-n.n) 0) same ∙ e))))

pub returns-else-n-bytes : goal.returns-else-n-bytes
returns-else-n-bytes c =
    let same = c.as_bytes-bytes.ensures.value in
    let within = (c.loop-n.invariant.1.boundary c.loop-n.n (omega arith)).0 in
    finish c.args.delimiter c.args.text.now c.args.at c.requires.quote c.utf8.text c.loop-n.n c.loop-n.invariant.0
    c.loop-n.invariant.1
    (inr (no_other c.args.delimiter c.args.text.now c.args.at c.requires.quote c.utf8.text c.loop-n.n
    c.loop-n.invariant.1 within
    (λ h. absurd (omega (arith, ap length same, c.if-n-bytes.false, c.requires.boundary.0)))))
