use Rattle.basic_toml_read.proofs.Common.{◌+◌, ◌<◌, [], ◌∷◌, length, length-append, ap, arith, ◌∙◌, Err, rules}
use Rattle.basic_toml_read.proofs.Common.{map-append, text_at, key_of, nesting_limit}
use Rattle.basic_toml_read.proofs.header.header_keys.Goals as goal
use Rattle.basic_toml_read.specs.declared.section.Key.{Key}
use Rattle.basic_toml_read.proofs.StandsIn.{is_err}
use Rattle.basic_toml_read.proofs.KeysTold.{key_too_deep, no_key, told_start, told_more, told_last}
use Rattle.basic_toml_read.proofs.LeftAfter.{sign_missing}

pub loop-keyed-init : goal.loop-keyed-init
loop-keyed-init c =
    rw (c.in_ok-try_reserve.ensures.items ∙ c.requires.none)
    (told_start c.args.text.now c.args.at 2 (omega arith) c.requires.boundary)

pub loop-keyed-preserved : goal.loop-keyed-preserved
loop-keyed-preserved c =
    rw c.in_ok-push.ensures.items
    (told_more c.loop-keyed.invariant c.in_ok-keyed.keyed c.in_ok-keyed.ensures.read c.after_blanks-end.ensures
    c.in_ok-raise.ensures c.after_blanks-offset.ensures c.in-Some.ensures)

pub returns-in-None-clause-read : goal.returns-in-None-clause-read
returns-in-None-clause-read c =
    let s = c.loop-keyed.invariant in
    let front = c.loop-keyed.keys.items in
    let k = c.in_ok-keyed.keyed in
    let this : Key = record { text = k.key; offset = c.loop-keyed.offset } in
    let read = c.in_ok-keyed.ensures.read in
    let blanks = c.after_blanks-end.ensures in
    let is = told_last s k read blanks c.in_ok-raise.ensures c.in-None.ensures in
    let over = sign_missing 46 (text_at c.args.text.now c.after_blanks-end.result) c.in-None.ensures in
    let view = map-append key_of front (this ∷ []) in
    let counted = simp length-append at (ap length c.in_ok-push.ensures.items) in
    search rules

pub returns-in_err-keyed : goal.returns-in_err-keyed
returns-in_err-keyed c =
    let e = c.in_err-keyed.ensures in
    rw (is_err c.from_residual-in_err-keyed.ensures.1)
    (no_key c.loop-keyed.invariant (λ n. nesting_limit < n + 1) _ e.read e.inside)

pub returns-in_err-raise : goal.returns-in_err-raise
returns-in_err-raise c =
    let e = c.in_err-raise.ensures in
    rw (is_err c.from_residual-in_err-raise.ensures.1 ∙ ap (λ s. Err s) e.1)
    (key_too_deep c.loop-keyed.invariant (λ n. nesting_limit < n + 1) (λ n h. omega (arith, h)) c.in_ok-keyed.keyed
    c.in_ok-keyed.ensures.read e.0)
