use Rattle.basic_toml_read.proofs.Common.{◌+◌, ◌-◌, ◌<◌, [], ◌∷◌, append_assoc, append-nil, ap, ◌∙◌, Err, rules}
use Rattle.basic_toml_read.proofs.Common.{length-map, nesting_limit, text_at, key_of}
use Rattle.basic_toml_read.proofs.values.Gathered.keys.Goals as goal
use Rattle.basic_toml_read.specs.declared.section.Key.{Key}
use Rattle.basic_toml_read.proofs.StandsIn.{is_err}
use Rattle.basic_toml_read.proofs.KeysTold.{key_too_deep, no_key, told_start, told_more, told_last}
use Rattle.basic_toml_read.proofs.LeftAfter.{sign_missing}

pub loop-keyed-init : goal.loop-keyed-init
loop-keyed-init c =
    let keys = told_start c.args.text.now c.args.at c.args.first c.requires.level c.requires.boundary in
    let pushed = append-nil c.args.self.now.parents.items in
    search rules

pub loop-keyed-preserved : goal.loop-keyed-preserved
loop-keyed-preserved c =
    let s = c.loop-keyed.invariant in
    let this : Key = record { text = c.in_ok-keyed.keyed.key; offset = c.loop-keyed.offset } in
    let keys = told_more s.keys c.in_ok-keyed.keyed c.in_ok-keyed.ensures.read c.after_blanks-end.ensures
    c.in_ok-raise.ensures c.after_blanks-offset.ensures c.in-Some.ensures in
    let joined = append_assoc c.args.self.now.parents.items s.parents (this ∷ []) in
    search rules

pub returns-in-None-clause-read : goal.returns-in-None-clause-read
returns-in-None-clause-read c =
    let s = c.loop-keyed.invariant in
    let is = told_last s.keys c.in_ok-keyed.keyed c.in_ok-keyed.ensures.read c.after_blanks-end.ensures
    c.in_ok-raise.ensures c.in-None.ensures in
    let over = sign_missing 46 (text_at c.args.text.now c.after_blanks-end.result) c.in-None.ensures in
    let counted = length-map s.parents key_of in
    search rules

pub returns-in_err-keyed : goal.returns-in_err-keyed
returns-in_err-keyed c =
    let e = c.in_err-keyed.ensures in
    rw (is_err c.from_residual.ensures.1)
    (no_key c.loop-keyed.invariant.keys (λ n. nesting_limit < c.args.first + n - 1) _ e.read e.inside)

pub returns-in_err-raise : goal.returns-in_err-raise
returns-in_err-raise c =
    let e = c.in_err-raise.ensures in
    rw (is_err c.from_residual-in_err-raise.ensures.1 ∙ ap (λ s. Err s) e.1)
    (key_too_deep c.loop-keyed.invariant.keys (λ n. nesting_limit < c.args.first + n - 1) (λ n h. h)
    c.in_ok-keyed.keyed c.in_ok-keyed.ensures.read e.0)
