use Rattle.std.proofs.Common.{◌-◌, length, Some, ap, sym, ◌∙◌}
use Rattle.std.specs.List.{slice_get}
use Rattle.std.proofs.lemmas.Slice.Eq.{bytes_eq-Decides}
use Rattle.basic_toml_value.proofs.KeysSeen.{text_at, found_again}
use Rattle.basic_toml_value.proofs.pairs.Pairs.enter_again.Goals as goal

pub returns-then-eq-clause-entered : goal.returns-then-eq-clause-entered
returns-then-eq-clause-entered g c =
    let entries = c.self.inside.entries.items in
    let same = sym c.as_str.ensures.value ∙ (bytes_eq-Decides c.as_str.result.now c.args.key.now).0
    (sym c.eq.ensures ∙ c.if-eq.true) in
    let last = ap (λ n. slice_get entries (n - 1)) (c.len.ensures ∙ sym c.deref.ensures.len)
    ∙ sym (c.in-Some.ensures.value ∙ ap (λ ps. slice_get ps (length c.deref.result.now - 1)) c.deref.ensures.value) in
    found_again entries c.args.self.now (c.len.result - 1) c.args.key.now _ c.self.view_is c.self.invariant.distinct
    (text_at entries (c.len.result - 1) c.in-Some.last.now last ∙ ap Some same)
