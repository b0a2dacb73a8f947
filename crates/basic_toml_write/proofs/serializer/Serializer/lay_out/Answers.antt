use Rattle.std.proofs.Common.{◌≡◌, sym, ◌∙◌, ap, rules, tests, true, []}
use Rattle.basic_toml_value.specs.View.{entries}
use Rattle.basic_toml_emit.specs.Open.{state}
use Rattle.basic_toml_write.proofs.TableIsLaidOut.{sends_laid, none_if}
use Rattle.basic_toml_write.proofs.serializer.Serializer.lay_out.Goals as goal

pub returns-in-Ok-clause-sends : goal.returns-in-Ok-clause-sends
returns-in-Ok-clause-sends c =
    let fits : c.table_fits.result ≡ true = search (rules, tests) in
    let fresh : c.is_fresh.result ≡ true = search (rules, tests) in
    let none = none_if c.args.self.now.error (sym c.has_refused.ensures ∙ c.if-has_refused.false) in
    sends_laid (entries c.args.table.now) c.args.self.now _ none none (c.is_fresh.ensures.yes fresh)
    (c.with_whole.ensures ∙ ap (λ z. state z [] true) c.in-Ok.ensures.text) (sym c.table_fits.ensures.fits ∙ fits)
    (c.table_fits.ensures.recordable fits)
