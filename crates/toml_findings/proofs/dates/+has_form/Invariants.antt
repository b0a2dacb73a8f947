use Rattle.std.proofs.Common.{length}
use Rattle.toml_findings.proofs.dates.+has_form.Given as goal

abbrev pub decreases-has_form : goal.decreases-has_form
decreases-has_form l = length l.form.now
