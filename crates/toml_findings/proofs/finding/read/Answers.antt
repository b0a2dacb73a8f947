use Rattle.toml_findings.specs.Findings.{no_text}
use Rattle.toml_findings.proofs.finding.read.Goals as goal

pub returns-in_ok-finding-in-Err : goal.returns-in_ok-finding-in-Err
returns-in_ok-finding-in-Err c = no_text c.in-Err.ensures.cases.0 c.in_ok-finding-in-Err.ensures
