use Rattle.toml_check.proofs.FilesInTurn.{IsPartOf}
use Rattle.toml_check.proofs.run.check_all.Given as goal

-- what is left of the run makes it whole
abbrev pub invariant-loop-name : goal.invariant-loop-name
invariant-loop-name g l =
    IsPartOf l.is_quiet (g.S.Source.bytes l.source) l.names l.name-index (g.W.Write.contents l.initial.writer)
    (g.W.Write.contents l.writer) l.status
