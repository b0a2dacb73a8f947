use Rattle.basic_toml_value.proofs.KeysSeen.{found_again, seen_before, stands_within, not_absent}
use Rattle.basic_toml_value.proofs.pairs.Pairs.enter.Goals as goal

pub returns-in-At-clause-entered : goal.returns-in-At-clause-entered
returns-in-At-clause-entered g c =
    found_again c.self.inside.entries.items c.args.self.now c.in-At.position c.args.key.now _
    c.self.view_is c.self.invariant.distinct c.in-At.ensures.found

pub returns-in-At-clause-within : goal.returns-in-At-clause-within
returns-in-At-clause-within g c = stands_within _ _ c.args.key.now (returns-in-At-clause-entered g c).entered.at

pub returns-in_ok-position-in-Absent-clause-entered : goal.returns-in_ok-position-in-Absent-clause-entered
returns-in_ok-position-in-Absent-clause-entered g c =
    seen_before c.self.view_is c.in_ok-position-in-Absent.ensures.entered

pub returns-in_ok-position-in-Absent-clause-within : goal.returns-in_ok-position-in-Absent-clause-within
returns-in_ok-position-in-Absent-clause-within g c =
    stands_within _ _ c.args.key.now (returns-in_ok-position-in-Absent-clause-entered g c).entered.at

pub returns-in_err-position-in-Absent-clause-found : goal.returns-in_err-position-in-Absent-clause-found
returns-in_err-position-in-Absent-clause-found g c there =
    absurd (not_absent c.self.inside.entries.items c.args.self.now c.args.key.now c.self.view_is
    c.in-Absent.ensures.absent there)
