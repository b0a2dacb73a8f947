use Rattle.basic_toml_read.proofs.Common.{◌≡◌, refl, ◌≤◌, arith, rules, text_at, after_run, is_keylike, after_twice}
use Rattle.basic_toml_read.proofs.Common.{is_wordlike}
use Rattle.basic_toml_read.proofs.front.end_of_word.Goals as goal
use Rattle.basic_toml_explain.proofs.TakenTokenStands.{run_within}
use Rattle.basic_toml_read.proofs.front.end_of_word.Goals.{then-at-from, else-at-from}

pub loop-next-init : goal.loop-next-init
loop-next-init c =
    let text = c.args.text.now in
    let run = c.end_of_run-end.ensures.run in
    let from = c.args.from in
    let at = c.if-at-from.start in
    let start : (after_run is_wordlike (text_at text at) ≡ after_run is_wordlike (text_at text from)) × (from ≤ at) =
    elim c.if-at-from.branch [
      | then-at-from w ↦ grind (arith, w.start-is, w.unwrap_or-start.ensures, w.after_joint.ensures)
      | else-at-from w ↦ rw w.start-is (refl, omega arith)
    ] in
    let word = after_twice is_keylike (text_at text at) in
    let within = run_within (text_at text at) in
    search rules

pub loop-next-preserved : goal.loop-next-preserved
loop-next-preserved c =
    let text = text_at c.args.text.now c.in-Some.next in
    grind (arith, run_within text, after_twice is_keylike text)
