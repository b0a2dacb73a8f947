use lib.Lanes.{chunk}
use Rattle.basic_toml_tokens.specs.Lanes.{class_of, AreStops}
use Rattle.basic_toml_tokens.proofs.LanesTellTheRun.{run_told}
use Rattle.basic_toml_tokens.proofs.lanes.run_in_block.Goals as goal
use Rattle.basic_toml_tokens.proofs.lanes.run_in_block.Goals.{in-Keylike, in-Comment, in-Literal, in-Basic}

pub returns : goal.returns
returns c =
    let v = chunk c.args.at 16 c.args.bytes.now in
    let stops : AreStops (class_of c.args.class) v c.match-class.stops = elim c.match-class.branch [
      | in-Keylike w ↦ rw (w.in-Keylike.is, w.stops-is) w.no_keylike-stops.ensures
      | in-Comment w ↦ rw (w.in-Comment.is, w.stops-is) w.no_comment-stops.ensures
      | in-Literal w ↦ rw (w.in-Literal.is, w.stops-is) w.no_literal-stops.ensures
      | in-Basic w ↦ rw (w.in-Basic.is, w.stops-is) w.no_basic-stops.ensures
    ] in
    run_told (class_of c.args.class) c.args.bytes.now c.args.at c.match-class.stops _ c.requires c.type_inv.bytes stops
    c.first_set.ensures
