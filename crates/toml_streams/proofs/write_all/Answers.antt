use Rattle.std.proofs.Common.{rules}
use Rattle.toml_streams.proofs.FrontIsAppended.{front_more, rest_whole}
use Rattle.toml_streams.proofs.write_all.Goals as goal

pub loop-written-preserved : goal.loop-written-preserved
loop-written-preserved g c =
    record {
      within = search rules;
      front = front_more _ _ _ c.args.bytes.now _ c.loop-written.written c.in_ok-n.n (search (rules, rest_whole))
          c.loop-written.invariant.front c.in_ok-n.ensures.bytes;
    }
