use Rattle.std.proofs.Common.{rules, subst}
use Rattle.basic_toml.specs.Reading.{ReadsText}
use Rattle.basic_toml_returns.proofs.WrittenReturns.{written_then_read}
use Rattle.basic_toml_returns.proofs.root.write_then_read.Goals as goal

pub returns : goal.returns
returns g c =
    written_then_read g.T.Serialize.calls g.T.Serialize.gives_up g.T.Deserialize.takes g.T.Deserialize.reads
    g.T.Deserialize.faults g.T.Returns.read_back.meant c.args.value.now c.in_ok-text.text c.from_text.result
    ((g.met.T.Returns c.lifetimes (search rules)).returns c.args.value.now c.in_ok-text.ensures.holds)
    c.in_ok-text.ensures.written c.in_ok-text.ensures.means
    (subst (λ bytes. ReadsText g.T.Deserialize.takes g.T.Deserialize.reads g.T.Deserialize.faults bytes c.from_text.result)
    c.as_str.ensures.value c.from_text.ensures)
