use Rattle.std.proofs.Common.{◌≡◌, Some, refl, ap, sym, ◌∙◌, arith, length, slice_get}
use Rattle.basic_toml_tree.specs.Keys.{header_at}
use Rattle.basic_toml_tree.proofs.Nodes.KeysLead.{among_first, key_there, text_count}
use Rattle.basic_toml_tree.proofs.node.Node.trail_below.Goals as goal

pub returns-in-Some-get-clause-row : goal.returns-in-Some-get-clause-row
returns-in-Some-get-clause-row c = λ s kept apart.
    let len = length (header_at c.args.self.tree.now c.args.section) in
    let same : c.in-Header.header ≡ s = cc (c.in-Header.is, kept) in
    let count = sym (ap length c.keys-len.ensures) ∙ text_count c.keys-len.result.now in
    let at = c.in-Some-get.ensures.lookup in
    let first : slice_get (header_at c.args.self.tree.now s) len ≡ Some c.as_str.result.now =
    rw (← same, ← (c.keys.ensures), count, c.as_str.ensures.value) (key_there c.keys.result.now
    (length c.keys-len.result.now) c.in-Some-get.first.now at.3.0 at.1) in (
      refl,
      among_first (header_at c.args.self.tree.now s) c.args.self.count len c.args.key.now c.as_str.result.now
          (omega (arith, c.if-len-self.true, count)) first,
    )
