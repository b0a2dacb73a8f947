use Rattle.std.proofs.Common.{◌≡◌, ap, ◌∙◌, arith, length}
use Rattle.basic_toml_tree.proofs.HeadersKept.{one_more, rises_on}
use Rattle.basic_toml_tree.proofs.headers.Headers.push.Goals as goal

pub invariant_of-self-in-Ok : goal.invariant_of-self-in-Ok
invariant_of-self-in-Ok c =
    let count : c.len.result ≡ length c.append.new.self.items =
    omega (arith, c.len.ensures, c.append.new.self.ok.0) in
    rw (c.in-Ok.ensures.items, ← count)
    (rises_on 0 _ _ _ _ c.self.invariant (count ∙ ap length c.in_ok-append.ensures.items))

pub returns-in-Ok-clause-ok : goal.returns-in-Ok-clause-ok
returns-in-Ok-clause-ok c =
    rw (c.in-Ok.ensures.items, c.in_ok-append.ensures.items, ← c.self.view_is) (one_more 0 _ _ _ _ c.self.invariant
    (omega (arith, c.len.ensures, c.append.new.self.ok.0, ap length c.in_ok-append.ensures.items)))
