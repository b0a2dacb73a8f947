use Rattle.std.proofs.Common.{sym}
use Rattle.basic_toml_tree.proofs.HeadersKept.{last_is_last}
use Rattle.basic_toml_tree.proofs.headers.Headers.last_at.Goals as goal

pub returns-in-Some : goal.returns-in-Some
returns-in-Some c =
    let kept = c.self.inside in
    rw (← c.self.view_is) (sym (last_is_last 0 kept.heads.items kept.keys.items c.in-Some.head.now
    (rw c.deref.ensures.value at (sym c.in-Some.ensures.value))))
