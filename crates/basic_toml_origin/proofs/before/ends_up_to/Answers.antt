use Rattle.std.proofs.Common.{◌≡◌, ◌+◌, ◌-◌, List, ap, arith, length, map, sym, ◌∙◌}
use Rattle.basic_toml_read.specs.declared.section.Key.{Key}
use Rattle.basic_toml_read.specs.SectionView.{key_of}
use Rattle.basic_toml_origin.specs.Before.{ends_before, ends_up_to}
use Rattle.basic_toml_origin.proofs.StandsBefore.{last_ends}
use Rattle.basic_toml_origin.proofs.before.ends_up_to.Goals as goal

pub returns-in-Some-Some : goal.returns-in-Some-Some
returns-in-Some-Some c =
    let o = c.in-Some-Some.offset in
    let keys = c.deref.result.now in
    let item = c.in-Some-Some.ensures.item in
    let all : length keys - 1 + 1 ≡ length keys = omega (arith, item.3.0) in
    last_ends o keys (length keys - 1) c.in-Some-Some.key.now all item.1
    ∙ ap (λ (ks : List Key). ends_before o (map key_of ks)) c.deref.ensures.value
    ∙ ap (λ end. ends_up_to end (map key_of c.args.section.now.header.items)) (sym c.in-Some-Some.is-0)
