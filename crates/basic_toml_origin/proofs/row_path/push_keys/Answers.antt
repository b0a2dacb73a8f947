use Rattle.std.proofs.Common.{◌++◌, List, ap, length, map, sym, take, ◌∙◌}
use Rattle.std.proofs.lemmas.List.{take_all}
use Rattle.basic_toml_grammar.specs.Sections.{texts}
use Rattle.basic_toml_grammar.specs.Steps.{key, steps_of}
use Rattle.basic_toml_read.specs.declared.section.Key as code
use Rattle.basic_toml_read.specs.SectionView.{Lined, key_of, lined_of}
use Rattle.basic_toml_read.proofs.NextRow.{lined_is}
use Rattle.basic_toml_origin.specs.declared.step.Step.{Step}
use Rattle.basic_toml_origin.specs.Path.{path_of}
use Rattle.basic_toml_origin.proofs.PathsPushed.{key_pushed, next_key_pushed, still_there}
use Rattle.basic_toml_origin.proofs.row_path.push_keys.Goals as goal

pub loop-key-preserved : goal.loop-key-preserved
loop-key-preserved c =
    let before = c.args.path.now.items in (
      ap (λ (ss : List Step). path_of ss) c.in_ok-push.ensures.items
          ∙ next_key_pushed before c.loop-key.path.items c.args.parents.now c.loop-key.key-index c.key-item.result _
          c.loop-key-test.true c.key-item.is c.loop-key.invariant.0 (ap key c.as_str.ensures.value),
      ap (λ (ss : List Step). take (length before) ss) c.in_ok-push.ensures.items
          ∙ still_there before c.loop-key.path.items _ c.loop-key.invariant.1,
    )

pub returns-clause-steps : goal.returns-clause-steps
returns-clause-steps c =
    let before = c.args.path.now.items in
    let keys = c.args.parents.now in
    let row = c.args.row.now in
    ap (λ (ss : List Step). path_of ss) c.in_ok-push-2.ensures.items
    ∙ key_pushed before c.loop-key.path.items (map key_of keys) (lined_of row).key _
    (c.loop-key.invariant.0 ∙ ap (λ (ks : List code.Key). path_of before ++ steps_of (texts (map key_of ks)))
    (take_all c.loop-key.key-index keys c.loop-key-test.false))
    (ap key c.as_str-2.ensures.value ∙ ap (λ (l : Lined). key l.key.text) (sym (lined_is row)))
