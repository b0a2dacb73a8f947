use Rattle.std.proofs.Common.{◌≡◌, ◌+◌, ◌∷◌, ◌++◌, [], ℕ, List, map, take, ap, refl, ◌∙◌, arith}
use Rattle.basic_toml_grammar.specs.Steps.{key}
use Rattle.basic_toml_grammar.specs.Placed.{elements_at, placed}
use Rattle.basic_toml_read.specs.declared.section.Section.{Section}
use Rattle.basic_toml_read.specs.KeyText.{key_text_bytes}
use Rattle.basic_toml_read.specs.SectionView.{section_of}
use Rattle.basic_toml_origin.specs.declared.step.Step.{Step}
use Rattle.basic_toml_origin.specs.Path.{path_of}
use Rattle.basic_toml_origin.proofs.KeysFollow.{cut_at, key_pushed, latest_pushed, none_pushed, step_pushed}
use Rattle.basic_toml_origin.proofs.KeysFollow.{no_path, path_there}
use Rattle.basic_toml_origin.proofs.indexed_path.section_path.Goals as goal
use Rattle.basic_toml_origin.proofs.indexed_path.section_path.Goals.{then-elements-gt0+in_ok-push-2, else-elements-gt0}

pub returns-in_default : goal.returns-in_default
returns-in_default c = no_path c.args.sections.now c.args.number (omega (arith, c.in_default.ensures.lookup.3))

pub loop-key-preserved : goal.loop-key-preserved
loop-key-preserved c =
    let upto : List Section = take (c.args.number + 1) c.args.sections.now in
    let keys = c.deref-key-items.result.now in
    let at : ℕ = c.loop-key.key-index in
    let steps : List Step = c.push.new.self.items in
    let count : ℕ = c.in_ok-elements.elements in
    let with_key : path_of steps ≡ cut_at upto keys at ++ key (key_text_bytes c.key-item.result.text) ∷ [] =
    ap path_of c.in_ok-push.ensures.items ∙ step_pushed c.loop-key.path.items _
    ∙ ap (λ p. p ++ key c.as_str.result.now ∷ []) c.loop-key.invariant
    ∙ ap (λ t. cut_at upto keys at ++ key t ∷ []) c.as_str.ensures.value in
    let counted : count ≡ elements_at (path_of steps) (placed (map section_of upto)) =
    c.in_ok-elements.ensures
    ∙ ap (λ (ss : List Step). elements_at (path_of ss) (placed (map section_of upto))) c.as_slice.ensures.value in
    let more =
    key_pushed upto keys at c.key-item.result (path_of steps) count c.loop-key-test.true c.key-item.is with_key counted in
    elim c.if-elements-gt0.branch [
      | then-elements-gt0+in_ok-push-2 w ↦
          ap (λ v. path_of v.items) w.path-is
          ∙ ap path_of w.in_ok-push-2.ensures.items ∙ step_pushed steps _
          ∙ latest_pushed (path_of steps) count w.if-elements-gt0.true ∙ more
      | else-elements-gt0 w ↦
          ap (λ v. path_of v.items) w.path-is ∙ none_pushed (path_of steps) count w.if-elements-gt0.false ∙ more
    ]

pub returns : goal.returns
returns c =
    let keys = c.deref-key-items.result.now in
    path_there c.args.sections.now (take (c.args.number + 1) c.args.sections.now) c.args.number c.in-Some.section.now keys
    c.loop-key.key-index (path_of c.loop-key.path.items) c.in-Some.ensures.lookup.3.0 c.in-Some.ensures.lookup.1 refl
    c.deref-key-items.ensures.value (omega (arith, c.loop-key-test.false, c.loop-key.auto.key-index-end))
    c.loop-key.invariant
