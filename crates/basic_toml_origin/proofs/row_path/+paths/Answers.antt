use Rattle.std.proofs.Common.{◌+◌, ◌∷◌, ◌++◌, [], List, true, refl, subst, drop, length, map, take, ap, sym, ◌∙◌, arith}
use Rattle.std.proofs.lemmas.List.{take_at}
use Rattle.basic_toml_read.specs.declared.section.Key as code
use Rattle.basic_toml_read.specs.declared.section.Row.{out-Row}
use Rattle.basic_toml_read.specs.SectionView.{elements_view, key_of, lined_of, rows_from, rows_seen}
use Rattle.basic_toml_read.proofs.NextRow.{parents_left}
use Rattle.basic_toml_places.specs.Places.{path_by}
use Rattle.basic_toml_origin.specs.declared.step.Step.{Step}
use Rattle.basic_toml_origin.specs.Query.{PushesIfFound, test_of}
use Rattle.basic_toml_origin.proofs.PathsPushed.{element_here, element_path, element_within, found_among, found_at_keys}
use Rattle.basic_toml_origin.proofs.PathsPushed.{found_by_row, found_in_value, keys_within, not_among, not_by_row}
use Rattle.basic_toml_origin.proofs.PathsPushed.{pushed_length}
use Rattle.basic_toml_origin.proofs.row_path.+paths.Goals as goal
use Rattle.basic_toml_origin.proofs.row_path.+paths.Goals.{push_path_among-then-is_element-via-then-is_element}
use Rattle.basic_toml_origin.proofs.row_path.+paths.Goals.{push_path_among-then-is_element-via-else-is_element+in_ok-push_path_within+then-branch}

pub push_path_by-returns-then-branch : goal.push_path_by-returns-then-branch
push_path_by-returns-then-branch t c =
    found_by_row (test_of c.args.query) (rows_seen c.args.parents.now c.args.rows.now) c.loop-row.left.now
    c.own_parents-own.result.now c.args.rows.now c.loop-row.row-index c.row-item.result c.args.path.now.items
    c.loop-row.path.items c.push_path_at_row.new.path.items c.in_ok-push_path_at_row.field-0 c.loop-row-test.true
    c.row-item.is c.own_parents-own.ensures c.loop-row.invariant.1 c.loop-row.invariant.2
    c.in_ok-push_path_at_row.ensures c.if-branch.true

pub push_path_by-loop-row-preserved : goal.push_path_by-loop-row-preserved
push_path_by-loop-row-preserved t c =
    let left = c.loop-row.left.now in
    let r = c.row-item.result in
    let rest = drop (c.loop-row.row-index + 1) c.args.rows.now in
    let own = parents_left (out-Row r).parents left c.own_parents-own.result.now c.own_parents-own.ensures in
    let none = not_by_row (test_of c.args.query) (rows_seen c.args.parents.now c.args.rows.now) left
    c.own_parents-own.result.now c.args.rows.now c.loop-row.row-index r c.loop-row.path.items
    c.push_path_at_row.new.path.items c.in_ok-push_path_at_row.field-0 c.loop-row-test.true c.row-item.is
    c.own_parents-own.ensures c.loop-row.invariant.2 c.in_ok-push_path_at_row.ensures c.if-branch.false in (
      omega (arith, own.0, c.loop-row.invariant.0),
      none.0 ∙ c.loop-row.invariant.1,
      none.1
          ∙ ap (λ (ks : List code.Key). path_by (test_of c.args.query) (rows_from (map key_of ks) (map lined_of rest)))
          own.1,
    )

pub push_path_at_row-overflow_add-len : goal.push_path_at_row-overflow_add-len
push_path_at_row-overflow_add-len t c =
    let row = lined_of c.args.row.now in
    let keys = map key_of c.args.parents.now ++ row.key ∷ [] in
    omega (
      arith,
      c.len-len.ensures,
      keys_within c.args.query keys row.start c.in-Some.keys (sym c.in-Some.ensures),
      pushed_length c.args.path.now.items c.push_keys.new.path.items keys c.in_ok-push_keys.ensures.steps,
    )

pub push_path_at_row-returns-in-Some : goal.push_path_at_row-returns-in-Some
push_path_at_row-returns-in-Some t c =
    found_at_keys (test_of c.args.query) c.args.parents.now c.args.row.now c.in-Some.keys c.args.path.now.items
    c.push_keys.new.path.items c.truncate.new.self.items (sym c.in-Some.ensures) c.in_ok-push_keys.ensures.steps
    (c.truncate.ensures.items
    ∙ ap (λ n. take (n + c.in-Some.keys) c.push_keys.new.path.items) (omega (arith, c.len-len.ensures)))

pub push_path_at_row-returns-then-branch : goal.push_path_at_row-returns-then-branch
push_path_at_row-returns-then-branch t c =
    found_in_value (test_of c.args.query) c.args.parents.now c.args.row.now c.in_ok-push_path_within.field-0
    c.args.path.now.items c.push_keys.new.path.items c.push_path_within.new.path.items
    (sym c.keys_in_row.ensures ∙ c.in_default.is)
    c.in_ok-push_keys.ensures.steps c.in_ok-push_path_within.ensures c.if-branch.true

pub push_path_among-returns-then-is_element : goal.push_path_among-returns-then-is_element
push_path_among-returns-then-is_element t c =
    let test = test_of c.args.query in
    let e = c.index-elements-number.result in
    let steps = c.push.new.self.items in
    let after = c.then-is_element.path.items in
    let found : PushesIfFound true (element_path test e) steps after =
    elim c.then-is_element.branch [
      | push_path_among-then-is_element-via-then-is_element w ↦
          element_here test e steps after w.if-is_element.ensures (ap (λ v. v.items) w.path-is)
      | push_path_among-then-is_element-via-else-is_element+in_ok-push_path_within+then-branch w ↦
          subst (λ (ss : List Step). PushesIfFound true (element_path test e) steps ss)
          (sym (ap (λ v. v.items) w.path-is))
          (element_within test e w.in_ok-push_path_within.field-0 steps w.push_path_within.new.path.items
          w.if-is_element.ensures w.in_ok-push_path_within.ensures w.if-branch.true)
    ] in
    found_among test c.loop-number.number (elements_view c.args.elements.now) c.args.elements.now e
    c.args.path.now.items c.loop-number.path.items steps after _ c.loop-number-test.true c.index-elements-number.is
    c.loop-number.invariant.1 c.loop-number.invariant.0 c.in_ok-push.ensures.items refl found

pub push_path_among-loop-number-preserved : goal.push_path_among-loop-number-preserved
push_path_among-loop-number-preserved t c =
    let none = not_among (test_of c.args.query) c.loop-number.number (elements_view c.args.elements.now)
    c.args.elements.now c.index-elements-number.result c.push.new.self.items c.push_path_within.new.path.items
    c.in_ok-push_path_within.field-0 c.loop-number-test.true c.index-elements-number.is c.loop-number.invariant.1
    c.if-is_element.ensures c.in_ok-push_path_within.ensures c.if-branch.false in (
      c.truncate.ensures.items ∙ ap (λ (ss : List Step). take c.len-len.result ss) none.0
          ∙ ap (λ (ss : List Step). take c.len-len.result ss) c.in_ok-push.ensures.items
          ∙ take_at c.loop-number.path.items _ c.len-len.result
          (omega (arith, c.len-len.ensures, ap length c.loop-number.invariant.0))
          ∙ c.loop-number.invariant.0,
      none.1,
    )
