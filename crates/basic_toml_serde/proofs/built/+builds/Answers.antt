use Rattle.std.proofs.Common.{◌∷◌, ◌∙◌, rules, sym, subst}
use mir.Syntax.{w64}
use mir.Val.{SFits, of_z, to_z}
use Rattle.std.proofs.lemmas.Int.{to_z-of_z}
use Rattle.basic_toml_value.specs.View.{view}
use Rattle.basic_toml_value.specs.declared.value.Value.TheVariants.{Integer}
use Rattle.basic_toml_serde.specs.Built.{left, IsBuilt, IsNextElement, IsNextKey, IsNextValue}
use Rattle.basic_toml_serde.specs.Listed.{item_of}
use Rattle.basic_toml_serde.proofs.ItemsAreBuilt.{integer_built, one_element, elements_end, EntriesSoFar, one_entry}
use Rattle.basic_toml_serde.proofs.ItemsAreBuilt.{absent_entry, entries_end}
use Rattle.basic_toml_serde.proofs.built.+builds.Goals as goal
use Rattle.basic_toml_serde.proofs.built.+builds.Goals.{entries_of-in-Some-2+in_ok-put, entries_of-in_default-2}

pub value_of-returns-in-Integer : goal.value_of-returns-in-Integer
value_of-returns-in-Integer t c =
    let fits : SFits w64 c.in-Integer.number = search rules in
    subst (λ i. IsBuilt (item_of i ∷ left c.args.rest.now) (view (Integer (to_z w64 (of_z w64 c.in-Integer.number))))
    (left c.args.rest.now)) (sym c.in-Integer.is)
    (rw (to_z-of_z w64 c.in-Integer.number fits) (integer_built c.in-Integer.number (left c.args.rest.now)))

pub elements_of-returns-in_default : goal.elements_of-returns-in_default
elements_of-returns-in_default t c =
    elements_end (left c.args.rest.now) (left c.loop.rest) (left c.next_element.new.rest) c.loop.values.items
    c.loop.invariant
    (subst (λ v. IsNextElement (left c.loop.rest) v (left c.next_element.new.rest)) c.in_default.is
    c.in_ok-value.ensures)

pub elements_of-loop-preserved : goal.elements_of-loop-preserved
elements_of-loop-preserved t c =
    one_element (left c.args.rest.now) (left c.loop.rest) (left c.next_element.new.rest) c.loop.values.items
    c.push.new.self.items c.in-Some.value c.loop.invariant
    (subst (λ v. IsNextElement (left c.loop.rest) v (left c.next_element.new.rest)) c.in-Some.is c.in_ok-value.ensures)
    (search rules)

pub entries_of-returns-in_default : goal.entries_of-returns-in_default
entries_of-returns-in_default t c =
    entries_end (left c.args.rest.now) (left c.loop.rest) (left c.next_key.new.rest) c.loop.table c.loop.invariant
    (subst (λ k. IsNextKey (left c.loop.rest) k (left c.next_key.new.rest)) c.in_default.is c.in_ok-key.ensures)

pub entries_of-loop-preserved : goal.entries_of-loop-preserved
entries_of-loop-preserved t c =
    let first = left c.args.rest.now in
    let now = left c.loop.rest in
    let mid = left c.next_key.new.rest in
    let next = left c.entry_value.new.rest in
    let named = subst (λ k. IsNextKey now k mid) c.in-Some.is c.in_ok-key.ensures in
    elim c.match-branch-4.branch [
      | entries_of-in-Some-2+in_ok-put w ↦ one_entry first now mid next c.loop.table c.match-branch-4.table c.in-Some.key
          w.in-Some-2.value c.loop.invariant named
          (subst (λ v. IsNextValue mid v next) w.in-Some-2.is c.in_ok-value.ensures) (w.table-is ∙ w.in_ok-put.ensures)
      | entries_of-in_default-2 w ↦ subst (λ made. EntriesSoFar first next made) (sym w.table-is)
          (absent_entry first now mid next c.loop.table c.in-Some.key c.loop.invariant named
          (subst (λ v. IsNextValue mid v next) w.in_default-2.is c.in_ok-value.ensures))
    ]
