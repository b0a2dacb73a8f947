use Rattle.std.proofs.Common.{◌≡◌, ℕ, true, map, sym, ◌∙◌, arith}
use Rattle.std.specs.Prelude.{◌&&◌, nat_lt, not}
use Rattle.basic_toml_index.specs.Keys.{is_among}
use Rattle.basic_toml_value.specs.Nesting.{nesting_limit}
use Rattle.basic_toml_plain.specs.Plain.{key_of, is_plain, are_simple}
use Rattle.basic_toml_plain.proofs.PlainSeen.{array_is, simple_step}
use Rattle.basic_toml_plain.proofs.plain.+plain.Goals.{are_simple-Joined-is_plain}
use Rattle.basic_toml_plain.proofs.plain.+plain.Goals.{are_simple-then-is_plain, are_simple-else-is_plain}
use Rattle.basic_toml_plain.proofs.PlainParts.{element_fewer}
use Rattle.basic_toml_read.specs.declared.section.Row.{out-Row}
use Rattle.basic_toml_plain.proofs.plain.+plain.Goals as goal

pub is_plain-returns-then-level-lt-NESTING_LIMIT : goal.is_plain-returns-then-level-lt-NESTING_LIMIT
is_plain-returns-then-level-lt-NESTING_LIMIT t c =
    let low : nat_lt c.args.level nesting_limit ≡ true = grind (arith, c.if-level-lt-NESTING_LIMIT.true) in
    rw (c.in-Array.is, array_is c.in-Array.elements c.args.level, low, ← c.as_slice.ensures.value) c.are_plain.ensures

pub are_plain-is_plain-requires : goal.are_plain-is_plain-requires
are_plain-is_plain-requires t c =
    let fewer = element_fewer _ _ c.element-item.result c.loop-element-test.true c.element-item.is in (omega arith, tt)

-- rows are simple where the first is, among the rest, and they are
simple_seen : (t : ℕ) (c : are_simple-Joined-is_plain t)
    → are_simple c.args.level c.args.rows.now ≡ (c.if-is_plain.value && are_simple c.args.level c.in-Some.rest.now)
simple_seen t c =
    let r = c.in-Some.row.now in
    let rs = c.in-Some.rest.now in
    let here : c.if-is_plain.value
    ≡ (is_plain (out-Row r).value c.args.level && not (is_among (map key_of rs) (key_of r)))
    = elim c.if-is_plain.branch [
      | are_simple-then-is_plain w ↦ rw (sym c.is_plain.ensures ∙ w.if-is_plain.true) (cc)
      | are_simple-else-is_plain w ↦ rw (sym c.is_plain.ensures ∙ w.if-is_plain.false) (cc)
    ] in
    rw (c.in-Some.ensures.cases.0, here) (simple_step c.args.level r rs)

pub are_simple-returns-then-not-has_key : goal.are_simple-returns-then-not-has_key
are_simple-returns-then-not-has_key t c =
    let all = simple_seen t (goal.at.are_simple-returns-then-not-has_key t c).Joined-is_plain in
    c.are_simple.ensures ∙ sym (rw c.if-not-has_key.true at all)

pub are_simple-returns-else-not-has_key : goal.are_simple-returns-else-not-has_key
are_simple-returns-else-not-has_key t c =
    let all = simple_seen t (goal.at.are_simple-returns-else-not-has_key t c).Joined-is_plain in
    c.if-not-has_key.false ∙ sym (rw c.if-not-has_key.false at all)
