use Rattle.std.proofs.Common.{◌≡◌, ap, sym, ◌∙◌, refl, arith, false, bytes_eq}
use Rattle.std.proofs.lemmas.List.{map-append}
use Rattle.std.proofs.lemmas.Slice.Eq.{bytes_eq-Decides}
use Rattle.std.proofs.lemmas.Option.{slice_get_read}
use Rattle.std.proofs.lemmas.Grind.{common_steps}
use Rattle.basic_toml_index.proofs.DistinctKeys.{bytes_eq_other, is_among-push}
use Rattle.basic_toml_plain.specs.Plain.{key_of}
use Rattle.basic_toml_tree.proofs.node.row_at.Goals as goal

pub returns-then-eq : goal.returns-then-eq
returns-then-eq c =
    let same = (bytes_eq-Decides c.as_str.result.now c.args.key.now).0 (sym c.eq.ensures ∙ c.if-eq.true) in (
      c.loop-row.row-index,
      slice_get_read _ _ _ _ refl c.loop-row-test.true c.row-item.is,
      sym c.as_str.ensures.value ∙ same,
    )

pub loop-row-preserved : goal.loop-row-preserved
loop-row-preserved c =
    let other : bytes_eq (key_of c.row-item.result) c.args.key.now ≡ false =
    ap (λ k. bytes_eq k c.args.key.now) (sym c.as_str.ensures.value) ∙ sym c.eq.ensures ∙ c.if-eq.false in
    grind (arith, common_steps, map-append key_of, is_among-push, bytes_eq_other c.args.key.now _ other)
