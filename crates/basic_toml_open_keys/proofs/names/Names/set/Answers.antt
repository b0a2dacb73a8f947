use Rattle.std.proofs.Common.{[], ◌∙◌, ap, arith, map, take, sym, subst, string_bytes}
use Rattle.std.specs.Prelude.{if◌then◌else◌}
use Rattle.std.specs.Result.{is_ok}
use Rattle.std.specs.List.{All}
use Rattle.std.specs.Str.{IsCharBoundary}
use Rattle.basic_toml_open_keys.specs.Names.{IsPlace, name_at}
use Rattle.basic_toml_open_keys.proofs.Naming.{boundary_kept, places_kept, names_kept, pushed_is, pushed_utf8}
use Rattle.basic_toml_open_keys.proofs.names.Names.set.Goals as goal

pub invariant_of-self : goal.invariant_of-self
invariant_of-self c =
    let old = c.args.self.now in
    let more = if is_ok c.push_str.result then c.args.name.now else [] in
    let is = pushed_is (is_ok c.push_str.result) _ _ (take old.held (string_bytes old.text)) c.args.name.now
    c.truncate.ensures.bytes c.push_str.ensures.bytes in
    let utf8 = pushed_utf8 (is_ok c.push_str.result) c.args.name.now c.utf8.name in
    record {
      cut = subst (λ t. IsCharBoundary t old.held) (sym is)
          (boundary_kept (string_bytes old.text) more old.held old.cut.0 old.held (omega arith) utf8 old.cut);
      fit = subst (λ t. All (IsPlace t old.held) old.places.items) (sym is)
          (places_kept (string_bytes old.text) more old.held old.cut.0 old.places.items utf8 old.fit);
    }

pub returns-clause-kept : goal.returns-clause-kept
returns-clause-kept c =
    let old = c.args.self.now in
    let more = if is_ok c.push_str.result then c.args.name.now else [] in
    let is = pushed_is (is_ok c.push_str.result) _ _ (take old.held (string_bytes old.text)) c.args.name.now
    c.truncate.ensures.bytes c.push_str.ensures.bytes in
    ap (λ t. map (name_at t) old.places.items) is ∙
    names_kept (string_bytes old.text) more old.held old.cut.0 old.places.items old.fit
