use Rattle.std.proofs.Common.{◌≡◌, ◌++◌, [], take, drop, get_or, inl, inr, ap, ◌∙◌, subst, arith}
use Rattle.std.specs.Str.{IsAscii}
use Rattle.std.proofs.lemmas.List.{append-nil, at_drop_all, length-set}
use Rattle.std.proofs.lemmas.Str.{IsUtf8-from_ascii}
use Rattle.basic_toml_numbers.specs.Numbers.{canonical}
use Rattle.basic_toml_numbers.proofs.KeptInPlace.{kept_next, next_stays, next_letter, next_drops, is_ascii-canonical}
use Rattle.basic_toml_numbers.proofs.float.text.Short.canonical.Goals as goal
use Rattle.basic_toml_numbers.proofs.float.text.Short.canonical.Goals.{then-byte-ne43+then-byte-ne95, then-byte-eq101}
use Rattle.basic_toml_numbers.proofs.float.text.Short.canonical.Goals.{else-byte-eq101, else-byte-ne43}
use Rattle.basic_toml_numbers.proofs.float.text.Short.canonical.Goals.{else-byte-ne43-via-else-byte-ne43}
use Rattle.basic_toml_numbers.proofs.float.text.Short.canonical.Goals.{else-byte-ne43-via-then-byte-ne43+else-byte-ne95}

pub loop-byte-preserved : goal.loop-byte-preserved
loop-byte-preserved c =
    let left = c.as_bytes-byte-items.result.now in
    let i = c.loop-byte.byte-index in
    let lt = c.loop-byte-test.true in
    let bytes = c.loop-byte.bytes in
    let len = c.loop-byte.len in
    let same = c.loop-byte.invariant.same in
    elim c.if-byte-ne43.branch [
      | then-byte-ne43+then-byte-ne95 w ↦ elim w.if-byte-eq101.branch [
        | then-byte-eq101 w' ↦ rw (w.len-is, w.bytes-is, w'.bytes-is) record {
          room = length-set bytes len _ ∙ c.loop-byte.invariant.room;
          fits = omega arith;
          same = kept_next c.args.text.now bytes left len i 69 same (omega arith)
              (next_letter left i lt w'.if-byte-eq101.true);
        }
        | else-byte-eq101 w' ↦ rw (w.len-is, w.bytes-is, w'.bytes-is) record {
          room = length-set bytes len _ ∙ c.loop-byte.invariant.room;
          fits = omega arith;
          same = kept_next c.args.text.now bytes left len i (get_or left i 0) same (omega arith)
              (next_stays left i lt w.if-byte-ne43.true w.if-byte-ne95.true w'.if-byte-eq101.false);
        }
      ]
      | else-byte-ne43 w ↦ elim w.else-byte-ne43.branch [
        | else-byte-ne43-via-then-byte-ne43+else-byte-ne95 w' ↦ rw (w.len-is, w.bytes-is) record {
          room = c.loop-byte.invariant.room;
          fits = omega arith;
          same = same ∙ ap (λ r. take len bytes ++ r) (next_drops left i lt (inr w'.if-byte-ne95.false));
        }
        | else-byte-ne43-via-else-byte-ne43 w' ↦ rw (w.len-is, w.bytes-is) record {
          room = c.loop-byte.invariant.room;
          fits = omega arith;
          same = same ∙ ap (λ r. take len bytes ++ r) (next_drops left i lt (inl w'.if-byte-ne43.false));
        }
      ]
    ]

pub invariant_of-result-clause-text : goal.invariant_of-result-clause-text
invariant_of-result-clause-text c =
    let kept = take c.loop-byte.len c.loop-byte.bytes in
    let none : canonical (drop c.loop-byte.byte-index c.as_bytes-byte-items.result.now) ≡ [] =
    at_drop_all canonical c.as_bytes-byte-items.result.now c.loop-byte.byte-index c.loop-byte-test.false in
    let same : canonical c.args.text.now ≡ kept =
    c.loop-byte.invariant.same ∙ ap (λ r. kept ++ r) none ∙ append-nil kept in
    ∣ IsUtf8-from_ascii kept (subst IsAscii same (is_ascii-canonical c.args.text.now c.requires.ascii)) ∣₁
