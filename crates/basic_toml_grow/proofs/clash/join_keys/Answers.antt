use Rattle.std.proofs.Common.{◌≡◌, ℕ, ◌<◌, ◌+◌, List, [], ◌∷◌, ◌++◌, refl, rules, arith, length, take}
use Rattle.std.proofs.Common.{append_assoc, length-take}
use Rattle.std.specs.List.{join_with_byte}
use Rattle.std.proofs.lemmas.List.{map_push, take_more}
use Rattle.basic_toml_tokens.specs.Ascii.{period}
use Rattle.basic_toml_read.specs.declared.section.Key.{Key}
use Rattle.basic_toml_read.specs.SectionView.{header_texts}
use Rattle.basic_toml_grow.proofs.clash.join_keys.Goals as goal
use Rattle.basic_toml_grow.proofs.clash.join_keys.Goals.{then-at-gt0+in_ok-push, else-at-gt0}

-- keys joined by periods, and one more
joined_more : (keys : List Key) (k : List ℕ) → 0 < length keys → join_with_byte period (header_texts keys ++ k ∷ [])
    ≡ join_with_byte period (header_texts keys) ++ period ∷ k
joined_more [] k some = absurd (omega arith)
joined_more (j ∷ []) k some = refl
joined_more (j ∷ l ∷ keys) k some = rw (joined_more (l ∷ keys) k (omega arith), append_assoc) refl

pub loop-at-preserved : goal.loop-at-preserved
loop-at-preserved c =
    let keys = c.args.keys.now in
    let n = c.loop-at.at in
    let before = take n keys in
    let k = c.as_str.result.now in
    let more : header_texts (take (n + 1) keys) ≡ header_texts before ++ k ∷ [] =
    rw (take_more keys n c.index-keys-at.result c.loop-at-test.true, map_push, map_push, c.as_str.ensures.value) refl in
    rw (more, c.in_ok-push_str.ensures.bytes) (elim c.if-at-gt0.branch [
      | then-at-gt0+in_ok-push w ↦
          let some : 0 < length before = omega (arith, w.if-at-gt0.true, c.loop-at-test.true, length-take n keys) in
          rw (w.name-is, w.in_ok-push.ensures.bytes, c.loop-at.invariant, joined_more before k some, append_assoc)
          (search rules)
      | else-at-gt0 w ↦
          let none : n ≡ 0 = omega (arith, w.if-at-gt0.false) in
          rw (w.name-is, c.loop-at.invariant, none) refl
    ])
