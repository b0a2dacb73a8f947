use Rattle.std.proofs.Common.{◌≡◌, ◌<◌, ◌++◌, List, [], ◌∷◌, length, drop, arith, ap, ap₂, sym, ◌∙◌, subst, append_assoc, add-zero}
use Rattle.std.proofs.lemmas.Bool.{lt-ltb, le-ltb}
use Rattle.std.proofs.lemmas.List.{drop_all, take_rest}
use Rattle.basic_toml_index.specs.Index.{slot_at}
use Rattle.basic_toml_index.specs.SlotOrder.{IsRun}
use Rattle.basic_toml_index.specs.declared.leaves.Slot.{Slot}
use Rattle.basic_toml_index.proofs.RunsMerged.{left_taken, right_taken, lower_ending, lower_text, higher_text, sound_at}
use Rattle.basic_toml_index.proofs.RunsMerged.{run_without_left, run_without_right}
use Rattle.basic_toml_index.proofs.leaves.sorted.interleaved.Goals as goal
use Rattle.basic_toml_index.proofs.leaves.sorted.interleaved.Goals.{then-is_left, else-is_left}
use Rattle.basic_toml_index.proofs.leaves.sorted.interleaved.Goals.{then-loop-i-test+else-j-right}
use Rattle.basic_toml_index.proofs.leaves.sorted.interleaved.Goals.{else-loop-i-test}

pub loop-i-preserved-in-Less : goal.loop-i-preserved-in-Less
loop-i-preserved-in-Less g c =
    let keys = g.T.Texts.texts c.args.texts.now in
    let left = c.args.left.now in
    let right = c.args.right.now in
    let i = c.loop-i.i in
    let j = c.loop-i.j in
    let low_i : i < length left = c.loop-i-test.true in
    let low_j : j < length right = c.if-j-right.true in
    record {
      left = omega (arith, low_i);
      right = omega (arith, low_j);
      now = left_taken keys (left ++ right) c.loop-i.run.items c.push_reserved.new.self.items left right i j low_i low_j
          c.loop-i.invariant.now c.push_reserved.ensures.items
          (lower_text keys (slot_at left i) (slot_at right j) (sound_at keys left i c.requires.left.sound low_i)
          (sound_at keys right j c.requires.right.sound low_j) c.text.result.now c.text-then-a-b.result.now
          c.text.ensures c.text-then-a-b.ensures c.if-a-b.true (sym c.cmp.ensures ∙ c.in-Less.is));
      room = omega (arith, low_i, c.push_reserved.ensures.len, c.push_reserved.ensures.capacity, c.loop-i.invariant.room);
    }

pub loop-i-preserved-in-Greater : goal.loop-i-preserved-in-Greater
loop-i-preserved-in-Greater g c =
    let keys = g.T.Texts.texts c.args.texts.now in
    let left = c.args.left.now in
    let right = c.args.right.now in
    let i = c.loop-i.i in
    let j = c.loop-i.j in
    let low_i : i < length left = c.loop-i-test.true in
    let low_j : j < length right = c.if-j-right.true in
    record {
      left = omega (arith, low_i);
      right = omega (arith, low_j);
      now = right_taken keys (left ++ right) c.loop-i.run.items c.push_reserved-in-Greater.new.self.items left right i j
          low_i low_j c.loop-i.invariant.now c.push_reserved-in-Greater.ensures.items
          (higher_text keys (slot_at left i) (slot_at right j) (sound_at keys left i c.requires.left.sound low_i)
          (sound_at keys right j c.requires.right.sound low_j) c.text.result.now c.text-then-a-b.result.now
          c.text.ensures c.text-then-a-b.ensures c.if-a-b.true (sym c.cmp.ensures ∙ c.in-Greater.is));
      room = omega (arith, low_j, c.push_reserved-in-Greater.ensures.len, c.push_reserved-in-Greater.ensures.capacity, c.loop-i.invariant.room);
    }

pub loop-i-preserved : goal.loop-i-preserved
loop-i-preserved g c =
    let keys = g.T.Texts.texts c.args.texts.now in
    let left = c.args.left.now in
    let right = c.args.right.now in
    let i = c.loop-i.i in
    let j = c.loop-i.j in
    let low_i : i < length left = c.loop-i-test.true in
    let low_j : j < length right = c.if-j-right.true in
    let first = slot_at left i in
    let second = slot_at right j in
    let out = c.loop-i.run.items in
    let next = c.push_reserved-else-a-b.new.self.items in
    let sound_first = sound_at keys left i c.requires.left.sound low_i in
    let sound_second = sound_at keys right j c.requires.right.sound low_j in
    elim c.if-is_left.branch [
      | then-is_left w ↦
          rw (lt-ltb first.ending second.ending w.if-is_left.true, add-zero j) (record {
            left = omega (arith, low_i);
            right = omega (arith, low_j);
            now = left_taken keys (left ++ right) out next left right i j low_i low_j c.loop-i.invariant.now
                (c.push_reserved-else-a-b.ensures.items ∙ ap (λ p. out ++ p.now ∷ []) w.push_reserved-is)
                (lower_ending keys first second sound_first sound_second w.if-is_left.true);
            room = omega (arith, low_i, c.push_reserved-else-a-b.ensures.len, c.push_reserved-else-a-b.ensures.capacity, c.loop-i.invariant.room);
          })
      | else-is_left w ↦
          rw (le-ltb first.ending second.ending w.if-is_left.false, add-zero i) (record {
            left = omega (arith, low_i);
            right = omega (arith, low_j);
            now = right_taken keys (left ++ right) out next left right i j low_i low_j c.loop-i.invariant.now
                (c.push_reserved-else-a-b.ensures.items ∙ ap (λ p. out ++ p.now ∷ []) w.push_reserved-is)
                (lower_ending keys second first sound_second sound_first (omega (arith, w.if-is_left.false, c.if-a-b.false)));
            room = omega (arith, low_j, c.push_reserved-else-a-b.ensures.len, c.push_reserved-else-a-b.ensures.capacity, c.loop-i.invariant.room);
          })
    ]

-- at the end one of the runs is used up, and the rest of the other follows
pub returns-clause-run : goal.returns-clause-run
returns-clause-run g c =
    let keys = g.T.Texts.texts c.args.texts.now in
    let left = c.args.left.now in
    let right = c.args.right.now in
    let out = c.loop-i.run.items in
    let now = c.loop-i.invariant.now in
    let all : c.extend_from_slice-2.new.self.items ≡ out ++ (drop c.loop-i.i left ++ drop c.loop-i.j right) =
    c.in_ok-extend_from_slice-2.ensures.items
    ∙ ap₂ (λ o r. o ++ r) (c.in_ok-extend_from_slice.ensures.items ∙ ap (λ r. out ++ r) (take_rest left c.loop-i.i))
    (take_rest right c.loop-i.j)
    ∙ append_assoc out (drop c.loop-i.i left) (drop c.loop-i.j right) in
    elim c.loop-i-test.branch [
      | then-loop-i-test+else-j-right w ↦
          subst (λ (r : List Slot). IsRun keys r) (sym all)
          (run_without_right keys left right out (drop c.loop-i.i left) (drop c.loop-i.j right) c.requires.left c.requires.right now
          (drop_all c.loop-i.j right (omega (arith, w.if-j-right.false))))
      | else-loop-i-test w ↦
          subst (λ (r : List Slot). IsRun keys r) (sym all)
          (run_without_left keys left right out (drop c.loop-i.i left) (drop c.loop-i.j right) c.requires.left c.requires.right now
          (drop_all c.loop-i.i left (omega (arith, w.loop-i-test.false))))
    ]
