-- Slots in leaves: one slot more, a leaf split in two, and leaves as they stand in memory.
use Rattle.std.proofs.Common.{◌≡◌, ℕ, zero, suc, ◌+◌, ◌<◌, Bool, true, nat_lt, List, [], ◌∷◌, ◌++◌, length, map}
use Rattle.std.proofs.Common.{take, drop, get_or, set, refl, sym, ap, ◌∙◌, append_assoc, drop-cons, add-one, Vec}
use Rattle.std.proofs.Common.{arith}
use Rattle.std.specs.List.{list_all, insert}
use Rattle.std.proofs.lemmas.Bool.{ltb-true, lt-ltb, and_parts}
use Rattle.std.proofs.lemmas.List.{take-append-drop, map-append, take-map, drop-map, get_or-map, length-take}
use Rattle.std.proofs.lemmas.List.{length-drop, length-append, drop_all, map-set}
use Rattle.std.proofs.Math.Seq.{map-set_same}
use Rattle.std.proofs.lemmas.List.Folds.{list_all-append}
use Rattle.std.specs.declared.alloc.Global.{Global}
use Rattle.basic_toml_index.specs.Index.{joined, before, after, with_slot, are_filled, leaves_of, leaf_at}
use Rattle.basic_toml_index.specs.declared.leaves.Slot.{Slot}

module _ {A : Type 0} where
  abbrev pub part_at : List (List A) → ℕ → List A
  part_at leaves at = get_or leaves at []

  -- leaves at a place: what stands before it and after it

  joined-split : (leaves : List (List A)) (at : ℕ) → at < length leaves → joined leaves ≡ joined (take at leaves)
      ++ (part_at leaves at ++ joined (drop (suc at) leaves))
  joined-split [] at within = absurd (omega arith)
  joined-split (l ∷ ls) zero within = refl
  joined-split (l ∷ ls) (suc at) within =
      ap (λ row. l ++ row) (joined-split ls at (omega arith)) ∙
      sym (append_assoc l (joined (take at ls)) (part_at ls at ++ joined (drop (suc at) ls)))

  four : (a b c d : List A) → a ++ ((b ++ c) ++ d) ≡ (a ++ b) ++ (c ++ d)
  four a b c d = simp append_assoc

  pub located : (leaves : List (List A)) (at index : ℕ) → at < length leaves → joined leaves ≡ before leaves at index
      ++ after leaves at index
  located leaves at index within =
      let leaf = part_at leaves at in
      joined-split leaves at within
      ∙ ap (λ row. joined (take at leaves) ++ (row ++ joined (drop (suc at) leaves)))
      (sym (take-append-drop index leaf))
      ∙ four (joined (take at leaves)) (take index leaf) (drop index leaf) (joined (drop (suc at) leaves))

  pub at_place : (leaves : List (List A)) (at index : ℕ) (d : A) → at < length leaves
      → index < length (part_at leaves at) →
      joined leaves ≡ before leaves at index ++ get_or (part_at leaves at) index d
      ∷ (drop (suc index) (part_at leaves at) ++ joined (drop (suc at) leaves))
  at_place leaves at index d within in_leaf =
      located leaves at index within ∙
      ap (λ row. before leaves at index ++ (row ++ joined (drop (suc at) leaves)))
      (drop-cons (part_at leaves at) index d in_leaf)

  -- a slot more in a leaf

  pub joined-with_slot : (leaves : List (List A)) (at index : ℕ) (slot : A) → at < length leaves
      → joined (with_slot leaves at index slot) ≡ before leaves at index ++ slot ∷ after leaves at index
  joined-with_slot [] at index slot within = absurd (omega arith)
  joined-with_slot (l ∷ ls) zero index slot within = append_assoc (take index l) (slot ∷ drop index l) (joined ls)
  joined-with_slot (l ∷ ls) (suc at) index slot within =
      ap (λ row. l ++ row) (joined-with_slot ls at index slot (omega arith))
      ∙ sym (append_assoc l (before ls at index) (slot ∷ after ls at index))
      ∙ ap (λ row. row ++ slot ∷ after ls at index)
      (sym (append_assoc l (joined (take at ls)) (take index (part_at ls at))))

  filled-insert : (leaf : List A) (index : ℕ) (slot : A) → nat_lt 0 (length (insert leaf index slot)) ≡ true
  filled-insert leaf index slot =
      lt-ltb 0 (length (insert leaf index slot))
      (rw (length-append (take index leaf) (slot ∷ drop index leaf)) (omega arith))

  pub are_filled-with_slot : (leaves : List (List A)) (at index : ℕ) (slot : A) → are_filled leaves ≡ true
      → are_filled (with_slot leaves at index slot) ≡ true
  are_filled-with_slot [] at index slot filled = refl
  are_filled-with_slot (l ∷ ls) zero index slot filled =
      rw (filled-insert l index slot) (and_parts (nat_lt 0 (length l)) (are_filled ls) filled).1
  are_filled-with_slot (l ∷ ls) (suc at) index slot filled =
      let parts = and_parts (nat_lt 0 (length l)) (are_filled ls) filled in
      rw parts.0 (are_filled-with_slot ls at index slot parts.1)

  -- a leaf split in two

  abbrev pub with_split : List (List A) → ℕ → ℕ → List (List A)
  with_split leaves at middle =
      insert (set leaves at (take middle (part_at leaves at))) (suc at) (drop middle (part_at leaves at))

  pub joined-with_split : (leaves : List (List A)) (at middle : ℕ) → at < length leaves
      → joined (with_split leaves at middle) ≡ joined leaves
  joined-with_split [] at middle within = absurd (omega arith)
  joined-with_split (l ∷ ls) zero middle within =
      sym (append_assoc (take middle l) (drop middle l) (joined ls)) ∙
      ap (λ part. part ++ joined ls) (take-append-drop middle l)
  joined-with_split (l ∷ ls) (suc at) middle within =
      ap (λ row. l ++ row) (joined-with_split ls at middle (omega arith))

  pub are_filled-with_split : (leaves : List (List A)) (at middle : ℕ) → at < length leaves → 0 < middle
      → middle < length (part_at leaves at) → are_filled leaves ≡ true → are_filled (with_split leaves at middle) ≡ true
  are_filled-with_split [] at middle within low high filled = absurd (omega arith)
  are_filled-with_split (l ∷ ls) zero middle within low high filled =
      rw (
        lt-ltb 0 (length (take middle l)) (rw length-take (omega arith)),
        lt-ltb 0 (length (drop middle l)) (rw length-drop (omega arith)),
      )
      (and_parts (nat_lt 0 (length l)) (are_filled ls) filled).1
  are_filled-with_split (l ∷ ls) (suc at) middle within low high filled =
      let parts = and_parts (nat_lt 0 (length l)) (are_filled ls) filled in
      rw parts.0 (are_filled-with_split ls at middle (omega arith) low high parts.1)

  -- nothing stands after the end
  pub after_end : (leaves : List (List A)) (at index : ℕ) → at + 1 ≡ length leaves
      → index ≡ length (part_at leaves at) → after leaves at index ≡ []
  after_end leaves at index last end =
      rw (
        end,
        drop_all (length (part_at leaves at)) (part_at leaves at) (omega arith),
        drop_all (suc at) leaves (omega arith),
      ) refl

  -- what a leaf has of the whole

  pub filled_at : (leaves : List (List A)) (at : ℕ) → are_filled leaves ≡ true → at < length leaves
      → 0 < length (part_at leaves at)
  filled_at [] at filled within = absurd (omega arith)
  filled_at (l ∷ ls) zero filled within =
      ltb-true 0 (length l) (and_parts (nat_lt 0 (length l)) (are_filled ls) filled).0
  filled_at (l ∷ ls) (suc at) filled within =
      filled_at ls at (and_parts (nat_lt 0 (length l)) (are_filled ls) filled).1 (omega arith)

  pub all_in_leaf : (test : A → Bool) (leaves : List (List A)) (at : ℕ) → list_all test (joined leaves) ≡ true
      → at < length leaves → list_all test (part_at leaves at) ≡ true
  all_in_leaf test [] at all within = absurd (omega arith)
  all_in_leaf test (l ∷ ls) zero all within =
      (and_parts (list_all test l) (list_all test (joined ls)) (sym (list_all-append test l (joined ls)) ∙ all)).0
  all_in_leaf test (l ∷ ls) (suc at) all within =
      all_in_leaf test ls at (and_parts (list_all test l) (list_all test (joined ls))
      (sym (list_all-append test l (joined ls)) ∙ all)).1 (omega arith)

  pub all_at : (test : A → Bool) (leaf : List A) (i : ℕ) (d : A) → list_all test leaf ≡ true → i < length leaf
      → test (get_or leaf i d) ≡ true
  all_at test [] i d all within = absurd (omega arith)
  all_at test (s ∷ ss) zero d all within = (and_parts (test s) (list_all test ss) all).0
  all_at test (s ∷ ss) (suc i) d all within =
      all_at test ss i d (and_parts (test s) (list_all test ss) all).1 (omega arith)

module _ {A B : Type 0} (f : A → B) where
  -- what is seen of the slots

  pub joined-map : (leaves : List (List A)) → joined (map (map f) leaves) ≡ map f (joined leaves)
  joined-map [] = refl
  joined-map (l ∷ ls) = ap (λ row. map f l ++ row) (joined-map ls) ∙ sym (map-append f l (joined ls))

  pub before-map : (leaves : List (List A)) (at index : ℕ) → at < length leaves
      → before (map (map f) leaves) at index ≡ map f (before leaves at index)
  before-map [] at index within = absurd (omega arith)
  before-map (l ∷ ls) zero index within = take-map f index l
  before-map (l ∷ ls) (suc at) index within =
      append_assoc (map f l) (joined (take at (map (map f) ls))) (take index (get_or (map (map f) ls) at []))
      ∙ ap (λ row. map f l ++ row) (before-map ls at index (omega arith))
      ∙ sym (map-append f l (before ls at index))
      ∙ ap (map f) (sym (append_assoc l (joined (take at ls)) (take index (part_at ls at))))

  pub after-map : (leaves : List (List A)) (at index : ℕ) → at < length leaves
      → after (map (map f) leaves) at index ≡ map f (after leaves at index)
  after-map [] at index within = absurd (omega arith)
  after-map (l ∷ ls) zero index within =
      rw (drop-map f index l, joined-map ls) (sym (map-append f (drop index l) (joined ls)))
  after-map (l ∷ ls) (suc at) index within = after-map ls at index (omega arith)

-- leaves in memory

pub leaf_at-read : (leaves : List (Vec Slot Global)) (at : ℕ) (leaf : Vec Slot Global) → at < length leaves
    → leaf ≡ get_or leaves at leaf → leaf_at (leaves_of leaves) at ≡ leaf.items
leaf_at-read leaves at leaf within read = get_or-map (λ l. l.items) leaves at leaf [] within ∙
    ap (λ l. l.items) (sym read)

pub leaves_of-same : (leaves : List (Vec Slot Global)) (at : ℕ) (leaf next : Vec Slot Global)
    → leaf ≡ get_or leaves at leaf → next.items ≡ leaf.items → leaves_of (set leaves at next) ≡ leaves_of leaves
leaves_of-same leaves at leaf next read same =
    map-set_same (λ l. l.items) leaves at next leaf (same ∙ ap (λ l. l.items) read)

pub leaves_of-insert : (leaves : List (Vec Slot Global)) (at : ℕ) (leaf : Vec Slot Global)
    → leaves_of (insert leaves at leaf) ≡ insert (leaves_of leaves) at leaf.items
leaves_of-insert leaves at leaf =
    map-append (λ l. l.items) (take at leaves) (leaf ∷ drop at leaves)
    ∙ rw (← take-map (λ l. l.items) at leaves, ← drop-map (λ l. l.items) at leaves) refl

pub leaves_of-split : (leaves : List (Vec Slot Global)) (at middle : ℕ) (leaf left right : Vec Slot Global)
    → at < length leaves → leaf ≡ get_or leaves at leaf → left.items ≡ take middle leaf.items
    → right.items ≡ drop middle leaf.items →
    leaves_of (insert (set leaves at left) (at + 1) right) ≡ with_split (leaves_of leaves) at middle
leaves_of-split leaves at middle leaf left right within read left_is right_is =
    leaves_of-insert (set leaves at left) (at + 1) right
    ∙ rw (add-one, map-set (λ l. l.items) leaves at left, left_is, right_is, leaf_at-read leaves at leaf within read)
    refl
