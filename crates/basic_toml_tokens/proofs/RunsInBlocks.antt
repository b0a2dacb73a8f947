-- From the run in one block to the run in a text.
use Rattle.std.proofs.Common.{◌≡◌, ℕ, zero, suc, ◌+◌, ◌<◌, ◌≤◌, Bool, true, false, List, [], ◌∷◌, length, get_or, take}
use Rattle.std.proofs.Common.{drop, cond, refl, sym, ap, ◌∙◌, arith, subst}
use lib.Dec.{ltb}
use Rattle.std.specs.List.{prefix_len}
use Rattle.std.proofs.lemmas.Bool.{lt-ltb}
use Rattle.std.proofs.lemmas.List.{drop-drop, get_or-drop, length-drop}
use Rattle.std.proofs.lemmas.List.Sums.{prefix_len-drop_yes, prefix_len-drop_no, prefix_len-drop_all, prefix_len_stops}
use Rattle.basic_toml_tokens.specs.Lanes.{block}

module _ (p : ℕ → Bool) where
  later : (n : ℕ) (x : ℕ) (xs : List ℕ) → prefix_len p (drop (1 + n) (x ∷ xs)) ≡ prefix_len p (drop n xs)
  later n x xs =
      let one : 1 + n ≡ suc n = omega arith in ap (λ (k : ℕ). prefix_len p (drop k (x ∷ xs))) one

  stays : (x : ℕ) (xs : List ℕ) → false ≡ p x → 0 ≡ cond (p x) (1 + prefix_len p xs) 0
  stays x xs is = ap (λ b. cond b (1 + prefix_len p xs) 0) is

  step : (b : Bool) (n : ℕ) (x : ℕ) (xs : List ℕ) → prefix_len p xs ≡ n + prefix_len p (drop n xs) → b ≡ p x
      → cond b (1 + prefix_len p xs) 0 ≡ cond b (1 + n) 0 + prefix_len p (drop (cond b (1 + n) 0) (x ∷ xs))
  step true n x xs e is = omega (arith, e, later n x xs)
  step false n x xs e is = omega (arith, stays x xs is)

  -- the run in a block is the beginning of the run in all
  pub block_first : (n : ℕ) (xs : List ℕ)
      → prefix_len p xs ≡ prefix_len p (take n xs) + prefix_len p (drop (prefix_len p (take n xs)) xs)
  block_first zero xs = omega arith
  block_first (suc n) [] = omega arith
  block_first (suc n) (x ∷ xs) = step (p x) (prefix_len p (take n xs)) x xs (block_first n xs) refl

  ended : (b : Bool) (n m : ℕ) (x : ℕ) (xs : List ℕ) → b ≡ p x → (n < m → prefix_len p (drop n xs) ≡ 0)
      → cond b (1 + n) 0 < suc m → prefix_len p (drop (cond b (1 + n) 0) (x ∷ xs)) ≡ 0
  ended true n m x xs is more within = later n x xs ∙ more (omega (arith, within))
  ended false n m x xs is more within = sym (stays x xs is)

  -- where it ends within the block, it is all
  pub block_ends : (n : ℕ) (xs : List ℕ) → n ≤ length xs → prefix_len p (take n xs) < n
      → prefix_len p (drop (prefix_len p (take n xs)) xs) ≡ 0
  block_ends zero xs room within = absurd (omega (arith, within))
  block_ends (suc n) [] room within = refl
  block_ends (suc n) (x ∷ xs) room within =
      ended (p x) (prefix_len p (take n xs)) n x xs refl (block_ends n xs (omega (arith, room))) within

  bounded : (b : Bool) (n m : ℕ) → n ≤ m → cond b (1 + n) 0 ≤ suc m
  bounded true n m within = omega (arith, within)
  bounded false n m within = omega arith

  pub block_within : (n : ℕ) (xs : List ℕ) → prefix_len p (take n xs) ≤ n
  block_within zero xs = omega arith
  block_within (suc n) [] = omega arith
  block_within (suc n) (x ∷ xs) = bounded (p x) (prefix_len p (take n xs)) n (block_within n xs)

  -- the run in the block at an offset of a text
  module _ (text : List ℕ) (end r : ℕ) (is : r ≡ prefix_len p (block text end)) where
    pub run_within : r ≤ 16
    run_within = subst (λ (n : ℕ). n ≤ 16) (sym is) (block_within 16 (drop end text))

    pub run_on : end + prefix_len p (drop end text) ≡ (end + r) + prefix_len p (drop (end + r) text)
    run_on =
        let split : prefix_len p (drop end text) ≡ r + prefix_len p (drop r (drop end text)) =
        subst (λ (n : ℕ). prefix_len p (drop end text) ≡ n + prefix_len p (drop n (drop end text))) (sym is)
        (block_first 16 (drop end text)) in
        omega (arith, split, ap (prefix_len p) (drop-drop r end text))

    pub run_over : 16 ≤ length (drop end text) → r < 16 → prefix_len p (drop (end + r) text) ≡ 0
    run_over room short =
        ap (prefix_len p) (sym (drop-drop r end text))
        ∙ subst (λ (n : ℕ). prefix_len p (drop n (drop end text)) ≡ 0) (sym is)
        (block_ends 16 (drop end text) room (subst (λ (n : ℕ). n < 16) is short))

  -- one byte more of a run
  pub one_more : (text : List ℕ) (end : ℕ) → end < length text → p (get_or text end 0) ≡ true
      → (end + 1) + prefix_len p (drop (end + 1) text) ≡ end + prefix_len p (drop end text)
  one_more text end within passes = omega (arith, prefix_len-drop_yes p text end 0 within passes)

  -- no byte more
  pub no_more : (text : List ℕ) (end : ℕ) → end < length text → p (get_or text end 0) ≡ false
      → end ≡ end + prefix_len p (drop end text)
  no_more text end within fails = omega (arith, prefix_len-drop_no p text end 0 within fails)

  pub at_the_end : (text : List ℕ) (end : ℕ) → length text ≤ end → end ≡ end + prefix_len p (drop end text)
  at_the_end text end over = omega (arith, prefix_len-drop_all p text end over)

  -- what ends a run does not pass
  pub stops_at : (text : List ℕ) (at r : ℕ) → r ≡ at + prefix_len p (drop at text) → r < length text
      → p (get_or text r 0) ≡ false
  stops_at text at r is within =
      ap (λ (n : ℕ). p (get_or text n 0)) is ∙ ap p (sym (get_or-drop at text (prefix_len p (drop at text)) 0)) ∙
      prefix_len_stops p (drop at text) 0 (omega (arith, length-drop at text))

  -- a run is there where the first byte passes
  pub first_told : (n : ℕ) (xs : List ℕ) → 0 < n → 0 < length xs
      → ltb 0 (prefix_len p (take n xs)) ≡ p (get_or xs 0 0)
  first_told zero xs some within = absurd (omega (arith, some))
  first_told (suc n) [] some within = absurd (omega (arith, within))
  first_told (suc n) (x ∷ xs) some within = go (p x) (prefix_len p (take n xs))
    where
      go : (b : Bool) (m : ℕ) → ltb 0 (cond b (1 + m) 0) ≡ b
      go true m = lt-ltb 0 (1 + m) (omega arith)
      go false m = refl
