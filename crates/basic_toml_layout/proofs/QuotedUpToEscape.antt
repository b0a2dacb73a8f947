-- Bytes between quotes, up to the first that does not stand for itself.
use Rattle.std.proofs.Common.{◌≡◌, ℕ, zero, suc, ◌+◌, ◌-◌, ◌<◌, ◌≤◌, List, [], ◌∷◌, ◌++◌, true, false, length}
use Rattle.std.proofs.Common.{get_or, take, drop, refl, ◌∙◌, ap, subst, arith, append_assoc, append-nil, add-one}
use Rattle.std.specs.Prelude.{◌==◌, decimal}
use Rattle.std.proofs.lemmas.Bool.Decides.{nat_tests}
use Rattle.std.proofs.lemmas.Str.{IsCharBoundary-after_ascii}
use Rattle.std.specs.Str.{IsUtf8, IsCharBoundary}
use Rattle.std.specs.List.{list_all}
use Rattle.basic_toml_layout.specs.Texts.{needs_escape, is_bare, is_bare_key, quoted_byte, quoted_bytes, quoted, comma}
use Rattle.basic_toml_layout.specs.Texts.{more_numbers, written_numbers}

pub quoted_byte_plain : (b : ℕ) → needs_escape b ≡ false → quoted_byte b ≡ b ∷ []
quoted_byte_plain b p = grind (arith, nat_tests)

below_128 : (b : ℕ) → needs_escape b ≡ true → b < 128
below_128 b p = grind (arith, nat_tests)

pub quoted_bytes_plain : (bs : List ℕ) → ((k : ℕ) → k < length bs → needs_escape (get_or bs k 0) ≡ false)
    → quoted_bytes bs ≡ bs
quoted_bytes_plain [] p = refl
quoted_bytes_plain (b ∷ bs) p =
    rw (quoted_byte_plain b (p 0 (omega arith)), quoted_bytes_plain bs (λ k lt. p (suc k) (omega arith))) refl

quoted_bytes_front : (bs : List ℕ) (i : ℕ) → i < length bs → ((k : ℕ) → k < i → needs_escape (get_or bs k 0) ≡ false)
    → quoted_bytes (take (suc i) bs) ≡ take i bs ++ quoted_byte (get_or bs i 0)
quoted_bytes_front [] i lt p = absurd (omega arith)
quoted_bytes_front (b ∷ bs) zero lt p = append-nil (quoted_byte b)
quoted_bytes_front (b ∷ bs) (suc i) lt p =
    rw (quoted_byte_plain b (p 0 (omega arith)))
    (ap (λ z. b ∷ z) (quoted_bytes_front bs i (omega arith) (λ k lt'. p (suc k) (omega arith))))

-- after some bytes, bytes that stand for themselves up to one that does not
pub quoted_bytes_run : (bs : List ℕ) (n m i : ℕ) → i ≡ n + m → i < length bs
    → ((k : ℕ) → n ≤ k → k < i → needs_escape (get_or bs k 0) ≡ false)
    → quoted_bytes (take (suc i) bs) ≡ quoted_bytes (take n bs) ++ (take m (drop n bs) ++ quoted_byte (get_or bs i 0))
quoted_bytes_run [] n m i e lt p = absurd (omega arith)
quoted_bytes_run (b ∷ bs) zero m i e lt p = let same : m ≡ i = omega arith in
    rw same (quoted_bytes_front (b ∷ bs) i lt (λ k lt'. p k (omega arith) lt'))
quoted_bytes_run (b ∷ bs) (suc n) m zero e lt p = absurd (omega arith)
quoted_bytes_run (b ∷ bs) (suc n) m (suc i) e lt p =
    rw (quoted_bytes_run bs n m i (omega arith) (omega arith) (λ k le lt'. p (suc k) (omega arith) (omega arith)))
    (simp append_assoc)

-- after some bytes, bytes that stand for themselves up to the end
pub quoted_bytes_rest : (bs : List ℕ) (n : ℕ)
    → ((k : ℕ) → n ≤ k → k < length bs → needs_escape (get_or bs k 0) ≡ false)
    → quoted_bytes bs ≡ quoted_bytes (take n bs) ++ drop n bs
quoted_bytes_rest [] zero p = refl
quoted_bytes_rest [] (suc n) p = refl
quoted_bytes_rest (b ∷ bs) zero p = quoted_bytes_plain (b ∷ bs) (λ k lt. p k (omega arith) lt)
quoted_bytes_rest (b ∷ bs) (suc n) p =
    rw (quoted_bytes_rest bs n (λ k le lt'. p (suc k) (omega arith) (omega arith))) (simp append_assoc)

more_numbers_push : (ns : List ℕ) (n : ℕ) → more_numbers (ns ++ (n ∷ [])) ≡ more_numbers ns ++ (comma ++ decimal n)
more_numbers_push [] n = ap (λ z. comma ++ z) (append-nil (decimal n))
more_numbers_push (m ∷ ns) n = rw (more_numbers_push ns n) (simp append_assoc)

pub written_numbers_first : (n : ℕ) → written_numbers (n ∷ []) ≡ decimal n
written_numbers_first n = append-nil (decimal n)

pub written_numbers_push : (ns : List ℕ) (n : ℕ) → 0 < length ns
    → written_numbers (ns ++ (n ∷ [])) ≡ written_numbers ns ++ (comma ++ decimal n)
written_numbers_push [] n lt = absurd (omega arith)
written_numbers_push (m ∷ ns) n lt = rw (more_numbers_push ns n) (simp append_assoc)

take_more : (ns : List ℕ) (i : ℕ) → i < length ns → take (suc i) ns ≡ take i ns ++ (get_or ns i 0 ∷ [])
take_more [] i lt = absurd (omega arith)
take_more (n ∷ ns) zero lt = refl
take_more (n ∷ ns) (suc i) lt = ap (λ z. n ∷ z) (take_more ns i (omega arith))

length_take : (ns : List ℕ) (i : ℕ) → 0 < i → i < length ns → 0 < length (take i ns)
length_take [] i p lt = absurd (omega arith)
length_take (n ∷ ns) zero p lt = absurd (omega arith)
length_take (n ∷ ns) (suc i) p lt = omega arith

pub written_numbers_more : (ns : List ℕ) (i : ℕ) → i < length ns → 0 < i
    → written_numbers (take (i + 1) ns) ≡ written_numbers (take i ns) ++ (comma ++ decimal (get_or ns i 0))
written_numbers_more ns i lt p =
    rw add-one (ap written_numbers (take_more ns i lt) ∙
    written_numbers_push (take i ns) (get_or ns i 0) (length_take ns i p lt))

pub is_bare_key_some : (bs : List ℕ) → (length bs == 0) ≡ false → is_bare_key bs ≡ list_all is_bare bs
is_bare_key_some [] e = absurd (cc)
is_bare_key_some (b ∷ bs) e = refl

-- after a byte that does not stand for itself
pub boundary_after : (bs cs : List ℕ) (i : ℕ) → cs ≡ bs → IsUtf8 bs → i < length bs
    → needs_escape (get_or cs i 0) ≡ true → IsCharBoundary bs (i + 1)
boundary_after bs cs i e u lt p =
    IsCharBoundary-after_ascii bs i u lt
    (below_128 (get_or bs i 0) (subst (λ z. needs_escape (get_or z i 0) ≡ true) e p))

-- a string up to a byte that does not stand for itself, and that byte
pub quoted_more : (init t t' t'' bs cs run : List ℕ) (n i : ℕ) → cs ≡ bs → n ≤ i → i < length bs
    → ((k : ℕ) → n ≤ k → k < i → needs_escape (get_or cs k 0) ≡ false) → t ≡ init ++ quoted_bytes (take n bs)
    → run ≡ take (i - n) (drop n bs) → t' ≡ t ++ run → t'' ≡ t' ++ quoted_byte (get_or cs i 0) → t'' ≡ init
    ++ quoted_bytes (take (i + 1) bs)
quoted_more init t t' t'' bs cs run n i e le lt p q r u v =
    rw (
      v,
      u,
      r,
      q,
      e,
      add-one,
      quoted_bytes_run bs n (i - n) i (omega arith) lt
          (subst (λ z. (k : ℕ) → n ≤ k → k < i → needs_escape (get_or z k 0) ≡ false) e p),
    ) (simp append_assoc)

-- the rest of a string
pub quoted_end : (init t t' bs cs run : List ℕ) (n i : ℕ) → cs ≡ bs → length bs ≤ i
    → ((k : ℕ) → n ≤ k → k < i → needs_escape (get_or cs k 0) ≡ false) → t ≡ init ++ quoted_bytes (take n bs)
    → run ≡ drop n bs → t' ≡ t ++ run → t' ≡ init ++ quoted_bytes bs
quoted_end init t t' bs cs run n i e le p q r u =
    rw (
      u,
      r,
      q,
      quoted_bytes_rest bs n
          (λ k ge lt. subst (λ z. needs_escape (get_or z k 0) ≡ false) e (p k ge (omega arith))),
    ) (simp append_assoc)

-- the quotes around it
pub quoted_whole : (start t t' t'' bs : List ℕ) → t ≡ start ++ (34 ∷ []) → t' ≡ t ++ quoted_bytes bs
    → t'' ≡ t' ++ (34 ∷ []) → t'' ≡ start ++ quoted bs
quoted_whole start t t' t'' bs o u v = rw (v, u, o) (simp append_assoc)

pub numbers_first : (init t t' t'' : List ℕ) (ns : List ℕ) (i : ℕ) → i < length ns → i ≡ 0 → t ≡ init
    ++ written_numbers (take i ns) → t' ≡ t → t'' ≡ t' ++ decimal (get_or ns i 0) → t'' ≡ init
    ++ written_numbers (take (i + 1) ns)
numbers_first init t t' t'' [] i lt z p q r = absurd (omega arith)
numbers_first init t t' t'' (n ∷ ns) zero lt z p q r = rw (r, q, p, written_numbers_first n) (simp append-nil)
numbers_first init t t' t'' (n ∷ ns) (suc i) lt z p q r = absurd (omega arith)

pub numbers_next : (init t t' t'' : List ℕ) (ns : List ℕ) (i : ℕ) → i < length ns → 0 < i → t ≡ init
    ++ written_numbers (take i ns) → t' ≡ t ++ comma → t'' ≡ t' ++ decimal (get_or ns i 0) → t'' ≡ init
    ++ written_numbers (take (i + 1) ns)
numbers_next init t t' t'' ns i lt z p q r = rw (r, q, p, written_numbers_more ns i lt z) (simp append_assoc)
