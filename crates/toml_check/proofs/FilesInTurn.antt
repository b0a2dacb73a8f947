-- A run over files, one after another.
use Rattle.std.proofs.Common.{◌≡◌, ◌⊎◌, inl, inr, ℕ, zero, suc, ◌+◌, ◌<◌, max, Bool, List, [], ◌∷◌, length, drop, get_or, map}
use Rattle.std.proofs.Common.{Result, Ok, Err, IfOk, Option, Some, None, IfSome, refl, sym, ◌∙◌, ap, subst, arith, string_bytes, String, Global}
use Rattle.std.specs.Io.KnownBytes.{Appends, Keeps}
use Rattle.toml_streams.specs.Streams.{AppendsFront}
use Rattle.toml_check.specs.declared.run.Verdict.{Verdict}
use Rattle.toml_check.specs.Run.{IsUnread, IsVerdict, IsSaid, ChecksAll, none, next, not_written, no_memory}

-- a file whose bytes are known
pub said_of_known : (quiet : Bool) (name bytes text : List ℕ) (known : Option (List ℕ)) (status : ℕ)
    → IfSome known (λ b. bytes ≡ b) → IsUnread name status text ⊎ IsVerdict quiet name bytes status text
    → IsSaid quiet name known status text
said_of_known quiet name bytes text known status same (inl unread) = inl unread
said_of_known quiet name bytes text None status same (inr verdict) = inr tt
said_of_known quiet name bytes text (Some b) status same (inr verdict) =
    inr (subst (λ (x : List ℕ). IsVerdict quiet name x status text) same verdict)

-- a file that could not be read
pub said_unread : {E : Type 0} (quiet : Bool) (name : List ℕ) (known : Option (List ℕ)) (result : Result Verdict E)
    → IfOk result (λ v. IsUnread name v.status (string_bytes v.text))
    → IfOk result (λ v. IsSaid quiet name known v.status (string_bytes v.text))
said_unread quiet name known (Ok v) is = inl is
said_unread quiet name known (Err e) is = tt

max_assoc : (a b c : ℕ) → max (max a b) c ≡ max a (max b c)
max_assoc a b c = omega arith

drop_at : (names : List (String Global)) (i : ℕ) (name : String Global) → i < length names
    → name ≡ get_or names i name → map string_bytes (drop i names)
    ≡ string_bytes name ∷ map string_bytes (drop (i + 1) names)
drop_at [] i name lt read = absurd (omega arith)
drop_at (x ∷ xs) zero name lt read = ap (λ (n : String Global). string_bytes n ∷ map string_bytes xs) (sym read)
drop_at (x ∷ xs) (suc i) name lt read =
    let same : suc (i + 1) ≡ suc i + 1 = omega arith in
    drop_at xs i name (omega arith) read
    ∙ ap (λ (n : ℕ). string_bytes name ∷ map string_bytes (drop n (x ∷ xs))) same

module _ (quiet : Bool) (bytes : List ℕ → Option (List ℕ)) (names : List (String Global)) where
  -- what a run over the files from one on ends as, the whole run ends as, with the highest status so far
  abbrev pub IsPartOf : ℕ → Option (List ℕ) → Option (List ℕ) → ℕ → Type 0
  IsPartOf i old mid status =
      (new : Option (List ℕ)) (others : ℕ) → ChecksAll quiet bytes (map string_bytes (drop i names)) mid new others
      → ChecksAll quiet bytes (map string_bytes names) old new (max status others)

  module _ (i : ℕ) (name : String Global) (lt : i < length names) (read : name ≡ get_or names i name)
      (old mid : Option (List ℕ)) (status : ℕ) (whole : IsPartOf i old mid status) where
    from_here : (new : Option (List ℕ)) (others : ℕ)
        → ChecksAll quiet bytes (string_bytes name ∷ map string_bytes (drop (i + 1) names)) mid new others
        → ChecksAll quiet bytes (map string_bytes names) old new (max status others)
    from_here new others run =
        whole new others (subst (λ (ns : List (List ℕ)). ChecksAll quiet bytes ns mid new others)
        (sym (drop_at names i name lt read)) run)

    -- what was said of the file, by its name and by what was written
    said_of : (own : ℕ) (shown text piece : List ℕ) → IsSaid quiet shown (bytes shown) own text
        → shown ≡ string_bytes name → piece ≡ text
        → IsSaid quiet (string_bytes name) (bytes (string_bytes name)) own piece
    said_of own shown text piece said named whole =
        subst (λ (t : List ℕ). IsSaid quiet (string_bytes name) (bytes (string_bytes name)) own t) (sym whole)
        (subst (λ (n : List ℕ). IsSaid quiet n (bytes n) own text) named said)

    pub one_more : (own : ℕ) (shown text piece : List ℕ) (after : Option (List ℕ)) (higher : ℕ)
        → IsSaid quiet shown (bytes shown) own text → shown ≡ string_bytes name → piece ≡ text
        → Appends mid after piece → higher ≡ max status own → IsPartOf (i + 1) old after higher
    one_more own shown text piece after higher said named whole put is new others run =
        subst (λ (n : ℕ). ChecksAll quiet bytes (map string_bytes names) old new n)
        (sym (ap (λ n. max n others) is ∙ max_assoc status own others))
        (from_here new (max own others) (next (said_of own shown text piece said named whole) put run))

    pub stopped_writing : (own : ℕ) (shown text piece : List ℕ) (after : Option (List ℕ)) (higher : ℕ)
        → IsSaid quiet shown (bytes shown) own text → shown ≡ string_bytes name → piece ≡ text
        → AppendsFront mid after piece → higher ≡ max status 3
        → ChecksAll quiet bytes (map string_bytes names) old after higher
    stopped_writing own shown text piece after higher said named whole front is =
        subst (λ (n : ℕ). ChecksAll quiet bytes (map string_bytes names) old after n) (sym is)
        (from_here after 3 (not_written (said_of own shown text piece said named whole) front))

    pub stopped_for_memory : (after : Option (List ℕ)) (higher : ℕ) → Keeps mid after → higher ≡ max status 3
        → ChecksAll quiet bytes (map string_bytes names) old after higher
    stopped_for_memory after higher kept is =
        subst (λ (n : ℕ). ChecksAll quiet bytes (map string_bytes names) old after n) (sym is)
        (from_here after 3 (no_memory kept))

  max-zero : (n : ℕ) → max n 0 ≡ n
  max-zero n = omega arith

  pub begins : (old : Option (List ℕ)) → IsPartOf 0 old old 0
  begins old new others run =
      let same : others ≡ max 0 others = omega arith in
      subst (λ (n : ℕ). ChecksAll quiet bytes (map string_bytes names) old new n) same run

  drop_all : (xs : List (String Global)) (i : ℕ) → length xs ≡ i → map string_bytes (drop i xs) ≡ []
  drop_all [] zero e = refl
  drop_all [] (suc i) e = refl
  drop_all (x ∷ xs) zero e = absurd (omega (arith, e))
  drop_all (x ∷ xs) (suc i) e = drop_all xs i (omega (arith, e))

  pub ends : (i : ℕ) (old mid new : Option (List ℕ)) (status : ℕ) → length names ≡ i → IsPartOf i old mid status
      → Keeps mid new → ChecksAll quiet bytes (map string_bytes names) old new status
  ends i old mid new status all whole kept =
      subst (λ (n : ℕ). ChecksAll quiet bytes (map string_bytes names) old new n) (max-zero status)
      (whole new 0 (subst (λ (ns : List (List ℕ)). ChecksAll quiet bytes ns mid new 0) (sym (drop_all names i all))
      (none kept)))

pub ruleset in_turn = (one_more, stopped_writing, stopped_for_memory, begins, ends)

pub ruleset said = (said_of_known, said_unread)
