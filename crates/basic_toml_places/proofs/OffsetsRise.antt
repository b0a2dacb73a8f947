-- The offsets of a folded text rise, and so do those of each end of it.
use Rattle.std.proofs.Common.{ℕ, suc, ◌+◌, ◌≤◌, ◌==◌, ◌&&◌, Bool, true, false, cond, List, [], ◌∷◌, length, sym}
use Rattle.std.proofs.Common.{subst, arith}
use Rattle.std.specs.Char.{len_utf8}
use Rattle.std.proofs.lemmas.Str.{len_utf8_bounds}
use Rattle.basic_toml_tokens.specs.Text.{Text, StartsWith, first_of, folded_from, run, after_run, is_blank}
use Rattle.basic_toml_tokens.specs.Text.{after_blanks}
use Rattle.basic_toml_grammar.specs.Grammar.{EndsLine, at_feed, at_end}
use Rattle.basic_toml_grammar.proofs.Grammar.RestsAreEnds.{IsEnd, all, further, ends_on, run_ends, comment_ends}

-- offsets rise from n on
abbrev pub Rises : ℕ → Text → Type 0
Rises n [] = Unit {0}
Rises n (x ∷ text) = (n ≤ x.0) × Rises (suc x.0) text

-- and so from any number before
pub rises_from_less : (m n : ℕ) (text : Text) → m ≤ n → Rises n text → Rises m text
rises_from_less m n [] h r = tt
rises_from_less m n (x ∷ text) h r = (omega arith, r.1)

pub folded_rises : (taken : Bool) (at : ℕ) (cs : List ℕ) → Rises at (folded_from taken at cs)
folded_rises taken at [] = tt
folded_rises true at (c ∷ cs) =
    rises_from_less at (at + len_utf8 c) (folded_from false (at + len_utf8 c) cs) (omega arith)
    (folded_rises false (at + len_utf8 c) cs)
folded_rises false at (c ∷ cs) =
    go (c == 13 && first_of cs == 10) (folded_rises true (at + 1) cs) (folded_rises false (at + len_utf8 c) cs)
  where
    go : (b : Bool) → Rises (at + 1) (folded_from true (at + 1) cs)
        → Rises (at + len_utf8 c) (folded_from false (at + len_utf8 c) cs)
        → Rises at
        (cond b ((at, 10) ∷ folded_from true (at + 1) cs) ((at, c) ∷ folded_from false (at + len_utf8 c) cs))
    go true h k = (omega arith, rises_from_less (suc at) (at + 1) (folded_from true (at + 1) cs) (omega arith) h)
    go false h k = (
      omega arith,
      rises_from_less (suc at) (at + len_utf8 c) (folded_from false (at + len_utf8 c) cs)
          (omega (arith, (len_utf8_bounds c).0)) k,
    )

-- an end rises from where the text does
pub end_rises : {text rest : Text} (n : ℕ) → IsEnd text rest → Rises n text → Rises n rest
end_rises n all r = r
end_rises n (further {x = x} {text = text} e) r =
    end_rises n e (rises_from_less n (suc x.0) text (omega arith) r.1)

-- the first character stands at n or behind, and the others stand behind it
pub sign_rises : {c p : ℕ} {text next : Text} (n : ℕ) → StartsWith c text p next → Rises n text
    → (n ≤ p) × Rises (suc p) next
sign_rises n s r = subst (Rises n) s r

pub rises_behind_sign : {c p : ℕ} {text next : Text} (n : ℕ) → StartsWith c text p next → Rises n text
    → Rises (suc n) next
rises_behind_sign {p = p} {next = next} n s r =
    let at : (n ≤ p) × Rises (suc p) next = sign_rises n s r in
    rises_from_less (suc n) (suc p) next (omega arith) at.1

-- a text rises from its first character on
pub rises_from_sign : {c p : ℕ} {text next : Text} (n : ℕ) → StartsWith c text p next → Rises n text → Rises p text
rises_from_sign {c = c} {p = p} {next = next} n s r =
    subst (Rises p) (sym s) (omega arith, (sign_rises n s r).1)

-- each character of a run takes one offset at least
pub run_rises : (f : ℕ → Bool) (n : ℕ) (text : Text) → Rises n text
    → Rises (n + length (run f text)) (after_run f text)
run_rises f n [] r = tt
run_rises f n (x ∷ text) r = go (f x.1) (run_rises f (suc x.0) text r.1)
  where
    go : (b : Bool) → Rises (suc x.0 + length (run f text)) (after_run f text)
        → Rises (n + length (cond b (x.1 ∷ run f text) [])) (cond b (after_run f text) (x ∷ text))
    go true h =
        rises_from_less (n + suc (length (run f text))) (suc x.0 + length (run f text)) (after_run f text)
        (omega arith) h
    go false h = rises_from_less (n + 0) n (x ∷ text) (omega arith) r

-- a line takes its line feed, or is the last
pub line_rises : {text rest : Text} (comment : ℕ → Bool) (n : ℕ) → EndsLine comment text rest → Rises n text
    → Rises (suc n) rest
line_rises comment n (at_feed {text = text} s) r =
    rises_behind_sign n s
    (end_rises n (ends_on (run_ends is_blank text) (comment_ends comment (after_blanks text))) r)
line_rises comment n (at_end e) r = tt
