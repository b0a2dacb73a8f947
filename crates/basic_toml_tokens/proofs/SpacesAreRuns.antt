-- Runs of blanks and line feeds.
use Rattle.std.proofs.Common.{◌≡◌, ℕ, suc, ◌≤◌, ◌==◌, ◌||◌, Bool, true, false, cond, [], ◌∷◌, length, refl, ap, sym}
use Rattle.std.proofs.Common.{◌∙◌, arith}
use Rattle.std.proofs.lemmas.Bool.{or_left, or_from}
use Rattle.basic_toml_tokens.specs.Text.{Text, after_run, is_blank}
use Rattle.basic_toml_tokens.specs.Strings.{is_space}

pub length-after : (p : ℕ → Bool) (text : Text) → length (after_run p text) ≤ length text
length-after p [] = omega arith
length-after p (x ∷ text) = go (p x.1) (length-after p text)
  where
    go : (b : Bool) → length (after_run p text) ≤ length text
        → length (cond b (after_run p text) (x ∷ text)) ≤ suc (length text)
    go true h = omega arith
    go false h = omega arith

pub after_twice : (p : ℕ → Bool) (text : Text) → after_run p (after_run p text) ≡ after_run p text
after_twice p [] = refl
after_twice p (x ∷ text) = go (p x.1) refl (after_twice p text)
  where
    go : (b : Bool) → p x.1 ≡ b → after_run p (after_run p text) ≡ after_run p text
        → after_run p (cond b (after_run p text) (x ∷ text)) ≡ cond b (after_run p text) (x ∷ text)
    go true e h = h
    go false e h = rw e refl

-- a run that is empty stops at its first character
pub fails_first : (p : ℕ → Bool) (x : ℕ × ℕ) (text : Text) → after_run p (x ∷ text) ≡ x ∷ text → p x.1 ≡ false
fails_first p x text h = go (p x.1) refl h
  where
    go : (b : Bool) → p x.1 ≡ b → cond b (after_run p text) (x ∷ text) ≡ x ∷ text → p x.1 ≡ false
    go true e h = absurd (omega (arith, ap length h, length-after p text))
    go false e h = e

pub space_stops : (text : Text) → after_run is_blank text ≡ text → after_run (λ c. c == 10) text ≡ text
    → after_run is_space text ≡ text
space_stops [] h k = refl
space_stops (x ∷ text) h k =
    ap (λ (b : Bool). cond b (after_run is_space text) (x ∷ text))
    (or_from (is_blank x.1) (x.1 == 10) (fails_first is_blank x text h) (fails_first (λ c. c == 10) x text k))

pub space_past_blanks : (text : Text) → after_run is_space (after_run is_blank text) ≡ after_run is_space text
space_past_blanks [] = refl
space_past_blanks (x ∷ text) = go (is_blank x.1) refl (space_past_blanks text)
  where
    go : (b : Bool) → is_blank x.1 ≡ b → after_run is_space (after_run is_blank text) ≡ after_run is_space text
        → after_run is_space (cond b (after_run is_blank text) (x ∷ text))
        ≡ cond (is_blank x.1 || x.1 == 10) (after_run is_space text) (x ∷ text)
    go true e h = h ∙ sym (ap (λ (b : Bool). cond b (after_run is_space text) (x ∷ text))
        (or_left (is_blank x.1) (x.1 == 10) e))
    go false e h = refl

-- over a line feed and the blanks after it
pub space_past_feed : (text next : Text) (p : ℕ) → text ≡ (p, 10) ∷ next
    → after_run is_space (after_run is_blank next) ≡ after_run is_space text
space_past_feed text next p e = space_past_blanks next ∙ sym (ap (after_run is_space) e)
