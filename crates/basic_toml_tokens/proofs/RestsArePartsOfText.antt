-- What stands after an offset is a part of the text from there on, and begins there or later.
use Rattle.std.proofs.Common.{◌≡◌, ℕ, zero, suc, ◌+◌, ◌≤◌, ◌==◌, ◌&&◌, Bool, true, false, cond, List, [], ◌∷◌}
use Rattle.std.proofs.Common.{length, drop, min, refl, ap, sym, ◌∙◌, subst, arith, encode_utf8_all, length-drop}
use Rattle.std.specs.Str.{IsUtf8, IsCharBoundary, chars}
use Rattle.std.specs.Char.{len_utf8}
use Rattle.std.proofs.lemmas.List.{drop-drop}
use Rattle.std.proofs.lemmas.Str.{IsUtf8-drop, encodes-chars}
use Rattle.basic_toml_tokens.specs.Text.{Text, folded_from, first_of, text_at, after_run}
use Rattle.basic_toml_tokens.specs.Strings.{Quotes, is_quote, IsPiece, content, delimiters, letter, unicode}
use Rattle.basic_toml_tokens.specs.Strings.{continuation, Pieces, none, piece, Closes, one, several}
use Rattle.basic_toml_tokens.specs.BodyFront.{more, front_of}
use Rattle.basic_toml_tokens.proofs.StepIsTheFold.{offset_is}
use Rattle.basic_toml_tokens.proofs.BodyFrontStands.{piece_front, IsMore}

-- pieces that lead on from other pieces
pub record LeadsOn (k : Quotes) (text stop : Text) : Type 0 where
  pub value : List ℕ
  pub pieces : Pieces k text value stop

pub leads_on : (k : Quotes) (start : ℕ) → is_quote k.delimiter ≡ true → {text mid stop : Text} {v w : List ℕ}
    → Pieces k text v mid → Pieces k text w stop → (IsMore (front_of k start stop) → ⊥) → LeadsOn k mid stop
leads_on k start q {text} {mid} {stop} {v} {w} none qs h = record { value = w; pieces = qs }
leads_on k start q (piece p ps) none h = absurd (h (subst IsMore (sym (piece_front k start q p)) tt))
leads_on k start q (piece {text} {next} {rest} {chars} {value} p ps)
    (piece {next = next'} {rest = stop} {chars = chars'} {value = value'} p' qs) h =
    let e : more chars next ≡ more chars' next' = sym (piece_front k start q p) ∙ piece_front k start q p' in
    let same : next ≡ next' = cc in
    leads_on k start q ps (subst (λ (t : Text). Pieces k t value' stop) (sym same) qs) h

-- what stands after is a part of the text
abbrev pub IsPart : Text → Text → Type 0
IsPart rest text = (n : ℕ) × (rest ≡ drop n text)

pub part_trans : (a b c : Text) → IsPart a b → IsPart b c → IsPart a c
part_trans a b c (n, e) (m, f) = (m + n, e ∙ ap (drop n) f ∙ drop-drop n m c)

part_run : (p : ℕ → Bool) (text : Text) → IsPart (after_run p text) text
part_run p [] = (0, refl)
part_run p (x ∷ text) = go (p x.1) (part_run p text)
  where
    go : (b : Bool) → IsPart (after_run p text) text → IsPart (cond b (after_run p text) (x ∷ text)) (x ∷ text)
    go true (n, e) = (suc n, e)
    go false h = (0, refl)

part_one : (x : ℕ × ℕ) (text rest : Text) → text ≡ x ∷ rest → IsPart rest text
part_one x text rest e = (1, sym (ap (drop 1) e))

piece_part : {k : Quotes} {text rest : Text} {v : List ℕ} → IsPiece k text v rest → IsPart rest text
piece_part (content at h) = part_one _ _ _ at
piece_part (delimiters {n} m e l h) = (n, refl)
piece_part (letter d at then e) = part_trans _ _ _ (part_one _ _ _ then) (part_one _ _ _ at)
piece_part (unicode {n = n} d at then e l s) =
    part_trans _ _ _ (n, refl) (part_trans _ _ _ (part_one _ _ _ then) (part_one _ _ _ at))
piece_part (continuation d m at then) =
    part_trans _ _ _ (part_run _ _)
    (part_trans _ _ _ (part_one _ _ _ then) (part_trans _ _ _ (part_run _ _) (part_one _ _ _ at)))

pub pieces_part : {k : Quotes} {text rest : Text} {v : List ℕ} → Pieces k text v rest → IsPart rest text
pieces_part none = (0, refl)
pieces_part (piece p ps) = part_trans _ _ _ (pieces_part ps) (piece_part p)

pub closes_part : {k : Quotes} {text rest : Text} {v : List ℕ} → Closes k text v rest → IsPart rest text
closes_part (one m at) = part_one _ _ _ at
closes_part (several {n} m e l) = (min n 5, refl)

drop_nil : (n : ℕ) → drop {A = ℕ × ℕ} n [] ≡ []
drop_nil zero = refl
drop_nil (suc n) = refl

-- the characters of a text stand from its offset on
not_before : (b : Bool) (at n : ℕ) (cs : List ℕ) (x : ℕ × ℕ) (t : Text) → drop n (folded_from b at cs) ≡ x ∷ t
    → at ≤ x.0
not_before b at n [] x t e = let z : [] ≡ x ∷ t = sym (drop_nil n) ∙ e in cc
not_before true at n (c ∷ cs) x t e = omega (arith, not_before false (at + len_utf8 c) n cs x t e)
not_before false at n (c ∷ cs) x t e =
    go (c == 13 && first_of cs == 10) n (λ m f. not_before true (at + 1) m cs x t f)
    (λ m f. not_before false (at + len_utf8 c) m cs x t f) e
  where
    head_offset : (y : ℕ × ℕ) (s : Text) → y ∷ s ≡ x ∷ t → x.0 ≡ y.0
    head_offset y s f = let z : y ≡ x = cc in ap (λ (w : ℕ × ℕ). w.0) (sym z)

    go : (b : Bool) (n : ℕ) → ((m : ℕ) → drop m (folded_from true (at + 1) cs) ≡ x ∷ t → at + 1 ≤ x.0)
        → ((m : ℕ) → drop m (folded_from false (at + len_utf8 c) cs) ≡ x ∷ t → at + len_utf8 c ≤ x.0)
        → drop n (cond b ((at, 10) ∷ folded_from true (at + 1) cs) ((at, c) ∷ folded_from false (at + len_utf8 c) cs))
        ≡ x ∷ t → at ≤ x.0
    go true zero f g e = omega (arith, head_offset (at, 10) _ e)
    go true (suc n) f g e = omega (arith, f n e)
    go false zero f g e = omega (arith, head_offset (at, c) _ e)
    go false (suc n) f g e = omega (arith, g n e)

pub no_characters : (at : ℕ) (cs : List ℕ) → folded_from false at cs ≡ [] → cs ≡ []
no_characters at [] e = refl
no_characters at (c ∷ cs) e = go (c == 13 && first_of cs == 10) e
  where
    go : (b : Bool) → cond b ((at, 10) ∷ folded_from true (at + 1) cs) ((at, c)
        ∷ folded_from false (at + len_utf8 c) cs) ≡ [] → c ∷ cs ≡ []
    go true e = cc
    go false e = cc

-- a text is over only at the end of its bytes
pub over_at_end : (bytes : List ℕ) (at : ℕ) → IsUtf8 bytes → IsCharBoundary bytes at → text_at bytes at ≡ []
    → length bytes ≤ at
over_at_end bytes at whole here e =
    let bs = drop at bytes in
    let none_left : bs ≡ [] = sym (encodes-chars bs (IsUtf8-drop bytes at whole here)) ∙
    ap encode_utf8_all (no_characters at (chars bs) e) in
    omega (arith, ap length none_left, length-drop at bytes)

-- a part of the text from one offset on begins there or later
pub part_later : (bytes : List ℕ) (at end : ℕ) → IsUtf8 bytes → at ≤ length bytes → IsCharBoundary bytes end
    → IsPart (text_at bytes end) (text_at bytes at) → at ≤ end
part_later bytes at end whole within here (n, e) = go (text_at bytes end) refl
  where
    go : (t : Text) → text_at bytes end ≡ t → at ≤ end
    go [] f = omega (arith, over_at_end bytes end whole here f)
    go (x ∷ t) f = omega (
      arith,
      not_before false at n (chars (drop at bytes)) x t (sym e ∙ f),
      offset_is bytes end x t f,
    )
