-- The pieces of a body so far, and what is copied of them.
use Rattle.std.proofs.Common.{◌≡◌, ℕ, ◌+◌, ◌<◌, ◌≤◌, ◌==◌, ◌&&◌, ◌||◌, Bool, true, false, cond, List, [], ◌∷◌, ◌++◌}
use Rattle.std.proofs.Common.{length, refl, ap, sym, ◌∙◌, subst, arith, get_or, Option, Some, None, encode_utf8_all}
use Rattle.std.proofs.Common.{String, string_bytes, is_some, append_assoc}
use Rattle.std.specs.Str.{IsCharBoundary}
use Rattle.std.specs.List.{list_any, list_all}
use Rattle.std.specs.declared.alloc.Global.{Global}
use Rattle.std.proofs.lemmas.List.{append-nil}
use Rattle.std.proofs.lemmas.List.Folds.{list_any-append}
use Rattle.std.proofs.lemmas.Str.{encodes-append}
use Rattle.std.proofs.lemmas.Bool.{or_from, or_left, or_right, and_parts, ne_eqb}
use Rattle.basic_toml_tokens.specs.Text.{Text, text_at, run, after_run, is_comment}
use Rattle.basic_toml_tokens.specs.Strings.{Quotes, is_plain, IsPiece, content, Pieces, none, piece}
use Rattle.basic_toml_tokens.specs.Reading.{between, IsRun}
use Rattle.basic_toml_tokens.specs.Copies.{is_special}
use Rattle.basic_toml_tokens.specs.Quote.{AreVerbatim, GoesOn, chars_of}
use Rattle.basic_toml_tokens.specs.String.{copied_of}
use Rattle.basic_toml_tokens.proofs.BodyFrontStands.{plain_tests}
use Rattle.basic_toml_tokens.proofs.TextBetweenOffsets.{between_self, between_join, between_cons}

pub record SoFar (k : Quotes) (bytes : List ℕ) (body kept at : ℕ) (copy : Option (String Global)) : Type 0 where
  pub done : List ℕ
  pub pieces : Pieces k (text_at bytes body) done (text_at bytes at)
  pub spelled : encode_utf8_all done ≡ copied_of copy ++ between bytes kept at
  pub special : list_any (is_special k.delimiter) (between bytes body at) ≡ is_some copy
  pub kept_boundary : IsCharBoundary bytes kept
  pub boundary : IsCharBoundary bytes at
  pub body_kept : body ≤ kept
  pub kept_at : kept ≤ at

pub pieces_join : {k : Quotes} {text next rest : Text} {v w : List ℕ} → Pieces k text v next → Pieces k next w rest
    → Pieces k text (v ++ w) rest
pieces_join none qs = qs
pieces_join {k} {text} {next} {rest} {v} {w} (piece {chars} {value} p ps) qs =
    subst (λ (t : List ℕ). Pieces k text t rest) (sym (append_assoc chars value w)) (piece p (pieces_join ps qs))

pub pieces_one : {k : Quotes} {text next : Text} {v : List ℕ} → IsPiece k text v next → Pieces k text v next
pieces_one {k} {text} {next} {v} p = subst (λ (t : List ℕ). Pieces k text t next) (append-nil v) (piece p none)

-- a run of plain characters is so many pieces
run_pieces : (k : Quotes) (text : Text)
    → Pieces k text (run (is_plain k.delimiter) text) (after_run (is_plain k.delimiter) text)
run_pieces k [] = none
run_pieces k (x ∷ text) = go (is_plain k.delimiter x.1) refl (run_pieces k text)
  where
    go : (b : Bool) → is_plain k.delimiter x.1 ≡ b
        → Pieces k text (run (is_plain k.delimiter) text) (after_run (is_plain k.delimiter) text)
        → Pieces k (x ∷ text) (cond b (x.1 ∷ run (is_plain k.delimiter) text) [])
        (cond b (after_run (is_plain k.delimiter) text) (x ∷ text))
    go true e ps = piece (content refl (or_left (is_plain k.delimiter x.1) (k.multiline && x.1 == 10) e)) ps
    go false e ps = none

plain_byte : (d b : ℕ) → is_plain d b ≡ true → is_special d b ≡ false
plain_byte d b h =
    let (a, e, f, comment) = plain_tests d b h in
    or_from (b == 13) (b == 92 && d == 34) (ne_eqb b 13 (λ k. let z : is_comment 13 ≡ true = rw k at comment in cc)) e

-- plain bytes ask for no copy
plain_bytes : (d : ℕ) (bytes : List ℕ) → list_all (is_plain d) bytes ≡ true → list_any (is_special d) bytes ≡ false
plain_bytes d [] h = refl
plain_bytes d (b ∷ bs) h =
    let (p, ps) = and_parts (is_plain d b) (list_all (is_plain d) bs) h in
    or_from (is_special d b) (list_any (is_special d) bs) (plain_byte d b p) (plain_bytes d bs ps)

module _ (k : Quotes) (bytes : List ℕ) (body : ℕ) where
  pub at_body : IsCharBoundary bytes body → SoFar k bytes body body body None
  at_body here = record {
    done = [];
    pieces = none;
    spelled = sym (between_self bytes body);
    special = ap (list_any (is_special k.delimiter)) (between_self bytes body);
    kept_boundary = here;
    boundary = here;
    body_kept = omega arith;
    kept_at = omega arith;
  }

  module _ (kept at next : ℕ) (copy : Option (String Global)) (s : SoFar k bytes body kept at copy) where
    -- bytes that stand for themselves
    pub verbatim : (chars : List ℕ) → Pieces k (text_at bytes at) chars (text_at bytes next)
        → AreVerbatim bytes at next chars → list_any (is_special k.delimiter) (between bytes at next) ≡ false
        → SoFar k bytes body kept next copy
    verbatim chars ps v none_special = record {
      done = s.done ++ chars;
      pieces = pieces_join s.pieces ps;
      spelled = encodes-append s.done chars ∙ ap (λ (t : List ℕ). t ++ encode_utf8_all chars) s.spelled ∙
          ap (λ (t : List ℕ). (copied_of copy ++ between bytes kept at) ++ t) v.spelled
          ∙ append_assoc (copied_of copy) (between bytes kept at) (between bytes at next) ∙
          ap (λ (t : List ℕ). copied_of copy ++ t) (between_join bytes kept at next s.kept_at v.forward);
      special = ap (list_any (is_special k.delimiter))
          (sym (between_join bytes body at next (omega (arith, s.body_kept, s.kept_at)) v.forward)) ∙
          list_any-append (is_special k.delimiter) (between bytes body at) (between bytes at next)
          ∙ ap (λ (b : Bool). list_any (is_special k.delimiter) (between bytes body at) || b) none_special ∙
          or_false (list_any (is_special k.delimiter) (between bytes body at)) ∙ s.special;
      kept_boundary = s.kept_boundary;
      boundary = v.boundary;
      body_kept = s.body_kept;
      kept_at = omega (arith, s.kept_at, v.forward);
    }
      where
        or_false : (b : Bool) → (b || false) ≡ b
        or_false true = refl
        or_false false = refl

    pub plain_run : IsRun (is_plain k.delimiter) bytes at next → SoFar k bytes body kept next copy
    plain_run r = verbatim (run (is_plain k.delimiter) (text_at bytes at))
        (subst (λ (t : Text). Pieces k (text_at bytes at) (run (is_plain k.delimiter) (text_at bytes at)) t)
        (sym r.rest) (run_pieces k (text_at bytes at)))
        (record { spelled = r.spelled; boundary = r.boundary; forward = r.forward })
        (plain_bytes k.delimiter (between bytes at next) r.passed)

    pub verbatim_piece : (chars : List ℕ) → IsPiece k (text_at bytes at) chars (text_at bytes next)
        → AreVerbatim bytes at next chars → list_any (is_special k.delimiter) (between bytes at next) ≡ false
        → SoFar k bytes body kept next copy
    verbatim_piece chars p v none_special = verbatim chars (pieces_one p) v none_special

    -- a byte between asks for a copy
    pub special_between : at < length bytes → at < next → is_special k.delimiter (get_or bytes at 0) ≡ true
        → list_any (is_special k.delimiter) (between bytes body next) ≡ true
    special_between within later h =
        ap (list_any (is_special k.delimiter))
        (sym (between_join bytes body at next (omega (arith, s.body_kept, s.kept_at)) (omega arith))) ∙
        list_any-append (is_special k.delimiter) (between bytes body at) (between bytes at next)
        ∙ or_right (list_any (is_special k.delimiter) (between bytes body at))
        (list_any (is_special k.delimiter) (between bytes at next))
        (ap (list_any (is_special k.delimiter)) (between_cons bytes at next within later) ∙
        or_left (is_special k.delimiter (get_or bytes at 0))
        (list_any (is_special k.delimiter) (between bytes (at + 1) next)) h)

    -- an escape, a continuation or a CR LF
    pub replaced : (c : Option ℕ) (longer : String Global) → at < length bytes
        → IsPiece k (text_at bytes at) (chars_of c) (text_at bytes next) → GoesOn bytes at next → at < next
        → is_special k.delimiter (get_or bytes at 0) ≡ true
        → string_bytes longer ≡ (copied_of copy ++ between bytes kept at) ++ encode_utf8_all (chars_of c)
        → SoFar k bytes body next next (Some longer)
    replaced c longer within p g later h e = record {
      done = s.done ++ chars_of c;
      pieces = pieces_join s.pieces (pieces_one p);
      spelled = encodes-append s.done (chars_of c) ∙
          ap (λ (t : List ℕ). t ++ encode_utf8_all (chars_of c)) s.spelled ∙ sym e ∙
          sym (ap (λ (t : List ℕ). string_bytes longer ++ t) (between_self bytes next) ∙
          append-nil (string_bytes longer));
      special = special_between within later h;
      kept_boundary = g.boundary;
      boundary = g.boundary;
      body_kept = omega (arith, s.body_kept, s.kept_at);
      kept_at = omega arith;
    }
