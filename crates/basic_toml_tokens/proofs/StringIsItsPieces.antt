-- The string at an offset, from the pieces of its body.
use Rattle.std.proofs.Common.{◌≡◌, ℕ, ◌<◌, ◌≤◌, ◌||◌, Bool, true, false, List, ◌++◌, refl, ap, sym, ◌∙◌, arith}
use Rattle.std.proofs.Common.{get_or, Option, Some, None, encode_utf8_all, String, is_some, append_assoc}
use Rattle.std.specs.Str.{IsUtf8, IsCharBoundary}
use Rattle.std.specs.List.{list_any}
use Rattle.std.specs.Borrow.{Bor}
use Rattle.std.specs.Cow.{cow_str_bytes}
use Rattle.std.specs.declared.alloc.Global.{Global}
use Rattle.std.specs.declared.borrow.CowStr.{CowStr}
use Rattle.std.specs.declared.borrow.CowStr.TheVariants.{Borrowed, Owned}
use Rattle.std.proofs.lemmas.List.Folds.{list_any-append}
use Rattle.std.proofs.lemmas.Str.{encodes-append}
use Rattle.basic_toml_tokens.specs.declared.error.Error.{Error}
use Rattle.basic_toml_tokens.specs.declared.quote.Quote.{Quote}
use Rattle.basic_toml_tokens.specs.Text.{text_at}
use Rattle.basic_toml_tokens.specs.Strings.{IsPiece, Closes}
use Rattle.basic_toml_tokens.specs.Faults.{Breaks, BreaksString}
use Rattle.basic_toml_tokens.specs.Reading.{between}
use Rattle.basic_toml_tokens.specs.Copies.{is_special, is_copied, NeedsMemory}
use Rattle.basic_toml_tokens.specs.Quote.{kind_of, AreVerbatim, GoesOn}
use Rattle.basic_toml_tokens.specs.String.{IsOpen, copied_of, is_owned, IsSlice, IsSimple, IsVerbatim, IsQuoted}
use Rattle.basic_toml_tokens.proofs.TextBetweenOffsets.{between_join}
use Rattle.basic_toml_tokens.proofs.PiecesSoFar.{SoFar, pieces_join, pieces_one, special_between}

module _ (bytes : List ℕ) (start body kept at : ℕ) (quote : Quote) (copy : Option (String Global))
    (whole : IsUtf8 bytes) (o : IsOpen bytes start quote body) (s : SoFar (kind_of quote) bytes body kept at copy) where
  -- an escape finds no memory
  pub needs_at_piece : (chars : List ℕ) (next : ℕ)
      → IsPiece (kind_of quote) (text_at bytes at) chars (text_at bytes next) → IsCharBoundary bytes next → at < next
      → is_special quote.delimiter (get_or bytes at 0) ≡ true → NeedsMemory bytes start
  needs_at_piece chars next p there later h = record {
    kind = kind_of quote;
    body = text_at bytes body;
    opens = o.opens;
    inside = s.done ++ chars;
    upto = next;
    pieces = pieces_join s.pieces (pieces_one p);
    boundary = there;
    copied = o.copies next (omega (arith, s.body_kept, s.kept_at)) there.0 ∙
        special_between (kind_of quote) bytes body kept at next copy s (omega (arith, there.0)) later h;
  }

  -- nor do the last bytes
  pub needs_at_end : is_some copy ≡ true → NeedsMemory bytes start
  needs_at_end h = record {
    kind = kind_of quote;
    body = text_at bytes body;
    opens = o.opens;
    inside = s.done;
    upto = at;
    pieces = s.pieces;
    boundary = s.boundary;
    copied = o.copies at (omega (arith, s.body_kept, s.kept_at)) s.boundary.0 ∙ (s.special ∙ h);
  }

  pub breaks_at : (error : Error) (next : ℕ)
      → Breaks (kind_of quote) start (text_at bytes at) error (text_at bytes next) → GoesOn bytes at next
      → BreaksString (text_at bytes start) error (text_at bytes next) × IsCharBoundary bytes next × (start < next)
  breaks_at error next b g = (
    record {
      start = start;
      kind = kind_of quote;
      body = text_at bytes body;
      opens = o.opens;
      inside = s.done;
      stop =
          text_at bytes at;
      pieces = s.pieces;
      breaks = b;
    },
    g.boundary,
    omega (arith, o.forward, s.body_kept, s.kept_at, g.forward),
  )

  slice_of : (val : CowStr Global) (copy : Option (String Global)) (plain : List ℕ) (end last : ℕ) → start ≤ kept
      → kept ≤ last → last ≤ end → plain ≡ between bytes kept last
      → cow_str_bytes val ≡ copied_of copy ++ plain → is_owned val ≡ is_some copy → IsSlice bytes start end val
  slice_of (Borrowed t) None plain end last h k l e f g = (kept, last, h, k, l, f ∙ e)
  slice_of (Borrowed t) (Some c) plain end last h k l e f g = let z : false ≡ true = g in cc
  slice_of (Owned t) copy plain end last h k l e f g = tt

  pub closes_at : (val : CowStr Global) (src : Bor (List ℕ)) (plain tail : List ℕ) (last end : ℕ)
      → Closes (kind_of quote) (text_at bytes at) tail (text_at bytes end) → AreVerbatim bytes at last tail
      → GoesOn bytes last end
      → list_any (is_special quote.delimiter) (between bytes at end) ≡ false → plain ≡ between bytes kept last
      → cow_str_bytes val ≡ copied_of copy ++ plain → is_owned val ≡ is_some copy
      → src.now ≡ between bytes start end
      → IsQuoted bytes start (record { src = src; val = val; multiline = quote.multiline; end = end })
  closes_at val src plain tail last end c v g none_special plain_is spelled owned src_is =
      let body_end : list_any (is_special quote.delimiter) (between bytes body end) ≡ is_some copy =
      ap (list_any (is_special quote.delimiter))
      (sym (between_join bytes body at end (omega (arith, s.body_kept, s.kept_at))
      (omega (arith, v.forward, g.forward))))
      ∙ list_any-append (is_special quote.delimiter) (between bytes body at) (between bytes at end) ∙
      ap (λ (b : Bool). list_any (is_special quote.delimiter) (between bytes body at) || b) none_special
      ∙ or_false (list_any (is_special quote.delimiter) (between bytes body at)) ∙ s.special in
      record {
        value = s.done ++ tail;
        string = record {
          kind = kind_of quote;
          body = text_at bytes body;
          opens = o.opens;
          lines = refl;
          inside =
              s.done;
          closer = text_at bytes at;
          pieces = s.pieces;
          tail = tail;
          closes = c;
          stands_for = refl;
        };
        spelled = spelled ∙ ap (λ (t : List ℕ). copied_of copy ++ t) (plain_is ∙
            sym (between_join bytes kept at last s.kept_at v.forward)) ∙
            sym (append_assoc (copied_of copy) (between bytes kept at) (between bytes at last))
            ∙ ap (λ (t : List ℕ). t ++ between bytes at last) (sym s.spelled) ∙
            ap (λ (t : List ℕ). encode_utf8_all s.done ++ t) (sym v.spelled) ∙ sym (encodes-append s.done tail);
        source = src_is;
        boundary = g.boundary;
        forward = omega (arith, o.forward, s.body_kept, s.kept_at, v.forward, g.forward);
        copied = owned ∙ sym (o.copies end (omega (arith, s.body_kept, s.kept_at, v.forward, g.forward)) g.boundary.0
            ∙ body_end);
        slice = slice_of val copy plain end last (omega (arith, o.forward, s.body_kept))
            (omega (arith, s.kept_at, v.forward)) g.forward plain_is spelled owned;
      }
    where
      or_false : (b : Bool) → (b || false) ≡ b
      or_false true = refl
      or_false false = refl

-- a string of plain characters alone, where its delimiter stands once
pub simple_closes : (bytes : List ℕ) (start body at end : ℕ) (quote : Quote) (plain tail : List ℕ)
    → IsOpen bytes start quote body → SoFar (kind_of quote) bytes body body at None → quote.multiline ≡ false
    → Closes (kind_of quote) (text_at bytes at) tail (text_at bytes end) → AreVerbatim bytes at at tail
    → GoesOn bytes at end → list_any (is_special quote.delimiter) (between bytes at end) ≡ false
    → plain ≡ between bytes body at → IsVerbatim (text_at bytes start) start (text_at bytes end)
    → IsSimple bytes start plain end
simple_closes bytes start body at end quote plain tail o s one_line c v g none_special plain_is verbatim = record {
  value = s.done ++ tail;
  string = record {
    kind = kind_of quote;
    body = text_at bytes body;
    opens = o.opens;
    lines = one_line;
    inside = s.done;
    closer = text_at bytes at;
    pieces = s.pieces;
    tail = tail;
    closes = c;
    stands_for = refl;
  };
  spelled = plain_is ∙ sym (between_join bytes body at at s.kept_at v.forward) ∙
      ap (λ (t : List ℕ). t ++ between bytes at at) (sym s.spelled) ∙
      ap (λ (t : List ℕ). encode_utf8_all s.done ++ t) (sym v.spelled) ∙ sym (encodes-append s.done tail);
  boundary = g.boundary;
  forward = omega (arith, o.forward, s.body_kept, s.kept_at, v.forward, g.forward);
  verbatim = verbatim;
  not_copied = ap (λ (m : Bool). is_copied m (between bytes start end)) (sym one_line) ∙
      o.copies end (omega (arith, s.kept_at, g.forward)) g.boundary.0 ∙ ap (list_any (is_special quote.delimiter))
      (sym (between_join bytes body at end s.kept_at g.forward)) ∙
      list_any-append (is_special quote.delimiter) (between bytes body at) (between bytes at end) ∙
      ap (λ (b : Bool). list_any (is_special quote.delimiter) (between bytes body at) || b) none_special ∙
      ap (λ (b : Bool). b || false) s.special;
}
