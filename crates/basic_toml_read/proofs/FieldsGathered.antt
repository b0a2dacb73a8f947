-- The rows of an inline table, one by one.
use Rattle.basic_toml_read.proofs.Common.{inr, ◌≡◌, ℕ, ◌<◌, ◌≤◌, List, refl, ap, sym, ◌∙◌, arith, Some, None, Result}
use Rattle.basic_toml_read.proofs.Common.{Ok, Err, IsCharBoundary, nesting_limit, StartsWith, text_at, after_blanks}
use Rattle.basic_toml_read.proofs.Common.{IsPunctuationEnd, no_rows, and_then, rows_level, char_at, DeepFields, Stop}
use Rattle.basic_toml_read.proofs.Common.{Why, Gathered, fields_of, fields_on_of, row_of, Leaves, Misses, Lines}
use Rattle.basic_toml_read.proofs.Common.{and_lines, row_level, IsRowRead, ClosesAt, LeadsTo, in_fields, Hole}
use Rattle.basic_toml_read.proofs.Common.{HoleInFieldsOn}
use Rattle.basic_toml_explain.specs.declared.stop.Why.TheVariants as why
use Rattle.basic_toml_grammar.proofs.Nesting.WithinTheLimit as within
use Rattle.basic_toml_grammar.specs.DeepStops.{later_field}
use Rattle.basic_toml_read.specs.Gathers.{ReadsFields}
use Rattle.basic_toml_read.specs.StopsReached.{in_fields_on}
use Rattle.basic_toml_read.proofs.StandsIn.{Answered, nothing_fits, without_stop, SameDeep, then_deep, stops_on}
use Rattle.basic_toml_read.proofs.StandsIn.{then_in}
use Rattle.basic_toml_read.proofs.EnoughSteps.{after_field, fields_on_is}
use Rattle.basic_toml_read.proofs.GoesOn.{after, after_from, after_one, first_of, found_from, misses_after, then_from}
use Rattle.basic_toml_read.proofs.LeftAfter.{sign_there, sign_missing}
use Rattle.basic_toml_read.proofs.LinesGathered.{LinesSoFar, row_first, row_stands, lines_more, view_more}

-- the rows of an inline table up to an offset
pub record FieldsSoFar (bytes : List ℕ) (start level at : ℕ) (old new : Gathered) : Type 0 where
  pub got : Lines
  pub lines : LinesSoFar level old new got
  pub told : fields_of (text_at bytes start) ≡ after lines.join (fields_on_of (text_at bytes at))
  pub boundary : IsCharBoundary bytes at
  pub forward : start ≤ at
  pub deep : SameDeep (DeepFields nesting_limit level (text_at bytes at))
      (DeepFields nesting_limit level (text_at bytes start))
  pub holes : LeadsTo (in_fields_on (text_at bytes at)) (in_fields (text_at bytes start))

module _ {bytes : List ℕ} {start level at : ℕ} {old new : Gathered} (s : FieldsSoFar bytes start level at old new) where
  -- no row
  pub fields_missing : (w : Why) → Misses w (row_of (text_at bytes at)) (λ r. nesting_limit < row_level level r)
      → Misses w (fields_of (text_at bytes start)) (λ r. nesting_limit < rows_level level r.0)
  fields_missing w m =
      misses_after w _ _ _ _ (λ rs. nesting_limit < rows_level level rs)
      (s.told ∙ after_from _ (fields_on_is (text_at bytes at)))
      (λ r q e h. let blanks = after_blanks r.rest in
      let (rs, same) = first_of (char_at 44 blanks) (char_at 125 blanks) _ (row_first r) no_rows q e in
      omega (arith, h, s.lines.high q.0, ap (rows_level level) same))
      m

  -- after a row
  module _ {new' : Gathered} {end after' : ℕ} (r : IsRowRead bytes at level new new' end)
      (left : Leaves bytes end after' (after_blanks (text_at bytes end))) where
    rest' : after_blanks r.found.rest ≡ text_at bytes after'
    rest' = ap after_blanks r.rest ∙ sym left.left

    told' : fields_of (text_at bytes start) ≡ after s.lines.join (after_field fields_on_of r.found)
    told' = s.told ∙ after_from _ (fields_on_is (text_at bytes at) ∙ then_from _ r.is)

    pub fields_more : {next at' : ℕ} → Leaves bytes next at' (after_blanks (text_at bytes next))
        → IsPunctuationEnd 44 bytes after' (Some next) → FieldsSoFar bytes start level at' old new'
    unfolding lines_more
    fields_more {next = next} later sign =
        let comma : StartsWith 44 (after_blanks (text_at bytes end)) after' (text_at bytes next) =
        sym left.left ∙ sign.0 in record {
          got = and_lines s.got r.added;
          lines = lines_more s.lines r;
          told = rw later.left (told' ∙ after_from _ (found_from _ _ (ap (char_at 44) rest' ∙ sign_there sign.0))
              ∙ after_one _ _ _ (fields_on_of (after_blanks (text_at bytes next))) (λ rs. refl));
          boundary = later.boundary;
          forward = omega (arith, s.forward, r.later, left.forward, sign.2, later.forward);
          deep = rw later.left (then_deep (λ p. later_field (row_stands r) r.limit comma)
              (λ p. within.past_field (row_stands r) r.limit comma) s.deep);
          holes = rw later.left
              (then_in (λ h at. HoleInFieldsOn.later_row (row_stands r) comma) (λ at d. refl) s.holes);
        }

    -- where no comma follows
    module _ (none : IsPunctuationEnd 44 bytes after' None) where
      last_on : fields_of (text_at bytes start)
          ≡ after s.lines.join (and_then (char_at 125 (text_at bytes after'))
          (λ s. Some (row_first r.found no_rows, s.1)))
      last_on = told' ∙ after_from _
          (found_from _ _ (ap (char_at 44) rest' ∙ sign_missing 44 (text_at bytes after') none)
          ∙ then_from _ (ap (char_at 125) rest'))

      pub fields_close : (result : Result ℕ Stop) → ClosesAt 125 why.Comma bytes after' result
          → Answered bytes (ReadsFields bytes start level old new')
          (DeepFields nesting_limit level (text_at bytes start)) (in_fields (text_at bytes start)) result
      unfolding after
      fields_close (Ok close) closes =
          let lines = lines_more s.lines r in
          without_stop (record {
            added = and_lines s.got r.added;
            is = rw (view_more s.lines r) (last_on ∙ after_from _ (then_from _ closes.0));
            pushed = lines.pushed;
            elements = lines.elements;
            limit = lines.limit;
            boundary = closes.1;
            later = omega (arith, s.forward, r.later, left.forward, closes.2);
          })
      fields_close (Err stop) closes = rw closes.1 (record {
        read = last_on ∙ after_from _ (then_from _ closes.0);
        inside = inr left.boundary;
        deep = λ p d. within.last_field (row_stands r) r.limit
            (ap (char_at 44) (sym left.left) ∙ sign_missing 44 (text_at bytes after') none) (s.deep.backs p d);
        hole = stops_on s.holes why.Comma (text_at bytes after') (record {
          hole = rw left.left (HoleInFieldsOn.after_row (row_stands r));
          missing = nothing_fits Hole.after_field 44 125 (text_at bytes after')
              (sign_missing 44 (text_at bytes after') none) closes.0 (λ c. refl);
        });
      })
