-- The elements of an array, one by one.
use Rattle.basic_toml_read.proofs.Common.{◌+◌, ◌*◌, length, inr, ◌≡◌, ℕ, ◌<◌, ◌≤◌, List, [], ◌∷◌, ◌++◌, max, refl, ap}
use Rattle.basic_toml_read.proofs.Common.{sym, ◌∙◌, arith, append_assoc, Some, None, Result, Ok, Err, Vec, Global}
use Rattle.basic_toml_read.proofs.Common.{rules, IsCharBoundary, nesting_limit, StartsWith, text_at, is_comment}
use Rattle.basic_toml_read.proofs.Common.{IsPunctuationEnd, Elements, no_elements, element, and_then, value_level}
use Rattle.basic_toml_read.proofs.Common.{char_at, DeepElements, Stop, Why, Element, Valued, Gathered, value_of}
use Rattle.basic_toml_read.proofs.Common.{elements_of, Leaves, elements_view, Misses, lines_of, IsValueRead, ClosesAt}
use Rattle.basic_toml_read.proofs.Common.{LeadsTo, in_elements, gap, value_read, Hole, HoleInElements}
use Rattle.basic_toml_explain.specs.declared.stop.Why.TheVariants as why
use Rattle.basic_toml_grammar.proofs.Nesting.WithinTheLimit as within
use Rattle.basic_toml_grammar.specs.Levels.{elements_level}
use Rattle.basic_toml_grammar.specs.DeepStops.{later_element}
use Rattle.basic_toml_read.specs.declared.section.Element.{roll-Element}
use Rattle.basic_toml_read.specs.Gathers.{ReadsElements}
use Rattle.basic_toml_read.proofs.StandsIn.{Answered, nothing_fits, SameDeep, then_deep, stops_on, then_in}
use Rattle.basic_toml_grammar.specs.Grammar.{IsValue}
use Rattle.basic_toml_read.proofs.EnoughSteps.{after_value, elements_is}
use Rattle.basic_toml_read.proofs.GoesOn.{after, after_from, after_one, first_of, found_from, misses_after, then_from}
use Rattle.basic_toml_read.proofs.LeftAfter.{sign_there, sign_missing}
use Rattle.basic_toml_read.proofs.ViewsSeen.{placed_is}

-- an element more, as its value was read
abbrev element_of : Valued → Element
element_of v = roll-Element (record { offset = v.offset; end = v.end; value = v.value })

abbrev pub with_elements : Gathered → Vec Element Global → Gathered
with_elements g elements = record { alloc = g.alloc; elements = elements; parents = g.parents; rows = g.rows }

-- the elements of an array up to an offset, and how they join those after it
pub record ElementsSoFar (bytes : List ℕ) (start level at : ℕ) (old new : Gathered) : Type 0 where
  pub got : List Element
  pub join : Elements → Elements
  pub seen : (more : List Element) → elements_view (got ++ more) ≡ join (elements_view more)
  pub high : (es : Elements)
      → elements_level level (join es) ≡ max (elements_level level (elements_view got)) (elements_level level es)
  pub told : elements_of (text_at bytes start) ≡ after join (elements_of (text_at bytes at))
  pub pushed : new.elements.items ≡ old.elements.items ++ got
  pub lines : lines_of new ≡ lines_of old
  pub limit : elements_level level (elements_view got) ≤ nesting_limit
  pub boundary : IsCharBoundary bytes at
  pub forward : start ≤ at
  pub deep : SameDeep (DeepElements nesting_limit level (text_at bytes at))
      (DeepElements nesting_limit level (text_at bytes start))
  pub holes : LeadsTo (in_elements (text_at bytes at)) (in_elements (text_at bytes start))

module _ {bytes : List ℕ} {start level at : ℕ} {old new : Gathered} (s : ElementsSoFar bytes start level at old new)
  where
    module _ (unclosed : IsPunctuationEnd 93 bytes at None) where
      by_value : elements_of (text_at bytes start)
          ≡ after s.join (and_then (value_of (text_at bytes at)) (after_value elements_of))
      by_value =
          s.told ∙ after_from _
          (elements_is (text_at bytes at) ∙ found_from _ _ (sign_missing 93 (text_at bytes at) unclosed))

      -- no value
      pub elements_missing : (w : Why)
          → Misses w (value_of (text_at bytes at)) (λ v. nesting_limit < value_level level v.value)
          → Misses w (elements_of (text_at bytes start)) (λ r. nesting_limit < elements_level level r.0)
      elements_missing w m =
          misses_after w _ _ _ _ (λ es. nesting_limit < elements_level level es) by_value
          (λ v r e h. let (es, same) =
          first_of (char_at 44 (gap v.rest)) (char_at 93 (gap v.rest)) _ (element v.offset v.value) no_elements r e in
          omega (arith, h, s.high r.0, ap (elements_level level) same))
          m

      -- after a value
      module _ {mid : Gathered} {v : Valued} {after' : ℕ} (r : IsValueRead bytes at level new mid v)
          (left : Leaves bytes v.end after' (gap (text_at bytes v.end))) (elements : Vec Element Global)
          (pushed : elements.items ≡ mid.elements.items ++ element_of v ∷ []) where
        value_stands : IsValue is_comment (text_at bytes at) v.offset r.found.raw (text_at bytes v.end)
        unfolding value_of
        value_stands = value_read (4 * length (text_at bytes at) + 1) (text_at bytes at) _ r.found.is

        abbrev pub this : Elements → Elements
        this es = element v.offset r.found.raw es

        view' : (more : List Element)
            → elements_view (s.got ++ (element_of v ∷ more)) ≡ s.join (this (elements_view more))
        view' more =
            s.seen (element_of v ∷ more) ∙ ap s.join (rw (placed_is (element_of v), r.found.seen) refl)

        limit' : elements_level level (elements_view (s.got ++ element_of v ∷ [])) ≤ nesting_limit
        limit' = omega (arith, ap (elements_level level) (view' []), s.high (this no_elements), s.limit, r.limit)

        pushed' : elements.items ≡ old.elements.items ++ (s.got ++ element_of v ∷ [])
        pushed' =
            pushed ∙ rw (r.keeps.elements, s.pushed) (append_assoc old.elements.items s.got (element_of v ∷ []))

        told' : elements_of (text_at bytes start)
            ≡ after s.join
            (after_value elements_of (record { offset = v.offset; value = r.found.raw; rest = text_at bytes v.end }))
        told' = by_value ∙ after_from _ (then_from _ r.found.is)

        pub elements_more : {next at' : ℕ} → Leaves bytes next at' (gap (text_at bytes next))
            → IsPunctuationEnd 44 bytes after' (Some next)
            → ElementsSoFar bytes start level at' old (with_elements mid elements)
        elements_more {next = next} later sign =
            let comma : StartsWith 44 (gap (text_at bytes v.end)) after' (text_at bytes next) =
            sym left.left ∙ sign.0 in record {
              got = s.got ++ element_of v ∷ [];
              join = λ es. s.join (this es);
              seen = λ more. ap elements_view (append_assoc s.got (element_of v ∷ []) more) ∙ view' more;
              high = λ es.
                  omega (arith, ap (elements_level level) (view' []), s.high (this no_elements), s.high (this es));
              told = rw later.left (told'
                  ∙ after_from _ (found_from _ _ (sign_there comma))
                  ∙ after_one _ _ _ (elements_of (gap (text_at bytes next))) (λ es. refl));
              pushed = pushed';
              lines = r.keeps.lines ∙ s.lines;
              limit = limit';
              boundary = later.boundary;
              forward = omega (arith, s.forward, r.found.later, left.forward, sign.2, later.forward);
              deep = rw later.left (then_deep (λ p. later_element value_stands r.limit comma)
                  (λ p. within.past_element value_stands r.limit comma) s.deep);
              holes = rw later.left
                  (then_in (λ h at. HoleInElements.later_element value_stands comma) (λ at d. refl) s.holes);
            }

        -- where no comma follows
        module _ (none : IsPunctuationEnd 44 bytes after' None) where
          no_comma : char_at 44 (gap (text_at bytes v.end)) ≡ None
          no_comma = ap (char_at 44) (sym left.left) ∙ sign_missing 44 (text_at bytes after') none

          last_on : elements_of (text_at bytes start)
              ≡ after s.join (and_then (char_at 93 (text_at bytes after')) (λ s. Some (this no_elements, s.1)))
          last_on = told' ∙ after_from _
              (found_from _ _ no_comma ∙ then_from _ (ap (char_at 93) (sym left.left)))

          pub elements_close : (result : Result ℕ Stop) → ClosesAt 93 why.Bracket bytes after' result
              → Answered bytes (ReadsElements bytes start level old (with_elements mid elements))
              (DeepElements nesting_limit level (text_at bytes start)) (in_elements (text_at bytes start)) result
          unfolding after
          elements_close (Ok close) closes =
              let is = last_on ∙ after_from _ (then_from _ closes.0) in
              let view = view' [] in
              search (rules, pushed', limit')
          elements_close (Err stop) closes = rw closes.1 (record {
            read = last_on ∙ after_from _ (then_from _ closes.0);
            inside = inr left.boundary;
            deep = λ p d. within.last_element value_stands r.limit no_comma (s.deep.backs p d);
            hole = stops_on s.holes why.Bracket (text_at bytes after') (record {
              wanted = Hole.after_element;
              takes = refl;
              misses = record {
                hole = rw left.left (HoleInElements.after_this value_stands);
                missing = nothing_fits Hole.after_element 44 93 (text_at bytes after')
                    (sign_missing 44 (text_at bytes after') none) closes.0 (λ c. refl);
              };
            });
          })
