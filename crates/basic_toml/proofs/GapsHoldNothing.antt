-- A text of blanks, comments and line feeds has no section, and its document is the empty table.
use Rattle.std.proofs.Common.{◌≡◌, ℕ, ◌==◌, ◌||◌, true, false, Bool, [], ◌∷◌, refl, sym, ap, ◌∙◌, cond}
use Rattle.std.proofs.lemmas.Bool.{eqb-true, false≢true}
use Rattle.basic_toml_tokens.specs.Text.{Text, StartsWith, after_run, after_blanks, is_blank, is_comment}
use Rattle.basic_toml_value.specs.Data.{Data, no_members}
use Rattle.basic_toml_grammar.specs.Document.{IsDocument}
use Rattle.basic_toml_grammar.specs.Grammar.{after_comment_by, after_gap_from, at_feed, at_end, IsRows, over, empty_line}
use Rattle.basic_toml_grammar.specs.Grammar.{no_more, IsSectionList}
use Rattle.basic_toml_grammar.specs.Sections.{no_rows}
use Rattle.basic_toml_read.specs.Lists.{IsGap}

-- a line ends here, and no rows come after it
data EndsRows (rest : Text) : Type 0 where
  over_here : rest ≡ [] → EndsRows rest
  feed : {p : ℕ} {next : Text} → StartsWith 10 rest p next → IsRows is_comment next no_rows [] → EndsRows rest

abbrev Outside : Text → Type 0
Outside text = EndsRows (after_comment_by is_comment (after_blanks text))

abbrev Inside : Text → Type 0
Inside text = EndsRows (after_run is_comment text)

none_from : (text : Text) → Outside text → IsRows is_comment text no_rows []
none_from [] ends = over
none_from (x ∷ text) (over_here e) = empty_line (at_end e) over
none_from (x ∷ text) (feed stands more) = empty_line (at_feed stands) more

gaps_end : (text : Text) → (after_gap_from is_comment false text ≡ [] → Outside text)
    × (after_gap_from is_comment true text ≡ [] → Inside text)
gaps_end [] = (λ gap. over_here refl, λ gap. over_here refl)
gaps_end (x ∷ text) = (
  by_blank (is_blank x.1) (gaps_end text).0 (gaps_end text).1,
  within (x.1 == 10) (is_comment x.1) refl refl (gaps_end text).0 (gaps_end text).1,
)
  where
    feed_here : (x.1 == 10) ≡ true → (after_gap_from is_comment false text ≡ [] → Outside text)
        → after_gap_from is_comment false text ≡ [] → EndsRows (x ∷ text)
    feed_here f outside gap = feed (ap (λ (c : ℕ). (x.0, c) ∷ text) (eqb-true x.1 10 f)) (none_from text (outside gap))

    by_sign : (f h : Bool) → (x.1 == 10) ≡ f → (x.1 == 35) ≡ h
        → (after_gap_from is_comment false text ≡ [] → Outside text)
        → (after_gap_from is_comment true text ≡ [] → Inside text)
        → cond f (after_gap_from is_comment false text) (cond h (after_gap_from is_comment true text) (x ∷ text)) ≡ []
        → EndsRows (cond h (after_run is_comment text) (x ∷ text))
    by_sign true true is hash outside inside gap =
        absurd (false≢true (sym (ap (λ c. c == 35) (eqb-true x.1 10 is)) ∙ hash))
    by_sign true false is hash outside inside gap = feed_here is outside gap
    by_sign false true is hash outside inside gap = inside gap
    by_sign false false is hash outside inside gap = cc

    by_blank : (b : Bool) → (after_gap_from is_comment false text ≡ [] → Outside text)
        → (after_gap_from is_comment true text ≡ [] → Inside text)
        → cond (b || (x.1 == 10)) (after_gap_from is_comment false text)
        (cond (x.1 == 35) (after_gap_from is_comment true text) (x ∷ text)) ≡ []
        → EndsRows (after_comment_by is_comment (cond b (after_run is_blank text) (x ∷ text)))
    by_blank true outside inside gap = outside gap
    by_blank false outside inside gap = by_sign (x.1 == 10) (x.1 == 35) refl refl outside inside gap

    within : (f k : Bool) → (x.1 == 10) ≡ f → is_comment x.1 ≡ k
        → (after_gap_from is_comment false text ≡ [] → Outside text)
        → (after_gap_from is_comment true text ≡ [] → Inside text)
        → cond f (after_gap_from is_comment false text) (cond k (after_gap_from is_comment true text) (x ∷ text)) ≡ []
        → EndsRows (cond k (after_run is_comment text) (x ∷ text))
    within true true is comment outside inside gap =
        absurd (false≢true (sym (ap is_comment (eqb-true x.1 10 is)) ∙ comment))
    within true false is comment outside inside gap = feed_here is outside gap
    within false true is comment outside inside gap = inside gap
    within false false is comment outside inside gap = cc

pub gap_is_listed : (text : Text) → IsGap text → IsSectionList text []
gap_is_listed text gap = record {
  rows = no_rows;
  headed = [];
  rest = [];
  root = none_from text ((gaps_end text).0 gap);
  others = no_more;
  all = refl;
}

pub gap_is_empty : (text : Text) → IsGap text → IsDocument text (Data.table no_members)
gap_is_empty text gap = record { sections = []; grammar = gap_is_listed text gap; means = refl }
