-- What sections say of a path, one after another.
use Rattle.std.proofs.Common.{◌≡◌, ℕ, zero, suc, ◌+◌, ◌≤◌, ◌<◌, Bool, true, false, List, [], ◌∷◌, Option, Some, None, refl}
use Rattle.std.proofs.Common.{ap, sym, ◌∙◌, subst, arith, length, drop, get_or, map, replicate, set}
use Rattle.std.proofs.lemmas.List.{drop_more}
use Rattle.std.specs.Prelude.{if◌then◌else◌}
use Rattle.std.specs.Option.{option_or, option_and_then}
use Rattle.basic_toml_grammar.specs.Sections.{KeyTexts, Section}
use Rattle.basic_toml_grammar.specs.Steps.{Path}
use Rattle.basic_toml_grammar.specs.IndexedPath.{Located, located, located_after, located_from}
use Rattle.basic_toml_grammar.proofs.Clash.PathsAgree.{count_in}
use Rattle.basic_toml_read.specs.declared.section.Section as code
use Rattle.basic_toml_read.specs.SectionView.{header_texts, key_of, section_of}
use Rattle.basic_toml_origin.specs.Before.{ends_up_to, rows_up_to, up_to}
use Rattle.basic_toml_origin.specs.declared.origin.Origin.{Origin}
use Rattle.basic_toml_origin.specs.declared.ways.Meeting.{Meeting}
use Rattle.basic_toml_origin.specs.declared.ways.Meeting.TheVariants.{Apart, Passes, Reaches}
use Rattle.basic_toml_origin.specs.Origin.{by_header, by_name, by_rows, by_way, first, in_rows, origin_at}
use Rattle.basic_toml_origin.specs.Ways.{compared, counts_behind, is_on_way, is_whole, left_in, meets, met, one_more, FitsIn}
use Rattle.basic_toml_origin.proofs.StandsBefore.{one_before}
use Rattle.basic_toml_origin.proofs.WaysMeet.{Counted, begins_is, behind_is, left_within, same_is}
use Rattle.basic_toml_origin.proofs.SectionsMeet.{section_counted, section_met}

or_more : (a b c : Option Origin) → option_or a (option_or b c) ≡ option_or (option_or a b) c
or_more None b c = refl
or_more (Some x) b c = refl

set_within : (xs : List ℕ) (l j v m : ℕ) → get_or xs j 0 ≤ m → v ≤ m → get_or (set xs l v) j 0 ≤ m
set_within [] l j v m h w = h
set_within (x ∷ xs) zero zero v m h w = w
set_within (x ∷ xs) zero (suc j) v m h w = h
set_within (x ∷ xs) (suc l) zero v m h w = h
set_within (x ∷ xs) (suc l) (suc j) v m h w = set_within xs l j v m h w

one_more_within : (counts : List ℕ) (m : Meeting) (i j : ℕ) → ((n : ℕ) → get_or counts n 0 ≤ i)
    → get_or (one_more counts m) j 0 ≤ i + 1
one_more_within counts Apart i j small = omega (arith, small j)
one_more_within counts Passes i j small = omega (arith, small j)
one_more_within counts (Reaches left) i j small =
    set_within counts left j (suc (get_or counts left 0)) (i + 1) (omega (arith, small j)) (omega (arith, small left))

pub within_behind : (counts : List ℕ) (a : Bool) (keys : KeyTexts) (p : Path) (i j : ℕ) → ((n : ℕ) → get_or counts n 0 ≤ i)
    → get_or (counts_behind counts a keys p) j 0 ≤ i + 1
within_behind counts false keys p i j small = omega (arith, small j)
within_behind counts true [] p i j small = omega (arith, small j)
within_behind counts true (k ∷ keys) p i j small = one_more_within counts (meets counts true (k ∷ keys) p) i j small

abbrev zeros : ℕ → List ℕ
zeros n = replicate n 0

pub zeros_within : (n j : ℕ) → get_or (zeros n) j 0 ≡ 0
zeros_within zero j = refl
zeros_within (suc n) zero = refl
zeros_within (suc n) (suc j) = zeros_within n j

pub zeros_length : (n : ℕ) → length (zeros n) ≡ n
zeros_length zero = refl
zeros_length (suc n) = ap suc (zeros_length n)

pub same_count : (counts new : List ℕ) (a : Bool) (keys : KeyTexts) (p : Path) → new ≡ counts_behind counts a keys p
    → length new ≡ length counts
same_count counts new false keys p e = ap length e
same_count counts new true [] p e = ap length e
same_count counts new true (k ∷ keys) p e = ap length e ∙ go (meets counts true (k ∷ keys) p)
  where
    sets : (xs : List ℕ) (l v : ℕ) → length (set xs l v) ≡ length xs
    sets [] l v = refl
    sets (x ∷ xs) zero v = refl
    sets (x ∷ xs) (suc l) v = ap suc (sets xs l v)

    go : (m : Meeting) → length (one_more counts m) ≡ length counts
    go Apart = refl
    go Passes = refl
    go (Reaches left) = sets counts left (suc (get_or counts left 0))

module _ (end : Option ℕ) (sections : List code.Section) (p : Path) where
  abbrev all : List Located
  all = located (up_to end (map section_of sections))

  abbrev from : List Section → ℕ → List Located
  from earlier i = located_from earlier (up_to end (map section_of (drop i sections)))

  -- before the section of a number: what those before it say, and what is left to the others
  pub record Going (i : ℕ) (row way : Option Origin) (counts : List ℕ) : Type 0 where
    pub earlier : List Section
    pub names : first (by_name p) all ≡ first (by_name p) (from earlier i)
    pub rows : first (by_rows p) all ≡ option_or row (first (by_rows p) (from earlier i))
    pub ways : first (by_way p) all ≡ option_or way (first (by_way p) (from earlier i))
    pub counted : Counted (count_in earlier) counts [] p
    pub room : length p ≤ length counts
    pub small : (n : ℕ) → get_or counts n 0 ≤ i

  pub begun : (counts : List ℕ) (n : ℕ) → n ≡ length p → counts ≡ replicate n 0 → Going 0 None None counts
  begun counts n l e = record {
    earlier = [];
    names = refl;
    rows = refl;
    ways = refl;
    counted = λ s q r f. ap (λ c. get_or c (length r) 0) e ∙ zeros_within n (length r);
    room = omega (arith, l, ap length e, zeros_length n);
    small = λ j. let none : get_or counts j 0 ≡ 0 = ap (λ c. get_or c j 0) e ∙ zeros_within n j in omega (arith, none);
  }

  module _ (i : ℕ) (row way : Option Origin) (counts : List ℕ) (s : code.Section) (m : Meeting)
      (g : Going i row way counts) (within : i < length sections) (is : s ≡ get_or sections i s)
      (before : ends_up_to end (map key_of s.header.items) ≡ true)
      (m-is : m ≡ met counts s.is_array (header_texts s.header.items) p) where
    -- what stands of the section
    abbrev seen : Section
    seen = record (section_of s) { rows = rows_up_to end (section_of s).rows }

    abbrev here : Located
    here = located_after g.earlier seen

    next : from g.earlier i ≡ here ∷ from (seen ∷ g.earlier) (i + 1)
    next =
        ap (λ (ss : List code.Section). located_from g.earlier (up_to end (map section_of ss)))
        (drop_more sections i s within ∙ ap (λ (x : code.Section). x ∷ drop (i + 1) sections) (sym is))
        ∙ ap (located_from g.earlier) (one_before end (section_of s) (map section_of (drop (i + 1) sections)) before)

    meeting : m ≡ compared here.path p
    meeting = m-is ∙ section_met g.earlier seen counts p g.counted

    pub fits : FitsIn p m
    fits left e = left_within here.path p left (sym meeting ∙ e)

    named : by_name p here ≡ (if is_whole m then Some (by_header (section_of s) p) else None)
    named =
        ap (λ b. if b then Some (by_header (section_of s) p) else None)
        (same_is here.path p ∙ ap is_whole (sym meeting))

    led : by_rows p here ≡ option_and_then (in_rows seen.rows) (left_in p m)
    led = ap (option_and_then (in_rows seen.rows)) (behind_is here.path p ∙ ap (left_in p) (sym meeting))

    passed : by_way p here ≡ (if is_on_way m then Some (by_header (section_of s) p) else None)
    passed =
        ap (λ b. if b then Some (by_header (section_of s) p) else None)
        (begins_is here.path p ∙ ap is_on_way (sym meeting))

    pub found : is_whole m ≡ true
        → Some (by_header (section_of s) p) ≡ origin_at (up_to end (map section_of sections)) p
    found e =
        let names : first (by_name p) all ≡ Some (by_header (section_of s) p) =
        g.names ∙ ap (first (by_name p)) next
        ∙ ap (λ o. option_or o (first (by_name p) (from (seen ∷ g.earlier) (i + 1))))
        (named ∙ ap (λ b. if b then Some (by_header (section_of s) p) else None) e) in
        sym (ap (λ o. option_or o (option_or (first (by_rows p) all) (first (by_way p) all))) names)

    pub on : (row-here way-here row-next way-next : Option Origin) (counts-behind : List ℕ) → is_whole m ≡ false
        → row-here ≡ option_and_then (in_rows seen.rows) (left_in p m)
        → way-here ≡ (if is_on_way m then Some (by_header (section_of s) p) else None)
        → counts-behind ≡ counts_behind counts s.is_array (header_texts s.header.items) p
        → row-next ≡ option_or row row-here → way-next ≡ option_or way way-here
        → Going (i + 1) row-next way-next counts-behind
    on row-here way-here row-next way-next counts-behind none row-is way-is counts-are row-more way-more =
        let later : List Located = from (seen ∷ g.earlier) (i + 1) in
        record {
          earlier = seen ∷ g.earlier;
          names =
              g.names ∙ ap (first (by_name p)) next
              ∙ ap (λ o. option_or o (first (by_name p) later))
              (named ∙ ap (λ b. if b then Some (by_header (section_of s) p) else None) none);
          rows =
              g.rows ∙ ap (λ ls. option_or row (first (by_rows p) ls)) next
              ∙ ap (λ o. option_or row (option_or o (first (by_rows p) later))) (led ∙ sym row-is)
              ∙ or_more row row-here (first (by_rows p) later)
              ∙ ap (λ o. option_or o (first (by_rows p) later)) (sym row-more);
          ways =
              g.ways ∙ ap (λ ls. option_or way (first (by_way p) ls)) next
              ∙ ap (λ o. option_or way (option_or o (first (by_way p) later))) (passed ∙ sym way-is)
              ∙ or_more way way-here (first (by_way p) later)
              ∙ ap (λ o. option_or o (first (by_way p) later)) (sym way-more);
          counted = λ t q r e.
              ap (λ c. get_or c (length r) 0) counts-are
              ∙ section_counted g.earlier seen counts p g.counted g.room t q r e;
          room =
              omega (arith, g.room, same_count counts counts-behind s.is_array (header_texts s.header.items) p counts-are);
          small = λ n.
              subst (λ (c : List ℕ). get_or c n 0 ≤ i + 1) (sym counts-are)
              (within_behind counts s.is_array (header_texts s.header.items) p i n g.small);
        }
