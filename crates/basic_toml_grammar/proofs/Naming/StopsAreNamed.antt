-- What stops a section after those that were entered is named, where no row goes on from a value.
use Rattle.std.proofs.Common.{◌≡◌, true, List, [], ◌∷◌, ◌++◌, refl, sym, subst}
use Rattle.std.proofs.Common.{inl, inr, length}
use Rattle.std.specs.Prelude.{◌⊎◌}
use Rattle.basic_toml_grammar.specs.Sections.{texts, Section}
use Rattle.basic_toml_grammar.specs.Steps.{Path}
use Rattle.basic_toml_grammar.specs.Placed.{path_of, elements_at}
use Rattle.basic_toml_grammar.specs.Marks.{named, Mark}
use Rattle.basic_toml_grammar.specs.Standing.{fits, standing_at}
use Rattle.basic_toml_grammar.specs.NamedClash.{dotted_faults, repeated_faults_of, NamesClash}
use Rattle.basic_toml_grammar.specs.Stops.{Stop, stop_fault, stops, try_enter}
use Rattle.basic_toml_grammar.specs.Statements.{StopsAreNamed}
use Rattle.basic_toml_grammar.proofs.AmongElements.{Among}
use Rattle.basic_toml_grammar.proofs.Clash.PathsAgree.{offsets}
use Rattle.basic_toml_grammar.proofs.Clash.WalkTakesMarks.{added_at}
use Rattle.basic_toml_grammar.proofs.Clash.EnteringAccepts.{offset_same}
use Rattle.basic_toml_grammar.proofs.Clash.SectionsLeaveMarks.{onto, Past, entered}
use Rattle.basic_toml_grammar.proofs.Naming.WhereHeadersStop.{WalkStop, walk_stops}
use Rattle.basic_toml_grammar.proofs.Naming.PairsAreNamed.{NoneDotted, pair_named, repeat_named}
use Rattle.basic_toml_grammar.proofs.Naming.HeaderStopsAreNamed.{there, header_named}
use Rattle.basic_toml_grammar.proofs.Naming.WhereRowsStop.{RowHit}
use Rattle.basic_toml_grammar.proofs.Naming.RepeatedRowsAreNamed.{Repeats, both_none, rows_stop}
use Rattle.basic_toml_grammar.proofs.Naming.RowsSeeBelow.{same_stop}
use Rattle.basic_toml_grammar.proofs.Clash.EarlierRowsAreNotMet.{keyed_rows}
use Rattle.basic_toml_grammar.proofs.Naming.RowsOnHeadersAreNamed.{row_named}

-- the rows of one section
own_dotted : (ss : List Section) (s : Section) (later : List Section) → NoneDotted (ss ++ s ∷ later)
    → dotted_faults s.rows ≡ []
own_dotted [] s later e = (both_none _ _ e).0
own_dotted (x ∷ ss) s later e = own_dotted ss s later (both_none _ _ e).1

-- a section stops where it is placed
placed_stop : (b : List Section) (s : Section) (st : List Mark) (x : Stop) → Past b st → try_enter s st ≡ stops x
    → WalkStop (there b s).element s.rows (there b s).target [] (length (texts s.header)) st x
placed_stop b s st x h e =
    subst (λ l. WalkStop l.element s.rows l.target [] (length (texts s.header)) st x)
    (offset_same (λ p. added_at st p) (λ p. elements_at p (offsets b)) h.counted s)
    (walk_stops s.is_array s.rows [] (texts s.header) st st x h.sized (λ r. refl) e)

pub stops_named : StopsAreNamed
stops_named ss s later st x k y d e f = go (placed_stop b s st x past f)
  where
    b : List Section
    b = onto ss []

    past : Past b st
    past = entered ss st k e

    p : Path
    p = path_of (there b s)

    of_rows : fits named (standing_at st p) ≡ true → Repeats s.rows x ⊎ RowHit p s.rows st x
        → NamesClash (ss ++ s ∷ later) (stop_fault s x)
    of_rows n (inl h) =
        repeat_named ss s later d
        (subst (λ x. Among (stop_fault s x) (repeated_faults_of s)) (sym h.is) (h.among (λ keys. texts s.header ++ keys)))
    of_rows n (inr h) = pair_named ss s later d (row_named b s st x y past n h)

    go : WalkStop (there b s).element s.rows (there b s).target [] (length (texts s.header)) st x
        → NamesClash (ss ++ s ∷ later) (stop_fault s x)
    go (inl h) = pair_named ss s later d (header_named b s st x y past h)
    go (inr h) =
        of_rows h.fitted
        (rows_stop p s.rows st x past.tells (own_dotted ss s later d)
        (same_stop p s.rows h.now st x (keyed_rows s y) h.same h.stopped))
