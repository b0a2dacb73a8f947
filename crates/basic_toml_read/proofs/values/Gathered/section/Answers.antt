use Rattle.basic_toml_read.proofs.Common.{◌≡◌, length, ap, arith, rules, refl, sym, ◌∙◌, text_at, HoleInSections}
use Rattle.basic_toml_read.proofs.Common.{header_of, in_header, in_sections}
use Rattle.basic_toml_read.proofs.values.Gathered.section.Goals as goal
use Rattle.basic_toml_grammar.specs.DeepStops.{header, this_section}
use Rattle.basic_toml_read.proofs.StandsIn.{is_err, at_deep, moved_in, stops_on, then_in}
use Rattle.basic_toml_read.proofs.NothingTooDeep.{its_header}
use Rattle.basic_toml_read.proofs.ListsRead.{line_stops, rows_stop, section_there}

-- no header
pub returns-in_err-header : goal.returns-in_err-header
returns-in_err-header c =
    let stop = c.in_err-header.field-0.0 in
    let e = c.in_err-header.ensures in
    rw (is_err c.from_residual.ensures.1) (record {
      read = search rules;
      inside = e.inside;
      deep = λ line same. at_deep stop.why stop.at _ e.read (λ p d. this_section (header (rw same at d)))
          (λ none p d. rw same (its_header (ap header_of (sym same) ∙ none) d)) e.deep;
      hole = λ line same some. let moved = moved_in in_header same in
          stops_on {outer = in_sections line} (then_in moved.on moved.same
          (record { on = λ h at d. HoleInSections.in_header d; same = λ at d. refl })) stop.why
          (text_at c.args.text.now stop.at) (e.hole some);
    })

-- a line that goes on after it
pub returns-in_err-line : goal.returns-in_err-line
returns-in_err-line c =
    let e = c.in_err-line.ensures in
    rw (is_err c.from_residual-in_err-line.ensures.1) (line_stops c.in_ok-header.ensures.read _ e.read e.inside)

-- the rows
pub returns-in_err-next : goal.returns-in_err-next
returns-in_err-next c =
    let counted : c.len.result ≡ length c.header_at.new.keys.items =
    omega (arith, c.len.ensures, c.header_at.new.keys.ok.0) in
    rw (is_err c.from_residual-in_err-next.ensures.1)
    (rows_stop c.in_ok-header.ensures.read c.in_ok-line.line c.in_ok-line.ensures.read c.args.self.now
    c.rows.new.self _ (rw counted at c.in_err-next.ensures))

pub returns-clause-read : goal.returns-clause-read
returns-clause-read c =
    let counted : c.len.result ≡ length c.header_at.new.keys.items =
    omega (arith, c.len.ensures, c.header_at.new.keys.ok.0) in
    section_there c.in_ok-header.ensures.read c.in_ok-line.line c.in_ok-line.ensures.read c.requires.none
    (rw counted at c.in_ok-next.ensures.read)
