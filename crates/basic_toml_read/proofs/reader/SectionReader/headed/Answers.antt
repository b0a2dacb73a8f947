use Rattle.basic_toml_read.proofs.Common.{refl, ap, ◌∙◌, arith, ◌+◌, rules, IsCharBoundary, lines_view, left_at}
use Rattle.basic_toml_read.proofs.Common.{left_to_read, Behind}
use Rattle.basic_toml_read.proofs.reader.SectionReader.headed.Goals as goal
use Rattle.basic_toml_read.proofs.StandsIn.{is_err}
use Rattle.basic_toml_read.proofs.ListsRead.{bracket_stands, list_more, list_over, list_stops, left_from}
use Rattle.basic_toml_read.proofs.SectionsHandedOut.{none_in, stops_on}

-- the end of the text
pub returns-in_default : goal.returns-in_default
returns-in_default c =
    let is = c.requires.behind ∙ ap (λ o. Behind o) c.in_default.is in
    search (rules, list_over c.args.self.now.text.now)

pub returns-in_err-header : goal.returns-in_err-header
returns-in_err-header c =
    let at = c.in-Some.at in
    rw (is_err c.from_residual.ensures.1) (stops_on _ refl (λ list so_far.
    list_stops c.args.self.now.text.now at list (rw (c.requires.behind ∙ ap (λ o. Behind o) c.in-Some.is) at so_far)
    _ c.in_err-header.ensures))

pub returns : goal.returns
unfolding left_to_read
returns c =
    let bytes = c.args.self.now.text.now in
    let at = c.in-Some.at in
    let read = c.in_ok-header.ensures.read in
    let is = c.requires.behind ∙ ap (λ o. Behind o) c.in-Some.is in
    let here : IsCharBoundary bytes at = rw is at c.requires.ready.within in
    let less = left_from bytes (at + 1) _ read.rest (omega (arith, here.0)) read.from read.ends in
    record {
      read = λ list so_far. rw (ap lines_view c.hand_out.ensures.handed)
          (list_more bytes at list (rw is at so_far) _ _ _ read);
      ready = let within = bracket_stands bytes read.rest _ read.ends in search (rules, none_in);
      text = refl;
      later = λ e. omega (arith, here.0, ap (left_at bytes) is, less);
    }
