use Rattle.basic_toml_read.proofs.Common.{◌≡◌, [], length, refl, ap, sym, ◌∙◌, arith, rules, vec_len, with_root, Lines}
use Rattle.basic_toml_read.proofs.Common.{lines_of, lines_view, left_at, left_to_read}
use Rattle.basic_toml_read.proofs.reader.SectionReader.first.Goals as goal
use Rattle.basic_toml_read.proofs.StandsIn.{is_err}
use Rattle.basic_toml_read.proofs.ListsRead.{bracket_stands, root_stops, root_there, root_none, left_from}
use Rattle.basic_toml_read.proofs.SectionsHandedOut.{none_in, stops_on, rooted}

pub returns-in_err-bracket : goal.returns-in_err-bracket
returns-in_err-bracket c =
    rw (is_err c.from_residual.ensures.1) (stops_on _ refl (λ list so_far.
    root_stops c.args.self.now.text.now c.start.ensures.offset c.args.self.now.gathered c.rows.new.self _
    c.in_err-bracket.ensures))

-- there are no rows before the first header
pub returns-then-is_empty : goal.returns-then-is_empty
unfolding left_to_read
returns-then-is_empty c =
    let bytes = c.args.self.now.text.now in
    let start = c.start.ensures.offset in
    let e = c.in_ok-bracket.ensures in
    let there = root_there bytes start c.requires.ready.none e.read e.gaps in
    let less = left_from bytes c.start.result _ e.read.rest (omega (arith, c.start.ensures.boundary.0)) e.read.from
    e.read.ends in
    let none = root_none bytes start c.requires.ready.none e.read (sym c.is_empty.ensures ∙ c.if-is_empty.true) in
    let on = c.headed.ensures in
    record {
      read = λ list so_far. let first : list ≡ [] = rw c.requires.start at so_far in
          let root : with_root (lines_view (lines_of c.rows.new.self)) [] ≡ list =
          ap (λ (l : Lines). with_root (lines_view l) []) none ∙ sym first in
          on.read list (rw (← root) there);
      ready = on.ready;
      text = on.text;
      later = λ e. omega (arith, on.later e, ap (left_at bytes) c.requires.start, less);
    }

pub returns : goal.returns
unfolding left_to_read
returns c =
    let bytes = c.args.self.now.text.now in
    let mid = c.rows.new.self in
    let e = c.in_ok-bracket.ensures in
    let there = root_there bytes c.start.ensures.offset c.requires.ready.none e.read e.gaps in
    let less = left_from bytes c.start.result _ e.read.rest (omega (arith, c.start.ensures.boundary.0)) e.read.from
    e.read.ends in
    let counted : length mid.rows.items ≡ vec_len mid.rows = omega (arith, mid.rows.ok.0) in
    let some = sym c.is_empty.ensures ∙ c.if-is_empty.false in
    record {
      read = λ list so_far. let first : list ≡ [] = rw c.requires.start at so_far in
          rw (first, c.requires.empty.header, ap lines_view c.hand_out.ensures.handed)
          (rw (rooted mid.parents.items mid.rows.items (rw counted some)) at there);
      ready = let within = bracket_stands bytes there.rest _ there.ends in search (rules, none_in);
      text = refl;
      later = λ e. omega (arith, ap (left_at bytes) c.requires.start, less);
    }
