-- The names that most proofs here cite, passed on from one place. Declares nothing.
pub use Rattle.std.proofs.Common.{◌≡◌, ◌≤◌, ◌+◌, ◌-◌, ℕ, suc, List, [], ◌∷◌, ◌++◌, length, refl, ap, sym, ◌∙◌, arith}
pub use Rattle.std.proofs.Common.{inr, length-append, Some, None, ◌<◌, Option, Vec, Global, ◌*◌, max, append_assoc}
pub use Rattle.std.proofs.Common.{Result, Ok, Err, rules, true, false, subst, Bool, map, eqb-true, drop, take, ◌==◌}
pub use Rattle.std.proofs.Common.{cond, inl, append-nil, get_or, IfErr, ℤ}
pub use Rattle.std.proofs.Math.Seq.{drop-append_seam, take-append_seam}
pub use Rattle.std.proofs.lemmas.Bool.{or_from, and_parts}
pub use Rattle.std.proofs.lemmas.Bool.Decides.{nat_tests}
pub use Rattle.std.proofs.lemmas.List.{length-map, map-append, nil_from_length, length-drop}
pub use Rattle.std.proofs.lemmas.Str.{encodes-IsAscii}
pub use Rattle.std.specs.Option.{option_or}
pub use Rattle.std.specs.Str.{IsCharBoundary, IsUtf8}
pub use Rattle.std.specs.Vec.{vec_len}
pub use Rattle.basic_toml_explain.specs.Stop.{StopsInside}
pub use Rattle.basic_toml_explain.specs.StopHoles.{hole_behind}
pub use Rattle.basic_toml_explain.specs.declared.stop.Stop.{Stop}
pub use Rattle.basic_toml_explain.specs.declared.stop.Why.{Why}
pub use Rattle.basic_toml_explain.specs.declared.stop.Why.TheVariants.{Memory, Deep, Newline}
pub use Rattle.basic_toml_grammar.proofs.Grammar.ReaderIsComplete.{gap, value_found, row_found, rows_found}
pub use Rattle.basic_toml_grammar.proofs.Grammar.ReaderIsComplete.{header_found}
pub use Rattle.basic_toml_grammar.proofs.Grammar.ReaderIsSound.{keys_read, value_read, sign_read, key_read, row_read}
pub use Rattle.basic_toml_grammar.proofs.Grammar.ReaderIsSound.{line_end_read, rows_read, header_read}
pub use Rattle.basic_toml_grammar.proofs.Grammar.StringsAreRead.{then_some}
pub use Rattle.basic_toml_grammar.specs.DeepStops.{DeepRow, DeepValue, DeepElements, DeepFields, DeepKeys, DeepHeader}
pub use Rattle.basic_toml_grammar.specs.DeepStops.{array, inline, DeepStop, DeepRows}
pub use Rattle.basic_toml_grammar.specs.Entering.{and_then}
pub use Rattle.basic_toml_grammar.specs.Grammar.{IsKeys, with_root, is_wordlike, after_gap, IsRow, IsRows, IsHeader}
pub use Rattle.basic_toml_grammar.specs.Grammar.{EndsLine, word_value}
pub use Rattle.basic_toml_grammar.specs.Holes.{Hole, HoleInRow, HoleInElements, HoleInFieldsOn, HoleInKeys, HoleInValue}
pub use Rattle.basic_toml_grammar.specs.Holes.{HoleInSections}
pub use Rattle.basic_toml_grammar.specs.Levels.{value_level, rows_level, highest_level}
pub use Rattle.basic_toml_grammar.specs.Reader.{char_at, key_at, if_found, Assigned, word_at, string_value_at}
pub use Rattle.basic_toml_grammar.specs.Reader.{line_end_at, section_list_of, string_at, end_of}
pub use Rattle.basic_toml_grammar.specs.Sections.{Key, Elements, no_elements, element, Raw, Rows, no_rows, row, Section}
pub use Rattle.basic_toml_read.specs.AtPlace.{Leaves}
unfoldable pub use Rattle.basic_toml_read.specs.FrontOf.{keys_of, value_of, row_of, elements_of, fields_of}
unfoldable pub use Rattle.basic_toml_read.specs.FrontOf.{fields_on_of, rows_of, header_of, sections_of}
pub use Rattle.basic_toml_read.specs.Gathers.{Lines, row_level, IsRowRead, IsValueRead, lines_of, ClosesAt, and_lines}
pub use Rattle.basic_toml_read.specs.Gathers.{ReadsValue, no_lines, lines_view}
pub use Rattle.basic_toml_read.specs.KeyText.{key_text_bytes}
pub use Rattle.basic_toml_read.specs.Lists.{sections_from, AreRowsRead, NextAt, PassesGaps, IsFrom, EndsLineAt, IsGap}
pub use Rattle.basic_toml_read.specs.SectionView.{key_of, elements_view, raw_of, lined_of, rows_from, placed_of}
pub use Rattle.basic_toml_read.specs.SectionView.{rows_seen, section_of}
pub use Rattle.basic_toml_read.specs.SectionsRead.{IsStop, SoFar, IsEmpty, left_at}
unfoldable pub use Rattle.basic_toml_read.specs.SectionsRead.{left_to_read}
pub use Rattle.basic_toml_read.specs.StopsAt.{Misses, MissesKey, ReadsKeyAt, MissesString}
pub use Rattle.basic_toml_read.specs.StopsReached.{LeadsTo, in_value, in_row, in_elements, in_fields, AtDeep, in_header}
pub use Rattle.basic_toml_read.specs.StopsReached.{StopsAtKey, in_rows, in_sections, IfDeep, InHole}
pub use Rattle.basic_toml_read.specs.declared.key_text.KeyText.{KeyText}
pub use Rattle.basic_toml_read.specs.declared.reader.Place.TheVariants.{Behind}
pub use Rattle.basic_toml_read.specs.declared.scalar.Keyed.{Keyed}
pub use Rattle.basic_toml_read.specs.declared.scalar.Valued.{Valued}
pub use Rattle.basic_toml_read.specs.declared.section.Element.{Element, out-Element}
pub use Rattle.basic_toml_read.specs.declared.section.Raw.{the_lemmas}
pub use Rattle.basic_toml_read.specs.declared.section.Row.{Row, roll-Row, out-Row}
pub use Rattle.basic_toml_read.specs.declared.values.Gathered.{Gathered}
pub use Rattle.basic_toml_tokens.proofs.RestsArePartsOfText.{over_at_end}
pub use Rattle.basic_toml_tokens.proofs.SpacesAreRuns.{after_twice}
pub use Rattle.basic_toml_tokens.proofs.StepIsTheFold.{text_end, offset_is}
pub use Rattle.basic_toml_tokens.proofs.TextBetweenOffsets.{length-between}
pub use Rattle.basic_toml_tokens.specs.Punctuation.{IsPunctuationEnd}
pub use Rattle.basic_toml_tokens.specs.Reading.{between, IsRun}
pub use Rattle.basic_toml_tokens.specs.Text.{Text, text_at, after_blanks, StartsWith, is_comment, after_run, is_blank}
pub use Rattle.basic_toml_tokens.specs.Text.{is_keylike, folded, run}
pub use Rattle.basic_toml_value.specs.Nesting.{nesting_limit}
