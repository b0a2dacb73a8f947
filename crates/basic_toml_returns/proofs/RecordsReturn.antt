-- A record returns whose fields do, where no name stands twice.
use Rattle.std.proofs.Common.{◌≡◌, ◌≢◌, ℕ, Bool, ◌==◌, true, false, not, ◌&&◌, if◌then◌else◌, List, [], ◌∷◌, refl, sym, ap, ◌∙◌}
use Rattle.std.proofs.Common.{Option, Some, None, is_some, arith, codes, map}
use Rattle.std.proofs.lemmas.Bool.{and_parts}
use Rattle.std.proofs.lemmas.Bool.Decides.{Decides-eqb}
use Rattle.basic_toml_value.specs.Data.{Data, Members}
use Rattle.basic_toml_layout.specs.Written as w
use Rattle.basic_toml_emit.specs.Items.{Item}
use Rattle.basic_toml_write.specs.Parts.{an_opening, a_part, a_field, the_end}
use Rattle.basic_toml_write.specs.Spelling as spelling
use Rattle.basic_toml_typed.specs.FieldKeys.{text_number, position_among, are_listed, member_at, child_at}
use Rattle.basic_toml_typed.specs.Records.{record_reads}
use Rattle.basic_toml_typed.specs.TypeReads.{HasOnly}
use Rattle.basic_toml_returns.specs.Means.{Means, RowsMeaning, Rows, no_rows, row, members_in, table_of, with_member}
use Rattle.basic_toml_returns.specs.Returned.{ReadBack}
use Rattle.basic_toml_returns.specs.RoundTrips.{Fields, done, needed, maybe, with_default, only, as_read, calls_of, record_calls}
use Rattle.basic_toml_returns.specs.RoundTrips.{record_holds, rows_of, record_meant, allows, AreApart}
use Rattle.basic_toml_returns.specs.Rows.{is_new, are_new, are_rows_among, HasRows}
use Rattle.basic_toml_returns.specs.SpelledParts.{as_entry, kept_entry}
use Rattle.basic_toml_returns.specs.WrittenFields.{AllHold}
use Rattle.basic_toml_returns.proofs.FieldsReturn.{field_returns, default_returns, option_means, option_returns}

-- ---- what its calls mean

field_means : (name : List ℕ) (is rest : List Item) (found : Option Data) (rows : Rows) → Means is found
    → RowsMeaning rest rows → RowsMeaning (a_field name is rest) (row name found rows)
unfolding a_part
field_means name is rest found rows part more = record {
  held = w.entry name part.value more.held;
  spelled = spelling.by_field (as_entry part.spelled rest) more.spelled;
  whole = kept_entry name part.value more.held ∙ (λ i. with_member name (part.whole i) (more.whole i));
}

fields_mean : {S : Type 0} (fields : Fields S) (s : S) → record_holds fields s
    → RowsMeaning (calls_of fields s) (rows_of fields s)
unfolding the_end AllHold
fields_mean done s held = record { held = w.no_entries; spelled = spelling.table_end; whole = refl }
fields_mean (needed T name get rest) s held =
    field_means (codes name) _ _ _ _ (T.read_back.returns (get s) held.0).means (fields_mean rest s held.1)
fields_mean (maybe T name get rest) s held =
    field_means (codes name) _ _ _ _ (option_means T.read_back (text_number (codes name)) (get s) held.0)
    (fields_mean rest s held.1)
fields_mean (with_default T name IsDefault get rest) s held =
    field_means (codes name) _ _ _ _ (T.read_back.returns (get s) held.0).means (fields_mean rest s held.1)
fields_mean (only names rest) s held = fields_mean rest s held

pub record_means : {S : Type 0} (fields : Fields S) (s : S) → record_holds fields s
    → Means (record_calls fields s) (Some (record_meant fields s))
unfolding an_opening
record_means fields s held =
    let more : RowsMeaning (calls_of fields s) (rows_of fields s) = fields_mean fields s held in
    record {
      value = w.table more.held;
      spelled = spelling.root (spelling.a_table more.spelled);
      whole = ap (λ members. Some (Data.table members)) more.whole;
    }

-- ---- its names

rows_among : (names : List ℕ) (rows : Rows) → are_rows_among names rows ≡ true
    → are_listed names (members_in rows) ≡ true
rows_among names no_rows among = refl
rows_among names (row name None rows) among =
    rows_among names rows (and_parts (is_some (position_among names name)) (are_rows_among names rows) among).1
rows_among names (row name (Some d) rows) among =
    let parts = and_parts (is_some (position_among names name)) (are_rows_among names rows) among in
    let rest : are_listed names (members_in rows) ≡ true = rows_among names rows parts.1 in
    (λ i. parts.0 i && rest i)

-- ---- what its table has

itself : (n : ℕ) → (n == n) ≡ true
itself n = grind (arith, Decides-eqb n n)

other : (a b : ℕ) → a ≢ b → (a == b) ≡ false
other a b differ = grind (arith, Decides-eqb a b)

-- What was seen before is seen with one more.
still : (same is : Bool) → is ≡ false → (not same && is) ≡ false
still true is old = refl
still false is old = old

old_name : (seen : List ℕ) (s key : ℕ) → is_new seen s ≡ false → is_new (key ∷ seen) s ≡ false
old_name seen s key old = still (s == key) (is_new seen s) old

-- A name that is seen is no new one.
differ : (seen : List ℕ) (s key : ℕ) → is_new seen s ≡ false → is_new seen key ≡ true → key ≢ s
differ seen s key old new = λ same. cc

-- Where the key is none of a row's, the row changes nothing there.
past : (found : Option Data) (name : List ℕ) (ms : Members) (key : ℕ) → (key == text_number name) ≡ false
    → member_at (with_member name found ms) key ≡ member_at ms key
past None name ms key test = refl
past (Some d) name ms key test = ap (λ (b : Bool). if b then Some d else member_at ms key) test

-- Nothing stands under a name that is seen.
none_at : (seen : List ℕ) (s : ℕ) (rows : Rows) → is_new seen s ≡ false → are_new seen rows ≡ true
    → member_at (members_in rows) s ≡ None
none_at seen s no_rows old new = refl
none_at seen s (row name found rows) old new =
    let parts = and_parts (is_new seen (text_number name)) (are_new (text_number name ∷ seen) rows) new in
    let differs : text_number name ≢ s = differ seen s (text_number name) old parts.0 in
    past found name (members_in rows) s (other s (text_number name) (λ same. differs (sym same)))
    ∙ none_at (text_number name ∷ seen) s rows (old_name seen s (text_number name) old) parts.1

-- What the members have at each row's name, they have with another row in front whose name is seen.
kept : (seen name : List ℕ) (found : Option Data) (ms : Members) (rows : Rows) → is_new seen (text_number name) ≡ false
    → are_new seen rows ≡ true → HasRows (Data.table ms) rows
    → HasRows (Data.table (with_member name found ms)) rows
unfolding child_at
kept seen name found ms no_rows old new has = has
kept seen name found ms (row n d rows) old new has =
    let parts = and_parts (is_new seen (text_number n)) (are_new (text_number n ∷ seen) rows) new in
    let test : (text_number n == text_number name) ≡ false =
    other (text_number n) (text_number name) (differ seen (text_number name) (text_number n) old parts.0) in (
      past found name ms (text_number n) test ∙ has.0,
      kept (text_number n ∷ seen) name found ms rows (old_name seen (text_number name) (text_number n) old) parts.1
          has.1,
    )

-- a row is at its name
first : (name : List ℕ) (found : Option Data) (ms : Members) → member_at ms (text_number name) ≡ None
    → member_at (with_member name found ms) (text_number name) ≡ found
first name None ms none = none
first name (Some d) ms none =
    ap (λ (b : Bool). if b then Some d else member_at ms (text_number name)) (itself (text_number name))

pub has_all : (seen : List ℕ) (rows : Rows) → are_new seen rows ≡ true → HasRows (Data.table (members_in rows)) rows
unfolding child_at
has_all seen no_rows new = tt
has_all seen (row name found rows) new =
    let parts = and_parts (is_new seen (text_number name)) (are_new (text_number name ∷ seen) rows) new in
    let old : is_new (text_number name ∷ seen) (text_number name) ≡ false =
    ap (λ (b : Bool). not b && is_new seen (text_number name)) (itself (text_number name)) in (
      first name found (members_in rows) (none_at (text_number name ∷ seen) (text_number name) rows old parts.1),
      kept (text_number name ∷ seen) name found (members_in rows) rows old parts.1
          (has_all (text_number name ∷ seen) rows parts.1),
    )

-- ---- what is read from it

keeps_to : (names : List ℕ) (rows : Rows) → are_rows_among names rows ≡ true → HasOnly names (table_of rows)
unfolding HasOnly
keeps_to names rows among = rows_among names rows among

-- where a table has these rows, and none but those of another list
pub fields_read : {S : Type 0} (fields : Fields S) (s : S) (all : Rows) → record_holds fields s
    → HasRows (table_of all) (rows_of fields s) → allows fields all ≡ true → record_reads (as_read fields) (table_of all) s
unfolding AllHold
fields_read done s all held has keeps = tt
fields_read (needed T name get rest) s all held has keeps = (
  (field_returns T.read_back (text_number (codes name)) (get s) (T.read_back.returns (get s) held.0)).read (table_of all) refl
      has.0,
  fields_read rest s all held.1 has.1 keeps,
)
fields_read (maybe T name get rest) s all held has keeps = (
  (option_returns T.read_back (text_number (codes name)) (get s) held.0).read (table_of all) refl has.0,
  fields_read rest s all held.1 has.1 keeps,
)
fields_read (with_default T name IsDefault get rest) s all held has keeps = (
  (default_returns T.read_back (text_number (codes name)) IsDefault (get s) (T.read_back.returns (get s) held.0)).read
      (table_of all) refl has.0,
  fields_read rest s all held.1 has.1 keeps,
)
fields_read (only names rest) s all held has keeps =
    let parts = and_parts (are_rows_among (map text_number names) all) (allows rest all) keeps in
    (keeps_to (map text_number names) all parts.0, fields_read rest s all held has parts.1)

-- what else is read there means the same
pub same_rows : {S : Type 0} (fields : Fields S) (s other : S) (d : Data) → record_holds fields s
    → HasRows d (rows_of fields s) → record_reads (as_read fields) d other → rows_of fields other ≡ rows_of fields s
unfolding AllHold
same_rows done s other d held has read = refl
same_rows (needed T name get rest) s other d held has read =
    let here = (field_returns T.read_back (text_number (codes name)) (get s) (T.read_back.returns (get s) held.0)).once d
    (get other) read.0 has.0 in
    let more : rows_of rest other ≡ rows_of rest s = same_rows rest s other d held.1 has.1 read.1 in
    (λ i. row (codes name) (here i) (more i))
same_rows (maybe T name get rest) s other d held has read =
    let here = (option_returns T.read_back (text_number (codes name)) (get s) held.0).once d (get other) read.0 has.0 in
    let more : rows_of rest other ≡ rows_of rest s = same_rows rest s other d held.1 has.1 read.1 in
    (λ i. row (codes name) (here i) (more i))
same_rows (with_default T name IsDefault get rest) s other d held has read =
    let here = (default_returns T.read_back (text_number (codes name)) IsDefault (get s)
    (T.read_back.returns (get s) held.0)).once d (get other) read.0 has.0 in
    let more : rows_of rest other ≡ rows_of rest s = same_rows rest s other d held.1 has.1 read.1 in
    (λ i. row (codes name) (here i) (more i))
same_rows (only names rest) s other d held has read = same_rows rest s other d held has read.1

-- a record by its fields, a line each
abbrev pub record_back : {S : Type 0} (fields : Fields S) → AreApart fields → ReadBack S
record_back fields apart = record {
  calls = record_calls fields;
  holds = record_holds fields;
  reads = record_reads (as_read fields);
  meant = record_meant fields;
  returns = λ s held.
      let parts = and_parts (are_new [] (rows_of fields s)) (allows fields (rows_of fields s)) (apart s) in
      let has : HasRows (record_meant fields s) (rows_of fields s) =
      has_all [] (rows_of fields s) parts.0 in
      record {
        means = record_means fields s held;
        read = fields_read fields s (rows_of fields s) held has parts.1;
        once = λ other read. ap table_of (same_rows fields s other (record_meant fields s) held has read);
      };
}
