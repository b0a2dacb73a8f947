-- Headers: their keys, and their brackets.
use Rattle.basic_toml_read.proofs.Common.{inr, Err, ◌≡◌, ℕ, ◌<◌, Bool, true, false, List, refl, ◌∙◌, arith, Option}
use Rattle.basic_toml_read.proofs.Common.{Some, None, Ok, ◌+◌, length, map, ap, sym, eqb-true, length-map}
use Rattle.basic_toml_read.proofs.Common.{nesting_limit, Text, StartsWith, after_blanks, text_at, IsPunctuationEnd, Key}
use Rattle.basic_toml_read.proofs.Common.{and_then, IsKeys, DeepKeys, DeepHeader, Hole, HoleInKeys, char_at}
use Rattle.basic_toml_read.proofs.Common.{StopsInside, Stop, Newline, AtDeep, in_header, Leaves, keys_of, header_of}
use Rattle.basic_toml_read.proofs.Common.{ClosesAt, key_of, Misses, sign_read}
use Rattle.basic_toml_grammar.specs.Reader as reader
use Rattle.basic_toml_explain.specs.declared.stop.Why.TheVariants as why
use Rattle.basic_toml_grammar.proofs.Nesting.WithinTheLimit as within
use Rattle.basic_toml_grammar.specs.DeepStops.{table, array_of_tables}
use Rattle.basic_toml_grammar.specs.Holes.{HoleInHeader}
use Rattle.basic_toml_read.specs.StopsReached.{InHeaderHole}
use Rattle.basic_toml_read.specs.Lists.{HeaderKeys, AreHeaderKeys}
use Rattle.basic_toml_grammar.proofs.Nesting.WithinTheLimit.{keys_within}
use Rattle.basic_toml_read.proofs.StandsIn.{at_deep, key_stops_on, SameDeep, nothing_fits}
use Rattle.basic_toml_read.proofs.EnoughSteps.{header_is}
use Rattle.basic_toml_read.proofs.GoesOn.{found_from, then_from, misses_on}
use Rattle.basic_toml_read.proofs.LeftAfter.{sign_missing, sign_there}
use Rattle.basic_toml_read.proofs.AfterKeys.{keys_there}
use Rattle.basic_toml_read.proofs.KeysTold.{KeysStop}

-- the rest of a header after its first closing bracket, and after its keys
abbrev pub ending : ℕ → Bool → List Key → Text → Option reader.Headed
ending p false keys rest = Some (record { offset = p; keys = keys; is_array = false; rest = rest })
ending p true keys rest =
    and_then (char_at 93 rest) (λ last. Some (record { offset = p; keys = keys; is_array = true; rest = last.1 }))

abbrev pub closing : ℕ → Bool → List Key × Text → Option reader.Headed
closing p is_array keys = and_then (char_at 93 (after_blanks keys.1)) (λ close. ending p is_array keys.0 close.1)

keys_kept : (p : ℕ) (a : Bool) (keys : List Key × Text) (h : reader.Headed) → closing p a keys ≡ Some h
    → keys.0 ≡ h.keys
keys_kept p false keys h e = grind (arith, e)
keys_kept p true keys h e = grind (arith, e)

-- the brackets of a header, up to its first key
pub record Opened (bytes : List ℕ) (at start : ℕ) (is_array : Bool) : Type 0 where
  pub is : header_of (text_at bytes at) ≡ and_then (keys_of (text_at bytes start)) (closing at is_array)
  pub later : at < start
  pub deep : SameDeep (DeepKeys nesting_limit 2 (text_at bytes start)) (DeepHeader nesting_limit (text_at bytes at))
  pub key : (there : Text) → HoleInKeys (text_at bytes start) Hole.key there
      → HoleInHeader (text_at bytes at) Hole.key there
  pub after_keys : (keys : List Key) (mid : Text) → IsKeys (text_at bytes start) keys mid
      → HoleInHeader (text_at bytes at) Hole.after_header_keys (after_blanks mid)
  pub half_closed : is_array ≡ true → (keys : List Key) (mid last : Text) (p : ℕ)
      → IsKeys (text_at bytes start) keys mid → StartsWith 93 (after_blanks mid) p last
      → HoleInHeader (text_at bytes at) Hole.second_bracket last

-- of a table
pub one_bracket : {bytes : List ℕ} {at inner start : ℕ}
    → Leaves bytes inner start (after_blanks (text_at bytes inner)) → ClosesAt 91 Newline bytes at (Ok inner)
    → IsPunctuationEnd 91 bytes inner None → Opened bytes at start false
one_bracket {bytes = bytes} {at = at} {inner = inner} left opens one =
    let none = sign_missing 91 (text_at bytes inner) one in
    let bracket = sign_read 91 (text_at bytes at) (at, text_at bytes inner) opens.0 in
    record {
      is = rw left.left (header_is (text_at bytes at) ∙ then_from _ opens.0 ∙ found_from _ _ none);
      later = omega (arith, opens.2, left.forward);
      deep = rw left.left (record { leads = λ p. table bracket; backs = λ p. within.table_keys bracket none });
      key = λ there d. HoleInHeader.table_keys bracket none (rw left.left at d);
      after_keys = λ keys mid ks. HoleInHeader.table_end bracket (rw left.left at ks);
      half_closed = λ e. cc;
    }

-- of an array
pub two_brackets : {bytes : List ℕ} {at inner first start : ℕ}
    → Leaves bytes first start (after_blanks (text_at bytes first)) → ClosesAt 91 Newline bytes at (Ok inner)
    → IsPunctuationEnd 91 bytes inner (Some first) → Opened bytes at start true
two_brackets {bytes = bytes} {at = at} {inner = inner} {first = first} left opens two =
    let bracket = sign_read 91 (text_at bytes at) (at, text_at bytes inner) opens.0 in
    let second = two.0 in
    record {
      is = rw left.left (header_is (text_at bytes at) ∙ then_from _ opens.0 ∙ found_from _ _ (sign_there two.0));
      later = omega (arith, opens.2, two.2, left.forward);
      deep = rw left.left
          (record { leads = λ p. array_of_tables bracket second; backs = λ p. within.array_keys bracket second });
      key = λ there d. HoleInHeader.array_keys bracket second (rw left.left at d);
      after_keys = λ keys mid ks. HoleInHeader.array_end bracket second (rw left.left at ks);
      half_closed = λ e keys mid last p ks close. HoleInHeader.array_last bracket second (rw left.left at ks) close;
    }

-- what is known of a stop in a header
abbrev pub HeaderStops : List ℕ → ℕ → Stop → Type 0
HeaderStops bytes at stop = record {
  read : Misses stop.why (header_of (text_at bytes at)) (λ h. nesting_limit < length h.keys + 1);
  inside : StopsInside bytes stop;
  deep : AtDeep (DeepHeader nesting_limit (text_at bytes at)) stop.why stop.at;
  hole : InHeaderHole {A = Unit {0}} bytes at (Err stop);
}

module _ {bytes : List ℕ} {at start : ℕ} {is_array : Bool} (b : Opened bytes at start is_array) where
  -- no keys
  pub no_header_keys : (stop : Stop) → KeysStop bytes start 2 (λ n. nesting_limit < n + 1) stop
      → HeaderStops bytes at stop
  no_header_keys stop e = record {
    read = misses_on stop.why (keys_of (text_at bytes start)) (closing at is_array) _ _ b.is
        (λ keys h f high. omega (arith, high, ap length (keys_kept at is_array keys h f))) e.read;
    inside = e.inside;
    deep = at_deep stop.why stop.at _ e.read b.deep.leads (λ none. b.deep.backs) e.deep;
    hole = λ some. key_stops_on (text_at bytes start) (in_header (text_at bytes at)) b.key stop.why
        (text_at bytes stop.at) e.hole;
  }

  module _ {found : HeaderKeys} (k : AreHeaderKeys bytes start found) where
    by_keys : header_of (text_at bytes at)
        ≡ and_then (char_at 93 (text_at bytes found.end)) (λ close. ending at is_array (map key_of found.keys) close.1)
    by_keys = rw k.after (b.is ∙ then_from _ k.is)

    keys_stand : IsKeys (text_at bytes start) (map key_of found.keys) k.mid
    keys_stand = keys_there (text_at bytes start) (map key_of found.keys, k.mid) k.is

    -- nothing is too deep in keys that are read
    header_within : (p : ℕ) → DeepHeader nesting_limit (text_at bytes at) p → ⊥
    header_within p d =
        keys_within keys_stand (omega (arith, k.limit, length-map found.keys key_of))
        (ap (char_at 46) (sym k.after) ∙ k.over) (b.deep.backs p d)

    -- a bracket that is missing after the keys
    pub unclosed : char_at 93 (text_at bytes found.end) ≡ None
        → HeaderStops bytes at (record { at = found.end; why = why.Bracket })
    unclosed none = record {
      read = by_keys ∙ then_from _ none;
      inside = inr k.boundary;
      deep = header_within;
      hole = λ some. record {
        wanted = Hole.after_header_keys;
        takes = refl;
        misses = record {
          hole = rw k.after (b.after_keys _ _ keys_stand);
          missing = nothing_fits Hole.after_header_keys 93 46 (text_at bytes found.end) none k.over (λ c. refl);
        };
      };
    }

    -- the first closing bracket
    module _ (close : ℕ) (closes : ClosesAt 93 why.Bracket bytes found.end (Ok close)) where
      pub by_bracket : header_of (text_at bytes at) ≡ ending at is_array (map key_of found.keys) (text_at bytes close)
      by_bracket = by_keys ∙ then_from _ closes.0

      -- a second one that is missing
      pub half_closed : is_array ≡ true → char_at 93 (text_at bytes close) ≡ None
          → HeaderStops bytes at (record { at = close; why = why.Bracket })
      half_closed array none = record {
        read = by_bracket ∙ rw array (then_from _ none);
        inside = inr closes.1;
        deep = header_within;
        hole = λ some. record {
          wanted = Hole.second_bracket;
          takes = refl;
          misses = record {
            hole = b.half_closed array _ _ _ _ keys_stand
                (sym k.after ∙ sign_read 93 (text_at bytes found.end) (found.end, text_at bytes close) closes.0);
            missing = λ f. within.no_such none (rw (eqb-true f.char 93 f.fit) at f.starts);
          };
        };
      }
