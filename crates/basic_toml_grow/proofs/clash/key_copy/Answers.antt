use Rattle.std.proofs.Common.{◌≡◌, ℕ, zero, suc, List, [], ◌∷◌, None, Option, refl, length, map}
use Rattle.std.proofs.Common.{option_map, slice_get, unwrap_or}
use Rattle.std.proofs.lemmas.Option.{slice_get_read, slice_get_past}
use Rattle.basic_toml_grammar.specs.NamedClash.{nth_key}
use Rattle.basic_toml_read.specs.declared.section.Key.{Key}
use Rattle.basic_toml_read.specs.SectionView.{key_of}
use Rattle.basic_toml_grow.proofs.clash.key_copy.Goals as goal

-- the key at a number, or none
nth_is : (keys : List Key) (n : ℕ) (o : Option Key) → slice_get keys n ≡ o
    → nth_key n (map key_of keys) ≡ unwrap_or (option_map key_of o) (record { offset = 0; text = [] })
nth_is [] n o is = rw (← is) refl
nth_is (k ∷ keys) zero o is = rw (← is) refl
nth_is (k ∷ keys) (suc n) o is = nth_is keys n o is

pub returns-in_ok-from_str-in-Some : goal.returns-in_ok-from_str-in-Some
returns-in_ok-from_str-in-Some c =
    let keys = c.args.keys.now in
    let at = c.in-Some.ensures.lookup in
    let read = slice_get_read keys (length keys) c.args.number c.in-Some.key.now refl at.3.0 at.1 in
    rw (c.in_ok-from_str-in-Some.ensures.ok, c.as_str.ensures.value) (nth_is keys c.args.number _ read)

pub returns-in-None : goal.returns-in-None
returns-in-None c =
    let past = slice_get_past c.args.keys.now c.args.number c.in-None.ensures.lookup.3 in
    rw c.new.ensures.bytes (nth_is c.args.keys.now c.args.number None past)
