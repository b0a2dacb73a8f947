-- `Pairs` as a type that may hold the type that holds it, by its values.
use Rattle.std.specs.Prelude.{◌≡◌, ℕ, List, [], ◌∷◌, map}
use mathlib.Core.Path.{refl, sym, ap, subst}
use mathlib.Core.Former.{Former, one_more, this, const, pair, list, via}
use base.Stored.{code_map, gcons, coded×, coded_list, coded_ℕ}
use denote.RattleType.{RattleType}
use denote.HoleLaws.{Alike}
use denote.HolePlaces.{Recodes, struct_places, laid}
use denote.Hole.Fix.{over}
use denote.Param.Weighed.{Weighed, w_list, w_pair, w_const}
use denote.Model.Placed.{held, view_places}
use Rattle.std.specs.formers.vec.Vec as vec
use Rattle.std.specs.declared.alloc.Global.{Global}
use Rattle.std.specs.contracts.alloc.Global as heap
use Rattle.std.specs.contracts.impls.GlobalAllocator.TheImpl.{ghosts}
use Rattle.basic_toml_index.specs.declared.Index.{Index}
use Rattle.basic_toml_value.specs.declared.text.Text.{Text}
use Rattle.basic_toml_value.specs.declared.pairs.Pair.{Pair}
use Rattle.basic_toml_value.specs.declared.pairs.Pairs.TheInside.{Inside}
use Rattle.basic_toml_value.specs.declared.pairs.Pairs.TheView.{view, invariant}
use Rattle.basic_toml_value.specs.contracts.pairs.Pair as P
use Rattle.basic_toml_value.specs.contracts.pairs.Pairs as C
use Rattle.basic_toml_value.specs.contracts.pairs.Pairs.TheInside as I
use Rattle.basic_toml_value.specs.Text.{text_bytes}
use Rattle.basic_toml_value.specs.Entries.{pair_seen, seen, texts_of}
use Rattle.basic_toml_index.specs.Index.{IsIndex}
use Rattle.basic_toml_index.specs.IndexLaws.{IsIndex-prop}

abbrev Bytes : Type 0
Bytes = List ℕ

-- a key beside one of g's values
abbrev entry : Former {0} → Former {0}
entry g = pair (const Bytes) g

abbrev on_value : {X Y : Type 0} → (X → Y) → Bytes × X → Bytes × Y
on_value h p = (p.0, h p.1)

abbrev pub the_former : Former {0} → Former {0}
the_former g = list (entry g)

abbrev pub the_weighed : {g : Former {0}} → Weighed g → Weighed (the_former g)
the_weighed w = w_list (w_pair (w_const Bytes) w)

pub the_empty : List (Bytes × ⊥)
the_empty = []

-- a pair in memory
abbrev in_memory : Former {0}
in_memory = via (pair (const Text) this) Pair (λ X p. (p.key, p.value))
    (λ X v. record { key = v.0; value = v.1 }) (λ X p. refl) (λ X v. refl)

abbrev on_pair : {X Y : Type 0} → (X → Y) → Pair X → Pair Y
on_pair h p = record { key = p.key; value = h p.value }

abbrev fields : Former {0}
fields = via (pair (const Index) (vec.the_former in_memory Global)) Inside (λ X a. (a.index, a.entries))
    (λ X v. record { index = v.0; entries = v.1 }) (λ X a. refl) (λ X v. refl)

seen-map : {X Y : Type 0} (h : X → Y) (ps : List (Pair X)) → seen (map (on_pair h) ps) ≡ map (on_value h) (seen ps)
seen-map h [] = refl
seen-map h (p ∷ ps) = ap (λ l. on_value h (pair_seen p) ∷ l) (seen-map h ps)

texts_of-map : {X Y : Type 0} (h : X → Y) (ps : List (Pair X)) → texts_of (map (on_pair h) ps) ≡ texts_of ps
texts_of-map h [] = refl
texts_of-map h (p ∷ ps) = ap (λ l. text_bytes p.key ∷ l) (texts_of-map h ps)

seen-held : (X : Type 0) (ps : List (Pair X)) → held (list (entry this)) X (seen ps) ≡ held (list in_memory) X ps
seen-held X [] = refl
seen-held X (p ∷ ps) = λ i. (one_more (seen-held X ps i).0, (p.value, (seen-held X ps i).1))

module _ (R S : RattleType) (h : R.Denot → S.Denot) where
  pair_places : Alike R S h → Alike (P.the_row R) (P.the_row S) (on_pair h)
  pair_places a = struct_places (P.the_type R) (P.the_type S) (λ n. n, (h, tt)) (on_pair h) (λ d. refl) refl
      ((refl, (λ n. refl, λ n. refl)), (laid _ _ _ a, tt))

  pub the_places : Alike R S h → Alike (C.the_row R) (C.the_row S) ((the_former this).map R.Denot S.Denot h)
  the_places a = view_places fields (the_former this) view (λ X Y k u. seen-map k u.entries.items)
      (λ X u. seen-held X u.entries.items)
      R.Denot S.Denot h (C.the_row R).coded (C.the_row S).coded
      (invariant R.Denot) (invariant S.Denot) (λ u. IsIndex-prop _ _) (λ u. IsIndex-prop _ _)
      (λ u. subst (λ (keys : List Bytes). IsIndex keys u.index) (sym (texts_of-map h u.entries.items)))
      (λ u. subst (λ (keys : List Bytes). IsIndex keys u.index) (texts_of-map h u.entries.items))
      (over (I.the_row R)) (over (I.the_row S))
      (struct_places (I.the_type R) (I.the_type S) (λ n. n, (vec.mapped (on_pair h), tt)) _ (λ d. refl) refl (
        (refl, (λ n. refl, λ n. refl)),
        (laid _ _ _ (vec.the_places heap.the_row ghosts (P.the_row R) (P.the_row S) (on_pair h) (pair_places a)), tt),
      ))

  pub the_codes_placed : Recodes R S h → Recodes (C.the_row R) (C.the_row S) ((the_former this).map R.Denot S.Denot h)
  the_codes_placed e d = sym
      (code_map (coded× (coded_list coded_ℕ) R.coded).code (coded× (coded_list coded_ℕ) S.coded).code (on_value h)
      (λ x i. gcons ((coded_list coded_ℕ).code x.0) (sym (e x.1) i)) d)
