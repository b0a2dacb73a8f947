-- A list of items comes to a text exactly where it spells a written value without an unsupported shape, and the text
-- is its layout.
use Rattle.std.proofs.Common.{◌≡◌, ℕ, List, [], ◌∷◌, sym, ◌∙◌, ap, Bool, true, false, Result, Ok, Err}
use Rattle.basic_toml_layout.specs.Written.{Written}
use Rattle.basic_toml_emit.specs.Items.{Item}
use Rattle.basic_toml_write.specs.Spelling.{Spells}
use Rattle.basic_toml_layout.specs.Layout.{layout}
use Rattle.basic_toml_write.specs.Shapes.{is_unsupported}
use Rattle.basic_toml_emit.specs.Open.{State, state, Frame, fresh}
use Rattle.basic_toml_emit.specs.Rules.{CallFault}
use Rattle.basic_toml_emit.specs.Calls.{run, on_ok, finished, hand_out, outcome}
use Rattle.basic_toml_write.proofs.FittingValueIsTaken.{spelled}
use Rattle.basic_toml_write.proofs.TakenListSpells.{taken}
use Rattle.basic_toml_write.proofs.FitsWithoutUnsupportedShape.{fits, shaped}

module _ (limit : ℕ) where
  pub outcome-layout : (is : List Item) (w : Written) → Spells is w → is_unsupported limit w ≡ false
      → outcome limit is ≡ Ok (layout w)
  outcome-layout is w s u = ap (on_ok finished) (spelled limit s (fits limit w u))

  handed_out : (t t' : List ℕ) (fs : List Frame) (d : Bool) → hand_out t fs d ≡ Ok t' → state t fs d ≡ state t' [] true
  handed_out t t' [] true e = ap (λ r. state (elim r [ Ok x ↦ x | Err x ↦ t ]) [] true) e
  handed_out t t' [] false e = absurd (cc)
  handed_out t t' (f ∷ fs) d e = absurd (cc)

  was_whole : (r : Result State CallFault) (t : List ℕ) → on_ok finished r ≡ Ok t → r ≡ Ok (state t [] true)
  was_whole (Err x) t e = absurd (cc)
  was_whole (Ok s) t e = ap Ok (handed_out s.text t s.open_frames s.is_done e)

  pub layout-outcome : (is : List Item) (t : List ℕ) → outcome limit is ≡ Ok t → (w : Written) × (Spells is w)
      × (is_unsupported limit w ≡ false) × (t ≡ layout w)
  layout-outcome is t e =
      let h : run limit fresh is ≡ Ok (state t [] true) = was_whole (run limit fresh is) t e in
      let r = taken limit t is h in
      (r.0, r.1, shaped limit r.0 r.2, ap (λ x. elim x [ Ok s ↦ s.text | Err y ↦ t ]) (sym h ∙ spelled limit r.1 r.2))
