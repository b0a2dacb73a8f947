-- What an emitter hands out.
use Rattle.std.proofs.Common.{◌≡◌, ℕ, List, [], ◌∷◌, refl, Bool, true, false, ◌&&◌, Ok, Err, string_bytes}
use Rattle.basic_toml_emit.specs.Open as o
use Rattle.basic_toml_emit.specs.Rules.{call_order}
use Rattle.basic_toml_emit.specs.Calls.{hand_out, is_nothing_open}
use Rattle.basic_toml_emit.specs.Frames.{frames_of}
use Rattle.basic_toml_emit.specs.Emitter.{HandsOut}
use Rattle.basic_toml_emit.specs.declared.error.EmitError.TheVariants.{CallOrder}
use Rattle.basic_toml_emit.specs.declared.emitter.Emitter.{Emitter}

hand_out-whole : (t : List ℕ) (fs : List o.Frame) (d : Bool) → (d && is_nothing_open fs) ≡ true → hand_out t fs d ≡ Ok t
hand_out-whole t [] true e = refl
hand_out-whole t [] false e = cc
hand_out-whole t (f ∷ fs) true e = cc
hand_out-whole t (f ∷ fs) false e = cc

hand_out-other : (t : List ℕ) (fs : List o.Frame) (d : Bool) → (d && is_nothing_open fs) ≡ false
    → hand_out t fs d ≡ Err call_order
hand_out-other t [] true e = cc
hand_out-other t [] false e = refl
hand_out-other t (f ∷ fs) d e = refl

pub hands_out_whole : (e : Emitter) → (e.is_done && is_nothing_open (frames_of e.frames.items)) ≡ true
    → HandsOut CallOrder e (Ok e.text)
hands_out_whole e whole = hand_out-whole (string_bytes e.text) (frames_of e.frames.items) e.is_done whole

pub hands_out_nothing : (e : Emitter) → (e.is_done && is_nothing_open (frames_of e.frames.items)) ≡ false
    → HandsOut CallOrder e (Err CallOrder)
hands_out_nothing e other = (refl, hand_out-other (string_bytes e.text) (frames_of e.frames.items) e.is_done other)
