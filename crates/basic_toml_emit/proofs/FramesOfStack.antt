-- The frames of a stack.
use Rattle.std.proofs.Common.{◌≡◌, ℕ, zero, suc, Option, Some, None, MatchOption, Result, Ok, Err, IfOk, get_or}
use Rattle.std.proofs.Common.{take, slice_set, slice_index_or, ◌+◌, ◌-◌, ◌<◌, List, [], ◌∷◌, ◌++◌, length, refl, sym}
use Rattle.std.proofs.Common.{◌∙◌, ap, arith, append-nil, cond, add-one, Bool, true, false}
use Rattle.basic_toml_emit.specs.Open as o
use Rattle.basic_toml_emit.specs.Calls as c
use Rattle.basic_toml_layout.specs.Texts.{joined, written_key}
use Rattle.basic_toml_emit.specs.Frames.{frames_onto, frames_of, frame_of, stage_of, path_part, first_after}
use Rattle.basic_toml_emit.specs.declared.frames.Stage.{Stage}
use Rattle.basic_toml_emit.specs.declared.frames.Stage.TheVariants.{NoKey, KeyPlace, KeySet}
use Rattle.basic_toml_emit.specs.declared.frames.Frame.{Frame}

-- whether nothing stands before a key in a path
abbrev pub is_first : List (List ℕ) → Bool
is_first [] = true
is_first (k ∷ ks) = false

frames_onto-push : (fs : List Frame) (f : Frame) (below : List o.Frame)
    → frames_onto (fs ++ (f ∷ [])) below ≡ frame_of f ∷ frames_onto fs below
frames_onto-push [] f below = refl
frames_onto-push (x ∷ fs) f below = frames_onto-push fs f (frame_of x ∷ below)

pub frames_push : (fs gs : List Frame) (f : Frame) → gs ≡ fs ++ (f ∷ []) → frames_of gs ≡ frame_of f ∷ frames_of fs
frames_push fs gs f e = ap frames_of e ∙ frames_onto-push fs f []

frames_onto-length : (fs : List Frame) (below : List o.Frame) → length (frames_onto fs below) ≡ length fs + length below
frames_onto-length [] below = omega arith
frames_onto-length (f ∷ fs) below = omega (arith, frames_onto-length fs (frame_of f ∷ below))

pub frames_length : (fs : List Frame) → length (frames_of fs) ≡ length fs
frames_length fs = omega (arith, frames_onto-length fs [])

no_frames : (fs : List Frame) → length fs ≡ 0 → frames_of fs ≡ []
no_frames [] e = refl
no_frames (f ∷ fs) e = absurd (omega arith)

something_open : (fs : List o.Frame) → 0 < length fs → c.is_nothing_open fs ≡ false
something_open [] e = absurd (omega arith)
something_open (f ∷ fs) e = refl

pub nothing_open_yes : (fs : List Frame) → length fs ≡ 0 → c.is_nothing_open (frames_of fs) ≡ true
nothing_open_yes fs e = ap c.is_nothing_open (no_frames fs e)

pub nothing_open_no : (fs : List Frame) → 0 < length fs → c.is_nothing_open (frames_of fs) ≡ false
nothing_open_no fs e = something_open (frames_of fs) (omega (arith, frames_length fs))

-- what an emitter at the start holds
pub fresh_leaves : (t : List ℕ) (fs : List Frame) (d : Bool) → o.state t (frames_of fs) d ≡ o.fresh
    → (t ≡ []) × (length fs ≡ 0) × (d ≡ false)
fresh_leaves t fs d e =
    (ap (λ s. s.text) e, sym (frames_length fs) ∙ ap (λ s. length s.open_frames) e, ap (λ s. s.is_done) e)

pub path_with_sections : (fs : List o.Frame) → c.path (c.with_sections fs) ≡ c.path fs
path_with_sections [] = refl
path_with_sections (o.a_table s t ∷ fs) = refl
path_with_sections (o.an_array k later ∷ fs) = refl

pub array_end_with_row : (fs : List o.Frame) → c.array_end (c.with_row fs) ≡ c.array_end fs
array_end_with_row [] = refl
array_end_with_row (o.a_table s t ∷ fs) = refl
array_end_with_row (o.an_array k later ∷ fs) = refl

joined_more : (k : List ℕ) (ks : List (List ℕ)) → joined (k ∷ ks) ≡ joined ks
    ++ (cond (is_first ks) [] (46 ∷ []) ++ written_key k)
joined_more k [] = refl
joined_more k (l ∷ ks) = refl

frames_take : (fs : List Frame) (i : ℕ) (d : Frame) → i < length fs → d ≡ get_or fs i d
    → frames_of (take (suc i) fs) ≡ frame_of d ∷ frames_of (take i fs)
frames_take fs i d lt e = frames_push (take i fs) (take (suc i) fs) d (take_step fs i d lt e)
  where
    take_step : (fs : List Frame) (i : ℕ) (d : Frame) → i < length fs → d ≡ get_or fs i d
        → take (suc i) fs ≡ take i fs ++ (d ∷ [])
    take_step [] i d lt e = absurd (omega arith)
    take_step (f ∷ fs) zero d lt e = ap (λ z. z ∷ []) (sym e)
    take_step (f ∷ fs) (suc i) d lt e = ap (λ z. f ∷ z) (take_step fs i d (omega arith) e)

path_next : (f : o.Frame) (fs : List o.Frame) → joined (c.path (f ∷ fs)) ≡ joined (c.path fs)
    ++ path_part (is_first (c.path fs)) f
path_next (o.a_table s t) fs = joined_more (c.last_key t.last) (c.path fs)
path_next (o.an_array k later) fs = sym (append-nil (joined (c.path fs)))

first_next : (f : o.Frame) (fs : List o.Frame) → is_first (c.path (f ∷ fs)) ≡ first_after (is_first (c.path fs)) f
first_next (o.a_table s t) fs = refl
first_next (o.an_array k later) fs = refl

pub path_more : (fs : List Frame) (i : ℕ) (d : Frame) → i < length fs → d ≡ get_or fs i d
    → joined (c.path (frames_of (take (i + 1) fs))) ≡ joined (c.path (frames_of (take i fs)))
    ++ path_part (is_first (c.path (frames_of (take i fs)))) (frame_of d)
path_more fs i d lt e = rw add-one (ap (λ z. joined (c.path z)) (frames_take fs i d lt e) ∙
    path_next (frame_of d) (frames_of (take i fs)))

pub first_more : (fs : List Frame) (i : ℕ) (d : Frame) → i < length fs → d ≡ get_or fs i d
    → is_first (c.path (frames_of (take (i + 1) fs)))
    ≡ first_after (is_first (c.path (frames_of (take i fs)))) (frame_of d)
first_more fs i d lt e =
    rw add-one (ap (λ z. is_first (c.path z)) (frames_take fs i d lt e) ∙
    first_next (frame_of d) (frames_of (take i fs)))

-- the innermost frame, of those that a slice was split into
pub innermost_is : {A B : Type 0} (frame : A → Frame) (outer : B → List Frame) (fs : List Frame) (r : Option (A × B))
    → MatchOption r (length fs ≡ 0) (λ p. (fs ≡ outer p.1 ++ (frame p.0 ∷ [])) × (length (outer p.1) + 1 ≡ length fs))
    → MatchOption r (frames_of fs ≡ []) (λ p. frames_of fs ≡ frame_of (frame p.0) ∷ frames_of (outer p.1))
innermost_is frame outer fs None e = no_frames fs e
innermost_is frame outer fs (Some p) e = frames_push (outer p.1) fs (frame p.0) e.0

init_set : (fs : List Frame) (n : ℕ) (f : Frame) → length fs ≡ suc n → slice_set fs n f ≡ take n fs ++ (f ∷ [])
init_set [] n f e = absurd (omega arith)
init_set (x ∷ []) zero f e = refl
init_set (x ∷ y ∷ fs) zero f e = absurd (omega arith)
init_set (x ∷ fs) (suc n) f e = ap (λ z. x ∷ z) (init_set fs n f (omega arith))

init_last : (fs : List Frame) (n : ℕ) (d : Frame) → length fs ≡ suc n → fs ≡ take n fs ++ (slice_index_or fs n d ∷ [])
init_last [] n d e = absurd (omega arith)
init_last (x ∷ []) zero d e = refl
init_last (x ∷ y ∷ fs) zero d e = absurd (omega arith)
init_last (x ∷ fs) (suc n) d e = ap (λ z. x ∷ z) (init_last fs n d (omega arith))

-- the innermost frame stands after those around it
pub innermost_at_end : (fs : List Frame) (d f : Frame) → 0 < length fs → slice_index_or fs (length fs - 1) d ≡ f
    → frames_of fs ≡ frame_of f ∷ frames_of (take (length fs - 1) fs)
innermost_at_end fs d f after is =
    frames_push (take (length fs - 1) fs) fs (slice_index_or fs (length fs - 1) d)
    (init_last fs (length fs - 1) d (omega arith)) ∙ ap (λ x. frame_of x ∷ frames_of (take (length fs - 1) fs)) is

module _ (change : List o.Frame → List o.Frame) (fs : List Frame) (d f : Frame) (after : 0 < length fs)
    (is : slice_index_or fs (length fs - 1) d ≡ f) where
  abbrev init : List Frame
  init = take (length fs - 1) fs

  -- the innermost frame is another one
  pub frames_changed : (g : Frame) → ((below : List o.Frame) → frame_of g ∷ below ≡ change (frame_of f ∷ below))
      → frames_of (slice_set fs (length fs - 1) g) ≡ change (frames_of fs)
  frames_changed g h = frames_push init _ g (init_set fs (length fs - 1) g (omega arith)) ∙
      (h (frames_of init) ∙ sym (ap change (innermost_at_end fs d f after is)))

  -- the innermost frame stays
  pub frames_kept : ((below : List o.Frame) → frame_of f ∷ below ≡ change (frame_of f ∷ below))
      → frames_of (slice_set fs (length fs - 1) (slice_index_or fs (length fs - 1) d)) ≡ change (frames_of fs)
  frames_kept h = ap (λ g. frames_of (slice_set fs (length fs - 1) g)) is ∙ frames_changed f h

pub if_ok : {A E : Type 0} {P Q : Type 0} → (P → Q) → (r : Result A E) → IfOk r (λ _. P) → IfOk r (λ _. Q)
if_ok f (Ok a) p = f p
if_ok f (Err e) p = p

pub if_ok_at : {A E : Type 0} {P Q : A → Type 0} → ((a : A) → P a → Q a) → (r : Result A E) → IfOk r P → IfOk r Q
if_ok_at f (Ok a) p = f a p
if_ok_at f (Err e) p = p

-- a key counts where it is set alone
pub stage_without_key : (s : Stage) (k l : List ℕ) → ¬ (s ≡ KeySet) → stage_of s k ≡ stage_of s l
stage_without_key NoKey k l n = refl
stage_without_key KeyPlace k l n = refl
stage_without_key KeySet k l n = absurd (n refl)
