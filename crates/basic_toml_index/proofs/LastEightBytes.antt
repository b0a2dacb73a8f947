-- The last eight bytes of a key, read in one go or put after zeros.
use Rattle.std.proofs.Common.{◌≡◌, ℕ, ◌+◌, ◌-◌, ◌<◌, ◌≤◌, List, ◌++◌, length, take, drop, replicate, refl, sym, ap}
use Rattle.std.proofs.Common.{◌∙◌, arith}
use Rattle.std.proofs.lemmas.List.{drop-append-le, drop-replicate, take-replicate, drop_all, append-nil}
use Rattle.std.proofs.Math.Seq.{drop-append-add}
use Rattle.std.proofs.lemmas.List.Edits.{paste_all}
use Rattle.std.proofs.lemmas.Slice.{put_mid-paste}
use borrow.Rule.Slice.PartMut.{put_mid}
use Rattle.basic_toml_index.specs.Index.{last_eight}

pub last_eight-long : (bytes : List ℕ) → 8 ≤ length bytes → drop (length bytes - 8) bytes ≡ last_eight bytes
last_eight-long bytes long =
    let e : length bytes ≡ 8 + (length bytes - 8) = omega arith in
    sym (ap (λ n. drop n (replicate 8 0 ++ bytes)) e ∙ drop-append-add (replicate 8 0) bytes (length bytes - 8))

pub last_eight-short : (bytes : List ℕ) → length bytes < 8
    → put_mid (8 - length bytes) (8 - (8 - length bytes)) (replicate 8 0) bytes ≡ last_eight bytes
last_eight-short bytes short =
    let len = length bytes in
    let front : take (8 - len) (replicate 8 0) ≡ drop len (replicate 8 0) =
    take-replicate (8 - len) 8 0 (omega arith) ∙ sym (drop-replicate len 8 0) in
    let back : put_mid (8 - len) (8 - (8 - len)) (replicate 8 0) bytes ≡ take (8 - len) (replicate 8 0) ++ bytes =
    put_mid-paste (8 - len) (8 - (8 - len)) (replicate 8 0) bytes bytes len refl (omega arith) refl
    ∙ paste_all (replicate 8 0) (8 - len) bytes len refl
    ∙ ap (λ l. take (8 - len) (replicate 8 0) ++ l)
    (ap (λ l. bytes ++ l) (drop_all (8 - len + len) (replicate 8 0) (omega arith)) ∙ append-nil bytes) in
    back ∙ ap (λ l. l ++ bytes) front ∙ sym (drop-append-le len (replicate 8 0) bytes (omega arith))
