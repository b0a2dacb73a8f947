-- Texts that are the same up to an offset: their characters before it; and there is one such offset.
use Rattle.std.proofs.Common.{◌≡◌, ◌≤◌, [], ◌∷◌, ◌++◌, length, refl, ap, sym, ◌∙◌, subst, arith}
use Rattle.basic_toml_tokens.specs.Text.{Text}
use Rattle.basic_toml_grammar.proofs.Grammar.EndChangesNothing.{Parts, at_end, past}

pub record Fronts (here there text other : Text) : Type 0 where
  pub chars : Text
  pub text_is : text ≡ chars ++ here
  pub other_is : other ≡ chars ++ there

pub front_of : {here there text other : Text} → Parts here there text other → Fronts here there text other
front_of (at_end t o) = record { chars = []; text_is = t; other_is = o }
front_of (past {x = x} k) =
    let f = front_of k in
    record {
      chars = x ∷ f.chars;
      text_is = ap (λ (t : Text). x ∷ t) f.text_is;
      other_is = ap (λ (t : Text). x ∷ t) f.other_is;
    }

pub parts_of : (chars : Text) {here there text : Text} → text ≡ chars ++ here
    → Parts here there text (chars ++ there)
parts_of [] e = at_end e refl
parts_of (x ∷ chars) {here = here} {there = there} {text = text} e =
    subst (λ (t : Text). Parts here there t (x ∷ chars ++ there)) (sym e) (past (parts_of chars refl))

pub shorter : {here there text other : Text} → Parts here there text other → length here ≤ length text
shorter (at_end t o) = let h = ap length t in omega (arith, h)
shorter (past k) = let h = shorter k in omega (arith, h)

pub parts_same : {here there text one other : Text} → Parts here there text one → Parts here there text other
    → one ≡ other
parts_same (at_end t o) (at_end t' o') = o ∙ sym o'
parts_same (at_end t o) (past k) = let h = ap length t in let l = shorter k in absurd (omega (arith, h, l))
parts_same (past k) (at_end t o) = let h = ap length t in let l = shorter k in absurd (omega (arith, h, l))
parts_same (past {x = x} k) (past m) = ap (λ (t : Text). x ∷ t) (parts_same k m)
