-- Rows stop alike where the same stands below the table that they go into.
use Rattle.std.proofs.Common.{◌≡◌, Bool, true, false, cond, List, [], ◌∷◌, ◌++◌, Option, Some, ap, sym, ◌∙◌, subst}
use Rattle.std.proofs.Common.{append_assoc}
use Rattle.std.specs.Prelude.{if◌then◌else◌}
use Rattle.std.proofs.lemmas.Bool.{false≢true}
use Rattle.basic_toml_value.specs.Data.{Data}
use Rattle.basic_toml_grammar.specs.Sections.{Key, KeyTexts, Rows, no_rows, row}
use Rattle.basic_toml_grammar.specs.Steps.{Step, key, Path, path_eq}
use Rattle.basic_toml_grammar.specs.Mentions.{finished}
use Rattle.basic_toml_grammar.specs.Marks.{MarkKind, dotted, valued, Mark, mark}
use Rattle.basic_toml_grammar.specs.Standing.{Standing, fits, taken, standing_at}
use Rattle.basic_toml_grammar.specs.Entering.{rows_keyed}
use Rattle.basic_toml_grammar.specs.Stops.{Stop, at_row, last_stop, Outcome, goes_on, stops, and_on, try_mark, try_row}
use Rattle.basic_toml_grammar.specs.Stops.{held, try_rows, try_value}
use Rattle.basic_toml_grammar.proofs.Clash.PathsAgree.{append_none}

abbrev pub SameBelow : Path → List Mark → List Mark → Type 0
SameBelow p st now = (s : Step) (r : Path) → standing_at st (p ++ s ∷ r) ≡ standing_at now (p ++ s ∷ r)

data Alike (p : Path) : Outcome (List Mark) → Outcome (List Mark) → Type 0 where
  both_stop : {x : Stop} → Alike p (stops x) (stops x)
  both_go : {st now : List Mark} → SameBelow p st now → Alike p (goes_on st) (goes_on now)

mark_alike : (p q : Path) (k : MarkKind) (name : Option Standing → Stop) (st now : List Mark) → SameBelow p st now
    → standing_at st q ≡ standing_at now q → Alike p (try_mark q k name st) (try_mark q k name now)
mark_alike p q k name st now h e =
    subst (λ m. Alike p (if fits k m then goes_on (mark q k ∷ st) else stops (name m)) (try_mark q k name now)) (sym e)
    (go (fits k (standing_at now q)))
  where
    more : SameBelow p (mark q k ∷ st) (mark q k ∷ now)
    more s r = ap (λ m. cond (path_eq q (p ++ s ∷ r)) (Some (taken k m)) m) (h s r)

    go : (b : Bool) → Alike p (if b then goes_on (mark q k ∷ st) else stops (name (standing_at now q)))
        (if b then goes_on (mark q k ∷ now) else stops (name (standing_at now q)))
    go true = both_go more
    go false = both_stop

and_alike : (p : Path) (a c : Outcome (List Mark)) (f g : List Mark → Outcome (List Mark)) → Alike p a c
    → ((st now : List Mark) → SameBelow p st now → Alike p (f st) (g now)) → Alike p (and_on a f) (and_on c g)
and_alike p (stops x) (stops x') f g both_stop h = both_stop
and_alike p (goes_on st) (goes_on now) f g (both_go e) h = h st now e
and_alike p (goes_on st) (stops x) f g a h = elim a [ ]
and_alike p (stops x) (goes_on now) f g a h = elim a [ ]

same_at : (p : Path) (st now : List Mark) → SameBelow p st now → (r : Path) (s : Step)
    → standing_at st ((p ++ r) ++ s ∷ []) ≡ standing_at now ((p ++ r) ++ s ∷ [])
same_at p st now h [] s = ap (λ q. standing_at st (q ++ s ∷ [])) (append_none p) ∙ h s [] ∙
    ap (λ q. standing_at now (q ++ s ∷ [])) (sym (append_none p))
same_at p st now h (u ∷ r) s = ap (λ q. standing_at st q) (append_assoc p (u ∷ r) (s ∷ [])) ∙ h u (r ++ s ∷ []) ∙
    ap (λ q. standing_at now q) (sym (append_assoc p (u ∷ r) (s ∷ [])))

row_alike : (p r : Path) (before : KeyTexts) (k : Key) (ks : List Key) (v : Data) (st now : List Mark)
    → SameBelow p st now → Alike p (try_row (p ++ r) before (k ∷ ks) v st) (try_row (p ++ r) before (k ∷ ks) v now)
row_alike p r before k [] v st now h =
    mark_alike p ((p ++ r) ++ key k.text ∷ []) (valued v) (last_stop before k) st now h
    (same_at p st now h r (key k.text))
row_alike p r before k (l ∷ ks) v st now h =
    and_alike p (try_mark ((p ++ r) ++ key k.text ∷ []) dotted (λ m. at_row before k) st)
    (try_mark ((p ++ r) ++ key k.text ∷ []) dotted (λ m. at_row before k) now)
    (λ st. try_row ((p ++ r) ++ key k.text ∷ []) (before ++ k.text ∷ []) (l ∷ ks) v st)
    (λ st. try_row ((p ++ r) ++ key k.text ∷ []) (before ++ k.text ∷ []) (l ∷ ks) v st)
    (mark_alike p ((p ++ r) ++ key k.text ∷ []) dotted (λ m. at_row before k) st now h
    (same_at p st now h r (key k.text)))
    (λ st now h. subst (λ q. Alike p (try_row q (before ++ k.text ∷ []) (l ∷ ks) v st)
    (try_row q (before ++ k.text ∷ []) (l ∷ ks) v now)) (sym (append_assoc p r (key k.text ∷ [])))
    (row_alike p (r ++ key k.text ∷ []) (before ++ k.text ∷ []) l ks v st now h))

after_alike : (p : Path) (o a c : Outcome (List Mark)) → Alike p a c → Alike p (and_on o (λ _. a)) (and_on o (λ _. c))
after_alike p (stops x) a c h = both_stop
after_alike p (goes_on st) a c h = h

rows_alike : (p : Path) (rows : Rows) (st now : List Mark) → rows_keyed rows ≡ true → SameBelow p st now
    → Alike p (try_rows p rows st) (try_rows p rows now)
rows_alike p no_rows st now k h = both_go h
rows_alike p (row [] at v rows) st now k h = absurd (false≢true k)
rows_alike p (row (l ∷ ls) at v rows) st now k h =
    after_alike p (held (l ∷ ls) (try_value v))
    (and_on (try_row p [] (l ∷ ls) (finished v) st) (λ st. try_rows p rows st))
    (and_on (try_row p [] (l ∷ ls) (finished v) now) (λ st. try_rows p rows st))
    (and_alike p (try_row p [] (l ∷ ls) (finished v) st) (try_row p [] (l ∷ ls) (finished v) now)
    (λ st. try_rows p rows st) (λ st. try_rows p rows st)
    (subst (λ q. Alike p (try_row q [] (l ∷ ls) (finished v) st) (try_row q [] (l ∷ ls) (finished v) now))
    (append_none p) (row_alike p [] [] l ls (finished v) st now h))
    (λ st now h. rows_alike p rows st now k h))

stops_alike : (p : Path) (a c : Outcome (List Mark)) (x : Stop) → Alike p a c → a ≡ stops x → c ≡ stops x
stops_alike p (stops y) (stops y') x both_stop e = e
stops_alike p (goes_on st) (goes_on now) x (both_go h) e = cc
stops_alike p (goes_on st) (stops y) x a e = elim a [ ]
stops_alike p (stops y) (goes_on now) x a e = elim a [ ]

pub same_stop : (p : Path) (rows : Rows) (st now : List Mark) (x : Stop) → rows_keyed rows ≡ true
    → SameBelow p st now → try_rows p rows st ≡ stops x → try_rows p rows now ≡ stops x
same_stop p rows st now x k h e =
    stops_alike p (try_rows p rows st) (try_rows p rows now) x (rows_alike p rows st now k h) e
