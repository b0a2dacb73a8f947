-- Why `sections` answers no list: the error of a stop is one that the text allows.
use Rattle.basic_toml_read.proofs.Common.{inl, inr, ◌<◌, ℕ, List, sym, subst, nesting_limit, folded, highest_level}
use Rattle.basic_toml_read.proofs.Common.{DeepStop, section_list_of, Stop, Why, Memory, Deep, Misses, IsStop, AtDeep}
use Rattle.std.specs.Prelude.{IsUtf8}
use Rattle.basic_toml_grammar.specs.Faults.{Fault}
use Rattle.basic_toml_explain.specs.Explain.{ExplainsWhy}
use Rattle.basic_toml_read.specs.SectionsAnswer.{HoldsMore, IsRefused, memory, deep, outside}
use Rattle.basic_toml_grammar.proofs.Grammar.ReaderIsComplete.{list_found}
use Rattle.basic_toml_grammar.proofs.Nesting.DeepStopsAreTooDeep.{deep_stops_are_too_deep}

why_answered : (bytes : List ℕ) (w : Why) (at : ℕ) (fault : Fault) → IsUtf8 bytes → HoldsMore (folded bytes)
    → AtDeep (DeepStop nesting_limit (folded bytes)) w at
    → Misses w (section_list_of (folded bytes)) (λ sections. nesting_limit < highest_level sections)
    → ExplainsWhy bytes w at fault → IsRefused bytes fault
why_answered bytes Memory at fault u more low m e = subst (IsRefused bytes) (sym e) (memory more)
why_answered bytes Deep at fault u more low m e =
    subst (IsRefused bytes) (sym e) (deep (λ sections g. m sections (list_found (folded bytes) sections g))
    (deep_stops_are_too_deep nesting_limit at bytes u low) low)
why_answered bytes _ at fault u more low m (inl e) = subst (IsRefused bytes) (sym e) (memory more)
why_answered bytes _ at fault u more low m (inr e) =
    outside (e (λ sections g. cc (m, list_found (folded bytes) sections g))) low

-- the error of a stop is one that the text allows
pub stop_answered : (bytes : List ℕ) (stop : Stop) (fault : Fault) → IsUtf8 bytes → IsStop bytes stop
    → ExplainsWhy bytes stop.why stop.at fault → IsRefused bytes fault
stop_answered bytes stop fault u is e = why_answered bytes stop.why stop.at fault u is.more is.deep is.missed e
