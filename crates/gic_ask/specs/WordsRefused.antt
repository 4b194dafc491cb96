-- That a refusal of the words is one of the words alone.
use Rattle.std.specs.Prelude.{◌≡◌, ℕ, List, Err}
use Rattle.gic_words.specs.Requests.{request_of}
use Rattle.gic_words.specs.declared.fault.Usage.{Usage}
use Rattle.gic_ask.specs.Contents.{Contents}
use Rattle.gic_ask.specs.Outcome.{Refuses, outcome}
use Rattle.gic_ask.specs.declared.fault.InputRefusal.TheVariants as refusal

-- whatever was handed out, it is the fault that the words have
abbrev pub UsageIsOfWords : Type 0
UsageIsOfWords = (words : List (List ℕ)) (contents : Contents) (u : Usage) → outcome words contents ≡ Refuses (refusal.Usage u) → request_of words ≡ Err u
