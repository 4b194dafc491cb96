-- Maps of the TOML tree beside the members that they stand for.
use Rattle.std.proofs.Common.{◌≡◌, ℕ, List, [], ◌∷◌, Bool, ◌&&◌, String, Global, string_bytes, refl, ap}
use Rattle.std.specs.List.{list_all}
use Rattle.std.specs.Map.{keys_of}
use Rattle.toml.specs.declared.value.Value.{Value}
use Rattle.toml.specs.View.{members_view}
use Rattle.gic_case_reader.specs.Keys.{has_only}

pub has_only-view : (test : List ℕ → Bool) (es : List (String Global × Value)) → list_all (λ k. test (string_bytes k)) (keys_of es) ≡ has_only test (members_view es)
has_only-view test [] = refl
has_only-view test (e ∷ es) = ap (λ b. test (string_bytes e.0) && b) (has_only-view test es)
