-- The sizes of parts, from the counts.
use Rattle.std.proofs.Common.{◌≡◌, ℕ, ◌<◌, List, length, map, ap, ◌∙◌, arith}
use Rattle.std.specs.Prelude.{slice_index}
use Rattle.std.proofs.lemmas.List.{length-map, get_or-map}
use Rattle.std.proofs.lemmas.List.FromFn.{fill_by_all}
use Rattle.gic_review.specs.PartSizes.{times_first, part_size, sizes_by}

pub sized : (firsts counts : List ℕ) → length counts ≡ length firsts → ((k : ℕ) → k < length firsts → slice_index counts k ≡ times_first firsts k) → map part_size counts ≡ sizes_by firsts
sized firsts counts count each =
    fill_by_all (λ k. part_size (times_first firsts k)) (map part_size counts) (length firsts) 0 (length-map counts part_size ∙ count)
    (λ k h. get_or-map part_size counts k 0 0 (omega (arith, h, count)) ∙ ap part_size (each k h))
