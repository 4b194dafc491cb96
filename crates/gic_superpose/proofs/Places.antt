-- Places in rows of intervals.
use Rattle.std.proofs.Common.{◌≡◌, ◌≢◌, ◌⊎◌, ℕ, ◌+◌, ◌-◌, ◌*◌, ◌<◌, List, length, take, drop, set, slice_range, arith, ap, sym, ◌∙◌, ⊎_elim}
use Rattle.std.proofs.lemmas.List.{get_or-take, get_or-drop, get_or-set_same, get_or-set_other, length-map, map-set, take-map, drop-map}
use Rattle.std.proofs.lemmas.Nat.{mul-add-lt, same_from_place}
use Rattle.gic_superpose.specs.declared.pairs.ZonePair.{ZonePair}
use Rattle.gic_superpose.specs.Superposed.{ZoneEnds, no_zone_ends, zone_at}
use Rattle.gic_superpose.specs.Pairs.{zone_of, row_of}

-- the intervals of a zone in the row at a place
zone_in_row : (pairs : List ZoneEnds) (zones place zone : ℕ) → zone < zones →
    zone_at (take zones (drop (place * zones) pairs)) zone ≡ zone_at pairs (place * zones + zone)
zone_in_row pairs zones place zone less =
    get_or-take zones (drop (place * zones) pairs) zone no_zone_ends less ∙ get_or-drop (place * zones) pairs zone no_zone_ends

-- two zones of rows that are not both the same stand at two places
zones_apart : (zones p z q w : ℕ) → z < zones → w < zones → (p ≢ q) ⊎ (z ≢ w) → p * zones + z ≢ q * zones + w
zones_apart zones p z q w less below other same =
    let both = same_from_place p z q w zones less below same in
    ⊎_elim (λ h. h both.0) (λ h. h both.1) other

-- the place of a zone of a row is among the pairs
pub zone_inside : (place zones zone places count : ℕ) → place < places → zone < zones → count ≡ places * zones → place * zones + zone < count
zone_inside place zones zone places count h less is = let at = mul-add-lt place zones zone places h less in omega (arith, at, is)

-- a pair that is written is in its row
pub zone_written : (pairs : List ZonePair) (zones place zone : ℕ) (pair : ZonePair) → zone < zones → place * zones + zone < length pairs →
    zone_at (take zones (drop (place * zones) (row_of (set pairs (place * zones + zone) pair)))) zone ≡ zone_of pair
zone_written pairs zones place zone pair less inside =
    let at = place * zones + zone in
    zone_in_row (row_of (set pairs at pair)) zones place zone less
    ∙ ap (λ row. zone_at row at) (map-set zone_of pairs at pair)
    ∙ get_or-set_same (row_of pairs) at (zone_of pair) no_zone_ends (let same = length-map pairs zone_of in omega (arith, same, inside))

-- and each other pair is what it was
pub zone_kept : (pairs : List ZonePair) (zones place zone : ℕ) (pair : ZonePair) (p z : ℕ) → zone < zones → z < zones → (p ≢ place) ⊎ (z ≢ zone) →
    zone_at (take zones (drop (p * zones) (row_of (set pairs (place * zones + zone) pair)))) z ≡ zone_at (take zones (drop (p * zones) (row_of pairs))) z
zone_kept pairs zones place zone pair p z less below other =
    let at = place * zones + zone in
    zone_in_row (row_of (set pairs at pair)) zones p z below
    ∙ ap (λ row. zone_at row (p * zones + z)) (map-set zone_of pairs at pair)
    ∙ get_or-set_other (row_of pairs) at (p * zones + z) (zone_of pair) no_zone_ends (zones_apart zones p z place zone below less other)
    ∙ sym (zone_in_row (row_of pairs) zones p z below)

-- the row that a range of the pairs is
pub range_row : (pairs : List ZonePair) (from to zones : ℕ) → to ≡ from + zones → row_of (slice_range pairs from to) ≡ take zones (drop from (row_of pairs))
range_row pairs from to zones is =
    let many : to - from ≡ zones = omega (arith, is) in
    ap (λ n. row_of (take n (drop from pairs))) many ∙ sym (take-map zone_of zones (drop from pairs)) ∙ ap (take zones) (sym (drop-map zone_of from pairs))
