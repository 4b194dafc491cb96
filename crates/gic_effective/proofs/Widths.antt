-- How wide outward intervals are.
use Rattle.std.proofs.Common.{◌≡◌, ℕ, ◌+◌, ◌*◌, ◌^◌, ◌<◌, ◌≤◌, Option, None, Some, ℤ, pos, ◌+ℤ◌, ◌-ℤ◌, ◌*ℤ◌, ◌≤ℤ◌, arith, ap, sym, subst, ◌∙◌}
use Rattle.std.proofs.lemmas.Int.{ints}
use Rattle.std.proofs.Math.Nat.{mul-le-mul_left}
use Rattle.gic_fixed.specs.Rounding.{floor_div, ceil_div}
use Rattle.gic_fixed.proofs.Integers.{linear, *ℤ-≤ℤ, *ℤ--ℤ, *ℤ_assoc}
use Rattle.gic_fixed.proofs.Widths.{times_width, wider}
use Rattle.gic_fixed.proofs.Divisions.{outward_width, floor_below, ceil_above, floor-floor, ceil-ceil, floor-cancel, ceil-cancel}
use Rattle.gic_model.specs.declared.parts.End.{End}
use Rattle.gic_model.specs.declared.parts.End.TheVariants.{Node, Earth}
use Rattle.gic_model.specs.Standing.{value_at}
use Rattle.gic_model.specs.Sums.{Placed}
use Rattle.gic_base.specs.declared.id.ElementId.{ElementId}
use Rattle.gic_effective.specs.Ohm.{current_low, current_high, least_nano, most_nano}
use Rattle.gic_fixed.specs.Ends.{IsAtMostWide}
use Rattle.gic_winding.specs.declared.weights.Weights.{Weights}
use Rattle.gic_effective.specs.WeightedSum.{weighted, weighted_sum, weight_in, total_weight}

-- an interval is at most as wide as its outward quotient, times the divisor
pub inner_width : (lo hi : ℤ) (d k : ℕ) → 0 < d → IsAtMostWide k (floor_div lo (pos d)) (ceil_div hi (pos d)) → IsAtMostWide (d * k) lo hi
inner_width lo hi d k h wide =
    let low = floor_below lo d h in
    let high = ceil_above hi d h in
    let parts = *ℤ--ℤ (pos d) (ceil_div hi (pos d)) (floor_div lo (pos d)) in
    let times : (pos d *ℤ (ceil_div hi (pos d) -ℤ floor_div lo (pos d))) ≤ℤ pos (d * k) = *ℤ-≤ℤ d _ (pos k) wide in
    omega (arith, linear)

-- milliamperes by way of nanoamperes are milliamperes at once
pub milli_low : (times r : ℕ) (drive : ℤ) → 0 < r → floor_div (current_low times r drive) (pos 1000000) ≡ floor_div (pos times *ℤ drive) (pos (r * 2 ^ 36))
milli_low times r drive h =
    let z = pos times *ℤ drive in
    let whole : pos (times * 1000000) *ℤ drive ≡ pos 1000000 *ℤ z = ap (λ (n : ℕ). pos n *ℤ drive) (omega arith) ∙ *ℤ_assoc (pos 1000000) (pos times) drive in
    let d : r * 2 ^ 36 * 1000000 ≡ 1000000 * (r * 2 ^ 36) = omega arith in
    floor-floor (pos (times * 1000000) *ℤ drive) (r * 2 ^ 36) 1000000 ∙
    ap (λ (w : ℤ). floor_div w (pos (r * 2 ^ 36 * 1000000))) whole ∙
    ap (λ (n : ℕ). floor_div (pos 1000000 *ℤ z) (pos n)) d ∙
    floor-cancel 1000000 z (r * 2 ^ 36) (omega arith) (omega arith)

pub milli_high : (times r : ℕ) (drive : ℤ) → 0 < r → ceil_div (current_high times r drive) (pos 1000000) ≡ ceil_div (pos times *ℤ drive) (pos (r * 2 ^ 36))
milli_high times r drive h =
    let z = pos times *ℤ drive in
    let whole : pos (times * 1000000) *ℤ drive ≡ pos 1000000 *ℤ z = ap (λ (n : ℕ). pos n *ℤ drive) (omega arith) ∙ *ℤ_assoc (pos 1000000) (pos times) drive in
    let d : r * 2 ^ 36 * 1000000 ≡ 1000000 * (r * 2 ^ 36) = omega arith in
    ceil-ceil (pos (times * 1000000) *ℤ drive) (r * 2 ^ 36) 1000000 ∙
    ap (λ (w : ℤ). ceil_div w (pos (r * 2 ^ 36 * 1000000))) whole ∙
    ap (λ (n : ℕ). ceil_div (pos 1000000 *ℤ z) (pos n)) d ∙
    ceil-cancel 1000000 z (r * 2 ^ 36) (omega arith) (omega arith)

-- a weighted current is as wide as the weight makes it
part_width : (winding : Option (ElementId × ℕ)) (lo hi : ℤ) (w : ℕ) → IsAtMostWide w lo hi → IsAtMostWide (weight_in winding * w) (weighted winding lo) (weighted winding hi)
part_width None lo hi w h = omega (arith, ints)
part_width (Some x) lo hi w h = times_width lo hi x.1 w h

sum_width : (lo hi lo' hi' : ℤ) (a b : ℕ) → IsAtMostWide a lo hi → IsAtMostWide b lo' hi' → IsAtMostWide (a + b) (lo +ℤ lo') (hi +ℤ hi')
sum_width lo hi lo' hi' a b h k = omega (arith, linear)

-- a weighted sum, divided outward, is one wider than the weights make it
weights_width : (w : Weights) (lo hi lo' hi' lo'' hi'' : ℤ) (m d k : ℕ) → 0 < d → total_weight w * m ≤ d * k →
    IsAtMostWide m lo hi → IsAtMostWide m lo' hi' → IsAtMostWide m lo'' hi'' →
    IsAtMostWide (k + 1) (floor_div (weighted_sum w lo lo' lo'') (pos d)) (ceil_div (weighted_sum w hi hi' hi'') (pos d))
weights_width w lo hi lo' hi' lo'' hi'' m d k some most one other last =
    let low = weighted_sum w lo lo' lo'' in
    let high = weighted_sum w hi hi' hi'' in
    let parts = weight_in w.first * m + weight_in w.second * m + weight_in w.third * m in
    let both =
    sum_width (weighted w.first lo) (weighted w.first hi) (weighted w.second lo') (weighted w.second hi') (weight_in w.first * m) (weight_in w.second * m)
    (part_width w.first lo hi m one) (part_width w.second lo' hi' m other) in
    let all : IsAtMostWide parts low high =
    sum_width (weighted w.first lo +ℤ weighted w.second lo') (weighted w.first hi +ℤ weighted w.second hi') (weighted w.third lo'') (weighted w.third hi'')
    (weight_in w.first * m + weight_in w.second * m) (weight_in w.third * m) both (part_width w.third lo'' hi'' m last) in
    outward_width low high d k some (wider low high parts (d * k) (omega (arith, most)) all)

-- weights of three times the voltage make it as wide as the currents
enough : (weight volts width : ℕ) → weight ≤ 3 * volts → weight * (1000000 * width) ≤ 3000000 * volts * width
enough weight volts width sum = let most = mul-le-mul_left (1000000 * width) sum in omega arith

pub effective_width : (w : Weights) (volts : ℕ) (lo hi lo' hi' lo'' hi'' : ℤ) (width : ℕ) → 1 ≤ volts → total_weight w ≤ 3 * volts →
    IsAtMostWide width (floor_div lo (pos 1000000)) (ceil_div hi (pos 1000000)) → IsAtMostWide width (floor_div lo' (pos 1000000)) (ceil_div hi' (pos 1000000)) →
    IsAtMostWide width (floor_div lo'' (pos 1000000)) (ceil_div hi'' (pos 1000000)) →
    IsAtMostWide (width + 1) (floor_div (weighted_sum w lo lo' lo'') (pos (3000000 * volts))) (ceil_div (weighted_sum w hi hi' hi'') (pos (3000000 * volts)))
effective_width w volts lo hi lo' hi' lo'' hi'' width some sum one other last =
    weights_width w lo hi lo' hi' lo'' hi'' (1000000 * width) (3000000 * volts) width (omega (arith, some)) (enough (total_weight w) volts width sum)
    (inner_width lo hi 1000000 width (omega arith) one) (inner_width lo' hi' 1000000 width (omega arith) other) (inner_width lo'' hi'' 1000000 width (omega arith) last)

-- from potentials at most 2^32 grains wide a current in nanoamperes is at most 400 wide
drive_tight : (push flo fhi tlo thi : ℤ) → IsAtMostWide (2 ^ 32) flo fhi → IsAtMostWide (2 ^ 32) tlo thi → IsAtMostWide (2 ^ 33) (flo -ℤ thi +ℤ push) (fhi -ℤ tlo +ℤ push)
drive_tight push flo fhi tlo thi h k = omega (arith, ints)

nano_tight : (times r : ℕ) (push flo fhi tlo thi : ℤ) → times ≤ 3 → 1000 ≤ r → IsAtMostWide (2 ^ 32) flo fhi → IsAtMostWide (2 ^ 32) tlo thi
    → IsAtMostWide 400 (current_low times r (flo -ℤ thi +ℤ push)) (current_high times r (fhi -ℤ tlo +ℤ push))
nano_tight times r push flo fhi tlo thi three thousand from to =
    let low = flo -ℤ thi +ℤ push in
    let high = fhi -ℤ tlo +ℤ push in
    let c = times * 1000000 in
    let product : IsAtMostWide (c * 2 ^ 33) (pos c *ℤ low) (pos c *ℤ high) = times_width low high c (2 ^ 33) (drive_tight push flo fhi tlo thi from to) in
    let more : c * 2 ^ 33 ≤ r * 2 ^ 36 * 375 = omega (arith, three, thousand) in
    let quotient : IsAtMostWide 376 (current_low times r low) (current_high times r high) =
    outward_width (pos c *ℤ low) (pos c *ℤ high) (r * 2 ^ 36) 375 (omega (arith, thousand)) (wider (pos c *ℤ low) (pos c *ℤ high) (c * 2 ^ 33) (r * 2 ^ 36 * 375) more product) in
    wider (current_low times r low) (current_high times r high) 376 400 (omega arith) quotient

end_tight : (low high : ℕ → ℤ) → ((k : ℕ) → IsAtMostWide (2 ^ 32) (low k) (high k)) → (e : End) → IsAtMostWide (2 ^ 32) (value_at low e) (value_at high e)
end_tight low high h (Node m) = h m.0
end_tight low high h Earth = omega (arith, ints)

pub element_tight : (volts low high : ℕ → ℤ) (p : Placed) → p.1.times ≤ 3 → 1000 ≤ p.1.micro_ohm → ((k : ℕ) → IsAtMostWide (2 ^ 32) (low k) (high k))
    → IsAtMostWide 400 (least_nano volts low high p) (most_nano volts low high p)
element_tight volts low high p three thousand h =
    nano_tight p.1.times p.1.micro_ohm (pos (2 ^ 36) *ℤ volts p.0) (low p.1.from.0) (high p.1.from.0) (value_at low p.1.to) (value_at high p.1.to) three thousand (h p.1.from.0) (end_tight low high h p.1.to)

pub potential_tight : (lo hi : ℤ) → IsAtMostWide (2 ^ 32) lo hi → IsAtMostWide 400 (floor_div lo (pos (2 ^ 36))) (ceil_div hi (pos (2 ^ 36)))
potential_tight lo hi h =
    wider (floor_div lo (pos (2 ^ 36))) (ceil_div hi (pos (2 ^ 36))) 2 400 (omega arith) (outward_width lo hi (2 ^ 36) 1 (omega arith) (wider lo hi (2 ^ 32) (2 ^ 36 * 1) (omega arith) h))

-- an effective current in nanoamperes is at most one wider than the currents of its windings
pub effective_tight : (w : Weights) (volts : ℕ) (lo hi lo' hi' lo'' hi'' : ℤ) → 1 ≤ volts → total_weight w ≤ 3 * volts →
    IsAtMostWide 400 lo hi → IsAtMostWide 400 lo' hi' → IsAtMostWide 400 lo'' hi'' →
    IsAtMostWide 401 (floor_div (weighted_sum w lo lo' lo'') (pos (3 * volts))) (ceil_div (weighted_sum w hi hi' hi'') (pos (3 * volts)))
effective_tight w volts lo hi lo' hi' lo'' hi'' some sum one other last =
    weights_width w lo hi lo' hi' lo'' hi'' 400 (3 * volts) 400 (omega (arith, some)) (omega (arith, sum)) one other last

-- an interval with equal ends
pub same_width : (lo hi lo' hi' : ℤ) (w : ℕ) → lo ≡ lo' → hi ≡ hi' → IsAtMostWide w lo' hi' → IsAtMostWide w lo hi
same_width lo hi lo' hi' w e f h = subst (λ (z : ℤ). IsAtMostWide w z hi) (sym e) (subst (λ (z : ℤ). IsAtMostWide w lo' z) (sym f) h)
