-- The parts of a line, and how great their voltages are.
use Rattle.std.proofs.Common.{◌≡◌, ℕ, ◌+◌, ◌*◌, ◌<◌, ◌≤◌, List, [], ◌∷◌, length, take, get_or, ℤ, pos, ◌+ℤ◌, ◌*ℤ◌, unsigned_abs, arith}
use Rattle.std.proofs.Math.Nat.{mul-le-mul}
use Rattle.std.proofs.lemmas.Int.{ints, unsigned_abs-mul}
use Rattle.std.proofs.lemmas.List.{take_more}
use Rattle.gic_fixed.specs.Sums.{sum_of}
use Rattle.gic_fixed.proofs.Sums.{sum_of-++}
use Rattle.gic_case.specs.ZoneView.{ZoneView, factor_of}
use Rattle.gic_case.specs.declared.part.LinePart.{LinePart}
use Rattle.gic_induce.specs.Voltage.{part_nanovolts, IsFieldWithin}

product_few : (z w : ℤ) (m n : ℕ) → unsigned_abs z ≤ m → unsigned_abs w ≤ n → unsigned_abs (z *ℤ w) ≤ m * n
product_few z w m n few less = omega (arith, unsigned_abs-mul z w, mul-le-mul few less)

sum_few : (z w : ℤ) (m n : ℕ) → unsigned_abs z ≤ m → unsigned_abs w ≤ n → unsigned_abs (z +ℤ w) ≤ m + n
sum_few z w m n few less = omega (arith, ints, few, less)

-- the voltage of a part, for each metre of its span
pub part_few : (part : LinePart) (zone : ZoneView) (north east : ℤ) → IsFieldWithin north → IsFieldWithin east → factor_of zone ≤ 1500 →
    unsigned_abs (part_nanovolts part zone north east) ≤ 30000000 * (unsigned_abs part.north + unsigned_abs part.east)
part_few part zone north east few less most =
    let along = product_few north part.north 20000 (unsigned_abs part.north) few (omega arith) in
    let across = product_few east part.east 20000 (unsigned_abs part.east) less (omega arith) in
    let both = sum_few (north *ℤ part.north) (east *ℤ part.east) (20000 * unsigned_abs part.north) (20000 * unsigned_abs part.east) along across in
    let all = product_few (north *ℤ part.north +ℤ east *ℤ part.east) (pos (factor_of zone)) (20000 * unsigned_abs part.north + 20000 * unsigned_abs part.east) 1500 both most in
    omega (arith, all)

-- a sum over one item more
pub sum_more : {X : Type 0} (f : X → ℤ) (xs : List X) (i : ℕ) (d : X) → i < length xs → sum_of f (take (i + 1) xs) ≡ sum_of f (take i xs) +ℤ f (get_or xs i d)
sum_more f xs i d h =
    let last = sum_of-++ f (take i xs) (get_or xs i d ∷ []) in
    rw (take_more xs i d h) (omega (arith, ints, last))

-- and how great it is, where the ways are longer by the part's span
pub few_more : (sum part : ℤ) (n e a b m f : ℕ) → unsigned_abs sum ≤ 30000000 * (n + e) → unsigned_abs part ≤ 30000000 * (a + b) → m ≡ n + a → f ≡ e + b →
    unsigned_abs (sum +ℤ part) ≤ 30000000 * (m + f)
few_more sum part n e a b m f few less north east = omega (arith, ints, few, less, north, east)
