-- Voltages are linear in the fields.
use Rattle.std.proofs.Common.{◌≡◌, ℕ, zero, suc, List, [], ◌∷◌, map, ℤ, pos, ◌+ℤ◌, ◌*ℤ◌, ◌⊎◌, inl, inr, ⊎_elim, arith, refl, ap, ap₂, sym, ◌∙◌}
use lib.IntN.{*ℤ-zero}
use Rattle.std.proofs.lemmas.List.{get_or_past}
use Rattle.gic_fixed.specs.Sums.{sum_of}
use Rattle.gic_fixed.proofs.Integers.{linear, *ℤ-+ℤ, *ℤ_assoc, +ℤ-*ℤ}
use Rattle.gic_case.specs.ZoneView.{ZoneView, factor_of}
use Rattle.gic_case.specs.Lists.{Lists}
use Rattle.gic_case.specs.declared.item.Line.{Line}
use Rattle.gic_case.specs.declared.part.LinePart.{LinePart}
use Rattle.gic_case.specs.Courses.{parts_of}
use Rattle.gic_model.specs.Voltages.{number_at}
use Rattle.gic_model.specs.declared.parts.Element.{Element}
use Rattle.gic_model.specs.declared.parts.Item.{Item}
use Rattle.gic_model.specs.declared.parts.Item.TheVariants as items
use Rattle.gic_induce.specs.Fields.{zone_field}
use Rattle.gic_induce.specs.Voltage.{part_nanovolts}
use Rattle.gic_induce.specs.LineVolts.{zone_among, part_volts, line_volts, volts_of_item, volts_of}
use Rattle.gic_induce.specs.Linear.{AreCombined}

-- the voltage of a part is that of the sum of two fields, and of a field times a number
module _ (part : LinePart) (zone : ZoneView) where
  of_times : (a n e : ℤ) → part_nanovolts part zone (a *ℤ n) (a *ℤ e) ≡ a *ℤ part_nanovolts part zone n e
  of_times a n e =
      let f = pos (factor_of zone) in
      ap (λ z. z *ℤ f) (ap₂ (λ y z. y +ℤ z) (*ℤ_assoc a n part.north) (*ℤ_assoc a e part.east) ∙ sym (*ℤ-+ℤ a (n *ℤ part.north) (e *ℤ part.east))) ∙
      *ℤ_assoc a (n *ℤ part.north +ℤ e *ℤ part.east) f

  of_sum : (n m e d : ℤ) → part_nanovolts part zone (n +ℤ m) (e +ℤ d) ≡ part_nanovolts part zone n e +ℤ part_nanovolts part zone m d
  of_sum n m e d =
      let f = pos (factor_of zone) in
      let north = +ℤ-*ℤ n m part.north in
      let east = +ℤ-*ℤ e d part.east in
      let inner : (n +ℤ m) *ℤ part.north +ℤ (e +ℤ d) *ℤ part.east ≡ (n *ℤ part.north +ℤ e *ℤ part.east) +ℤ (m *ℤ part.north +ℤ d *ℤ part.east) = omega (arith, linear) in
      ap (λ z. z *ℤ f) inner ∙ +ℤ-*ℤ (n *ℤ part.north +ℤ e *ℤ part.east) (m *ℤ part.north +ℤ d *ℤ part.east) f

-- an item of a list at a place, or none, for every function of it at once
at_any : {X : Type 0} (xs : List X) (i : ℕ) → ((f : X → ℤ) → number_at (map f xs) i ≡ pos 0) ⊎ ((x : X) × ((f : X → ℤ) → number_at (map f xs) i ≡ f x))
at_any [] i = inl (λ f. get_or_past [] i (pos 0) (omega arith))
at_any (x ∷ xs) zero = inr (x, λ f. refl)
at_any (x ∷ xs) (suc i) = at_any xs i

-- nothing is combined of nothing
no_sum : (a c d : ℤ) → a *ℤ pos 0 ≡ c *ℤ pos 0 +ℤ d *ℤ pos 0
no_sum a c d =
    let one = *ℤ-zero a in
    let two = *ℤ-zero c in
    let three = *ℤ-zero d in
    omega (arith, linear)

-- so are the numbers of a list, where those of each item are
all_linear : {X : Type 0} (a c d : ℤ) (f g h : X → ℤ) → ((x : X) → a *ℤ h x ≡ c *ℤ f x +ℤ d *ℤ g x) → (xs : List X) (i : ℕ) →
    a *ℤ number_at (map h xs) i ≡ c *ℤ number_at (map f xs) i +ℤ d *ℤ number_at (map g xs) i
all_linear a c d f g h each xs i =
    ⊎_elim
    (λ none. ap (λ z. a *ℤ z) (none h) ∙ no_sum a c d ∙ sym (ap₂ (λ y z. c *ℤ y +ℤ d *ℤ z) (none f) (none g)))
    (λ one. ap (λ z. a *ℤ z) (one.1 h) ∙ each one.0 ∙ sym (ap₂ (λ y z. c *ℤ y +ℤ d *ℤ z) (one.1 f) (one.1 g)))
    (at_any xs i)

-- so are their sums
sums_linear : {X : Type 0} (a c d : ℤ) (f g h : X → ℤ) → ((x : X) → a *ℤ h x ≡ c *ℤ f x +ℤ d *ℤ g x) → (xs : List X) →
    a *ℤ sum_of h xs ≡ c *ℤ sum_of f xs +ℤ d *ℤ sum_of g xs
sums_linear a c d f g h each [] = no_sum a c d
sums_linear a c d f g h each (x ∷ xs) =
    let here = each x in
    let rest = sums_linear a c d f g h each xs in
    let whole = *ℤ-+ℤ a (h x) (sum_of h xs) in
    let one = *ℤ-+ℤ c (f x) (sum_of f xs) in
    let other = *ℤ-+ℤ d (g x) (sum_of g xs) in
    omega (arith, linear)

-- so the voltages of parts, and those of lines
part_volts_linear : (zones : List ZoneView) (a c d : ℤ) (f g h : List (ℤ × ℤ)) → AreCombined a c d f g h → (part : LinePart) →
    a *ℤ part_volts zones h part ≡ c *ℤ part_volts zones f part +ℤ d *ℤ part_volts zones g part
part_volts_linear zones a c d f g h combined part =
    let zone = zone_among zones part.zone in
    let x = zone_field f part.zone in
    let y = zone_field g part.zone in
    let z = zone_field h part.zone in
    sym (of_times part zone a z.0 z.1) ∙
    ap₂ (λ n e. part_nanovolts part zone n e) (combined.north part.zone) (combined.east part.zone) ∙
    of_sum part zone (c *ℤ x.0) (d *ℤ y.0) (c *ℤ x.1) (d *ℤ y.1) ∙
    ap₂ (λ u v. u +ℤ v) (of_times part zone c x.0 x.1) (of_times part zone d y.0 y.1)

line_volts_linear : (zones : List ZoneView) (a c d : ℤ) (f g h : List (ℤ × ℤ)) → AreCombined a c d f g h → (line : Line) →
    a *ℤ line_volts zones h line ≡ c *ℤ line_volts zones f line +ℤ d *ℤ line_volts zones g line
line_volts_linear zones a c d f g h combined line =
    sums_linear a c d (part_volts zones f) (part_volts zones g) (part_volts zones h) (part_volts_linear zones a c d f g h combined) (parts_of line.course)

pub item_volts_linear : (case : Lists) (a c d : ℤ) (f g h : List (ℤ × ℤ)) → AreCombined a c d f g h → (item : Item) →
    a *ℤ volts_of_item case h item ≡ c *ℤ volts_of_item case f item +ℤ d *ℤ volts_of_item case g item
item_volts_linear case a c d f g h combined (items.Line place) =
    all_linear a c d (line_volts case.zones f) (line_volts case.zones g) (line_volts case.zones h) (line_volts_linear case.zones a c d f g h combined) case.lines place
item_volts_linear case a c d f g h combined (items.Ground place) = no_sum a c d
item_volts_linear case a c d f g h combined (items.Transformer place) = no_sum a c d
item_volts_linear case a c d f g h combined (items.Neutral place) = no_sum a c d

pub volts_linear : (case : Lists) (elements : List Element) (a c d : ℤ) (f g h : List (ℤ × ℤ)) → AreCombined a c d f g h → (place : ℕ) →
    a *ℤ number_at (volts_of case h elements) place ≡ c *ℤ number_at (volts_of case f elements) place +ℤ d *ℤ number_at (volts_of case g elements) place
volts_linear case elements a c d f g h combined place =
    all_linear a c d (λ (e : Element). volts_of_item case f e.item) (λ e. volts_of_item case g e.item) (λ e. volts_of_item case h e.item)
    (λ e. item_volts_linear case a c d f g h combined e.item) elements place
