-- The voltages of fields are a 20000th of what the fields make of those of the base fields.
use Rattle.std.proofs.Common.{◌≡◌, ◌≢◌, ℕ, zero, suc, ◌<◌, ◌≤◌, List, length, take, ℤ, pos, ◌+ℤ◌, ◌*ℤ◌, ◌⊎◌, inl, inr, replicate, arith, ap, ap₂, sym, ◌∙◌, ⊎_elim}
use Rattle.std.proofs.Math.Seq.{take-length}
use lib.IntN.{*ℤ-zero, *ℤ_comm}
use Rattle.std.proofs.lemmas.Bool.{cases_lt, cases_eq}
use Rattle.std.proofs.lemmas.List.{get_or_past, get_or-take, length-take, get_or-set_same, get_or-set_other, length-replicate, get_or-replicate}
use Rattle.gic_fixed.proofs.Integers.{linear}
use Rattle.gic_case.specs.Lists.{Lists}
use Rattle.gic_model.specs.Voltages.{number_at}
use Rattle.gic_model.specs.declared.parts.Element.{Element}
use Rattle.gic_induce.specs.Fields.{no_field, zone_field, lone_field}
use Rattle.gic_induce.specs.LineVolts.{volts_of}
use Rattle.gic_induce.specs.Linear.{AreCombined}
use Rattle.gic_induce.proofs.Linear.{volts_linear}
use Rattle.gic_superpose.specs.BaseFields.{north_volts, east_volts}
use Rattle.gic_superpose.specs.Sums.{sum_below}

-- the field of a zone that alone has one, and of another
lone_here : (zones zone : ℕ) (field : ℤ × ℤ) → zone < zones → zone_field (lone_field zones zone field) zone ≡ field
unfolding lone_field
lone_here zones zone field less = get_or-set_same (replicate zones no_field) zone field no_field (omega (arith, length-replicate zones no_field, less))

lone_there : (zones zone other : ℕ) (field : ℤ × ℤ) → other ≢ zone → zone_field (lone_field zones zone field) other ≡ no_field
unfolding lone_field
lone_there zones zone other field differ = get_or-set_other (replicate zones no_field) zone other field no_field differ ∙ ⊎_elim inside past (cases_lt other zones)
  where
    inside : other < zones → zone_field (replicate zones no_field) other ≡ no_field
    inside less = get_or-replicate zones other no_field no_field less

    past : zones ≤ other → zone_field (replicate zones no_field) other ≡ no_field
    past more = get_or_past (replicate zones no_field) other no_field (omega (arith, more, length-replicate zones no_field))

-- the first fields of a list, and what is past them
first_here : (fields : List (ℤ × ℤ)) (n z : ℕ) → z < n → zone_field (take n fields) z ≡ zone_field fields z
first_here fields n z less = get_or-take n fields z no_field less

first_past : (fields : List (ℤ × ℤ)) (n z : ℕ) → n ≤ z → zone_field (take n fields) z ≡ no_field
first_past fields n z more = get_or_past (take n fields) z no_field (omega (arith, more, length-take n fields))

-- over plain numbers: one of two fields is none
either_field : (x y w : ℤ × ℤ) → ((w ≡ x) × (y ≡ no_field)) ⊎ ((w ≡ y) × (x ≡ no_field)) →
    (pos 20000 *ℤ w.0 ≡ pos 20000 *ℤ x.0 +ℤ pos 20000 *ℤ y.0) × (pos 20000 *ℤ w.1 ≡ pos 20000 *ℤ x.1 +ℤ pos 20000 *ℤ y.1)
either_field x y w =
    let none = *ℤ-zero (pos 20000) in
    ⊎_elim
    (λ h.
    let a = ap (λ (p : ℤ × ℤ). pos 20000 *ℤ p.0) h.0 in
    let b = ap (λ (p : ℤ × ℤ). pos 20000 *ℤ p.1) h.0 in
    let c = ap (λ (p : ℤ × ℤ). pos 20000 *ℤ p.0) h.1 in
    let d = ap (λ (p : ℤ × ℤ). pos 20000 *ℤ p.1) h.1 in
    (omega (arith, linear), omega (arith, linear)))
    (λ h.
    let a = ap (λ (p : ℤ × ℤ). pos 20000 *ℤ p.0) h.0 in
    let b = ap (λ (p : ℤ × ℤ). pos 20000 *ℤ p.1) h.0 in
    let c = ap (λ (p : ℤ × ℤ). pos 20000 *ℤ p.0) h.1 in
    let d = ap (λ (p : ℤ × ℤ). pos 20000 *ℤ p.1) h.1 in
    (omega (arith, linear), omega (arith, linear)))

module _ (case : Lists) (fields : List (ℤ × ℤ)) (count : length fields ≡ length case.zones) (elements : List Element) (place : ℕ) where
  abbrev pub zones : ℕ
  zones = length case.zones

  -- the voltage at the place in other fields
  abbrev pub volt : List (ℤ × ℤ) → ℤ
  volt given = number_at (volts_of case given elements) place

  -- a zone's part of it
  abbrev pub part : ℕ → ℤ
  part zone = (zone_field fields zone).0 *ℤ north_volts case elements zone place +ℤ (zone_field fields zone).1 *ℤ east_volts case elements zone place

  -- one field more is that field alone besides
  one_more : (n : ℕ) → n < zones → AreCombined (pos 20000) (pos 20000) (pos 20000) (take n fields) (lone_field zones n (zone_field fields n)) (take (suc n) fields)
  one_more n less = record { north = λ z. (both z).0; east = λ z. (both z).1 }
    where
      both : (z : ℕ) → (pos 20000 *ℤ (zone_field (take (suc n) fields) z).0 ≡ pos 20000 *ℤ (zone_field (take n fields) z).0 +ℤ pos 20000 *ℤ (zone_field (lone_field zones n (zone_field fields n)) z).0)
          × (pos 20000 *ℤ (zone_field (take (suc n) fields) z).1 ≡ pos 20000 *ℤ (zone_field (take n fields) z).1 +ℤ pos 20000 *ℤ (zone_field (lone_field zones n (zone_field fields n)) z).1)
      both z = either_field (zone_field (take n fields) z) (zone_field (lone_field zones n (zone_field fields n)) z) (zone_field (take (suc n) fields) z)
          (⊎_elim
          (λ e. inr (
            first_here fields (suc n) z (omega (arith, e)) ∙ ap (zone_field fields) e ∙ sym (lone_here zones n (zone_field fields n) less) ∙ ap (zone_field (lone_field zones n (zone_field fields n))) (sym e),
            first_past fields n z (omega (arith, e)),
          ))
          (λ d. inl (
            ⊎_elim
                (λ (before : z < n). first_here fields (suc n) z (omega (arith, before)) ∙ sym (first_here fields n z before))
                (λ (after : n ≤ z). first_past fields (suc n) z (omega (arith, after, d)) ∙ sym (first_past fields n z after))
                (cases_lt z n),
            lone_there zones n z (zone_field fields n) d,
          ))
          (cases_eq z n))

  -- a zone's field is made of its base fields
  module _ (n : ℕ) (less : n < zones) where
    abbrev pub own : ℤ × ℤ
    own = zone_field fields n

    -- over plain numbers
    of_both : (f g h : ℤ × ℤ) → ((f ≡ (pos 20000, pos 0)) × ((g ≡ (pos 0, pos 20000)) × (h ≡ own))) ⊎ ((f ≡ no_field) × ((g ≡ no_field) × (h ≡ no_field))) →
        (pos 20000 *ℤ h.0 ≡ own.0 *ℤ f.0 +ℤ own.1 *ℤ g.0) × (pos 20000 *ℤ h.1 ≡ own.0 *ℤ f.1 +ℤ own.1 *ℤ g.1)
    of_both f g h =
        let none = *ℤ-zero (pos 20000) in
        let none0 = *ℤ-zero own.0 in
        let none1 = *ℤ-zero own.1 in
        let turn0 = *ℤ_comm own.0 (pos 20000) in
        let turn1 = *ℤ_comm own.1 (pos 20000) in
        ⊎_elim
        (λ e.
        let f0 = ap (λ (p : ℤ × ℤ). own.0 *ℤ p.0) e.0 in
        let f1 = ap (λ (p : ℤ × ℤ). own.0 *ℤ p.1) e.0 in
        let g0 = ap (λ (p : ℤ × ℤ). own.1 *ℤ p.0) e.1.0 in
        let g1 = ap (λ (p : ℤ × ℤ). own.1 *ℤ p.1) e.1.0 in
        let h0 = ap (λ (p : ℤ × ℤ). pos 20000 *ℤ p.0) e.1.1 in
        let h1 = ap (λ (p : ℤ × ℤ). pos 20000 *ℤ p.1) e.1.1 in
        (omega (arith, linear), omega (arith, linear)))
        (λ e.
        let f0 = ap (λ (p : ℤ × ℤ). own.0 *ℤ p.0) e.0 in
        let f1 = ap (λ (p : ℤ × ℤ). own.0 *ℤ p.1) e.0 in
        let g0 = ap (λ (p : ℤ × ℤ). own.1 *ℤ p.0) e.1.0 in
        let g1 = ap (λ (p : ℤ × ℤ). own.1 *ℤ p.1) e.1.0 in
        let h0 = ap (λ (p : ℤ × ℤ). pos 20000 *ℤ p.0) e.1.1 in
        let h1 = ap (λ (p : ℤ × ℤ). pos 20000 *ℤ p.1) e.1.1 in
        (omega (arith, linear), omega (arith, linear)))

    in_zone : (z : ℕ) → (pos 20000 *ℤ (zone_field (lone_field zones n own) z).0 ≡ own.0 *ℤ (zone_field (lone_field zones n (pos 20000, pos 0)) z).0 +ℤ own.1 *ℤ (zone_field (lone_field zones n (pos 0, pos 20000)) z).0)
        × (pos 20000 *ℤ (zone_field (lone_field zones n own) z).1 ≡ own.0 *ℤ (zone_field (lone_field zones n (pos 20000, pos 0)) z).1 +ℤ own.1 *ℤ (zone_field (lone_field zones n (pos 0, pos 20000)) z).1)
    in_zone z =
        let here = λ (given : ℤ × ℤ) (e : z ≡ n). ap (zone_field (lone_field zones n given)) e ∙ lone_here zones n given less in
        of_both (zone_field (lone_field zones n (pos 20000, pos 0)) z) (zone_field (lone_field zones n (pos 0, pos 20000)) z) (zone_field (lone_field zones n own) z)
        (⊎_elim
        (λ e. inl (here (pos 20000, pos 0) e, (here (pos 0, pos 20000) e, here own e)))
        (λ d. inr (lone_there zones n z (pos 20000, pos 0) d, (lone_there zones n z (pos 0, pos 20000) d, lone_there zones n z own d)))
        (cases_eq z n))

    of_bases : AreCombined (pos 20000) own.0 own.1 (lone_field zones n (pos 20000, pos 0)) (lone_field zones n (pos 0, pos 20000)) (lone_field zones n own)
    of_bases = record { north = λ z. (in_zone z).0; east = λ z. (in_zone z).1 }

  -- no field induces nothing
  nothing : (given : List (ℤ × ℤ)) → ((z : ℕ) → zone_field given z ≡ no_field) → pos 20000 *ℤ volt given ≡ pos 0
  nothing given none =
      let e = volts_linear case elements (pos 20000) (pos 0) (pos 0) given given given (record { north = λ z. (plain (zone_field given z) (none z)).0; east = λ z. (plain (zone_field given z) (none z)).1 }) place in
      let turned = *ℤ_comm (pos 0) (volt given) in
      let gone = *ℤ-zero (volt given) in
      omega (arith, linear)
    where
      plain : (x : ℤ × ℤ) → x ≡ no_field → (pos 20000 *ℤ x.0 ≡ pos 0 *ℤ x.0 +ℤ pos 0 *ℤ x.0) × (pos 20000 *ℤ x.1 ≡ pos 0 *ℤ x.1 +ℤ pos 0 *ℤ x.1)
      plain x h =
          let a = ap (λ (p : ℤ × ℤ). pos 20000 *ℤ p.0) h in
          let b = ap (λ (p : ℤ × ℤ). pos 20000 *ℤ p.1) h in
          let none = *ℤ-zero (pos 20000) in
          let a_turned = *ℤ_comm (pos 0) x.0 in
          let b_turned = *ℤ_comm (pos 0) x.1 in
          let a_gone = *ℤ-zero x.0 in
          let b_gone = *ℤ-zero x.1 in
          (omega (arith, linear), omega (arith, linear))

  so_far : (n : ℕ) → n ≤ zones → pos 20000 *ℤ volt (take n fields) ≡ sum_below part n
  so_far zero less = nothing (take zero fields) (λ z. first_past fields zero z (omega arith))
  so_far (suc n) less =
      let before = so_far n (omega (arith, less)) in
      let inside : n < zones = omega (arith, less) in
      let more = volts_linear case elements (pos 20000) (pos 20000) (pos 20000) (take n fields) (lone_field zones n (zone_field fields n)) (take (suc n) fields) (one_more n inside) place in
      let alone = volts_linear case elements (pos 20000) (zone_field fields n).0 (zone_field fields n).1 (lone_field zones n (pos 20000, pos 0)) (lone_field zones n (pos 0, pos 20000)) (lone_field zones n (zone_field fields n)) (of_bases n inside) place in
      more ∙ ap₂ (λ y z. y +ℤ z) before alone

  pub volts_combine : pos 20000 *ℤ number_at (volts_of case fields elements) place ≡
      sum_below (λ zone. (zone_field fields zone).0 *ℤ north_volts case elements zone place +ℤ (zone_field fields zone).1 *ℤ east_volts case elements zone place) (length case.zones)
  volts_combine =
      let all : take zones fields ≡ fields = ap (λ (n : ℕ). take n fields) (sym count) ∙ take-length fields in
      ap (λ (given : List (ℤ × ℤ)). pos 20000 *ℤ volt given) (sym all) ∙ so_far zones (omega arith)
