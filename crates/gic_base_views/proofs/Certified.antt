-- Pairs that are certified, and zones whose pairs stay so.
use Rattle.std.proofs.Common.{◌≡◌, ◌≢◌, ℕ, ◌<◌, ◌==◌, List, length, IsTrue, ℤ, arith, sym, subst, subst₂, eqb-true}
use Rattle.std.specs.List.{enumerate_from}
use Rattle.gic_case.specs.Lists.{Lists}
use Rattle.gic_model.proofs.Members.{kept, by_any}
use Rattle.gic_model.specs.Solution.{Solution}
use Rattle.gic_model.specs.Standing.{is_standing}
use Rattle.gic_model.specs.Sums.{Placed}
use Rattle.gic_model.specs.Voltages.{number_at}
use Rattle.gic_net.proofs.Kept.{IsIn, each_in}
use Rattle.gic_net.specs.Net.{NetView, standing, stands}
use Rattle.gic_winding.specs.ElementList.{elements_of}
use Rattle.gic_superpose.specs.BaseFields.{north_volts, east_volts}
use Rattle.gic_superpose.specs.Superposed.{ZoneEnds}
use Rattle.gic_base_views.specs.declared.table.BaseTable.{BaseTable}
use Rattle.gic_base_views.specs.BaseRows.{IsCertifiedPair, IsCertifiedEffective, IsCertifiedIn}
use Rattle.gic_base_views.specs.Table.{base_rows_of, IsTableOf, IsSameElsewhere}

-- a standing element is one of the net's
pub standing_inside : (net : NetView) (place : ℕ) → IsTrue (is_standing (standing net) place) → place < length net.network.list
standing_inside net place is =
    by_any (λ (p : Placed). p.0 == place) (IsIn net.network.list) (λ p test h. subst (λ (n : ℕ). n < length net.network.list) (eqb-true p.0 place test) h.0) (standing net)
    (kept (λ (p : Placed). stands net p.1.item) (IsIn net.network.list) (IsIn net.network.list) (λ p passes h. h) (enumerate_from 0 net.network.list) (each_in net.network.list)) is

-- for equal voltages
pub for_volts : (standing : List Placed) (quantity : Solution → ℤ) (over : ℕ) (pair : ZoneEnds) (north east to_north to_east : List ℤ) → north ≡ to_north → east ≡ to_east →
    IsCertifiedPair standing (number_at north) (number_at east) quantity over pair → IsCertifiedPair standing (number_at to_north) (number_at to_east) quantity over pair
for_volts standing quantity over pair north east to_north to_east north_is east_is certified =
    subst₂ (λ (v w : List ℤ). IsCertifiedPair standing (number_at v) (number_at w) quantity over pair) north_is east_is certified

-- so are those of a transformer
pub effective_for_volts : (case : Lists) (standing : List Placed) (t : ℕ) (pair : ZoneEnds) (north east to_north to_east : List ℤ) → north ≡ to_north → east ≡ to_east →
    IsCertifiedEffective case standing (number_at north) (number_at east) t pair → IsCertifiedEffective case standing (number_at to_north) (number_at to_east) t pair
effective_for_volts case standing t pair north east to_north to_east north_is east_is certified =
    subst₂ (λ (v w : List ℤ). IsCertifiedEffective case standing (number_at v) (number_at w) t pair) north_is east_is certified

module _ (case : Lists) (standing : List Placed) (zone other : ℕ) (old new : BaseTable) (table : IsTableOf case old) (less : other < length case.zones) (differs : other ≢ zone) (same : IsSameElsewhere zone old new) where
  abbrev IsSo : (Solution → ℤ) → ℕ → ZoneEnds → Type 0
  IsSo quantity over pair = IsCertifiedPair standing (north_volts case (elements_of case).list other) (east_volts case (elements_of case).list other) quantity over pair

  -- what is certified of another zone stays so
  pub certified_elsewhere : IsCertifiedIn case standing (base_rows_of old) other → IsCertifiedIn case standing (base_rows_of new) other
  certified_elsewhere certified = record {
    nodes = λ k live. subst (IsSo (λ s. s.potential k) 1) (sym (same.nodes k other (omega (arith, table.nodes.zone_count, less)) differs)) (certified.nodes k live);
    elements = λ place is. subst (IsSo (λ s. s.current place) 1) (sym (same.elements place other (omega (arith, table.elements.zone_count, less)) differs)) (certified.elements place is);
    effective = λ t inside.
        subst (IsCertifiedEffective case standing (north_volts case (elements_of case).list other) (east_volts case (elements_of case).list other) t)
        (sym (same.effective t other (omega (arith, table.effective.zone_count, less)) differs)) (certified.effective t inside);
  }
