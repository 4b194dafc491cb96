-- What a view shows is linear.
use Rattle.std.proofs.Common.{ℕ, List, pos, refl}
use Rattle.gic_base.specs.declared.id.ElementId.{ElementId}
use Rattle.gic_model.specs.Standing.{IsLive}
use Rattle.gic_model.specs.Sums.{Placed}
use Rattle.gic_superpose.specs.Quantities.{IsLinear, weighted_current}
use Rattle.gic_superpose.proofs.Weighted.{sum_combined, sum_agrees}

pub potential_linear : (standing : List Placed) (k : ℕ) → IsLive standing k → IsLinear standing (λ s. s.potential k)
potential_linear standing k live = record { combines = λ c d one other. refl; agrees = λ one other agree. agree.potentials k live }

pub current_linear : (standing : List Placed) (place : ℕ) → IsLinear standing (λ s. s.current place)
current_linear standing place = record { combines = λ c d one other. refl; agrees = λ one other agree. agree.currents place }

pub weighted_linear : (standing : List Placed) (windings : List (ElementId × ℕ)) → IsLinear standing (weighted_current windings)
weighted_linear standing windings = record {
  combines = λ c d one other. sum_combined (λ (w : ElementId × ℕ). w.1) (λ w. one.current w.0.0) (λ w. other.current w.0.0) c (pos other.denominator) d (pos one.denominator) windings;
  agrees = λ one other agree. sum_agrees (λ (w : ElementId × ℕ). w.1) (λ w. one.current w.0.0) (λ w. other.current w.0.0) (pos other.denominator) (pos one.denominator) (λ w. agree.currents w.0.0) windings;
}
