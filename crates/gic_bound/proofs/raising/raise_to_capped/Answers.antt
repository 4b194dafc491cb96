use Rattle.std.proofs.Common.{slice_index, refl, ◌∙◌}
use Rattle.gic_net.specs.Net.{standing}
use Rattle.gic_bound.specs.Caps.{cap_entry}
use Rattle.gic_bound.specs.declared.cap.Cap.TheVariants.{Full}
use Rattle.gic_bound.proofs.Held.{below_full, full_range, full_capped}
use Rattle.gic_bound.proofs.raising.raise_to_capped.Goals as goal

pub raise_all-requires : goal.raise_all-requires
raise_all-requires c = record {
  cap_for = tt;
  count = c.loop.invariant.count;
  below = below_full (standing c.args.net.now) (slice_index c.loop.out) c.loop.invariant.range;
}

pub loop-preserved : goal.loop-preserved
loop-preserved c =
    let all = standing c.args.net.now in
    let under = c.raise_all.ensures.under in
    record {
      count = c.raise_all.ensures.same_length ∙ c.loop.invariant.count;
      range = full_range all (slice_index c.loop.out) (cap_entry all Full) (slice_index c.raise_all.new.out) (λ k. refl) c.loop.invariant.range under.from_low under.to_cap;
    }

pub returns-then-not-raise_all-clause-capped : goal.returns-then-not-raise_all-clause-capped
returns-then-not-raise_all-clause-capped c =
    let all = standing c.args.net.now in
    let least = c.raise_all.ensures.least c.if-not-raise_all.true in
    full_capped all (slice_index c.loop.out) (cap_entry all Full) (slice_index c.raise_all.new.out) (λ k. refl) c.loop.invariant.range least.itself
