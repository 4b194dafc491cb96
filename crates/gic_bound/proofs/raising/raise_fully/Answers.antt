use Rattle.std.proofs.Common.{slice_index, refl}
use Rattle.gic_net.specs.Net.{standing}
use Rattle.gic_bound.specs.Caps.{cap_entry}
use Rattle.gic_bound.specs.declared.cap.Cap.TheVariants.{Full}
use Rattle.gic_bound.proofs.Held.{below_full, under_range, full_least}
use Rattle.gic_bound.proofs.raising.raise_fully.Goals as goal

pub raise_under-requires : goal.raise_under-requires
raise_under-requires c = record {
  cap_for = tt;
  count = c.requires.nodes;
  below = below_full (standing c.args.net.now) (slice_index c.args.out.now) (under_range (standing c.args.net.now) (slice_index c.args.out.now) c.requires.under);
}

pub returns-clause-least : goal.returns-clause-least
returns-clause-least c =
    let all = standing c.args.net.now in
    full_least all (slice_index c.args.out.now) (cap_entry all Full) (slice_index c.raise_under.new.out) (λ k. refl) c.requires.under c.raise_under.ensures.least
