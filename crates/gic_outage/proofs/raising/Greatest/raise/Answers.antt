use Rattle.std.proofs.Common.{◌≡◌, ◌<◌, List, Option, None, Some, length, get_or, slice_set, arith, ap, sym, ◌∙◌}
use Rattle.std.proofs.Math.ListN.{get_or-map}
use Rattle.std.proofs.lemmas.List.{get_or_default, length-map, map-set}
use Rattle.gic_fixed.specs.Ends.{Ends, ends_of}
use Rattle.gic_view.specs.Peaks.{greater}
use Rattle.gic_view.specs.Kept.{optional_ends}
use Rattle.gic_outage.specs.Outages.{greatest_at}
use Rattle.gic_outage.proofs.raising.Greatest.raise.Goals as goal

pub returns : goal.returns
returns c =
    let items = c.self.inside.list.items in
    let t = c.args.transformer in
    let within : t < length items = omega (arith, c.requires, ap length c.self.view_is, length-map items optional_ends) in
    let read : c.index-before.result.now ≡ get_or items t None = c.index-before.ensures ∙ get_or_default items t c.index-before.result.now None within in
    let before : optional_ends c.index-before.result.now ≡ greatest_at c.args.self.now t =
    ap optional_ends read ∙ sym (get_or-map optional_ends items t None) ∙ ap (λ (cells : List (Option Ends)). get_or cells t None) c.self.view_is in
    map-set optional_ends items t (Some c.raised.result)
    ∙ ap (λ (cells : List (Option Ends)). slice_set cells t (Some (ends_of c.raised.result))) c.self.view_is
    ∙ ap (slice_set c.args.self.now t) (c.raised.ensures ∙ ap (λ cell. greater cell (Some (ends_of c.args.worst))) before)
