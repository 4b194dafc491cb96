use Rattle.std.proofs.Common.{ap, map, ◌∙◌}
use Rattle.std.specs.List.{range_with_len}
use Rattle.gic_model.specs.Network.{Network}
use Rattle.gic_model.specs.Standing.{is_live}
use Rattle.gic_net.specs.Net.{standing}
use Rattle.gic_text.specs.Lines.{lines_text}
use Rattle.gic_check.specs.CheckText.{check_report}
use Rattle.gic_report.proofs.Chained.{writes_as}
use Rattle.gic_winding.proofs.Limits.{nodes_named}
use Rattle.gic_check.proofs.mode.write_live.Goals as goal

pub returns : goal.returns
returns g c =
    let case = c.args.case.now in
    let nodes = ap (λ (n : Network). n.nodes) c.requires.network ∙ nodes_named case in
    writes_as (ap (λ l. lines_text (check_report case l)) (c.fill_live.ensures ∙ ap (λ n. map (is_live (standing c.args.net.now)) (range_with_len 0 n)) nodes)) c.write_check.ensures
