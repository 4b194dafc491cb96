use Rattle.gic_headline.proofs.Kept.{each_call_keeps_the_headline}
use Rattle.gic_headline.proofs.laws.headline_law.Goals as goal

pub returns : goal.returns
returns c =
    each_call_keeps_the_headline
    (record {
      exist = c.existence_law.ensures;
      agree = c.agreement_law.ensures;
      limits = c.limits_law.ensures;
      bound = c.bound_networks_are_earthed_law.ensures;
      certificates = c.right_certificates_law.ensures;
      accepted = c.accepted_certificates_law.ensures.holds;
      more = c.worst_orientation_law.ensures.most;
      aligned = c.worst_orientation_law.ensures.reached;
      absolutes = c.field_verdicts_law.ensures.absolutes;
      field_verdicts = c.field_verdicts_law.ensures.verdicts;
      screen_verdicts = c.screen_verdicts_law.ensures;
      robust_verdicts = c.robust_verdicts_law.ensures;
      grounds = record {
        varied = c.varied_law.ensures.others;
        in_ranges = c.any_grounds_law.ensures.standing;
        limits = c.any_grounds_law.ensures.limits;
        alike = c.any_grounds_law.ensures.earthed;
      };
      greatest = c.right_outages_law.ensures.enclosed;
      greatest_narrow = c.right_outages_law.ensures.narrow;
      none_solved = c.right_outages_law.ensures.none;
      greatest_verdicts = c.right_outages_law.ensures.verdicts;
      worst_verdicts = c.right_outages_law.ensures.each_verdict;
      peaks_narrow = c.peaks_of_studies_law.ensures.narrow;
      peaks = c.peaks_of_studies_law.ensures.enclosed;
      peak_verdicts = c.peaks_of_studies_law.ensures.verdicts;
      dwells = c.dwells_of_studies_law.ensures;
      earthings = c.earthings_of_studies_law.ensures;
      losses = c.losses_of_studies_law.ensures.lines;
      made_sound = c.made_cases_law.ensures.sound;
      made_earthed = c.made_cases_law.ensures.earthed;
      made_near = c.made_cases_law.ensures.near;
    })
    c.made_in_range_law.ensures c.asked_cases_are_sound_law.ensures c.asked_storms_have_steps_law.ensures c.accepted_is_reported_law.ensures
