-- Each run of the program keeps the headline.
use Rattle.gic_headline.specs.Laws.{EachCallKeepsTheHeadline, EachRunKeepsTheHeadline}

pub each_run_keeps_the_headline : EachCallKeepsTheHeadline → EachRunKeepsTheHeadline
each_run_keeps_the_headline keeps words files before now status ends = keeps _ status ends
