use Rattle.gic_cert.proofs.Determined.{determined}
use Rattle.gic_cert.proofs.Placed.{has_nodes}
use Rattle.gic_cert.proofs.TextBack.{reading_gives_back}
use Rattle.gic_cert.proofs.laws.text_law.Goals as goal

pub returns : goal.returns
returns c = record {
  back = λ nodes cert names few written same. reading_gives_back nodes cert names few written same;
  determined = λ names cert other all few wc wd p q e. determined names cert other all few wc wd p q e;
  placed = λ nodes standing cert live same. has_nodes nodes standing cert live same;
}
