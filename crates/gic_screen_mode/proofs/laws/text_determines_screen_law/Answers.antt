use Rattle.gic_screen_mode.proofs.ScreenDetermined.{report_determined}
use Rattle.gic_screen_mode.proofs.laws.text_determines_screen_law.Goals as goal

pub returns : goal.returns
returns c = report_determined
