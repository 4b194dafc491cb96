use Rattle.std.proofs.Common.{◌≡◌, [], map, take}
use Rattle.gic_monitor.specs.OnBoard.{monitors_of}
use Rattle.gic_study_mode.proofs.texts.texts_of.Given as goal

-- the texts so far
abbrev pub invariant-loop-place : goal.invariant-loop-place
invariant-loop-place g l =
    map (λ text. text.items) l.texts.items ≡ take l.place (map (λ m. (goal.Monitor-dyn g (m.vtable, m.value)).outlook m.value []) (monitors_of l.board))
