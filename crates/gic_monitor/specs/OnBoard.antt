-- The monitors of a board.
use Rattle.std.specs.Prelude.{List}
use Rattle.std.specs.Global.{Global}
use Rattle.std.specs.declared.dyn_box.DynBox.{DynBox}
use Rattle.gic_monitor.specs.declared.board.Board.{Board}

-- those of a board, in order
abbrev pub monitors_of : {D : Type 0} {Held : D → Type 0} → Board D Held → List (DynBox D Global Held)
monitors_of board = board.monitors.items
