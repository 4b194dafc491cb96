use Rattle.gic_robust.proofs.rows.robust_row.Goals as goal

pub returns : goal.returns
returns c v north east t currents = record {
  references = currents.references;
  of_case = currents.of_case;
  to_north = currents.to_north;
  to_east = currents.to_east;
  at_worst = λ one other varied.
      c.worst.ensures.holds _ _ _ _ (currents.to_north.holds one varied.in_north) (currents.to_east.holds other varied.in_east);
  worst_is = c.worst.ensures.is;
  in_order = c.worst.ensures.is.in_order;
}
