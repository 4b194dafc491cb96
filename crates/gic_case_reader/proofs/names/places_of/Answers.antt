use Rattle.std.proofs.Common.{◌≡◌, ◌<◌, length, None, true, is_some, rules, arith}
use Rattle.std.specs.HashMap.{get}
use Rattle.gic_case.specs.Names.{same}
use Rattle.gic_case_reader.proofs.Repeats.{place_new, place_old}
use Rattle.gic_case_reader.proofs.names.places_of.Goals as goal
use Rattle.gic_case_reader.proofs.names.places_of.Goals.{then-not-contains_key+in_ok-insert, else-not-contains_key}

pub loop-name-preserved : goal.loop-name-preserved
loop-name-preserved c =
    let within : c.loop-name.name-index < length c.args.names.now = omega arith in
    elim c.if-not-contains_key.branch [
      | then-not-contains_key+in_ok-insert w ↦ let absent : get same c.loop-name.places c.name-item.result ≡ None = search rules in
          record {
            count = omega arith;
            found = λ q. rw w.places-is (place_new (get same c.loop-name.places) (get same w.insert.new.self) c.args.names.now c.loop-name.name-index c.name-item.result within c.name-item.is c.loop-name.invariant.found
                (λ r. rw (← c.loop-name.invariant.count) (w.in_ok-insert.ensures.updates.0 r)) absent q);
          }
      | else-not-contains_key w ↦ let there : is_some (get same c.loop-name.places c.name-item.result) ≡ true = search rules in
          record {
            count = omega arith;
            found = λ q. rw w.places-is (place_old (get same c.loop-name.places) c.args.names.now c.loop-name.name-index c.name-item.result within c.name-item.is c.loop-name.invariant.found there q);
          }
    ]
