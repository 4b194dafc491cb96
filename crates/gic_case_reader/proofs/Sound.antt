-- The lists of a document that breaks no rule are sound.
use Rattle.std.proofs.Common.{◌≡◌, ◌≢◌, ℕ, zero, suc, ◌+◌, ◌≤◌, ◌<◌, nat_le, List, [], ◌∷◌, ◌++◌, length, map, take, get_or, Bool, true, false, cond, not, Option, Some, None, unwrap_or, is_some, slice_get, option_map, ◌&&◌, IfSome, Ok, refl, sym, ap, ◌∙◌, arith, inl, inr, subst, zero-add, length-take-le}
use Rattle.std.proofs.lemmas.Bool.{cases_eq, eqb-true, false≢true, and_parts}
use Rattle.std.proofs.lemmas.Bool.Decides.{nat_tests}
use Rattle.std.proofs.lemmas.Cmp.{nat_list_eq_equiv}
use Rattle.std.proofs.lemmas.List.{length-map, get_or-map, get_or-take, get_or_default}
use Rattle.std.proofs.lemmas.List.Elements.{All-nil, All-cons, All-map, All-append, All-from_recursion}
use Rattle.std.proofs.lemmas.List.Folds.{fold-map, list_any_at}
use Rattle.std.proofs.lemmas.Simd.{map-map}
use Rattle.std.specs.Prelude.{All, AllPairs, ◌==◌, unsigned_abs, IsTrue}
use Rattle.std.specs.List.{AllByRecursion, flat_map, enumerate_from, range_with_len, list_all}
use Rattle.toml.specs.Data.{Data, Members}
use Rattle.gic_base.specs.Name.{is_name}
use Rattle.gic_case.specs.ZoneView.{IsZone}
use Rattle.gic_base.specs.Refusals.{unless}
use Rattle.gic_base.proofs.Each.{weaker}
use Rattle.gic_base.proofs.RefusalLaws.{none_of_both, none_settled, unless_holds}
use Rattle.gic_case.proofs.Places.{place_below}
use Rattle.gic_case.specs.Names.{same, is_repeat, place_in}
use Rattle.gic_case.specs.Lists.{Lists, node_names, substation_at, element_ends, degree_of}
use Rattle.gic_case.specs.Windings.{terminal, between, to_neutral, third_windings, windings_by, windings_of}
use Rattle.gic_base.specs.declared.limits.TheConstants.{MOST_ZONES, MOST_SUBSTATIONS, MOST_BUSES, MOST_LINES, MOST_TRANSFORMERS, MOST_SUBSTATIONS_BEFORE_FORMAT_3, MOST_BUSES_BEFORE_FORMAT_3, MOST_LINES_BEFORE_FORMAT_3, MOST_TRANSFORMERS_BEFORE_FORMAT_3}
use Rattle.gic_case.specs.Courses.{parts_of, north_way, east_way, AreFewParts}
use Rattle.gic_case.specs.Sound.{names_of, IsRated, IsResistance, IsSoundSubstation, IsSoundLine, IsSoundWinding, IsSoundTransformer, IsSound}
use Rattle.gic_case_reader.specs.Sides.{sides_differ, are_together, are_ordered}
use Rattle.gic_case_reader.specs.Transformers.{breaks_transformer, transformer_of}
use Rattle.gic_case_reader.specs.Formats.{is_third, format_in, most_rows}
use Rattle.gic_case_reader.specs.Rows.{breaks_zone, zone_of, breaks_substation, substation_of, breaks_bus, bus_of}
use Rattle.gic_case_reader.specs.Lines as written_lines
use Rattle.gic_case_reader.specs.Lines.{breaks_line, line_row_of}
use Rattle.gic_case_reader.specs.Rules.{entries_of, breaks_list, breaks_form, WrittenRows, written_in, written_names, duplicate_at, breaks_once, breaks_bus_reference, is_in_zone, breaks_course_reference, breaks_line_references, breaks_side_reference, breaks_third_reference, breaks_kind_references, breaks_references, bus_with_place, part_with_place, course_with_places, line_with_places, side_place, third_with_place, kind_with_places, transformer_with_places, resolved, breaks_same_ends, breaks_same_sides, breaks_apart, breaks_voltage_order, breaks_degree, broken_in, case_refusals, lists_of, document_of, case_of}
use Rattle.gic_case_reader.specs.OneByOne.{breaks_degree_from}
use Rattle.gic_case_reader.specs.Pass.{case_in}
use Rattle.gic_case_reader.specs.declared.field.Field.{Field}
use Rattle.gic_case_reader.specs.declared.field.Field.TheVariants as fields
use Rattle.gic_case.specs.declared.case_list.CaseList.{CaseList}
use Rattle.gic_case.specs.declared.case_list.CaseList.TheVariants as lists
use Rattle.gic_case_reader.specs.declared.refusal.CaseRefusal.{CaseRefusal}
use Rattle.gic_case_reader.specs.declared.refusal.CaseRefusal.TheVariants as refusals
use Rattle.gic_case.specs.declared.part.LinePart.{LinePart}
use Rattle.gic_case.specs.declared.item.Line.{Line}
use Rattle.gic_case.specs.declared.item.Bus.{Bus}
use Rattle.gic_case.specs.declared.kind.Kind.{Kind}
use Rattle.gic_case.specs.declared.kind.Kind.TheVariants as kinds
use Rattle.gic_case.specs.declared.winding.WindingRole.{WindingRole}
use Rattle.gic_case.specs.declared.winding.WindingRole.TheVariants as roles
use Rattle.gic_case.specs.declared.winding.Winding.{Winding}
use Rattle.gic_case.specs.declared.item.Neutral.{Neutral}
use Rattle.gic_case.specs.declared.item.Transformer.{Transformer}
use Rattle.gic_case_reader.specs.declared.part_row.PartRow.{PartRow}
use Rattle.gic_case_reader.specs.declared.row.CourseRow.{CourseRow}
use Rattle.gic_case_reader.specs.declared.row.CourseRow.TheVariants as courses
use Rattle.gic_case_reader.specs.declared.row.LineRow.{LineRow}
use Rattle.gic_case.specs.declared.kind.Third.{Third}
use Rattle.gic_case_reader.specs.declared.row.TransformerRow.{TransformerRow}
use Rattle.gic_case_reader.proofs.Ranges.{zone_measured, zone_named, substation_named, substation_measured, bus_named, line_named, few_of, taken_holds, written_parts, AreFewWritten, IsMeasured, line_measured, IsMeasuredThird, IsMeasuredKind, HasPlaceFor, IsMeasuredTransformer, transformer_named, transformer_measured}
use Rattle.gic_case_reader.proofs.PassLaws.{case_in_law}

-- what each row that breaks no rule has, all rows have
all_kept : {A : Type 0} (f : ℕ → A → List CaseRefusal) (P : A → Type 0) → ((n : ℕ) (x : A) → f n x ≡ [] → P x)
    → (n : ℕ) (xs : List A) → flat_map (λ p. f p.0 p.1) (enumerate_from n xs) ≡ [] → All P xs
all_kept f P law n [] h = All-nil P
all_kept f P law n (x ∷ xs) h =
    let parts = none_of_both _ _ h in
    All-cons P x xs (law n x parts.0) (all_kept f P law (n + 1) xs parts.1)

-- what all mapped elements have, the elements' images have
all_unmapped : {X Y : Type 0} (P : X → Type 0) (f : Y → X) (ys : List Y) → All P (map f ys) → All (λ y. P (f y)) ys
all_unmapped P f ys all = λ k d lt. subst P (get_or-map f ys k d (f d) lt) (all k (f d) (rw (length-map ys f) lt))

few_rows : (list : CaseList) (limit : ℕ) (breaks : ℕ → Data → List CaseRefusal) (ms : Members) → breaks_list list limit breaks ms ≡ [] → length (entries_of list ms) ≤ limit
few_rows list limit breaks ms h = few_of (length (entries_of list ms)) limit (unless_holds _ _ (none_of_both _ _ (none_of_both _ _ h).1).0)

rows_kept : (list : CaseList) (limit : ℕ) (breaks : ℕ → Data → List CaseRefusal) (ms : Members) → breaks_list list limit breaks ms ≡ []
    → flat_map (λ p. breaks p.0 p.1) (enumerate_from 1 (entries_of list ms)) ≡ []
rows_kept list limit breaks ms h = (none_of_both _ _ (none_of_both _ _ h).1).1

-- a name that is there has its place in the list
place_within : {A : Type 0} (name : A → List ℕ) (rows : List A) (q : List ℕ) → is_some (place_in (map name rows) q) ≡ true → unwrap_or (place_in (map name rows) q) 0 < length rows
place_within name rows q there =
    let many : 0 + length (map name rows) ≡ length rows = zero-add (length (map name rows)) ∙ length-map rows name in
    taken_holds (λ p. p < length rows) (place_in (map name rows) q) 0 there (subst (λ n. IfSome (place_in (map name rows) q) (λ p. p < n)) many (place_below 0 (map name rows) q))

-- where a line's references go
record IsPlaced (buses zones : ℕ) (l : Line) : Type 0 where
  pub from : l.from < buses
  pub to : l.to < buses
  pub course : All (λ p. p.zone < zones) (parts_of l.course)

part_placed : (w : WrittenRows) (part : PartRow) → is_in_zone w part ≡ true → (part_with_place w part).zone < length w.zones
part_placed w part there = place_within (λ z. z.name) w.zones part.zone there

parts_placed : (w : WrittenRows) (ps : List PartRow) → list_all (is_in_zone w) ps ≡ true → All (λ p. p.zone < length w.zones) (map (part_with_place w) ps)
parts_placed w [] h = All-nil (λ (p : LinePart). p.zone < length w.zones)
parts_placed w (part ∷ ps) h =
    let both = and_parts (is_in_zone w part) (list_all (is_in_zone w) ps) h in
    All-cons (λ (p : LinePart). p.zone < length w.zones) (part_with_place w part) (map (part_with_place w) ps) (part_placed w part both.0) (parts_placed w ps both.1)

course_placed : (w : WrittenRows) (row : ℕ) (course : CourseRow) → breaks_course_reference w row course ≡ [] → All (λ p. p.zone < length w.zones) (parts_of (course_with_places w course))
course_placed w row (courses.One part) h =
    All-cons (λ (p : LinePart). p.zone < length w.zones) (part_with_place w part) [] (part_placed w part (unless_holds _ _ h)) (All-nil (λ (p : LinePart). p.zone < length w.zones))
course_placed w row (courses.Several ps) h = parts_placed w ps (unless_holds _ _ h)

line_placed : (w : WrittenRows) (row : ℕ) (l : LineRow) → breaks_line_references w row l ≡ [] → IsPlaced (length w.buses) (length w.zones) (line_with_places w l)
line_placed w row l h =
    let from = none_of_both _ _ h in
    let to = none_of_both _ _ from.1 in
    record {
      from = place_within (λ b. b.name) w.buses l.from (unless_holds _ _ from.0);
      to = place_within (λ b. b.name) w.buses l.to (unless_holds _ _ to.0);
      course = course_placed w row l.course to.1;
    }

-- where a transformer's references go
abbrev IsPlacedKind : (buses : ℕ) → Kind ℕ → Type 0
IsPlacedKind buses (kinds.DeltaWye high high_resistance) = high < buses
IsPlacedKind buses (kinds.WyeWye high low low_volts high_resistance low_resistance third) = (high < buses) × (low < buses) × IfSome third (λ t. t.bus < buses)
IsPlacedKind buses (kinds.Auto high low low_volts series_resistance common_resistance third) = (high < buses) × (low < buses) × IfSome third (λ t. t.bus < buses)
IsPlacedKind buses (kinds.Reactor high high_resistance) = high < buses
IsPlacedKind buses kinds.DeltaDelta = Unit {0}

side_placed : (w : WrittenRows) (row : ℕ) (at : Field) (bus : List ℕ) → breaks_side_reference w row at bus ≡ [] → side_place w bus < length w.buses
side_placed w row at bus h = place_within (λ b. b.name) w.buses bus (unless_holds _ (refusals.Unknown lists.Transformer row at) h)

third_placed : (w : WrittenRows) (row : ℕ) (third : Option (Third (List ℕ))) → breaks_third_reference w row third ≡ [] → IfSome (option_map (third_with_place w) third) (λ t. t.bus < length w.buses)
third_placed w row None h = tt
third_placed w row (Some t) h = side_placed w row fields.Third t.bus h

sides_placed : (w : WrittenRows) (row : ℕ) (high low : List ℕ) (third : Option (Third (List ℕ)))
    → breaks_side_reference w row fields.High high ++ (breaks_side_reference w row fields.Low low ++ breaks_third_reference w row third) ≡ []
    → (side_place w high < length w.buses) × (side_place w low < length w.buses) × IfSome (option_map (third_with_place w) third) (λ t. t.bus < length w.buses)
sides_placed w row high low third h =
    let first = none_of_both (breaks_side_reference w row fields.High high) _ h in
    let others = none_of_both (breaks_side_reference w row fields.Low low) (breaks_third_reference w row third) first.1 in
    (side_placed w row fields.High high first.0, side_placed w row fields.Low low others.0, third_placed w row third others.1)

kind_placed : (w : WrittenRows) (row : ℕ) (k : Kind (List ℕ)) → breaks_kind_references w row k ≡ [] → IsPlacedKind (length w.buses) (kind_with_places w k)
kind_placed w row (kinds.DeltaWye high high_resistance) h = side_placed w row fields.High high h
kind_placed w row (kinds.WyeWye high low low_volts high_resistance low_resistance third) h = sides_placed w row high low third h
kind_placed w row (kinds.Auto high low low_volts series_resistance common_resistance third) h = sides_placed w row high low third h
kind_placed w row (kinds.Reactor high high_resistance) h = side_placed w row fields.High high h
kind_placed w row kinds.DeltaDelta h = tt

no_not : (b : Bool) → not b ≡ true → b ≡ false
no_not true h = absurd (false≢true h)
no_not false h = refl

unequal : (a b : ℕ) → not (a == b) ≡ true → a ≢ b
unequal a b differ e =
    let apart : (a == b) ≡ false = no_not (a == b) differ in
    absurd (grind (arith, nat_tests, e, apart))

-- what the rules on its sides give of a transformer
record AreRuled (buses : List Bus) (t : Transformer) : Type 0 where
  pub differ : sides_differ (windings_of t) ≡ true
  pub together : are_together buses (windings_of t) ≡ true
  pub ordered : are_ordered t.high_volts (windings_of t) ≡ true

-- what a test finds of all items holds of each
all_hold : {X : Type 0} (test : X → Bool) (xs : List X) → list_all test xs ≡ true → AllByRecursion (λ x. test x ≡ true) xs
all_hold test [] h = tt
all_hold test (x ∷ xs) h =
    let both = and_parts (test x) (list_all test xs) h in
    (both.0, all_hold test xs both.1)

-- a fact of each two of the others, and of the first beside each of them
pairs_in_prefix : {X : Type 0} (R : X → X → Type 0) (x : X) (xs : List X) → All (R x) xs → AllPairs R xs → AllPairs R (x ∷ xs)
pairs_in_prefix R x xs first rest zero zero d before within = absurd (omega arith)
pairs_in_prefix R x xs first rest zero (suc j) d before within = first j d (omega arith)
pairs_in_prefix R x xs first rest (suc i) zero d before within = absurd (omega arith)
pairs_in_prefix R x xs first rest (suc i) (suc j) d before within = rest i j d (omega arith) (omega arith)

abbrev HaveTwoBuses : Winding → Winding → Type 0
HaveTwoBuses v w = v.from.bus ≢ w.from.bus

differ_by : (ws : List Winding) → sides_differ ws ≡ true → AllPairs HaveTwoBuses ws
differ_by [] h = λ i j d before within. absurd (omega arith)
differ_by (w ∷ ws) h =
    let both = and_parts (list_all (λ v. not (w.from.bus == v.from.bus)) ws) (sides_differ ws) h in
    let others = weaker (λ v. not (w.from.bus == v.from.bus) ≡ true) (HaveTwoBuses w) (λ v apart. unequal w.from.bus v.from.bus apart) ws (all_hold (λ v. not (w.from.bus == v.from.bus)) ws both.0) in
    pairs_in_prefix HaveTwoBuses w ws (All-from_recursion (HaveTwoBuses w) ws others) (differ_by ws both.1)

-- windings that are all at one place
at_one_place : (place : Winding → ℕ) (n : ℕ) (ws : List Winding) → AllByRecursion (λ w. n ≡ place w) ws → AllPairs (λ v w. place v ≡ place w) ws
at_one_place place n ws each i j d before within =
    let all = All-from_recursion (λ w. n ≡ place w) ws each in
    sym (all i d (omega arith)) ∙ all j d within

together_by : (buses : List Bus) (ws : List Winding) → are_together buses ws ≡ true → AllPairs (λ v w. substation_at buses v.from.bus ≡ substation_at buses w.from.bus) ws
together_by buses [] h = λ i j d before within. absurd (omega arith)
together_by buses (w ∷ ws) h =
    let here = substation_at buses w.from.bus in
    let others = weaker (λ v. (here == substation_at buses v.from.bus) ≡ true) (λ v. here ≡ substation_at buses v.from.bus) (λ v one. eqb-true here (substation_at buses v.from.bus) one) ws
    (all_hold (λ v. here == substation_at buses v.from.bus) ws h) in
    at_one_place (λ v. substation_at buses v.from.bus) here (w ∷ ws) (refl, others)

module _ (c : Lists) (w : WrittenRows) (many : length c.buses ≡ length w.buses) (volts : ℕ) where
  -- a winding to the neutral, from what is known of its side
  one_by : (r : WindingRole) (bus side_volts ohm : ℕ) → bus < length w.buses → IsRated side_volts → nat_le side_volts volts ≡ true → IsResistance ohm
      → IsSoundWinding c volts (to_neutral r (terminal bus side_volts) ohm)
  one_by r bus side_volts ohm placed rated ordered measured = record {
    bus_within = subst (λ n. bus < n) (sym many) placed;
    rated = rated;
    order = few_of side_volts volts ordered;
    end_sound = tt;
    ohm = measured;
  }

  -- a winding in series
  series_by : (high low low_volts ohm : ℕ) → high < length w.buses → low < length w.buses → IsRated volts → nat_le volts volts ≡ true → nat_le low_volts volts ≡ true → not (high == low) ≡ true → IsResistance ohm
      → IsSoundWinding c volts (between roles.Series (terminal high volts) (terminal low low_volts) ohm)
  series_by high low low_volts ohm high_placed low_placed rated same ordered differ measured = record {
    bus_within = subst (λ n. high < n) (sym many) high_placed;
    rated = rated;
    order = few_of volts volts same;
    end_sound = (subst (λ n. low < n) (sym many) low_placed, (λ e. unequal high low differ (sym e)), few_of low_volts volts ordered);
    ohm = measured;
  }

  third_by : (third : Option (Third (List ℕ))) → IfSome third IsMeasuredThird → IfSome (option_map (third_with_place w) third) (λ t. t.bus < length w.buses)
      → are_ordered volts (third_windings (option_map (third_with_place w) third)) ≡ true → AllByRecursion (IsSoundWinding c volts) (third_windings (option_map (third_with_place w) third))
  third_by None measured placed ordered = tt
  third_by (Some t) measured placed ordered =
      let order = and_parts (nat_le t.volts volts) true ordered in
      (one_by roles.Third (side_place w t.bus) t.volts t.resistance placed measured.0 order.0 measured.1, tt)

  windings_sound_by : (k : Kind (List ℕ)) → IsRated volts → IsMeasuredKind k → IsPlacedKind (length w.buses) (kind_with_places w k)
      → sides_differ (windings_by volts (kind_with_places w k)) ≡ true → are_ordered volts (windings_by volts (kind_with_places w k)) ≡ true
      → AllByRecursion (IsSoundWinding c volts) (windings_by volts (kind_with_places w k))
  windings_sound_by (kinds.DeltaWye high high_resistance) rated measured placed differ ordered =
      (one_by roles.High (side_place w high) volts high_resistance placed rated (and_parts (nat_le volts volts) true ordered).0 measured, tt)
  windings_sound_by (kinds.WyeWye high low low_volts high_resistance low_resistance third) rated measured placed differ ordered =
      let third_row = option_map (third_with_place w) third in
      let first = and_parts (nat_le volts volts) (nat_le low_volts volts && are_ordered volts (third_windings third_row)) ordered in
      let second = and_parts (nat_le low_volts volts) (are_ordered volts (third_windings third_row)) first.1 in (
        one_by roles.High (side_place w high) volts high_resistance placed.0 rated first.0 measured.1.0,
        (one_by roles.Low (side_place w low) low_volts low_resistance placed.1 measured.0 second.0 measured.1.1, third_by third measured.2 placed.2 second.1),
      )
  windings_sound_by (kinds.Auto high low low_volts series_resistance common_resistance third) rated measured placed differ ordered =
      let third_row = option_map (third_with_place w) third in
      let first = and_parts (nat_le volts volts) (nat_le low_volts volts && are_ordered volts (third_windings third_row)) ordered in
      let second = and_parts (nat_le low_volts volts) (are_ordered volts (third_windings third_row)) first.1 in
      let others : List Winding = to_neutral roles.Common (terminal (side_place w low) low_volts) common_resistance ∷ third_windings third_row in
      let apart = and_parts (list_all (λ v. not (side_place w high == v.from.bus)) others) (sides_differ others) differ in
      let two = and_parts (not (side_place w high == side_place w low)) (list_all (λ v. not (side_place w high == v.from.bus)) (third_windings third_row)) apart.0 in (
        series_by (side_place w high) (side_place w low) low_volts series_resistance placed.0 placed.1 rated first.0 second.0 two.0 measured.1.0,
        (one_by roles.Common (side_place w low) low_volts common_resistance placed.1 measured.0 second.0 measured.1.1, third_by third measured.2 placed.2 second.1),
      )
  windings_sound_by (kinds.Reactor high high_resistance) rated measured placed differ ordered =
      (one_by roles.High (side_place w high) volts high_resistance placed rated (and_parts (nat_le volts volts) true ordered).0 measured, tt)
  windings_sound_by kinds.DeltaDelta rated measured placed differ ordered = tt

no_device_by : (w : WrittenRows) (volts : ℕ) (k : Kind (List ℕ)) (neutral : Option Neutral) → HasPlaceFor k neutral → is_some (slice_get (windings_by volts (kind_with_places w k)) 0) ≡ false → is_some neutral ≡ false
no_device_by w volts (kinds.DeltaWye high high_resistance) neutral place h = absurd (false≢true (sym h))
no_device_by w volts (kinds.WyeWye high low low_volts high_resistance low_resistance third) neutral place h = absurd (false≢true (sym h))
no_device_by w volts (kinds.Auto high low low_volts series_resistance common_resistance third) neutral place h = absurd (false≢true (sym h))
no_device_by w volts (kinds.Reactor high high_resistance) neutral place h = absurd (false≢true (sym h))
no_device_by w volts kinds.DeltaDelta neutral place h = ap is_some place

-- a transformer of a document that breaks no rule
transformer_by : (c : Lists) (w : WrittenRows) (t : TransformerRow) → length c.buses ≡ length w.buses → IsMeasuredTransformer t → IsPlacedKind (length w.buses) (kind_with_places w t.kind)
    → AreRuled c.buses (transformer_with_places w t) → IsSoundTransformer c (transformer_with_places w t)
transformer_by c w t many measured placed ruled = record {
  rated = measured.rated;
  windings_sound =
      All-from_recursion (IsSoundWinding c t.high_volts) (windings_of (transformer_with_places w t))
      (windings_sound_by c w many t.high_volts t.kind measured.rated measured.kind placed ruled.differ ruled.ordered);
  buses_differ = differ_by (windings_of (transformer_with_places w t)) ruled.differ;
  together = together_by c.buses (windings_of (transformer_with_places w t)) ruled.together;
  device_sound = measured.device;
  no_device = no_device_by w t.high_volts t.kind t.neutral measured.place;
}

differ : (row : ℕ) (l : Line) → unless (not (l.from == l.to)) (refusals.SameEnds lists.Line row) ≡ [] → l.from ≢ l.to
differ row l h = unequal l.from l.to (unless_holds _ _ h)

none_repeated : (test : ℕ → Bool) (refusal : ℕ → CaseRefusal) (a n : ℕ) → flat_map (λ i. unless (not (test i)) (refusal i)) (range_with_len a n) ≡ []
    → (k : ℕ) → a ≤ k → k < a + n → test k ≡ false
none_repeated test refusal a zero h k low high = absurd (omega arith)
none_repeated test refusal a (suc n) h k low high =
    let parts = none_of_both (unless (not (test a)) (refusal a)) (flat_map (λ i. unless (not (test i)) (refusal i)) (range_with_len (a + 1) n)) h in
    elim (cases_eq a k) [
      | inl here ↦ ap test (sym here) ∙ no_not (test a) (unless_holds _ (refusal a) parts.0)
      | inr apart ↦ none_repeated test refusal (a + 1) n parts.1 k (omega arith) (omega arith)
    ]

-- names of which none comes twice differ
all_differ : (names : List (List ℕ)) → ((k : ℕ) → k < length names → is_repeat names k ≡ false) → AllPairs (λ x y. x ≢ y) names
all_differ names none i j d before within e =
    let earlier : List (List ℕ) = take j names in
    let many : length earlier ≡ j = length-take-le j names (omega arith) in
    let default : get_or names j d ≡ get_or names j [] = get_or_default names j d [] within in
    let is_it : get_or earlier i d ≡ get_or names j [] = get_or-take j names i d before ∙ e ∙ default in
    let hit : same (get_or names j []) (get_or earlier i d) ≡ true = ap (same (get_or names j [])) is_it ∙ nat_list_eq_equiv.refl (get_or names j []) in
    absurd (false≢true (sym (none j within) ∙ list_any_at (same (get_or names j [])) earlier i d (omega arith) hit))

few_from : (names : List (List ℕ)) (ends : List ℕ) (n : ℕ) → breaks_degree_from n names ends ≡ [] → (k : ℕ) → n ≤ k → k < n + length names → degree_of ends k ≤ 256
few_from [] ends n h k low high = absurd (omega arith)
few_from (x ∷ xs) ends n h k low high =
    let parts = none_of_both (unless (nat_le (degree_of ends n) 256) (refusals.Degree x)) (breaks_degree_from (n + 1) xs ends) h in
    elim (cases_eq n k) [
      | inl here ↦ subst (λ m. degree_of ends m ≤ 256) here (few_of (degree_of ends n) 256 (unless_holds _ (refusals.Degree x) parts.0))
      | inr apart ↦ few_from xs ends (n + 1) parts.1 k (omega arith) (omega arith)
    ]

names_stay : (w : WrittenRows) → names_of (resolved w) ≡ written_names w
unfolding resolved
names_stay w = simp map-map

-- the names of a list's rows
named : {A : Type 0} (list : CaseList) (limit : ℕ) (breaks : ℕ → Data → List CaseRefusal) (of : Data → A) (name : A → List ℕ)
    → ((row : ℕ) (d : Data) → breaks row d ≡ [] → IsTrue (is_name (name (of d))))
    → (ms : Members) → breaks_list list limit breaks ms ≡ [] → All (λ n. IsTrue (is_name n)) (map name (map of (entries_of list ms)))
named list limit breaks of name law ms h =
    All-map (λ n. IsTrue (is_name n)) name (map of (entries_of list ms)) (All-map (λ x. IsTrue (is_name (name x))) of (entries_of list ms)
    (all_kept breaks (λ d. IsTrue (is_name (name (of d)))) law 1 (entries_of list ms) (rows_kept list limit breaks ms h)))

-- what the form of the document gives
record IsFormed (w : WrittenRows) : Type 0 where
  pub few_zones : length w.zones ≤ MOST_ZONES
  pub few_substations : length w.substations ≤ MOST_SUBSTATIONS
  pub few_buses : length w.buses ≤ MOST_BUSES
  pub few_lines : length w.lines ≤ MOST_LINES
  pub few_transformers : length w.transformers ≤ MOST_TRANSFORMERS
  pub names : All (λ n. IsTrue (is_name n)) (written_names w)
  pub zones : All IsZone w.zones
  pub substations : All IsSoundSubstation w.substations
  pub lines : All IsMeasured w.lines
  pub transformers : All IsMeasuredTransformer w.transformers

-- no format has more rows than the third
few_by : (third : Bool) (n most before : ℕ) → nat_le before most ≡ true → n ≤ cond third most before → n ≤ most
few_by true n most before fewer few = few
few_by false n most before fewer few = omega (arith, few_of before most fewer, few)

formed : (ms : Members) → breaks_form ms ≡ [] → IsFormed (written_in ms)
unfolding breaks_form written_in
formed ms h =
    let format = format_in ms in
    let keys = none_of_both _ _ h in
    let number = none_of_both _ _ keys.1 in
    let zones = none_of_both _ _ number.1 in
    let substations = none_of_both _ _ zones.1 in
    let buses = none_of_both _ _ substations.1 in
    let last_two = none_of_both _ _ buses.1 in
    let z = few_rows lists.Zone (most_rows format lists.Zone) (breaks_zone format) ms zones.0 in
    let s = few_rows lists.Substation (most_rows format lists.Substation) (breaks_substation format) ms substations.0 in
    let b = few_rows lists.Bus (most_rows format lists.Bus) breaks_bus ms buses.0 in
    let l = few_rows lists.Line (most_rows format lists.Line) (breaks_line format) ms last_two.0 in
    let t = few_rows lists.Transformer (most_rows format lists.Transformer) (breaks_transformer format) ms last_two.1 in
    record {
      few_zones = rw length-map z;
      few_substations = rw length-map (few_by (is_third format) _ MOST_SUBSTATIONS MOST_SUBSTATIONS_BEFORE_FORMAT_3 refl s);
      few_buses = rw length-map (few_by (is_third format) _ MOST_BUSES MOST_BUSES_BEFORE_FORMAT_3 refl b);
      few_lines = rw length-map (few_by (is_third format) _ MOST_LINES MOST_LINES_BEFORE_FORMAT_3 refl l);
      few_transformers = rw length-map (few_by (is_third format) _ MOST_TRANSFORMERS MOST_TRANSFORMERS_BEFORE_FORMAT_3 refl t);
      names =
          All-append (λ n. IsTrue (is_name n)) (map (λ z. z.name) (map (zone_of format) (entries_of lists.Zone ms))) _ (named lists.Zone (most_rows format lists.Zone) (breaks_zone format) (zone_of format) (λ z. z.name) (zone_named format) ms zones.0)
          (All-append (λ n. IsTrue (is_name n)) (map (λ s. s.name) (map (substation_of format) (entries_of lists.Substation ms))) _ (named lists.Substation (most_rows format lists.Substation) (breaks_substation format) (substation_of format) (λ s. s.name) (substation_named format) ms substations.0)
          (All-append (λ n. IsTrue (is_name n)) (map (λ b. b.name) (map bus_of (entries_of lists.Bus ms))) _ (named lists.Bus (most_rows format lists.Bus) breaks_bus bus_of (λ b. b.name) bus_named ms buses.0)
          (All-append (λ n. IsTrue (is_name n)) (map (λ l. l.name) (map (line_row_of format) (entries_of lists.Line ms))) (map (λ t. t.name) (map (transformer_of format) (entries_of lists.Transformer ms)))
          (named lists.Line (most_rows format lists.Line) (breaks_line format) (line_row_of format) (λ l. l.name) (line_named format) ms last_two.0) (named lists.Transformer (most_rows format lists.Transformer) (breaks_transformer format) (transformer_of format) (λ t. t.name) (transformer_named format) ms last_two.1))));
      zones = All-map IsZone (zone_of format) (entries_of lists.Zone ms) (all_kept (breaks_zone format) (λ d. IsZone (zone_of format d)) (zone_measured format) 1 (entries_of lists.Zone ms) (rows_kept lists.Zone (most_rows format lists.Zone) (breaks_zone format) ms zones.0));
      substations = All-map IsSoundSubstation (substation_of format) (entries_of lists.Substation ms) (all_kept (breaks_substation format) (λ d. IsSoundSubstation (substation_of format d)) (substation_measured format) 1 (entries_of lists.Substation ms) (rows_kept lists.Substation (most_rows format lists.Substation) (breaks_substation format) ms substations.0));
      lines = All-map IsMeasured (line_row_of format) (entries_of lists.Line ms) (all_kept (breaks_line format) (λ d. IsMeasured (line_row_of format d)) (line_measured format) 1 (entries_of lists.Line ms) (rows_kept lists.Line (most_rows format lists.Line) (breaks_line format) ms last_two.0));
      transformers = All-map IsMeasuredTransformer (transformer_of format) (entries_of lists.Transformer ms) (all_kept (breaks_transformer format) (λ d. IsMeasuredTransformer (transformer_of format d)) (transformer_measured format) 1 (entries_of lists.Transformer ms) (rows_kept lists.Transformer (most_rows format lists.Transformer) (breaks_transformer format) ms last_two.1));
    }

buses_by : (w : WrittenRows) → flat_map (λ p. breaks_bus_reference w p.0 p.1) (enumerate_from 1 w.buses) ≡ [] → All (λ b. b.substation < length w.substations) (map (bus_with_place w) w.buses)
buses_by w references =
    All-map (λ b. b.substation < length w.substations) (bus_with_place w) w.buses
    (all_kept (breaks_bus_reference w) (λ b. (bus_with_place w b).substation < length w.substations) (λ row b h. place_within (λ s. s.name) w.substations b.substation (unless_holds _ _ h)) 1 w.buses references)

-- a course with places leads as far as it is written, in as many parts
north_stays : (w : WrittenRows) (course : CourseRow) → north_way (parts_of (course_with_places w course)) ≡ written_lines.north_way (written_parts course)
north_stays w (courses.One part) = refl
north_stays w (courses.Several ps) = fold-map (λ a p. a + unsigned_abs p.north) (part_with_place w) 0 ps

east_stays : (w : WrittenRows) (course : CourseRow) → east_way (parts_of (course_with_places w course)) ≡ written_lines.east_way (written_parts course)
east_stays w (courses.One part) = refl
east_stays w (courses.Several ps) = fold-map (λ a p. a + unsigned_abs p.east) (part_with_place w) 0 ps

few_stay : (w : WrittenRows) (course : CourseRow) → AreFewWritten course → AreFewParts (course_with_places w course)
few_stay w (courses.One part) h = tt
few_stay w (courses.Several ps) h =
    let many = length-map ps (part_with_place w) in
    (omega (arith, many, h.0), omega (arith, many, h.1))

-- the lines of a document that breaks no rule
lines_by : (w : WrittenRows) → All IsMeasured w.lines → flat_map (λ p. breaks_line_references w p.0 p.1) (enumerate_from 1 w.lines) ≡ []
    → breaks_same_ends (resolved w) ≡ [] → All (IsSoundLine (resolved w)) (resolved w).lines
unfolding resolved
lines_by w measured references apart =
    let lines : List Line = map (line_with_places w) w.lines in
    let buses = length-map w.buses (bus_with_place w) in
    let sizes = All-map (λ l. (1000 ≤ l.resistance) × (l.resistance ≤ 1000000000)) (line_with_places w) w.lines (λ k d lt. (measured k d lt).resistance) in
    let few = All-map (λ l. AreFewParts l.course) (line_with_places w) w.lines (λ k d lt. few_stay w (get_or w.lines k d).course (measured k d lt).few) in
    let norths = All-map (λ l. north_way (parts_of l.course) ≤ 1000000) (line_with_places w) w.lines (λ k d lt. subst (λ n. n ≤ 1000000) (sym (north_stays w (get_or w.lines k d).course)) (measured k d lt).north) in
    let easts = All-map (λ l. east_way (parts_of l.course) ≤ 1000000) (line_with_places w) w.lines (λ k d lt. subst (λ n. n ≤ 1000000) (sym (east_stays w (get_or w.lines k d).course)) (measured k d lt).east) in
    let IsHere : Line → Type 0 = IsPlaced (length w.buses) (length w.zones) in
    let placed = All-map IsHere (line_with_places w) w.lines (all_kept (breaks_line_references w) (λ l. IsHere (line_with_places w l)) (line_placed w) 1 w.lines references) in
    let two = all_kept (λ row l. unless (not (l.from == l.to)) (refusals.SameEnds lists.Line row)) (λ l. l.from ≢ l.to) differ 1 lines apart in
    λ k d lt. record {
      from_within = rw buses (placed k d lt).from;
      to_within = rw buses (placed k d lt).to;
      zones_within = (placed k d lt).course;
      few_parts = few k d lt;
      ends_differ = two k d lt;
      resistance_least = (sizes k d lt).0;
      resistance_most = (sizes k d lt).1;
      north_within = norths k d lt;
      east_within = easts k d lt;
    }

-- the transformers of a document that breaks no rule
transformers_by : (w : WrittenRows) → All IsMeasuredTransformer w.transformers → flat_map (λ p. breaks_kind_references w p.0 p.1.kind) (enumerate_from 1 w.transformers) ≡ []
    → breaks_same_sides (resolved w) ≡ [] → breaks_apart (resolved w) ≡ [] → breaks_voltage_order (resolved w) ≡ [] → All (IsSoundTransformer (resolved w)) (resolved w).transformers
unfolding resolved
transformers_by w measured references differ apart order =
    let c = resolved w in
    let many = length-map w.buses (bus_with_place w) in
    let placed = all_kept (λ row t. breaks_kind_references w row t.kind) (λ t. IsPlacedKind (length w.buses) (kind_with_places w t.kind)) (λ row t. kind_placed w row t.kind) 1 w.transformers references in
    let read = transformer_with_places w in
    let differs = all_kept (λ row t. unless (sides_differ (windings_of t)) (refusals.SameEnds lists.Transformer row)) (λ t. sides_differ (windings_of t) ≡ true) (λ row t. unless_holds _ _) 1 c.transformers differ in
    let together = all_kept (λ row t. unless (are_together c.buses (windings_of t)) (refusals.Apart row)) (λ t. are_together c.buses (windings_of t) ≡ true) (λ row t. unless_holds _ _) 1 c.transformers apart in
    let ordered = all_kept (λ row t. unless (are_ordered t.high_volts (windings_of t)) (refusals.VoltageOrder row)) (λ t. are_ordered t.high_volts (windings_of t) ≡ true) (λ row t. unless_holds _ _) 1 c.transformers order in
    let differs_there = all_unmapped (λ t. sides_differ (windings_of t) ≡ true) read w.transformers differs in
    let together_there = all_unmapped (λ t. are_together c.buses (windings_of t) ≡ true) read w.transformers together in
    let ordered_there = all_unmapped (λ t. are_ordered t.high_volts (windings_of t) ≡ true) read w.transformers ordered in
    All-map (IsSoundTransformer c) read w.transformers (λ k d lt.
    transformer_by c w (get_or w.transformers k d) many (measured k d lt) (placed k d lt) (record {
      differ = differs_there k d lt;
      together = together_there k d lt;
      ordered = ordered_there k d lt;
    }))

names_by : (w : WrittenRows) → breaks_once w ≡ [] → AllPairs (λ x y. x ≢ y) (names_of (resolved w))
unfolding breaks_once
names_by w h =
    let names = written_names w in
    rw names_stay (all_differ names (λ k lt. none_repeated (is_repeat names) (duplicate_at (length w.zones) (length w.substations) (length w.buses) (length w.lines)) 0 (length names) h k (omega arith) (omega arith)))

-- what the rules on the whole give
record IsRuled (w : WrittenRows) : Type 0 where
  pub once : breaks_once w ≡ []
  pub references : breaks_references w ≡ []
  pub ends : breaks_same_ends (resolved w) ≡ []
  pub sides : breaks_same_sides (resolved w) ≡ []
  pub together : breaks_apart (resolved w) ≡ []
  pub ordered : breaks_voltage_order (resolved w) ≡ []
  pub few : breaks_degree (resolved w) ≡ []

resolved_sound : (w : WrittenRows) → IsFormed w → IsRuled w → IsSound (resolved w)
unfolding resolved breaks_references
resolved_sound w form ruled =
    let buses = none_of_both _ _ ruled.references in
    let places = none_of_both _ _ buses.1 in
    record {
      few_zones = form.few_zones;
      few_substations = form.few_substations;
      few_buses = rw (length-map w.buses (bus_with_place w)) form.few_buses;
      few_lines = rw (length-map w.lines (line_with_places w)) form.few_lines;
      few_transformers = rw (length-map w.transformers (transformer_with_places w)) form.few_transformers;
      zones_sound = form.zones;
      substations_sound = form.substations;
      buses_within = buses_by w buses.0;
      lines_sound = lines_by w form.lines places.0 ruled.ends;
      transformers_sound = transformers_by w form.transformers places.1 ruled.sides ruled.together ruled.ordered;
      names_sound = rw names_stay form.names;
      names_differ = names_by w ruled.once;
      few_ends = λ k lt. few_from (node_names (resolved w)) (element_ends (resolved w)) 0 ruled.few k (omega arith) (omega arith);
    }

sound_by : (ms : Members) → broken_in ms ≡ [] → IsSound (resolved (written_in ms))
unfolding broken_in
sound_by ms h =
    let w = written_in ms in
    let form = none_of_both (breaks_form ms) _ h in
    let once = none_of_both (breaks_once w) _ form.1 in
    let references = none_of_both (breaks_references w) _ once.1 in
    let ends = none_of_both (breaks_same_ends (resolved w)) _ references.1 in
    let sides = none_of_both (breaks_same_sides (resolved w)) _ ends.1 in
    let together = none_of_both (breaks_apart (resolved w)) _ sides.1 in
    let ordered = none_of_both (breaks_voltage_order (resolved w)) (breaks_degree (resolved w)) together.1 in
    resolved_sound w (formed ms form.0) (record {
      once = once.0;
      references = references.0;
      ends = ends.0;
      sides = sides.0;
      together = together.0;
      ordered = ordered.0;
      few = ordered.1;
    })

-- an accepted document's lists are sound
pub sound_case : (ms : Members) (c : Lists) → case_in ms ≡ Ok c → IsSound c
sound_case ms c h =
    let parts = none_settled (broken_in ms) (resolved (written_in ms)) c (sym (case_in_law ms) ∙ h) in
    subst IsSound parts.1 (sound_by ms parts.0)

accepted_document : (d : Option Members) (c : Lists) → case_refusals d ≡ [] → lists_of d ≡ c → IsSound c
accepted_document None c none is = absurd (cc none)
accepted_document (Some ms) c none is = subst IsSound is (sound_by ms none)

-- an accepted case's lists are sound
pub accepted_sound : (bytes : List ℕ) (c : Lists) → case_of bytes ≡ Ok c → IsSound c
unfolding case_of
accepted_sound bytes c h =
    let parts = none_settled (case_refusals (document_of bytes)) (lists_of (document_of bytes)) c h in
    accepted_document (document_of bytes) c parts.0 parts.1
