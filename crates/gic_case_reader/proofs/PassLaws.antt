-- One pass over a document answers the first refusal of all rules.
use Rattle.std.proofs.Common.{◌≡◌, ℕ, zero, suc, ◌+◌, nat_le, nat_lt, List, [], ◌∷◌, ◌++◌, length, map, Bool, true, false, cond, not, ◌&&◌, Option, Some, None, option_map, unwrap_or, is_some, Result, Ok, Err, refl, ap, ◌∙◌, arith, inl, inr}
use Rattle.std.proofs.lemmas.Bool.{cases_Bool}
use Rattle.std.proofs.lemmas.Bool.Decides.{nat_tests}
use Rattle.std.specs.List.{flat_map, enumerate_from, range_with_len, list_all}
use Rattle.toml.specs.Data.{Data, Items, no_items, item, Members, get_member, as_array}
use Rattle.gic_base.specs.Refusals.{unless, settle}
use Rattle.gic_base.specs.Passes.{◌>>=◌, or_refuse}
use Rattle.gic_base.proofs.RefusalLaws.{then_law, last_law, value_law, test_law}
use Rattle.gic_case.specs.ListWord.{list_word}
use Rattle.gic_case_reader.specs.Formats.{read_format, format_in, most_rows}
use Rattle.gic_case_reader.specs.Rows.{breaks_zone, zone_of, breaks_substation, substation_of, breaks_bus, bus_of}
use Rattle.gic_case_reader.specs.Lines.{breaks_line, line_row_of}
use Rattle.gic_case_reader.specs.Transformers.{breaks_transformer, transformer_of}
use Rattle.gic_case.specs.Lists.{Lists}
use Rattle.gic_case.specs.Names.{is_repeat}
use Rattle.gic_case_reader.specs.OneByOne.{first_from, first_repeat}
use Rattle.gic_case_reader.specs.Rules.{list_in, array_in, entries_of, is_array, breaks_list, breaks_form, WrittenRows, written_in, written_names, duplicate_at, breaks_once, substation_place, bus_place, zone_place, breaks_bus_reference, is_in_zone, breaks_course_reference, breaks_line_references, breaks_side_reference, breaks_third_reference, breaks_kind_references, breaks_references, bus_with_place, part_with_place, course_with_places, line_with_places, side_place, third_with_place, kind_with_places, transformer_with_places, resolved, breaks_same_ends, breaks_same_sides, breaks_apart, breaks_voltage_order, breaks_degree, broken_in, document_of, case_refusals, lists_of, case_of}
use Rattle.gic_case_reader.specs.Pass.{items_or, items_at, count_of, rows_from, list_at, zone_row, substation_row, bus_row, line_row, transformer_row, rows_of, refuse_if, unique, each, side_at, bus_in, part_in, parts_with, course_in, line_in, third_in, kind_in, transformer_in, resolve, case_in}
use Rattle.gic_case_reader.specs.declared.field.Field.{Field}
use Rattle.gic_case_reader.specs.declared.field.Field.TheVariants as fields
use Rattle.gic_case_reader.specs.declared.format.Format.TheVariants as formats
use Rattle.gic_case.specs.declared.case_list.CaseList.{CaseList}
use Rattle.gic_case.specs.declared.case_list.CaseList.TheVariants as lists
use Rattle.gic_case_reader.specs.declared.refusal.CaseRefusal.{CaseRefusal}
use Rattle.gic_case_reader.specs.declared.refusal.CaseRefusal.TheVariants as refusals
use Rattle.gic_case_reader.specs.declared.row.BusRow.{BusRow}
use Rattle.gic_case_reader.specs.declared.part_row.PartRow.{PartRow}
use Rattle.gic_case_reader.specs.declared.row.CourseRow.{CourseRow}
use Rattle.gic_case_reader.specs.declared.row.CourseRow.TheVariants as written
use Rattle.gic_case_reader.specs.declared.row.LineRow.{LineRow}
use Rattle.gic_case.specs.declared.kind.Third.{Third}
use Rattle.gic_case.specs.declared.kind.Kind.{Kind}
use Rattle.gic_case_reader.specs.declared.row.TransformerRow.{TransformerRow}
use Rattle.gic_case.specs.declared.course.Course.TheVariants as courses
use Rattle.gic_case.specs.declared.kind.Kind.TheVariants as kinds
use Rattle.gic_case_reader.proofs.FieldLaws.{required_law, zone_law, substation_law, bus_law, line_law, transformer_law}

-- rows, one after another
rows_law : {A : Type 0} (read : ℕ → Data → Result A CaseRefusal) (breaks : ℕ → Data → List CaseRefusal) (of : Data → A)
    → ((n : ℕ) (d : Data) → read n d ≡ settle (breaks n d) (of d))
    → (n : ℕ) (ds : Items) → rows_from read n ds ≡ settle (flat_map (λ p. breaks p.0 p.1) (enumerate_from n (list_in ds))) (map of (list_in ds))
rows_law read breaks of law n no_items = refl
rows_law read breaks of law n (item d ds) =
    then_law _ _ _ _ _ _ (law n d) (last_law _ _ _ (λ xs. of d ∷ xs) (rows_law read breaks of law (n + 1) ds))

each_law : {A B : Type 0} (read : ℕ → A → Result B CaseRefusal) (breaks : ℕ → A → List CaseRefusal) (of : A → B)
    → ((n : ℕ) (x : A) → read n x ≡ settle (breaks n x) (of x))
    → (n : ℕ) (xs : List A) → each read n xs ≡ settle (flat_map (λ p. breaks p.0 p.1) (enumerate_from n xs)) (map of xs)
each_law read breaks of law n [] = refl
each_law read breaks of law n (x ∷ xs) =
    then_law _ _ _ _ _ _ (law n x) (last_law _ _ _ (λ ys. of x ∷ ys) (each_law read breaks of law (n + 1) xs))

count_list : (ds : Items) → count_of ds ≡ length (list_in ds)
count_list no_items = refl
count_list (item d ds) = ap (λ n. suc n) (count_list ds)

lt_not_le : (n limit : ℕ) → nat_lt limit n ≡ not (nat_le n limit)
lt_not_le n limit = grind (arith, nat_tests)

few_law : {A : Type 0} (b : Bool) (e : CaseRefusal) (r : Result A CaseRefusal) (es : List CaseRefusal) (y : A)
    → r ≡ settle es y → cond (not b) (Err e) r ≡ settle (unless b e ++ es) y
few_law true e r es y h = h
few_law false e r es y h = refl

array_law : {A : Type 0} (o : Option Items) (e : CaseRefusal) (f : Items → Result A CaseRefusal) (es : List Data → List CaseRefusal) (y : List Data → A)
    → ((ds : Items) → f ds ≡ settle (es (list_in ds)) (y (list_in ds)))
    → (or_refuse o e >>= f) ≡ settle (unless (is_some o) e ++ es (list_in (unwrap_or o no_items))) (y (list_in (unwrap_or o no_items)))
array_law None e f es y h = refl
array_law (Some ds) e f es y h = h ds

items_law : {A : Type 0} (o : Option Data) (e : CaseRefusal) (f : Items → Result A CaseRefusal) (es : List Data → List CaseRefusal) (y : List Data → A)
    → ((ds : Items) → f ds ≡ settle (es (list_in ds)) (y (list_in ds)))
    → (items_or e o >>= f) ≡ settle (unless (is_array o) e ++ es (array_in o)) (y (array_in o))
items_law None e f es y h = h no_items
items_law (Some d) e f es y h = array_law (as_array d) e f es y h

-- a list of the document
list_law : {A : Type 0} (list : CaseList) (limit : ℕ) (read : ℕ → Data → Result A CaseRefusal) (breaks : ℕ → Data → List CaseRefusal) (of : Data → A)
    → ((n : ℕ) (d : Data) → read n d ≡ settle (breaks n d) (of d))
    → (ms : Members) → list_at list limit read ms ≡ settle (breaks_list list limit breaks ms) (map of (entries_of list ms))
unfolding list_at items_at
list_law list limit read breaks of law ms =
    items_law (get_member (list_word list) ms) (refusals.Key list 0) _ (λ ds. unless (nat_le (length ds) limit) (refusals.TooMany list) ++ flat_map (λ p. breaks p.0 p.1) (enumerate_from 1 ds)) (map of)
    (λ ds. rw (count_list ds, lt_not_le (length (list_in ds)) limit) (few_law (nat_le (length (list_in ds)) limit) (refusals.TooMany list) _ _ _ (rows_law read breaks of law 1 ds)))

-- the form of the document
rows_of_law : (ms : Members) → rows_of ms ≡ settle (breaks_form ms) (written_in ms)
unfolding rows_of breaks_form written_in
rows_of_law ms =
    let format = format_in ms in
    then_law _ _ _ _ _ _ (test_law _ _)
    (then_law _ _ _ _ _ _ (required_law read_format lists.Document 0 fields.Format ms formats.One)
    (then_law _ _ _ _ _ _ (list_law lists.Zone (most_rows format lists.Zone) (zone_row format) (breaks_zone format) (zone_of format) (zone_law format) ms)
    (then_law _ _ _ _ _ _ (list_law lists.Substation (most_rows format lists.Substation) (substation_row format) (breaks_substation format) (substation_of format) (substation_law format) ms)
    (then_law _ _ _ _ _ _ (list_law lists.Bus (most_rows format lists.Bus) bus_row breaks_bus bus_of bus_law ms)
    (then_law _ _ _ _ _ _ (list_law lists.Line (most_rows format lists.Line) (line_row format) (breaks_line format) (line_row_of format) (line_law format) ms)
    (last_law _ _ _ _ (list_law lists.Transformer (most_rows format lists.Transformer) (transformer_row format) (breaks_transformer format) (transformer_of format) (transformer_law format) ms)))))))

first_law : (test : ℕ → Bool) (refusal : ℕ → CaseRefusal) (n i : ℕ)
    → refuse_if (option_map refusal (first_from test n i)) ≡ settle (flat_map (λ k. unless (not (test k)) (refusal k)) (range_with_len i n)) tt
first_law test refusal zero i = refl
first_law test refusal (suc n) i =
    elim (cases_Bool (test i)) [
      | inl here ↦ rw here
      | inr other ↦ rw other (first_law test refusal n (i + 1))
    ]

-- names that come twice
unique_law : (w : WrittenRows) → unique w ≡ settle (breaks_once w) tt
unfolding unique breaks_once first_repeat
unique_law w = first_law (is_repeat (written_names w)) (duplicate_at (length w.zones) (length w.substations) (length w.buses) (length w.lines)) (length (written_names w)) 0

bus_in_law : (w : WrittenRows) (row : ℕ) (b : BusRow) → bus_in (substation_place w) row b ≡ settle (breaks_bus_reference w row b) (bus_with_place w b)
unfolding bus_in
bus_in_law w row b = last_law _ _ _ _ (value_law (substation_place w b.substation) (refusals.Unknown lists.Bus row fields.Substation) 0)

part_in_law : (w : WrittenRows) (row : ℕ) (at : Field) (part : PartRow) → part_in (zone_place w) row at part ≡ settle (unless (is_in_zone w part) (refusals.Unknown lists.Line row at)) (part_with_place w part)
part_in_law w row at part = last_law _ _ _ _ (value_law (zone_place w part.zone) (refusals.Unknown lists.Line row at) 0)

-- two facts that are refused alike
both_law : {A : Type 0} (a b : Bool) (e : CaseRefusal) (x : A) → settle (unless a e ++ unless b e) x ≡ settle (unless (a && b) e) x
both_law true b e x = refl
both_law false b e x = refl

parts_with_law : (w : WrittenRows) (row : ℕ) (ps : List PartRow)
    → parts_with (zone_place w) row ps ≡ settle (unless (list_all (is_in_zone w) ps) (refusals.Unknown lists.Line row fields.Part)) (map (part_with_place w) ps)
parts_with_law w row [] = refl
parts_with_law w row (part ∷ ps) =
    then_law _ _ _ _ _ _ (part_in_law w row fields.Part part) (last_law _ _ _ (λ xs. part_with_place w part ∷ xs) (parts_with_law w row ps))
    ∙ both_law (is_in_zone w part) (list_all (is_in_zone w) ps) (refusals.Unknown lists.Line row fields.Part) (map (part_with_place w) (part ∷ ps))

course_in_law : (w : WrittenRows) (row : ℕ) (course : CourseRow) → course_in (zone_place w) row course ≡ settle (breaks_course_reference w row course) (course_with_places w course)
unfolding course_in
course_in_law w row (written.One part) = last_law _ _ _ (λ x. courses.One x) (part_in_law w row fields.Zone part)
course_in_law w row (written.Several ps) = last_law _ _ _ (λ xs. courses.Several xs) (parts_with_law w row ps)

line_in_law : (w : WrittenRows) (row : ℕ) (l : LineRow) → line_in (bus_place w) (zone_place w) row l ≡ settle (breaks_line_references w row l) (line_with_places w l)
unfolding line_in
line_in_law w row l =
    then_law _ _ _ _ _ _ (value_law (bus_place w l.from) (refusals.Unknown lists.Line row fields.From) 0)
    (then_law _ _ _ _ _ _ (value_law (bus_place w l.to) (refusals.Unknown lists.Line row fields.To) 0)
    (last_law _ _ _ _ (course_in_law w row l.course)))

side_law : (w : WrittenRows) (row : ℕ) (at : Field) (bus : List ℕ) → side_at (bus_place w) row at bus ≡ settle (breaks_side_reference w row at bus) (side_place w bus)
side_law w row at bus = value_law (bus_place w bus) (refusals.Unknown lists.Transformer row at) 0

third_in_law : (w : WrittenRows) (row : ℕ) (third : Option (Third (List ℕ))) → third_in (bus_place w) row third ≡ settle (breaks_third_reference w row third) (option_map (third_with_place w) third)
third_in_law w row None = refl
third_in_law w row (Some t) = last_law _ _ _ (λ place. Some (record { bus = place; volts = t.volts; resistance = t.resistance })) (side_law w row fields.Third t.bus)

kind_in_law : (w : WrittenRows) (row : ℕ) (k : Kind (List ℕ)) → kind_in (bus_place w) row k ≡ settle (breaks_kind_references w row k) (kind_with_places w k)
unfolding kind_in
kind_in_law w row (kinds.DeltaWye high high_resistance) = last_law _ _ _ (λ h. kinds.DeltaWye h high_resistance) (side_law w row fields.High high)
kind_in_law w row (kinds.WyeWye high low low_volts high_resistance low_resistance third) =
    then_law _ _ _ _ _ _ (side_law w row fields.High high)
    (then_law _ _ _ _ _ _ (side_law w row fields.Low low)
    (last_law _ _ _ (λ t. kinds.WyeWye (side_place w high) (side_place w low) low_volts high_resistance low_resistance t) (third_in_law w row third)))
kind_in_law w row (kinds.Auto high low low_volts series_resistance common_resistance third) =
    then_law _ _ _ _ _ _ (side_law w row fields.High high)
    (then_law _ _ _ _ _ _ (side_law w row fields.Low low)
    (last_law _ _ _ (λ t. kinds.Auto (side_place w high) (side_place w low) low_volts series_resistance common_resistance t) (third_in_law w row third)))
kind_in_law w row (kinds.Reactor high high_resistance) = last_law _ _ _ (λ h. kinds.Reactor h high_resistance) (side_law w row fields.High high)
kind_in_law w row kinds.DeltaDelta = refl

transformer_in_law : (w : WrittenRows) (row : ℕ) (t : TransformerRow) → transformer_in (bus_place w) row t ≡ settle (breaks_kind_references w row t.kind) (transformer_with_places w t)
unfolding transformer_in
transformer_in_law w row t = last_law _ _ _ _ (kind_in_law w row t.kind)

-- references
resolve_law : (w : WrittenRows) → resolve w ≡ settle (breaks_references w) (resolved w)
unfolding resolve breaks_references resolved
resolve_law w =
    then_law _ _ _ _ _ _ (each_law (bus_in (substation_place w)) (breaks_bus_reference w) (bus_with_place w) (bus_in_law w) 1 w.buses)
    (then_law _ _ _ _ _ _ (each_law (line_in (bus_place w) (zone_place w)) (breaks_line_references w) (line_with_places w) (line_in_law w) 1 w.lines)
    (last_law _ _ _ _ (each_law (transformer_in (bus_place w)) (λ row t. breaks_kind_references w row t.kind) (transformer_with_places w) (transformer_in_law w) 1 w.transformers)))

-- a rule on lists that are read, and what comes after it
rule_law : (es more : List CaseRefusal) (c : Lists) (r : Result Lists CaseRefusal) → r ≡ settle more c → (settle es (tt {0}) >>= (λ u. r)) ≡ settle (es ++ more) c
rule_law [] more c r h = h
rule_law (e ∷ es) more c r h = refl

last_rule_law : (es : List CaseRefusal) (c : Lists) → (settle es (tt {0}) >>= (λ u. Ok c)) ≡ settle es c
last_rule_law [] c = refl
last_rule_law (e ∷ es) c = refl

-- ends, sides and degrees
ends_law : (c : Lists)
    → (settle (breaks_same_ends c) (tt {0}) >>= (λ lines. settle (breaks_same_sides c) (tt {0}) >>= (λ sides. settle (breaks_apart c) (tt {0}) >>= (λ together.
    settle (breaks_voltage_order c) (tt {0}) >>= (λ ordered. settle (breaks_degree c) (tt {0}) >>= (λ few. Ok c))))))
    ≡ settle (breaks_same_ends c ++ (breaks_same_sides c ++ (breaks_apart c ++ (breaks_voltage_order c ++ breaks_degree c)))) c
ends_law c =
    rule_law (breaks_same_ends c) _ c _
    (rule_law (breaks_same_sides c) _ c _
    (rule_law (breaks_apart c) _ c _
    (rule_law (breaks_voltage_order c) _ c _ (last_rule_law (breaks_degree c) c))))

-- the case of a document
pub case_in_law : (ms : Members) → case_in ms ≡ settle (broken_in ms) (resolved (written_in ms))
unfolding case_in broken_in
case_in_law ms =
    then_law _ _ _ _ _ _ (rows_of_law ms)
    (then_law _ _ _ _ _ _ (unique_law (written_in ms))
    (then_law _ _ _ _ _ _ (resolve_law (written_in ms)) (ends_law (resolved (written_in ms)))))

-- the case of bytes
case_of_cases : (o : Option Members) → (or_refuse o refusals.NotToml >>= case_in) ≡ settle (case_refusals o) (lists_of o)
case_of_cases None = refl
case_of_cases (Some ms) = case_in_law ms

pub case_of_law : (bytes : List ℕ) → (or_refuse (document_of bytes) refusals.NotToml >>= case_in) ≡ case_of bytes
unfolding case_of
case_of_law bytes = case_of_cases (document_of bytes)
