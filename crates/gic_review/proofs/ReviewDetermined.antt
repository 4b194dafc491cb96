-- The text of a review determines what it tells.
use Rattle.std.proofs.Common.{◌≡◌, ℕ, ◌+◌, ◌*◌, ◌<◌, ◌^◌, ◌==◌, List, [], ◌∷◌, ◌++◌, length, map, get_or, refl, ap, sym, ◌∙◌, arith}
use Rattle.std.specs.Prelude.{codes, decimal, if◌then◌else◌}
use Rattle.std.specs.List.{AllByRecursion}
use Rattle.gic_base.proofs.Each.{all_joined}
use Rattle.gic_text.specs.Words.{IsWord, IsLine}
use Rattle.gic_text.specs.Lines.{lines_text}
use Rattle.gic_text.proofs.Injective.{lines_injective}
use Rattle.gic_text.proofs.Words.{word_from_test, word_decimal, word_signed, word_name, signed_decimal_injective_wide}
use Rattle.gic_review.specs.declared.findings.finding.Finding.{Finding}
use Rattle.gic_review.specs.declared.findings.finding.Finding.TheVariants.{Ungrounded, Part, Closure, Value, Alpha, Volts, Outside}
use Rattle.gic_case.specs.declared.case_list.CaseList.{CaseList}
use Rattle.gic_case.specs.declared.case_list.CaseList.TheVariants as lists
use Rattle.gic_review.specs.declared.findings.finding.Side.{Side}
use Rattle.gic_review.specs.declared.findings.finding.Side.TheVariants.{High, Low, Third}
use Rattle.gic_review.specs.declared.findings.measured.Quantity.{Quantity}
use Rattle.gic_review.specs.declared.findings.measured.Quantity.TheVariants as values
use Rattle.gic_report.specs.SharedLines.{Words, word_line}
use Rattle.gic_report.proofs.WordsDetermined.{word_at, same_long}
use Rattle.gic_case.specs.ListWord.{list_word}
use Rattle.gic_review.specs.FindingText.{field_word, side_word, finding_line}
use Rattle.gic_review.specs.ReviewText.{findings_line, review_report}
use Rattle.gic_review.specs.Determines.{CanBeTold}

-- ---- words tell what they stand for

-- a number by which the words of this mode differ
abbrev tag : List ℕ → ℕ
tag w = get_or w 0 0 * 65536 + (get_or w 1 0 * 256 + get_or w 5 0)

abbrev list_of : ℕ → CaseList
list_of n =
    if n == tag (codes "case") then lists.Document
    else if n == tag (codes "zone") then lists.Zone
    else if n == tag (codes "substation") then lists.Substation
    else if n == tag (codes "bus") then lists.Bus
    else if n == tag (codes "line") then lists.Line
    else lists.Transformer

list_read : (l : CaseList) → list_of (tag (list_word l)) ≡ l
list_read lists.Document = refl
list_read lists.Zone = refl
list_read lists.Substation = refl
list_read lists.Bus = refl
list_read lists.Line = refl
list_read lists.Transformer = refl

same_list : (l m : CaseList) → list_word l ≡ list_word m → l ≡ m
same_list l m e = sym (list_read l) ∙ ap (λ (w : List ℕ). list_of (tag w)) e ∙ list_read m

abbrev side_of : ℕ → Side
side_of n =
    if n == tag (codes "high_volts") then High
    else if n == tag (codes "low_volts") then Low
    else Third

side_read : (s : Side) → side_of (tag (side_word s)) ≡ s
side_read High = refl
side_read Low = refl
side_read Third = refl

same_side : (s t : Side) → side_word s ≡ side_word t → s ≡ t
same_side s t e = sym (side_read s) ∙ ap (λ (w : List ℕ). side_of (tag w)) e ∙ side_read t

abbrev quantity_of : ℕ → Quantity
quantity_of n =
    if n == tag (codes "latitude") then values.Latitude
    else if n == tag (codes "beta") then values.Beta
    else if n == tag (codes "ground") then values.Ground
    else if n == tag (codes "resistance") then values.Resistance
    else if n == tag (codes "span") then values.Span
    else if n == tag (codes "perkm") then values.PerKilometre
    else if n == tag (codes "high_volts") then values.HighVolts
    else if n == tag (codes "high_resistance") then values.HighResistance
    else if n == tag (codes "low_resistance") then values.LowResistance
    else if n == tag (codes "series_resistance") then values.SeriesResistance
    else if n == tag (codes "common_resistance") then values.CommonResistance
    else if n == tag (codes "third_resistance") then values.ThirdResistance
    else values.Neutral

field_read : (m : Quantity) → quantity_of (tag (field_word m)) ≡ m
field_read values.Latitude = refl
field_read values.Beta = refl
field_read values.Ground = refl
field_read values.Resistance = refl
field_read values.Span = refl
field_read values.PerKilometre = refl
field_read values.HighVolts = refl
field_read values.HighResistance = refl
field_read values.LowResistance = refl
field_read values.SeriesResistance = refl
field_read values.CommonResistance = refl
field_read values.ThirdResistance = refl
field_read values.Neutral = refl

same_field : (m n : Quantity) → field_word m ≡ field_word n → m ≡ n
same_field m n e = sym (field_read m) ∙ ap (λ (w : List ℕ). quantity_of (tag w)) e ∙ field_read n

list_is_word : (l : CaseList) → IsWord (list_word l)
list_is_word lists.Document = word_from_test (codes "case") refl
list_is_word lists.Zone = word_from_test (codes "zone") refl
list_is_word lists.Substation = word_from_test (codes "substation") refl
list_is_word lists.Bus = word_from_test (codes "bus") refl
list_is_word lists.Line = word_from_test (codes "line") refl
list_is_word lists.Transformer = word_from_test (codes "transformer") refl

side_is_word : (s : Side) → IsWord (side_word s)
side_is_word High = word_from_test (codes "high_volts") refl
side_is_word Low = word_from_test (codes "low_volts") refl
side_is_word Third = word_from_test (codes "third_volts") refl

field_is_word : (m : Quantity) → IsWord (field_word m)
field_is_word values.Latitude = word_from_test (codes "latitude") refl
field_is_word values.Beta = word_from_test (codes "beta") refl
field_is_word values.Ground = word_from_test (codes "ground") refl
field_is_word values.Resistance = word_from_test (codes "resistance") refl
field_is_word values.Span = word_from_test (codes "span") refl
field_is_word values.PerKilometre = word_from_test (codes "perkm") refl
field_is_word values.HighVolts = word_from_test (codes "high_volts") refl
field_is_word values.HighResistance = word_from_test (codes "high_resistance") refl
field_is_word values.LowResistance = word_from_test (codes "low_resistance") refl
field_is_word values.SeriesResistance = word_from_test (codes "series_resistance") refl
field_is_word values.CommonResistance = word_from_test (codes "common_resistance") refl
field_is_word values.ThirdResistance = word_from_test (codes "third_resistance") refl
field_is_word values.Neutral = word_from_test (codes "neutral") refl

number_is_word : (n : ℕ) → n < 2 ^ 64 → IsWord (decimal n)
number_is_word n h = word_decimal n (omega (arith, h))

-- ---- lines tell their findings

finding_is_line : (f : Finding) → CanBeTold f → IsLine (finding_line f)
unfolding finding_line
finding_is_line (Ungrounded name) h = (word_from_test (codes "ungrounded") refl, (word_name name h, tt))
finding_is_line (Part nodes first) h = (word_from_test (codes "part") refl, (number_is_word nodes h.0, (word_name first h.1, tt)))
finding_is_line (Closure name north east) h =
    (word_from_test (codes "closure") refl, (word_name name h.0, (word_signed north (omega (arith, h.1.0.sfits)), (word_signed east (omega (arith, h.1.1.sfits)), tt))))
finding_is_line (Value list name measured number) h =
    (word_from_test (codes "value") refl, (list_is_word list, (word_name name h.0, (field_is_word measured, (number_is_word number h.1, tt)))))
finding_is_line (Alpha name latitude) h = (word_from_test (codes "alpha") refl, (word_name name h.0, (number_is_word latitude h.1, tt)))
finding_is_line (Volts name side volts measure) h =
    (word_from_test (codes "volts") refl, (word_name name h.0, (side_is_word side, (number_is_word volts h.1.0, (number_is_word measure h.1.1, tt)))))
finding_is_line (Outside name) h = (word_from_test (codes "outside") refl, (word_name name h, tt))

-- the number of the first word of a line
abbrev kind_of : Words → ℕ
kind_of ws = tag (word_at ws 0)

same_finding : (f g : Finding) → CanBeTold f → CanBeTold g → finding_line f ≡ finding_line g → f ≡ g
unfolding finding_line
same_finding (Ungrounded a) (Ungrounded b) h k e = let name : a ≡ b = ap (λ (w : Words). word_at w 1) e in ap Ungrounded name
same_finding (Part m a) (Part n b) h k e =
    let number : m ≡ n = same_long m n h.0 k.0 (ap (λ (w : Words). word_at w 1) e) in
    let name : a ≡ b = ap (λ (w : Words). word_at w 2) e in
    cc
same_finding (Closure a n x) (Closure b m y) h k e =
    let name : a ≡ b = ap (λ (w : Words). word_at w 1) e in
    let north : n ≡ m = signed_decimal_injective_wide n m (omega (arith, h.1.0.sfits)) (omega (arith, k.1.0.sfits)) (ap (λ (w : Words). word_at w 2) e) in
    let east : x ≡ y = signed_decimal_injective_wide x y (omega (arith, h.1.1.sfits)) (omega (arith, k.1.1.sfits)) (ap (λ (w : Words). word_at w 3) e) in
    cc
same_finding (Value l a m x) (Value r b n y) h k e =
    let list : l ≡ r = same_list l r (ap (λ (w : Words). word_at w 1) e) in
    let name : a ≡ b = ap (λ (w : Words). word_at w 2) e in
    let measured : m ≡ n = same_field m n (ap (λ (w : Words). word_at w 3) e) in
    let number : x ≡ y = same_long x y h.1 k.1 (ap (λ (w : Words). word_at w 4) e) in
    cc
same_finding (Alpha a x) (Alpha b y) h k e =
    let name : a ≡ b = ap (λ (w : Words). word_at w 1) e in
    let latitude : x ≡ y = same_long x y h.1 k.1 (ap (λ (w : Words). word_at w 2) e) in
    cc
same_finding (Volts a s x m) (Volts b t y n) h k e =
    let name : a ≡ b = ap (λ (w : Words). word_at w 1) e in
    let side : s ≡ t = same_side s t (ap (λ (w : Words). word_at w 2) e) in
    let volts : x ≡ y = same_long x y h.1.0 k.1.0 (ap (λ (w : Words). word_at w 3) e) in
    let measure : m ≡ n = same_long m n h.1.1 k.1.1 (ap (λ (w : Words). word_at w 4) e) in
    cc
same_finding (Outside a) (Outside b) h k e = let name : a ≡ b = ap (λ (w : Words). word_at w 1) e in ap Outside name
same_finding (Ungrounded a) g h k e = let z : kind_of (finding_line (Ungrounded a)) ≡ kind_of (finding_line g) = ap kind_of e in absurd (omega (arith, z))
same_finding (Part m a) g h k e = let z : kind_of (finding_line (Part m a)) ≡ kind_of (finding_line g) = ap kind_of e in absurd (omega (arith, z))
same_finding (Closure a n x) g h k e = let z : kind_of (finding_line (Closure a n x)) ≡ kind_of (finding_line g) = ap kind_of e in absurd (omega (arith, z))
same_finding (Value l a m x) g h k e = let z : kind_of (finding_line (Value l a m x)) ≡ kind_of (finding_line g) = ap kind_of e in absurd (omega (arith, z))
same_finding (Alpha a x) g h k e = let z : kind_of (finding_line (Alpha a x)) ≡ kind_of (finding_line g) = ap kind_of e in absurd (omega (arith, z))
same_finding (Volts a s x m) g h k e = let z : kind_of (finding_line (Volts a s x m)) ≡ kind_of (finding_line g) = ap kind_of e in absurd (omega (arith, z))
same_finding (Outside a) g h k e = let z : kind_of (finding_line (Outside a)) ≡ kind_of (finding_line g) = ap kind_of e in absurd (omega (arith, z))

-- the line of the count is none of them
no_count : (f : Finding) (n : ℕ) → finding_line f ≡ findings_line n → ⊥
unfolding finding_line
no_count (Ungrounded name) n e = let z : kind_of (finding_line (Ungrounded name)) ≡ kind_of (findings_line n) = ap kind_of e in omega (arith, z)
no_count (Part nodes first) n e = let z : kind_of (finding_line (Part nodes first)) ≡ kind_of (findings_line n) = ap kind_of e in omega (arith, z)
no_count (Closure name north east) n e = let z : kind_of (finding_line (Closure name north east)) ≡ kind_of (findings_line n) = ap kind_of e in omega (arith, z)
no_count (Value list name measured number) n e = let z : kind_of (finding_line (Value list name measured number)) ≡ kind_of (findings_line n) = ap kind_of e in omega (arith, z)
no_count (Alpha name latitude) n e = let z : kind_of (finding_line (Alpha name latitude)) ≡ kind_of (findings_line n) = ap kind_of e in omega (arith, z)
no_count (Volts name side volts measure) n e = let z : kind_of (finding_line (Volts name side volts measure)) ≡ kind_of (findings_line n) = ap kind_of e in omega (arith, z)
no_count (Outside name) n e = let z : kind_of (finding_line (Outside name)) ≡ kind_of (findings_line n) = ap kind_of e in omega (arith, z)

-- ---- the whole text

-- the lines behind those of the findings
abbrev tail : ℕ → List Words
tail n = findings_line n ∷ word_line (codes "end") ∷ []

finding_lines : (fs : List Finding) → AllByRecursion CanBeTold fs → AllByRecursion IsLine (map finding_line fs)
finding_lines [] h = tt
finding_lines (f ∷ fs) h = (finding_is_line f h.0, finding_lines fs h.1)

are_lines : (fs : List Finding) → AllByRecursion CanBeTold fs → length fs < 2 ^ 64 → AllByRecursion IsLine (review_report fs)
are_lines fs h few =
    let count : IsLine (findings_line (length fs)) = (word_from_test (codes "findings") refl, (number_is_word (length fs) few, tt)) in
    ((word_from_test (codes "review") refl, tt), all_joined IsLine (map finding_line fs) (tail (length fs)) (finding_lines fs h) (count, ((word_from_test (codes "end") refl, tt), tt)))

same_findings : (fs gs : List Finding) (m n : ℕ) → AllByRecursion CanBeTold fs → AllByRecursion CanBeTold gs → map finding_line fs ++ tail m ≡ map finding_line gs ++ tail n → fs ≡ gs
same_findings [] [] m n h k e = refl
same_findings [] (g ∷ gs) m n h k e =
    let both : findings_line m ∷ (word_line (codes "end") ∷ []) ≡ finding_line g ∷ (map finding_line gs ++ tail n) = e in
    let head : findings_line m ≡ finding_line g = cc in
    absurd (no_count g m (sym head))
same_findings (f ∷ fs) [] m n h k e =
    let both : finding_line f ∷ (map finding_line fs ++ tail m) ≡ findings_line n ∷ (word_line (codes "end") ∷ []) = e in
    let head : finding_line f ≡ findings_line n = cc in
    absurd (no_count f n head)
same_findings (f ∷ fs) (g ∷ gs) m n h k e =
    let both : finding_line f ∷ (map finding_line fs ++ tail m) ≡ finding_line g ∷ (map finding_line gs ++ tail n) = e in
    let head : finding_line f ≡ finding_line g = cc in
    let here = same_finding f g h.0 k.0 head in
    let later : map finding_line fs ++ tail m ≡ map finding_line gs ++ tail n = cc in
    let more = same_findings fs gs m n h.1 k.1 later in
    cc

pub review_determined : (findings others : List Finding) → AllByRecursion CanBeTold findings → AllByRecursion CanBeTold others → length findings < 2 ^ 64 → length others < 2 ^ 64
    → lines_text (review_report findings) ≡ lines_text (review_report others) → findings ≡ others
review_determined findings others h k few less e =
    let same : word_line (codes "review") ∷ (map finding_line findings ++ tail (length findings)) ≡ word_line (codes "review") ∷ (map finding_line others ++ tail (length others))
    = lines_injective (review_report findings) (review_report others) (are_lines findings h few) (are_lines others k less) e in
    let later : map finding_line findings ++ tail (length findings) ≡ map finding_line others ++ tail (length others) = cc in
    same_findings findings others (length findings) (length others) h k later
