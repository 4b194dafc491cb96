-- Reading the lines of a certificate gives the certificate.
use Rattle.std.proofs.Common.{◌≡◌, ℕ, zero, suc, ◌+◌, ◌^◌, ◌<◌, ◌≤◌, Bool, true, false, ◌==◌, ◌&&◌, nat_le, List, [], ◌∷◌, ◌++◌, length, map, Option, Some, None, IfSome, ℤ, pos, negsuc, neg_ℤ, unsigned_abs, refl, ap, ◌∙◌, arith, slice_index_or, Ok}
use Rattle.std.specs.Prelude.{codes, decimal, int_le}
use Rattle.std.specs.Fmt.{signed_decimal}
use Rattle.std.specs.List.{AllByRecursion, list_all}
use Rattle.std.specs.Option.{is_some}
use Rattle.std.specs.Str.{bytes_eq}
use Rattle.std.proofs.lemmas.Bool.Decides.{nat_tests}
use Rattle.std.proofs.lemmas.Bool.{and_parts}
use Rattle.std.proofs.lemmas.Fmt.{decimal_is_IsNumeral_wide}
use Rattle.gic_base.specs.Name.{is_name, is_name_byte}
use Rattle.gic_base.specs.Refusals.{settle}
use Rattle.gic_text.specs.Decimal.{read_wide}
use Rattle.gic_text.specs.Words.{IsWord, IsLine}
use Rattle.gic_text.proofs.Words.{word_name, word_signed, word_from_test}
use Rattle.gic_cert.specs.declared.refusal.CertRefusal.{CertRefusal}
use Rattle.gic_cert.specs.Written.{Written, Certificate, IsWritten, IsWrittenNode}
use Rattle.gic_report.specs.SharedLines.{Words}
use Rattle.gic_cert.specs.Text.{nodes_line, written_line, lines_behind, cert_lines, cert_text}
use Rattle.gic_cert.specs.Reading.{NamedNode, breaks_field, breaks_node, breaks_behind, certificate_refusals, node_in, nodes_in, cert_in, cert_of}
use Rattle.gic_cert.proofs.CutLaws.{lines_back, IsShort}
use Rattle.gic_cert.proofs.Numbers.{number_back}

same_word : (w : List ℕ) → bytes_eq w w ≡ true
same_word [] = refl
same_word (b ∷ w) = let here : (b == b) ≡ true = grind (arith, nat_tests) in ap (λ t. t && bytes_eq w w) here ∙ same_word w

some_name : (name : List ℕ) → is_name name ≡ true → nat_le 1 (length name) ≡ true
some_name name h = (and_parts (nat_le 1 (length name)) (nat_le (length name) 32) (and_parts (nat_le 1 (length name) && nat_le (length name) 32) (list_all is_name_byte name) h).0).0

some_digits : (z : ℤ) → unsigned_abs z < 10 ^ 38 → nat_le 1 (length (signed_decimal z)) ≡ true
some_digits (pos n) h = let numeral = decimal_is_IsNumeral_wide n (omega (arith, h)) in grind (arith, nat_tests, numeral.0.0)
some_digits (negsuc n) h = grind (arith, nat_tests)

int_le_pos : (a b : ℕ) → a ≤ b → int_le (pos a) (pos b) ≡ true
int_le_pos a b h = grind (arith, nat_tests, h)

-- a number within n either way
low_test : (n : ℕ) (z : ℤ) → unsigned_abs z ≤ n → int_le (neg_ℤ (pos n)) z ≡ true
low_test zero (pos a) h = grind (arith, nat_tests, h)
low_test zero (negsuc a) h = absurd (omega (arith, h))
low_test (suc n) (pos a) h = refl
low_test (suc n) (negsuc a) h = grind (arith, nat_tests, h)

high_test : (n : ℕ) (z : ℤ) → unsigned_abs z ≤ n → int_le z (pos n) ≡ true
high_test n (pos a) h = int_le_pos a n h
high_test n (negsuc a) h = refl

module _ (row : ℕ) (name : List ℕ) (is : is_name name ≡ true) where
  dead_line : breaks_node row (name, false) (codes "cert" ∷ name ∷ codes "dead" ∷ []) ≡ []
  dead_line = rw (some_name name is, same_word name) refl

  live_line : (a b d : List ℕ) (v x r : ℤ) → nat_le 1 (length a) ≡ true → nat_le 1 (length b) ≡ true → nat_le 1 (length d) ≡ true →
      read_wide a (pos 1) (pos 4096) ≡ Some v → read_wide b (neg_ℤ (pos (2 ^ 95))) (pos (2 ^ 95)) ≡ Some x → read_wide d (pos 0) (pos (2 ^ 126)) ≡ Some r →
      breaks_node row (name, true) (codes "cert" ∷ name ∷ a ∷ b ∷ d ∷ []) ≡ []
  live_line a b d v x r ha hb hd ea eb ed = rw (some_name name is, same_word name, ha, hb, hd, ea, eb, ed) refl

live_value : (name a b d : List ℕ) (v x r : ℤ) →
    read_wide a (pos 1) (pos 4096) ≡ Some v → read_wide b (neg_ℤ (pos (2 ^ 95))) (pos (2 ^ 95)) ≡ Some x → read_wide d (pos 0) (pos (2 ^ 126)) ≡ Some r →
    node_in (codes "cert" ∷ name ∷ a ∷ b ∷ d ∷ []) ≡ Some (record { entry = unsigned_abs v; guess = x; radius = unsigned_abs r })
live_value name a b d v x r ea eb ed = rw (ea, eb, ed) refl

entry_back : (n : ℕ) → 1 ≤ n → n ≤ 4096 → read_wide (signed_decimal (pos n)) (pos 1) (pos 4096) ≡ Some (pos n)
entry_back n h k = number_back (pos n) (pos 1) (pos 4096) (omega (arith, k)) (int_le_pos 1 n h) (int_le_pos n 4096 k)

guess_back : (z : ℤ) → unsigned_abs z ≤ 2 ^ 95 → read_wide (signed_decimal z) (neg_ℤ (pos (2 ^ 95))) (pos (2 ^ 95)) ≡ Some z
guess_back z h = number_back z (neg_ℤ (pos (2 ^ 95))) (pos (2 ^ 95)) (omega (arith, h)) (low_test (2 ^ 95) z h) (high_test (2 ^ 95) z h)

radius_back : (n : ℕ) → n ≤ 2 ^ 126 → read_wide (signed_decimal (pos n)) (pos 0) (pos (2 ^ 126)) ≡ Some (pos n)
radius_back n h = number_back (pos n) (pos 0) (pos (2 ^ 126)) (omega (arith, h)) (int_le_pos 0 n (omega arith)) (int_le_pos n (2 ^ 126) h)

-- one node
line_back : (row : ℕ) (name : List ℕ) (live : Bool) (node : Option Written) → is_name name ≡ true → is_some node ≡ live → IfSome node IsWrittenNode →
    (breaks_node row (name, live) (written_line name node) ≡ []) × (node_in (written_line name node) ≡ node)
line_back row name true None is same h = absurd (no_way same)
  where
    no_way : false ≡ true → ⊥
    no_way e = cc
line_back row name false (Some w) is same h = absurd (no_way same)
  where
    no_way : true ≡ false → ⊥
    no_way e = cc
line_back row name false None is same h = (dead_line row name is, refl)
line_back row name true (Some w) is same h =
    let v = entry_back w.entry h.entry_some h.entry_most in
    let x = guess_back w.guess h.guess in
    let r = radius_back w.radius h.radius in
    let most = h.entry_most in
    let far = h.guess in
    let wide = h.radius in
    let a = some_digits (pos w.entry) (omega (arith, most)) in
    let b = some_digits w.guess (omega (arith, far)) in
    let d = some_digits (pos w.radius) (omega (arith, wide)) in (
      live_line row name is (decimal w.entry) (signed_decimal w.guess) (decimal w.radius) (pos w.entry) w.guess (pos w.radius) a b d v x r,
      live_value name (decimal w.entry) (signed_decimal w.guess) (decimal w.radius) (pos w.entry) w.guess (pos w.radius) v x r,
    )

no_breaks : (xs ys : List CertRefusal) → xs ≡ [] → ys ≡ [] → xs ++ ys ≡ []
no_breaks xs ys h k = rw (h, k) refl

-- the lines behind the first two
pub behind_back : (row : ℕ) (nodes : List NamedNode) (written : List (Option Written)) →
    AllByRecursion (λ node. is_name node.0 ≡ true) nodes → map is_some written ≡ map (λ node. node.1) nodes → AllByRecursion (λ node. IfSome node IsWrittenNode) written →
    (breaks_behind row nodes (lines_behind (map (λ node. node.0) nodes) written) ≡ []) × (nodes_in nodes (lines_behind (map (λ node. node.0) nodes) written) ≡ written)
behind_back row [] [] names same h = (refl, refl)
behind_back row [] (w ∷ written) names same h = absurd (no_way same)
  where
    no_way : is_some w ∷ map is_some written ≡ [] → ⊥
    no_way e = cc
behind_back row ((name, live) ∷ nodes) [] names same h = absurd (no_way same)
  where
    no_way : [] ≡ live ∷ map (λ node. node.1) nodes → ⊥
    no_way e = cc
behind_back row ((name, live) ∷ nodes) (w ∷ written) names same h =
    let first : is_some w ≡ live = cc in
    let others : map is_some written ≡ map (λ node. node.1) nodes = cc in
    let here = line_back row name live w names.0 first h.0 in
    let rest = behind_back (row + 1) nodes written names.1 others h.1 in (
      no_breaks (breaks_node row (name, live) (written_line name w)) (breaks_behind (row + 1) nodes (lines_behind (map (λ node. node.0) nodes) written)) here.0 rest.0,
      ap (λ o. o ∷ nodes_in nodes (lines_behind (map (λ node. node.0) nodes) written)) here.1 ∙ ap (λ os. w ∷ os) rest.1,
    )

-- the second line
module _ (count : ℕ) (a b d : List ℕ) (n e : ℤ) where
  field_breaks : nat_le 1 (length a) ≡ true → nat_le 1 (length b) ≡ true → nat_le 1 (length d) ≡ true →
      read_wide a (pos 0) (pos 65535) ≡ Some (pos count) → read_wide b (neg_ℤ (pos 20000)) (pos 20000) ≡ Some n → read_wide d (neg_ℤ (pos 20000)) (pos 20000) ≡ Some e →
      breaks_field count (codes "nodes" ∷ a ∷ codes "north" ∷ b ∷ codes "east" ∷ d ∷ []) ≡ []
  field_breaks ha hb hd ea eb ed = let same : (count == count) ≡ true = grind (arith, nat_tests) in rw (ha, hb, hd, ea, eb, ed, same) refl

part_back : (z : ℤ) → unsigned_abs z ≤ 20000 → read_wide (signed_decimal z) (neg_ℤ (pos 20000)) (pos 20000) ≡ Some z
part_back z h = number_back z (neg_ℤ (pos 20000)) (pos 20000) (omega (arith, h)) (low_test 20000 z h) (high_test 20000 z h)

count_back : (n : ℕ) → n ≤ 65535 → read_wide (signed_decimal (pos n)) (pos 0) (pos 65535) ≡ Some (pos n)
count_back n h = number_back (pos n) (pos 0) (pos 65535) (omega (arith, h)) (int_le_pos 0 n (omega arith)) (int_le_pos n 65535 h)

count_same : (nodes : List NamedNode) (written : List (Option Written)) → map is_some written ≡ map (λ node. node.1) nodes → length written ≡ length nodes
count_same [] [] same = refl
count_same [] (w ∷ written) same = absurd (no_way same)
  where
    no_way : is_some w ∷ map is_some written ≡ [] → ⊥
    no_way e = cc
count_same ((name, live) ∷ nodes) [] same = absurd (no_way same)
  where
    no_way : [] ≡ live ∷ map (λ node. node.1) nodes → ⊥
    no_way e = cc
count_same ((name, live) ∷ nodes) (w ∷ written) same =
    let others : map is_some written ≡ map (λ node. node.1) nodes = cc in
    ap suc (count_same nodes written others)

-- all lines, over plain words
accepted : (nodes : List NamedNode) (written : List (Option Written)) (behind : List Words) (a b d : List ℕ) (n e : ℤ) →
    breaks_field (length nodes) (codes "nodes" ∷ a ∷ codes "north" ∷ b ∷ codes "east" ∷ d ∷ []) ≡ [] →
    read_wide b (neg_ℤ (pos 20000)) (pos 20000) ≡ Some n → read_wide d (neg_ℤ (pos 20000)) (pos 20000) ≡ Some e →
    breaks_behind 3 nodes behind ≡ [] → nodes_in nodes behind ≡ written →
    settle (certificate_refusals nodes ((codes "certificate" ∷ []) ∷ (codes "nodes" ∷ a ∷ codes "north" ∷ b ∷ codes "east" ∷ d ∷ []) ∷ behind))
    (cert_in nodes ((codes "certificate" ∷ []) ∷ (codes "nodes" ∷ a ∷ codes "north" ∷ b ∷ codes "east" ∷ d ∷ []) ∷ behind))
    ≡ Ok (record { north = n; east = e; nodes = written })
accepted nodes written behind a b d n e field eb ed none value =
    let breaks = no_breaks (breaks_field (length nodes) (codes "nodes" ∷ a ∷ codes "north" ∷ b ∷ codes "east" ∷ d ∷ [])) (breaks_behind 3 nodes behind) field none in
    ap (λ es. settle es (cert_in nodes ((codes "certificate" ∷ []) ∷ (codes "nodes" ∷ a ∷ codes "north" ∷ b ∷ codes "east" ∷ d ∷ []) ∷ behind))) breaks ∙ rw (eb, ed, value) refl

-- each of its lines is one
word_of_number : (z : ℤ) → unsigned_abs z < 2 ^ 127 → IsWord (signed_decimal z)
word_of_number (pos n) h = word_signed (pos n) (omega (arith, h))
word_of_number (negsuc n) h = word_signed (negsuc n) (omega (arith, h))

line_of_node : (name : List ℕ) (node : Option Written) → is_name name ≡ true → IfSome node IsWrittenNode → IsLine (written_line name node)
line_of_node name None is h = (word_from_test (codes "cert") refl, (word_name name is, (word_from_test (codes "dead") refl, tt)))
line_of_node name (Some w) is h =
    let most = h.entry_most in
    let far = h.guess in
    let wide = h.radius in
    (word_from_test (codes "cert") refl, (word_name name is, (word_of_number (pos w.entry) (omega (arith, most)), (word_of_number w.guess (omega (arith, far)), (word_of_number (pos w.radius) (omega (arith, wide)), tt)))))

lines_behind_are : (nodes : List NamedNode) (written : List (Option Written)) → AllByRecursion (λ node. is_name node.0 ≡ true) nodes → AllByRecursion (λ node. IfSome node IsWrittenNode) written →
    AllByRecursion IsLine (lines_behind (map (λ node. node.0) nodes) written)
lines_behind_are [] written names h = ((word_from_test (codes "end") refl, tt), tt)
lines_behind_are (node ∷ nodes) [] names h = ((word_from_test (codes "end") refl, tt), tt)
lines_behind_are (node ∷ nodes) (w ∷ written) names h = (line_of_node node.0 w names.0 h.0, lines_behind_are nodes written names.1 h.1)

-- and all its words are looked at
short_node : (name : List ℕ) (node : Option Written) → IsShort (written_line name node)
short_node name None = refl
short_node name (Some w) = refl

lines_behind_short : (names : List (List ℕ)) (written : List (Option Written)) → AllByRecursion IsShort (lines_behind names written)
lines_behind_short [] written = (refl, tt)
lines_behind_short (name ∷ names) [] = (refl, tt)
lines_behind_short (name ∷ names) (w ∷ written) = (short_node name w, lines_behind_short names written)

each_written : (written : List (Option Written)) → ((k : ℕ) → IfSome (slice_index_or written k None) IsWrittenNode) → AllByRecursion (λ node. IfSome node IsWrittenNode) written
each_written [] h = tt
each_written (w ∷ written) h = (h 0, each_written written (λ k. h (suc k)))

pub reading_gives_back : (nodes : List NamedNode) (c : Certificate) → AllByRecursion (λ node. is_name node.0 ≡ true) nodes → length nodes ≤ 65535 → IsWritten c →
    map is_some c.nodes ≡ map (λ node. node.1) nodes → cert_of nodes (cert_text (map (λ node. node.0) nodes) c) ≡ Ok c
unfolding cert_of nodes_line
reading_gives_back nodes c names few written same =
    let each = each_written c.nodes written.each in
    let count = count_same nodes c.nodes same in
    let near = written.north in
    let off = written.east in
    let a : nat_le 1 (length (decimal (length c.nodes))) ≡ true = some_digits (pos (length c.nodes)) (omega (arith, few, count)) in
    let b = some_digits c.north (omega (arith, near)) in
    let d = some_digits c.east (omega (arith, off)) in
    let ea = count_back (length c.nodes) (omega (arith, few, count)) ∙ ap (λ n. Some (pos n)) count in
    let eb = part_back c.north near in
    let ed = part_back c.east off in
    let field = field_breaks (length nodes) (decimal (length c.nodes)) (signed_decimal c.north) (signed_decimal c.east) c.north c.east a b d ea eb ed in
    let behind = behind_back 3 nodes c.nodes names same each in
    let lines : AllByRecursion IsLine (cert_lines (map (λ node. node.0) nodes) c) = (
      (word_from_test (codes "certificate") refl, tt),
      (
        (word_from_test (codes "nodes") refl, (word_of_number (pos (length c.nodes)) (omega (arith, few, count)), (word_from_test (codes "north") refl, (word_of_number c.north (omega (arith, near)), (word_from_test (codes "east") refl, (word_of_number c.east (omega (arith, off)), tt)))))),
        lines_behind_are nodes c.nodes names each,
      ),
    ) in
    let short : AllByRecursion IsShort (cert_lines (map (λ node. node.0) nodes) c) = (refl, (refl, lines_behind_short (map (λ node. node.0) nodes) c.nodes)) in
    ap (λ ls. settle (certificate_refusals nodes ls) (cert_in nodes ls)) (lines_back (cert_lines (map (λ node. node.0) nodes) c) lines short) ∙
    accepted nodes c.nodes (lines_behind (map (λ node. node.0) nodes) c.nodes) (decimal (length c.nodes)) (signed_decimal c.north) (signed_decimal c.east) c.north c.east field eb ed behind.0 behind.1
