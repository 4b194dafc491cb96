-- A text of lines determines the lines.
use Rattle.std.proofs.Common.{◌≡◌, ℕ, ◌≢◌, true, List, [], ◌∷◌, ◌++◌, refl, sym, ap, ◌∙◌, append_assoc, append-nil}
use Rattle.std.specs.List.{AllByRecursion}
use Rattle.gic_text.specs.Lines.{with_words, line_text, lines_text}
use Rattle.gic_text.specs.Words.{spaced, IsWord, IsLine}

-- two texts without the byte z, each ended by it, that begin one text are one
pub ended_apart : (z : ℕ) (us bs xs ys : List ℕ) → AllByRecursion (λ a. a ≢ z) us → AllByRecursion (λ b. b ≢ z) bs →
    us ++ z ∷ xs ≡ bs ++ z ∷ ys → (us ≡ bs) × (xs ≡ ys)
ended_apart z [] [] xs ys h k e = (refl, cc)
ended_apart z [] (b ∷ bs) xs ys h k e = absurd (k.0 (let f : z ≡ b = cc in sym f))
ended_apart z (a ∷ us) [] xs ys h k e = absurd (h.0 (let f : a ≡ z = cc in f))
ended_apart z (a ∷ us) (b ∷ bs) xs ys h k e =
    let f : a ≡ b = cc in
    let g : us ++ z ∷ xs ≡ bs ++ z ∷ ys = cc in
    let rest = ended_apart z us bs xs ys h.1 k.1 g in
    let one = rest.0 in
    (cc, rest.1)

with_words-begun : (bs : List ℕ) (ws : List (List ℕ)) → (with_words (record { bytes = bs; begun = true }) ws).bytes ≡ bs ++ spaced ws
with_words-begun bs [] = sym (append-nil bs)
with_words-begun bs (w ∷ ws) = with_words-begun (bs ++ 32 ∷ w) ws ∙ append_assoc bs (32 ∷ w) (spaced ws)

-- the text of a line with a word
pub line_text-cons : (w : List ℕ) (ws : List (List ℕ)) → line_text (w ∷ ws) ≡ (w ++ spaced ws) ++ 10 ∷ []
line_text-cons w ws = ap (λ l. l ++ 10 ∷ []) (with_words-begun w ws)

-- two first words, each followed by more words, are one
ends_next : (w v : List ℕ) (ws vs : List (List ℕ)) → IsWord w → IsWord v → w ++ spaced ws ≡ v ++ spaced vs → (w ≡ v) × (spaced ws ≡ spaced vs)
ends_next [] [] ws vs h k e = (refl, e)
ends_next [] (b ∷ v) [] vs h k e = absurd (let f : [] ≡ b ∷ (v ++ spaced vs) = e in cc)
ends_next [] (b ∷ v) (x ∷ ws) vs h k e = absurd (k.0.no_space (let f : b ≡ 32 = cc in f))
ends_next (a ∷ w) [] ws [] h k e = absurd (let f : a ∷ (w ++ spaced ws) ≡ [] = e in cc)
ends_next (a ∷ w) [] ws (x ∷ vs) h k e = absurd (h.0.no_space (let f : a ≡ 32 = cc in f))
ends_next (a ∷ w) (b ∷ v) ws vs h k e =
    let f : a ≡ b = cc in
    let g : w ++ spaced ws ≡ v ++ spaced vs = cc in
    let rest = ends_next w v ws vs h.1 k.1 g in
    let one = rest.0 in
    (cc, rest.1)

-- a text of words determines the words
pub spaced_injective : (ws vs : List (List ℕ)) → AllByRecursion IsWord ws → AllByRecursion IsWord vs → spaced ws ≡ spaced vs → ws ≡ vs
spaced_injective [] [] h k e = refl
spaced_injective [] (v ∷ vs) h k e = absurd (let f : [] ≡ 32 ∷ (v ++ spaced vs) = e in cc)
spaced_injective (w ∷ ws) [] h k e = absurd (let f : 32 ∷ (w ++ spaced ws) ≡ [] = e in cc)
spaced_injective (w ∷ ws) (v ∷ vs) h k e =
    let g : w ++ spaced ws ≡ v ++ spaced vs = cc in
    let both = ends_next w v ws vs h.0 k.0 g in
    let one = both.0 in
    let rest = spaced_injective ws vs h.1 k.1 both.1 in
    cc

-- a text without a line feed
abbrev pub NoEnd : List ℕ → Type 0
NoEnd bs = AllByRecursion (λ b. b ≢ 10) bs

pub no_end_word : (w rest : List ℕ) → IsWord w → NoEnd rest → NoEnd (w ++ rest)
no_end_word [] rest h k = k
no_end_word (b ∷ w) rest h k = (h.0.no_end, no_end_word w rest h.1 k)

pub no_end_spaced : (ws : List (List ℕ)) → AllByRecursion IsWord ws → NoEnd (spaced ws)
no_end_spaced [] h = tt
no_end_spaced (w ∷ ws) h = ((λ e. absurd (let f : 32 ≡ 10 = e in cc)), no_end_word w (spaced ws) h.0 (no_end_spaced ws h.1))

-- the lines of a text
pub lines-cons : (w : List ℕ) (ws : List (List ℕ)) (xs : List (List (List ℕ))) → lines_text ((w ∷ ws) ∷ xs) ≡ (w ++ spaced ws) ++ 10 ∷ lines_text xs
lines-cons w ws xs = ap (λ l. l ++ lines_text xs) (line_text-cons w ws) ∙ append_assoc (w ++ spaced ws) (10 ∷ []) (lines_text xs)

never_nil : (us bs : List ℕ) (z : ℕ) → us ++ z ∷ bs ≡ [] → ⊥
never_nil [] bs z e = cc
never_nil (u ∷ us) bs z e = let f : u ∷ (us ++ z ∷ bs) ≡ [] = e in cc

-- a text of lines determines the lines
pub lines_injective : (xs ys : List (List (List ℕ))) → AllByRecursion IsLine xs → AllByRecursion IsLine ys → lines_text xs ≡ lines_text ys → xs ≡ ys
lines_injective [] [] h k e = refl
lines_injective [] ([] ∷ ys) h k e = absurd k.0
lines_injective [] ((v ∷ vs) ∷ ys) h k e = absurd (never_nil (v ++ spaced vs) (lines_text ys) 10 (sym (e ∙ lines-cons v vs ys)))
lines_injective ([] ∷ xs) ys h k e = absurd h.0
lines_injective ((w ∷ ws) ∷ xs) [] h k e = absurd (never_nil (w ++ spaced ws) (lines_text xs) 10 (sym (lines-cons w ws xs) ∙ e))
lines_injective ((w ∷ ws) ∷ xs) ([] ∷ ys) h k e = absurd k.0
lines_injective ((w ∷ ws) ∷ xs) ((v ∷ vs) ∷ ys) h k e =
    let apart = ended_apart 10 (w ++ spaced ws) (v ++ spaced vs) (lines_text xs) (lines_text ys)
    (no_end_word w (spaced ws) h.0.0 (no_end_spaced ws h.0.1)) (no_end_word v (spaced vs) k.0.0 (no_end_spaced vs k.0.1))
    (sym (lines-cons w ws xs) ∙ e ∙ lines-cons v vs ys) in
    let first = ends_next w v ws vs h.0.0 k.0.0 apart.0 in
    let word = first.0 in
    let words = spaced_injective ws vs h.0.1 k.0.1 first.1 in
    let rest = lines_injective xs ys h.1 k.1 apart.1 in
    cc
