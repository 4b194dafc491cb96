-- Chains of elements: they can be put together and turned, and what each step keeps they keep.
use Rattle.std.proofs.Common.{◌≡◌, ◌⊎◌, ℕ, Bool, true, false, ◌&&◌, ◌||◌, ◌==◌, List, [], ◌∷◌, ◌++◌, refl, ap, sym, ◌∙◌, subst, inl, inr}
use Rattle.std.proofs.lemmas.Bool.{or_cases, or_left, or_right}
use Rattle.std.proofs.lemmas.List.Folds.{list_any-append}
use Rattle.std.specs.List.{list_any}
use Rattle.gic_model.specs.declared.parts.Element.{Element}
use Rattle.gic_model.specs.Network.{is_node}
use Rattle.gic_model.specs.Earthing.{joins}
use Rattle.gic_review.specs.Chains.{HasElementBetween, IsChain, AreTogether}

no_way : false ≡ true → ⊥
no_way e = cc

-- a test that leads to another
pub any_weaker : {X : Type 0} (t s : X → Bool) → ((x : X) → t x ≡ true → s x ≡ true) → (xs : List X) → list_any t xs ≡ true → list_any s xs ≡ true
any_weaker t s leads [] h = h
any_weaker t s leads (x ∷ xs) h = elim (or_cases (t x) (list_any t xs) h) [
  | inl here ↦ or_left (s x) (list_any s xs) (leads x here)
  | inr later ↦ or_right (s x) (list_any s xs) (any_weaker t s leads xs later)
]

-- an element joins the nodes either way
joins_turned : (k m : ℕ) (e : Element) → joins k m e ≡ true → joins m k e ≡ true
joins_turned k m e h = elim (or_cases ((e.from.0 == k) && is_node e.to m) ((e.from.0 == m) && is_node e.to k) h) [
  | inl one ↦ or_right ((e.from.0 == m) && is_node e.to k) ((e.from.0 == k) && is_node e.to m) one
  | inr other ↦ or_left ((e.from.0 == m) && is_node e.to k) ((e.from.0 == k) && is_node e.to m) other
]

pub joined_turned : (es : List Element) (k m : ℕ) → HasElementBetween es k m → HasElementBetween es m k
joined_turned es k m h = any_weaker (joins k m) (joins m k) (λ e is. joins_turned k m e is) es h

-- a node belongs to itself, and to what it is joined to
pub together_itself : (es : List Element) (k : ℕ) → AreTogether es k k
together_itself es k = record { over = []; chain = refl }

pub together_by : (es : List Element) (k m : ℕ) → HasElementBetween es k m → AreTogether es k m
together_by es k m h = record { over = m ∷ []; chain = (h, refl) }

-- one chain after another
chain_then : (es : List Element) (k m n : ℕ) (over later : List ℕ) → IsChain es k over m → IsChain es m later n → IsChain es k (over ++ later) n
chain_then es k m n [] later h t = subst (λ (j : ℕ). IsChain es j later n) (sym h) t
chain_then es k m n (next ∷ rest) later h t = (h.0, chain_then es next m n rest later h.1 t)

pub together_then : (es : List Element) (k m n : ℕ) → AreTogether es k m → AreTogether es m n → AreTogether es k n
together_then es k m n h t = record { over = h.over ++ t.over; chain = chain_then es k m n h.over t.over h.chain t.chain }

-- a chain the other way
turned : (es : List Element) (k m : ℕ) (over : List ℕ) → IsChain es k over m → AreTogether es m k
turned es k m [] h = record { over = []; chain = sym h }
turned es k m (next ∷ rest) h = together_then es m next k (turned es next m rest h.1) (together_by es next k (joined_turned es k next h.0))

pub together_turned : (es : List Element) (k m : ℕ) → AreTogether es k m → AreTogether es m k
together_turned es k m h = turned es k m h.over h.chain

-- over more elements
pub joined_more : (es more : List Element) (k m : ℕ) → HasElementBetween es k m → HasElementBetween (es ++ more) k m
joined_more es more k m h = list_any-append (joins k m) es more ∙ or_left (list_any (joins k m) es) (list_any (joins k m) more) h

chain_more : (es more : List Element) (k m : ℕ) (over : List ℕ) → IsChain es k over m → IsChain (es ++ more) k over m
chain_more es more k m [] h = h
chain_more es more k m (next ∷ rest) h = (joined_more es more k next h.0, chain_more es more next m rest h.1)

pub together_more : (es more : List Element) (k m : ℕ) → AreTogether es k m → AreTogether (es ++ more) k m
together_more es more k m h = record { over = h.over; chain = chain_more es more k m h.over h.chain }

-- the last element joins two nodes, or those before do
pub joined_last : (es : List Element) (e : Element) (k m : ℕ) → joins k m e ≡ true → HasElementBetween (es ++ e ∷ []) k m
joined_last es e k m h = list_any-append (joins k m) es (e ∷ []) ∙ or_right (list_any (joins k m) es) (joins k m e || false) (or_left (joins k m e) false h)

pub joined_split : (es : List Element) (e : Element) (k m : ℕ) → HasElementBetween (es ++ e ∷ []) k m → HasElementBetween es k m ⊎ (joins k m e ≡ true)
joined_split es e k m h = elim (or_cases (list_any (joins k m) es) (joins k m e || false) (sym (list_any-append (joins k m) es (e ∷ [])) ∙ h)) [
  | inl before ↦ inl before
  | inr last ↦ elim (or_cases (joins k m e) false last) [ inl is ↦ inr is | inr never ↦ absurd (no_way never) ]
]

-- what is the same at joined nodes is the same at both ends of a chain
along : (f : ℕ → ℕ) (es : List Element) → ((k m : ℕ) → HasElementBetween es k m → f k ≡ f m) → (k m : ℕ) (over : List ℕ) → IsChain es k over m → f k ≡ f m
along f es step k m [] h = ap f h
along f es step k m (next ∷ rest) h = step k next h.0 ∙ along f es step next m rest h.1

pub same_together : (f : ℕ → ℕ) (es : List Element) → ((k m : ℕ) → HasElementBetween es k m → f k ≡ f m) → (k m : ℕ) → AreTogether es k m → f k ≡ f m
same_together f es step k m h = along f es step k m h.over h.chain
