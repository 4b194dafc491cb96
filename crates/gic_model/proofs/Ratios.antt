-- Among finitely many marked places one has the greatest ratio a / v.
use Rattle.std.proofs.Common.{◌≡◌, ◌⊎◌, ℕ, zero, suc, ◌*◌, ◌<◌, ◌≤◌, Bool, true, false, arith, refl, sym, ap, subst, inl, inr, ⊎_elim, ◌∙◌}
use Rattle.std.proofs.Math.Nat.{mul-le-mul_right, le_of_mul-le-mul_right}

-- no place below n is marked
abbrev pub NoneMarked : (ℕ → Bool) → ℕ → Type 0
NoneMarked marked n = (j : ℕ) → j < n → marked j ≡ true → ⊥

-- k is marked, and no marked place below n has a greater ratio
pub record IsGreatest (marked : ℕ → Bool) (a v : ℕ → ℕ) (n k : ℕ) : Type 0 where
  pub below : k < n
  pub is_marked : marked k ≡ true
  pub greatest : (j : ℕ) → j < n → marked j ≡ true → a j * v k ≤ a k * v j

-- the order of ratios is transitive
pub ratios : (aj vj ak vk am vm : ℕ) → 0 < vk → aj * vk ≤ ak * vj → ak * vm ≤ am * vk → aj * vm ≤ am * vj
ratios aj vj ak vk am vm h p q =
    let first : aj * vk * vm ≤ ak * vj * vm = mul-le-mul_right vm p in
    let second : ak * vm * vj ≤ am * vk * vj = mul-le-mul_right vj q in
    let both : aj * vm * vk ≤ am * vj * vk = omega arith in
    le_of_mul-le-mul_right both h

-- a place below n + 1 is n, or is below n
pub last_or_below : (n j : ℕ) → j < suc n → (j ≡ n) ⊎ (j < n)
last_or_below n j h = grind arith

module _ (marked : ℕ → Bool) (a v : ℕ → ℕ) (above_0 : (k : ℕ) → marked k ≡ true → 0 < v k) where
  -- with the place n not marked
  skip : (n : ℕ) → marked n ≡ false → NoneMarked marked n ⊎ ((k : ℕ) × IsGreatest marked a v n k) → NoneMarked marked (suc n) ⊎ ((k : ℕ) × IsGreatest marked a v (suc n) k)
  skip n is_not (inl none) = inl (λ j h m. ⊎_elim (λ is. elim_no (sym m ∙ ap marked is ∙ is_not)) (λ lt. none j lt m) (last_or_below n j h))
    where
      elim_no : true ≡ false → ⊥
      elim_no e = cc
  skip n is_not (inr (k, g)) =
      inr (
        k,
        record {
          below = omega arith;
          is_marked = g.is_marked;
          greatest = λ j h m. ⊎_elim (λ is. absurd (elim_no (sym m ∙ ap marked is ∙ is_not))) (λ lt. g.greatest j lt m) (last_or_below n j h);
        },
      )
    where
      elim_no : true ≡ false → ⊥
      elim_no e = cc

  -- with the place n marked, and a greatest one before it
  choose : (n : ℕ) → marked n ≡ true → (k : ℕ) → IsGreatest marked a v n k → (a n * v k ≤ a k * v n) ⊎ (a k * v n ≤ a n * v k) → (k : ℕ) × IsGreatest marked a v (suc n) k
  choose n is_so k g (inl old) = (
    k,
    record {
      below = omega arith;
      is_marked = g.is_marked;
      greatest = λ j h m. ⊎_elim (λ is. subst (λ (z : ℕ). a z * v k ≤ a k * v z) (sym is) old) (λ lt. g.greatest j lt m) (last_or_below n j h);
    },
  )
  choose n is_so k g (inr new) = (
    n,
    record {
      below = omega arith;
      is_marked = is_so;
      greatest = λ j h m. ⊎_elim (λ is. subst (λ (z : ℕ). a z * v n ≤ a n * v z) (sym is) (omega arith)) (λ lt. ratios (a j) (v j) (a k) (v k) (a n) (v n) (above_0 k g.is_marked) (g.greatest j lt m) new) (last_or_below n j h);
    },
  )

  take_place : (n : ℕ) → marked n ≡ true → NoneMarked marked n ⊎ ((k : ℕ) × IsGreatest marked a v n k) → (k : ℕ) × IsGreatest marked a v (suc n) k
  take_place n is_so (inl none) = (
    n,
    record {
      below = omega arith;
      is_marked = is_so;
      greatest = λ j h m. ⊎_elim (λ is. subst (λ (z : ℕ). a z * v n ≤ a n * v z) (sym is) (omega arith)) (λ lt. absurd (none j lt m)) (last_or_below n j h);
    },
  )
  take_place n is_so (inr (k, g)) = choose n is_so k g (either (a n * v k) (a k * v n))
    where
      either : (x y : ℕ) → (x ≤ y) ⊎ (y ≤ x)
      either x y = grind arith

  step : (n : ℕ) (b : Bool) → marked n ≡ b → NoneMarked marked n ⊎ ((k : ℕ) × IsGreatest marked a v n k) → NoneMarked marked (suc n) ⊎ ((k : ℕ) × IsGreatest marked a v (suc n) k)
  step n true e before = inr (take_place n e before)
  step n false e before = skip n e before

  -- no place below n is marked, or one has the greatest ratio
  pub greatest_ratio : (n : ℕ) → NoneMarked marked n ⊎ ((k : ℕ) × IsGreatest marked a v n k)
  greatest_ratio zero = inl (λ j h m. omega arith)
  greatest_ratio (suc n) = step n (marked n) refl (greatest_ratio n)
