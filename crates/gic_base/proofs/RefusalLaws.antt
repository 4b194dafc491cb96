-- One pass answers the first refusal of all rules.
use Rattle.std.proofs.Common.{◌≡◌, List, [], ◌∷◌, ◌++◌, Bool, true, false, Option, Some, None, unwrap_or, is_some, Result, Ok, Err, slice_get, refl, ap, ◌∙◌}
use Rattle.gic_base.specs.Refusals.{unless, settle}
use Rattle.gic_base.specs.declared.read_fault.ReadFault.TheVariants.{Refused}
use Rattle.gic_base.specs.Passes.{◌>>=◌, or_refuse, test}

module _ {A B E : Type 0} where
  -- a step and what comes after it
  pub then_law : (r : Result A E) (es : List E) (x : A) (f : A → Result B E) (more : List E) (y : B)
      → r ≡ settle es x → f x ≡ settle more y → (r >>= f) ≡ settle (es ++ more) y
  then_law r es x f more y here after = ap (λ q. q >>= f) here ∙ settled es
    where
      settled : (fs : List E) → (settle fs x >>= f) ≡ settle (fs ++ more) y
      settled [] = after
      settled (e ∷ fs) = refl

  -- the last step
  pub last_law : (r : Result A E) (es : List E) (x : A) (f : A → B) → r ≡ settle es x → (r >>= (λ v. Ok (f v))) ≡ settle es (f x)
  last_law r es x f here = ap (λ q. q >>= (λ v. Ok (f v))) here ∙ settled es
    where
      settled : (fs : List E) → (settle fs x >>= (λ v. Ok (f v))) ≡ settle fs (f x)
      settled [] = refl
      settled (e ∷ fs) = refl

-- a value that has to be there
pub value_law : {A E : Type 0} (o : Option A) (e : E) (d : A) → or_refuse o e ≡ settle (unless (is_some o) e) (unwrap_or o d)
value_law None e d = refl
value_law (Some x) e d = refl

-- a fact that has to hold
pub test_law : {E : Type 0} (b : Bool) (e : E) → test b e ≡ settle (unless b e) (tt {0})
test_law true e = refl
test_law false e = refl

-- the refusal of a list of refusals is its first
pub first_settled : {A E : Type 0} (es : List E) (x : A) (e : E) → settle es x ≡ Err e → slice_get es 0 ≡ Some e
first_settled [] x e h = cc
first_settled (d ∷ es) x e h = cc

-- and a value stands only where there is none
pub none_settled : {A E : Type 0} (es : List E) (x y : A) → settle es x ≡ Ok y → (es ≡ []) × (x ≡ y)
none_settled [] x y h = (refl, cc)
none_settled (e ∷ es) x y h = (cc, cc)

-- no refusal of two rules is none of each
pub none_of_both : {E : Type 0} (es fs : List E) → es ++ fs ≡ [] → (es ≡ []) × (fs ≡ [])
none_of_both [] fs h = (refl, h)
none_of_both (e ∷ es) fs h = (cc, cc)

-- the fact holds where its refusal doesn't come
pub unless_holds : {E : Type 0} (b : Bool) (e : E) → unless b e ≡ [] → b ≡ true
unless_holds true e h = refl
unless_holds false e h = cc

-- two faults that are one have one refusal
pub same_refusal : {E : Type 0} (a b : E) → Refused a ≡ Refused b → a ≡ b
same_refusal a b is = cc
