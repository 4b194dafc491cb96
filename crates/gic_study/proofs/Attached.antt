-- The monitors that are attached have the plans of the program.
use Rattle.std.proofs.Common.{◌≡◌, ◌∙◌, ℕ, List, [], ◌∷◌, ◌++◌, map, subst, ap}
use Rattle.gic_ask.specs.declared.request.Asked.{Asked}
use Rattle.gic_stand.specs.Serves.{Shown}
use Rattle.gic_monitor.specs.RosterView.{RosterView}
use Rattle.gic_monitor.specs.DwellText.{dwell_text}
use Rattle.gic_monitor.specs.EarthText.{earth_text}
use Rattle.gic_monitor.specs.LossText.{volt_text}
use Rattle.gic_study.specs.Concluding.{Answer, Concludes}
use Rattle.gic_study.specs.Modes.{Plans}
use Rattle.gic_view.specs.View.{View}
use Rattle.gic_study.specs.ProgramPlans.{program_plans}

-- what one monitor prints
abbrev pub Plan : Type 0
Plan = RosterView → List View → List ℕ

-- three items that read as the three monitors do
three_plans : {X : Type 0} (read : X → Plan) (a b c : X) → read a ≡ dwell_text → read b ≡ earth_text → read c ≡ volt_text 1
    → ◌≡◌ {A = Plans} (λ roster views. map (λ m. read m roster views) (a ∷ b ∷ c ∷ [])) program_plans
three_plans read a b c first second third k roster views = first k roster views ∷ second k roster views ∷ third k roster views ∷ []

pub plans_attached : {X : Type 0} (read : X → Plan) (items : List X) (a b c : X) → items ≡ a ∷ b ∷ c ∷ []
    → read a ≡ dwell_text → read b ≡ earth_text → read c ≡ volt_text 1
    → ◌≡◌ {A = Plans} (λ roster views. map (λ m. read m roster views) items) program_plans
plans_attached {X = X} read items a b c e first second third =
    ap (λ (xs : List X). λ roster views. map (λ m. read m roster views) xs) e ∙ three_plans read a b c first second third

-- so what they see ends as with the plans of the program
pub attached : {X : Type 0} (read : X → Plan) (none one two three : List X) (a b c : X) → none ≡ [] → one ≡ none ++ a ∷ [] → two ≡ one ++ b ∷ [] → three ≡ two ++ c ∷ []
    → read a ≡ dwell_text → read b ≡ earth_text → read c ≡ volt_text 1
    → (asked : Asked) (before now : Shown) (answer : Answer)
    → Concludes (λ roster views. map (λ m. read m roster views) three) asked before now answer
    → Concludes program_plans asked before now answer
attached {X = X} read none one two three a b c start push1 push2 push3 first second third asked before now answer ends =
    let items : three ≡ a ∷ b ∷ c ∷ [] =
    push3 ∙ ap (λ (xs : List X). xs ++ c ∷ []) (push2 ∙ ap (λ (xs : List X). xs ++ b ∷ []) (push1 ∙ ap (λ (xs : List X). xs ++ a ∷ []) start)) in
    subst (λ (plans : Plans). Concludes plans asked before now answer) (plans_attached read three a b c items first second third) ends
