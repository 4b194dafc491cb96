-- The monitors that are attached have the plans of this program.
use Rattle.std.proofs.Common.{◌≡◌, ◌∙◌, inl, ℕ, List, [], ◌∷◌, ◌++◌, map, take, Option, subst, sym, ap}
use Rattle.std.proofs.lemmas.List.{take-map}
use Rattle.gic_files.specs.Files.{Files}
use Rattle.gic_monitor.specs.RosterView.{RosterView}
use Rattle.gic_monitor.specs.DwellText.{dwell_text}
use Rattle.gic_monitor.specs.EarthText.{earth_text}
use Rattle.gic_monitor.specs.LossText.{volt_text, table_text}
use Rattle.gic_monitor.specs.declared.loss.table_loss.NamedFactor.{NamedFactor}
use Rattle.gic_study.specs.Answers.{CallEnds, Moment}
use Rattle.gic_study.specs.Modes.{Plans}
use Rattle.gic_view.specs.View.{View}
use Rattle.gic_loss_study.specs.CountedEnds.{four_plans, FirstEnds}

-- what one monitor prints
abbrev pub Plan : Type 0
Plan = RosterView → List View → List ℕ

-- the first of four items that read as the four monitors do
first_plans : {X : Type 0} (read : X → Plan) (a b c d : X) (table : List NamedFactor) (count : ℕ)
    → read a ≡ dwell_text → read b ≡ earth_text → read c ≡ volt_text 1 → read d ≡ table_text table
    → ◌≡◌ {A = Plans} (λ roster views. map (λ m. read m roster views) (take count (a ∷ b ∷ c ∷ d ∷ []))) (λ roster views. take count (four_plans table roster views))
first_plans {X = X} read a b c d table count first second third fourth =
    let cut : ◌≡◌ {A = Plans} (λ roster views. map (λ m. read m roster views) (take count (a ∷ b ∷ c ∷ d ∷ []))) (λ roster views. take count (map (λ m. read m roster views) (a ∷ b ∷ c ∷ d ∷ [])))
    = λ k roster views. sym (take-map (λ (m : X). read m roster views) count (a ∷ b ∷ c ∷ d ∷ [])) k in
    let read_off : ◌≡◌ {A = Plans} (λ roster views. take count (map (λ m. read m roster views) (a ∷ b ∷ c ∷ d ∷ []))) (λ roster views. take count (four_plans table roster views))
    = λ k roster views. take count (first k roster views ∷ second k roster views ∷ third k roster views ∷ fourth k roster views ∷ []) in
    cut ∙ read_off

-- so the top call ends as the program does
pub attached : {X : Type 0} (read : X → Plan) (none one two three four prefix : List X) (a b c d : X) (table : List NamedFactor) (count : ℕ)
    → none ≡ [] → one ≡ none ++ a ∷ [] → two ≡ one ++ b ∷ [] → three ≡ two ++ c ∷ [] → four ≡ three ++ d ∷ [] → prefix ≡ take count four
    → read a ≡ dwell_text → read b ≡ earth_text → read c ≡ volt_text 1 → read d ≡ table_text table
    → (words : List (List ℕ)) (files : Option Files) (before now : Moment) (status : ℕ)
    → CallEnds (record { words = words; files = files; plans = λ roster views. map (λ m. read m roster views) prefix; before = before; now = now }) status
    → FirstEnds count words files before now status
attached {X = X} read none one two three four prefix a b c d table count start push1 push2 push3 push4 cut first second third fourth words files before now status ends =
    let all : four ≡ a ∷ b ∷ c ∷ d ∷ [] =
    push4 ∙ ap (λ (xs : List X). xs ++ d ∷ []) (push3 ∙ ap (λ (xs : List X). xs ++ c ∷ []) (push2 ∙ ap (λ (xs : List X). xs ++ b ∷ []) (push1 ∙ ap (λ (xs : List X). xs ++ a ∷ []) start))) in
    let items : prefix ≡ take count (a ∷ b ∷ c ∷ d ∷ []) = cut ∙ ap (λ (xs : List X). take count xs) all in
    let plans : ◌≡◌ {A = Plans} (λ roster views. map (λ m. read m roster views) prefix) (λ roster views. take count (four_plans table roster views)) =
    ap (λ (xs : List X). λ roster views. map (λ m. read m roster views) xs) items ∙ first_plans read a b c d table count first second third fourth in
    inl (table, subst (λ (p : Plans). CallEnds (record { words = words; files = files; plans = p; before = before; now = now }) status) plans ends)
