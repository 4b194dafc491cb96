-- The text of a study determines what it shows.
use Rattle.std.proofs.Common.{◌≡◌, ◌∙◌, ℕ, ◌+◌, ◌<◌, ◌^◌, ℤ, Option, Some, None, List, [], ◌∷◌, ◌++◌, map, length, drop, refl, sym, ap, subst, arith, append-nil, length-append}
use Rattle.std.specs.Prelude.{codes, IfSome}
use Rattle.std.specs.List.{AllByRecursion}
use Rattle.std.proofs.lemmas.List.Elements.{recursion_from_All}
use Rattle.gic_fixed.specs.Ends.{Ends}
use Rattle.gic_case.specs.ZoneView.{ZoneView}
use Rattle.gic_view.specs.View.{View}
use Rattle.gic_text.specs.Lines.{lines_text}
use Rattle.gic_text.specs.Words.{IsWord, IsLine}
use Rattle.gic_text.proofs.Words.{word_from_test, word_decimal}
use Rattle.gic_case.specs.declared.item.Transformer.{Transformer}
use Rattle.gic_case.specs.Lists.{Lists, node_names}
use Rattle.gic_effective.specs.ViewLengths.{HasViewLengths}
use Rattle.gic_report.specs.SharedLines.{Words, word_line}
use Rattle.gic_report.specs.declared.rows.ItemRow.{ItemRow}
use Rattle.gic_report.specs.Fits.{HasNames, IsViewInRange}
use Rattle.gic_report.specs.ItemText.{effective_line, effective_lines, node_lines, row_lines, item_rows_of}
use Rattle.gic_report.specs.VerdictText.{absolute_line, absolute_lines}
use Rattle.gic_report.proofs.CaseNames.{zone_names}
use Rattle.gic_report.proofs.LinePlaces.{row_count}
use Rattle.gic_report.proofs.ShownViews.{AreNamed, IsShown, are_items, case_named, case_shown, same_items}
use Rattle.gic_report.proofs.ViewDetermined.{are_absolutes, are_effectives, same_effectives}
use Rattle.gic_report.proofs.WordsDetermined.{first_of_lines, same_natural, word_at}
use Rattle.gic_study_text.specs.StudyText.{DetailView, monitor_texts, study_setting_line, detail_step_line, study_lines, zone_lines}
use Rattle.gic_study_text.specs.Determines.{AreShownOf, IsDetailOf, IsFieldInRange, TextDeterminesStudy}
use Rattle.gic_study_text.proofs.Prefixes.{first_lines, prefix_lines, split_prefix}
use Rattle.gic_study_text.proofs.MonitorsDetermined.{last_line, monitors_determined}
use Rattle.gic_study_text.proofs.PartsDetermined.{are_zones, node_count, same_peaks, same_zones, transformer_count, zone_count}

-- equal part by part
same_detail : (d e : DetailView) → d.fields ≡ e.fields → d.view.number ≡ e.view.number → d.view.time ≡ e.view.time → d.view.nodes ≡ e.view.nodes → d.view.elements ≡ e.view.elements
    → d.view.effective ≡ e.view.effective → d ≡ e
same_detail d e fields number time nodes elements effective =
    let made : List (ℤ × ℤ) → ℕ → ℕ → List (Option Ends) → List (Option Ends) → List Ends → DetailView =
    λ f n t k l g. record { fields = f; view = record { number = n; time = t; nodes = k; elements = l; effective = g } } in
    ap (λ f. made f d.view.number d.view.time d.view.nodes d.view.elements d.view.effective) fields
    ∙ ap (λ n. made e.fields n d.view.time d.view.nodes d.view.elements d.view.effective) number
    ∙ ap (λ t. made e.fields e.view.number t d.view.nodes d.view.elements d.view.effective) time
    ∙ ap (λ k. made e.fields e.view.number e.view.time k d.view.elements d.view.effective) nodes
    ∙ ap (λ l. made e.fields e.view.number e.view.time e.view.nodes l d.view.effective) elements
    ∙ ap (λ g. made e.fields e.view.number e.view.time e.view.nodes e.view.elements g) effective

module _ (zones : List ZoneView) (names : List (List ℕ)) (rows : List ItemRow) (ts : List Transformer) where
  -- the lines of the items of a view: signed, and of the peaks
  abbrev signed : View → List Words
  signed v = node_lines names v.nodes ++ (row_lines rows v.elements ++ effective_lines ts v.effective)

  abbrev peaked : (threshold : ℕ) → View → List Words
  peaked threshold v = node_lines names v.nodes ++ (row_lines rows v.elements ++ absolute_lines threshold ts v.effective)

  -- those of a step in detail, and of one that there may be
  abbrev detailed : DetailView → List Words
  detailed d = detail_step_line d.view.number d.view.time ∷ (zone_lines zones d.fields ++ signed d.view)

  abbrev block : Option DetailView → List Words
  block None = []
  block (Some d) = detailed d

  -- the view of a step in detail can be shown of these, it has a field for each zone, and its numbers fit
  pub record IsDetail (d : DetailView) : Type 0 where
    pub shown : IsShown names rows ts d.view
    pub zone_count : length d.fields ≡ length zones
    pub fields_fit : AllByRecursion IsFieldInRange d.fields
    pub number_fits : d.view.number < 2 ^ 32
    pub time_fits : d.view.time < 2 ^ 32

  -- the names of the zones are words, and so are those of the items
  pub record AreAllNamed : Type 0 where
    pub zone_words : AllByRecursion IsWord (map (λ z. z.name) zones)
    pub items : AreNamed names rows ts

  -- ---- lines

  signed_are : (v : View) → AreNamed names rows ts → IsShown names rows ts v → AllByRecursion IsLine (signed v)
  signed_are v n s =
      let currents = subst (AllByRecursion IsLine) (append-nil (effective_lines ts v.effective)) (are_effectives ts v.effective [] n.transformer_words s.transformer_count s.effective_fit tt) in
      are_items names rows ts v (effective_lines ts v.effective) n s currents

  peaked_are : (threshold : ℕ) (v : View) → AreNamed names rows ts → IsShown names rows ts v → AllByRecursion IsLine (peaked threshold v)
  peaked_are threshold v n s =
      let judged = subst (AllByRecursion IsLine) (append-nil (absolute_lines threshold ts v.effective)) (are_absolutes threshold ts v.effective [] n.transformer_words s.transformer_count s.effective_fit tt) in
      are_items names rows ts v (absolute_lines threshold ts v.effective) n s judged

  step_is : (number time : ℕ) → number < 2 ^ 32 → time < 2 ^ 32 → IsLine (detail_step_line number time)
  step_is number time h k = (word_from_test (codes "step") refl, (word_decimal number (omega (arith, h)), (word_from_test (codes "time") refl, (word_decimal time (omega (arith, k)), tt))))

  detailed_are : (d : DetailView) → AreAllNamed → IsDetail d → AllByRecursion IsLine (detailed d)
  detailed_are d n h = (step_is d.view.number d.view.time h.number_fits h.time_fits, are_zones zones d.fields (signed d.view) n.zone_words h.fields_fit (signed_are d.view n.items h.shown))

  -- ---- how many

  items_count : (a b c : List Words) (i j k : ℕ) → length a ≡ i → length b ≡ j → length c ≡ k → length (a ++ (b ++ c)) ≡ i + (j + k)
  items_count a b c i j k p q r = omega (arith, length-append a (b ++ c), length-append b c, p, q, r)

  signed_count : (v : View) → length (signed v) ≡ length names + (length rows + length ts)
  signed_count v =
      items_count (node_lines names v.nodes) (row_lines rows v.elements) (effective_lines ts v.effective) (length names) (length rows) (length ts)
      (node_count names v.nodes) (row_count rows v.elements) (transformer_count (λ t e. effective_line t.name e) ts v.effective)

  peaked_count : (threshold : ℕ) (v : View) → length (peaked threshold v) ≡ length names + (length rows + length ts)
  peaked_count threshold v =
      items_count (node_lines names v.nodes) (row_lines rows v.elements) (absolute_lines threshold ts v.effective) (length names) (length rows) (length ts)
      (node_count names v.nodes) (row_count rows v.elements) (transformer_count (absolute_line threshold) ts v.effective)

  detailed_count : (d : DetailView) → IsDetail d → length (zone_lines zones d.fields ++ signed d.view) ≡ length zones + (length names + (length rows + length ts))
  detailed_count d h = omega (arith, length-append (zone_lines zones d.fields) (signed d.view), zone_count zones d.fields h.zone_count, signed_count d.view)

  -- ---- what lines determine

  pub record SameShown (v w : View) : Type 0 where
    pub nodes : v.nodes ≡ w.nodes
    pub elements : v.elements ≡ w.elements
    pub effective : v.effective ≡ w.effective

  same_signed : (v w : View) → IsShown names rows ts v → IsShown names rows ts w → signed v ≡ signed w → SameShown v w
  same_signed v w s t e =
      let items = same_items names rows ts v w (effective_lines ts v.effective) (effective_lines ts w.effective) s t e in
      let last = append-nil (effective_lines ts v.effective) ∙ items.behind ∙ sym (append-nil (effective_lines ts w.effective)) in
      record {
        nodes = items.nodes;
        elements = items.elements;
        effective = same_effectives ts v.effective w.effective [] [] s.transformer_count t.transformer_count s.effective_fit t.effective_fit last;
      }

  same_peaked : (threshold threshold' : ℕ) (v w : View) → IsShown names rows ts v → IsShown names rows ts w
      → peaked threshold v ≡ peaked threshold' w → SameShown v w
  same_peaked threshold threshold' v w s t e =
      let items = same_items names rows ts v w (absolute_lines threshold ts v.effective) (absolute_lines threshold' ts w.effective) s t e in
      record {
        nodes = items.nodes;
        elements = items.elements;
        effective = same_peaks threshold threshold' ts v.effective w.effective s.transformer_count t.transformer_count s.effective_fit t.effective_fit items.behind;
      }

  same_detailed : (d e : DetailView) → IsDetail d → IsDetail e → detailed d ≡ detailed e → d ≡ e
  same_detailed d e h k same =
      let step : detail_step_line d.view.number d.view.time ≡ detail_step_line e.view.number e.view.time = ap (λ ls. first_of_lines ls) same in
      let later : zone_lines zones d.fields ++ signed d.view ≡ zone_lines zones e.fields ++ signed e.view = ap (drop 1) same in
      let apart = split_prefix (zone_lines zones d.fields) (zone_lines zones e.fields) (signed d.view) (signed e.view) (zone_count zones d.fields h.zone_count ∙ sym (zone_count zones e.fields k.zone_count)) later in
      let items = same_signed d.view e.view h.shown k.shown apart.1 in
      same_detail d e (same_zones zones d.fields e.fields h.zone_count k.zone_count h.fields_fit k.fields_fit apart.0)
      (same_natural d.view.number e.view.number h.number_fits k.number_fits (ap (λ ws. word_at ws 1) step))
      (same_natural d.view.time e.view.time h.time_fits k.time_fits (ap (λ ws. word_at ws 3) step)) items.nodes items.elements items.effective

  -- the line in front of the peaks
  abbrev mark : Words
  mark = word_line (codes "peaks")

  is_mark : IsLine mark
  is_mark = (word_from_test (codes "peaks") refl, tt)

  -- it begins no step in detail
  no_detail : (d : DetailView) (more others : List Words) (r s : List ℕ) → IsDetail d → lines_text (mark ∷ more) ++ r ≡ lines_text ((detail_step_line d.view.number d.view.time ∷ []) ++ others) ++ s → ⊥
  no_detail d more others r s h e =
      let first = first_lines (mark ∷ []) (detail_step_line d.view.number d.view.time ∷ []) more others r s refl (is_mark, tt) (step_is d.view.number d.view.time h.number_fits h.time_fits, tt) e in
      let n : ◌≡◌ {A = ℕ} 1 4 = ap (λ ls. length (first_of_lines ls)) first.0 in
      omega (arith, n)

  -- the block of a step in detail, and what follows it
  same_block : (d e : Option DetailView) (more others : List Words) (r s : List ℕ) → AreAllNamed → IfSome d IsDetail → IfSome e IsDetail
      → lines_text (block d ++ mark ∷ more) ++ r ≡ lines_text (block e ++ mark ∷ others) ++ s → (d ≡ e) × (lines_text (mark ∷ more) ++ r ≡ lines_text (mark ∷ others) ++ s)
  same_block None None more others r s n h k e = (refl, e)
  same_block None (Some d) more others r s n h k e = absurd (no_detail d more ((zone_lines zones d.fields ++ signed d.view) ++ mark ∷ others) r s k e)
  same_block (Some d) None more others r s n h k e = absurd (no_detail d others ((zone_lines zones d.fields ++ signed d.view) ++ mark ∷ more) s r h (sym e))
  same_block (Some d) (Some f) more others r s n h k e =
      let apart = first_lines (detailed d) (detailed f) (mark ∷ more) (mark ∷ others) r s (omega (arith, detailed_count d h, detailed_count f k)) (detailed_are d n h) (detailed_are f n k) e in
      (ap (λ x. Some x) (same_detailed d f h k apart.0), apart.1)

  -- ---- all lines

  abbrev pub lines : (width threshold steps : ℕ) → Option DetailView → View → List Words
  lines width threshold steps detail peaks = word_line (codes "study") ∷ study_setting_line width threshold steps ∷ (block detail ++ mark ∷ peaked threshold peaks)

  -- the numbers fit, and the step in detail and the peaks are shown of these
  pub record Shown (width threshold steps : ℕ) (detail : Option DetailView) (peaks : View) : Type 0 where
    pub width_fits : width < 2 ^ 32
    pub threshold_fits : threshold < 2 ^ 32
    pub steps_fit : steps < 2 ^ 32
    pub detail_shown : IfSome detail IsDetail
    pub peaks_shown : IsShown names rows ts peaks

  setting_is : (width threshold steps : ℕ) → width < 2 ^ 32 → threshold < 2 ^ 32 → steps < 2 ^ 32 → IsLine (study_setting_line width threshold steps)
  setting_is width threshold steps h k l = (
    word_from_test (codes "width") refl,
    (
      word_decimal width (omega (arith, h)),
      (word_from_test (codes "threshold") refl, (word_decimal threshold (omega (arith, k)), (word_from_test (codes "steps") refl, (word_decimal steps (omega (arith, l)), tt)))),
    ),
  )

  -- the two lines in front
  heads_are : (width threshold steps : ℕ) → width < 2 ^ 32 → threshold < 2 ^ 32 → steps < 2 ^ 32 → AllByRecursion IsLine (word_line (codes "study") ∷ study_setting_line width threshold steps ∷ [])
  heads_are width threshold steps h k l = ((word_from_test (codes "study") refl, tt), (setting_is width threshold steps h k l, tt))

  pub record SameLines (width threshold steps : ℕ) (detail : Option DetailView) (peaks : View) (r : List ℕ)
      (width' threshold' steps' : ℕ) (detail' : Option DetailView) (peaks' : View) (r' : List ℕ) : Type 0 where
    pub same_width : width ≡ width'
    pub same_threshold : threshold ≡ threshold'
    pub same_steps : steps ≡ steps'
    pub same_detail : detail ≡ detail'
    pub same_shown : SameShown peaks peaks'
    pub same_behind : r ≡ r'

  pub lines_determined : (width threshold steps : ℕ) (detail : Option DetailView) (peaks : View) (r : List ℕ)
      (width' threshold' steps' : ℕ) (detail' : Option DetailView) (peaks' : View) (r' : List ℕ) → AreAllNamed
      → Shown width threshold steps detail peaks → Shown width' threshold' steps' detail' peaks'
      → lines_text (lines width threshold steps detail peaks) ++ r ≡ lines_text (lines width' threshold' steps' detail' peaks') ++ r'
      → SameLines width threshold steps detail peaks r width' threshold' steps' detail' peaks' r'
  lines_determined width threshold steps detail peaks r width' threshold' steps' detail' peaks' r' n s s' e =
      let heads = first_lines (word_line (codes "study") ∷ study_setting_line width threshold steps ∷ []) (word_line (codes "study") ∷ study_setting_line width' threshold' steps' ∷ [])
      (block detail ++ mark ∷ peaked threshold peaks) (block detail' ++ mark ∷ peaked threshold' peaks') r r' refl
      (heads_are width threshold steps s.width_fits s.threshold_fits s.steps_fit) (heads_are width' threshold' steps' s'.width_fits s'.threshold_fits s'.steps_fit) e in
      let setting : study_setting_line width threshold steps ≡ study_setting_line width' threshold' steps' = ap (λ ls. first_of_lines ls) (ap (drop 1) heads.0) in
      let inner = same_block detail detail' (peaked threshold peaks) (peaked threshold' peaks') r r' n s.detail_shown s'.detail_shown heads.1 in
      let last = prefix_lines (mark ∷ peaked threshold peaks) (mark ∷ peaked threshold' peaks') r r' (omega (arith, peaked_count threshold peaks, peaked_count threshold' peaks'))
      (is_mark, peaked_are threshold peaks n.items s.peaks_shown) (is_mark, peaked_are threshold' peaks' n.items s'.peaks_shown) inner.1 in
      let shown : peaked threshold peaks ≡ peaked threshold' peaks' = ap (drop 1) last.0 in
      record {
        same_width = same_natural width width' s.width_fits s'.width_fits (ap (λ ws. word_at ws 1) setting);
        same_threshold = same_natural threshold threshold' s.threshold_fits s'.threshold_fits (ap (λ ws. word_at ws 3) setting);
        same_steps = same_natural steps steps' s.steps_fit s'.steps_fit (ap (λ ws. word_at ws 5) setting);
        same_detail = inner.0;
        same_shown = same_peaked threshold threshold' peaks peaks' s.peaks_shown s'.peaks_shown shown;
        same_behind = last.1;
      }

-- ---- on a case

all_named : (case : Lists) → HasNames case → AreAllNamed case.zones (node_names case) (item_rows_of case) case.transformers
all_named case h = record { zone_words = zone_names case h; items = case_named case h }

shown_view : (case : Lists) (view : View) → HasViewLengths case view → IsViewInRange view → IsShown (node_names case) (item_rows_of case) case.transformers view
shown_view case view lengths fits = case_shown case view lengths.nodes lengths.elements lengths.transformers fits

shown_detail : (case : Lists) (detail : Option DetailView) → IfSome detail (IsDetailOf case) → IfSome detail (IsDetail case.zones (node_names case) (item_rows_of case) case.transformers)
shown_detail case None h = tt
shown_detail case (Some d) h = record {
  shown = shown_view case d.view h.lengths h.ends_fit;
  zone_count = h.zones;
  fields_fit = recursion_from_All IsFieldInRange d.fields h.fields_fit;
  number_fits = h.number_fits;
  time_fits = h.time_fits;
}

shown_of : (case : Lists) (width threshold steps : ℕ) (detail : Option DetailView) (peaks : View) (texts : List (List ℕ)) → AreShownOf case width threshold steps detail peaks texts
    → Shown case.zones (node_names case) (item_rows_of case) case.transformers width threshold steps detail peaks
shown_of case width threshold steps detail peaks texts s = record {
  width_fits = s.width_fits;
  threshold_fits = s.threshold_fits;
  steps_fit = s.steps_fit;
  detail_shown = shown_detail case detail s.detail_of;
  peaks_shown = shown_view case peaks s.lengths s.ends_fit;
}

-- the block by its case
same_lines : (case : Lists) (width threshold steps : ℕ) (detail : Option DetailView) (peaks : View)
    → study_lines case width threshold steps detail peaks ≡ lines case.zones (node_names case) (item_rows_of case) case.transformers width threshold steps detail peaks
same_lines case width threshold steps None peaks = refl
same_lines case width threshold steps (Some d) peaks = refl

-- the text of a study determines all that it shows
pub study_determined : TextDeterminesStudy
study_determined case named width threshold steps detail peaks texts width' threshold' steps' detail' peaks' texts' p q e =
    let behind : List (List ℕ) → List ℕ = λ ts. monitor_texts 1 ts ++ last_line in
    let same = lines_determined case.zones (node_names case) (item_rows_of case) case.transformers width threshold steps detail peaks (behind texts) width' threshold' steps' detail' peaks' (behind texts')
    (all_named case named) (shown_of case width threshold steps detail peaks texts p) (shown_of case width' threshold' steps' detail' peaks' texts' q)
    (ap (λ ls. lines_text ls ++ behind texts) (sym (same_lines case width threshold steps detail peaks)) ∙ e ∙ ap (λ ls. lines_text ls ++ behind texts') (same_lines case width' threshold' steps' detail' peaks')) in
    record {
      same_width = same.same_width;
      same_threshold = same.same_threshold;
      same_steps = same.same_steps;
      same_detail = same.same_detail;
      same_nodes = same.same_shown.nodes;
      same_elements = same.same_shown.elements;
      same_effective = same.same_shown.effective;
      same_texts = monitors_determined 1 texts texts' (omega (arith, p.texts_fit.few)) (omega (arith, q.texts_fit.few))
          (recursion_from_All (λ t. length t < 2 ^ 64) texts p.texts_fit.short) (recursion_from_All (λ t. length t < 2 ^ 64) texts' q.texts_fit.short) same.same_behind;
    }
