-- The line of what is asked of a screen determines it.
use Rattle.std.proofs.Common.{◌≡◌, ℕ, ◌<◌, ◌^◌, ℤ, FitsSigned, w32, refl, ap}
use Rattle.std.specs.Prelude.{codes}
use Rattle.gic_text.specs.Words.{IsLine}
use Rattle.gic_text.proofs.Words.{word_from_test}
use Rattle.gic_report.proofs.WordsDetermined.{same_32, same_natural, word_at, word_of_32, word_of_natural}
use Rattle.gic_worst.specs.Setting.{event_setting_line}

pub setting_is_line : (width threshold : ℕ) (field : ℤ) → width < 2 ^ 32 → threshold < 2 ^ 32 → FitsSigned w32 field → IsLine (event_setting_line width threshold field)
setting_is_line width threshold field w t f = (
  word_from_test (codes "width") refl,
  (
    word_of_natural width w,
    (word_from_test (codes "threshold") refl, (word_of_natural threshold t, (word_from_test (codes "field") refl, (word_of_32 field f, tt)))),
  ),
)

pub record SameSetting (width threshold : ℕ) (field : ℤ) (width' threshold' : ℕ) (field' : ℤ) : Type 0 where
  pub same_width : width ≡ width'
  pub same_threshold : threshold ≡ threshold'
  pub same_field : field ≡ field'

pub same_setting : (width threshold : ℕ) (field : ℤ) (width' threshold' : ℕ) (field' : ℤ) → width < 2 ^ 32 → threshold < 2 ^ 32 → FitsSigned w32 field
    → width' < 2 ^ 32 → threshold' < 2 ^ 32 → FitsSigned w32 field' → event_setting_line width threshold field ≡ event_setting_line width' threshold' field' → SameSetting width threshold field width' threshold' field'
same_setting width threshold field width' threshold' field' w t f w' t' f' e = record {
  same_width = same_natural width width' w w' (ap (λ ws. word_at ws 1) e);
  same_threshold = same_natural threshold threshold' t t' (ap (λ ws. word_at ws 3) e);
  same_field = same_32 field field' f f' (ap (λ ws. word_at ws 5) e);
}
