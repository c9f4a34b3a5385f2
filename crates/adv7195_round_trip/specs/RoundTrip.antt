-- Document 01, "Refusals" and "The bus and its three rules", and document 02, P13: a setting read is one that has the code that the image holds, and the wanted
-- image has each field as its coding makes it. So what is read from an image means that image, and what settings mean is read back.
use Rattle.std.specs.Prelude.{◌≡◌, List, ℕ, ℤ}
use Rattle.refusals.specs.Verdict.{good}
use Rattle.adv7195_settings.specs.Wanted.{wanted_by}
use Rattle.adv7195_settings.specs.Rows.{check_of, judge_of, settings_held}

-- settings mean the image that they were read from: they pass the check, and over that image they want nothing else
pub record MeansItself (image : List ℕ) (zs : List ℤ) : Type 0 where
  pub passes : check_of zs ≡ good tt
  pub same : wanted_by image zs ≡ image

-- the image that settings want over another is read back, as these settings
pub record ReadsBack (image : List ℕ) (zs : List ℤ) : Type 0 where
  pub reads : judge_of (wanted_by image zs) ≡ good tt
  pub same : settings_held (wanted_by image zs) ≡ zs
