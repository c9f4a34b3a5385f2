-- Document 01, "Refusals" and "The bus and its three rules": a setting read is one that has the code that the image holds, and the wanted image
-- has each field as its coding makes it. So what is read from an image means that image, and what settings mean is read back.
use Rattle.std.specs.Prelude.{◌≡◌, List, map, ℕ, ◌<◌, ℤ, get_or}
use Rattle.refusals.specs.Refusal.{Judged}
use Rattle.refusals.specs.Verdict.{good}
use Rattle.adv7194_table.specs.Table.{table}
use Rattle.adv7194_settings.specs.Wanted.{wanted_by}
use Rattle.adv7194_settings.specs.Held.{settings_held}
use Rattle.adv7194_settings.specs.Rows.{check_of, judge_of}
use Rattle.adv7194_round_trip.specs.Entries.{codes_of}

-- an image holds bytes
pub record Bytes (image : List ℕ) : Type 0 where
  pub byte : (r : ℕ) → get_or image r 0 < 256

-- settings mean the image that they were read from: they pass the check, and over that image they want nothing else
pub record MeansItself (image : List ℕ) (zs : List ℤ) : Type 0 where
  pub passes : check_of zs ≡ good tt
  pub same : wanted_by image zs ≡ image

-- the codes of each entry of the table
abbrev pub all_codes : List ℤ → List (Judged (List ℕ))
all_codes zs = map (codes_of zs) table

-- the image that settings want over another is read back: as settings that pass the check, have the same codes and want the same image. A curve
-- set by a ratio is read as bytes, which are its codes
pub record ReadsBack (image : List ℕ) (zs : List ℤ) : Type 0 where
  pub reads : judge_of (wanted_by image zs) ≡ good tt
  pub passes : check_of (settings_held (wanted_by image zs)) ≡ good tt
  pub codes : all_codes (settings_held (wanted_by image zs)) ≡ all_codes zs
  pub same : wanted_by image (settings_held (wanted_by image zs)) ≡ wanted_by image zs
