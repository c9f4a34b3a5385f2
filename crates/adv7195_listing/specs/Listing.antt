-- Document 02, P13: the text of an image of the ADV7195: a line a field with its number, its name and its setting as the plain code, in field order; or, where
-- the image is refused, the line `REFUSED number field`.
use Rattle.std.specs.Prelude.{List, ℕ}
use Rattle.listing.specs.Lines.{refused_line}
use Rattle.template.specs.Template.{filled}
use Rattle.refusals.specs.Verdict.{Verdict, good, refused_at}
use Rattle.adv7195_settings.specs.Numbers.{number_count}
use Rattle.adv7195_settings.specs.Rows.{settings_held}
use Rattle.adv7195_settings.specs.Reading.{read_of}
use Rattle.adv7195_listing.specs.Lines.{template}

-- the text of an image by what its reading answers
abbrev pub text_by : List ℕ → Verdict (Unit {0}) → List ℕ
text_by image (good u) = filled template (settings_held image)
text_by image (refused_at n f) = refused_line n f

-- the text of an image
unfoldable pub settings_text : List ℕ → List ℕ
settings_text image = text_by image (read_of image number_count)

-- the most bytes of any text
abbrev pub text_width : ℕ
text_width = 2048
