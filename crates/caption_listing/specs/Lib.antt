pub mod CaptionText
