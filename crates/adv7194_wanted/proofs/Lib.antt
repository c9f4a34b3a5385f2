pub mod RowLaws
pub mod SoundLaws
pub mod CheckLaws
pub mod ByteLaws
pub mod StepLaws
pub mod PartLaws
