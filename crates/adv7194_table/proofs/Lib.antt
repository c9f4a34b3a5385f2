pub mod TableLaws
pub mod MaskLaws
pub mod SettingLaws
pub mod RegisterLaws
