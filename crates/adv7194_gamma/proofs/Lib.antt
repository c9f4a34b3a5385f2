pub mod Powers
pub mod Budget
pub mod Nearest
pub mod Answers
pub mod ByteLaws
pub mod CodeLaws
pub mod SettingLaws
