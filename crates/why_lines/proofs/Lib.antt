pub mod CheckLaws
