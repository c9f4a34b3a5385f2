pub mod PairLaws
pub mod ListLaws
pub mod JustThese
pub mod RowLaws
