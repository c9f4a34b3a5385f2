pub mod ShiftedLaws
