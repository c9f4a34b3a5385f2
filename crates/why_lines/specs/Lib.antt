pub mod RegisterLine
