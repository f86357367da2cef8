pub mod RowLaws
pub mod Slopes
pub mod Dues
pub mod Said
pub mod Seeking
