-- What a comparison finds, and what it is found from.
pub mod Rows
pub mod Side
pub mod Judged
