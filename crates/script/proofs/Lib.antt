-- Laws that belong to no one function.
pub mod EndToEnd
pub mod Parts
pub mod Reading
pub mod WholeLaws
