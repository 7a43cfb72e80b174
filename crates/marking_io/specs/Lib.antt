-- What a reader must believe: Text, Calls, Program.
pub mod Text
pub mod Calls
pub mod Program
