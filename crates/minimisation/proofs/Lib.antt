pub mod MinimiseLaws
