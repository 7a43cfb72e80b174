pub mod MinimalLaws
