pub mod KronLaws
pub mod MeetLaws
