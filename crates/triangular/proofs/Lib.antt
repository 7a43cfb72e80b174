pub mod SpanLaws
pub mod TopBit
pub mod StepLaws
