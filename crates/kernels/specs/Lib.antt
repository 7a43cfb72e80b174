-- The definition that the contracts of the kernels cite.
pub mod Products
