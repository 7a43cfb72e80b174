-- What a reader must believe: Results. Built is for the contracts of inner functions.
pub mod Results
pub mod Built
