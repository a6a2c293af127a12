-- What a state vector is.
pub mod Vector
pub mod VectorInner
