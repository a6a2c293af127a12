-- What holds of the readers of either form.
pub mod Laws
