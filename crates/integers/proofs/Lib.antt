pub mod BoundedProducts
pub mod Det
mod Examples
