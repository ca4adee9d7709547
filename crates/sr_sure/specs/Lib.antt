pub mod Sure
pub mod SureView
