pub mod Doorbell
pub mod Laws
