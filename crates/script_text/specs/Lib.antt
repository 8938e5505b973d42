pub mod Laws
pub mod ParseClauses
pub mod Script
pub mod SoundLines
