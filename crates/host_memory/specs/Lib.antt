pub mod Inside
pub mod Laws
pub mod Memory
pub mod Pages
