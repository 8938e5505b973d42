pub mod Geometry
pub mod GeometryFields
pub mod Laws
pub mod Spots
