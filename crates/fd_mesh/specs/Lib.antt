pub mod Source
pub mod Mesh
pub mod MeshLaws
