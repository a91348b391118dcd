pub mod SectionLoops
pub mod Laws
