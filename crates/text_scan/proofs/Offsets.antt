-- Lines and columns of offsets.
pub mod Lines
