pub mod LentGroups
pub mod CopiedGroups
