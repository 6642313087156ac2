pub mod LogTables
pub mod Shifts
