pub mod Endings
pub mod JournalEntries
pub mod Ticks
pub mod Records
