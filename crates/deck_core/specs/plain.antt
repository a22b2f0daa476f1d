pub mod Words
pub mod NoteWords
