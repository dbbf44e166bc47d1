-- Which texts have no number with zeros at its end.
pub mod Marks
pub mod Numbers
pub mod Documents
