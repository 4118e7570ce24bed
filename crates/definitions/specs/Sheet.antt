-- Document 01, "The sheets": bytes, names, the rule's formula, and what the four sheets say.
pub mod Text
pub mod Relations
pub mod Formula
pub mod Parsing
pub mod Sheets
