-- Laws of fields, of each record's entry, and of the loop over the lines of any sheet.
pub mod Fields
pub mod Made
pub mod Runs
pub mod Digits
mod Tabs
