-- The table of a grounded problem: its lines, the numbers that they give, and of which problem it is.
pub mod Lines
pub mod Numbers
pub mod Of
pub mod NeedLaws
pub mod ChangeLaws
pub mod OfLaws
