-- Laws of one line of a site and of picks, of their loops, and of the loop over steps.
pub mod Turns
pub mod Loops
pub mod Numbers
