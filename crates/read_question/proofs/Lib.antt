-- Laws of reading a question: a line before the rule, the signature that grows, the loop, the rule and what follows it.
pub mod Tests
pub mod Judging
pub mod Growing
pub mod Heading
pub mod Ending
