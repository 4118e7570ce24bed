-- Words of this crate's contracts, and the laws that its proofs hand paths to.
--   Replied    a text at the front of the lent bytes; a refusal's line and a report fit
--   Known      a case that was read, and what its signature says of its problem
--   Checked    a third sheet of steps
--   Planned    any other, from whose picks steps are built
--   Whole      the reply to an input
pub mod Replied
pub mod Known
pub mod Checked
pub mod Planned
pub mod Whole
