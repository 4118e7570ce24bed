-- Layers taken in a lent state.
--   Tests        what the code tests of a step and of a layer
--   TestLaws     that these are the tests of the definitions
--   Layers       layers one after another: how they end, and one turn of the loop
--   Checks       layers from the initial state on; the test of the ends
pub mod Tests
pub mod TestLaws
pub mod Layers
pub mod Checks
