-- The state and its readers; the frame's words and what they stand for; the clock; the checks; then `begin` and `end`, stage by stage in the
-- order of the Rust; the frame call; lists of calls, and a refused frame without its input. Corners is what document 01 says of a target
-- under way, and Listing what it prints of its own frame, proved.
pub mod Pair
pub mod State
pub mod Layout
pub mod Frame
pub mod Parts
pub mod Clock
pub mod Checks
pub mod Marks
pub mod Sweep
pub mod Geometry
pub mod AxisPhysics
pub mod Space
pub mod Drive
pub mod Follow
pub mod Begin
pub mod Corners
pub mod Adjust
pub mod Extent
pub mod WheelTurn
pub mod Stick
pub mod Handle
pub mod Press
pub mod Bar
pub mod FinalClamp
pub mod End
pub mod Outcome
pub mod PutOut
pub mod Call
pub mod Steps
pub mod Moved
pub mod SettlingRun
pub mod Listing
pub mod Lists
pub mod WithoutInput
pub mod Replay
