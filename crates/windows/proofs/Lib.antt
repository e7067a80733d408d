-- A window of a table is a record of one window by itself, and a call on it is that record's call. The ends of the lines of thought: `window-sound` and `windows-sound`;
-- of each move what its window becomes (`..-here`) and that the others stay (`..-there`); `windows-position`, `windows_steps`, `window-outline`, `window-changes`.
pub mod Along
pub mod Roots
pub mod Wholes
pub mod Window
pub mod Counted
pub mod Parts
pub mod Flagged
pub mod Without
pub mod Added
pub mod Members
pub mod Opened
pub mod Navigated
pub mod Ends
pub mod Dropped
pub mod Replaced
pub mod Sums
pub mod Lists
pub mod Alike
pub mod Independent
pub mod Answers
pub mod Outline
pub mod Changes
pub mod Only
pub mod After
