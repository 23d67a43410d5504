pub mod SmallWindows
