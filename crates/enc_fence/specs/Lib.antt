pub mod StepPairs
