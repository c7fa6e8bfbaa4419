-- The table's rule, and what callers want of alignments and sizes by code.
pub mod Rule
pub mod CodeLaws
pub mod OneAnswer
