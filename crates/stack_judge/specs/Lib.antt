pub mod EndPlace
pub mod Judgement
pub mod Judged
pub mod Certifying
pub mod ProblemColumns
pub mod NarrowWork
