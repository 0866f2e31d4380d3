mod NumbersFit
mod TrueAnswers
mod Judgements
mod NarrowRuns
mod Budgets
mod RevisedRuns
pub mod EachJudged
pub mod JudgedValues
