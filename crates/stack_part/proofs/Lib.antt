pub mod PartSurveys
