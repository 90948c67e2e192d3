pub mod AnswerLines
pub mod StateLines
