-- What a sort answers.
pub mod Answers
pub mod AnswersInner
