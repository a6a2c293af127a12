-- What the public call that sorts by held ids answers.
pub mod Answers
pub mod AnswersInner
