-- The theorems over specs/.
pub mod PlayLaws
pub mod AnswerLaws
pub mod ActionLaws
pub mod CallLaws
pub mod Progress
pub mod Accuracy
