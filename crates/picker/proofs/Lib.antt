-- The stages of a rule (StageLaws); fronts in words, their reaches and the first front that is due (FrontLaws); what a look finds and leaves (Looks).
pub mod StageLaws
pub mod FrontLaws
pub mod Looks
