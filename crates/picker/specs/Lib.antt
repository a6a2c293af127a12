-- What a block may wait for (Waits), the stages of each rule (Rule28, Rule13, Stages), the fronts of a sorter (Fronts), and one look at a front after
-- another (Picker).
pub mod Waits
pub mod Rule28
pub mod Rule13
pub mod Stages
pub mod Fronts
pub mod Picker
