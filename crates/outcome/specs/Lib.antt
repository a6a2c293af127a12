-- How a sorter's slots, fronts and reaches stand to blocks and to a state of sorting (Tie), and what its looks come to (Came).
pub mod Tie
pub mod Came
