-- One outcome of every monotone system (Outcome), the order of highest clients (Quick), what holds of every rule (Rules), each rule in the paper's words
-- (Rule28, Rule13) and by its number (Named), the clients reported (Clients), the blocks' numbers (Numbers), demand 3 by any rule (Demand), the same said
-- of the blocks' numbers (Taken), held ids (Held), systems that may make the same steps (Alike), where held ids and reaches take the same (HeldReaches), the
-- worked cases (Cases), and the slow plain order, which comes to the same (Slow).
pub mod Outcome
pub mod Quick
pub mod Rules
pub mod Rule28
pub mod Rule13
pub mod Named
pub mod Clients
pub mod Numbers
pub mod Demand
pub mod Taken
pub mod Held
pub mod Alike
pub mod HeldReaches
pub mod Cases
pub mod Slow
