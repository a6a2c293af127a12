-- A row of a summary: what is said of one client.
use Rattle.std.specs.Prelude.{ℕ}

pub record Row : Type 0 where
  pub client : ℕ
  pub first : ℕ
  pub end : ℕ
  pub blocks : ℕ
