-- What a line's last word says of lent words.
use Rattle.std.specs.Prelude.{ℕ, Bool, List, ◌==◌, drop}
use Rattle.std.specs.List.{list_all}

-- whether all words behind the first so many are zero
abbrev pub are_zero_behind : ℕ → List ℕ → Bool
are_zero_behind filled lent = list_all (λ it. it == 0) (drop filled lent)
