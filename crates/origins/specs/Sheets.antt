-- Lines as the words of a sheet, twelve a line.
use Rattle.std.specs.Prelude.{ℕ, suc, zero, ◌+◌, ◌*◌, ◌<◌, ◌≡◌, List, [], ◌∷◌, length, get_or}
use Rattle.cells.specs.Cells.{part_in}
use Rattle.origins.specs.declared.Line.{Line}

unfoldable pub line_in : List ℕ → ℕ → Line
line_in sh i =
    let word : ℕ → ℕ = λ k. get_or sh (12 * i + k) 0 in
    record {
      field = word 0;
      value = word 1;
      stand = record { place = word 2; bytes = word 3; source = word 4; which = word 5; of = word 6 };
      rise = record { base = word 7; sign = word 8; size = word 9 };
      part = part_in sh (12 * i + 10);
    }

-- n lines from line i on
unfoldable pub lines_from : List ℕ → ℕ → ℕ → List Line
lines_from sh i zero = []
lines_from sh i (suc n) = line_in sh i ∷ lines_from sh (suc i) n

-- only lines from line i on changed
pub record Above (i : ℕ) (sh sh₁ : List ℕ) : Type 0 where
  pub size : length sh₁ ≡ length sh
  pub same : (j : ℕ) → j < i → line_in sh₁ j ≡ line_in sh j
