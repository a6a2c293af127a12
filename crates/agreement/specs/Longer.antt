-- The same number in more bytes.
use Rattle.std.specs.Prelude.{ℕ, zero, suc, ◌+◌, List, [], ◌∷◌}

-- in one byte more: the last byte says more, and a zero follows
unfoldable pub longer : List ℕ → List ℕ
longer [] = []
longer (b ∷ []) = (b + 128) ∷ 0 ∷ []
longer (b ∷ c ∷ t) = b ∷ longer (c ∷ t)

-- in j bytes more
unfoldable pub longer_by : ℕ → List ℕ → List ℕ
longer_by zero bs = bs
longer_by (suc j) bs = longer (longer_by j bs)
