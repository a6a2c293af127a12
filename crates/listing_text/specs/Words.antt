-- The words of a listing, as ASCII bytes.
use Rattle.std.specs.Prelude.{ℕ, List, [], ◌∷◌}

-- `update form `
abbrev pub word_form : List ℕ
word_form = 117 ∷ 112 ∷ 100 ∷ 97 ∷ 116 ∷ 101 ∷ 32 ∷ 102 ∷ 111 ∷ 114 ∷ 109 ∷ 32 ∷ []

-- `blocks `
abbrev pub word_blocks : List ℕ
word_blocks = 98 ∷ 108 ∷ 111 ∷ 99 ∷ 107 ∷ 115 ∷ 32 ∷ []

-- `ranges `
abbrev pub word_ranges : List ℕ
word_ranges = 114 ∷ 97 ∷ 110 ∷ 103 ∷ 101 ∷ 115 ∷ 32 ∷ []

-- `refused `
abbrev pub word_refused : List ℕ
word_refused = 114 ∷ 101 ∷ 102 ∷ 117 ∷ 115 ∷ 101 ∷ 100 ∷ 32 ∷ []

-- `at `
abbrev pub word_at : List ℕ
word_at = 97 ∷ 116 ∷ 32 ∷ []

-- `empty`
abbrev pub word_empty : List ℕ
word_empty = 101 ∷ 109 ∷ 112 ∷ 116 ∷ 121 ∷ []

-- `end`
abbrev pub word_end : List ℕ
word_end = 101 ∷ 110 ∷ 100 ∷ []

-- `gc`
abbrev pub word_gc : List ℕ
word_gc = 103 ∷ 99 ∷ []

-- `skip`
abbrev pub word_skip : List ℕ
word_skip = 115 ∷ 107 ∷ 105 ∷ 112 ∷ []

-- `deleted`
abbrev pub word_deleted : List ℕ
word_deleted = 100 ∷ 101 ∷ 108 ∷ 101 ∷ 116 ∷ 101 ∷ 100 ∷ []

-- `binary`
abbrev pub word_binary : List ℕ
word_binary = 98 ∷ 105 ∷ 110 ∷ 97 ∷ 114 ∷ 121 ∷ []

-- `text`
abbrev pub word_text : List ℕ
word_text = 116 ∷ 101 ∷ 120 ∷ 116 ∷ []

-- `format`
abbrev pub word_format : List ℕ
word_format = 102 ∷ 111 ∷ 114 ∷ 109 ∷ 97 ∷ 116 ∷ []

-- `type`
abbrev pub word_type : List ℕ
word_type = 116 ∷ 121 ∷ 112 ∷ 101 ∷ []

-- `any`
abbrev pub word_any : List ℕ
word_any = 97 ∷ 110 ∷ 121 ∷ []
