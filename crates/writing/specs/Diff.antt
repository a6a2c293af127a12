-- The diff of blocks and ranges that were read, against the entries of a vector, in a form: its bytes, and why there is none.
use Rattle.std.specs.Prelude.{ℕ, Bool, false, List, eqb}
use Rattle.numbers.specs.Number.{pick}
use Rattle.block.specs.declared.Block.{Block}
use Rattle.ranges.specs.Ranges.{Range}
use Rattle.vector.specs.Vector.{Entry}
use Rattle.tokens.specs.Tokens.{Token}
use Rattle.tokens.specs.Keys.{many_keys}
use Rattle.tokens.specs.Bytes.{bytes_of, near}
use Rattle.kept.specs.Kept.{Section, sections_of}
use Rattle.kept.specs.Cut.{any_torn, any_format}
use Rattle.records.specs.Records.{update_tokens}

-- the sections kept, and the whole delete set
unfoldable pub diff_tokens : ℕ → List ℕ → List Entry → List Block → List Range → List Token
diff_tokens form u v bs rs = update_tokens form u (sections_of v bs) rs

unfoldable pub diff_bytes : ℕ → List ℕ → List Entry → List Block → List Range → List ℕ
diff_bytes form u v bs rs = bytes_of form (diff_tokens form u v bs rs)

-- a format is kept that the other form has otherwise
unfoldable pub turned_format : ℕ → ℕ → List Section → Bool
turned_format from form ss = pick (eqb from form) false (any_format ss)

-- 3 where form 2 would have too many keys, 9 where it would cut inside a pair, 19 where a format of form `from` would change its form, 13 where form
-- 2 needs a difference that it cannot spell
unfoldable pub diff_why : ℕ → ℕ → List ℕ → List Entry → List Block → List Range → ℕ
diff_why from form u v bs rs =
    pick (many_keys form (diff_tokens form u v bs rs)) 3
    (pick (any_torn u (sections_of v bs)) 9
    (pick (turned_format from form (sections_of v bs)) 19 (pick (near form (diff_tokens form u v bs rs)) 0 13)))
