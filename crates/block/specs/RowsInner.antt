-- Beside Rows: what inner functions say and proofs need. No promise comes to it.
use Rattle.std.specs.Prelude.{ℕ, false}
use Rattle.block.specs.declared.Block.{Block}
use Rattle.block.specs.Row.{no_part}
use Rattle.block.specs.Rows.{head_is, key_is}

-- ---- one of them

abbrev pub of_client : ℕ → Block → Block
of_client c b = head_is c b.clock b.length b.kind b

abbrev pub of_kind : ℕ → Block → Block
of_kind kind b = head_is b.client b.clock b.length kind b

-- ---- there, and not

abbrev pub without_key : Block → Block
without_key b = key_is false no_part b
