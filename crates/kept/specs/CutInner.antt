-- Beside Cut: what inner functions say and proofs need. No promise comes to it.
use Rattle.block.specs.declared.Id.{Id}
use Rattle.kept.specs.Kept.{Piece}
use Rattle.kept.specs.Cut.{left_of}

-- ---- a piece

abbrev pub id_before : Piece → Id
id_before p = left_of p.row p.from
