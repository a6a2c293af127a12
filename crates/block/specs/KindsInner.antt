-- Beside Kinds: what inner functions say and proofs need. No promise comes to it.
use Rattle.std.specs.Prelude.{ℕ, Bool, cond, ◌||◌, ◌&&◌}
use Rattle.block.specs.Kinds.{is_any, is_binary, is_deleted, is_format, is_gc, is_item, is_named, is_skip, is_text, is_type}

-- ---- what a kind says

-- a length and nothing else
unfoldable pub is_bare : ℕ → Bool
is_bare kind = is_gc kind || is_skip kind

unfoldable pub is_block : ℕ → Bool
is_block kind = is_bare kind || is_item kind

-- its content is stored as bytes of the update
unfoldable pub has_part : ℕ → Bool
has_part kind = is_binary kind || is_text kind || is_format kind || is_any kind

-- the number of its content in an info byte; 0 is no content's
unfoldable pub content_number : ℕ → ℕ
content_number kind =
    cond (is_deleted kind) 1
    (cond (is_binary kind) 3 (cond (is_text kind) 4 (cond (is_format kind) 6 (cond (is_type kind) 7 (cond (is_any kind) 8 0)))))

-- ---- types

-- whether a block of this kind and type number has a mark: a format its key, such a type its node name
unfoldable pub is_marked : ℕ → ℕ → Bool
is_marked kind type = is_format kind || (is_type kind && is_named type)
