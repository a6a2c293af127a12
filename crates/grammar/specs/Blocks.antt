-- The blocks of an update, in document 01's words.
use Rattle.std.specs.Prelude.{ℕ, zero, suc, ◌+◌, ◌-◌, ◌%◌, Bool, false, List, [], ◌∷◌, ◌++◌, ltb, eqb}
use Rattle.numbers.specs.Number.{pick}
use Rattle.numbers.specs.Words.{among}
use Rattle.numbers.specs.Limits.{max_clock, max_clients, max_blocks}
use Rattle.block.specs.declared.Id.{Id}
use Rattle.block.specs.declared.Block.{Block}
use Rattle.block.specs.Row.{no_part}
use Rattle.block.specs.Rows.{plain, with_left, with_right, with_parent, with_name, with_key, with_mark, with_type, with_content}
use Rattle.block.specs.Kinds.{GC, SKIP, DELETED, BINARY, TEXT, FORMAT, TYPE, ANY, is_item, max_type, is_named}
use Rattle.grammar.specs.Grammar as fields
use Rattle.grammar.specs.Grammar.{Number, up_to, client, left_clock, right_clock, info, parent_info, len, type_number, number, text, bytes, value, values, Grammar, emit, stop, done, draw}
use Rattle.grammar.specs.Grammar.{◌>>=◌}

-- ---- a block, and the place of its info byte; nothing of it is kept yet

module _ {E : Type 0} where
  -- an id: client, then clock
  unfoldable pub an_id : Number → Grammar E Id
  an_id clock = do
    (c, _) ← draw (number client)
    (k, _) ← draw (number clock)
    done (record { client = c; clock = k })

  unfoldable pub left : ℕ → Block → Grammar E Block
  left i b = pick (ltb i 128) (done b) (an_id left_clock >>= λ id. done (with_left id b))

  unfoldable pub right : ℕ → Block → Grammar E Block
  right i b = pick (ltb (i % 128) 64) (done b) (an_id right_clock >>= λ id. done (with_right id b))

  -- a parent info of 1: a name; otherwise an id, read as a left id
  unfoldable pub parent_after : Block → ℕ → Grammar E Block
  parent_after b v = pick (eqb v 1) (draw text >>= λ (p, _). done (with_name p b)) (an_id left_clock >>= λ id. done (with_parent id b))

  unfoldable pub parent : Block → Grammar E Block
  parent b = draw (number parent_info) >>= λ (v, _). parent_after b v

  unfoldable pub key : ℕ → Block → Grammar E Block
  key i b = pick (ltb i 32) (done b) (draw text >>= λ (p, _). done (with_key p b))

  -- with a left or a right id, neither parent nor key is spelled
  unfoldable pub place : ℕ → Block → Grammar E Block
  place i b = pick (ltb i 64) (parent b >>= key i) (left i b >>= right i)

  unfoldable pub deleted : Block → Grammar E Block
  deleted b = draw (number len) >>= λ (v, _). done (with_content DELETED (record { 0 = v }) no_part b)

  unfoldable pub binary : Block → Grammar E Block
  binary b = draw bytes >>= λ p. done (with_content BINARY (record { 0 = 1 }) p b)

  unfoldable pub string : Block → Grammar E Block
  string b = draw text >>= λ (p, n). done (with_content TEXT n p b)

  -- a key and its value
  unfoldable pub format : ℕ → Block → Grammar E Block
  format at b = do
    k ← draw fields.key
    v ← draw (value at)
    done (with_mark k (with_content FORMAT (record { 0 = 1 }) v b))

  -- the node name, if the type has one
  unfoldable pub node : ℕ → Block → Grammar E Block
  node n b = pick (is_named n) (draw fields.key >>= λ k. done (with_mark k b)) (done b)

  unfoldable pub type : ℕ → Block → Grammar E Block
  type at b = do
    (n, _) ← draw (number type_number)
    pick (ltb max_type n) (stop 5 at) (node n (with_type n (with_content TYPE (record { 0 = 1 }) no_part b)))

  -- a list of plain values
  unfoldable pub any_list : ℕ → Block → Grammar E Block
  any_list at b = do
    (n, _) ← draw (number len)
    v ← draw (values at n)
    done (with_content ANY (record { 0 = n }) v b)

  -- deleted (1) is a length field, binary (3) length and bytes in line, string (4) a text, format (6) a key and a value, type (7) its number, and a
  -- node name if it has one, any (8) a length field and so many values; all else is refused with 5, at the info byte
  unfoldable pub content_of : ℕ → ℕ → Block → Grammar E Block
  content_of n at b =
      pick (eqb n 1) (deleted b)
      (pick (eqb n 3) (binary b)
      (pick (eqb n 4) (string b) (pick (eqb n 6) (format at b) (pick (eqb n 7) (type at b) (pick (eqb n 8) (any_list at b) (stop 5 at))))))

  -- by the low five bits of the info byte
  unfoldable pub content : ℕ → ℕ → Block → Grammar E Block
  content i at b = content_of (i % 32) at b

  unfoldable pub an_item : ℕ → ℕ → Block → Grammar E Block
  an_item i at b = place i b >>= content i at

  -- a Skip or a GC, with its length
  unfoldable pub bare : ℕ → ℕ → ℕ → Number → Grammar E Block
  bare c clock kind n = draw (number n) >>= λ (v, _). done (plain c clock v kind)

  -- exactly 10 is Skip, its length in line; exactly 0 is GC, a length field; all else an item
  unfoldable pub body : ℕ → ℕ → ℕ → ℕ → Grammar E Block
  body c clock i at = pick (eqb i 10) (bare c clock SKIP (up_to max_clock)) (pick (eqb i 0) (bare c clock GC len) (an_item i at (plain c clock 0 0)))

  unfoldable pub block : ℕ → ℕ → Grammar E (Block × ℕ)
  block c clock = do
    (i, at) ← draw (number info)
    b ← body c clock i at
    done (b, at)

-- ---- blocks and sections

-- an item of length 0 is dropped; GC and Skip of length 0 are kept
unfoldable pub dropped : Block → Bool
dropped b = pick (eqb b.length.0 0) (is_item b.kind) false

unfoldable pub unless_dropped : Block → ℕ → Grammar Block (Unit {0}) → Grammar Block (Unit {0})
unless_dropped b at then = pick (dropped b) then (emit b at then)

-- k blocks, each starting where the one before ended; an end is a clock
unfoldable pub blocks : ℕ → ℕ → ℕ → Grammar Block (Unit {0})
blocks zero c clock = done tt
blocks (suc k) c clock = do
  (b, at) ← block c clock
  pick (ltb max_clock (clock + b.length.0)) (stop 3 at) (unless_dropped b at (blocks k c (clock + b.length.0)))

-- n sections: block count, client, first clock, blocks; `room` blocks may still be announced, and a client that was seen is refused with 4
unfoldable pub sections : ℕ → List ℕ → ℕ → Grammar Block (Unit {0})
sections zero seen room = done tt
sections (suc n) seen room = do
  (k, _) ← draw (number (up_to room))
  (c, at) ← draw (number client)
  pick (among c seen) (stop 4 at) (do
    (clock, _) ← draw (number (up_to max_clock))
    _ ← blocks k c clock
    sections n (seen ++ (c ∷ [])) (room - k))

unfoldable pub all_blocks : Grammar Block (Unit {0})
all_blocks = draw (number (up_to max_clients)) >>= λ (n, _). sections n [] max_blocks
