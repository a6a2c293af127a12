-- The blocks of an update, in document 01's words, over whatever reads their fields.
use Rattle.std.specs.Prelude.{ℕ, zero, suc, ◌+◌, ◌-◌, ◌%◌, Bool, true, false, ◌&&◌, ◌||◌, List, [], ◌∷◌, ◌++◌, ltb, leb, eqb, length}
use Rattle.std.proofs.Math.Option.{Option, some, none}
use Rattle.text.specs.declared.Part.{Part}
use Rattle.block.specs.declared.Id.{Id}
use Rattle.block.specs.declared.Block.{Block}
use Rattle.meaning.specs.Reads.{when◌then◌else◌, Reads, ◌>>=◌, done, refuse}
use Rattle.meaning.specs.Line.{part}
use Rattle.meaning.specs.Fields.{Fields}

abbrev pub no_part : Part
no_part = part 0 0

abbrev pub is_there : {A : Type 0} → Option A → Bool
is_there o = elim o [ none ↦ false | some a ↦ true ]

abbrev pub id_of : Option Id → Id
id_of o = elim o [ none ↦ record { client = 0; clock = 0 } | some i ↦ i ]

abbrev pub part_of : Option Part → Part
part_of o = elim o [ none ↦ no_part | some p ↦ p ]

-- a row: client, clock, length and kind (1 GC, 2 Skip, 3 deleted, 4 binary, 5 text, 6 format, 7 type, 8 any); left id, right id, parent by its id,
-- by its name, and key, zeros where they are not there; stored part, mark and type number
unfoldable pub row : ℕ → ℕ → ℕ → ℕ → Option Id → Option Id → Option Id → Option Part → Option Part → Part → Part → ℕ → Block
row client clock n kind left right parent name key part mark type =
    record {
      client = client;
      clock = clock;
      length = record { 0 = n };
      kind = kind;
      has_left = is_there left;
      left_client = (id_of left).client;
      left_clock = (id_of left).clock;
      has_right = is_there right;
      right_client = (id_of right).client;
      right_clock = (id_of right).clock;
      has_parent = is_there parent;
      parent_client = (id_of parent).client;
      parent_clock = (id_of parent).clock;
      has_name = is_there name;
      name = part_of name;
      has_key = is_there key;
      key = part_of key;
      part = part;
      mark = mark;
      type_number = type;
    }

-- a row that holds nothing
abbrev pub bare : ℕ → ℕ → ℕ → ℕ → Block
bare client clock kind n = row client clock n kind none none none none none no_part no_part 0

-- the row that has no block
abbrev pub no_block : Block
no_block = bare 0 0 0 0

unfoldable pub optional : {S A : Type 0} → Bool → Reads S A → Reads S (Option A)
optional b m = when b then (m >>= λ a. done (some a)) else done none

module _ {S : Type 0} (F : Fields S) where
  unfoldable pub an_id : Reads S (ℕ × ℕ) → Reads S (ℕ × ℕ) → Reads S Id
  an_id client clock = do
    (c, _) ← client
    (k, _) ← clock
    done (record { client = c; clock = k })

  -- by its name after a parent info of 1, otherwise by its id, read as a left id
  unfoldable pub parent : Reads S (Option Id × Option Part)
  parent = do
    (v, _) ← F.parent_info 13
    when eqb v 1 then (F.text 14 >>= λ (p, _). done (none, some p)) else (an_id (F.client 15) (F.left_clock 16) >>= λ i. done (some i, none))

  -- a type's number, and its node name, which an XML element (3) and an XML hook (5) have; over 6 it is 5, at the info byte
  unfoldable pub type : ℕ → Reads S (ℕ × Part)
  type at = do
    (t, _) ← F.type_number 23
    name ← when ltb 6 t then refuse 5 at else when eqb t 3 || eqb t 5 then F.key 24 else done no_part
    done (t, name)

  -- what an item holds, by its content number: kind, length, stored part, mark and type number; all else is 5, at the info byte
  unfoldable pub content : ℕ → ℕ → Reads S (ℕ × ℕ × Part × Part × ℕ)
  content number at =
      when eqb number 1 then (F.len 18 >>= λ (n, _). done (3, n, no_part, no_part, 0)) else
      when eqb number 3 then (F.bytes 19 >>= λ p. done (4, 1, p, no_part, 0)) else
      when eqb number 4 then (F.text 20 >>= λ (p, n). done (5, n, p, no_part, 0)) else
      when eqb number 6 then (do k ← F.key 21; v ← F.value 22 at; done (6, 1, v, k, 0)) else
      when eqb number 7 then (type at >>= λ (t, name). done (7, 1, no_part, name, t)) else
      when eqb number 8 then (do (n, _) ← F.len 25; v ← F.values 26 at n; done (8, n, v, no_part, 0)) else refuse 5 at

  -- by its info byte: left id, right id, content number; without either id a parent, and then perhaps a key
  unfoldable pub item : ℕ → ℕ → ℕ → ℕ → Reads S Block
  item c clock i at = do
    left ← optional (leb 128 i) (an_id (F.client 9) (F.left_clock 10))
    right ← optional (leb 64 (i % 128)) (an_id (F.client 11) (F.right_clock 12))
    (above, name) ← when ltb i 64 then parent else done (none, none)
    key ← optional (ltb i 64 && leb 32 i) (F.text 17 >>= λ (p, _). done p)
    (kind, n, p, mark, t) ← content (i % 32) at
    done (row c clock n kind left right above name key p mark t)

  -- exactly 10 is a Skip, its length in line; exactly 0 a GC
  unfoldable pub body : ℕ → ℕ → ℕ → ℕ → Reads S Block
  body c clock i at =
      when eqb i 10 then (F.number 7 2147483647 >>= λ (n, _). done (bare c clock 2 n))
      else when eqb i 0 then (F.len 8 >>= λ (n, _). done (bare c clock 1 n)) else item c clock i at

  -- k blocks, each starting where the one before ended, with so many rows lent: an end is a clock, an item of length 0 is dropped, no row left is 8
  unfoldable pub blocks : ℕ → ℕ → ℕ → ℕ → Reads S (List Block)
  blocks zero c clock rows = done []
  blocks (suc k) c clock rows = do
    (i, at) ← F.info 6
    b ← body c clock i at
    let n = b.length.0
    when ltb 2147483647 (clock + n) then refuse 3 at else
        when eqb n 0 && ltb 2 b.kind then blocks k c (clock + n) rows else
        when eqb rows 0 then refuse 8 at else (do _ ← F.kept; bs ← blocks k c (clock + n) (rows - 1); done (b ∷ bs))

  -- n sections: block count, client, first clock, blocks; `room` blocks may still be announced, and a client that was seen is 4
  unfoldable pub sections : ℕ → (ℕ → Bool) → ℕ → ℕ → Reads S (List Block)
  sections zero seen room rows = done []
  sections (suc n) seen room rows = do
    (k, _) ← F.number 2 room
    (c, at) ← F.client 3
    (clock, _) ← when seen c then refuse 4 at else F.number 4 2147483647
    bs ← blocks k c clock rows
    more ← sections n (λ d. eqb c d || seen d) (room - k) (rows - length bs)
    done (bs ++ more)

  -- at most 64 sections, and 65,535 blocks announced
  unfoldable pub all_blocks : ℕ → Reads S (List Block)
  all_blocks rows = F.number 1 64 >>= λ (n, _). sections n (λ _. false) 65535 rows
