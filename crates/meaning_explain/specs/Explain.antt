-- What `explain` tells of a block: while blocks are read, a line for each draw. A line has twelve words: what it was drawn for, its value; the
-- place of its first byte, of a run the run's, and how many bytes it has there; whether it stands in line (0), in a run (1) or without end (2), as
-- which value of how many; base, sign (1 plus, 2 minus) and size of the difference that it is; the place and the length of the bytes that it leads
-- to.
use Rattle.std.specs.Prelude.{ℕ, ◌-◌, ◌*◌, List, [], ◌∷◌, ◌++◌, ltb, eqb, length, get_or, take}
use Rattle.std.proofs.Math.Option.{some, none}
use Rattle.numbers.specs.Number.{nowhere}
use Rattle.numbers.specs.Number.{none as numbers-none}
use Rattle.text.specs.declared.Part.{Part}
use Rattle.block.specs.declared.Block.{Block}
use Rattle.origins.specs.declared.Line.{Line}
use Rattle.origins.specs.declared.Rise.{Rise}
use Rattle.updates.specs.Promises.{early}
use Rattle.explains.specs.Promises.{Outcome}
use Rattle.explains.specs.Promises as explains
use Rattle.meaning.specs.Reads.{when◌then◌else◌, got, Reads, on}
use Rattle.meaning.specs.Columns.{Coding, numbers, differences, octets, Lane, no_rise, run_of}
use Rattle.meaning.specs.Fields.{Fields, Standing, lane_of, fields}
use Rattle.meaning.specs.Blocks.{no_part, bare, all_blocks}
use Rattle.meaning.specs.Update.{begun, delete_set}
use Rattle.meaning.specs.Reads.{comes_to}
use Rattle.meaning.specs.Columns.{often}

abbrev pub line : ℕ → ℕ → ℕ → ℕ → ℕ → ℕ → ℕ → Rise → Part → Line
line role v place n source which of rise p =
    record { field = role; value = v; stand = record { place = place; bytes = n; source = source; which = which; of = of }; rise = rise; part = p }

abbrev pub still : Rise
still = record { base = 0; sign = 0; size = 0 }

-- ---- the lines of a draw, by where reading stood before it and after it

module _ (form : ℕ) (u : List ℕ) where
  -- how many values the run under way has
  unfoldable pub run_length : Lane → ℕ
  run_length c = comes_to (λ x _. often x.1) (λ _. 0) (run_of c.kind (take c.to u) c.from)

  -- the difference of a column of differences, from the value before
  unfoldable pub rise_of : Coding → ℕ → ℕ → Rise
  rise_of numbers base run = still
  rise_of octets base run = still
  rise_of differences base run =
      when ltb run no_rise then record { base = base; sign = 2; size = no_rise - run } else record { base = base; sign = 1; size = run - no_rise }

  -- a value of column k
  unfoldable pub drawn_line : ℕ → ℕ → ℕ → Part → Standing → Standing → Line
  drawn_line k role v p s t =
      let c = lane_of k t in
      let rise = rise_of c.kind (lane_of k s).last c.run in
      elim c.left [
        | none ↦ line role v c.from (c.at - c.from) 2 0 0 rise p
        | some left ↦ line role v c.from (c.at - c.from) 1 (run_length c - left) (run_length c) rise p
      ]

  -- bytes in line, led by what lies between the place before and their own
  unfoldable pub stored_line : ℕ → ℕ → Part → Standing → Line
  stored_line role v p s = line role v s.at (p.place - s.at) 0 0 0 still p

  unfoldable pub plain_line : ℕ → ℕ → Standing → Standing → Line
  plain_line role v s t = line role v s.at (t.at - s.at) 0 0 0 still no_part

  unfoldable pub number_line : ℕ → ℕ → ℕ × ℕ → Standing → Standing → List Line
  number_line k role a s t = (when eqb form 1 then plain_line role a.0 s t else drawn_line k role a.0 no_part s t) ∷ []

  unfoldable pub text_line : ℕ → Part × ℕ → Standing → Standing → List Line
  text_line role a s t = (when eqb form 1 then stored_line role a.1 a.0 s else drawn_line 5 role a.1 a.0 s t) ∷ []

  unfoldable pub bytes_line : ℕ → Part → Standing → Standing → List Line
  bytes_line role p s t = stored_line role p.bytes.0 p s ∷ []

  -- a key's number, and behind it the text of a key that is new (27)
  unfoldable pub key_lines : ℕ → Part → Standing → Standing → List Line
  key_lines role p s t =
      when eqb form 1 then bytes_line role p s t
      else drawn_line 0 role (lane_of 0 t).last p s t
      ∷ (when ltb (length s.keys) (length t.keys) then drawn_line 5 27 (lane_of 5 t).last p s t ∷ [] else [])

-- ---- the lines of this section's head, of this block, and of the blocks that were kept

pub record Sheet : Type 0 where
  pub head : List Line
  pub own : List Line
  pub kept : List (List Line × List Line)

abbrev pub sheet : List Line → List Line → List (List Line × List Line) → Sheet
sheet head own kept = record { head = head; own = own; kept = kept }

-- a section begins with its block count (2), and has its client and its first clock (3, 4); a block begins with its info byte (6)
unfoldable pub noted : ℕ → List Line → Sheet → Sheet
noted role ls h =
    when eqb role 2 then sheet ls [] h.kept
    else when ltb role 5 then sheet (h.head ++ ls) [] h.kept
    else when eqb role 6 then sheet h.head ls h.kept
    else sheet h.head (h.own ++ ls) h.kept

unfoldable pub told : {A : Type 0} → (ℕ → A → Standing → Standing → List Line) → (ℕ → Reads Standing A)
    → ℕ → Reads (Standing × Sheet) A
told lines m role x = on (m role x.0) λ a t. got a (t, noted role (lines role a x.0 t) x.1)

unfoldable pub telling : ℕ → List ℕ → Fields (Standing × Sheet)
telling form u =
    let F = fields form u in
    record {
      number = λ role most. told (λ r a s t. plain_line form u r a.0 s t ∷ []) (λ r. F.number r most) role;
      client = told (number_line form u 1) F.client;
      left_clock = told (number_line form u 2) F.left_clock;
      right_clock = told (number_line form u 3) F.right_clock;
      info = told (number_line form u 4) F.info;
      parent_info = told (number_line form u 6) F.parent_info;
      type_number = told (number_line form u 7) F.type_number;
      len = told (number_line form u 8) F.len;
      text = told (text_line form u) F.text;
      bytes = told (bytes_line form u) F.bytes;
      key = told (key_lines form u) F.key;
      value = λ role blame. told (bytes_line form u) (λ r. F.value r blame) role;
      values = λ role blame n. told (bytes_line form u) (λ r. F.values r blame n) role;
      kept = λ x. got tt (x.0, sheet x.1.head x.1.own (x.1.kept ++ ((x.1.head, x.1.own) ∷ [])));
    }

-- ---- the lines of block n, which is what they were read as

-- the value of the first line for something
unfoldable pub value_for : ℕ → List Line → ℕ
value_for role [] = 0
value_for role (l ∷ ls) = when eqb l.field role then l.value else value_for role ls

-- its own clock (5) is not drawn: it is the first clock and the lengths before it
unfoldable pub lines_about : Block → List Line × List Line → List Line
lines_about b x =
    let first = value_for 4 x.0 in
    x.0 ++ (line 5 b.clock 0 0 0 0 0 (record { base = first; sign = 1; size = b.clock - first }) no_part ∷ x.1)

-- the whole update is read; 11 where there is no such block, 10 where its lines find no room
unfoldable pub fitting : ℕ → ℕ → List Block → List (List Line × List Line) → Outcome
fitting n room bs kept =
    let ls = lines_about (get_or bs n (bare 0 0 0 0)) (get_or kept n ([], [])) in
    when ltb n (length bs) then (when ltb room (12 * length ls) then explains.refused (nowhere 10) else record { why = numbers-none; lines = ls })
    else explains.refused (nowhere 11)

unfoldable pub explain_of : ℕ → List ℕ → ℕ → ℕ → Outcome
explain_of form u n room =
    when eqb (early form u) 0 then comes_to (λ bs kept. fitting n room bs kept) explains.refused
    (on (begun form u) λ _ s. on (all_blocks (telling form u) 65535 (s, sheet [] [] [])) λ bs x.
    on (delete_set form u (length u) x.0.at) λ _ _. got bs x.1.kept)
    else explains.refused (nowhere (early form u))
