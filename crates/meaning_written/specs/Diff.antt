-- What a diff is: the blocks that the other side lacks, and the whole delete set, written in either form.
use Rattle.std.specs.Prelude.{ℕ, suc, ◌+◌, ◌-◌, Bool, true, false, ◌&&◌, ◌||◌, List, [], ◌∷◌, ◌++◌, map, ltb, leb, eqb, length, drop}
use Rattle.std.proofs.Math.Option.{Option, some, none}
use Rattle.numbers.specs.Number.{unsigned}
use Rattle.text.specs.declared.Part.{Part}
use Rattle.text.specs.declared.Taken.{Taken}
use Rattle.text.specs.declared.Taken.TheVariants.{Took, Refused}
use Rattle.text.specs.Utf8.{well_formed, take_units}
use Rattle.block.specs.declared.Id.{Id}
use Rattle.block.specs.declared.Block.{Block}
use Rattle.ranges.specs.Ranges.{Range}
use Rattle.readings.specs.Groups.{groups}
use Rattle.vector.specs.Vector.{Entry}
use Rattle.kept.specs.Kept.{remote}
use Rattle.meaning.specs.Reads.{when◌then◌else◌}
use Rattle.meaning.specs.Line.{part, units, bytes_of, values}
use Rattle.meaning.specs.Reads.{comes_to}
use Rattle.meaning.specs.Columns.{Coding, numbers, differences, octets}
use Rattle.meaning.specs.Blocks.{row}
use Rattle.meaning_written.specs.Columns.{every, column, near, rises}

unfoldable pub each : {A B : Type 0} → (A → List B) → List A → List B
each f [] = []
each f (x ∷ xs) = f x ++ each f xs

-- ---- what is kept: of each client blocks, each without so many of its first units

-- Skips and blocks that end at or below what the other side has fall away; the first that does not is cut by it, and all later ones stay
unfoldable pub keep_from : ℕ → List Block → List (Block × ℕ)
keep_from k [] = []
keep_from k (b ∷ bs) =
    when eqb b.kind 2 || leb (b.clock + b.length.0) k then keep_from k bs else (b, k - b.clock) ∷ map (λ (b : Block). (b, 0)) bs

-- a section is a client and what is kept of it; highest client first, and none with nothing kept
unfoldable pub insert_section : ℕ → List (Block × ℕ) → List (ℕ × List (Block × ℕ)) → List (ℕ × List (Block × ℕ))
insert_section c [] ss = ss
insert_section c (p ∷ ps) [] = (c, p ∷ ps) ∷ []
insert_section c (p ∷ ps) (s ∷ ss) = when ltb c s.0 then s ∷ insert_section c (p ∷ ps) ss else (c, p ∷ ps) ∷ s ∷ ss

unfoldable pub sections : List Entry → List (List Block) → List (ℕ × List (Block × ℕ))
sections v [] = []
sections v ([] ∷ gs) = sections v gs
sections v ((b ∷ bs) ∷ gs) = insert_section b.client (keep_from (remote v b.client) (b ∷ bs)) (sections v gs)

-- ---- a block that is cut

unfoldable pub given : {A : Type 0} → Bool → A → Option A
given there a = when there then some a else none

abbrev pub is_item : Block → Bool
is_item b = ltb 2 b.kind && ltb b.kind 9

unfoldable pub taken : Taken → ℕ
taken (Took b) = b.0
taken (Refused why) = 0

unfoldable pub broken : Taken → Bool
broken (Took b) = false
broken (Refused why) = true

module _ (u : List ℕ) where
  -- the bytes of so many plain values
  unfoldable pub span : ℕ → ℕ → ℕ
  span at n = comes_to (λ p _. p.bytes.0) (λ _. 0) (values u 0 n at)

  -- what it stores behind k units: a text's characters, a list's values
  unfoldable pub behind : ℕ → Block → Part
  behind k b =
      let t = bytes_of u b.part in
      let text = taken (take_units 9 k t) in
      let list = b.part.place + span b.part.place k in
      when eqb b.kind 5 then part (b.part.place + text) (taken (take_units 9 (b.length.0 - k) (drop text t)))
      else when eqb b.kind 8 then part list (span list (b.length.0 - k)) else b.part

  -- inside a pair: 9
  unfoldable pub torn : Block × ℕ → Bool
  torn p =
      let t = bytes_of u p.0.part in
      let k = p.1 in
      eqb p.0.kind 5 && ltb 0 k && (broken (take_units 9 k t) || broken (take_units 9 (p.0.length.0 - k) (drop (taken (take_units 9 k t)) t)))

  -- an item gets the id before it as its left id, and loses its parent; its key is no longer spelled, but the info byte still says that it had one
  unfoldable pub cut : Block × ℕ → Block
  cut p =
      let b = p.0 in
      let k = p.1 in
      let left : Id = record { client = b.client; clock = b.clock + k - 1 } in
      let right : Id = record { client = b.right_client; clock = b.right_clock } in
      when eqb k 0 then b
      else row b.client (b.clock + k) (b.length.0 - k) b.kind (given (is_item b) left) (given b.has_right right) none none
      (given b.has_key b.key) (behind k b) b.mark b.type_number

-- ---- what is put down, one thing after the other

pub data Put : Type 0 where
  number : ℕ → ℕ → Put  -- of a column, that of form 2, a value
  text : List ℕ → ℕ → Put  -- a text's bytes, and its units
  key : List ℕ → ℕ → Put  -- a key's, which form 2 has by number
  rest : List ℕ → List ℕ → Put  -- what has no column, in form 1, and in form 2

abbrev pub plain : List ℕ → Put
plain b = rest b b

abbrev pub led : List ℕ → List ℕ
led b = unsigned (length b) ++ b

module _ (u : List ℕ) where
  abbrev pub units_in : Part → ℕ
  units_in p = when well_formed (bytes_of u p) then units (bytes_of u p) else 0

  -- left id, right id; without either the parent, by its name or by its id, and a key
  unfoldable pub place : Block → List Put
  place b =
      when b.has_left || b.has_right then
      ((when b.has_left then number 1 b.left_client ∷ number 2 b.left_clock ∷ [] else [])
      ++ (when b.has_right then number 1 b.right_client ∷ number 3 b.right_clock ∷ [] else []))
      else
      ((when b.has_name then number 6 1 ∷ text (bytes_of u b.name) (units_in b.name) ∷ []
      else number 6 0 ∷ number 1 b.parent_client ∷ number 2 b.parent_clock ∷ [])
      ++ (when b.has_key then text (bytes_of u b.key) (units_in b.key) ∷ [] else []))

  -- the number of its content, and what it holds
  unfoldable pub content : Block → ℕ × List Put
  content b =
      let n = b.length.0 in
      let mark = key (bytes_of u b.mark) (units_in b.mark) in
      let stored = bytes_of u b.part in
      when eqb b.kind 3 then (1, number 8 n ∷ []) else
      when eqb b.kind 4 then (3, plain (led stored) ∷ []) else
      when eqb b.kind 5 then (4, text stored n ∷ []) else
      when eqb b.kind 6 then (6, mark ∷ rest (led stored) stored ∷ []) else
      when eqb b.kind 7 then (7, number 7 b.type_number ∷ (when eqb b.type_number 3 || eqb b.type_number 5 then mark ∷ [] else [])) else
      when eqb b.kind 8 then (8, number 8 n ∷ plain stored ∷ []) else (0, [])

  -- a GC is 0 and a length, a Skip 10 and a length in line, an item its info byte, its place and its content
  unfoldable pub block : Block → List Put
  block b =
      let bit : Bool → ℕ → ℕ = λ there n. when there then n else 0 in
      let info = (content b).0 + bit b.has_left 128 + bit b.has_right 64 + bit b.has_key 32 in
      when eqb b.kind 1 then number 4 0 ∷ number 8 b.length.0 ∷ [] else
      when eqb b.kind 2 then number 4 10 ∷ plain (unsigned b.length.0) ∷ [] else
      when is_item b then number 4 info ∷ (place b ++ (content b).1) else []

  -- how many, client, first clock, blocks
  unfoldable pub section : ℕ × List (Block × ℕ) → List Put
  section s =
      let bs = map (cut u) s.1 in
      let first : ℕ = elim s.1 [ [] ↦ 0 | p ∷ ps ↦ p.0.clock + p.1 ] in
      plain (unsigned (length bs)) ∷ number 1 s.0 ∷ plain (unsigned first) ∷ each block bs

-- ---- the delete set, ranges of a client together: form 2 has a clock less the end before it, and a length less one

unfoldable pub range_puts : ℕ → ℕ → List Range → List Put
range_puts form end [] = []
range_puts form end (r ∷ rs) =
    plain (unsigned (when eqb form 1 then r.clock else r.clock - end)) ∷ plain (unsigned (when eqb form 1 then r.len else r.len - 1))
    ∷ range_puts form (r.clock + r.len) rs

unfoldable pub client_puts : ℕ → List Range → List Put
client_puts form [] = []
client_puts form (r ∷ rs) = plain (unsigned r.client) ∷ plain (unsigned (length (r ∷ rs))) ∷ range_puts form 0 (r ∷ rs)

unfoldable pub update : ℕ → List ℕ → List (ℕ × List (Block × ℕ)) → List Range → List Put
update form u ss rs =
    let gs = groups (λ (r : Range). r.client) rs in
    plain (unsigned (length ss)) ∷ (each (section u) ss ++ (plain (unsigned (length gs)) ∷ each (client_puts form) gs))

-- ---- the keys of form 2: one that was put down is its number, any other has the next number, and its text; no more than 256 are remembered

unfoldable pub same : List ℕ → List ℕ → Bool
same [] [] = true
same [] (c ∷ d) = false
same (b ∷ e) [] = false
same (b ∷ e) (c ∷ d) = eqb b c && same e d

unfoldable pub number_of : List ℕ → List (List ℕ) → ℕ
number_of b [] = 0
number_of b (k ∷ ks) = when same b k then 0 else suc (number_of b ks)

unfoldable pub numbered : List (List ℕ) → List Put → List Put
numbered ks [] = []
numbered ks (number k v ∷ ps) = number k v ∷ numbered ks ps
numbered ks (text b n ∷ ps) = text b n ∷ numbered ks ps
numbered ks (rest a b ∷ ps) = rest a b ∷ numbered ks ps
numbered ks (key b n ∷ ps) =
    let i = number_of b ks in
    when ltb i (length ks) then number 0 i ∷ numbered ks ps
    else number 0 i ∷ text b n ∷ numbered (when ltb (length ks) 256 then ks ++ (b ∷ []) else ks) ps

-- one of the keys finds no room
unfoldable pub crowded : List (List ℕ) → List Put → Bool
crowded ks [] = false
crowded ks (number k v ∷ ps) = crowded ks ps
crowded ks (text b n ∷ ps) = crowded ks ps
crowded ks (rest a b ∷ ps) = crowded ks ps
crowded ks (key b n ∷ ps) =
    when ltb (number_of b ks) (length ks) then crowded ks ps else when ltb (length ks) 256 then crowded (ks ++ (b ∷ [])) ps else true

-- ---- the bytes

-- form 1 has all in line, and an info as a byte
unfoldable pub in_line : Put → List ℕ
in_line (number k v) = when eqb k 4 then v ∷ [] else unsigned v
in_line (text b n) = led b
in_line (key b n) = led b
in_line (rest a b) = a

-- the values of a column of form 2, that of texts having their units
unfoldable pub values_in : ℕ → Put → List ℕ
values_in k (number j v) = when eqb k j then v ∷ [] else []
values_in k (text b n) = when eqb k 5 then n ∷ [] else []
values_in k (key b n) = []
values_in k (rest a b) = []

unfoldable pub text_in : Put → List ℕ
text_in (number k v) = []
text_in (text b n) = b
text_in (key b n) = []
text_in (rest a b) = []

unfoldable pub rest_in : Put → List ℕ
rest_in (number k v) = []
rest_in (text b n) = []
rest_in (key b n) = []
rest_in (rest a b) = b

-- a flag byte, nine columns, each led by its length, and the rest
unfoldable pub form2 : List Put → List ℕ
form2 ps =
    let c : Coding → ℕ → List ℕ = λ kind k. led (column kind (each (values_in k) ps)) in
    0 ∷ (c differences 0 ++ (c numbers 1 ++ (c differences 2 ++ (c differences 3 ++ (c octets 4
    ++ (led (led (each text_in ps) ++ column numbers (each (values_in 5) ps)) ++ (c octets 6 ++ (c numbers 7 ++ (c numbers 8 ++ each rest_in ps)))))))))

-- ---- a diff of blocks and ranges, against the entries of a vector, in a form

abbrev pub puts : ℕ → List ℕ → List Entry → List Block → List Range → List Put
puts form u v bs rs = update form u (sections v (groups (λ (b : Block). b.client) bs)) rs

unfoldable pub diff_bytes : ℕ → List ℕ → List Entry → List Block → List Range → List ℕ
diff_bytes form u v bs rs = when eqb form 1 then each in_line (puts form u v bs rs) else form2 (numbered [] (puts form u v bs rs))

unfoldable pub one_of : {A : Type 0} → (A → Bool) → List A → Bool
one_of test [] = false
one_of test (x ∷ xs) = test x || one_of test xs

-- 3 for too many keys, 9 for a cut inside a pair, 19 for a format that would change its form, 13 for a difference that form 2 cannot spell
unfoldable pub diff_why : ℕ → ℕ → List ℕ → List Entry → List Block → List Range → ℕ
diff_why from form u v bs rs =
    let ps = puts form u v bs rs in
    let pieces = each (λ (s : ℕ × List (Block × ℕ)). s.1) (sections v (groups (λ (b : Block). b.client) bs)) in
    let spelled : ℕ → Bool = λ k. every (near differences) (rises 0 (each (values_in k) ps)) in
    when (when eqb form 1 then false else crowded [] ps) then 3
    else when one_of (torn u) pieces then 9
    else when (when eqb from form then false else one_of (λ (p : Block × ℕ). eqb p.0.kind 6) pieces) then 19
    else when eqb form 1 || (spelled 2 && spelled 3) then 0 else 13
