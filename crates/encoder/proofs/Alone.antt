-- Rows measured one by one: what the plan of one row names, that a section's count is in no column, and the loop that measures the planned rows.
use Prim.Native.Nat.{ℕ, ◌-◌, ◌*◌, ◌≤◌, ◌<◌}
use mathlib.Core.Path.{◌≡◌, refl, sym, ap, ◌∙◌}
use mathlib.Core.Bool.{Bool, true, false, ◌&&◌}
use mathlib.Core.List.{List, [], ◌∷◌, ◌++◌, append-nil, append_assoc}
use native.Mathlib.Omega.{arith}
use lib.Dec.{eqb}
use lib.ListN.{length, get_or, set}
use borrow.Author.Tests.{lt-ltb, eqb-true}
use Rattle.numbers.specs.Number.{pick}
use Rattle.block.specs.declared.Block.{Block}
use Rattle.block.specs.Row.{no_block}
use Rattle.tokens.specs.Tokens.{Token, var}
use Rattle.tokens.specs.Keys.{numbered, crowded}
use Rattle.tokens.specs.KeysInner.{is_key, keyless, keys_after, spelled, known_after}
use Rattle.tokens.specs.Lanes.{Lane}
use Rattle.tokens.specs.Desk.{put_tokens, known_in, Tidy, Room, WroteKeys, Gauged, Sized}
use Rattle.tokens.proofs.Rooms.{room-same, room-first, room-later, room-is}
use Rattle.tokens.proofs.Sized.{gauged-var, wrote-sized, sized-gauged, sized-none, sized-then, sized-is}
use Rattle.kept.specs.declared.cursor.Cursor.{Cursor}
use Rattle.kept.specs.declared.cursor.Ends.{Ends}
use Rattle.kept.specs.Plan.{nowhere, opened_at, advanced, planned, planned_from, rest_of, sane, onward, stops_of, cut_at}
use Rattle.records.specs.Records.{block_tokens}
use Rattle.sizing.specs.Plain.{plain}
use Rattle.sizing.proofs.Plain.{plain_row, plain-keyless}
use Rattle.records.specs.Stops.{head_tokens, row_tokens, stops_tokens}
use Rattle.encoder.specs.Passes.{planned_tokens}
use Rattle.encoder.specs.Alone.{further_at, one_plan, tokens_at}
use Rattle.encoder.proofs.Cursors.{stops_at, opens, goes, ends}

-- ---- the plan of one row

pub one-row : (u : List ℕ) (rows : List Block) (c : Cursor) → c.row < length rows
    → let b = get_or rows c.row no_block in
    planned_tokens u rows (one_plan c) 1 ≡ row_tokens u (pick (eqb c.head 0) 0 1) (rest_of b c.from.0 c.skip.0) b
unfolding planned_tokens one_plan planned_from planned stops_of onward stops_tokens
one-row u rows c l = go (eqb c.head 0)
  where
    of_head : Bool → List ℕ
    of_head x = 0 ∷ (c.row ∷ (pick x 0 1 ∷ (c.from.0 ∷ (c.skip.0 ∷ []))))

    row : ℕ → List Token
    row n = let b = get_or rows c.row no_block in row_tokens u n (rest_of b c.from.0 c.skip.0) b

    go : (x : Bool) → stops_tokens u rows (length rows) (stops_of rows (planned_from (of_head x) 0 1)) ≡ row (pick x 0 1)
    go true = rw (lt-ltb c.row (length rows) l) (append-nil (row 0))
    go false = rw (lt-ltb c.row (length rows) l) (append-nil (row 1))

-- ---- its words

five : (w : List ℕ) → length w ≡ 5 → (p q r s t : ℕ) → set (set (set (set (set w 0 p) 1 q) 2 r) 3 s) 4 t ≡ p ∷ (q ∷ (r ∷ (s ∷ (t ∷ []))))
five [] h p q r s t = absurd (omega (arith, h))
five (a ∷ []) h p q r s t = absurd (omega (arith, h))
five (a ∷ (b ∷ [])) h p q r s t = absurd (omega (arith, h))
five (a ∷ (b ∷ (c ∷ []))) h p q r s t = absurd (omega (arith, h))
five (a ∷ (b ∷ (c ∷ (d ∷ [])))) h p q r s t = absurd (omega (arith, h))
five (a ∷ (b ∷ (c ∷ (d ∷ (e ∷ []))))) h p q r s t = refl
five (a ∷ (b ∷ (c ∷ (d ∷ (e ∷ (f ∷ l)))))) h p q r s t = absurd (omega (arith, h))

pub one-plan : (w : List ℕ) (c : Cursor) (head : ℕ) → length w ≡ 5 → head ≡ pick (eqb c.head 0) 0 1
    → set (set (set (set (set w 0 0) 1 c.row) 2 head) 3 c.from.0) 4 c.skip.0 ≡ one_plan c
unfolding one_plan
one-plan w c head l h = rw h (five w l 0 c.row (pick (eqb c.head 0) 0 1) c.from.0 c.skip.0)

-- ---- a section's count stands among the rest: no column has it

module _ {u w w₁ : List ℕ} (tidy : Tidy w) where
  behind : (n : ℕ) (ts : List Token) → Sized u (var n ∷ ts) w w₁ → Sized u ts w w₁
  unfolding put_tokens spelled known_after numbered keys_after crowded
  behind n ts s =
      let h = (s 0).1 in
      let g = gauged-var n tidy 0 in
      wrote-sized {out = []} {at = g.0} (record {
        desk = h.desk ∙ ap (λ (es : List Lane). put_tokens es (spelled 2 (known_in u w) ts)) (sym g.1.desk);
        bytes = refl;
        tidy = h.tidy;
        known = h.known;
        crowd = h.crowd;
        aliased = h.aliased;
      })

  any-count : (m n : ℕ) (ts : List Token) → Sized u (var m ∷ ts) w w₁ → Sized u (var n ∷ ts) w w₁
  unfolding keyless is_key
  any-count m n ts s = sized-then (sized-gauged refl (gauged-var n tidy)) (behind m ts s)

  -- so a head that counts one row is measured as any head
  pub any_head : (n : ℕ) (e : Ends) (b : Block) → Sized u (row_tokens u (pick (eqb n 0) 0 1) e b) w w₁ → Sized u (row_tokens u n e b) w w₁
  unfolding row_tokens head_tokens
  any_head n e b s = go (eqb n 0) refl
    where
      headed : (y : Bool) → eqb n 0 ≡ false → Sized u (pick y (head_tokens 1 e.from.0 b ++ block_tokens u (cut_at b e)) []) w w₁
          → Sized u (pick y (head_tokens n e.from.0 b ++ block_tokens u (cut_at b e)) []) w w₁
      headed true h s = rw h (any-count 1 n _ s)
      headed false h s = s

      go : (x : Bool) → eqb n 0 ≡ x → Sized u (row_tokens u n e b) w w₁
      go true h = sized-is (ap (λ (m : ℕ). row_tokens u m e b) (eqb-true n 0 h)) (rw h at s)
      go false h = headed (sane b e) h (rw h at s)

-- nor is it a key: words for a row's keys are there for the plan of it
module _ {w : List ℕ} where
  count_room : (m n : ℕ) (ts : List Token) → Room 2 (var m ∷ ts) w → Room 2 (var n ∷ ts) w
  unfolding keyless is_key
  count_room m n ts r = record { words = r.words }

  head-room : (u : List ℕ) (n : ℕ) (e : Ends) (b : Block) → Room 2 (row_tokens u n e b) w → Room 2 (row_tokens u (pick (eqb n 0) 0 1) e b) w
  unfolding row_tokens head_tokens
  head-room u n e b r = go (eqb n 0) refl
    where
      headed : (y : Bool) → eqb n 0 ≡ false → Room 2 (pick y (head_tokens n e.from.0 b ++ block_tokens u (cut_at b e)) []) w
          → Room 2 (pick y (head_tokens 1 e.from.0 b ++ block_tokens u (cut_at b e)) []) w
      headed true h r = count_room n 1 _ (rw h at r)
      headed false h r = r

      go : (x : Bool) → eqb n 0 ≡ x → Room 2 (row_tokens u (pick (eqb n 0) 0 1) e b) w
      go true h = rw h (room-is (ap (λ (m : ℕ). row_tokens u m e b) (eqb-true n 0 h)) r)
      go false h = rw h (headed (sane b e) h r)

  pub alone-holds : (u : List ℕ) (rows : List Block) (c : Cursor) → c.row < length rows → Room 2 (tokens_at u rows c) w → Room 2 (planned_tokens u rows (one_plan c) 1) w
  unfolding tokens_at
  alone-holds u rows c l r =
      let b = get_or rows c.row no_block in
      room-is (sym (one-row u rows c l)) (head-room u c.head (rest_of b c.from.0 c.skip.0) b r)

pub one-plan-length : (c : Cursor) → length (one_plan c) ≡ 5
unfolding one_plan
one-plan-length c = refl

-- a row that is written nowhere as a plan of its own is measured
pub measured-alone : {u lanes lanes₁ out out₁ : List ℕ} {at at₁ : ℕ} (rows : List Block) (c : Cursor) → Tidy lanes → c.row < length rows
    → WroteKeys u 2 (planned_tokens u rows (one_plan c) 1) out lanes at out₁ lanes₁ at₁ → Sized u (tokens_at u rows c) lanes lanes₁
unfolding tokens_at
measured-alone {u} rows c tidy l h =
    let b = get_or rows c.row no_block in
    any_head tidy c.head (rest_of b c.from.0 c.skip.0) b (sized-is (sym (one-row u rows c l)) (wrote-sized h))

-- ---- a further row is whole, and has no head

and_both : (x y : Bool) → (x && y) ≡ true → (x ≡ true) × (y ≡ true)
and_both true y h = (refl, h)
and_both false y h = absurd (let z : ◌≡◌ {A = ℕ} 0 1 = cc in omega arith)

pub further : (u : List ℕ) (rows : List Block) (c : Cursor) → further_at c ≡ true
    → let b = get_or rows c.row no_block in tokens_at u rows c ≡ row_tokens u 0 (rest_of b 0 0) b
unfolding further_at tokens_at
further u rows c h =
    let p = and_both (eqb c.head 0 && eqb c.from.0 0) _ h in
    let q = and_both (eqb c.head 0) _ p.0 in
    rw (eqb-true c.head 0 q.0, eqb-true c.from.0 0 q.1, eqb-true c.skip.0 0 p.1)

-- one that is plain has no more than its own tokens
pub measured-plain : {u lanes lanes₁ : List ℕ} (rows : List Block) (c : Cursor) → further_at c ≡ true → plain (get_or rows c.row no_block) ≡ true
    → Gauged (pick (plain (get_or rows c.row no_block)) (block_tokens u (get_or rows c.row no_block)) []) lanes lanes₁ → Sized u (tokens_at u rows c) lanes lanes₁
measured-plain {u} rows c f p g =
    let b = get_or rows c.row no_block in
    sized-is (further u rows c f ∙ plain_row b u p) (sized-gauged (plain-keyless b u p) (rw p at g))

-- of any other nothing is measured before it is written
pub not_plain : {u lanes lanes₁ : List ℕ} (b : Block) → plain b ≡ false → Gauged (pick (plain b) (block_tokens u b) []) lanes lanes₁ → Sized u [] lanes lanes₁
unfolding keyless
not_plain b p g = sized-gauged refl (rw p at g)

-- ---- the loop: what is measured and what is before the cursor make up the plan

module _ (lanes₀ : List ℕ) (u : List ℕ) (rows : List Block) (w : List ℕ) (n : ℕ) where
  abbrev before : Cursor → List Token
  before c = stops_tokens u rows (length rows) (stops_at rows w n c)

  pub record Measuring (c : Cursor) (lanes : List ℕ) : Type 0 where
    pub done : List Token
    pub sized : Sized u done lanes₀ lanes
    pub all : done ++ before c ≡ planned_tokens u rows w n

  module _ (most : length rows ≤ nowhere) (room : 5 * n ≤ length w) where
    pub measure-begins : Tidy lanes₀ → Measuring (opened_at w n 0) lanes₀
    unfolding planned_tokens
    measure-begins tidy =
        let q : n - 0 ≡ n = omega arith in
        record {
          done = [];
          sized = sized-none tidy;
          all = opens u rows (length rows) most w n 0 room ∙ ap (λ (m : ℕ). stops_tokens u rows (length rows) (stops_of rows (planned_from w 0 m))) q;
        }

    -- words for keys, where the next row has one
    pub measure-holds : (c : Cursor) (lanes : List ℕ) → Measuring c lanes → c.row < length rows → length lanes ≡ length lanes₀
        → Room 2 (planned_tokens u rows w n) lanes₀ → Room 2 (tokens_at u rows c) lanes
    unfolding tokens_at
    measure-holds c lanes g l s r =
        room-same s
        (room-first (tokens_at u rows c) (before (advanced w n c))
        (room-later g.done (tokens_at u rows c ++ before (advanced w n c))
        (room-is (sym g.all ∙ ap (λ (ts : List Token). g.done ++ ts) (goes u rows (length rows) most w n c room l)) r)))

    pub measure-turns : (c : Cursor) (lanes : List ℕ) → Measuring c lanes → c.row < length rows → (lanes₁ : List ℕ) → Sized u (tokens_at u rows c) lanes lanes₁
        → Measuring (advanced w n c) lanes₁
    unfolding tokens_at
    measure-turns c lanes g l lanes₁ more = record {
      done = g.done ++ tokens_at u rows c;
      sized = sized-then g.sized more;
      all =
          append_assoc g.done (tokens_at u rows c) (before (advanced w n c))
          ∙ ap (λ (ts : List Token). g.done ++ ts) (sym (goes u rows (length rows) most w n c room l)) ∙ g.all;
    }

    pub all-measured : (c : Cursor) (lanes : List ℕ) → Measuring c lanes → length rows ≤ c.row → Sized u (planned_tokens u rows w n) lanes₀ lanes
    all-measured c lanes g l =
        sized-is (sym g.all ∙ ap (λ (ts : List Token). g.done ++ ts) (ends u rows (length rows) most w n c l) ∙ append-nil g.done) g.sized
