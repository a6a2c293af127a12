-- What is written is read again, and what is read is what would be written: a summary has one spelling.
use Prim.Native.Nat.{ℕ, zero, suc, ◌+◌, ◌-◌, ◌*◌, ◌/◌, ◌^◌, ◌≤◌, ◌<◌}
use mathlib.Core.Path.{◌≡◌, refl, sym, ap, ap₂, ◌∙◌, subst}
use mathlib.Core.Bool.{Bool, true, false, ◌&&◌}
use mathlib.Core.List.{List, [], ◌∷◌, ◌++◌, append_assoc, append-nil}
use native.Mathlib.Omega.{arith}
use lib.Dec.{ltb, eqb}
use lib.ListN.{length, drop, replicate, length-append, take-append-drop}
use lib.Seq.{drop_at}
use lib.Pow.{are_bytes}
use borrow.Author.Tests.{lt-ltb, le-ltb, ltb-true, ltb-false, ne_eqb, eqb-true, eqb-false}
use Rattle.numbers.specs.Number.{pick}
use Rattle.bits.specs.Bits.{in_bits, value_of, of_bytes}
use Rattle.bits.proofs.Laws.{number-none, number_lt, length-in-bits}
use Rattle.bits.proofs.Inverse.{number-back, bits_back, zeros-are, filling, packed-back, filling-short, length-packed, packed-of, number-zeros}
use Rattle.summary.specs.Rows.{Row}
use Rattle.summary.specs.RowsInner.{Fits, AllFit}
use Rattle.summary.specs.Summary.{Version, one, row_bits, rows_bits, summary_bits, summary_of, RowsFound, read, refused, field, a_row, legal, filled, rows_after, after_version, read_of}
use Rattle.summary.specs.Words.{summary_row}
use Rattle.summary.proofs.Laws.{length-row-bits}
use Rattle.summary.proofs.Taking.{field-got}

-- ---- how long it is

pub length-rows-bits : (rows : List Row) → length (rows_bits rows) ≡ 131 * length rows
unfolding rows_bits
length-rows-bits [] = refl
length-rows-bits (r ∷ rows) = length-append (row_bits r) (rows_bits rows) ∙ omega (arith, length-row-bits r, length-rows-bits rows)

pub length-summary : (v : Version) (rows : List Row) → length (summary_of v rows) ≡ (4 + v.bits + 131 * length rows + 7) / 8
unfolding summary_of summary_bits
length-summary v rows =
    length-packed (summary_bits v rows)
    ∙ ap (λ (n : ℕ). (n + 7) / 8) (length-append (in_bits 4 v.number) (in_bits v.bits (length rows) ++ rows_bits rows)
    ∙ simp (length-append, length-in-bits, length-rows-bits) (omega arith))

-- none makes 2 bytes, one 18, 64 make 1,050
pub none-makes-2 : (rows : List Row) → length rows ≡ 0 → length (summary_of one rows) ≡ 2
none-makes-2 rows e = length-summary one rows ∙ rw e

pub one-makes-18 : (rows : List Row) → length rows ≡ 1 → length (summary_of one rows) ≡ 18
one-makes-18 rows e = length-summary one rows ∙ rw e

pub most-make-1050 : (rows : List Row) → length rows ≡ 64 → length (summary_of one rows) ≡ 1050
most-make-1050 rows e = length-summary one rows ∙ rw e

-- ---- written and read

field_back : (k x : ℕ) (t : List Bool) (then : ℕ → List Bool → RowsFound) → x < 2 ^ k → field k (in_bits k x ++ t) then ≡ then x t
field_back k x t then h =
    field-got k (in_bits k x ++ t) then (rw (length-append (in_bits k x) t, length-in-bits k x) (omega arith))
    ∙ ap₂ then (number-back k x t h) (drop_at (in_bits k x) t k (length-in-bits k x))

row_back : (r : Row) (t : List Bool) (then : Row → List Bool → RowsFound) → Fits r → a_row (row_bits r ++ t) then ≡ then r t
unfolding row_bits a_row
row_back r t then f =
    rw (
      append_assoc (in_bits 53 r.client) (in_bits 31 r.first ++ (in_bits 31 r.end ++ in_bits 16 r.blocks)) t,
      append_assoc (in_bits 31 r.first) (in_bits 31 r.end ++ in_bits 16 r.blocks) t,
      append_assoc (in_bits 31 r.end) (in_bits 16 r.blocks) t,
    )
    (field_back 53 r.client _ _ f.client ∙ field_back 31 r.first _ _ f.first ∙ field_back 31 r.end _ _ f.end ∙ field_back 16 r.blocks t _ f.blocks)

rows_back : (rows : List Row) (room : ℕ) (seen : List Row) (t : List Bool) → AllFit rows → length rows ≤ room
    → rows_after (length rows) room seen (rows_bits rows ++ t) ≡ pick (legal (seen ++ rows) && filled t) (read (seen ++ rows)) (refused 17)
unfolding rows_after rows_bits
rows_back [] room seen t f h = ap (λ (l : List Row). pick (legal l && filled t) (read l) (refused 17)) (sym (append-nil seen))
rows_back (r ∷ rows) room seen t f h =
    rw (append_assoc (row_bits r) (rows_bits rows) t)
    (row_back r (rows_bits rows ++ t) _ f.0
    ∙ rw (ne_eqb room 0 (λ e. omega (arith, h, e))) (rows_back rows (room - 1) (seen ++ (r ∷ [])) t f.1 (omega (arith, h)) ∙ rw (append_assoc seen (r ∷ []) rows)))

filling-fills : (b : List Bool) → filled (filling b) ≡ true
unfolding filled
filling-fills b = rw (lt-ltb (length (filling b)) 8 (filling-short b), number-zeros (length (filling b)) (8 * ((length b + 7) / 8) - length b) [], number-none (length (filling b)))

-- of any version: what stands behind its number
pub behind-back : (v : Version) (rows : List Row) (room : ℕ) (t : List Bool) → AllFit rows → legal rows ≡ true → length rows ≤ v.most → length rows < 2 ^ v.bits → length rows ≤ room
    → filled t ≡ true → after_version v room (in_bits v.bits (length rows) ++ (rows_bits rows ++ t)) ≡ read rows
unfolding after_version
behind-back v rows room t f g m w h z =
    field_back v.bits (length rows) (rows_bits rows ++ t) _ w ∙ rw (le-ltb v.most (length rows) m) (rows_back rows room [] t f h ∙ rw (g, z))

-- a summary that is written is read as its rows
pub read_back : (rows : List Row) (room : ℕ) → AllFit rows → legal rows ≡ true → length rows ≤ 64 → length rows ≤ room → read_of room (summary_of one rows) ≡ read rows
unfolding read_of summary_of summary_bits
read_back rows room f g m h =
    let b = summary_bits one rows in
    rw (packed-back b, append_assoc (in_bits 4 1) (in_bits 7 (length rows) ++ rows_bits rows) (filling b), append_assoc (in_bits 7 (length rows)) (rows_bits rows) (filling b))
    (field_back 4 1 (in_bits 7 (length rows) ++ (rows_bits rows ++ filling b)) _ (omega arith)
    ∙ behind-back one rows room (filling b) f g m (omega (arith, m)) h (filling-fills b))

-- ---- read, so written

-- a field of rows that are read is there, and stands for its number
field-read : (k : ℕ) (b : List Bool) (then : ℕ → List Bool → RowsFound) (rows : List Row) → field k b then ≡ read rows
    → (b ≡ in_bits k (value_of k b) ++ drop k b) × (then (value_of k b) (drop k b) ≡ read rows)
unfolding field
field-read k b then rows e = go (ltb (length b) k) refl e
  where
    go : (x : Bool) → ltb (length b) k ≡ x → pick x (refused 1) (then (value_of k b) (drop k b)) ≡ read rows
        → (b ≡ in_bits k (value_of k b) ++ drop k b) × (then (value_of k b) (drop k b) ≡ read rows)
    go true t e = absurd (let z : ◌≡◌ {A = ℕ} 0 1 = cc in omega arith)
    go false t e = (sym (take-append-drop k b) ∙ ap (λ (l : List Bool). l ++ drop k b) (sym (bits_back k b (ltb-false (length b) k t))), e)

-- a row that is read
pub record RowRead (b : List Bool) (then : Row → List Bool → RowsFound) (rows : List Row) : Type 0 where
  pub row : Row
  pub rest : List Bool
  pub fits : Fits row
  pub bits : b ≡ row_bits row ++ rest
  pub told : then row rest ≡ read rows

row_read : (b : List Bool) (then : Row → List Bool → RowsFound) (rows : List Row) → a_row b then ≡ read rows → RowRead b then rows
unfolding a_row row_bits
row_read b then rows e =
    let p = field-read 53 b _ rows e in
    let b₁ = drop 53 b in
    let q = field-read 31 b₁ _ rows p.1 in
    let b₂ = drop 31 b₁ in
    let r = field-read 31 b₂ _ rows q.1 in
    let b₃ = drop 31 b₂ in
    let s = field-read 16 b₃ _ rows r.1 in
    let b₄ = drop 16 b₃ in
    let c₁ = in_bits 53 (value_of 53 b) in
    let c₂ = in_bits 31 (value_of 31 b₁) in
    let c₃ = in_bits 31 (value_of 31 b₂) in
    let c₄ = in_bits 16 (value_of 16 b₃) in
    let three : b₂ ≡ (c₃ ++ c₄) ++ b₄ = r.0 ∙ ap (λ (l : List Bool). c₃ ++ l) s.0 ∙ sym (append_assoc c₃ c₄ b₄) in
    let two : b₁ ≡ (c₂ ++ (c₃ ++ c₄)) ++ b₄ = q.0 ∙ ap (λ (l : List Bool). c₂ ++ l) three ∙ sym (append_assoc c₂ (c₃ ++ c₄) b₄) in
    record {
      row = summary_row (value_of 53 b) (value_of 31 b₁) (value_of 31 b₂) (value_of 16 b₃);
      rest = b₄;
      fits = record { client = number_lt 53 b; first = number_lt 31 b₁; end = number_lt 31 b₂; blocks = number_lt 16 b₃ };
      bits = p.0 ∙ ap (λ (l : List Bool). c₁ ++ l) two ∙ sym (append_assoc c₁ (c₂ ++ (c₃ ++ c₄)) b₄);
      told = s.1;
    }

-- rows that are read: these bits, and zeros behind them
pub record RowsRead (n room : ℕ) (seen : List Row) (b : List Bool) (rows : List Row) : Type 0 where
  pub more : List Row
  pub zeros : ℕ
  pub all : rows ≡ seen ++ more
  pub count : length more ≡ n
  pub fit : AllFit more
  pub lent : n ≤ room
  pub short : zeros < 8
  pub bits : b ≡ rows_bits more ++ replicate zeros false
  pub order : legal rows ≡ true

both_true : (x y : Bool) → x && y ≡ true → (x ≡ true) × (y ≡ true)
both_true true y h = (refl, h)
both_true false y h = absurd (let z : ◌≡◌ {A = ℕ} 0 1 = cc in omega arith)

rows-read : (n room : ℕ) (seen : List Row) (b : List Bool) (rows : List Row) → rows_after n room seen b ≡ read rows → RowsRead n room seen b rows
unfolding rows_after rows_bits filled
rows-read zero room seen b rows e = go (legal seen && filled b) refl e
  where
    go : (x : Bool) → (legal seen && filled b) ≡ x → pick x (read seen) (refused 17) ≡ read rows → RowsRead 0 room seen b rows
    go false t e = absurd (let z : ◌≡◌ {A = ℕ} 0 1 = cc in omega arith)
    go true t e =
        let same : seen ≡ rows = cc in
        let p = both_true (legal seen) (filled b) t in
        let q = both_true (ltb (length b) 8) (eqb (value_of (length b) b) 0) p.1 in
        record {
          more = [];
          zeros = length b;
          all = sym same ∙ sym (append-nil seen);
          count = refl;
          fit = tt;
          lent = omega arith;
          short = ltb-true (length b) 8 q.0;
          bits = zeros-are b (eqb-true (value_of (length b) b) 0 q.1);
          order = ap legal (sym same) ∙ p.0;
        }
rows-read (suc n) room seen b rows e =
    let r = row_read b _ rows e in
    go (eqb room 0) refl (λ row rest. rows-read n (room - 1) (seen ++ (row ∷ [])) rest rows) r r.told
  where
    go : (x : Bool) → eqb room 0 ≡ x → ((row : Row) (rest : List Bool) → rows_after n (room - 1) (seen ++ (row ∷ [])) rest ≡ read rows → RowsRead n (room - 1) (seen ++ (row ∷ [])) rest rows)
        → (r : RowRead b (λ row rest. pick (eqb room 0) (refused 8) (rows_after n (room - 1) (seen ++ (row ∷ [])) rest)) rows)
        → pick x (refused 8) (rows_after n (room - 1) (seen ++ (r.row ∷ [])) r.rest) ≡ read rows → RowsRead (suc n) room seen b rows
    go true t more r e = absurd (let z : ◌≡◌ {A = ℕ} 0 1 = cc in omega arith)
    go false t more r e =
        let m = more r.row r.rest e in
        record {
          more = r.row ∷ m.more;
          zeros = m.zeros;
          all = m.all ∙ append_assoc seen (r.row ∷ []) m.more;
          count = ap suc m.count;
          fit = (r.fits, m.fit);
          lent = omega (arith, m.lent, some room (eqb-false room 0 t));
          short = m.short;
          bits = r.bits ∙ ap (λ (l : List Bool). row_bits r.row ++ l) m.bits ∙ sym (append_assoc (row_bits r.row) (rows_bits m.more) (replicate m.zeros false));
          order = m.order;
        }
      where
        some : (k : ℕ) → (k ≡ 0 → ⊥) → 0 < k
        some zero h = absurd (h refl)
        some (suc k) h = omega arith

-- what is read: the rows have room in their bits, are in order and few, and these bytes are what is written of them
pub record Canonical (room : ℕ) (s : List ℕ) (rows : List Row) : Type 0 where
  pub fit : AllFit rows
  pub order : legal rows ≡ true
  pub few : length rows ≤ 64
  pub lent : length rows ≤ room
  pub bytes : are_bytes s ≡ true → s ≡ summary_of one rows

module _ (v : Version) (room : ℕ) (b : List Bool) (rows : List Row) where
  -- behind a version's number
  pub record Behind : Type 0 where
    pub zeros : ℕ
    pub fit : AllFit rows
    pub order : legal rows ≡ true
    pub few : length rows ≤ v.most
    pub lent : length rows ≤ room
    pub short : zeros < 8
    pub bits : b ≡ in_bits v.bits (length rows) ++ (rows_bits rows ++ replicate zeros false)

  pub behind-read : after_version v room b ≡ read rows → Behind
  unfolding after_version
  behind-read e =
      let p = field-read v.bits b _ rows e in
      go (ltb v.most (value_of v.bits b)) refl p.0 p.1
    where
      go : (x : Bool) → ltb v.most (value_of v.bits b) ≡ x → b ≡ in_bits v.bits (value_of v.bits b) ++ drop v.bits b
          → pick x (refused 3) (rows_after (value_of v.bits b) room [] (drop v.bits b)) ≡ read rows → Behind
      go true t d e = absurd (let z : ◌≡◌ {A = ℕ} 0 1 = cc in omega arith)
      go false t d e =
          let m = rows-read (value_of v.bits b) room [] (drop v.bits b) rows e in
          let n : value_of v.bits b ≡ length rows = sym m.count ∙ ap length (sym m.all) in
          record {
            zeros = m.zeros;
            fit = subst AllFit (sym m.all) m.fit;
            order = m.order;
            few = omega (arith, n, ltb-false v.most (value_of v.bits b) t);
            lent = omega (arith, n, m.lent);
            short = m.short;
            bits = d ∙ ap₂ (λ (k : ℕ) (l : List Bool). in_bits v.bits k ++ l) n (m.bits ∙ ap (λ (l : List Row). rows_bits l ++ replicate m.zeros false) (sym m.all));
          }

pub canonical : (room : ℕ) (s : List ℕ) (rows : List Row) → read_of room s ≡ read rows → Canonical room s rows
unfolding read_of summary_of summary_bits
canonical room s rows e =
    let p = field-read 4 (of_bytes s) _ rows e in
    go (eqb (value_of 4 (of_bytes s)) 1) refl p.0 p.1
  where
    go : (x : Bool) → eqb (value_of 4 (of_bytes s)) 1 ≡ x → of_bytes s ≡ in_bits 4 (value_of 4 (of_bytes s)) ++ drop 4 (of_bytes s)
        → pick x (after_version one room (drop 4 (of_bytes s))) (refused 16) ≡ read rows → Canonical room s rows
    go false t d e = absurd (let z : ◌≡◌ {A = ℕ} 0 1 = cc in omega arith)
    go true t d e =
        let m = behind-read one room (drop 4 (of_bytes s)) rows e in
        let z = replicate {A = Bool} m.zeros false in
        let all : of_bytes s ≡ summary_bits one rows ++ z =
        d ∙ ap₂ (λ (k : ℕ) (l : List Bool). in_bits 4 k ++ l) (eqb-true (value_of 4 (of_bytes s)) 1 t) m.bits
        ∙ ap (λ (l : List Bool). in_bits 4 1 ++ l) (sym (append_assoc (in_bits 7 (length rows)) (rows_bits rows) z)) ∙ sym (append_assoc (in_bits 4 1) (in_bits 7 (length rows) ++ rows_bits rows) z) in
        record { fit = m.fit; order = m.order; few = m.few; lent = m.lent; bytes = λ h. packed-of s (summary_bits one rows) m.zeros h m.short all }

-- ---- equal rows exactly when equal bytes

-- of what is written
pub same_rows : (a b : List Row) → AllFit a → legal a ≡ true → length a ≤ 64 → AllFit b → legal b ≡ true → length b ≤ 64 → summary_of one a ≡ summary_of one b → a ≡ b
same_rows a b fa ga la fb gb lb e =
    let same : read a ≡ read b = sym (read_back a 64 fa ga la la) ∙ ap (read_of 64) e ∙ read_back b 64 fb gb lb lb in
    cc

-- of what is read
pub same_bytes : (room : ℕ) (s t : List ℕ) (rows : List Row) → are_bytes s ≡ true → are_bytes t ≡ true → read_of room s ≡ read rows → read_of room t ≡ read rows → s ≡ t
same_bytes room s t rows hs ht es et = (canonical room s rows es).bytes hs ∙ sym ((canonical room t rows et).bytes ht)
