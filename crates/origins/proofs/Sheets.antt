-- A line put into a sheet, word by word.
use Prim.Native.Nat.{ℕ, suc, ◌+◌, ◌*◌, ◌≤◌, ◌<◌}
use mathlib.Core.Path.{◌≡◌, refl, ◌∙◌}
use mathlib.Core.List.{List}
use mathlib.Core.Bool.{Bool, true, false}
use native.Mathlib.Omega.{arith}
use lib.Dec.{eqb}
use lib.ListN.{length, get_or, set, length-set}
use lib.Seq.{get_or-set_other, get_or-set_same}
use borrow.Author.Tests.{lt-ltb, le-ltb, eqb-true, eqb-false}
use Rattle.text.specs.declared.Part.{Part}
use Rattle.cells.specs.Cells.{key_count, state_in, part_in}
use Rattle.cells.proofs.Keys.{keys_length}
use Rattle.roles.specs.Roles.{key_text}
use Rattle.origins.specs.declared.Line.{Line}
use Rattle.origins.specs.Origins.{text_line, key_line, key_lines, line_words}
use Rattle.origins.specs.Sheets.{line_in, lines_from, Above}

-- the first n words of line i are those of c, and below the line nothing changed
module _ (i : ℕ) (sh c : List ℕ) where
  pub record Held (n : ℕ) (v : List ℕ) : Type 0 where
    pub size : length v ≡ length sh
    pub below : (k : ℕ) → k < 12 * i → get_or v k 0 ≡ get_or sh k 0
    pub words : (j : ℕ) → j < n → get_or v (12 * i + j) 0 ≡ get_or c j 0

  pub held : Held 0 sh
  held = record { size = refl; below = λ k l. refl; words = λ j l. omega arith }

  module _ (room : 12 * (i + 1) ≤ length sh) where
    pub put : (n k : ℕ) (v : List ℕ) → n < 12 → k ≡ 12 * i + n → Held n v → Held (suc n) (set v k (get_or c n 0))
    put n k v few e h = record {
      size = length-set v k (get_or c n 0) ∙ h.size;
      below = λ m l. get_or-set_other v k m (get_or c n 0) 0 (λ q. omega arith) ∙ h.below m l;
      words = λ j l. go j l (eqb j n) refl;
    }
      where
        go : (j : ℕ) → j < suc n → (x : Bool) → eqb j n ≡ x → get_or (set v k (get_or c n 0)) (12 * i + j) 0 ≡ get_or c j 0
        go j l true q = let s = eqb-true j n q in rw (s, ← e) (get_or-set_same v k (get_or c n 0) 0 (omega (arith, h.size)))
        go j l false q =
            let s = eqb-false j n q in
            get_or-set_other v k (12 * i + j) (get_or c n 0) 0 (λ p. s (omega arith)) ∙ h.words j (omega (arith, s))

-- all twelve
module _ (i : ℕ) (sh v : List ℕ) (l : Line) (h : Held i sh (line_words l) 12 v) where
  pub line-held : line_in v i ≡ l
  unfolding line_in part_in line_words
  line-held =
      let e : 12 * i + 10 + 1 ≡ 12 * i + 11 = omega arith in
      rw (e, h.words 0 (omega arith), h.words 1 (omega arith), h.words 2 (omega arith), h.words 3 (omega arith), h.words 4 (omega arith), h.words 5 (omega arith), h.words 6 (omega arith), h.words 7 (omega arith), h.words 8 (omega arith), h.words 9 (omega arith), h.words 10 (omega arith), h.words 11 (omega arith)) refl

  pub above-held : Above i sh v
  unfolding line_in part_in
  above-held = record { size = h.size; same = at }
    where
      at : (j : ℕ) → j < i → line_in v j ≡ line_in sh j
      at j b =
          let w : (k : ℕ) → k < 12 → get_or v (12 * j + k) 0 ≡ get_or sh (12 * j + k) 0 = λ k few. h.below (12 * j + k) (omega arith) in
          rw (w 0 (omega arith), w 1 (omega arith), w 2 (omega arith), w 3 (omega arith), w 4 (omega arith), w 5 (omega arith), w 6 (omega arith), w 7 (omega arith), w 8 (omega arith), w 9 (omega arith), w 10 (omega arith), h.below (12 * j + 10 + 1) (omega arith)) refl

-- word after word
module _ (sh : List ℕ) (i : ℕ) (l : Line) where
  abbrev filled : List ℕ
  filled =
      let b = 12 * i in
      set (set (set (set (set (set (set (set (set (set (set (set sh b l.field) (b + 1) l.value) (b + 2) l.stand.place) (b + 3) l.stand.bytes) (b + 4) l.stand.source) (b + 5) l.stand.which) (b + 6) l.stand.of) (b + 7) l.rise.base) (b + 8) l.rise.sign) (b + 9) l.rise.size) (b + 10) l.part.place) (b + 11) l.part.bytes.0

  pub filled-held : 12 * (i + 1) ≤ length sh → Held i sh (line_words l) 12 filled
  unfolding line_words
  filled-held room =
      let c = line_words l in
      let b = 12 * i in
      let p = put i sh c room in
      p 11 (b + 11) _ (omega arith) refl (p 10 (b + 10) _ (omega arith) refl (p 9 (b + 9) _ (omega arith) refl (p 8 (b + 8) _ (omega arith) refl
      (p 7 (b + 7) _ (omega arith) refl (p 6 (b + 6) _ (omega arith) refl (p 5 (b + 5) _ (omega arith) refl (p 4 (b + 4) _ (omega arith) refl
      (p 3 (b + 3) _ (omega arith) refl (p 2 (b + 2) _ (omega arith) refl (p 1 (b + 1) _ (omega arith) refl (p 0 b sh (omega arith) (omega arith) (held i sh c))))))))))))

-- ---- one line more

pub above_on : (i : ℕ) (sh v u : List ℕ) → Above i sh v → Above (i + 1) v u → Above i sh u
above_on i sh v u a b = record { size = b.size ∙ a.size; same = λ j l. b.same j (omega arith) ∙ a.same j l }

-- ---- the lines of a key

module _ (u : List ℕ) (code : ℕ) (p : Part) (base keys : ℕ) (w sh : List ℕ) (i : ℕ) (l : line_in sh i ≡ key_line u code p base (state_in w)) where
  abbrev Lines : ℕ → Type 0
  Lines n = lines_from sh i n ≡ key_lines u code p base keys (state_in w)

  pub key-known : key_count w ≤ keys → Lines 1
  unfolding lines_from key_lines state_in
  key-known few = rw (l, keys_length w, le-ltb keys (key_count w) few) refl

  pub key-new : keys < key_count w → line_in sh (i + 1) ≡ text_line u key_text p (state_in w) → Lines 2
  unfolding lines_from key_lines state_in
  key-new more t = let e : suc i ≡ i + 1 = omega arith in rw (e, l, t, keys_length w, lt-ltb keys (key_count w) more) refl
