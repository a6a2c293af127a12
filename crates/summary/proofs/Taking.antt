-- Rows taken from bits, one after the other: each way out of the loop is a law of `rows_after`.
use Prim.Native.Nat.{ℕ, zero, suc, ◌+◌, ◌-◌, ◌*◌, ◌/◌, ◌^◌, ◌≤◌, ◌<◌}
use mathlib.Core.Path.{◌≡◌, refl, sym, ap, ap₂, ◌∙◌, subst}
use mathlib.Core.Bool.{Bool, true, false, ◌&&◌}
use mathlib.Core.List.{List, [], ◌∷◌, ◌++◌}
use native.Mathlib.Omega.{arith}
use lib.Dec.{ltb, leb, eqb}
use lib.ListN.{length, take, drop, length-append, length-drop}
use lib.Seq.{sets, drop-drop, length-sets}
use borrow.Author.Tests.{lt-ltb, le-ltb, ltb-false, eq-eqb, ne_eqb}
use Rattle.numbers.specs.Number.{pick}
use Rattle.numbers.proofs.Output.{take-sets}
use Rattle.bits.specs.Bits.{value_of, of_bytes}
use Rattle.bits.proofs.Laws.{length-of-bytes}
use Rattle.summary.specs.Rows.{Row}
use Rattle.summary.specs.Summary.{RowsFound, read, refused, field, a_row, in_order, legal, filled, rows_after}
use Rattle.summary.specs.Words.{summary_row, words_in}
use Rattle.summary.specs.WordsInner.{fine, All}
use Rattle.summary.proofs.Laws.{length-words, words_append}

-- ---- fields

pub field-got : (k : ℕ) (b : List Bool) (then : ℕ → List Bool → RowsFound) → k ≤ length b → field k b then ≡ then (value_of k b) (drop k b)
unfolding field
field-got k b then h = rw (le-ltb (length b) k h)

pub field-short : (k : ℕ) (b : List Bool) (then : ℕ → List Bool → RowsFound) → length b < k → field k b then ≡ refused 1
unfolding field
field-short k b then h = rw (lt-ltb (length b) k h)

-- refused, if what follows is
field-or : (k : ℕ) (b : List Bool) (then : ℕ → List Bool → RowsFound) → (k ≤ length b → then (value_of k b) (drop k b) ≡ refused 1) → field k b then ≡ refused 1
unfolding field
field-or k b then h = go (ltb (length b) k) refl
  where
    go : (x : Bool) → ltb (length b) k ≡ x → pick x (refused 1) (then (value_of k b) (drop k b)) ≡ refused 1
    go true e = refl
    go false e = h (ltb-false (length b) k e)

-- ---- a row

-- the four numbers from bit o on
abbrev pub row_from : ℕ → List Bool → Row
row_from o b = summary_row (value_of 53 (drop o b)) (value_of 31 (drop (o + 53) b)) (value_of 31 (drop (o + 84) b)) (value_of 16 (drop (o + 115) b))

module _ (o : ℕ) (b : List Bool) (then : Row → List Bool → RowsFound) where
  pub row-short : length b - o < 131 → a_row (drop o b) then ≡ refused 1
  unfolding a_row
  row-short h =
      field-or 53 (drop o b) _ λ h₁. field-or 31 (drop 53 (drop o b)) _ λ h₂. field-or 31 (drop 31 (drop 53 (drop o b))) _ λ h₃.
      field-short 16 (drop 31 (drop 31 (drop 53 (drop o b)))) _ (simp length-drop (omega (arith, h, simp length-drop at h₁, simp length-drop at h₂, simp length-drop at h₃)))

  pub row-got : o + 131 ≤ length b → a_row (drop o b) then ≡ then (row_from o b) (drop (o + 131) b)
  unfolding a_row
  row-got h =
      let d₁ : drop 53 (drop o b) ≡ drop (o + 53) b = drop-drop 53 o b in
      let d₂ : drop 31 (drop (o + 53) b) ≡ drop (o + 84) b = drop-drop 31 (o + 53) b ∙ ap (λ (n : ℕ). drop n b) (let e : o + 53 + 31 ≡ o + 84 = omega arith in e) in
      let d₃ : drop 31 (drop (o + 84) b) ≡ drop (o + 115) b = drop-drop 31 (o + 84) b ∙ ap (λ (n : ℕ). drop n b) (let e : o + 84 + 31 ≡ o + 115 = omega arith in e) in
      let d₄ : drop 16 (drop (o + 115) b) ≡ drop (o + 131) b = drop-drop 16 (o + 115) b ∙ ap (λ (n : ℕ). drop n b) (let e : o + 115 + 16 ≡ o + 131 = omega arith in e) in
      field-got 53 (drop o b) _ (simp length-drop (omega arith))
      ∙ rw d₁ (field-got 31 (drop (o + 53) b) _ (simp length-drop (omega arith))
      ∙ rw d₂ (field-got 31 (drop (o + 84) b) _ (simp length-drop (omega arith))
      ∙ rw d₃ (field-got 16 (drop (o + 115) b) _ (simp length-drop (omega arith)) ∙ rw d₄)))

-- ---- order

unfoldable pub last_of : ℕ → List Row → ℕ
last_of above [] = above
last_of above (r ∷ rows) = last_of r.client rows

last_snoc : (a : ℕ) (xs : List Row) (r : Row) → last_of a (xs ++ (r ∷ [])) ≡ r.client
unfolding last_of
last_snoc a [] r = refl
last_snoc a (x ∷ xs) r = last_snoc x.client xs r

and-out : (p q r s t : Bool) → p && (q && (r && (s && t))) ≡ (p && (q && (r && s))) && t
and-out false q r s t = refl
and-out true false r s t = refl
and-out true true false s t = refl
and-out true true true s t = refl

and-true : (p q r : Bool) → p && (q && (r && true)) ≡ p && (q && r)
and-true false q r = refl
and-true true false r = refl
and-true true true false = refl
and-true true true true = refl

order-snoc : (a : ℕ) (xs : List Row) (r : Row) → in_order a (xs ++ (r ∷ [])) ≡ (in_order a xs && fine (last_of a xs) r)
unfolding in_order last_of fine
order-snoc a [] r = and-true (ltb r.client a) (ltb 0 r.blocks) (leb r.first r.end)
order-snoc a (x ∷ xs) r =
    ap (λ (t : Bool). ltb x.client a && (ltb 0 x.blocks && (leb x.first x.end && t))) (order-snoc x.client xs r)
    ∙ and-out (ltb x.client a) (ltb 0 x.blocks) (leb x.first x.end) (in_order x.client xs) (fine (last_of x.client xs) r)

-- ---- the loop

pub record Taking (s : List ℕ) (n room : ℕ) (w : List ℕ) (o k left above : ℕ) (good : Bool) : Type 0 where
  pub seen : List Row
  pub words : take k w ≡ words_in seen
  pub count : length seen + left ≡ n
  pub bit : o ≡ 11 + 131 * length seen
  pub word : k ≡ 4 * length seen
  pub told : rows_after n room [] (drop 11 (of_bytes s)) ≡ rows_after left (room - length seen) seen (drop o (of_bytes s))
  pub order : good ≡ legal seen
  pub last : above ≡ last_of (2 ^ 53) seen
  pub there : o ≤ 8 * length s
  pub fits : k ≤ length w

pub begins : (s : List ℕ) (n room : ℕ) (w : List ℕ) → 2 ≤ length s → Taking s n room w 11 0 n (2 ^ 53) true
unfolding legal in_order last_of words_in
begins s n room w h =
    record { seen = []; words = refl; count = omega arith; bit = refl; word = refl; told = ap (λ (m : ℕ). rows_after n m [] (drop 11 (of_bytes s))) (let e : room ≡ room - 0 = omega arith in e); order = refl; last = refl; there = omega arith; fits = omega arith }

module _ (s : List ℕ) (n room : ℕ) (w : List ℕ) (o k left above : ℕ) (good : Bool) (t : Taking s n room w o k left above good) where
  -- one row more, as `rows_after` says it
  after_more : 0 < left → (b : List Bool)
      → rows_after left (room - length t.seen) t.seen b
      ≡ a_row b (λ r rest. pick (eqb (room - length t.seen) 0) (refused 8) (rows_after (left - 1) (room - length t.seen - 1) (t.seen ++ (r ∷ [])) rest))
  unfolding rows_after
  after_more h b = go left h
    where
      go : (m : ℕ) → 0 < m → rows_after m (room - length t.seen) t.seen b
          ≡ a_row b (λ r rest. pick (eqb (room - length t.seen) 0) (refused 8) (rows_after (m - 1) (room - length t.seen - 1) (t.seen ++ (r ∷ [])) rest))
      go zero h = absurd (omega (arith, h))
      go (suc m) h =
          ap (λ (j : ℕ). a_row b (λ r rest. pick (eqb (room - length t.seen) 0) (refused 8) (rows_after j (room - length t.seen - 1) (t.seen ++ (r ∷ [])) rest)))
          (let e : m ≡ suc m - 1 = omega arith in e)

  order_is : (r : Row) → (good && fine above r) ≡ legal (t.seen ++ (r ∷ []))
  unfolding legal
  order_is r = ap₂ (λ (x : Bool) (a : ℕ). x && fine a r) t.order t.last ∙ sym (order-snoc (2 ^ 53) t.seen r)

  pub cut_off : 0 < left → length s < (o + 131 + 7) / 8 → rows_after n room [] (drop 11 (of_bytes s)) ≡ refused 1
  cut_off h l = t.told ∙ after_more h (drop o (of_bytes s)) ∙ row-short o (of_bytes s) _ (omega (arith, length-of-bytes s, l))

  module _ (h : 0 < left) (l : (o + 131 + 7) / 8 ≤ length s) where
    whole : rows_after n room [] (drop 11 (of_bytes s))
        ≡ pick (eqb (room - length t.seen) 0) (refused 8) (rows_after (left - 1) (room - length t.seen - 1) (t.seen ++ (row_from o (of_bytes s) ∷ [])) (drop (o + 131) (of_bytes s)))
    whole = t.told ∙ after_more h (drop o (of_bytes s)) ∙ row-got o (of_bytes s) _ (omega (arith, length-of-bytes s, l))

    pub no_row : room ≡ length w / 4 → length w < k + 4 → rows_after n room [] (drop 11 (of_bytes s)) ≡ refused 8
    no_row e m =
        let none : room - length t.seen ≡ 0 = omega (arith, e, m, t.word) in
        whole ∙ rw (eq-eqb (room - length t.seen) 0 none)

    pub one-row : room ≡ length w / 4 → k + 4 ≤ length w → (r : Row) → r ≡ row_from o (of_bytes s) → (v : List ℕ) → v ≡ sets w k (words_in (r ∷ [])) → (good₁ : Bool) → good₁ ≡ (good && fine above r)
        → Taking s n room v (o + 131) (k + 4) (left - 1) r.client good₁
    one-row e m r er v ev good₁ eg =
        let rows = t.seen ++ (r ∷ []) in
        let lr : length rows ≡ length t.seen + 1 = length-append t.seen (r ∷ []) in
        let some : room - length t.seen ≡ 0 → ⊥ = λ z. omega (arith, e, m, t.word, z) in
        let four : length (words_in (r ∷ [])) ≡ 4 = length-words (r ∷ []) in
        record {
          seen = rows;
          words = ap (take (k + 4)) ev ∙ ap (λ (j : ℕ). take (k + j) (sets w k (words_in (r ∷ [])))) (sym four) ∙ take-sets w (words_in (r ∷ [])) k (omega (arith, four, m))
              ∙ ap (λ (l : List ℕ). l ++ words_in (r ∷ [])) t.words ∙ sym (words_append t.seen (r ∷ []));
          count = omega (arith, lr, t.count, h);
          bit = omega (arith, lr, t.bit);
          word = omega (arith, lr, t.word);
          told = whole ∙ rw (ne_eqb (room - length t.seen) 0 some, ← er)
              (ap (λ (j : ℕ). rows_after (left - 1) j rows (drop (o + 131) (of_bytes s))) (let z : room - length t.seen - 1 ≡ room - length rows = omega (arith, lr) in z));
          order = eg ∙ order_is r;
          last = sym (last_snoc (2 ^ 53) t.seen r);
          there = omega (arith, l);
          fits = subst (λ (x : List ℕ). k + 4 ≤ length x) (sym ev) (rw (length-sets w k (words_in (r ∷ []))) m);
        }

  pub all-rows : left ≤ 0 → All s n room w good
  unfolding rows_after
  all-rows h =
      let none : left ≡ 0 = omega arith in
      let ln : length t.seen ≡ n = omega (arith, t.count) in
      let eo : o ≡ 11 + 131 * n = omega (arith, t.bit) in
      record {
        rows = t.seen;
        count = ln;
        words = ap (λ (j : ℕ). take j w) (let z : 4 * n ≡ k = omega (arith, t.word) in z) ∙ t.words;
        told = t.told ∙ ap (λ (j : ℕ). rows_after j (room - length t.seen) t.seen (drop o (of_bytes s))) none
            ∙ ap₂ (λ (x : Bool) (j : ℕ). pick (x && filled (drop j (of_bytes s))) (read t.seen) (refused 17)) (sym t.order) eo;
        there = omega (arith, eo, t.there);
        fits = omega (arith, t.word, t.fits);
      }

-- ---- what stands behind the rows

module _ (s : List ℕ) (o : ℕ) where
  rest-length : length (drop o (of_bytes s)) ≡ 8 * length s - o
  rest-length = length-drop o (of_bytes s) ∙ ap (λ (n : ℕ). n - o) (length-of-bytes s)

  pub byte_more : (o + 7) / 8 < length s → false ≡ filled (drop o (of_bytes s))
  unfolding filled
  byte_more h = rw (le-ltb (length (drop o (of_bytes s))) 8 (omega (arith, rest-length, h)))

  pub bits-more : (k : ℕ) → length s ≤ (o + 7) / 8 → o ≤ 8 * length s → k ≡ 8 * ((o + 7) / 8) - o → eqb (value_of k (drop o (of_bytes s))) 0 ≡ filled (drop o (of_bytes s))
  unfolding filled
  bits-more k h l e =
      let z : k ≡ length (drop o (of_bytes s)) = omega (arith, rest-length) in
      rw (lt-ltb (length (drop o (of_bytes s))) 8 (omega (arith, rest-length)), z)

  pub no-bit-more : (k : ℕ) → length s ≤ (o + 7) / 8 → o ≤ 8 * length s → k ≡ 8 * ((o + 7) / 8) - o → k ≡ 0 → true ≡ filled (drop o (of_bytes s))
  unfolding value_of
  no-bit-more k h l e z = ap (λ (j : ℕ). eqb (value_of j (drop o (of_bytes s))) 0) (sym z) ∙ bits-more k h l e
