-- That a diff cuts a block as it has always cut it, and tells alike whether a piece would be torn.
use Prim.Native.Nat.{ℕ, zero, suc, ◌+◌, ◌-◌}
use mathlib.Core.Path.{◌≡◌, refl, sym, ap, ◌∙◌}
use mathlib.Core.Bool.{Bool, true, false, not, ◌&&◌, ◌||◌}
use mathlib.Core.List.{List, [], ◌∷◌, ◌++◌, map}
use native.Mathlib.Omega.{arith}
use lib.Dec.{ltb, eqb}
use lib.ListN.{drop}
use borrow.Author.Tests.{ltb-true, lt-ltb, eqb-true, eq-eqb, eqb-false, ne_eqb}
use Rattle.numbers.specs.Number.{pick}
use Rattle.text.specs.declared.Part.{Part}
use Rattle.text.specs.declared.Taken.{Taken}
use Rattle.text.specs.declared.Taken.TheVariants.{Took, Refused}
use Rattle.text.specs.Utf8.{take_units}
use Rattle.block.specs.declared.Block.{Block}
use Rattle.block.specs.Kinds as kinds
use Rattle.anys.specs.declared.Skipped.{Skipped}
use Rattle.anys.specs.declared.Skipped.TheVariants as skipped
use Rattle.anys.specs.Any.{anys}
use Rattle.decoder.specs.Line.{spanned, values_at}
use Rattle.readings.specs.Sound.{bytes_in}
use Rattle.kept.specs.Cut as kept
use Rattle.kept.specs.Cut.{bytes_for, cut_part, torn_text, span_of, cut_list, is_whole, part_of, cut_row, torn_pieces, any_torn, format_in, any_format}
use Rattle.meaning.specs.Reads.{when◌then◌else◌}
use Rattle.meaning.specs.Line.{part, bytes_of}
use Rattle.meaning.specs.Reads.{comes_to}
use Rattle.meaning.specs.Blocks.{row}
use Rattle.meaning.specs.Alike.{drawn_as}
use Rattle.meaning.proofs.Line.{values-is}
use Rattle.meaning_written.specs.Diff.{each, one_of, given, is_item, taken, broken, span, behind, torn, cut, place, content, block}
use Rattle.meaning_written.proofs.Kept.{piece_of, section_of, alike, either}

-- ---- an item by its kind

pub item-same : (k : ℕ) → kinds.is_item k ≡ (ltb 2 k && ltb k 9)
unfolding kinds.is_item
item-same k = go (eqb k 3) refl (eqb k 4) refl (eqb k 5) refl (eqb k 6) refl (eqb k 7) refl (eqb k 8) refl
  where
    between : (x : Bool) → ltb 2 k ≡ x → (y : Bool) → ltb k 9 ≡ y → eqb k 3 ≡ false → eqb k 4 ≡ false → eqb k 5 ≡ false
        → eqb k 6 ≡ false → eqb k 7 ≡ false → eqb k 8 ≡ false → false ≡ (x && y)
    between false p y q e3 e4 e5 e6 e7 e8 = refl
    between true p false q e3 e4 e5 e6 e7 e8 = refl
    between true p true q e3 e4 e5 e6 e7 e8 =
        absurd
        (omega (
          arith,
          ltb-true 2 k p,
          ltb-true k 9 q,
          eqb-false k 3 e3,
          eqb-false k 4 e4,
          eqb-false k 5 e5,
          eqb-false k 6 e6,
          eqb-false k 7 e7,
          eqb-false k 8 e8,
        ))

    go : (a : Bool) → eqb k 3 ≡ a → (b : Bool) → eqb k 4 ≡ b → (c : Bool) → eqb k 5 ≡ c → (d : Bool) → eqb k 6 ≡ d → (e : Bool) → eqb k 7 ≡ e
        → (f : Bool) → eqb k 8 ≡ f → (a || b || c || d || e || f) ≡ (ltb 2 k && ltb k 9)
    go true e3 b e4 c e5 d e6 e e7 f e8 = rw (eqb-true k 3 e3)
    go false e3 true e4 c e5 d e6 e e7 f e8 = rw (eqb-true k 4 e4)
    go false e3 false e4 true e5 d e6 e e7 f e8 = rw (eqb-true k 5 e5)
    go false e3 false e4 false e5 true e6 e e7 f e8 = rw (eqb-true k 6 e6)
    go false e3 false e4 false e5 false e6 true e7 f e8 = rw (eqb-true k 7 e7)
    go false e3 false e4 false e5 false e6 false e7 true e8 = rw (eqb-true k 8 e8)
    go false e3 false e4 false e5 false e6 false e7 false e8 = between (ltb 2 k) refl (ltb k 9) refl e3 e4 e5 e6 e7 e8

-- ---- the bytes of what is cut off

taken-same : (t : Taken) → bytes_for t ≡ taken t
unfolding bytes_for taken
taken-same (Took b) = refl
taken-same (Refused why) = refl

broken-same : (t : Taken) → kept.broken t ≡ broken t
unfolding kept.broken broken
broken-same (Took b) = refl
broken-same (Refused why) = refl

-- it goes on to its end, so what is whole is what begins with its block
whole_is : (p : Block × ℕ) → is_whole (piece_of p) ≡ eqb p.1 0
unfolding is_whole
whole_is p = rw (eq-eqb p.0.length.0 p.0.length.0 refl) (go (eqb p.1 0))
  where
    go : (x : Bool) → pick x true false ≡ x
    go true = refl
    go false = refl

some_is : (k : ℕ) → ltb 0 k ≡ not (eqb k 0)
some_is zero = refl
some_is (suc n) = rw (lt-ltb 0 (suc n) (omega arith), ne_eqb (suc n) 0 (λ e. omega arith))

abbrev pub all_pieces : List (ℕ × List (Block × ℕ)) → List (Block × ℕ)
all_pieces ss = each (λ (s : ℕ × List (Block × ℕ)). s.1) ss

any_append : {A : Type 0} (test : A → Bool) (xs ys : List A) → one_of test (xs ++ ys) ≡ (one_of test xs || one_of test ys)
unfolding one_of
any_append test [] ys = refl
any_append test (x ∷ xs) ys = ap (λ (b : Bool). test x || b) (any_append test xs ys) ∙ go (test x) (one_of test xs) (one_of test ys)
  where
    go : (a b c : Bool) → (a || (b || c)) ≡ (a || b || c)
    go true b c = refl
    go false b c = refl

module _ (u : List ℕ) where
  span_same : (at n : ℕ) → kept.span u at n ≡ span u at n
  unfolding span_of span comes_to drawn_as values_at spanned
  span_same at n = rw (values-is u 0 n at) (go (anys u 0 n at))
    where
      go : (r : Skipped) → span_of at r ≡ comes_to (λ p _. p.bytes.0) (λ _. 0) (drawn_as (λ (p : Part). p) (λ (e : ℕ). e) (spanned at r))
      go (skipped.At e) = refl
      go (skipped.Refused why) = refl

  part_same : (b : Block) (k : ℕ) → part_of u (piece_of (b, k)) ≡ behind u k b
  unfolding part_of behind cut_part cut_list bytes_in
  part_same b k =
      let t : List ℕ = bytes_of u b.part in
      let n : ℕ = b.length.0 - k in
      alike (eqb b.kind 5)
      (rw (taken-same (take_units 9 k t)) (ap (part (b.part.place + taken (take_units 9 k t))) (taken-same (take_units 9 n (drop (taken (take_units 9 k t)) t)))))
      (alike (eqb b.kind 8)
      (rw (span_same b.part.place k) (ap (part (b.part.place + span u b.part.place k)) (span_same (b.part.place + span u b.part.place k) n)))
      refl)

  -- where it has no right id or no key, the old row keeps what stood there; that is not put down
  pub cut-same : (p : Block × ℕ) → block u (cut_row u (piece_of p)) ≡ block u (cut u p)
  unfolding cut_row cut row given block place content when◌then◌else◌
  cut-same p = go (eqb p.1 0) refl (is_item p.0) refl p.0.has_right refl p.0.has_key refl
    where
      go : (w : Bool) → eqb p.1 0 ≡ w → (x : Bool) → is_item p.0 ≡ x → (y : Bool) → p.0.has_right ≡ y → (z : Bool) → p.0.has_key ≡ z
          → block u (cut_row u (piece_of p)) ≡ block u (cut u p)
      go true e x f y g z h = rw (whole_is p, e)
      go false e false f y g z h = rw (whole_is p, e, part_same p.0 p.1, item-same p.0.kind, f)
      go false e true f true g true h = rw (whole_is p, e, part_same p.0 p.1, item-same p.0.kind, f, g, h)
      go false e true f true g false h = rw (whole_is p, e, part_same p.0 p.1, item-same p.0.kind, f, g, h)
      go false e true f false g true h = rw (whole_is p, e, part_same p.0 p.1, item-same p.0.kind, f, g, h)
      go false e true f false g false h = rw (whole_is p, e, part_same p.0 p.1, item-same p.0.kind, f, g, h)

  -- ---- cuts inside a pair, and formats

  torn-same : (p : Block × ℕ) → kept.torn u (piece_of p) ≡ torn u p
  unfolding kept.torn torn_text torn bytes_in
  torn-same p =
      let t : List ℕ = bytes_of u p.0.part in
      let front : Taken = take_units 9 p.1 t in
      let back : Taken = take_units 9 (p.0.length.0 - p.1) (drop (taken front) t) in
      rw (whole_is p, some_is p.1, taken-same front, broken-same front, broken-same back, either (broken front) (broken back))
      (go (eqb p.1 0) (eqb p.0.kind 5) (broken front || broken back))
    where
      go : (w x y : Bool) → pick w false (pick x y false) ≡ (x && not w && y)
      go true true y = refl
      go true false y = refl
      go false true y = refl
      go false false y = refl

  torn-pieces : (ps : List (Block × ℕ)) → torn_pieces u (map piece_of ps) ≡ one_of (torn u) ps
  unfolding torn_pieces one_of
  torn-pieces [] = refl
  torn-pieces (p ∷ ps) = rw (torn-same p, torn-pieces ps) (either (torn u p) (one_of (torn u) ps))

  pub any-torn : (ss : List (ℕ × List (Block × ℕ))) → any_torn u (map section_of ss) ≡ one_of (torn u) (all_pieces ss)
  unfolding any_torn one_of each
  any-torn [] = refl
  any-torn (s ∷ ss) =
      rw (torn-pieces s.1, any-torn ss) (either (one_of (torn u) s.1) (one_of (torn u) (all_pieces ss)) ∙ sym (any_append (torn u) s.1 (all_pieces ss)))

abbrev pub is_format : Block × ℕ → Bool
is_format p = eqb p.0.kind 6

format_pieces : (ps : List (Block × ℕ)) → format_in (map piece_of ps) ≡ one_of is_format ps
unfolding format_in one_of
format_pieces [] = refl
format_pieces (p ∷ ps) = rw (format_pieces ps) (either (is_format p) (one_of is_format ps))

pub any-format : (ss : List (ℕ × List (Block × ℕ))) → any_format (map section_of ss) ≡ one_of is_format (all_pieces ss)
unfolding any_format one_of each
any-format [] = refl
any-format (s ∷ ss) =
    rw (format_pieces s.1, any-format ss) (either (one_of is_format s.1) (one_of is_format (all_pieces ss)) ∙ sym (any_append is_format s.1 (all_pieces ss)))
