-- A list of plain values cut by its entries: some of them that stand together are a part of it, the bytes before them and their own lie in it, and behind
-- a cut stand all bytes that are left.
use Prim.Native.Nat.{ℕ, zero, suc, ◌+◌, ◌-◌, ◌≤◌}
use mathlib.Core.Path.{◌≡◌, refl, sym, ap, subst, ◌∙◌}
use mathlib.Core.Bool.{Bool, true, false}
use mathlib.Core.List.{List}
use native.Mathlib.Omega.{arith}
use borrow.Author.Tests.{ne_eqb}
use Rattle.numbers.specs.Number.{pick}
use Rattle.text.specs.declared.Part.{Part}
use Rattle.block.specs.Kinds.{TEXT, ANY}
use Rattle.anys.specs.declared.Skipped.TheVariants.{At}
use Rattle.anys.specs.Any.{anys}
use Rattle.anys.proofs.Places.{Ends}
use Rattle.anys.proofs.Laws.{anys-none, anys-ends, anys-cut}
use Rattle.readings.specs.SoundInner.{Lies, AreValues, Sound}
use Rattle.kept.specs.Kept.{Piece}
use Rattle.kept.specs.Cut.{span_of, span, cut_list, is_whole, part_of, torn}

-- values end where they begin, or behind
pub values-end : (u : List ℕ) (at n e : ℕ) → anys u 0 n at ≡ At e → at ≤ e
unfolding Ends
values-end u at zero e p = let q = sym (anys-none u 0 at) ∙ p in let same : at ≡ e = cc in omega arith
values-end u at (suc n) e p = omega (arith, (subst (Ends u 0 (at + suc n)) p (anys-ends u 0 (suc n) at (omega arith))).0)

span-is : (u : List ℕ) (at n e : ℕ) → anys u 0 n at ≡ At e → span u at n ≡ e - at
unfolding span_of
span-is u at n e p = ap (span_of at) p

-- a part of u that is n plain values
pub record IsList (u : List ℕ) (q : Part) (n : ℕ) : Type 0 where
  pub lies : Lies u q
  pub values : AreValues u n q

module _ (u : List ℕ) (p : Part) (k : ℕ) (list : IsList u p k) where
  abbrev end : ℕ
  end = p.place + p.bytes.0

  -- so many of its entries, and from there on so many more
  record Between (from n : ℕ) : Type 0 where
    first : ℕ
    last : ℕ
    before : anys u 0 from p.place ≡ At first
    are : anys u 0 n first ≡ At last
    later : anys u 0 (k - from - n) last ≡ At end

  between : (from n : ℕ) → from + n ≤ k → Between from n
  between from n l =
      let e : k ≡ from + (k - from) = omega arith in
      let f : k - from ≡ n + (k - from - n) = omega arith in
      let c = anys-cut u 0 from (k - from) p.place end (subst (λ (i : ℕ). anys u 0 i p.place ≡ At end) e list.values) in
      let d = anys-cut u 0 n (k - from - n) c.0 end (subst (λ (i : ℕ). anys u 0 i c.0 ≡ At end) f c.2) in
      record { first = c.0; last = d.0; before = c.1; are = d.1; later = d.2 }

  -- their places, one after the other
  module _ (from n : ℕ) (b : Between from n) where
    begins : p.place ≤ b.first
    begins = values-end u p.place from b.first b.before

    ends : b.first ≤ b.last
    ends = values-end u b.first n b.last b.are

    within : b.last ≤ end
    within = values-end u b.last (k - from - n) end b.later

    skipped : p.place + span u p.place from ≡ b.first
    skipped = omega (arith, begins, span-is u p.place from b.first b.before)

    taken : span u (p.place + span u p.place from) n ≡ b.last - b.first
    taken = ap (λ (at : ℕ). span u at n) skipped ∙ span-is u b.first n b.last b.are

  -- some of its entries are a part of it
  pub list-cut : (from n : ℕ) → from + n ≤ k → IsList u (cut_list u p from n) n
  unfolding cut_list
  list-cut from n l =
      let b = between from n l in
      let place = skipped from n b in
      let size = taken from n b in
      let up = ends from n b in
      record {
        lies = omega (arith, place, size, up, within from n b, list.lies);
        values = ap (anys u 0 n) place ∙ b.are ∙ ap At (omega (arith, place, size, up));
      }

  -- the bytes before them and their own lie in it
  pub list-within : (from n : ℕ) → from + n ≤ k → span u p.place from + span u (p.place + span u p.place from) n ≤ p.bytes.0
  list-within from n l =
      let b = between from n l in
      omega (arith, skipped from n b, taken from n b, begins from n b, ends from n b, within from n b)

  pub span-within : (from : ℕ) → from ≤ k → span u p.place from ≤ p.bytes.0
  span-within from l = omega (arith, list-within from 0 (omega arith))

  -- the entries behind a cut take all bytes that are left
  pub span_rest : (from : ℕ) → from ≤ k → span u (p.place + span u p.place from) (k - from) ≡ p.bytes.0 - span u p.place from
  span_rest from l =
      let b = between from (k - from) (omega arith) in
      let none : k - from - (k - from) ≡ 0 = omega arith in
      let q = sym (anys-none u 0 b.last) ∙ subst (λ (i : ℕ). anys u 0 i b.last ≡ At end) none b.later in
      let same : b.last ≡ end = cc in
      omega (arith, skipped from (k - from) b, taken from (k - from) b, begins from (k - from) b, ends from (k - from) b)

-- ---- a piece of a row that is a list

module _ (u : List ℕ) (p : Piece) (kind : p.row.kind ≡ ANY) where
  pub list-part : part_of u p ≡ cut_list u p.row.part p.from (p.to - p.from)
  unfolding part_of
  list-part = rw kind

  -- no cut of it lies inside a pair
  pub list-untorn : torn u p ≡ false
  unfolding torn
  list-untorn = rw (ne_eqb p.row.kind TEXT (λ e. omega (arith, kind))) (go (is_whole p))
    where
      go : (x : Bool) → pick x false false ≡ false
      go true = refl
      go false = refl

  pub list-row : Sound u p.row → IsList u p.row.part p.row.length.0
  list-row sound = record { lies = sound.stored.lies; values = sound.stored.any kind }

  -- it has as many values as units
  pub list-piece : Sound u p.row → p.from ≤ p.to → p.to ≤ p.row.length.0 → IsList u (part_of u p) (p.to - p.from)
  list-piece sound l m =
      subst (λ (q : Part). IsList u q (p.to - p.from)) (sym list-part)
      (list-cut u p.row.part p.row.length.0 (list-row sound) p.from (p.to - p.from) (omega arith))
