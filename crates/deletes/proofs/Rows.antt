-- The rows that the steps fill: those stored and those to come are all that the words take.
use Rattle.std.specs.Prelude.{Result, Ok, Err}
use Prim.Native.Nat.{ℕ, zero, suc, ◌+◌, ◌-◌, ◌*◌, ◌/◌, ◌≤◌, ◌<◌}
use mathlib.Core.Path.{◌≡◌, refl, sym, ap, ◌∙◌, subst}
use mathlib.Core.List.{List, [], ◌∷◌, ◌++◌, append-nil, append_assoc}
use mathlib.Core.Logic.{⊎_elim}
use native.Mathlib.Omega.{arith}
use lib.ListN.{length, take, drop, length-append, take-append-drop}
use Rattle.numbers.specs.declared.Refusal.{Refusal}
use Rattle.grammar.specs.Course.{Course, thing, over, stopped, fit, things, ending}
use Rattle.ranges.specs.Ranges.{Range}
use Rattle.ranges.specs.Table.{flat}
use Rattle.ranges.specs.TableInner.{row, put, rows_from, Fine, AllFine}
use Rattle.ranges.proofs.Flat.{length-rows, take-flat, rows-flat, flat-put}
use Rattle.ranges.proofs.Rows.{length-put, row-put-same, row-put-other, lt-or}
use Rattle.deletes.specs.Steps.{Kept}

-- ---- a row stored after the others

module _ (w : List ℕ) (n : ℕ) (q : Range) (h : 3 * n + 3 ≤ length w) where
  rows-stored : rows_from (put w n q) 0 (n + 1) ≡ rows_from w 0 n ++ (q ∷ [])
  rows-stored =
      let l = rows_from w 0 n ++ (q ∷ []) in
      let t = drop (3 * (n + 1)) (put w n q) in
      let front : take (3 * (n + 1)) (put w n q) ≡ flat l = flat-put w n (rows_from w 0 n) q (take-flat w n (omega arith)) h in
      let whole : put w n q ≡ flat l ++ t = sym (take-append-drop (3 * (n + 1)) (put w n q)) ∙ ap (λ (x : List ℕ). x ++ t) front in
      let size : length l ≡ n + 1 = length-append (rows_from w 0 n) (q ∷ []) ∙ rw (length-rows w 0 n) in
      ap (λ (x : List ℕ). rows_from x 0 (n + 1)) whole ∙ subst (λ (m : ℕ). rows_from (flat l ++ t) 0 m ≡ l) size (rows-flat l t)

  fine-stored : AllFine w n → Fine q → AllFine (put w n q) (n + 1)
  unfolding AllFine
  fine-stored f g i l =
      ⊎_elim
      (λ b. subst Fine (sym (row-put-other w n i q (λ e. omega arith))) (f i b))
      (λ b. let e : i ≡ n = omega arith in subst (λ (x : ℕ). Fine (row (put w n q) x)) (sym e) (subst Fine (sym (row-put-same w n q h)) g))
      (lt-or n i)

-- ---- what so many rows take

fit-over : (n t : ℕ) → fit {S = ℕ} {E = Range} {A = Unit {0}} n (over tt t) ≡ over tt t
unfolding fit
fit-over zero t = refl
fit-over (suc n) t = refl

fit-stopped : (n : ℕ) (why : Refusal) → fit {S = ℕ} {E = Range} {A = Unit {0}} n (stopped why) ≡ stopped why
unfolding fit
fit-stopped zero why = refl
fit-stopped (suc n) why = refl

-- how a course ends, told with a count of rows
abbrev pub told_with : ℕ → Course Range → Result (ℕ × ℕ) Refusal
told_with m c = ending c (λ t. Ok (m, t)) Err

-- n rows of the course c are stored in w, which was e, and d is to come
pub record Held (e : List ℕ) (c : Course Range) (w : List ℕ) (d : Course Range) (n : ℕ) : Type 0 where
  pub size : length w ≡ length e
  pub below : n ≤ length e / 3
  pub fine : AllFine w n
  pub all : things (fit (length e / 3) c) ≡ rows_from w 0 n ++ things (fit (length e / 3 - n) d)
  pub ends : (m : ℕ) → told_with m (fit (length e / 3) c) ≡ told_with m (fit (length e / 3 - n) d)

pub held-begin : (e : List ℕ) (c : Course Range) → Held e c e c 0
unfolding AllFine rows_from
held-begin e c =
    let z : length e / 3 - 0 ≡ length e / 3 = omega arith in
    record { size = refl; below = omega arith; fine = λ i l. absurd (omega arith); all = rw z refl; ends = λ m. rw z refl }

module _ (e : List ℕ) (c : Course Range) (w : List ℕ) (d : Course Range) (n : ℕ) (h : Held e c w d n) where
  pub held_on : (d' : Course Range) → d ≡ d' → Held e c w d' n
  held_on d' q = subst (λ (x : Course Range). Held e c w x n) q h

  pub held_more : (r : Range) (p : ℕ) (d' : Course Range) → d ≡ thing r p d' → Fine r → n < length e / 3 → Held e c (put w n r) d' (n + 1)
  unfolding fit things ending
  held_more r p d' q f l =
      let m : length e / 3 - n ≡ suc (length e / 3 - (n + 1)) = omega arith in
      let room : 3 * n + 3 ≤ length w = omega (arith, h.size) in
      let some : fit (length e / 3 - n) d ≡ thing r p (fit (length e / 3 - (n + 1)) d') = rw (q, m) refl in
      record {
        size = length-put w n r ∙ h.size;
        below = omega arith;
        fine = fine-stored w n r room h.fine f;
        all = h.all ∙ rw (some, rows-stored w n r room) (sym (append_assoc (rows_from w 0 n) (r ∷ []) (things (fit (length e / 3 - (n + 1)) d'))));
        ends = λ m. h.ends m ∙ rw some refl;
      }

  -- nothing follows: these are the rows
  held-over : (r : Result (ℕ × ℕ) Refusal) (x : Course Range) → fit (length e / 3 - n) d ≡ x → things x ≡ [] → r ≡ told_with n x → Kept e w (fit (length e / 3) c) r
  held-over r x f none told =
      let all : things (fit (length e / 3) c) ≡ rows_from w 0 n = h.all ∙ rw (f, none) (append-nil (rows_from w 0 n)) in
      let count : length (things (fit (length e / 3) c)) ≡ n = ap length all ∙ length-rows w 0 n in
      record {
        size = h.size;
        fits = omega (arith, count, h.size, h.below);
        rows = rw count (sym all);
        fine = rw count h.fine;
        told = rw count (told ∙ sym (h.ends n ∙ rw f refl));
      }

  pub held-done : (t : ℕ) → d ≡ over tt t → Kept e w (fit (length e / 3) c) (Ok (n, t))
  unfolding things ending
  held-done t q = held-over (Ok (n, t)) (over tt t) (rw q (fit-over (length e / 3 - n) t)) refl refl

  held-stopped : (why : Refusal) → fit (length e / 3 - n) d ≡ stopped why → Kept e w (fit (length e / 3) c) (Err why)
  unfolding things ending
  held-stopped why q = held-over (Err why) (stopped why) q refl refl

  pub held-refused : (why : Refusal) → d ≡ stopped why → Kept e w (fit (length e / 3) c) (Err why)
  held-refused why q = held-stopped why (rw q (fit-stopped (length e / 3 - n) why))

  pub held-full : (r : Range) (p : ℕ) (d' : Course Range) → d ≡ thing r p d' → length e / 3 ≤ n → Kept e w (fit (length e / 3) c) (Err (record { number = 8; place = p }))
  unfolding fit
  held-full r p d' q l = let z : length e / 3 - n ≡ 0 = omega arith in held-stopped (record { number = 8; place = p }) (rw (q, z) refl)
