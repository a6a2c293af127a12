-- A value onto its column, by the ways that a push goes: it is not taken, it begins a run, goes on with it, or ends it. Once for all columns.
use Prim.Native.Nat.{ℕ, ◌+◌, ◌-◌, ◌*◌, ◌≤◌, ◌<◌}
use mathlib.Core.Path.{◌≡◌, refl, sym, ap, ◌∙◌}
use mathlib.Core.Logic.{◌≢◌}
use mathlib.Core.Bool.{Bool, true, false}
use mathlib.Core.List.{List, []}
use native.Mathlib.Nat.{add-zero}
use native.Mathlib.Omega.{arith}
use lib.Dec.{ltb, leb, eqb}
use lib.ListN.{length, get_or}
use borrow.Author.Tests.{le-leb, lt-leb, eq-eqb, ne_eqb}
use Rattle.numbers.specs.Number.{pick}
use Rattle.runs.specs.declared.ColumnKind.{ColumnKind}
use Rattle.runs.specs.declared.writer.Writer.{Writer}
use Rattle.runs.specs.Runs.{coding}
use Rattle.runs.specs.RunsInner.{key_most}
use Rattle.runs.proofs.Writing.{key-most}
use Rattle.runs.specs.Writer.{ends, key_after, emitted, moved, pushed}
use Rattle.parts.specs.Brim.{brim}
use Rattle.tokens.specs.Tokens.{column_in}
use Rattle.tokens.specs.Lanes.{Lane, lay, takes, pushed_on, laid_value}
use Rattle.tokens.specs.Desk.{lane_in, Tidy, Alone}
use Rattle.tokens.proofs.Laying.{pick_same, lay-none, takes-true, value-left, far_with}
use Rattle.tokens.proofs.Words.{alone-none, alone-then, alone-is}

-- ---- whether it is taken

-- below the brim, as the code tests it
abbrev pub fitted : ℕ → ℕ → Bool
fitted at count = pick (ltb at brim) (ltb count brim) false

module _ (w : Writer) (v : ℕ) where
  shut : fitted w.at w.count ≡ false → takes w v ≡ false
  unfolding takes
  shut h = go (ltb w.at brim) (ltb w.count brim) h
    where
      go : (a b : Bool) → pick a b false ≡ false → pick a (pick b (leb v (coding w.column).most) false) false ≡ false
      go true b h = rw h
      go false b h = refl

  over : (coding w.column).most < v → takes w v ≡ false
  unfolding takes
  over h = rw (lt-leb v (coding w.column).most h, pick_same (ltb w.count brim) false, pick_same (ltb w.at brim) false)

  pub taken : fitted w.at w.count ≡ true → v ≤ (coding w.column).most → takes w v ≡ true
  unfolding takes
  taken h l = rw (le-leb v (coding w.column).most l) (go (ltb w.at brim) (ltb w.count brim) h)
    where
      go : (a b : Bool) → pick a b false ≡ true → pick a (pick b true false) false ≡ true
      go true b h = rw h
      go false b h = h

-- ---- what it leaves, by whether it ends the run

module _ (out : List ℕ) (e : Lane) (v : ℕ) (t : takes e.run v ≡ true) where
  abbrev spelled : List ℕ
  spelled = (coding e.run.column).spell e.run.key (e.run.count - 1)

  state : (x : Bool) (at last key count : ℕ) (far : Bool) → ends (key_after e.run v) e.run ≡ x → at ≡ e.run.at + length (pick x spelled []) → last ≡ v
      → key ≡ key_after e.run v → count ≡ pick x 1 (e.run.count + 1) → far ≡ far_with e v
      → record { lane = e.lane; run = record { column = e.run.column; at = at; last = last; key = key; count = count }; far = far } ≡ pushed_on e v
  unfolding pushed_on pushed moved emitted
  state x at last key count far h a l k n f = rw (t, a, l, k, n, f, h)

  bytes : (x : Bool) → ends (key_after e.run v) e.run ≡ x → lay out e.run.at (pick x spelled []) ≡ laid_value out e v
  unfolding laid_value emitted
  bytes x h = rw (t, h)

  none-under-way : e.run.count ≡ 0 → ends (key_after e.run v) e.run ≡ false
  unfolding ends
  none-under-way h = rw h

  same_key : e.run.key ≡ key_after e.run v → ends (key_after e.run v) e.run ≡ false
  unfolding ends
  same_key h = rw (eq-eqb (key_after e.run v) e.run.key (sym h)) (pick_same (eqb e.run.count 0) false)

  other_key : e.run.count ≢ 0 → e.run.key ≢ key_after e.run v → ends (key_after e.run v) e.run ≡ true
  unfolding ends
  other_key n m = rw (ne_eqb e.run.count 0 n, ne_eqb (key_after e.run v) e.run.key (λ h. m (sym h)))

  unmoved : out ≡ lay out e.run.at []
  unmoved = sym (lay-none out e.run.at)

-- ---- the same in words

-- what a push promises of words and bytes
abbrev pub Pushes : List ℕ → List ℕ → ℕ → ℕ → List ℕ → List ℕ → Type 0
Pushes out w k v w₁ out₁ = Alone k (pushed_on (lane_in w k) v) w w₁ × (out₁ ≡ laid_value out (lane_in w k) v)

module _ (out w : List ℕ) (k v : ℕ) (t : Tidy w) (l : k < 10) where
  not_taken : takes (lane_in w k).run v ≡ false → Pushes out w k v w out
  not_taken h = let x = value-left out (lane_in w k) v h in (alone-is k (lane_in w k) (pushed_on (lane_in w k) v) w w (alone-none k w t l) x.0, x.1)

  pub way-shut : fitted (get_or w (5 * k) 0) (get_or w (5 * k + 3) 0) ≡ false → Pushes out w k v w out
  unfolding lane_in
  way-shut h = not_taken (shut (lane_in w k).run v h)

  pub way-over : (coding (column_in k)).most < v → Pushes out w k v w out
  unfolding lane_in
  way-over h = not_taken (over (lane_in w k).run v h)

-- lane k with its far as it is after v
abbrev pub far_noted : List ℕ → ℕ → ℕ → Lane
far_noted w k v = record { lane = k; run = (lane_in w k).run; far = far_with (lane_in w k) v }

-- lane k takes v with this key, w₀ being the words with its far noted
pub record Takes (w w₀ : List ℕ) (k v last key : ℕ) : Type 0 where
  pub tidy : Tidy w
  pub lane : k < 10
  pub fits : fitted (get_or w (5 * k) 0) (get_or w (5 * k + 3) 0) ≡ true
  pub most : v ≤ (coding (column_in k)).most
  pub far : Alone k (far_noted w k v) w w₀
  pub newest : last ≡ v
  pub step : key ≡ (coding (column_in k)).key_of (get_or w (5 * k + 1) 0) v

-- the lane that is then noted
abbrev pub noted_lane : List ℕ → ℕ → ℕ → ℕ → ℕ → ℕ → Lane
noted_lane w₀ k at last key count = record {
  lane = k;
  run = record { column = column_in k; at = at; last = last; key = key; count = count };
  far = (lane_in w₀ k).far;
}

module _ {w w₀ : List ℕ} {k v last key : ℕ} (s : Takes w w₀ k v last key) where
  takes-it : takes (lane_in w k).run v ≡ true
  unfolding lane_in
  takes-it = taken (lane_in w k).run v s.fits s.most

  key-it : key ≡ key_after (lane_in w k).run v
  unfolding lane_in key_after
  key-it = s.step

  -- below the brim
  pub low : (get_or w (5 * k) 0 < brim) × (get_or w (5 * k + 3) 0 < brim)
  unfolding lane_in
  low = let x = takes-true (lane_in w k).run v takes-it in (x.0, x.1)

  -- what noting it asks
  pub may-note : Tidy w₀ × (k < 10) × (last ≤ (coding (column_in k)).most) × (key ≤ key_most (column_in k))
  may-note = (s.far.tidy, s.lane, rw s.newest s.most, rw s.step (key-most (column_in k) (get_or w (5 * k + 1) 0) v s.most))

  module _ (out : List ℕ) where
    way : (x : Bool) (at count : ℕ) (w₁ : List ℕ) → ends (key_after (lane_in w k).run v) (lane_in w k).run ≡ x
        → at ≡ (lane_in w k).run.at + length (pick x (spelled out (lane_in w k) v takes-it) []) → count ≡ pick x 1 ((lane_in w k).run.count + 1)
        → Alone k (noted_lane w₀ k at last key count) w₀ w₁ → Alone k (pushed_on (lane_in w k) v) w w₁
    unfolding lane_in
    way x at count w₁ h p n b =
        alone-then k (far_noted w k v) (pushed_on (lane_in w k) v) w w₀ w₁ s.far
        (alone-is k (noted_lane w₀ k at last key count) (pushed_on (lane_in w k) v) w₀ w₁ b
        (state out (lane_in w k) v takes-it x at last key count (lane_in w₀ k).far h p s.newest key-it n (ap (λ (e : Lane). e.far) s.far.own)))

    unchanged : ends (key_after (lane_in w k).run v) (lane_in w k).run ≡ false → out ≡ laid_value out (lane_in w k) v
    unchanged h = unmoved out (lane_in w k) v takes-it ∙ bytes out (lane_in w k) v takes-it false h

    pub way-begun : (w₁ : List ℕ) → get_or w (5 * k + 3) 0 ≡ 0 → Alone k (noted_lane w₀ k (get_or w (5 * k) 0) last key 1) w₀ w₁ → Pushes out w k v w₁ out
    unfolding lane_in
    way-begun w₁ n b =
        let h = none-under-way out (lane_in w k) v takes-it n in
        (way false (get_or w (5 * k) 0) 1 w₁ h (sym (add-zero (get_or w (5 * k) 0))) (omega (arith, n)) b, unchanged h)

    pub way_same : (w₁ : List ℕ) → get_or w (5 * k + 2) 0 ≡ key
        → Alone k (noted_lane w₀ k (get_or w (5 * k) 0) last key (get_or w (5 * k + 3) 0 + 1)) w₀ w₁ → Pushes out w k v w₁ out
    unfolding lane_in
    way_same w₁ n b =
        let h = same_key out (lane_in w k) v takes-it (n ∙ key-it) in
        (way false (get_or w (5 * k) 0) (get_or w (5 * k + 3) 0 + 1) w₁ h (sym (add-zero (get_or w (5 * k) 0))) refl b, unchanged h)

    -- the lane then, whether it is written or measured
    pub lane-ended : (at : ℕ) (w₁ : List ℕ) → get_or w (5 * k + 3) 0 ≢ 0 → get_or w (5 * k + 2) 0 ≢ key
        → at ≡ get_or w (5 * k) 0 + length ((coding (column_in k)).spell (get_or w (5 * k + 2) 0) (get_or w (5 * k + 3) 0 - 1))
        → Alone k (noted_lane w₀ k at last key 1) w₀ w₁ → Alone k (pushed_on (lane_in w k) v) w w₁
    unfolding lane_in
    lane-ended at w₁ n d p b = way true at 1 w₁ (other_key out (lane_in w k) v takes-it n (λ e. d (e ∙ sym key-it))) p refl b

    pub way-ended : (at : ℕ) (w₁ out₁ : List ℕ) → get_or w (5 * k + 3) 0 ≢ 0 → get_or w (5 * k + 2) 0 ≢ key
        → at ≡ get_or w (5 * k) 0 + length ((coding (column_in k)).spell (get_or w (5 * k + 2) 0) (get_or w (5 * k + 3) 0 - 1))
        → out₁ ≡ lay out (get_or w (5 * k) 0) ((coding (column_in k)).spell (get_or w (5 * k + 2) 0) (get_or w (5 * k + 3) 0 - 1))
        → Alone k (noted_lane w₀ k at last key 1) w₀ w₁ → Pushes out w k v w₁ out₁
    unfolding lane_in
    way-ended at w₁ out₁ n d p q b =
        (lane-ended at w₁ n d p b, q ∙ bytes out (lane_in w k) v takes-it true (other_key out (lane_in w k) v takes-it n (λ e. d (e ∙ sym key-it))))

-- ---- the lane's far

pub far-after : (w : List ℕ) (k v : ℕ) (col : ColumnKind) → column_in k ≡ col → (w₁ : List ℕ) (key : ℕ) → key ≡ (coding (column_in k)).key_of (get_or w (5 * k + 1) 0) v
    → Alone k (record { lane = k; run = (lane_in w k).run; far = pick ((coding col).near key) (lane_in w k).far true }) w w₁
    → Alone k (far_noted w k v) w w₁
unfolding lane_in key_after
far-after w k v col h w₁ key e a =
    alone-is k (record { lane = k; run = (lane_in w k).run; far = pick ((coding col).near key) (lane_in w k).far true }) (far_noted w k v) w w₁ a
    (ap (λ (b : Bool). record { lane = k; run = (lane_in w k).run; far = pick b (lane_in w k).far true })
    (ap (λ (c : ColumnKind). (coding c).near key) (sym h) ∙ ap (coding (column_in k)).near e))

-- as the code tests it
pub far-of : (near : Bool) → pick near false true ≡ true → near ≡ false
far-of true h = sym h
far-of false h = refl

pub near_of : (near : Bool) → pick near false true ≡ false → near ≡ true
near_of true h = refl
near_of false h = sym h
