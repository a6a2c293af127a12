-- From lanes to a form: what a writer of one token leaves, lane by lane, is what all lanes of the form have after it. Form 1 has one lane, in line; of a
-- field one lane of form 2 takes something, of a text two.
use Prim.Native.Nat.{ℕ, zero, suc, ◌≤◌, ◌<◌}
use mathlib.Core.Path.{◌≡◌, refl, sym, ap, ◌∙◌}
use mathlib.Core.Logic.{◌≢◌}
use mathlib.Core.Bool.{Bool, true, false}
use mathlib.Core.List.{List, [], ◌∷◌, ◌++◌}
use native.Mathlib.Omega.{arith}
use lib.Dec.{ltb, eqb}
use borrow.Author.Tests.{ltb-true, ltb-false, eq-eqb, ne_eqb, eqb-true, eqb-false}
use Rattle.tokens.specs.Tokens.{Token, field, text, texts, units, rest, whole, taken, in_line}
use Rattle.tokens.specs.Lanes.{Lane, fresh_lane, ahead, laid_at, forward, laid_bytes, pushed_on, laid_value, put, laid}
use Rattle.tokens.specs.Desk.{put_each, laid_each, put_tokens, laid_tokens, lane_in, lanes_in, desk_in, Tidy, SameKeys, Wrote, Alone}
use Rattle.tokens.proofs.Taking.{in-line, field-own, field-other, text-texts, text-units, text-other, takes_none, takes-bytes, takes-value}
use Rattle.tokens.proofs.Places.{forward-ahead, laid-place}

-- ---- a lane in line

module _ (out : List ℕ) (k at : ℕ) (t : Token) (b : List ℕ) (i : in_line k ≡ true) (h : taken k t ≡ b) where
  pub line-put : fresh_lane k (ahead at b) ≡ put (fresh_lane k at) t
  line-put = forward-ahead out (fresh_lane k at) b ∙ (takes-bytes out (fresh_lane k at) t b i h).0

  pub line-laid : laid_at out at b ≡ laid out (fresh_lane k at) t
  line-laid = laid-place out (fresh_lane k at) b ∙ (takes-bytes out (fresh_lane k at) t b i h).1

-- ---- form 1

module _ (form at : ℕ) (out w : List ℕ) (t : Token) where
  pub wrote-whole : form ≡ 1 → Tidy w → (b out₁ : List ℕ) (r : ℕ) → taken whole t ≡ b → r ≡ ahead at b → out₁ ≡ laid_at out at b
      → Wrote form (t ∷ []) out w at out₁ w r
  unfolding desk_in put_tokens put_each laid_tokens laid_each
  wrote-whole f d b out₁ r h p q =
      let one = eq-eqb form 1 f in
      let i = in-line whole refl in
      record {
        desk = rw (one, p) (ap (λ (e : Lane). e ∷ []) (line-put out whole at t b i h));
        bytes = q ∙ rw one (line-laid out whole at t b i h);
        tidy = d;
        keys = λ p l. refl;
      }

  -- ---- form 2, lane by lane

  -- the bytes after the first n lanes have taken theirs
  unfoldable pub laid_to : ℕ → List ℕ
  laid_to zero = out
  laid_to (suc n) = laid (laid_to n) (lane_in w n) t

  laid-start : laid_to zero ≡ out
  unfolding laid_to
  laid-start = refl

  laid-step : (n : ℕ) → laid_to (suc n) ≡ laid (laid_to n) (lane_in w n) t
  unfolding laid_to
  laid-step n = refl

  -- the lanes side by side, and then the rest
  side_by_side : (w₁ : List ℕ) (e e₁ : Lane) → ((j : ℕ) → j < 10 → lane_in w₁ j ≡ put (lane_in w j) t) → e₁ ≡ put e t
      → lanes_in w₁ ++ (e₁ ∷ []) ≡ put_each (lanes_in w ++ (e ∷ [])) t
  unfolding lanes_in put_each
  side_by_side w₁ e e₁ h g =
      rw (
        g,
        h 0 (omega arith),
        h 1 (omega arith),
        h 2 (omega arith),
        h 3 (omega arith),
        h 4 (omega arith),
        h 5 (omega arith),
        h 6 (omega arith),
        h 7 (omega arith),
        h 8 (omega arith),
        h 9 (omega arith),
      )

  laid-all : (e : Lane) → laid_each out (lanes_in w ++ (e ∷ [])) t ≡ laid (laid_to 10) e t
  unfolding lanes_in laid_each laid_to
  laid-all e = refl

  pub wrote-lanes : form ≢ 1 → (out₁ w₁ : List ℕ) → ((j : ℕ) → j < 10 → lane_in w₁ j ≡ put (lane_in w j) t) → taken rest t ≡ [] → out₁ ≡ laid_to 10 → Tidy w₁ → SameKeys w w₁
      → Wrote form (t ∷ []) out w at out₁ w₁ at
  unfolding desk_in put_tokens laid_tokens
  wrote-lanes f out₁ w₁ h n q d s =
      let two = ne_eqb form 1 f in
      let e = fresh_lane rest at in
      record {
        desk = rw two (side_by_side w₁ e e h (takes_none out e t n).0);
        bytes = q ∙ (takes_none (laid_to 10) e t n).1 ∙ rw two (sym (laid-all e));
        tidy = d;
        keys = s;
      }

  module _ (j : ℕ) (n : taken j t ≡ []) where
    -- a lane that takes nothing
    idle-lane : lane_in w j ≡ put (lane_in w j) t
    unfolding lane_in
    idle-lane = (takes_none out (lane_in w j) t n).0

    idle-laid : laid_to (suc j) ≡ laid_to j
    unfolding lane_in
    idle-laid = laid-step j ∙ sym (takes_none (laid_to j) (lane_in w j) t n).1

  -- one lane takes something
  module _ (k : ℕ) (l : k < 10) (nothing : (j : ℕ) → j < 11 → j ≢ k → taken j t ≡ []) where
    below : (n : ℕ) → n ≤ k → laid_to n ≡ out
    unfolding laid_to
    below zero m = refl
    below (suc n) m = idle-laid n (nothing n (omega arith) (λ h. absurd (omega arith))) ∙ below n (omega arith)

    past : (n : ℕ) → k < n → n < 11 → laid_to n ≡ laid out (lane_in w k) t
    past zero m o = absurd (omega arith)
    past (suc n) m o = go (eqb n k) refl (λ h. past n h (omega arith))
      where
        go : (b : Bool) → eqb n k ≡ b → (k < n → laid_to n ≡ laid out (lane_in w k) t) → laid_to (suc n) ≡ laid out (lane_in w k) t
        go true e more = let s = eqb-true n k e in laid-step n ∙ rw (s, below k (omega arith))
        go false e more = let x = eqb-false n k e in idle-laid n (nothing n (omega arith) x) ∙ more (later (ltb k n) refl x)
          where
            later : (b : Bool) → ltb k n ≡ b → n ≢ k → k < n
            later true h x = ltb-true k n h
            later false h x = absurd (x (omega (arith, ltb-false k n h)))

    pub wrote-alone : form ≢ 1 → (out₁ w₁ : List ℕ) → Alone k (put (lane_in w k) t) w w₁ → out₁ ≡ laid out (lane_in w k) t → Wrote form (t ∷ []) out w at out₁ w₁ at
    wrote-alone f out₁ w₁ a q =
        wrote-lanes f out₁ w₁ each (nothing rest (omega arith) (λ h. absurd (omega arith))) (q ∙ sym (past 10 (omega arith) (omega arith))) a.tidy a.keys
      where
        each : (j : ℕ) → j < 10 → lane_in w₁ j ≡ put (lane_in w j) t
        each j m = go (eqb j k) refl
          where
            go : (b : Bool) → eqb j k ≡ b → lane_in w₁ j ≡ put (lane_in w j) t
            go true e = rw (eqb-true j k e) a.own
            go false e = let x = eqb-false j k e in a.others j m x ∙ idle-lane j (nothing j (omega arith) x)

-- ---- a field, and a text

module _ (form at : ℕ) (out w : List ℕ) (f : form ≢ 1) where
  pub wrote-field : (k v : ℕ) → k < 10 → in_line k ≡ false → (out₁ w₁ : List ℕ) → Alone k (pushed_on (lane_in w k) v) w w₁ → out₁ ≡ laid_value out (lane_in w k) v
      → Wrote form (field k v ∷ []) out w at out₁ w₁ at
  unfolding lane_in
  wrote-field k v l i out₁ w₁ a q =
      let t = field k v in
      let x = takes-value out (lane_in w k) t v i (field-own k k v (λ h. absurd (omega arith)) refl) in
      wrote-alone form at out w t k l (λ j m n. field-other j k v (λ h. absurd (omega arith)) n) f out₁ w₁ (rw x.0 at a) (q ∙ x.1)

  pub wrote-text : (b : List ℕ) (n : ℕ) (out₁ w₁ out₂ w₂ : List ℕ)
      → Alone texts (forward (lane_in w texts) b) w w₁ → out₁ ≡ laid_bytes out (lane_in w texts) b
      → Alone units (pushed_on (lane_in w₁ units) n) w₁ w₂ → out₂ ≡ laid_value out₁ (lane_in w₁ units) n
      → Wrote form (text b n ∷ []) out w at out₂ w₂ at
  unfolding lane_in in_line
  wrote-text b n out₁ w₁ out₂ w₂ a p d q =
      wrote-lanes form at out w (text b n) f out₂ w₂ each (none 10 (omega arith) (λ h. absurd (omega arith)) (λ h. absurd (omega arith))) bytes d.tidy (λ p l. d.keys p l ∙ a.keys p l)
    where
      none : (j : ℕ) → j < 11 → j ≢ texts → j ≢ units → taken j (text b n) ≡ []
      none j m x y = text-other j b n (λ h. absurd (omega arith)) x y

      bytes_of : (forward (lane_in w texts) b ≡ put (lane_in w texts) (text b n)) × (laid_bytes out (lane_in w texts) b ≡ laid out (lane_in w texts) (text b n))
      bytes_of = takes-bytes out (lane_in w texts) (text b n) b refl (text-texts texts b n (λ h. absurd (omega arith)) refl)

      units_of : (o : List ℕ) → (pushed_on (lane_in w units) n ≡ put (lane_in w units) (text b n)) × (laid_value o (lane_in w units) n ≡ laid o (lane_in w units) (text b n))
      units_of o = takes-value o (lane_in w units) (text b n) n refl (text-units units b n (λ h. absurd (omega arith)) (λ h. absurd (omega arith)) refl)

      same : lane_in w₁ units ≡ lane_in w units
      same = a.others units (omega arith) (λ h. absurd (omega arith))

      each : (j : ℕ) → j < 10 → lane_in w₂ j ≡ put (lane_in w j) (text b n)
      each j m = go (eqb j texts) (eqb j units) refl refl
        where
          go : (x y : Bool) → eqb j texts ≡ x → eqb j units ≡ y → lane_in w₂ j ≡ put (lane_in w j) (text b n)
          go true y g h = rw (eqb-true j texts g) (d.others texts (omega arith) (λ h. absurd (omega arith)) ∙ a.own ∙ bytes_of.0)
          go false true g h = rw (eqb-true j units h) (d.own ∙ ap (λ (e : Lane). pushed_on e n) same ∙ (units_of out).0)
          go false false g h =
              let x = eqb-false j texts g in
              let y = eqb-false j units h in
              d.others j m y ∙ a.others j m x ∙ idle-lane form at out w (text b n) j (none j (omega arith) x y)

      idle : (j : ℕ) → j < 11 → j ≢ texts → j ≢ units → laid_to form at out w (text b n) (suc j) ≡ laid_to form at out w (text b n) j
      idle j m x y = idle-laid form at out w (text b n) j (none j m x y)

      before-texts : laid_to form at out w (text b n) 5 ≡ out
      before-texts =
          idle 4 (omega arith) (λ h. absurd (omega arith)) (λ h. absurd (omega arith)) ∙ idle 3 (omega arith) (λ h. absurd (omega arith)) (λ h. absurd (omega arith)) ∙ idle 2 (omega arith) (λ h. absurd (omega arith)) (λ h. absurd (omega arith))
          ∙ idle 1 (omega arith) (λ h. absurd (omega arith)) (λ h. absurd (omega arith)) ∙ idle 0 (omega arith) (λ h. absurd (omega arith)) (λ h. absurd (omega arith)) ∙ laid-start form at out w (text b n)

      after-texts : laid_to form at out w (text b n) 6 ≡ out₁
      after-texts = laid-step form at out w (text b n) 5 ∙ rw before-texts (sym (p ∙ bytes_of.1))

      after-units : laid_to form at out w (text b n) 7 ≡ out₂
      after-units = laid-step form at out w (text b n) 6 ∙ rw after-texts (sym (q ∙ ap (λ (e : Lane). laid_value out₁ e n) same ∙ (units_of out₁).1))

      bytes : out₂ ≡ laid_to form at out w (text b n) 10
      bytes =
          sym (idle 9 (omega arith) (λ h. absurd (omega arith)) (λ h. absurd (omega arith)) ∙ idle 8 (omega arith) (λ h. absurd (omega arith)) (λ h. absurd (omega arith))
          ∙ idle 7 (omega arith) (λ h. absurd (omega arith)) (λ h. absurd (omega arith))
          ∙ after-units)
