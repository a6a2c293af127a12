-- Values go by their own bytes: where they are copied, they are read again.
use Prim.Native.Nat.{ℕ, zero, suc, ◌+◌, ◌-◌, ◌*◌, ◌%◌, ◌≤◌, ◌<◌}
use mathlib.Core.Path.{◌≡◌, refl, subst, sym, ap, ◌∙◌}
use mathlib.Core.Bool.{Bool, true, false}
use mathlib.Core.List.{List, [], ◌∷◌, ◌++◌}
use native.Mathlib.Omega.{arith}
use lib.Dec.{ltb, eqb}
use lib.ListN.{length, get_or, take, drop, length-drop, take-append-drop, length-append, get_or-append}
use lib.Seq.{slice, ext_get_or, get_or-take, get_or-drop, length-take-le, length-slice, take-append_seam, get_or-append-add}
use borrow.Author.Tests.{le-ltb, lt-leb}
use Rattle.numbers.specs.declared.Read.{Read}
use Rattle.numbers.specs.declared.Read.TheVariants as read
use Rattle.numbers.specs.Number.{pick, Spelt, got, short, long, low_part, spelt, spelt_signed, answer_at, with_sign, minus_of, read_unsigned, read_signed}
use Rattle.text.specs.Utf8.{well_formed}
use Rattle.anys.specs.declared.Skipped.{Skipped}
use Rattle.anys.specs.declared.Skipped.TheVariants.{At, Refused}
use Rattle.anys.specs.declared.Head.{Head}
use Rattle.anys.specs.Any.{refused, then_at, on_count, on_signed, signed_at, skip_bytes, skip_led, text_from, text_at, tagged, head_at, on_head, each, member, any, deepest, anys}
use Rattle.anys.proofs.Places.{read-ends, Ends, lower, counted-ends, bytes-end, text-from-ends, text-ends, buf-ends, signed-ends}
use Rattle.anys.proofs.Laws.{each-ends, entry-ends, any-ends, anys-none, anys-ends, anys-bytes}

-- ---- the same bytes

-- the n bytes of u from `at` on and those of v from `bt` on are the same
pub record Alike (u : List ℕ) (at : ℕ) (v : List ℕ) (bt n : ℕ) : Type 0 where
  pub here : at + n ≤ length u
  pub there : bt + n ≤ length v
  pub same : (i : ℕ) → i < n → get_or u (at + i) 0 ≡ get_or v (bt + i) 0

module _ (u v : List ℕ) (at bt n : ℕ) (x : Alike u at v bt n) where
  pub part : (a b : ℕ) → a + b ≤ n → Alike u (at + a) v (bt + a) b
  part a b h = record {
    here = omega (arith, x.here);
    there = omega (arith, x.there);
    same = λ i l.
        let e : at + a + i ≡ at + (a + i) = omega arith in
        let f : bt + (a + i) ≡ bt + a + i = omega arith in
        ap (λ (j : ℕ). get_or u j 0) e ∙ x.same (a + i) (omega arith) ∙ ap (λ (j : ℕ). get_or v j 0) f;
  }

  pub front : (b : ℕ) → b ≤ n → Alike u at v bt b
  front b h = record { here = omega (arith, x.here); there = omega (arith, x.there); same = λ i l. x.same i (omega arith) }

  lists : take n (drop at u) ≡ take n (drop bt v)
  lists =
      let a : length (take n (drop at u)) ≡ n = length-take-le n (drop at u) (omega (arith, length-drop at u, x.here)) in
      let b : length (take n (drop bt v)) ≡ n = length-take-le n (drop bt v) (omega (arith, length-drop bt v, x.there)) in
      ext_get_or 0 (take n (drop at u)) (take n (drop bt v)) (a ∙ sym b)
      (λ i l. get_or-take n (drop at u) i 0 (omega arith) ∙ get_or-drop at u i 0 ∙ x.same i (omega arith) ∙ sym (get_or-take n (drop bt v) i 0 (omega arith) ∙ get_or-drop bt v i 0))

  slices : slice at (at + n) u ≡ slice bt (bt + n) v
  slices =
      let a : length (slice at (at + n) u) ≡ n = length-slice at (at + n) u x.here ∙ omega arith in
      let b : length (slice bt (bt + n) v) ≡ n = length-slice bt (bt + n) v x.there ∙ omega arith in
      ext_get_or 0 (slice at (at + n) u) (slice bt (bt + n) v) (a ∙ sym b)
      (λ i l. get_or-drop at (take (at + n) u) i 0 ∙ get_or-take (at + n) u (at + i) 0 (omega arith) ∙ x.same i (omega arith)
      ∙ sym (get_or-drop bt (take (bt + n) v) i 0 ∙ get_or-take (bt + n) v (bt + i) 0 (omega arith)))

-- ---- numbers

-- the bytes at the front of t by which F spells x from i up to e, wherever they stand
record Spelling (F : ℕ → List ℕ → Spelt) (i : ℕ) (t : List ℕ) (x e : ℕ) : Type 0 where
  bytes : List ℕ
  others : List ℕ
  stands : t ≡ bytes ++ others
  ends : e ≡ i + length bytes
  again : (j : ℕ) (s : List ℕ) → F j (bytes ++ s) ≡ got x (j + length bytes)

unfoldable Front : (ℕ → List ℕ → Spelt) → ℕ → List ℕ → Spelt → Type 0
Front F i t (got x e) = Spelling F i t x e
Front F i t short = Unit {0}
Front F i t long = Unit {0}

-- a first byte, and then those of a number that was spelt
module _ (F : ℕ → List ℕ → Spelt) (k w low one b : ℕ) (is : (j : ℕ) (s : List ℕ) → F j (b ∷ s) ≡ pick (ltb b 128) (got one (j + 1)) (low_part w low (spelt k (j + 1) s))) where
  front-more : (i : ℕ) (t : List ℕ) → ltb b 128 ≡ false → (r : Spelt) → Front (spelt k) (i + 1) t r → Front F i (b ∷ t) (low_part w low r)
  unfolding Front low_part
  front-more i t l (got x e) p = record {
    bytes = b ∷ p.bytes;
    others = p.others;
    stands = ap (λ (y : List ℕ). b ∷ y) p.stands;
    ends = omega (arith, p.ends);
    again = λ j s. is j (p.bytes ++ s) ∙ rw (l, p.again (j + 1) s) (ap (got (low + w * x)) (omega arith));
  }
  front-more i t l short p = tt
  front-more i t l long p = tt

  front-first : (i : ℕ) (t : List ℕ) → Front (spelt k) (i + 1) t (spelt k (i + 1) t) → (c : Bool) → ltb b 128 ≡ c → Front F i (b ∷ t) (pick c (got one (i + 1)) (low_part w low (spelt k (i + 1) t)))
  unfolding Front
  front-first i t p true l = record { bytes = b ∷ []; others = t; stands = refl; ends = refl; again = λ j s. is j s ∙ rw l refl }
  front-first i t p false l = front-more i t l (spelt k (i + 1) t) p

fronts : (k i : ℕ) (t : List ℕ) → Front (spelt k) i t (spelt k i t)
unfolding Front spelt
fronts zero i t = tt
fronts (suc k) i [] = tt
fronts (suc k) i (b ∷ t) = front-first (spelt (suc k)) k 128 (b - 128) b b (λ j s. refl) i t (fronts k (i + 1) t) (ltb b 128) refl

fronts-signed : (i : ℕ) (t : List ℕ) → Front spelt_signed i t (spelt_signed i t)
unfolding Front spelt_signed
fronts-signed i [] = tt
fronts-signed i (b ∷ t) = front-first spelt_signed 8 64 (b % 64) (b % 64) b (λ j s. refl) i t (fronts 8 (i + 1) t) (ltb b 128) refl

-- what was spelt is spelt again where the same bytes stand
module _ (F : ℕ → List ℕ → Spelt) (u v : List ℕ) (at bt n x e : ℕ) (p : Spelling F at (drop at u) x e) (q : e ≡ at + n) (a : Alike u at v bt n) where
  spelt-again : F bt (drop bt v) ≡ got x (bt + n)
  spelt-again =
      let m : length p.bytes ≡ n = omega (arith, p.ends) in
      let w : take n (drop bt v) ≡ p.bytes = sym (lists u v at bt n a) ∙ ap (take n) p.stands ∙ ap (λ (y : ℕ). take y (p.bytes ++ p.others)) (sym m) ∙ take-append_seam p.bytes p.others in
      let f : drop bt v ≡ p.bytes ++ drop n (drop bt v) = sym (take-append-drop n (drop bt v)) ∙ ap (λ (y : List ℕ). y ++ drop n (drop bt v)) w in
      ap (F bt) f ∙ p.again bt (drop n (drop bt v)) ∙ ap (λ (y : ℕ). got x (bt + y)) m

module _ (u v : List ℕ) (blame blame' : ℕ) where
  unsigned-again : (at bt n x : ℕ) → read_unsigned u at ≡ read.Number x (at + n) → Alike u at v bt n → read_unsigned v bt ≡ read.Number x (bt + n)
  unfolding read_unsigned answer_at Front
  unsigned-again at bt n x h a = go (spelt 9 at (drop at u)) (fronts 9 at (drop at u)) h
    where
      go : (r : Spelt) → Front (spelt 9) at (drop at u) r → answer_at u at r ≡ read.Number x (at + n) → answer_at v bt (spelt 9 bt (drop bt v)) ≡ read.Number x (bt + n)
      go (got y e) p q =
          let e' : e ≡ at + n = cc in
          let y' : y ≡ x = cc in
          rw (spelt-again (spelt 9) u v at bt n y e p e' a) (ap (λ (z : ℕ). read.Number z (bt + n)) y')
      go short p q = absurd (let z : ◌≡◌ {A = ℕ} 0 1 = cc in omega arith)
      go long p q = absurd (let z : ◌≡◌ {A = ℕ} 0 1 = cc in omega arith)

  -- ---- what is passed over

  -- what is passed over from `at` on in u is passed over from `bt` on in v, where the same bytes stand
  abbrev Moves : ℕ → ℕ → Skipped → Skipped → Type 0
  Moves at bt s t = (n : ℕ) → s ≡ At (at + n) → Alike u at v bt n → t ≡ At (bt + n)

  signed-moves : (at bt : ℕ) → Moves at bt (signed_at u at) (signed_at v bt)
  unfolding signed_at read_signed with_sign on_signed answer_at Front
  signed-moves at bt n h a = go (spelt_signed at (drop at u)) (fronts-signed at (drop at u)) h
    where
      go : (r : Spelt) → Front spelt_signed at (drop at u) r → on_signed (with_sign (minus_of (drop at u)) (answer_at u at r)) ≡ At (at + n)
          → on_signed (with_sign (minus_of (drop bt v)) (answer_at v bt (spelt_signed bt (drop bt v)))) ≡ At (bt + n)
      go (got y e) p q =
          let e' : e ≡ at + n = cc in
          rw (spelt-again spelt_signed u v at bt n y e p e' a)
      go short p q = absurd (let z : ◌≡◌ {A = ℕ} 0 1 = cc in omega arith)
      go long p q = absurd (let z : ◌≡◌ {A = ℕ} 0 1 = cc in omega arith)

  bytes-moves : (m at bt : ℕ) → Moves at bt (skip_bytes u m at) (skip_bytes v m bt)
  unfolding skip_bytes
  bytes-moves m at bt n h a = go (ltb (length u - at) m) h
    where
      go : (b : Bool) → pick b (refused 1 (length u)) (At (at + m)) ≡ At (at + n) → pick (ltb (length v - bt) m) (refused 1 (length v)) (At (bt + m)) ≡ At (bt + n)
      go true q = absurd (let z : ◌≡◌ {A = ℕ} 0 1 = cc in omega arith)
      go false q =
          let e : at + m ≡ at + n = cc in
          rw (le-ltb (length v - bt) m (omega (arith, a.there))) (ap At (omega arith))

  text-from-moves : (m at bt : ℕ) → Moves at bt (text_from u m at) (text_from v m bt)
  unfolding text_from skip_bytes then_at
  text-from-moves m at bt n h a = go (ltb (length u - at) m) h
    where
      checked : (b : Bool) → well_formed (slice at (at + m) u) ≡ b → pick b (At (at + m)) (refused 6 at) ≡ At (at + n)
          → then_at (pick (ltb (length v - bt) m) (refused 1 (length v)) (At (bt + m))) (λ end. pick (well_formed (slice bt end v)) (At end) (refused 6 bt)) ≡ At (bt + n)
      checked true w q =
          let e : at + m ≡ at + n = cc in
          let mn : m ≡ n = omega arith in
          let same : well_formed (slice bt (bt + m) v) ≡ true = ap well_formed (sym (slices u v at bt m (front u v at bt n a m (omega arith)))) ∙ w in
          rw (le-ltb (length v - bt) m (omega (arith, a.there)), same) (ap At (omega arith))
      checked false w q = absurd (let z : ◌≡◌ {A = ℕ} 0 1 = cc in omega arith)

      go : (b : Bool) → then_at (pick b (refused 1 (length u)) (At (at + m))) (λ end. pick (well_formed (slice at end u)) (At end) (refused 6 at)) ≡ At (at + n)
          → then_at (pick (ltb (length v - bt) m) (refused 1 (length v)) (At (bt + m))) (λ end. pick (well_formed (slice bt end v)) (At end) (refused 6 bt)) ≡ At (bt + n)
      go true q = absurd (let z : ◌≡◌ {A = ℕ} 0 1 = cc in omega arith)
      go false q = checked (well_formed (slice at (at + m) u)) refl q

  -- what comes a bytes later
  later : (a at bt : ℕ) (s t : Skipped) → Ends u blame (at + a) s → Moves (at + a) (bt + a) s t → Moves at bt s t
  unfolding Ends
  later a at bt (At e) t h f n p x =
      let e' : e ≡ at + n = cc in
      let q : At e ≡ At (at + a + (n - a)) = ap At (omega (arith, h.0)) in
      f (n - a) q (part u v at bt n x a (n - a) (omega (arith, h.0))) ∙ ap At (omega (arith, h.0))
  later a at bt (Refused why) t h f n p x = absurd (let z : ◌≡◌ {A = ℕ} 0 1 = cc in omega arith)

  then-moves : (at bt : ℕ) (s t : Skipped) (f g : ℕ → Skipped) → Ends u blame at s → Moves at bt s t → ((e : ℕ) → e ≤ length u → Ends u blame e (f e))
      → ((e d : ℕ) → e ≤ length u → Moves e d (f e) (g d)) → Moves at bt (then_at s f) (then_at t g)
  unfolding Ends then_at
  then-moves at bt (At e) t f g h m ends moves n p x =
      let a : at + (e - at) ≡ e = omega (arith, h.0) in
      let low : e ≤ at + n = (subst (Ends u blame e) p (ends e h.1)).0 in
      let there : t ≡ At (bt + (e - at)) = m (e - at) (ap At (sym a)) (front u v at bt n x (e - at) (omega arith)) in
      let l : Ends u blame (at + (e - at)) (f e) = subst (λ (y : ℕ). Ends u blame y (f e)) (sym a) (ends e h.1) in
      let k : Moves (at + (e - at)) (bt + (e - at)) (f e) (g (bt + (e - at))) = subst (λ (y : ℕ). Moves y (bt + (e - at)) (f e) (g (bt + (e - at)))) (sym a) (moves e (bt + (e - at)) h.1) in
      rw there (later (e - at) at bt (f e) (g (bt + (e - at))) l k n p x)
  then-moves at bt (Refused why) t f g h m ends moves n p x = absurd (let z : ◌≡◌ {A = ℕ} 0 1 = cc in omega arith)

  counted-moves : (at bt : ℕ) (f g : ℕ → ℕ → Skipped) → ((m e : ℕ) → e ≤ length u → Ends u blame e (f m e))
      → ((m e d : ℕ) → e ≤ length u → Moves e d (f m e) (g m d)) → Moves at bt (on_count (read_unsigned u at) f) (on_count (read_unsigned v bt) g)
  unfolding on_count Ends
  counted-moves at bt f g ends moves n p x = go (read_unsigned u at) refl p
    where
      go : (r : Read) → read_unsigned u at ≡ r → on_count r f ≡ At (at + n) → on_count (read_unsigned v bt) g ≡ At (bt + n)
      go (read.Number m e) q p =
          let b = read-ends u at m e q in
          let a : at + (e - at) ≡ e = omega (arith, b.0) in
          let low : e ≤ at + n = (subst (Ends u blame e) p (ends m e b.1)).0 in
          let there : read_unsigned v bt ≡ read.Number m (bt + (e - at)) = unsigned-again at bt (e - at) m (q ∙ ap (read.Number m) (sym a)) (front u v at bt n x (e - at) (omega arith)) in
          let l : Ends u blame (at + (e - at)) (f m e) = subst (λ (y : ℕ). Ends u blame y (f m e)) (sym a) (ends m e b.1) in
          let k : Moves (at + (e - at)) (bt + (e - at)) (f m e) (g m (bt + (e - at))) = subst (λ (y : ℕ). Moves y (bt + (e - at)) (f m e) (g m (bt + (e - at)))) (sym a) (moves m e (bt + (e - at)) b.1) in
          rw there (later (e - at) at bt (f m e) (g m (bt + (e - at))) l k n p x)
      go (read.Refused why) q p = absurd (let z : ◌≡◌ {A = ℕ} 0 1 = cc in omega arith)

  text-moves : (at bt : ℕ) → Moves at bt (text_at u at) (text_at v bt)
  unfolding text_at
  text-moves at bt = counted-moves at bt (text_from u) (text_from v) (λ m e h. text-from-ends u blame m e h) (λ m e d h. text-from-moves m e d)

  buf-moves : (at bt : ℕ) → Moves at bt (skip_led u at) (skip_led v bt)
  unfolding skip_led
  buf-moves at bt = counted-moves at bt (skip_bytes u) (skip_bytes v) (λ m e h. bytes-end u blame m e h) (λ m e d h. bytes-moves m e d)

  -- ---- values

  place-moves : (a at bt : ℕ) → Moves at bt (At (at + a)) (At (bt + a))
  place-moves a at bt n p x = let e : at + a ≡ at + n = cc in ap At (omega arith)

  refused-moves : (number place at bt : ℕ) (t : Skipped) → Moves at bt (refused number place) t
  refused-moves number place at bt t n p x = absurd (let z : ◌≡◌ {A = ℕ} 0 1 = cc in omega arith)

  -- values that hold others, the one thing that does not go by the tag alone
  module _ (at bt : ℕ) (f g : Bool → Skipped) (m : (keyed : Bool) → Moves at bt (f keyed) (g keyed)) where
    pick-moves : (b : Bool) (x y x' y' : Head) → Moves at bt (on_head x f) (on_head x' g) → Moves at bt (on_head y f) (on_head y' g)
        → Moves at bt (on_head (pick b x y) f) (on_head (pick b x' y') g)
    pick-moves true x y x' y' p q = p
    pick-moves false x y x' y' p q = q

    tag-moves : (tag : ℕ) → at < length u → Moves at bt (on_head (tagged u blame tag (at + 1)) f) (on_head (tagged v blame' tag (bt + 1)) g)
    unfolding tagged on_head
    tag-moves tag h =
        let bytes : (k : ℕ) → Moves at bt (skip_bytes u k (at + 1)) (skip_bytes v k (bt + 1)) =
        λ k. later 1 at bt (skip_bytes u k (at + 1)) (skip_bytes v k (bt + 1)) (bytes-end u blame k (at + 1) (omega arith)) (bytes-moves k (at + 1) (bt + 1)) in
        pick-moves (eqb tag 127) _ _ _ _ (place-moves 1 at bt)
        (pick-moves (eqb tag 126) _ _ _ _ (place-moves 1 at bt)
        (pick-moves (eqb tag 125) _ _ _ _ (later 1 at bt (signed_at u (at + 1)) (signed_at v (bt + 1)) (lower u blame (at + 1) (suc (at + 1)) (signed_at u (at + 1)) (omega arith) (signed-ends u blame (at + 1))) (signed-moves (at + 1) (bt + 1)))
        (pick-moves (eqb tag 124) _ _ _ _ (bytes 4)
        (pick-moves (eqb tag 123) _ _ _ _ (bytes 8)
        (pick-moves (eqb tag 122) _ _ _ _ (bytes 8)
        (pick-moves (eqb tag 121) _ _ _ _ (place-moves 1 at bt)
        (pick-moves (eqb tag 120) _ _ _ _ (place-moves 1 at bt)
        (pick-moves (eqb tag 119) _ _ _ _ (later 1 at bt (text_at u (at + 1)) (text_at v (bt + 1)) (lower u blame (at + 1) (suc (at + 1)) (text_at u (at + 1)) (omega arith) (text-ends u blame (at + 1))) (text-moves (at + 1) (bt + 1)))
        (pick-moves (eqb tag 118) _ _ _ _ (m true)
        (pick-moves (eqb tag 117) _ _ _ _ (m false)
        (pick-moves (eqb tag 116) _ _ _ _ (later 1 at bt (skip_led u (at + 1)) (skip_led v (bt + 1)) (lower u blame (at + 1) (suc (at + 1)) (skip_led u (at + 1)) (omega arith) (buf-ends u blame (at + 1))) (buf-moves (at + 1) (bt + 1)))
        (refused-moves 5 blame at bt (refused 5 blame')))))))))))))

    head-moves : Ends u blame (suc at) (on_head (head_at u blame at) f) → Moves at bt (on_head (head_at u blame at) f) (on_head (head_at v blame' bt) g)
    unfolding head_at on_head Ends
    head-moves ends n p x =
        let some : suc at ≤ at + n = (subst (Ends u blame (suc at)) p ends).0 in
        let h : at < length u = omega (arith, x.here) in
        let at0 : at + 0 ≡ at = omega arith in
        let bt0 : bt + 0 ≡ bt = omega arith in
        let tag : get_or u at 0 ≡ get_or v bt 0 = ap (λ (y : ℕ). get_or u y 0) (sym at0) ∙ x.same 0 (omega arith) ∙ ap (λ (y : ℕ). get_or v y 0) bt0 in
        rw (lt-leb (length v) bt (omega (arith, x.there)), ← tag) (tag-moves (get_or u at 0) h n (rw (lt-leb (length u) at h) at p) x)

  each-moves : (one two : ℕ → Skipped) → ((at : ℕ) → Ends u blame (suc at) (one at)) → ((at bt : ℕ) → Moves at bt (one at) (two bt))
      → (k at bt : ℕ) → at ≤ length u → Moves at bt (each k one at) (each k two bt)
  unfolding each
  each-moves one two ends moves zero at bt h = λ n p x. let e : at ≡ at + n = cc in ap At (omega arith)
  each-moves one two ends moves (suc k) at bt h =
      then-moves at bt (one at) (two bt) (each k one) (each k two) (lower u blame at (suc at) (one at) (omega arith) (ends at)) (moves at bt)
      (λ e l. lower u blame e (e + k) (each k one e) (omega arith) (each-ends u blame one ends k e l)) (λ e d l. each-moves one two ends moves k e d l)

  entry-moves : (keyed : Bool) (one two : ℕ → Skipped) → ((at : ℕ) → Ends u blame (suc at) (one at)) → ((at bt : ℕ) → Moves at bt (one at) (two bt))
      → (at bt : ℕ) → Moves at bt (member keyed u one at) (member keyed v two bt)
  unfolding member
  entry-moves true one two ends moves at bt =
      then-moves at bt (text_at u at) (text_at v bt) one two (lower u blame at (suc at) (text_at u at) (omega arith) (text-ends u blame at)) (text-moves at bt)
      (λ e l. lower u blame e (suc e) (one e) (omega arith) (ends e)) (λ e d l. moves e d)
  entry-moves false one two ends moves at bt = moves at bt

  -- the entries of a value whose count is at e
  unfoldable inside : ℕ → Bool → List ℕ → ℕ → ℕ → Skipped
  inside n keyed w b e = on_count (read_unsigned w e) (λ k i. each k (member keyed w (any n w b)) i)

  inside-ends : (n : ℕ) (keyed : Bool) (at : ℕ) → Ends u blame at (inside n keyed u blame at)
  unfolding inside
  inside-ends n keyed at =
      counted-ends u blame at at (λ k i. each k (member keyed u (any n u blame)) i)
      (λ k e l h. lower u blame at (e + k) (each k (member keyed u (any n u blame)) e) (omega arith) (each-ends u blame (member keyed u (any n u blame)) (entry-ends u blame keyed (any n u blame) (any-ends u blame n)) k e h))

  inside-moves : (n : ℕ) → ((at bt : ℕ) → Moves at bt (any n u blame at) (any n v blame' bt)) → (keyed : Bool) (at bt : ℕ) → Moves at bt (inside n keyed u blame at) (inside n keyed v blame' bt)
  unfolding inside
  inside-moves n moves keyed at bt =
      counted-moves at bt (λ k i. each k (member keyed u (any n u blame)) i) (λ k i. each k (member keyed v (any n v blame')) i)
      (λ k e h. lower u blame e (e + k) (each k (member keyed u (any n u blame)) e) (omega arith) (each-ends u blame (member keyed u (any n u blame)) (entry-ends u blame keyed (any n u blame) (any-ends u blame n)) k e h))
      (λ k e d h. each-moves (member keyed u (any n u blame)) (member keyed v (any n v blame')) (entry-ends u blame keyed (any n u blame) (any-ends u blame n)) (entry-moves keyed (any n u blame) (any n v blame') (any-ends u blame n) moves) k e d h)

  any-is : (n : ℕ) (w : List ℕ) (b at : ℕ) → any (suc n) w b at ≡ on_head (head_at w b at) (λ keyed. inside n keyed w b (at + 1))
  unfolding any inside
  any-is n w b at = refl

  any-moves : (n at bt : ℕ) → Moves at bt (any n u blame at) (any n v blame' bt)
  any-moves zero at bt = none
    where
      none : Moves at bt (any 0 u blame at) (any 0 v blame' bt)
      none = unfold any in (head-moves at bt (λ keyed. refused 3 at) (λ keyed. refused 3 bt) (λ keyed. refused-moves 3 at at bt (refused 3 bt)) (any-ends u blame 0 at))
  any-moves (suc n) at bt =
      rw (any-is n u blame at, any-is n v blame' bt)
      (head-moves at bt (λ keyed. inside n keyed u blame (at + 1)) (λ keyed. inside n keyed v blame' (bt + 1))
      (λ keyed. later 1 at bt (inside n keyed u blame (at + 1)) (inside n keyed v blame' (bt + 1)) (inside-ends n keyed (at + 1)) (inside-moves n (any-moves n) keyed (at + 1) (bt + 1)))
      (rw (any-is n u blame at) at (any-ends u blame (suc n) at)))

  -- k values that end within the bytes of u end where these bytes end, wherever else they stand: what a writer copies is read again
  pub anys-moved : (k at bt n : ℕ) → anys u blame k at ≡ At (at + n) → Alike u at v bt n → anys v blame' k bt ≡ At (bt + n)
  unfolding anys
  anys-moved k at bt n p x =
      each-moves (any deepest u blame) (any deepest v blame') (any-ends u blame deepest) (any-moves deepest) k at bt (omega (arith, x.here)) n p x

-- bytes of u that stand among others
among : (u p q : List ℕ) (at n : ℕ) → at + n ≤ length u → Alike u at (p ++ (slice at (at + n) u ++ q)) (length p) n
among u p q at n h =
    let a : length (slice at (at + n) u) ≡ n = length-slice at (at + n) u h ∙ omega arith in
    record {
      here = h;
      there = simp (length-append) (omega (arith, a));
      same = λ i l.
          sym
          (get_or-append-add p (slice at (at + n) u ++ q) i 0
          ∙ get_or-append (slice at (at + n) u) q 0 i (omega (arith, a))
          ∙ get_or-drop at (take (at + n) u) i 0
          ∙ get_or-take (at + n) u (at + i) 0 (omega arith));
    }

pub anys-copied : (u p q : List ℕ) (blame blame' k at n : ℕ) → at ≤ length u → anys u blame k at ≡ At (at + n)
    → anys (p ++ (slice at (at + n) u ++ q)) blame' k (length p) ≡ At (length p + n)
anys-copied u p q blame blame' k at n h r =
    anys-moved u (p ++ (slice at (at + n) u ++ q)) blame blame' k at (length p) n r (among u p q at n (anys-bytes u blame k at (at + n) h r).1)

-- whether values read, and where they end, does not go by the place that an unknown tag is blamed at
pub anys-blind : (u : List ℕ) (blame blame' k at e : ℕ) → anys u blame k at ≡ At e → anys u blame' k at ≡ At e
unfolding Ends
anys-blind u blame blame' zero at e r = anys-none u blame' at ∙ sym (anys-none u blame at) ∙ r
anys-blind u blame blame' (suc k) at e r =
    let b : (at + suc k ≤ e) × (e ≤ length u) = subst (Ends u blame (at + suc k)) r (anys-ends u blame (suc k) at (omega arith)) in
    let f : at + (e - at) ≡ e = omega (arith, b.0) in
    anys-moved u u blame blame' (suc k) at at (e - at) (r ∙ ap At (sym f)) (record { here = omega (arith, b.1); there = omega (arith, b.1); same = λ i l. refl }) ∙ ap At f
