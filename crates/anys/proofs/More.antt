-- Values go by the bytes from their start on: with more bytes behind an ending stays, and each refusal other than 1; and bytes before the start
-- may be forgotten. Both are one law, of bytes v that have those of u from n on, and then w.
use Prim.Native.Nat.{ℕ, zero, suc, ◌+◌, ◌-◌, ◌%◌, ◌≤◌, ◌<◌}
use mathlib.Core.Path.{◌≡◌, refl, sym, ap, subst, ◌∙◌}
use mathlib.Core.Logic.{⊎_elim}
use mathlib.Core.Bool.{Bool, true, false, true≢false}
use mathlib.Core.List.{List, [], ◌∷◌, ◌++◌, append-nil}
use native.Mathlib.Omega.{arith}
use lib.Dec.{ltb, leb, eqb}
use lib.ListN.{length, get_or, take, drop, length-drop, length-append, get_or-append, drop_of_length-le}
use lib.Seq.{slice, drop-drop, take-add, drop_at, get_or-drop, length-take-le, take-append-le, drop-append-le}
use borrow.Author.Tests.{ltb-false, leb-false, le-ltb, lt-leb}
use Rattle.numbers.specs.declared.Refusal.{Refusal}
use Rattle.numbers.specs.declared.Read.{Read}
use Rattle.numbers.specs.declared.Read.TheVariants as read
use Rattle.numbers.specs.Number.{pick, Spelt, got, short, long, low_part, spelt, spelt_signed, answer_at, with_sign, minus_of, read_unsigned, read_signed}
use Rattle.numbers.proofs.Laws.{below_or}
use Rattle.text.specs.Utf8.{well_formed}
use Rattle.anys.specs.declared.Skipped.{Skipped}
use Rattle.anys.specs.declared.Skipped.TheVariants.{At, Refused}
use Rattle.anys.specs.declared.Head.{Head}
use Rattle.anys.specs.declared.Head.TheVariants.{Alone}
use Rattle.anys.specs.Any.{refused, then_at, on_count, on_signed, signed_at, skip_bytes, skip_led, text_from, text_at, tagged, head_at, on_head, each, member, any, deepest, anys}
use Rattle.anys.proofs.Places.{read-ends, bytes-span, Ends, text-ends}
use Rattle.anys.proofs.Laws.{entry-ends, any-ends}

-- an ending stays, and so does a refusal that Q holds of
abbrev pub Stays : (Refusal → Type 0) → Skipped → Skipped → Type 0
Stays Q (At e) t = t ≡ At e
Stays Q (Refused why) t = Q why → t ≡ Refused why

-- ---- what is spelt

-- with w behind the bytes what is spelt stays; where they end early, only if w is none
abbrev Spells : List ℕ → Spelt → Spelt → Type 0
Spells w (got x e) y = y ≡ got x e
Spells w short y = w ≡ [] → y ≡ short
Spells w long y = y ≡ long

spells-pick : (w : List ℕ) (b : Bool) (x y z : Spelt) → Spells w x x → Spells w y z → Spells w (pick b x y) (pick b x z)
spells-pick w true x y z p q = p
spells-pick w false x y z p q = q

after-spells : (w : List ℕ) (one low : ℕ) (x y : Spelt) → Spells w x y → Spells w (low_part one low x) (low_part one low y)
unfolding low_part
after-spells w one low (got x e) y h = ap (low_part one low) h
after-spells w one low short y h = λ z. ap (low_part one low) (h z)
after-spells w one low long y h = ap (low_part one low) h

spelt-spells : (w : List ℕ) (k i : ℕ) (t : List ℕ) → Spells w (spelt k i t) (spelt k i (t ++ w))
unfolding spelt
spelt-spells w zero i t = refl
spelt-spells w (suc k) i [] = λ z. ap (spelt (suc k) i) z
spelt-spells w (suc k) i (b ∷ t) =
    spells-pick w (ltb b 128) (got b (i + 1)) _ _ refl (after-spells w 128 (b - 128) (spelt k (i + 1) t) (spelt k (i + 1) (t ++ w)) (spelt-spells w k (i + 1) t))

signed-spells : (w : List ℕ) (i : ℕ) (t : List ℕ) → Spells w (spelt_signed i t) (spelt_signed i (t ++ w))
unfolding spelt_signed
signed-spells w i [] = λ z. ap (spelt_signed i) z
signed-spells w i (b ∷ t) =
    spells-pick w (ltb b 128) (got (b % 64) (i + 1)) _ _ refl (after-spells w 64 (b % 64) (spelt 8 (i + 1) t) (spelt 8 (i + 1) (t ++ w)) (spelt-spells w 8 (i + 1) t))

fewer : (w w' : List ℕ) (x y : Spelt) → (w ≡ [] → w' ≡ []) → Spells w' x y → Spells w x y
fewer w w' (got x e) y f h = h
fewer w w' short y f h = λ z. h (f z)
fewer w w' long y f h = h

-- so many bytes from a place on
sliced : (u : List ℕ) (a m : ℕ) → a ≤ length u → slice a (a + m) u ≡ take m (drop a u)
sliced u a m l = ap (drop a) (take-add a m u) ∙ drop_at (take a u) (take m (drop a u)) a (length-take-le a u l)

module _ (u v w : List ℕ) (n : ℕ) (Q : Refusal → Type 0) (tail : drop n v ≡ drop n u ++ w) (len : length v ≡ length u + length w)
    (end : Q (record { number = 1; place = length u }) → w ≡ []) where
  same_length : w ≡ [] → length v ≡ length u
  same_length z = let e : length w ≡ 0 = ap length z in omega (arith, len)

  tail-here : (at : ℕ) → n ≤ at → at ≤ length u → drop at v ≡ drop at u ++ w
  tail-here at l h =
      let e : n + (at - n) ≡ at = omega arith in
      subst (λ (k : ℕ). drop k v ≡ drop k u ++ w) e
      (sym (drop-drop (at - n) n v)
      ∙ ap (drop (at - n)) tail
      ∙ drop-append-le (at - n) (drop n u) w (omega (arith, length-drop n u))
      ∙ ap (λ (t : List ℕ). t ++ w) (drop-drop (at - n) n u))

  spelt-here : (F : ℕ → List ℕ → Spelt) → ((x : List ℕ) (i : ℕ) (t : List ℕ) → Spells x (F i t) (F i (t ++ x))) → (at : ℕ) → n ≤ at
      → Spells w (F at (drop at u)) (F at (drop at v))
  spelt-here F f at l = ⊎_elim
      (λ b. subst (λ (t : List ℕ). Spells w (F at (drop at u)) (F at t)) (sym (tail-here at l (omega arith))) (f w at (drop at u)))
      (λ b.
      subst (λ (t : List ℕ). Spells w (F at t) (F at (drop at v))) (sym (drop_of_length-le u {i = at} b))
      (fewer w (drop at v) (F at []) (F at (drop at v)) (λ z. drop_of_length-le v {i = at} (omega (arith, same_length z))) (f (drop at v) at [])))
      (below_or at (length u))

  -- ---- numbers

  abbrev StaysRead : Read → Read → Type 0
  StaysRead (read.Number m e) r = r ≡ read.Number m e
  StaysRead (read.Refused why) r = Q why → r ≡ read.Refused why

  placed-stays : (at : ℕ) (x y : Spelt) → Spells w x y → StaysRead (answer_at u at x) (answer_at v at y)
  unfolding answer_at
  placed-stays at (got x e) y h = ap (answer_at v at) h
  placed-stays at short y h =
      λ q. ap (answer_at v at) (h (end q)) ∙ ap (λ (k : ℕ). read.Refused (record { number = 1; place = k })) (same_length (end q))
  placed-stays at long y h = λ q. ap (answer_at v at) h

  read_stays : (at : ℕ) → n ≤ at → StaysRead (read_unsigned u at) (read_unsigned v at)
  unfolding read_unsigned
  read_stays at l = placed-stays at _ _ (spelt-here (spelt 9) (λ x. spelt-spells x 9) at l)

  signed-stays : (at : ℕ) → n ≤ at → Stays Q (signed_at u at) (signed_at v at)
  unfolding signed_at read_signed on_signed with_sign
  signed-stays at l =
      go (answer_at u at (spelt_signed at (drop at u))) (answer_at v at (spelt_signed at (drop at v))) (placed-stays at _ _ (spelt-here spelt_signed signed-spells at l))
    where
      go : (x y : Read) → StaysRead x y → Stays Q (on_signed (with_sign (minus_of (drop at u)) x)) (on_signed (with_sign (minus_of (drop at v)) y))
      go (read.Number m e) y h = rw h refl
      go (read.Refused why) y h = λ q. rw (h q) refl

  -- ---- one thing after another

  then-stays : (s t : Skipped) (f g : ℕ → Skipped) → Stays Q s t → ((e : ℕ) → s ≡ At e → Stays Q (f e) (g e)) → Stays Q (then_at s f) (then_at t g)
  unfolding then_at
  then-stays (At e) t f g h k = subst (λ (z : Skipped). Stays Q (f e) (then_at z g)) (sym h) (k e refl)
  then-stays (Refused why) t f g h k = λ q. ap (λ (z : Skipped). then_at z g) (h q)

  counted-stays : (at : ℕ) (f g : ℕ → ℕ → Skipped) → n ≤ at → ((m e : ℕ) → at < e → e ≤ length u → Stays Q (f m e) (g m e))
      → Stays Q (on_count (read_unsigned u at) f) (on_count (read_unsigned v at) g)
  unfolding on_count
  counted-stays at f g l k = go (read_unsigned u at) refl (read_unsigned v at) (read_stays at l)
    where
      go : (x : Read) → read_unsigned u at ≡ x → (y : Read) → StaysRead x y → Stays Q (on_count x f) (on_count y g)
      go (read.Number m e) p y h =
          let b = read-ends u at m e p in
          subst (λ (z : Read). Stays Q (f m e) (on_count z g)) (sym h) (k m e b.0 b.1)
      go (read.Refused why) p y h = λ q. ap (λ (z : Read). on_count z g) (h q)

  -- ---- bytes and texts

  bytes-stay : (m at : ℕ) → Stays Q (skip_bytes u m at) (skip_bytes v m at)
  unfolding skip_bytes
  bytes-stay m at = go (ltb (length u - at) m) refl
    where
      go : (b : Bool) → ltb (length u - at) m ≡ b → Stays Q (pick b (refused 1 (length u)) (At (at + m))) (pick (ltb (length v - at) m) (refused 1 (length v)) (At (at + m)))
      go true p = λ q. rw (same_length (end q), p) refl
      go false p = rw (le-ltb (length v - at) m (omega (arith, len, ltb-false (length u - at) m p))) refl

  slice-same : (at e : ℕ) → n ≤ at → at ≤ e → e ≤ length u → slice at e v ≡ slice at e u
  slice-same at e l m h =
      let f : at + (e - at) ≡ e = omega arith in
      subst (λ (k : ℕ). slice at k v ≡ slice at k u) f
      (sliced v at (e - at) (omega (arith, len))
      ∙ ap (take (e - at)) (tail-here at l (omega arith))
      ∙ take-append-le (e - at) (drop at u) w (omega (arith, length-drop at u))
      ∙ sym (sliced u at (e - at) (omega arith)))

  text-from-stays : (m at : ℕ) → n ≤ at → at ≤ length u → Stays Q (text_from u m at) (text_from v m at)
  unfolding text_from
  text-from-stays m at l h =
      then-stays (skip_bytes u m at) (skip_bytes v m at) _ _ (bytes-stay m at)
      (λ e p.
      let b = bytes-span u m at e h p in
      rw (slice-same at e l b.0 b.1) (checked e (well_formed (slice at e u))))
    where
      checked : (e : ℕ) (b : Bool) → Stays Q (pick b (At e) (refused 6 at)) (pick b (At e) (refused 6 at))
      checked e true = refl
      checked e false = λ q. refl

  text-stays : (at : ℕ) → n ≤ at → Stays Q (text_at u at) (text_at v at)
  unfolding text_at
  text-stays at l = counted-stays at (text_from u) (text_from v) l (λ m e b h. text-from-stays m e (omega arith) h)

  buf-stays : (at : ℕ) → n ≤ at → Stays Q (skip_led u at) (skip_led v at)
  unfolding skip_led
  buf-stays at l = counted-stays at (skip_bytes u) (skip_bytes v) l (λ m e b h. bytes-stay m e)

  -- ---- values

  tag_same : (at : ℕ) → n ≤ at → at < length u → get_or v at 0 ≡ get_or u at 0
  tag_same at l h =
      let e : at + 0 ≡ at = omega arith in
      subst (λ (k : ℕ). get_or v k 0 ≡ get_or u k 0) e
      (sym (get_or-drop at v 0 0)
      ∙ ap (λ (t : List ℕ). get_or t 0 0) (tail-here at l (omega arith))
      ∙ get_or-append (drop at u) w 0 0 (omega (arith, length-drop at u))
      ∙ get_or-drop at u 0 0)

  module _ (blame : ℕ) where
    module _ (at : ℕ) (l : n ≤ at) (f g : Bool → Skipped) (m : (keyed : Bool) → at < length u → Stays Q (f keyed) (g keyed)) where
      pick-stays : (b : Bool) (x y x' y' : Head) → Stays Q (on_head x f) (on_head x' g) → Stays Q (on_head y f) (on_head y' g)
          → Stays Q (on_head (pick b x y) f) (on_head (pick b x' y') g)
      pick-stays true x y x' y' p q = p
      pick-stays false x y x' y' p q = q

      tag_stays : (tag : ℕ) → at < length u → Stays Q (on_head (tagged u blame tag (at + 1)) f) (on_head (tagged v blame tag (at + 1)) g)
      unfolding tagged on_head
      tag_stays tag h =
          pick-stays (eqb tag 127) _ _ _ _ refl
          (pick-stays (eqb tag 126) _ _ _ _ refl
          (pick-stays (eqb tag 125) _ _ _ _ (signed-stays (at + 1) (omega arith))
          (pick-stays (eqb tag 124) _ _ _ _ (bytes-stay 4 (at + 1))
          (pick-stays (eqb tag 123) _ _ _ _ (bytes-stay 8 (at + 1))
          (pick-stays (eqb tag 122) _ _ _ _ (bytes-stay 8 (at + 1))
          (pick-stays (eqb tag 121) _ _ _ _ refl
          (pick-stays (eqb tag 120) _ _ _ _ refl
          (pick-stays (eqb tag 119) _ _ _ _ (text-stays (at + 1) (omega arith))
          (pick-stays (eqb tag 118) _ _ _ _ (m true h)
          (pick-stays (eqb tag 117) _ _ _ _ (m false h)
          (pick-stays (eqb tag 116) _ _ _ _ (buf-stays (at + 1) (omega arith)) (λ q. refl))))))))))))

      head-stays : Stays Q (on_head (head_at u blame at) f) (on_head (head_at v blame at) g)
      unfolding head_at on_head
      head-stays = go (leb (length u) at) refl
        where
          go : (b : Bool) → leb (length u) at ≡ b
              → Stays Q (on_head (pick b (Alone (refused 1 (length u))) (tagged u blame (get_or u at 0) (at + 1))) f) (on_head (head_at v blame at) g)
          go true p = λ q. rw (same_length (end q), p) refl
          go false p =
              let h : at < length u = leb-false (length u) at p in
              rw (lt-leb (length v) at (omega (arith, len)), tag_same at l h) (tag_stays (get_or u at 0) h)

    each-stays : (one two : ℕ → Skipped) → ((at : ℕ) → Ends u blame (suc at) (one at)) → ((at : ℕ) → n ≤ at → Stays Q (one at) (two at))
        → (k at : ℕ) → n ≤ at → Stays Q (each k one at) (each k two at)
    unfolding each Ends
    each-stays one two ends stay zero at l = refl
    each-stays one two ends stay (suc k) at l =
        then-stays (one at) (two at) (each k one) (each k two) (stay at l)
        (λ e p. each-stays one two ends stay k e (omega (arith, (subst (Ends u blame (suc at)) p (ends at)).0)))

    entry-stays : (keyed : Bool) (one two : ℕ → Skipped) → ((at : ℕ) → n ≤ at → Stays Q (one at) (two at)) → (at : ℕ) → n ≤ at
        → Stays Q (member keyed u one at) (member keyed v two at)
    unfolding member Ends
    entry-stays true one two stay at l =
        then-stays (text_at u at) (text_at v at) one two (text-stays at l)
        (λ e p. stay e (omega (arith, (subst (Ends u blame (suc at)) p (text-ends u blame at)).0)))
    entry-stays false one two stay at l = stay at l

    any-stays : (d at : ℕ) → n ≤ at → Stays Q (any d u blame at) (any d v blame at)
    unfolding any
    any-stays zero at l = head-stays at l _ _ (λ keyed h q. refl)
    any-stays (suc d) at l =
        head-stays at l _ _
        (λ keyed h. counted-stays (at + 1) _ _ (omega arith)
        (λ k e b m. each-stays (member keyed u (any d u blame)) (member keyed v (any d v blame)) (entry-ends u blame keyed (any d u blame) (any-ends u blame d))
        (entry-stays keyed (any d u blame) (any d v blame) (any-stays d)) k e (omega arith)))

    anys-stay : (k at : ℕ) → n ≤ at → Stays Q (anys u blame k at) (anys v blame k at)
    unfolding anys
    anys-stay k at l = each-stays (any deepest u blame) (any deepest v blame) (any-ends u blame deepest) (any-stays deepest) k at l

-- ---- more bytes

-- with more bytes an ending stays, and so does a refusal other than 1
abbrev pub Firm : Skipped → Skipped → Type 0
Firm s t = Stays (λ why. eqb why.number 1 ≡ false) s t

pub anys-more : (u w : List ℕ) (blame k at : ℕ) → Firm (anys u blame k at) (anys (u ++ w) blame k at)
anys-more u w blame k at =
    anys-stay u (u ++ w) w 0 (λ why. eqb why.number 1 ≡ false) refl (length-append u w) (λ q. absurd (true≢false q)) blame k at (omega arith)

-- ---- other bytes before them

pub anys-forgets : (u u' : List ℕ) (n : ℕ) → length u ≡ length u' → drop n u ≡ drop n u' → (blame k at : ℕ) → n ≤ at
    → anys u' blame k at ≡ anys u blame k at
anys-forgets u u' n len same blame k at l =
    go (anys u blame k at) (anys-stay u u' [] n (λ why. Unit {0}) (sym same ∙ sym (append-nil (drop n u))) (omega (arith, len)) (λ q. refl) blame k at l)
  where
    go : (s : Skipped) → Stays (λ why. Unit {0}) s (anys u' blame k at) → anys u' blame k at ≡ s
    go (At e) h = h
    go (Refused why) h = h tt
