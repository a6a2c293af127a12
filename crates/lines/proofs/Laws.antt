-- The laws of `overlay` and of `decimal`: text put after text, and a digit after digits.
use Prim.Native.Nat.{ℕ, zero, suc, ◌+◌, ◌-◌, ◌/◌, ◌%◌, ◌^◌, ◌≤◌, ◌<◌}
use mathlib.Core.Path.{◌≡◌, sym, ap, ap₂, ◌∙◌}
use mathlib.Core.Bool.{cond}
use mathlib.Core.List.{List, [], ◌∷◌, ◌++◌, append_assoc, append-nil}
use mathlib.Core.Logic.{⊎_elim}
use native.Mathlib.Nat.{add-zero, zero-add, div-lt_iff_lt-mul, pow-suc}
use native.Mathlib.Omega.{arith}
use lib.ListN.{length, take, drop, set, length-set, length-append, drop_of_length-le, take-append-drop}
use lib.Seq.{sets, length-sets, take_all, take-nil, take-suc-set, drop-set-lt, set_out}
use lib.Dec.{ltb, lit<}
use borrow.Author.Tests.{lt-ltb, le-ltb}
use Rattle.numbers.proofs.Laws.{below_or}
use Rattle.numbers.proofs.Output.{sets-append}
use Rattle.lines.specs.Lines.{digits, decimal}
use Rattle.lines.specs.LinesInner.{overlay}

-- ---- overlay, as stores one after another

-- no text changes nothing
pub overlay-nil : (out : List ℕ) (u : ℕ) → overlay out u [] ≡ out
unfolding overlay
overlay-nil out u = rw (add-zero u, take-nil (length out - u)) (rw (append-nil (take u out)) (take-append-drop u out))

overlay-cons : (out : List ℕ) (u b : ℕ) (bs : List ℕ) → overlay out u (b ∷ bs) ≡ overlay (set out u b) (suc u) bs
unfolding overlay
overlay-cons out u b bs = ⊎_elim within past (below_or u (length out))
  where
    one_more : u < length out → length out - u ≡ suc (length out - suc u)
    one_more h = omega arith

    moved : u + suc (length bs) ≡ suc u + length bs
    moved = omega arith

    nothing : length out ≤ u → length out - u ≡ 0
    nothing h = omega arith

    nothing-after : length out ≤ u → length out - suc u ≡ 0
    nothing-after h = omega arith

    within : u < length out → overlay out u (b ∷ bs) ≡ overlay (set out u b) (suc u) bs
    within h = rw (take-suc-set out u b h, length-set out u b, drop-set-lt (suc u + length bs) out u b (omega arith), one_more h, moved) (simp append_assoc)

    past : length out ≤ u → overlay out u (b ∷ bs) ≡ overlay (set out u b) (suc u) bs
    past h = rw (set_out out u b h, take_all u out h, take_all (suc u) out (omega arith), nothing h, nothing-after h, drop_of_length-le out {i = u + suc (length bs)} (omega arith), drop_of_length-le out {i = suc u + length bs} (omega arith))

stores : (bs out : List ℕ) (u : ℕ) → overlay out u bs ≡ sets out u bs
stores [] out u = overlay-nil out u
stores (b ∷ bs) out u = overlay-cons out u b bs ∙ stores bs (set out u b) (suc u)

-- ---- the laws

pub length-overlay : (out : List ℕ) (u : ℕ) (bs : List ℕ) → length (overlay out u bs) ≡ length out
length-overlay out u bs = ap length (stores bs out u) ∙ length-sets out u bs

-- text after text
pub overlay-append : (out : List ℕ) (u : ℕ) (xs bs : List ℕ) → overlay (overlay out u xs) (u + length xs) bs ≡ overlay out u (xs ++ bs)
overlay-append out u xs bs =
    stores bs (overlay out u xs) (u + length xs)
    ∙ ap (λ (l : List ℕ). sets l (u + length xs) bs) (stores xs out u)
    ∙ sym (sets-append xs bs out u)
    ∙ sym (stores (xs ++ bs) out u)

-- the same, at a place that is known to be there
pub overlay-on : (out : List ℕ) (u e : ℕ) (xs bs : List ℕ) → e ≡ u + length xs → overlay (overlay out u xs) e bs ≡ overlay out u (xs ++ bs)
overlay-on out u e xs bs h = ap (λ (n : ℕ). overlay (overlay out u xs) n bs) h ∙ overlay-append out u xs bs

-- a text put, and then another: the place after them, and what the bytes hold then
abbrev pub Put : List ℕ → ℕ → List ℕ → ℕ → List ℕ → Type 0
Put out u bs e out' = (e ≡ u + length bs) × (out' ≡ overlay out u bs)

pub put_then : (out : List ℕ) (u : ℕ) (xs ys : List ℕ) {e e' : ℕ} {out' out'' : List ℕ} → Put out u xs e out' → Put out' e ys e' out'' → Put out u (xs ++ ys) e' out''
put_then out u xs ys {e} p q = (omega (arith, p.0, q.0, length-append xs ys), q.1 ∙ ap (λ (o : List ℕ). overlay o e ys) p.1 ∙ overlay-on out u e xs ys p.0)

-- a text that fits, from the start
pub overlay-whole : (out bs : List ℕ) → length bs ≤ length out → overlay out 0 bs ≡ bs ++ drop (length bs) out
unfolding overlay
overlay-whole out bs h = ap (λ (l : List ℕ). l ++ drop (0 + length bs) out) (take_all (length out - 0) bs (omega arith)) ∙ ap (λ (n : ℕ). bs ++ drop n out) (zero-add (length bs))

-- a byte is one store, and none past the end
pub overlay-byte : (out : List ℕ) (u b : ℕ) → overlay out u (b ∷ []) ≡ set out u b
overlay-byte out u b = stores (b ∷ []) out u

-- ---- decimal

-- enough digits are as good as one more
digits_more : (n v : ℕ) → v < 10 ^ suc n → digits (suc n) v ≡ digits (suc (suc n)) v
unfolding digits
digits_more zero v h = rw (lt-ltb v 10 h)
digits_more (suc n) v h =
    ap (λ (l : List ℕ). cond (ltb v 10) ((48 + v) ∷ []) (l ++ ((48 + v % 10) ∷ []))) (digits_more n (v / 10) ((div-lt_iff_lt-mul (lit< tt)).1 (rw pow-suc at h)))

-- one digit
pub decimal-last : (v : ℕ) → v < 10 → decimal v ≡ (v % 10 + 48) ∷ []
unfolding decimal digits
decimal-last v h = rw (lt-ltb v 10 h) (ap (λ (n : ℕ). n ∷ []) (omega arith))

-- a digit after the others
pub decimal-more : (v : ℕ) → v < 2 ^ 64 → 10 ≤ v → decimal v ≡ decimal (v / 10) ++ ((v % 10 + 48) ∷ [])
unfolding decimal digits
decimal-more v h b = rw (le-ltb v 10 b) (ap₂ (λ (l : List ℕ) (d : ℕ). l ++ (d ∷ [])) (digits_more 18 (v / 10) (omega arith)) (omega arith))

digits-short : (n v : ℕ) → length (digits n v) ≤ n
unfolding digits
digits-short zero v = omega arith
digits-short (suc n) v = ⊎_elim (λ h. rw (lt-ltb v 10 h) (omega arith)) (λ h. rw (le-ltb v 10 h) (simp length-append (omega (arith, digits-short n (v / 10))))) (below_or v 10)

-- a number takes 20 bytes at most
pub decimal-short : (v : ℕ) → length (decimal v) ≤ 20
unfolding decimal
decimal-short v = digits-short 20 v
