-- The rule of W-203 gives the Unicode count of well-formed text: a character's first byte is worth its units, and no later byte is worth any.
use Prim.Native.Nat.{ℕ, zero, suc, ◌+◌, ◌-◌, ◌*◌, ◌%◌, ◌≤◌, ◌<◌}
use mathlib.Core.Path.{◌≡◌, refl, sym, ap, ◌∙◌}
use mathlib.Core.List.{List, [], ◌∷◌}
use mathlib.Core.Bool.{Bool, true, false}
use native.Mathlib.Omega.{arith}
use lib.Dec.{ltb}
use lib.ListN.{length, get_or}
use lib.Seq.{slice}
use borrow.Author.Rules.{rules}
use borrow.Author.Tests.{lt-ltb, le-ltb}
use Rattle.text.specs.declared.State.{State}
use Rattle.text.specs.declared.State.TheVariants.{Open, Broken}
use Rattle.text.specs.Utf8.{pick, start, lead, next, after, settled, well_formed, chars_from, chars, width, widths, units_of, gain}
use Rattle.text.specs.Utf8Inner.{Plain}
use Rattle.text.specs.Rule.{continues, worth, by_rule}
use Rattle.text.proofs.Laws.{choose, by_row, widths-cons, sum-nil, cons, none}
use Rattle.text.proofs.Joining.{clash, broken}
use Rattle.text.proofs.Plain.{behind-count}

-- ---- what a byte is worth

-- the rule's first half: one for a byte that does not continue a character
abbrev pub once : ℕ → ℕ
once b = pick (continues b) 0 1

one-le : (x : Bool) → pick x 0 1 ≤ 1
one-le true = omega arith
one-le false = omega arith

module _ (b : ℕ) where
  pub once-plain : b < 128 → once b ≡ 1
  unfolding continues
  once-plain h = rw (lt-ltb b 128 h)

  pub once-later : 128 ≤ b → b < 192 → once b ≡ 0
  unfolding continues
  once-later h l = rw (le-ltb b 128 h, lt-ltb b 192 l)

  pub once-long : 192 ≤ b → once b ≡ 1
  unfolding continues
  once-long h = rw (le-ltb b 128 (omega arith), le-ltb b 192 h)

  pub worth-one : b < 240 → worth b ≡ once b
  unfolding worth
  worth-one h = rw (lt-ltb b 240 h) (omega arith)

  pub worth-pair : 240 ≤ b → worth b ≡ once b + 1
  unfolding worth
  worth-pair h = rw (le-ltb b 240 h)

  pub once-le : once b ≤ 1
  once-le = one-le (continues b)

  pub worth-le : worth b ≤ 2
  unfolding worth
  worth-le = omega (arith, one-le (continues b), one-le (ltb b 240))

-- ---- a character under way

-- one unit below a bound, two from it up
abbrev sized : ℕ → ℕ → ℕ
sized k v = pick (ltb v k) 1 2

-- The units of the character under way, which its first byte was worth: two if it will come out at 65536 or more. Each byte to come gives six
-- bits, so with one to come that is 1024 or more now, and with two 16 or more. Only F0..F4 have three to come.
due : State → ℕ
due (Open zero low high v) = 0
due (Open (suc zero) low high v) = sized 1024 v
due (Open (suc (suc zero)) low high v) = sized 16 v
due (Open (suc (suc (suc n))) low high v) = 2
due Broken = 0

-- What reading comes to: the next byte continues the character, and with it one of four bytes has 16 or more. So it is after F0 because the next byte
-- is at least 90, and after F1..F4 because v is at least 1.
Sound : State → Type 0
Sound (Open n low high v) = (128 ≤ low) × (high < 192) × (3 ≤ n → 128 + 16 ≤ v * 64 + low)
Sound Broken = Unit {0}

sound-next : (st : State) (b : ℕ) → Sound st → Sound (next st b)
unfolding next Sound
sound-next Broken b s = tt
sound-next (Open zero low high v) b s =
    by_row Sound b (λ h. search rules) (λ h l. tt) (λ h l. search rules) (λ h l. search rules) (λ h l. search rules) (λ h l. search rules)
    (λ h l. search rules) (λ h l. search rules) (λ h l. search rules) (λ h l. search rules) (λ h. tt)
sound-next (Open (suc n) low high v) b s =
    choose Sound b low Broken _ (λ _. tt) (λ l.
    choose Sound high b Broken _ (λ _. tt) (λ h. (omega arith, omega arith, λ e. up (s.2 (omega arith)) l h)))
  where
    up : 144 ≤ v * 64 + low → low ≤ b → b ≤ high → 144 ≤ (v * 64 + b % 64) * 64 + 128
    up f l h = omega (arith, s.0, s.1)

-- The state after a byte: what it ended and what is due now come to w, what was due before and the byte's worth.
Balance : ℕ → State → Type 0
Balance w (Open n low high v) = gain (Open n low high v) + due (Open n low high v) ≡ w
Balance w Broken = Unit {0}

-- a first byte is worth its character's units
first-balance : (b : ℕ) → Balance (worth b + 0) (lead b)
unfolding Balance gain due width
first-balance b =
    by_row (Balance (worth b + 0)) b
    (λ h. rw (lt-ltb b 65536 (omega arith)) (omega (arith, worth-one b (omega arith), once-plain b h)))
    (λ h l. tt) (λ h l. rw (lt-ltb (b % 32) 1024 (omega arith)) (one (omega arith) (omega arith)))
    (λ h l. three (omega arith) (omega arith)) (λ h l. three (omega arith) (omega arith)) (λ h l. three (omega arith) (omega arith))
    (λ h l. three (omega arith) (omega arith)) (λ h l. two h) (λ h l. two (omega arith)) (λ h l. two (omega arith)) (λ h. tt)
  where
    one : 192 ≤ b → b < 240 → 0 + 1 ≡ worth b + 0
    one h l = omega (arith, worth-one b l, once-long b h)

    three : 192 ≤ b → b < 240 → 0 + sized 16 (b % 16) ≡ worth b + 0
    three h l = rw (lt-ltb (b % 16) 16 (omega arith)) (one h l)

    two : 240 ≤ b → 0 + 2 ≡ worth b + 0
    two h = omega (arith, worth-pair b h, once-long b (omega arith))

-- six bits more leave a number on its side of a bound
six-more : (v x k : ℕ) → x < 64 → sized (k * 64) (v * 64 + x) ≡ sized k v
six-more v x k h =
    choose (λ (y : ℕ). sized (k * 64) (v * 64 + x) ≡ y) v k 1 2
    (λ l. rw (lt-ltb (v * 64 + x) (k * 64) (omega arith))) (λ l. rw (le-ltb (v * 64 + x) (k * 64) (omega arith)))

-- a later byte is worth nothing, and what was due is due still or ended
later-balance : (n low high v b : ℕ) → Sound (Open (suc n) low high v) → low ≤ b → b ≤ high
    → Balance (worth b + due (Open (suc n) low high v)) (Open n 128 191 (v * 64 + b % 64))
unfolding Balance gain due width Sound
later-balance n low high v b s l h = go n s.2
  where
    nothing : worth b ≡ 0
    nothing = worth-one b (omega (arith, s.1)) ∙ once-later b (omega (arith, s.0)) (omega (arith, s.1))

    go : (n : ℕ) → (3 ≤ suc n → 144 ≤ v * 64 + low) → Balance (worth b + due (Open (suc n) low high v)) (Open n 128 191 (v * 64 + b % 64))
    go zero f = omega (arith, nothing, six-more v (b % 64) 1024 (omega arith))
    go (suc zero) f = omega (arith, nothing, six-more v (b % 64) 16 (omega arith))
    go (suc (suc zero)) f = let x = f (omega arith) in rw (le-ltb (v * 64 + b % 64) 16 (omega (arith, s.0, s.1))) (omega (arith, nothing))
    go (suc (suc (suc n))) f = omega (arith, nothing)

-- so with any byte
balance : (st : State) (b : ℕ) → Sound st → Balance (worth b + due st) (next st b)
unfolding next due Balance
balance Broken b s = tt
balance (Open zero low high v) b s = first-balance b
balance (Open (suc n) low high v) b s =
    choose (Balance (worth b + due (Open (suc n) low high v))) b low Broken _ (λ _. tt) (λ l.
    choose (Balance (worth b + due (Open (suc n) low high v))) high b Broken _ (λ _. tt) (λ h. later-balance n low high v b s l h))

-- ---- the rule

-- what well-formed text comes to is not broken
of-whole : (w : ℕ) (st : State) (t : List ℕ) → settled (after st t) ≡ true → Balance w st → gain st + due st ≡ w
unfolding Balance
of-whole w Broken t e p = absurd (clash (sym (broken t) ∙ e))
of-whole w (Open n low high v) t e p = p

none-due : (st : State) → settled st ≡ true → due st ≡ 0
unfolding settled due
none-due Broken e = refl
none-due (Open zero low high v) e = refl
none-due (Open (suc n) low high v) e = absurd (clash e)

-- from any state: what is due and what the rule counts of the bytes to come are the units of the characters that these end
rule-from : (st : State) (t : List ℕ) → Sound st → settled (after st t) ≡ true → due st + by_rule t ≡ widths (chars_from st t)
unfolding after by_rule
rule-from st [] s e = omega (arith, none-due st e, sum-nil st)
rule-from st (b ∷ t) s e =
    omega (arith, widths-cons st b t, of-whole _ (next st b) t e (balance st b s), rule-from (next st b) t (sound-next st b s) e)

-- the rule's count of well-formed text is that of the Unicode Standard
pub rule : (s : List ℕ) → well_formed s ≡ true → by_rule s ≡ units_of s
unfolding well_formed units_of chars due Sound
rule s e = omega (arith, rule-from start s (omega arith, omega arith, λ f. omega arith) e)

-- the plain bytes before `at`, and what the rule counts behind them, are the units of the whole
pub behind-rule : (s : List ℕ) (from at to : ℕ) → from ≤ at → at ≤ to → to ≤ length s → Plain (slice from at s) → well_formed (slice at to s) ≡ true
    → at - from + by_rule (slice at to s) ≡ units_of (slice from to s)
behind-rule s from at to l h f p e = ap (λ (n : ℕ). at - from + n) (rule _ e) ∙ behind-count s from at to l h f p

-- ---- a loop's turn, and its end

module _ (s : List ℕ) (i to : ℕ) where
  pub turn-rule : i < to → to ≤ length s → by_rule (slice i to s) ≡ worth (get_or s i 0) + by_rule (slice (i + 1) to s)
  unfolding by_rule
  turn-rule h f = ap by_rule (cons s i to h f)

  pub end-rule : i ≡ to → by_rule (slice i to s) ≡ 0
  unfolding by_rule
  end-rule e = ap by_rule (none s i to e)
