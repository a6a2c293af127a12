-- The answers of the public calls on summaries, at each way out.
use Rattle.std.specs.Prelude.{Result, Ok, Err}
use Prim.Native.Nat.{ℕ, ◌+◌, ◌-◌, ◌*◌, ◌/◌, ◌≤◌, ◌<◌}
use mathlib.Core.Path.{◌≡◌, refl, sym, ap, ap₂, ◌∙◌, subst}
use mathlib.Core.List.{List, ◌++◌}
use native.Mathlib.Omega.{arith}
use lib.ListN.{length, take, replicate}
use borrow.Author.Tests.{lt-ltb, le-ltb}
use Rattle.numbers.specs.declared.Refusal.{Refusal}
use Rattle.numbers.specs.Number.{nowhere}
use Rattle.numbers.specs.Limits.{max_update}
use Rattle.numbers.specs.Output.{padded}
use Rattle.numbers.proofs.Output.{padded-some}
use Rattle.bits.specs.Places.{Starts}
use Rattle.bits.proofs.Places.{starts-are}
use Rattle.std.proofs.Common.{Result, Ok, Err}
use Rattle.summary.specs.Rows.{Row}
use Rattle.summary.specs.Summary as summary
use Rattle.summary.specs.Summary.{one, summary_bits, summary_of}
use Rattle.summary.specs.WordsInner.{rows_in, answer_of}
use Rattle.summary.proofs.Laws as laws
use Rattle.summary.proofs.RoundTrip.{length-summary}
use Rattle.gathered.specs.RowsOf as told
use Rattle.gathered.specs.RowsOf.{told_of}
use Rattle.gathered.specs.Gathered.{Tells}
use Rattle.summaries.specs.declared.Summarized.{Summarized}
use Rattle.summaries.specs.Promises.{Made, bytes, refused, made_of, fitted, summary_in, summarized, made_bytes, rows_answer}

-- what is made, as an answer r, into the bytes out that are then out₁
abbrev pub Makes : Made → List ℕ → Summarized → List ℕ → Type 0
Makes m out r out₁ = (r ≡ summarized m) × (out₁ ≡ padded (length out) (made_bytes m))

pub makes-by : (m was : Made) (out : List ℕ) (r : Summarized) (out₁ : List ℕ) → m ≡ was → Makes was out r out₁ → Makes m out r out₁
makes-by m was out r out₁ e h = subst (λ (x : Made). Makes x out r out₁) (sym e) h

-- ---- n rows

module _ (n : ℕ) (w : List ℕ) where
  size_is : length (summary_of one (rows_in n w)) ≡ (11 + 131 * n + 7) / 8
  size_is = length-summary one (rows_in n w) ∙ ap (λ (k : ℕ). (11 + 131 * k + 7) / 8) (laws.length-rows n w)

  module _ (size : ℕ) (e : size ≡ (11 + 131 * n + 7) / 8) (out : List ℕ) where
    pub no_room : length out < size → fitted (length out) (bytes (summary_of one (rows_in n w))) ≡ refused (nowhere 10)
    unfolding fitted
    no_room h = rw (lt-ltb (length out) (length (summary_of one (rows_in n w))) (omega (arith, h, e, size_is)))

    pub written : size ≤ length out → (out₁ out₂ : List ℕ) → length out₁ ≡ length out → Starts (summary_bits one (rows_in n w)) out₁ → out₂ ≡ take size out₁ ++ replicate (length out₁ - size) 0
        → Makes (fitted (length out) (bytes (summary_of one (rows_in n w)))) out (record { refusal = nowhere 0; bytes = size }) out₂
    unfolding fitted summarized made_bytes summary_of
    written h out₁ out₂ l s c =
        let b = summary_of one (rows_in n w) in
        let size' : size ≡ length b = e ∙ sym size_is in
        let front : take size out₁ ≡ b = ap (λ (k : ℕ). take k out₁) size' ∙ starts-are (summary_bits one (rows_in n w)) out₁ s in
        makes-by (fitted (length out) (bytes b)) (bytes b) out _ out₂ (rw (le-ltb (length out) (length b) (omega (arith, h, size'))))
        (ap (λ (k : ℕ). record { refusal = nowhere 0; bytes = k }) size', c ∙ padded-some out₁ size (omega (arith, h, l)) ∙ ap₂ padded l front)

-- ---- what an update says

pub record SaysRows (t : told.Told) (w : List ℕ) (n : ℕ) : Type 0 where
  pub few : n ≤ 64
  pub are : t ≡ told.rows (rows_in n w)

pub says-rows : (t : told.Told) (w : List ℕ) (g : Result ℕ Refusal) (n : ℕ) → Tells t w g → g ≡ Ok n → SaysRows t w n
unfolding Tells
says-rows (told.rows rs) w g n h e =
    let count : length rs ≡ n = let z : Ok (length rs) ≡ Ok n = sym h.0 ∙ e in cc in
    record {
      few = omega (arith, h.2, count);
      are = ap told.rows (sym (laws.rows_are n w rs count (ap (λ (k : ℕ). take (4 * k) w) (sym count) ∙ h.1)));
    }
says-rows (told.refused why) w g n h e = absurd (let y : Err why ≡ Ok n = sym h ∙ e in let z : ◌≡◌ {A = ℕ} 0 1 = cc in omega arith)

pub says-refused : (t : told.Told) (w : List ℕ) (g : Result ℕ Refusal) (why : Refusal) → Tells t w g → g ≡ Err why → t ≡ told.refused why
unfolding Tells
says-refused (told.rows rs) w g why h e = absurd (let y : Ok (length rs) ≡ Err why = sym h.0 ∙ e in let z : ◌≡◌ {A = ℕ} 0 1 = cc in omega arith)
says-refused (told.refused w') w g why h e = ap told.refused (let y : Err w' ≡ Err why = sym h ∙ e in let z : w' ≡ why = cc in z)

pub of-rows : (rs : List Row) → made_of (told.rows rs) ≡ bytes (summary_of one rs)
unfolding made_of
of-rows rs = refl

pub of-refused : (n : ℕ) (why : Refusal) → fitted n (made_of (told.refused why)) ≡ refused why
unfolding made_of fitted
of-refused n why = refl

-- ---- before it is read

module _ (form : ℕ) (u : List ℕ) (n : ℕ) where
  pub no-form : form < 1 → summary_in form u n ≡ refused (nowhere 12)
  unfolding summary_in
  no-form h = rw (lt-ltb form 1 h)

  module _ (low : 1 ≤ form) where
    pub other-form : 2 < form → summary_in form u n ≡ refused (nowhere 12)
    unfolding summary_in
    other-form h = rw (le-ltb form 1 low, lt-ltb 2 form h)

    module _ (high : form ≤ 2) where
      pub too_long : max_update < length u → summary_in form u n ≡ refused (nowhere 3)
      unfolding summary_in
      too_long h = rw (le-ltb form 1 low, le-ltb 2 form high, lt-ltb max_update (length u) h)

      pub is-told : length u ≤ max_update → (t : told.Told) → told_of form u ≡ t → summary_in form u n ≡ fitted n (made_of t)
      unfolding summary_in
      is-told h t e = rw (le-ltb form 1 low, le-ltb 2 form high, le-ltb max_update (length u) h, e)

-- ---- read

pub read_some : (f : summary.RowsFound) (r : Result ℕ ℕ) (n : ℕ) → r ≡ answer_of f → r ≡ Ok n → record { refusal = nowhere 0; count = n } ≡ rows_answer f
unfolding answer_of rows_answer
read_some (summary.read rs) r n e h =
    ap (λ (k : ℕ). record { refusal = nowhere 0; count = k }) (let y : ◌≡◌ {A = Result ℕ ℕ} (Ok n) (Ok (length rs)) = sym h ∙ e in let z : n ≡ length rs = cc in z)
read_some (summary.refused v) r n e h = absurd (let y : ◌≡◌ {A = Result ℕ ℕ} (Ok n) (Err v) = sym h ∙ e in let z : ◌≡◌ {A = ℕ} 0 1 = cc in omega arith)

pub read_none : (f : summary.RowsFound) (r : Result ℕ ℕ) (v : ℕ) → r ≡ answer_of f → r ≡ Err v → record { refusal = nowhere v; count = 0 } ≡ rows_answer f
unfolding answer_of rows_answer
read_none (summary.read rs) r v e h = absurd (let y : ◌≡◌ {A = Result ℕ ℕ} (Err v) (Ok (length rs)) = sym h ∙ e in let z : ◌≡◌ {A = ℕ} 0 1 = cc in omega arith)
read_none (summary.refused w) r v e h =
    ap (λ (k : ℕ). record { refusal = nowhere k; count = 0 }) (let y : ◌≡◌ {A = Result ℕ ℕ} (Err v) (Err w) = sym h ∙ e in let z : v ≡ w = cc in z)
