-- The answers of `explain`, at each way out.
use Prim.Native.Nat.{ℕ, zero, suc, ◌-◌, ◌*◌, ◌≤◌, ◌<◌}
use native.Mathlib.Omega.{arith}
use mathlib.Core.Path.{◌≡◌, refl, sym, ap, ap₂, ◌∙◌, subst}
use mathlib.Core.List.{List, ◌++◌}
use lib.ListN.{length, take, replicate}
use borrow.Author.Tests.{lt-ltb, le-ltb}
use Rattle.numbers.specs.declared.Refusal.{Refusal}
use Rattle.numbers.specs.Number.{none, nowhere}
use Rattle.numbers.specs.Limits.{max_update}
use Rattle.numbers.specs.Output.{padded}
use Rattle.numbers.proofs.Output.{padded-some}
use Rattle.origins.specs.Sheets.{lines_from}
use Rattle.explainer.specs.Explanation.{explanation, words}
use Rattle.explains.specs.declared.Explained.{Explained}
use Rattle.std.proofs.Common.{Ok, Err}
use Rattle.explains.specs.Whole.{whole_of}
use Rattle.explains.specs.Promises.{Outcome, refused, fitting, explain_of, answer_of, Gives}
use Rattle.explains.proofs.Sheets.{length-lines, length-words, sheet-words}
use Rattle.explains.proofs.Wholes.{by_whole}

pub gives-by : (o was : Outcome) (out : List ℕ) (r : Explained) (out₁ : List ℕ) → o ≡ was → Gives was out r out₁ → Gives o out r out₁
gives-by o was out r out₁ e h = subst (λ (x : Outcome). Gives x out r out₁) (sym e) h

-- ---- the lines of a sheet

module _ (room : ℕ) (sh : List ℕ) where
  some : (n : ℕ) → (n ≡ 0 → ⊥) → 12 * n ≤ room → fitting room (lines_from sh 0 n) ≡ record { why = none; lines = lines_from sh 0 n }
  unfolding fitting lines_from
  some zero any h = absurd (any refl)
  some (suc n) any h = rw (le-ltb room (length (words (lines_from sh 0 (suc n)))) (omega (arith, h, length-words (lines_from sh 0 (suc n)), length-lines sh 0 (suc n))))

  pub no_block : (n : ℕ) → n ≡ 0 → fitting room (lines_from sh 0 n) ≡ refused (nowhere 11)
  unfolding fitting lines_from
  no_block zero e = refl
  no_block (suc n) e = absurd (omega (arith, e))

  pub no_room : (n : ℕ) → (n ≡ 0 → ⊥) → room < 12 * n → fitting room (lines_from sh 0 n) ≡ refused (nowhere 10)
  unfolding fitting lines_from
  no_room zero any h = absurd (any refl)
  no_room (suc n) any h = rw (lt-ltb room (length (words (lines_from sh 0 (suc n)))) (omega (arith, h, length-words (lines_from sh 0 (suc n)), length-lines sh 0 (suc n))))

module _ (out sh : List ℕ) (n : ℕ) (any : n ≡ 0 → ⊥) (fits : 12 * n ≤ length out) (long : 12 * n ≤ length sh) (out₁ out₂ : List ℕ) (as_long : length out₁ ≡ length out)
    (copied : take (12 * n) out₁ ≡ take (12 * n) sh) (cleared : out₂ ≡ take (12 * n) out₁ ++ replicate (length out₁ - 12 * n) 0) where
  front : take (12 * n) out₁ ≡ words (lines_from sh 0 n)
  front = copied ∙ sym (sheet-words sh n long)

  pub told : Gives (fitting (length out) (lines_from sh 0 n)) out (record { refusal = none; lines = n }) out₂
  unfolding answer_of
  told =
      gives-by (fitting (length out) (lines_from sh 0 n)) _ out _ out₂ (some (length out) sh n any fits)
      (ap (λ (k : ℕ). record { refusal = none; lines = k }) (sym (length-lines sh 0 n)), cleared ∙ padded-some out₁ (12 * n) (omega (arith, fits, as_long)) ∙ ap₂ padded as_long front)

-- ---- before the block is sought

module _ (form : ℕ) (u : List ℕ) (n room : ℕ) where
  pub no-form : form < 1 → explain_of form u n room ≡ refused (nowhere 12)
  unfolding explain_of
  no-form h = rw (lt-ltb form 1 h)

  module _ (low : 1 ≤ form) where
    pub other-form : 2 < form → explain_of form u n room ≡ refused (nowhere 12)
    unfolding explain_of
    other-form h = rw (le-ltb form 1 low, lt-ltb 2 form h)

    module _ (high : form ≤ 2) where
      pub too_long : max_update < length u → explain_of form u n room ≡ refused (nowhere 3)
      unfolding explain_of
      too_long h = rw (le-ltb form 1 low, le-ltb 2 form high, lt-ltb max_update (length u) h)

      module _ (short : length u ≤ max_update) where
        pub not-read : (why : Refusal) → Err why ≡ whole_of form u → explain_of form u n room ≡ refused why
        unfolding explain_of
        not-read why e = rw (le-ltb form 1 low, le-ltb 2 form high, le-ltb max_update (length u) short) (by_whole form u _ _ (Err why) e)

        pub is_read : Ok tt ≡ whole_of form u → explain_of form u n room ≡ fitting room (explanation form u n)
        unfolding explain_of
        is_read e = rw (le-ltb form 1 low, le-ltb 2 form high, le-ltb max_update (length u) short) (by_whole form u _ _ (Ok tt) e)
