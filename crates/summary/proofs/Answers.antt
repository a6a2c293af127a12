-- What reading a summary answers, at each way out.
use Prim.Native.Nat.{ℕ, ◌+◌, ◌-◌, ◌*◌, ◌≤◌, ◌<◌}
use mathlib.Core.Path.{◌≡◌, sym, ap, ap₂, ◌∙◌, subst}
use mathlib.Core.Bool.{Bool, true, false, ◌&&◌}
use mathlib.Core.List.{List, [], ◌++◌}
use native.Mathlib.Omega.{arith}
use lib.Dec.{ltb, eqb}
use lib.ListN.{length, take, drop, replicate, length-drop}
use lib.Seq.{drop-drop}
use borrow.Author.Tests.{lt-ltb, le-ltb, eq-eqb, ne_eqb}
use Rattle.numbers.specs.Number.{pick}
use Rattle.numbers.specs.Output.{padded}
use Rattle.numbers.proofs.Output.{padded-some}
use Rattle.bits.specs.Bits.{value_of, of_bytes}
use Rattle.bits.proofs.Laws.{length-of-bytes}
use Rattle.std.proofs.Common.{Result, Ok, Err}
use Rattle.summary.specs.Summary.{one, RowsFound, read, refused, filled, rows_after, after_version, read_of}
use Rattle.summary.specs.Words.{words_of}
use Rattle.summary.specs.WordsInner.{All, Took, answer_of, Answers}
use Rattle.summary.proofs.Taking.{field-got, field-short}

-- a refusal, whatever the words were before
pub refused-answers : (found : RowsFound) (v : ℕ) (w₀ w₁ w₂ : List ℕ) (r : Result ℕ ℕ) → found ≡ refused v → length w₁ ≡ length w₀ → Answers (refused v) w₁ w₂ r → Answers found w₀ w₂ r
refused-answers found v w₀ w₁ w₂ r e l a = (a.0 ∙ ap answer_of (sym e), a.1 ∙ ap₂ (λ (n : ℕ) (f : RowsFound). padded n (words_of f)) l (sym e))

pub same-answers : (found was : RowsFound) (w₀ w₁ : List ℕ) (r : Result ℕ ℕ) → found ≡ was → Answers was w₀ w₁ r → Answers found w₀ w₁ r
same-answers found was w₀ w₁ r e a = subst (λ (f : RowsFound). Answers f w₀ w₁ r) (sym e) a

-- ---- behind bit 11

module _ (s : List ℕ) (n room : ℕ) (w : List ℕ) where
  pub took-refused : (x : Result Bool ℕ) (v : ℕ) → x ≡ Err v → Took s n room w x → rows_after n room [] (drop 11 (of_bytes s)) ≡ refused v
  unfolding Took
  took-refused x v e t = subst (λ (y : Result Bool ℕ). Took s n room w y) e t

  pub took-all : (x : Result Bool ℕ) (good : Bool) → x ≡ Ok good → Took s n room w x → All s n room w good
  unfolding Took
  took-all x good e t = subst (λ (y : Result Bool ℕ). Took s n room w y) e t

  module _ (good : Bool) (a : All s n room w good) where
    pub is-wrong : (good && filled (drop (11 + 131 * n) (of_bytes s))) ≡ false → rows_after n room [] (drop 11 (of_bytes s)) ≡ refused 17
    is-wrong e = a.told ∙ rw e

    pub is_read : (w₀ v : List ℕ) → length w ≡ length w₀ → (good && filled (drop (11 + 131 * n) (of_bytes s))) ≡ true → v ≡ take (4 * n) w ++ replicate (length w - 4 * n) 0
        → Answers (rows_after n room [] (drop 11 (of_bytes s))) w₀ v (Ok n)
    unfolding answer_of words_of
    is_read w₀ v l e c =
        let found : rows_after n room [] (drop 11 (of_bytes s)) ≡ read a.rows = a.told ∙ rw e in (
          sym (ap answer_of found ∙ ap Ok a.count),
          c ∙ padded-some w (4 * n) a.fits ∙ ap₂ padded l a.words ∙ sym (ap (λ (f : RowsFound). padded (length w₀) (words_of f)) found),
        )

-- ---- before bit 11

module _ (room : ℕ) (s : List ℕ) where
  pub no_byte : length s < 1 → read_of room s ≡ refused 1
  unfolding read_of
  no_byte h = field-short 4 (of_bytes s) _ (omega (arith, length-of-bytes s))

  module _ (h : 1 ≤ length s) where
    versioned : read_of room s ≡ pick (eqb (value_of 4 (of_bytes s)) 1) (after_version one room (drop 4 (of_bytes s))) (refused 16)
    unfolding read_of
    versioned = field-got 4 (of_bytes s) _ (omega (arith, length-of-bytes s))

    pub unknown : (value_of 4 (of_bytes s) ≡ 1 → ⊥) → read_of room s ≡ refused 16
    unknown e = versioned ∙ rw (ne_eqb (value_of 4 (of_bytes s)) 1 e)

    module _ (e : value_of 4 (of_bytes s) ≡ 1) where
      known : read_of room s ≡ after_version one room (drop 4 (of_bytes s))
      known = versioned ∙ rw (eq-eqb (value_of 4 (of_bytes s)) 1 e)

      pub no-count : length s < 2 → read_of room s ≡ refused 1
      unfolding after_version
      no-count l = known ∙ field-short 7 (drop 4 (of_bytes s)) _ (simp length-drop (omega (arith, length-of-bytes s)))

      module _ (l : 2 ≤ length s) where
        counted : read_of room s ≡ pick (ltb 64 (value_of 7 (drop 4 (of_bytes s)))) (refused 3) (rows_after (value_of 7 (drop 4 (of_bytes s))) room [] (drop 11 (of_bytes s)))
        unfolding after_version
        counted = known ∙ field-got 7 (drop 4 (of_bytes s)) _ (simp length-drop (omega (arith, length-of-bytes s))) ∙ rw (drop-drop 7 4 (of_bytes s))

        pub too_many : 64 < value_of 7 (drop 4 (of_bytes s)) → read_of room s ≡ refused 3
        too_many m = counted ∙ rw (lt-ltb 64 (value_of 7 (drop 4 (of_bytes s))) m)

        pub some-rows : value_of 7 (drop 4 (of_bytes s)) ≤ 64 → read_of room s ≡ rows_after (value_of 7 (drop 4 (of_bytes s))) room [] (drop 11 (of_bytes s))
        some-rows m = counted ∙ rw (le-ltb 64 (value_of 7 (drop 4 (of_bytes s))) m)
