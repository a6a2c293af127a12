-- The loop that plans: what is planned and the rows that are still to be seen make up the plan.
use Prim.Native.Nat.{ℕ, suc, ◌+◌, ◌≤◌, ◌<◌}
use mathlib.Core.Path.{◌≡◌, refl, sym, ap, ◌∙◌}
use mathlib.Core.List.{List, [], ◌∷◌}
use native.Mathlib.Omega.{arith}
use lib.ListN.{length, get_or, take}
use lib.Seq.{slice, slice-cons, slice_empty}
use Rattle.block.specs.declared.Block.{Block}
use Rattle.block.specs.Row.{no_block}
use Rattle.vector.specs.Vector.{Entry}
use Rattle.kept.specs.declared.plan.Planning.{Planning}
use Rattle.kept.specs.Plan.{unplanned, plan_step, plan_words, plan_all, plan_all_words, ended_words}
use Rattle.encoder.specs.Passes.{outcome_of, outcome_for, words_for}

module _ (u : List ℕ) (v : List Entry) (w₀ : List ℕ) (rows : List Block) (n : ℕ) where
  pub record Seen (s : Planning) (i : ℕ) (w : List ℕ) : Type 0 where
    pub state : plan_all u v w s i (slice i n rows) ≡ plan_all u v w₀ unplanned 0 (take n rows)
    pub words : plan_all_words u v w s i (slice i n rows) ≡ plan_all_words u v w₀ unplanned 0 (take n rows)
    pub upto : i ≤ n

  pub begins : Seen unplanned 0 w₀
  begins = record { state = refl; words = refl; upto = search arith }

  module _ (there : n ≤ length rows) (s : Planning) (i : ℕ) (w : List ℕ) (g : Seen s i w) where
    pub turns : i < n → let b = get_or rows i no_block in Seen (plan_step u v w s i b) (i + 1) (plan_words w s b)
    unfolding plan_all plan_all_words
    turns l =
        let q : suc i ≡ i + 1 = omega arith in
        let on = slice-cons i n rows no_block l there ∙ ap (λ (k : ℕ). get_or rows i no_block ∷ slice k n rows) q in
        record {
          state = sym (ap (plan_all u v w s i) on) ∙ g.state;
          words = sym (ap (plan_all_words u v w s i) on) ∙ g.words;
          upto = omega (arith, l);
        }

    module _ (l : n ≤ i) where
      none : slice i n rows ≡ []
      none =
          let q : i ≡ n = omega (arith, l, g.upto) in
          ap (λ (k : ℕ). slice k n rows) q ∙ slice_empty n rows

      all : s ≡ plan_all u v w₀ unplanned 0 (take n rows)
      unfolding plan_all
      all = sym (ap (plan_all u v w s i) none) ∙ g.state

      all_words : w ≡ plan_all_words u v w₀ unplanned 0 (take n rows)
      unfolding plan_all_words
      all_words = sym (ap (plan_all_words u v w s i) none) ∙ g.words

      pub outcome-is : outcome_of w s ≡ outcome_for u v w₀ (take n rows)
      unfolding outcome_for
      outcome-is = ap (outcome_of w) all ∙ ap (λ (x : List ℕ). outcome_of x (plan_all u v w₀ unplanned 0 (take n rows))) all_words

      pub words_are : ended_words w s ≡ words_for u v w₀ (take n rows)
      unfolding words_for
      words_are = ap (ended_words w) all ∙ ap (λ (x : List ℕ). ended_words x (plan_all u v w₀ unplanned 0 (take n rows))) all_words
