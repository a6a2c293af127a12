-- What the rows that are kept come to: the set read into words, or why not.
use Rattle.std.specs.Prelude.{Result, Ok, Err}
use Prim.Native.Nat.{ℕ, ◌-◌, ◌*◌, ◌≤◌}
use mathlib.Core.Path.{◌≡◌, sym, ap, ◌∙◌}
use mathlib.Core.List.{List, [], ◌++◌}
use native.Mathlib.Omega.{arith}
use lib.ListN.{length, take, replicate}
use Rattle.numbers.specs.declared.Refusal.{Refusal}
use Rattle.numbers.specs.Output.{padded}
use Rattle.numbers.proofs.Output.{padded-none}
use Rattle.grammar.specs.Course.{Course, thing, over, stopped, things, ending}
use Rattle.ranges.specs.Ranges.{Range, normal}
use Rattle.ranges.specs.Table.{flat}
use Rattle.ranges.specs.TableInner.{rows_from, AllFine, normal_count, normalized}
use Rattle.ranges.proofs.Flat.{length-flat}
use Rattle.deletes.specs.DeleteSet.{taken, set_of, words_of}
use Rattle.deletes.specs.Steps.{Kept}
use Rattle.deletes.proofs.Rows.{told_with}

-- ---- how a course ends, told by one answer, tells it of every other

module _ {X : Type 0} (done : ℕ → X) (refused : Refusal → X) (m : ℕ) where
  ends-not : (c : Course Range) (why : Refusal) → Err why ≡ told_with m c → ending c done refused ≡ refused why
  unfolding ending
  ends-not (thing a p c) why e = ends-not c why e
  ends-not (over x t) why e = absurd (let z : ◌≡◌ {A = ℕ} 0 1 = cc in omega arith)
  ends-not (stopped w) why e = ap refused (cc)

  ends_at : (c : Course Range) (n t : ℕ) → Ok (n, t) ≡ told_with m c → (n ≡ m) × (ending c done refused ≡ done t)
  unfolding ending
  ends_at (thing a p c) n t e = ends_at c n t e
  ends_at (over x v) n t e = let q : ◌≡◌ {A = ℕ × ℕ} (n, t) (m, v) = cc in (ap (λ (p : ℕ × ℕ). p.0) q, ap done (sym (ap (λ (p : ℕ × ℕ). p.1) q)))
  ends_at (stopped w) n t e = absurd (let z : ◌≡◌ {A = ℕ} 0 1 = cc in omega arith)

-- ---- the set

module _ (form : ℕ) (u : List ℕ) (at : ℕ) (e w : List ℕ) (r : Result (ℕ × ℕ) Refusal) (k : Kept e w (taken form u at (length e)) r) where
  pub set-refused : (why : Refusal) → r ≡ Err why
      → (Err why ≡ set_of form u at (length e)) × (take 0 w ++ replicate (length w - 0) 0 ≡ words_of form u at (length e))
  unfolding set_of words_of
  set-refused why q =
      let c = taken form u at (length e) in
      let m = length (things c) in
      let told = sym q ∙ k.told in (
        sym (ends-not (λ t. Ok (length (normal (things c)), t)) Err m c why told),
        padded-none w ∙ rw k.size (ap (padded (length e)) (sym (ends-not (λ t. flat (normal (things c))) (λ y. []) m c why told))),
      )

  pub rows-ready : (n t : ℕ) → r ≡ Ok (n, t) → (3 * n ≤ length w) × AllFine w n
  rows-ready n t q =
      let c = taken form u at (length e) in
      let z = (ends_at (λ t. t) (λ why. 0) (length (things c)) c n t (sym q ∙ k.told)).0 in
      (omega (arith, k.fits, z), rw z k.fine)

  pub set-rows : (n t : ℕ) → r ≡ Ok (n, t)
      → (Ok (normal_count w n, t) ≡ set_of form u at (length e)) × (normalized w n ≡ words_of form u at (length e))
  unfolding set_of words_of normal_count normalized padded
  set-rows n t q =
      let c = taken form u at (length e) in
      let m = length (things c) in
      let told = sym q ∙ k.told in
      let x = ends_at {X = Result (ℕ × ℕ) Refusal} (λ t. Ok (length (normal (things c)), t)) Err m c n t told in
      let y = ends_at (λ t. flat (normal (things c))) (λ y. []) m c n t told in
      let rows : rows_from w 0 n ≡ things c = rw x.0 k.rows in
      (rw (rows, x.1), rw (rows, y.1, k.size, length-flat (normal (things c))))
