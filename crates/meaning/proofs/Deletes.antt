-- The delete set: the short reading of it and the grammar as data give the same ranges.
use Prim.Native.Nat.{ℕ, zero, suc, ◌+◌, ◌-◌}
use mathlib.Core.Path.{◌≡◌, refl, sym, ap, ◌∙◌}
use mathlib.Core.Bool.{Bool, true, false}
use mathlib.Core.List.{List, ◌∷◌, ◌++◌}
use lib.Dec.{ltb, eqb}
use lib.ListN.{length}
use Rattle.numbers.specs.Limits.{max_value, max_clock, max_clients}
use Rattle.numbers.specs.Number.{pick}
use Rattle.ranges.specs.Ranges.{Range}
use Rattle.ranges.specs.Table.{range}
use Rattle.grammar.specs.Grammar as grammar
use Rattle.grammar.specs.Grammar.{Number, number, Grammar, draw, ◌>>=◌}
use Rattle.grammar.specs.Course.{run, fit}
use Rattle.grammar.specs.Deletes as deletes
use Rattle.decoder.specs.Line.{delete_at, number_by, line}
use Rattle.meaning.specs.Reads.{when◌then◌else◌, Reads, Got, got, on, done, refuse}
use Rattle.meaning.specs.Line.{unsigned, up_to}
use Rattle.meaning.specs.Fields.{located}
use Rattle.meaning.specs.Update.{less, ranges, owners, delete_set}
use Rattle.meaning.specs.Alike.{drawn_as, collect}
use Rattle.meaning.proofs.Line.{on-on, both, unsigned-located, up_to-is, restored-is}
use Rattle.meaning.proofs.Runs.{kept, draw-kept, thing-kept, bind-kept}

-- a number, and then what goes by it and by its place
located-then : {A : Type 0} (m : Reads ℕ ℕ) (at : ℕ) (f : ℕ → ℕ → Reads ℕ A) → on (m at) (λ v. f v at) ≡ on (located m at) (λ a. f a.0 a.1)
unfolding on
located-then m at f = sym (on-on (m at) (λ v s. got (v, at) s) (λ a. f a.0 a.1))

module _ (form : ℕ) (u : List ℕ) where
  less-is : (by at : ℕ) → located (less form u by) at ≡ drawn_as (λ a. a) (λ e. e) (delete_at form by u at)
  unfolding less delete_at when◌then◌else◌
  less-is by at = go (eqb form 1) refl
    where
      go : (b : Bool) → eqb form 1 ≡ b → located (less form u by) at ≡ drawn_as (λ a. a) (λ e. e) (delete_at form by u at)
      go true e = rw e (up_to-is u max_clock at)
      go false e = rw e (restored-is u by at)

  -- a number of the grammar, and then what goes by it and by its place
  number-then : {A : Type 0} (n : Number) (m : Reads ℕ ℕ) (g : ℕ × ℕ → Grammar Range A) (rest : ℕ → ℕ → Reads ℕ (List Range)) (rows at : ℕ)
      → located m at ≡ drawn_as (λ a. a) (λ e. e) (line form u (number n) at)
      → ((v p e : ℕ) → rest v p e ≡ kept (λ e. e) rows (run (line form u) (g (v, p)) e))
      → on (m at) (λ v. rest v at) ≡ kept (λ e. e) rows (run (line form u) (draw (number n) >>= g) at)
  number-then n m g rest rows at field same =
      located-then m at rest
      ∙ ap (λ (d : Got ℕ (ℕ × ℕ)). on d (λ a. rest a.0 a.1)) field
      ∙ draw-kept (λ e. e) (line form u) (number n) g (λ a. a) (λ a. rest a.0 a.1) rows at (λ a e. same a.0 a.1 e)

  abbrev Alike : {A : Type 0} → ℕ → ℕ → Reads ℕ (List Range) → Grammar Range A → Type 0
  Alike rows at m g = m at ≡ kept (λ e. e) rows (run (line form u) g at)

  -- what becomes of a range, and those behind it
  behind : ℕ → ℕ → ℕ → ℕ → ℕ → ℕ → Reads ℕ (List Range)
  behind k c rows clock n at =
      when ltb max_clock (clock + n) then refuse 3 at else
      when eqb n 0 then ranges form u k c (clock + n) rows else
      when eqb rows 0 then refuse 8 at else (λ s. on (ranges form u k c (clock + n) (rows - 1) s) (λ rs. done (range c clock n ∷ rs)))

  behind_in : ℕ → ℕ → ℕ → ℕ → ℕ → Grammar Range (Unit {0})
  behind_in k c clock n at =
      pick (ltb max_clock (clock + n)) (grammar.stop 3 at)
      (pick (eqb n 0) (deletes.ranges k c (clock + n)) (grammar.emit (range c clock n) at (deletes.ranges k c (clock + n))))

  behind-alike : (k c : ℕ) → ((end rows at : ℕ) → Alike rows at (ranges form u k c end rows) (deletes.ranges k c end)) → (rows clock n p at : ℕ)
      → Alike rows at (behind k c rows clock n p) (behind_in k c clock n p)
  unfolding behind behind_in run fit collect
  behind-alike k c same rows clock n p at =
      both (Alike rows at) (ltb max_clock (clock + n)) refl
      (both (Alike rows at) (eqb n 0) (same (clock + n) rows at)
      (thing-kept (λ e. e) (ranges form u k c (clock + n)) (range c clock n) p at (run (line form u) (deletes.ranges k c (clock + n)) at)
      (λ rows. same (clock + n) rows at) rows))

  ranges-alike : (k c end rows at : ℕ) → Alike rows at (ranges form u k c end rows) (deletes.ranges k c end)
  unfolding ranges deletes.ranges run fit collect on line number_by behind behind_in
  ranges-alike zero c end rows at = refl
  ranges-alike (suc k) c end rows at =
      number-then (grammar.delete_clock end) (less form u end) (λ a. draw (number grammar.delete_len) >>= λ b. behind_in k c a.0 b.0 a.1)
      (λ clock p e. on (less form u 1 e) (λ n. behind k c rows clock n p)) rows at (less-is end at)
      (λ clock p e. number-then grammar.delete_len (less form u 1) (λ b. behind_in k c clock b.0 p) (λ n _. behind k c rows clock n p) rows e (less-is 1 e)
      (λ n _ e. behind-alike k c (ranges-alike k c) rows clock n p e))

  -- the ranges of a client, and then those of the others
  others : ℕ → ℕ → ℕ → ℕ → Reads ℕ (List Range)
  others n rows c k at = on (ranges form u k c 0 rows at) (λ rs s. on (owners form u n (rows - length rs) s) (λ more s. got (rs ++ more) s))

  others_in : ℕ → ℕ → ℕ → Grammar Range (Unit {0})
  others_in n c k = deletes.ranges k c 0 >>= λ _. deletes.deleted_clients n

  others-alike : (n : ℕ) → ((rows at : ℕ) → Alike rows at (owners form u n rows) (deletes.deleted_clients n)) → (rows c k at : ℕ)
      → Alike rows at (others n rows c k) (others_in n c k)
  unfolding others others_in
  others-alike n same rows c k at =
      rw (ranges-alike k c 0 rows at)
      (bind-kept (λ e. e) (line form u) (deletes.ranges k c 0) (λ _. deletes.deleted_clients n) (owners form u n) rows at (λ _ rows e. same rows e))

  owners-alike : (n rows at : ℕ) → Alike rows at (owners form u n rows) (deletes.deleted_clients n)
  unfolding owners deletes.deleted_clients run fit collect line number_by others others_in
  owners-alike zero rows at = refl
  owners-alike (suc n) rows at =
      number-then (grammar.up_to max_value) (up_to u max_value) (λ a. draw (number grammar.any) >>= λ b. others_in n a.0 b.0)
      (λ c _ e. on (unsigned u e) (λ k. others n rows c k)) rows at (up_to-is u max_value at)
      (λ c _ e. number-then grammar.any (unsigned u) (λ b. others_in n c b.0) (λ k _. others n rows c k) rows e (unsigned-located u e)
      (λ k _ e. others-alike n (owners-alike n) rows c k e))

  pub deletes-alike : (rows at : ℕ) → delete_set form u rows at ≡ collect (λ e. e) (fit rows (run (line form u) deletes.all_ranges at))
  unfolding delete_set deletes.all_ranges line number_by
  deletes-alike rows at =
      number-then (grammar.up_to max_clients) (up_to u max_clients) (λ a. deletes.deleted_clients a.0) (λ n _. owners form u n rows) rows at
      (up_to-is u max_clients at) (λ n _ e. owners-alike n rows e)
