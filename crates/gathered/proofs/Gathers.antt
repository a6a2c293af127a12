-- The rows of an update, by what each part of its reading gave.
use Rattle.std.specs.Prelude.{Result, Ok, Err}
use Prim.Native.Nat.{ℕ, ◌*◌, ◌≤◌}
use mathlib.Core.Path.{◌≡◌, refl, sym, ap, ◌∙◌, subst}
use mathlib.Core.List.{List, [], ◌∷◌}
use native.Mathlib.Omega.{arith}
use lib.ListN.{length, take}
use Rattle.numbers.specs.declared.Refusal.{Refusal}
use Rattle.block.specs.declared.Block.{Block}
use Rattle.grammar.specs.Course.{Course, CourseTo, thing, over, stopped, things, ending}
use Rattle.decoder.specs.States.{State}
use Rattle.decoder.specs.Update.{rest_places, blocks_of, delete_set}
use Rattle.readings.specs.Sound.{All}
use Rattle.readings.specs.SoundInner.{Sound}
use Rattle.readings.proofs.Sounds.{blocks-sound}
use Rattle.readings.proofs.Counts.{blocks-groups}
use Rattle.summary.specs.Words.{words_in}
use Rattle.tally.specs.Tally.{rows_by, kept}
use Rattle.gathered.specs.RowsOf.{rows_of, Told, rows, refused, told_of}
use Rattle.gathered.specs.Gathered.{Ends, Gatherable, end_of, Scans, Tells}
use Rattle.gathered.proofs.Clients.{rows-groups}

-- ---- every update's blocks can be gathered

ends_of : (u : List ℕ) (bs : List Block) → All (Sound u) bs → Ends bs
unfolding Ends
ends_of u [] h = tt
ends_of u (b ∷ bs) h = (h.0.end, ends_of u bs h.1)

pub gatherable : (form : ℕ) (u : List ℕ) → Gatherable (things (blocks_of form u))
gatherable form u =
    record { ends = ends_of u (things (blocks_of form u)) (blocks-sound form u); few = omega (arith, rows-groups (things (blocks_of form u)), blocks-groups form u) }

-- ---- how a course ends

module _ {E : Type 0} where
  ends-refused : (c : Course E) (why : Refusal) (f : ℕ → Told) (g : Refusal → Told) → ending c (λ at. Ok at) (λ w. Err w) ≡ Err why → ending c f g ≡ g why
  unfolding ending
  ends-refused (thing a p c) why f g e = ends-refused c why f g e
  ends-refused (over a t) why f g e = absurd (let z : ◌≡◌ {A = ℕ} 0 1 = cc in omega arith)
  ends-refused (stopped w) why f g e = ap g (let z : w ≡ why = cc in z)

  ends-done : (c : Course E) (at : ℕ) (f : ℕ → Told) (g : Refusal → Told) → ending c (λ t. Ok t) (λ w. Err w) ≡ Ok at → ending c f g ≡ f at
  unfolding ending
  ends-done (thing a p c) at f g e = ends-done c at f g e
  ends-done (over a t) at f g e = ap f (let z : t ≡ at = cc in z)
  ends-done (stopped w) at f g e = absurd (let z : ◌≡◌ {A = ℕ} 0 1 = cc in omega arith)

-- and how it ends up to a state's place
placed-ends : (c : CourseTo State Block (Unit {0})) → ending (rest_places c) (λ at. Ok at) (λ w. Err w) ≡ end_of c
unfolding rest_places ending end_of
placed-ends (thing b p c) = placed-ends c
placed-ends (over a s) = refl
placed-ends (stopped why) = refl

placed-items : (c : CourseTo State Block (Unit {0})) → things (rest_places c) ≡ things c
unfolding rest_places things
placed-items (thing b p c) = ap (λ (l : List Block). b ∷ l) (placed-items c)
placed-items (over a s) = refl
placed-items (stopped why) = refl

-- ---- the whole

module _ (form : ℕ) (u : List ℕ) where
  tells-refused : (w : List ℕ) (why : Refusal) (g : Result ℕ Refusal) → told_of form u ≡ refused why → g ≡ Err why → Tells (told_of form u) w g
  unfolding Tells
  tells-refused w why g e h = subst (λ (t : Told). Tells t w g) (sym e) h

  pub not-begun : (w : List ℕ) (why : Refusal) (g : Result ℕ Refusal) → blocks_of form u ≡ stopped why → g ≡ Err why → Tells (told_of form u) w g
  unfolding told_of ending
  not-begun w why g e h = tells-refused w why g (rw e) h

  module _ (c : CourseTo State Block (Unit {0})) (b : blocks_of form u ≡ rest_places c) where
    pub can-be : Ends (things c)
    can-be = subst Ends (ap things b ∙ placed-items c) (gatherable form u).ends

    module _ (r o : List ℕ) (x : Result (ℕ × ℕ) Refusal) (s : Scans c r o x) where
      pub not-scanned : (w : List ℕ) (why : Refusal) (g : Result ℕ Refusal) → x ≡ Err why → g ≡ Err why → Tells (told_of form u) w g
      unfolding told_of Scans
      not-scanned w why g e h =
          let z = subst (Scans c r o) e s in
          tells-refused w why g (ends-refused (blocks_of form u) why _ _ (rw b (placed-ends c ∙ z))) h

      module _ (n at : ℕ) (e : x ≡ Ok (n, at)) where
        pub few-sections : n ≤ 64
        unfolding Scans
        few-sections = let z = subst (Scans c r o) e s in z.0

        told-after : told_of form u ≡ ending (delete_set form u at) (λ t. rows (rows_of (things (blocks_of form u)))) (λ why. refused why)
        unfolding told_of Scans
        told-after = let z = subst (Scans c r o) e s in ends-done (blocks_of form u) at _ _ (rw b (placed-ends c ∙ z.2))

        pub not-checked : (w : List ℕ) (why : Refusal) (k : Result ℕ Refusal) (g : Result ℕ Refusal) → k ≡ ending (delete_set form u at) Ok Err → k ≡ Err why → g ≡ Err why → Tells (told_of form u) w g
        not-checked w why k g d q h = tells-refused w why g (told-after ∙ ends-refused (delete_set form u at) why _ _ (sym d ∙ q)) h

        pub gathers : (w : List ℕ) (m t : ℕ) (k : Result ℕ Refusal) → m ≡ length (kept (rows_by r (take n o))) → take (4 * m) w ≡ words_in (kept (rows_by r (take n o)))
            → k ≡ ending (delete_set form u at) Ok Err → k ≡ Ok t → Tells (told_of form u) w (Ok m)
        unfolding Scans Tells
        gathers w m t k count words d q =
            let told : told_of form u ≡ rows (rows_of (things (blocks_of form u))) = told-after ∙ ends-done (delete_set form u at) t _ _ (sym d ∙ q) in
            let z = subst (Scans c r o) e s in
            let same : kept (rows_by r (take n o)) ≡ rows_of (things (blocks_of form u)) = z.1 ∙ ap rows_of (sym (ap things b ∙ placed-items c)) in
            let many : m ≡ length (rows_of (things (blocks_of form u))) = count ∙ ap length same in
            subst (λ (y : Told). Tells y w (Ok m)) (sym told)
            (ap Ok many, ap (λ (j : ℕ). take (4 * j) w) (sym many) ∙ words ∙ ap words_in same, (gatherable form u).few)
