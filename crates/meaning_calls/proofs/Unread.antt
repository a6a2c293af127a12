-- That the lowest byte that stays unread is the lowest of all that reading leaves.
use Prim.Native.Nat.{ℕ, min}
use mathlib.Core.Path.{◌≡◌, refl, ap, subst, ◌∙◌}
use mathlib.Core.Bool.{Bool, true, false}
use mathlib.Core.List.{List, [], ◌∷◌, ◌++◌, map}
use native.Mathlib.Omega.{arith}
use lib.Dec.{ltb, eqb}
use lib.ListN.{length, take, drop}
use borrow.Author.Tests.{ltb-true, ltb-false}
use Rattle.numbers.specs.Number.{pick}
use Rattle.grammar.specs.Course.{CourseTo, thing, over, stopped, ending, run}
use Rattle.grammar.specs.Blocks.{all_blocks}
use Rattle.decoder.specs.Line.{line}
use Rattle.decoder.specs.States.{State}
use Rattle.decoder.specs.Update.{in_columns, delete_set}
use Rattle.leftover.specs.Leftover as leftover
use Rattle.leftover.specs.Leftover.{Stretch, stretch, columns_at, columns_left, set_end, unread_of, lower, lowest_left}
use Rattle.meaning.specs.Reads.{when◌then◌else◌}
use Rattle.meaning.specs.Fields.{Standing}
use Rattle.meaning.specs.Alike.{at_place, at_state}
use Rattle.meaning.proofs.Whole.{seen, seen-ending, Ends, ends-ending, stands_of, stands_at}
use Rattle.meaning_calls.specs.Reading.{lowest, unread}

-- ---- the lowest byte of stretches, whatever their order

abbrev lowered : ℕ → Stretch → ℕ
lowered n x = when ltb x.from x.to then min x.from n else n

lower-is : (n : ℕ) (x : Stretch) → lower n x ≡ lowered n x
unfolding lower when◌then◌else◌
lower-is n x = go (ltb x.from x.to) (ltb x.from n) refl
  where
    go : (a b : Bool) → ltb x.from n ≡ b → pick a (pick b x.from n) n ≡ (when a then min x.from n else n)
    go true true e = omega (arith, ltb-true x.from n e)
    go true false e = omega (arith, ltb-false x.from n e)
    go false b e = refl

lower-swap : (n : ℕ) (x y : Stretch) → lower (lower n x) y ≡ lower (lower n y) x
unfolding when◌then◌else◌
lower-swap n x y = rw (lower-is n x, lower-is n y, lower-is (lowered n x) y, lower-is (lowered n y) x) (go (ltb x.from x.to) (ltb y.from y.to))
  where
    low : Bool → ℕ → ℕ → ℕ
    low b p m = when b then min p m else m

    go : (a b : Bool) → low b y.from (low a x.from n) ≡ low a x.from (low b y.from n)
    go true true = omega arith
    go true false = refl
    go false true = refl
    go false false = refl

-- a stretch may stand before others
sooner : (n : ℕ) (xs : List Stretch) (y : Stretch) (zs : List Stretch) → leftover.lowest n (xs ++ (y ∷ zs)) ≡ leftover.lowest (lower n y) (xs ++ zs)
unfolding leftover.lowest
sooner n [] y zs = refl
sooner n (x ∷ xs) y zs = sooner (lower n x) xs y zs ∙ ap (λ (m : ℕ). leftover.lowest m (xs ++ zs)) (lower-swap n x y)

abbrev stretches : List (ℕ × ℕ) → List Stretch
stretches xs = map (λ (x : ℕ × ℕ). stretch x.0 x.1) xs

lowest-same : (n : ℕ) (xs : List (ℕ × ℕ)) → leftover.lowest n (stretches xs) ≡ lowest n xs
unfolding lowest leftover.lowest
lowest-same n [] = refl
lowest-same n (x ∷ xs) =
    let y = stretch x.0 x.1 in
    ap (λ (m : ℕ). leftover.lowest m (stretches xs)) (lower-is n y) ∙ lowest-same (lowered n y) xs

-- ---- where reading stands

-- a course whose states are seen in another way ends so
ends-seen : {S T E A : Type 0} (view : T → S) (P : S → Type 0) (c : CourseTo T E A) → ((t : T) → Ends c t → P (view t)) → (s : S) → Ends (seen view c) s → P s
unfolding Ends seen
ends-seen view P (thing e p c) h s q = ends-seen view P c h s q
ends-seen view P (over a t) h s q = subst P q (h t refl)
ends-seen view P (stopped why) h s q = absurd q

module _ (form : ℕ) (u : List ℕ) where
  set-end : (t : Standing) (end : ℕ) → Ends (stands_of form u) t → Ends (delete_set form u t.at) end → set_end form u ≡ end
  unfolding set_end
  set-end t end h q =
      rw (← stands_at form u)
      (seen-ending (λ (s : Standing). s.at) (stands_of form u) _ _ ∙ ends-ending (stands_of form u) t h _ _ ∙ ends-ending (delete_set form u t.at) end q _ _)

  -- of its columns, form 1 has none; form 2 has its texts among them
  in-line : (n end : ℕ) → leftover.lowest (length u) (stretch end (length u) ∷ []) ≡ unread u (at_place n, end)
  unfolding unread leftover.lowest lower
  in-line n end = lowest-same (length u) ((end, length u) ∷ (0, 0) ∷ [])

  in-columns : (s : State) (end : ℕ) → leftover.lowest (length u) (stretch end (length u) ∷ columns_at s) ≡ unread u (at_state s, end)
  unfolding unread columns_at leftover.lowest
  in-columns s end =
      sooner (lower (length u) (stretch end (length u))) (take 5 (columns_at s)) (stretch s.text.place.at s.text.place.end) (drop 6 (columns_at s))
      ∙ lowest-same (length u) _

  columns-left : (t : Standing) → Ends (stands_of form u) t → (end : ℕ)
      → leftover.lowest (length u) (stretch end (length u) ∷ columns_left form u) ≡ unread u (t, end)
  unfolding stands_of columns_left
  columns-left = go (eqb form 1)
    where
      Left : List Stretch → Standing → Type 0
      Left xs t = (end : ℕ) → leftover.lowest (length u) (stretch end (length u) ∷ xs) ≡ unread u (t, end)

      go : (b : Bool) (t : Standing) → Ends (pick b (seen at_place (run (line 1 u) all_blocks 0)) (seen at_state (in_columns u))) t
          → Left (pick b [] (ending (in_columns u) columns_at (λ why. []))) t
      go true = ends-seen at_place (Left []) (run (line 1 u) all_blocks 0) (λ n _. in-line n)
      go false =
          ends-seen at_state (Left (ending (in_columns u) columns_at (λ why. []))) (in_columns u) (λ s h.
          rw (ends-ending (in_columns u) s h columns_at (λ why. [])) (in-columns s))

  pub unread-same : (t : Standing) (end : ℕ) → Ends (stands_of form u) t → Ends (delete_set form u t.at) end → lowest_left form u ≡ unread u (t, end)
  unfolding lowest_left unread_of
  unread-same t end h q = rw (set-end t end h q) (columns-left t h end)
