-- The diffs of one update against one vector, in two forms, are read again as the same ranges and the same records.
use Prim.Native.Nat.{ℕ, ◌≤◌}
use mathlib.Core.Path.{◌≡◌, sym, ap, subst, ◌∙◌}
use mathlib.Core.List.{List, [], ◌∷◌}
use lib.ListN.{length}
use Rattle.numbers.specs.Limits.{max_update}
use Rattle.block.specs.declared.Block.{Block}
use Rattle.updates.specs.Promises.{Reading, reading}
use Rattle.written.specs.Written.{Alike, AllAlike, sections_read}
use Rattle.kept.specs.KeptInner.{piece_count}
use Rattle.diffs.specs.Promises.{diff_of}
use Rattle.rereading.specs.Again.{kept_by, ReadAgain, Agree}
use Rattle.rereading.proofs.Done.{done}
use Rattle.rereading.proofs.Reread.{reread}

-- ---- what is like the same is like each other

module _ (d e u : List ℕ) where
  alike_both : (a b c : Block) → Alike d a u c → Alike e b u c → Alike d a e b
  alike_both a b c h k =
      record { same = h.same ∙ sym k.same; name = h.name ∙ sym k.name; key = h.key ∙ sym k.key; part = h.part ∙ sym k.part; mark = h.mark ∙ sym k.mark }

  all_both : (xs bs cs : List Block) → AllAlike d xs u cs → AllAlike e bs u cs → AllAlike d xs e bs
  unfolding AllAlike
  all_both [] [] cs h k = tt
  all_both [] (b ∷ bs) [] h k = absurd k
  all_both [] (b ∷ bs) (c ∷ cs) h k = absurd h
  all_both (a ∷ xs) [] [] h k = absurd h
  all_both (a ∷ xs) [] (c ∷ cs) h k = absurd k
  all_both (a ∷ xs) (b ∷ bs) [] h k = absurd h
  all_both (a ∷ xs) (b ∷ bs) (c ∷ cs) h k = (alike_both a b c h.0 k.0, all_both xs bs cs h.1 k.1)

-- ---- two diffs that are made, not longer than an update may be

-- this diff was made, and it can be read into these rows
abbrev pub Readable : ℕ → List ℕ → List ℕ → ℕ → ℕ → ℕ → ℕ → ℕ → ℕ → Type 0
Readable form u v to m n room m' n' =
    ((diff_of form u v to m n room).refusal.number ≡ 0)
    × (length (diff_of form u v to m n room).bytes ≤ max_update)
    × (piece_count (kept_by v (diff_of form u v to m n room).reading) ≤ m')
    × (length (diff_of form u v to m n room).reading.ranges ≤ n')

module _ (form : ℕ) (u v : List ℕ) (m n : ℕ) where
  again : (to room m' n' : ℕ) → Readable form u v to m n room m' n'
      → ReadAgain u v (diff_of form u v to m n room) (reading to (diff_of form u v to m n room).bytes m' n')
  again to room m' n' h = reread form u v to m n room h.0 h.1 m' n' h.2 h.3

  pub forms-agree : (to room m' n' : ℕ) → Readable form u v to m n room m' n' → (to' room' m'' n'' : ℕ) → Readable form u v to' m n room' m'' n''
      → Agree (diff_of form u v to m n room).bytes (diff_of form u v to' m n room').bytes
      (reading to (diff_of form u v to m n room).bytes m' n') (reading to' (diff_of form u v to' m n room').bytes m'' n'')
  forms-agree to room m' n' h to' room' m'' n'' k =
      let a = again to room m' n' h in
      let b = again to' room' m'' n'' k in
      let same = (done form u v to' m n room' k.0).source ∙ sym (done form u v to m n room h.0).source in
      record {
        refusal = a.refusal ∙ sym b.refusal;
        ranges = a.ranges ∙ sym (b.ranges ∙ ap (λ (r : Reading). r.ranges) same);
        blocks = all_both _ _ u _ _ (sections_read u (kept_by v (diff_of form u v to m n room).reading)) a.blocks
            (subst (λ (r : Reading). AllAlike (diff_of form u v to' m n room').bytes (reading to' (diff_of form u v to' m n room').bytes m'' n'').blocks u (sections_read u (kept_by v r)))
            same b.blocks);
      }
