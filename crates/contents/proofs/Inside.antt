-- A block's stored part lies inside the update, whole: every block that is read is sound (readings), and `content` hands back its part or nothing.
use Rattle.std.specs.Prelude.{Result, Ok, Err}
use Rattle.text.specs.declared.Part.{Part}
use Prim.Native.Nat.{ℕ, zero, suc}
use mathlib.Core.Bool.{Bool, true, false}
use mathlib.Core.List.{List}
use native.Mathlib.Omega.{arith}
use lib.Dec.{ltb}
use lib.ListN.{length}
use Rattle.numbers.specs.declared.Refusal.{Refusal}
use Rattle.numbers.specs.Number.{pick}
use Rattle.numbers.specs.Limits.{max_update}
use Rattle.block.specs.declared.Block.{Block}
use Rattle.grammar.specs.Course.{Course, thing, over, stopped, things, ending}
use Rattle.decoder.specs.Update.{blocks_of, delete_set}
use Rattle.readings.specs.Sound.{All}
use Rattle.readings.specs.SoundInner.{Sound}
use Rattle.readings.proofs.Sounds.{blocks-sound}
use Rattle.content.specs.Content.{nth, stored, content_at, is_given}
use Rattle.contents.specs.declared.Where.{Where}
use Rattle.contents.specs.Promises.{refused_where, where_found, where_of}
use Rattle.contents.specs.PromisesInner.{In}

either : {A : Type 0} (P : A → Type 0) (b : Bool) (x y : A) → P x → P y → P (pick b x y)
either P true x y p q = p
either P false x y p q = q

module _ (u : List ℕ) where
  in_rows : (c : Course Block) → All (Sound u) (things c) → (n : ℕ) → In u (nth n c).part
  unfolding things nth
  in_rows (thing b p c) h zero = h.0.stored.lies
  in_rows (thing b p c) h (suc n) = in_rows c h.1 n
  in_rows (over x s) h zero = omega arith
  in_rows (over x s) h (suc n) = omega arith
  in_rows (stopped why) h zero = omega arith
  in_rows (stopped why) h (suc n) = omega arith

  -- ---- what is found

  abbrev pub FoundIn : Result Part Refusal → Type 0
  FoundIn (Ok p) = In u p
  FoundIn (Err why) = Unit {0}

  by_end : {A : Type 0} (c : Course A) (f : ℕ → Result Part Refusal) (g : Refusal → Result Part Refusal) → ((s : ℕ) → FoundIn (f s)) → ((why : Refusal) → FoundIn (g why)) → FoundIn (ending c f g)
  unfolding ending
  by_end (thing a p c) f g h k = by_end c f g h k
  by_end (over x s) f g h k = h s
  by_end (stopped why) f g h k = k why

  pub content-inside : (form n : ℕ) → FoundIn (content_at form u n)
  unfolding content_at stored
  content-inside form n =
      by_end (blocks_of form u) _ _
      (λ s. by_end (delete_set form u s) _ _ (λ t. either FoundIn (is_given (nth n (blocks_of form u)).kind) _ _ (in_rows (blocks_of form u) (blocks-sound form u) n) tt) (λ why. tt))
      (λ why. tt)

-- ---- what `content` hands back

abbrev WhereIn : List ℕ → Where → Type 0
WhereIn u w = In u w.part

pub where-inside : (form : ℕ) (u : List ℕ) (n : ℕ) → WhereIn u (where_of form u n)
unfolding where_of where_found refused_where
where-inside form u n =
    either (WhereIn u) (ltb form 1) _ _ (omega arith)
    (either (WhereIn u) (ltb 2 form) _ _ (omega arith)
    (either (WhereIn u) (ltb max_update (length u)) _ _ (omega arith) (go (content_at form u n) (content-inside u form n))))
  where
    go : (r : Result Part Refusal) → FoundIn u r → WhereIn u (where_found r)
    go (Ok p) h = h
    go (Err why) h = omega arith
