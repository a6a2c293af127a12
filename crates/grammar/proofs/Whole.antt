-- The whole update, read, is its blocks read and then its delete ranges.
use mathlib.Core.Path.{◌≡◌, refl, ap, ap₂, ◌∙◌}
use Rattle.grammar.specs.Grammar.{Answer, Grammar, ask, emit, stop, done}
use Rattle.grammar.specs.Grammar.{◌>>=◌}
use Rattle.grammar.specs.Course.{Drawn, got, not, Reader, CourseTo, thing, over, stopped, on_drawn, run}
use Rattle.grammar.specs.Blocks.{all_blocks}
use Rattle.grammar.specs.Deletes.{all_ranges}
use Rattle.grammar.specs.Update.{Row, block, range, each, an_update}
use Rattle.grammar.proofs.Runs.{and_then, run_bind}

unfoldable pub each_kept : {S E F A : Type 0} → (E → F) → CourseTo S E A → CourseTo S F A
each_kept g (thing e p c) = thing (g e) p (each_kept g c)
each_kept g (over a s) = over a s
each_kept g (stopped why) = stopped why

pub run-each : {S E F A : Type 0} (r : Reader S) (g : E → F) (x : Grammar E A) (s : S) → run r (each g x) s ≡ each_kept g (run r x s)
unfolding run each each_kept on_drawn
run-each r g (ask f k) s = go (r f s) (λ a t. run-each r g (k a) t)
  where
    go : (d : Drawn _ (Answer f)) → ((a : Answer f) (t : _) → run r (each g (k a)) t ≡ each_kept g (run r (k a) t))
        → on_drawn d (λ a t. run r (each g (k a)) t) ≡ each_kept g (on_drawn d (λ a t. run r (k a) t))
    go (got a t) h = h a t
    go (not why) h = refl
run-each r g (emit e p x) s = ap (thing (g e) p) (run-each r g x s)
run-each r g (stop n p) s = refl
run-each r g (done a) s = refl

pub update-run : {S : Type 0} (r : Reader S) (s : S)
    → run r an_update s ≡ and_then (each_kept block (run r all_blocks s)) (λ x t. run r (each range all_ranges) t)
unfolding an_update
update-run r s = run_bind r (each block all_blocks) (λ x. each range all_ranges) s ∙ ap (λ (c : CourseTo _ Row (Unit {0})). and_then c (λ x t. run r (each range all_ranges) t)) (run-each r block all_blocks s)
