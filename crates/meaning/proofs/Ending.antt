-- A course that is asked for its things and its end, and the answer that collects them.
use mathlib.Core.Path.{◌≡◌, refl, ◌∙◌}
use mathlib.Core.List.{List, ◌∷◌}
use Rattle.numbers.specs.declared.Refusal.{Refusal}
use Rattle.grammar.specs.Course.{CourseTo, thing, over, stopped, things, ending}
use Rattle.meaning.specs.Reads.{Got, got, refused, on}
use Rattle.meaning.specs.Reads.{comes_to}
use Rattle.meaning.specs.Alike.{collect}

-- an answer to what was got elsewhere, and is seen as got here
pub on-answer : {S T A B X : Type 0} (g : Got S A) (value : A → S → B) (place : A → S → T) (read : B → T → X) (refuse : Refusal → X)
    → comes_to (λ a s. read (value a s) (place a s)) refuse g ≡ comes_to read refuse (on g (λ a s. got (value a s) (place a s)))
unfolding comes_to on
on-answer (got a s) value place read refuse = refl
on-answer (refused n p) value place read refuse = refl

pub ending-answer : {S T E A X : Type 0} (view : T → S) (c : CourseTo T E A) (go : List E → X) (refuse : Refusal → X)
    → ending c (λ _. go (things c)) refuse ≡ comes_to (λ es _. go es) refuse (collect view c)
unfolding ending things comes_to collect
ending-answer view (thing e p c) go refuse =
    ending-answer view c (λ es. go (e ∷ es)) refuse ∙ on-answer (collect view c) (λ es _. e ∷ es) (λ _ s. s) (λ es _. go es) refuse
ending-answer view (over a t) go refuse = refl
ending-answer view (stopped why) go refuse = refl
