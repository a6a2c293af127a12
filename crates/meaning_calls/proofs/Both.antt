-- That an update that reads, and then a course, answer what is read of both.
use mathlib.Core.Path.{◌≡◌, refl, ap, ◌∙◌}
use mathlib.Core.List.{List}
use lib.Dec.{eqb}
use Rattle.numbers.specs.declared.Refusal.{Refusal}
use Rattle.numbers.specs.Number.{pick, nowhere}
use Rattle.grammar.specs.Course.{Course, things, ending}
use Rattle.updates.specs.Promises.{Reading}
use Rattle.meaning.specs.Alike.{collect}
use Rattle.meaning.proofs.Line as line
use Rattle.meaning.proofs.Ending.{ending-answer}
use Rattle.meaning_calls.specs.Reading.{both}

pub both-same : {E X : Type 0} (r : Reading) (c : Course E) (refuse : Refusal → X) (old new : List E → X) → ((es : List E) → old es ≡ new es)
    → pick (eqb r.refusal.number 0) (ending c (λ _. old (things c)) (λ why. refuse (nowhere why.number))) (refuse r.refusal)
    ≡ both r (collect (λ e. e) c) refuse new
unfolding both
both-same {X} r c refuse old new same =
    let unread : Refusal → X = λ why. refuse (nowhere why.number) in
    line.both (λ new old. old ≡ new) (eqb r.refusal.number 0)
    (ap (λ x. ending c (λ _. x) unread) (same (things c)) ∙ ending-answer (λ e. e) c new unread) refl
