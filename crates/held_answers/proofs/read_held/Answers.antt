-- `held_answers::read_held` meets its contract: as the delete set's reader says.
use mathlib.Core.Path.{sym, ◌∙◌}
use lib.ListN.{length}
use Rattle.held_answers.specs.AnswersInner.{words_given}
use Rattle.held_answers.proofs.Givens.{given_is, refused-is}
use Rattle.held_answers.proofs.read_held.Goals as goal

pub returns-in-Ok : goal.returns-in-Ok
unfolding words_given
returns-in-Ok c = let read = c in
    let a = read.args in
    (given_is a.held.now (length a.words.now) _ _ (sym c.in-Ok.is ∙ read.read_delete_set.ensures.0), read.read_delete_set.ensures.1)

pub returns-in-Err : goal.returns-in-Err
unfolding words_given
returns-in-Err c = let read = c in
    let a = read.args in
    (refused-is a.held.now (length a.words.now) c.in-Err.why (sym c.in-Err.is ∙ read.read_delete_set.ensures.0), read.read_delete_set.ensures.1)
