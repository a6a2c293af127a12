-- `look` meets its contract: the form, the length, then what `find` finds.
use Rattle.numbers.specs.Limits.{max_update}
use Rattle.contents.specs.Promises.{where_found, where_of}
use borrow.Author.Tests.{lt-ltb, le-ltb}
use Rattle.contents.proofs.look.Goals as goal

pub returns-then-form-lt1 : goal.returns-then-form-lt1
unfolding where_of where_found
returns-then-form-lt1 c = rw (c.refused_where.ensures, lt-ltb _ 1 c.if-form-lt1.true)

pub returns-then-form-gt2 : goal.returns-then-form-gt2
unfolding where_of where_found
returns-then-form-gt2 c = rw (c.refused_where-then-form-gt2.ensures, le-ltb _ 1 c.if-form-lt1.false, lt-ltb 2 _ c.if-form-gt2.true)

pub returns-then-update-gt-MAX_UPDATE : goal.returns-then-update-gt-MAX_UPDATE
unfolding where_of where_found
returns-then-update-gt-MAX_UPDATE c = rw (c.refused_where-then-update-gt-MAX_UPDATE.ensures, le-ltb _ 1 c.if-form-lt1.false, le-ltb 2 _ c.if-form-gt2.false, lt-ltb max_update _ c.if-update-gt-MAX_UPDATE.true)

pub returns-in-Ok : goal.returns-in-Ok
unfolding where_of where_found
returns-in-Ok c = rw (le-ltb _ 1 c.if-form-lt1.false, le-ltb 2 _ c.if-form-gt2.false, le-ltb max_update _ c.if-update-gt-MAX_UPDATE.false, ← c.find.ensures, c.in-Ok.is)

pub returns-in-Err : goal.returns-in-Err
unfolding where_of where_found
returns-in-Err c = rw (c.refused_where-in-Err.ensures, le-ltb _ 1 c.if-form-lt1.false, le-ltb 2 _ c.if-form-gt2.false, le-ltb max_update _ c.if-update-gt-MAX_UPDATE.false, ← c.find.ensures, c.in-Err.is)
