-- So far `stream::shown::is_zero` has held all to the zero that it made first.
use Rattle.std.proofs.Common.{◌≡◌, take}
use Rattle.std.specs.List.{list_all}
use Rattle.stream.proofs.shown.is_zero.Given as goal

abbrev pub invariant-loop-it : goal.invariant-loop-it
invariant-loop-it g l = l.all ≡ list_all (λ it. g.T.PartialEq.eq it l.zero) (take l.it-index l.lent)
