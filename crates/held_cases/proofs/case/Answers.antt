-- `held_cases::case` lends as much as was read. The array's length is by the lemma: counting its zeros one by one is more than the checker does.
use Rattle.std.proofs.Common.{sym, ℕ}
use Rattle.std.proofs.lemmas.List.{length-replicate}
use Rattle.held_cases.proofs.case.Goals as goal

pub slice_bounds-bytes-end : goal.slice_bounds-bytes-end
slice_bounds-bytes-end c = sym (length-replicate {0} {A = ℕ} 524288 0)
