-- Every allowed run can be carried on to an end: by the order that takes the highest client at each step, from where the run stands.
use Prim.Native.Nat.{ℕ}
use mathlib.Core.List.{List, [], ◌∷◌, ◌++◌}
use Rattle.sorting.specs.Steps.{System, State, start, step, after, Run, Ends}
use Rattle.sorting.specs.Rules.{system}
use Rattle.sorting.specs.Quick.{quick}
use Rattle.sorting.specs.Sorted.{steps, all_clients}
use Rattle.sorting.proofs.Quick.{quick-ends}
use Rattle.sorting.proofs.Clients.{clients-blocks}
use Rattle.demands.specs.Allowed.{CarriedOn}

module _ {A : Type 0} (S : System A) where
  -- a run and then a whole one is a whole one
  on-and-on : (s : State A) (cs ds : List ℕ) → Run S s cs → Ends S (after S s cs) ds → Ends S s (cs ++ ds)
  unfolding Run after
  on-and-on s [] ds r e = e
  on-and-on s (c ∷ cs) ds r e =
      let more = on-and-on (step S s c) cs ds r.1 e in
      record { run = (r.0, more.run); end = more.end }

pub carried_on : CarriedOn
unfolding system
carried_on A R bs κ cs r =
    let S = steps R bs in
    let ds = quick S (all_clients bs []) (after S (start κ) cs) in
    (ds, on-and-on S (start κ) cs ds r (quick-ends S (all_clients bs []) (clients-blocks bs []) (after S (start κ) cs)))
