-- Beside Roles: what inner functions say and proofs need. No promise comes to it.
use Rattle.std.specs.Prelude.{ℕ, ◌-◌, Bool, true, ◌||◌, eqb}
use Rattle.numbers.specs.Number.{pick}
use Rattle.roles.specs.declared.Role.{Role}
use Rattle.roles.specs.declared.Role.TheVariants.{Ended}
use Rattle.roles.specs.declared.Plan.{Plan}
use Rattle.roles.specs.Roles.{code_of}

-- ---- how a plan goes on

abbrev pub ended : Role
ended = Ended

-- ---- what is told of a role

unfoldable pub is_over : Plan → Bool
is_over q = eqb (code_of q.role) 28

-- ---- from one block to the next

-- exactly 0 and exactly 10: a GC, a Skip
unfoldable pub is_bare : ℕ → Bool
is_bare i = eqb i 0 || eqb i 10

-- of a block that ended: it is no item of length 0
unfoldable pub is_kept : Plan → Bool
is_kept q = pick (eqb q.length 0) (is_bare q.info) true
