-- Beside Promises: what inner functions say and proofs need. No promise comes to it.
use Rattle.std.specs.Prelude.{ℕ, ◌+◌, ◌≤◌, List, length}
use Rattle.text.specs.declared.Part.{Part}

-- in the update
abbrev pub In : List ℕ → Part → Type 0
In u p = p.place + p.bytes.0 ≤ length u
