-- What a block may wait for: an id, if it is there.
use Rattle.std.specs.Prelude.{Bool, false}
use Rattle.block.specs.declared.Id.{Id}
use Rattle.block.specs.Row.{no_id}
use Rattle.picker.specs.declared.stages.Dependency.{Dependency}

abbrev pub dep : Bool → Id → Dependency
dep there d = record { there = there; id = d }

abbrev pub no_dependency : Dependency
no_dependency = dep false no_id
