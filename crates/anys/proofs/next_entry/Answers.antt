-- `anys::next_entry` meets its contract: the key, and then the value by its tag.
use mathlib.Core.Path.{sym, ap, ◌∙◌}
use Rattle.anys.specs.declared.Next.TheVariants as next
use Rattle.anys.specs.Steps.{why_skipped, passing, value_in, behind, entry_at}
use Rattle.anys.proofs.Places.{holds_tag}
use Rattle.anys.proofs.next_entry.Goals as goal

pub returns-in_default : goal.returns-in_default
unfolding entry_at behind
returns-in_default c = let told = c.in_default.is in
    rw (← c.skip_key-k.ensures, told) (ap next.Refused (c.why_skipped.ensures ∙ ap why_skipped told))

pub open_level-requires : goal.open_level-requires
open_level-requires c = holds_tag c.args.update.now c.args.blame _ _ (sym c.read_head-h.ensures ∙ c.in-Holds.is)

pub returns-in-Holds : goal.returns-in-Holds
unfolding entry_at behind value_in
returns-in-Holds c = c.open_level.ensures ∙ rw (← c.skip_key-k.ensures, c.in-At.is, ← c.read_head-h.ensures, c.in-Holds.is)

pub returns-in-At-s : goal.returns-in-At-s
unfolding entry_at behind value_in passing
returns-in-At-s c = rw (← c.skip_key-k.ensures, c.in-At.is, ← c.read_head-h.ensures, c.in-Alone.is, c.in-At-s.is)

pub returns-in-Refused : goal.returns-in-Refused
unfolding entry_at behind value_in passing
returns-in-Refused c = rw (← c.skip_key-k.ensures, c.in-At.is, ← c.read_head-h.ensures, c.in-Alone.is, c.in-Refused.is)
